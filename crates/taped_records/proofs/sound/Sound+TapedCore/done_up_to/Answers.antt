use Rattle.taped_records.proofs.sound.Sound+TapedCore.done_up_to.Goals as goal

pub returns-clause-safe : goal.returns-clause-safe
returns-clause-safe c = rw (← c.self.view_is) c.done_up_to.ensures.safe
