use Rattle.std.proofs.Common.{refl}
use Rattle.taped_records.proofs.records.TapedRecords.seek.Goals as goal

pub returns-clause-some : goal.returns-clause-some
returns-clause-some c = record { inside = c.if-caller-self.false; does = c.first-answer.ensures.reads refl; rows = refl; callers = refl }
