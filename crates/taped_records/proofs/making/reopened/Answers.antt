use Rattle.taped_records.proofs.making.reopened.Goals as goal

pub returns-in-Ok-new-clause-begins : goal.returns-in-Ok-new-clause-begins
returns-in-Ok-new-clause-begins c = rw c.in-Ok-new.ensures.ok (rw c.new.ensures.core c.in-Ok.ensures.opened)

pub returns-in-Ok-new-clause-keeps : goal.returns-in-Ok-new-clause-keeps
returns-in-Ok-new-clause-keeps c = rw c.in-Ok-new.ensures.ok (rw c.new.ensures.core c.in-Ok.ensures.time)

pub returns-in-Ok-new-clause-device : goal.returns-in-Ok-new-clause-device
returns-in-Ok-new-clause-device c = rw c.in-Ok-new.ensures.ok (rw c.new.ensures.core c.in-Ok.ensures.device)
