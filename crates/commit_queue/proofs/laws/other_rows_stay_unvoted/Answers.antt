use Rattle.std.proofs.Common.{[]}
use Rattle.commit_queue.proofs.Between.{free_quiet, joined_quiet, left_quiet, data_quiet}
use Rattle.commit_queue.proofs.laws.other_rows_stay_unvoted.Goals as goal

pub returns-clause-joined : goal.returns-clause-joined
returns-clause-joined c queue newest old new quiet same = joined_quiet c.args.shape.now queue newest old new quiet same

pub returns-clause-parts : goal.returns-clause-parts
returns-clause-parts c queue ps old new placed quiet same = data_quiet c.args.shape.now queue old new ps placed quiet same

pub returns-clause-left : goal.returns-clause-left
returns-clause-left c queue oldest old new quiet same unvoted = left_quiet c.args.shape.now queue oldest old new quiet same unvoted

pub returns-clause-free : goal.returns-clause-free
returns-clause-free c queue test ranges old new free same quiet = free_quiet c.args.shape.now queue [] test ranges free old new same quiet
