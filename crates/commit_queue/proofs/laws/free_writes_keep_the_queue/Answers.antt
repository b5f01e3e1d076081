use Rattle.commit_queue.proofs.Between.{free_left, free_after, cell_free, bodies_free, rows_after}
use Rattle.commit_queue.proofs.laws.free_writes_keep_the_queue.Goals as goal

pub returns-clause-during : goal.returns-clause-during
returns-clause-during c queue bytes test ranges old image free within held unvoted left = free_left c.args.shape.now queue bytes test ranges free old image within held unvoted left

pub returns-clause-after : goal.returns-clause-after
returns-clause-after c queue bytes test ranges old new free within held unvoted touched = free_after c.args.shape.now queue bytes test ranges free old new within held unvoted touched

pub returns-clause-joining : goal.returns-clause-joining
returns-clause-joining c queue newest bytes now held none written later small = rows_after c.args.shape.now queue newest bytes now held none written later small

pub returns-clause-cells : goal.returns-clause-cells
returns-clause-cells c queue g t e from n lt lt' lt'' none fits = cell_free c.args.shape.now queue g t e from n lt lt' lt'' none fits

pub returns-clause-rows : goal.returns-clause-rows
returns-clause-rows c queue test = bodies_free c.args.shape.now queue test
