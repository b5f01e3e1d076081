use Rattle.std.proofs.Common.{false}
use Rattle.std.proofs.lemmas.Bool.{false≢true}
use Rattle.commit_queue.proofs.Resting.{free_rests, free_at_rest}
use Rattle.commit_queue.proofs.laws.cells_change_nothing.Goals as goal

pub returns-clause-during : goal.returns-clause-during
returns-clause-during c queue bytes ranges old image free within rest left = free_rests c.args.shape.now queue bytes (λ g t. false) ranges free old within rest (λ image' left' g t lt lt' so. absurd (false≢true so)) image left

pub returns-clause-after : goal.returns-clause-after
returns-clause-after c queue bytes ranges old new free within rest touched = free_at_rest c.args.shape.now queue bytes (λ g t. false) ranges free old within rest (λ image' left' g t lt lt' so. absurd (false≢true so)) new touched
