use Rattle.std.proofs.Common.{ℕ, List, false, length}
use Rattle.std.proofs.lemmas.Bool.{false≢true}
use Rattle.pcm_media.specs.Images.{Content, Touched}
use Rattle.array_shape.specs.declared.shape.Shape.{Shape}
use Rattle.array_image.specs.Image.{data_of}
use Rattle.array_image.proofs.Frames.{AllWithin}
use Rattle.commit_queue.specs.Between.{AreFree, IsAtRest}
use Rattle.commit_queue.proofs.Between.{holds_stands}
use Rattle.commit_queue.proofs.Resting.{free_rests, free_at_rest}
use Rattle.write_back.specs.declared.queue.LateCommits.{LateCommits}
use Rattle.write_back.specs.Waiting.{AreWaiting, queue_of}
use Rattle.write_back.proofs.Waiting.{rests_again, stands_again}
use Rattle.write_back.proofs.laws.cells_keep_waiting.Goals as goal

kept : (shape : Shape) (late : LateCommits) (ranges : List (ℕ × ℕ)) (old new : Content) → AreFree shape (queue_of shape old.bytes late) (λ g t. false) ranges → AllWithin (length old.bytes) ranges → AreWaiting shape late old → Touched ranges old new
    → IsAtRest shape (queue_of shape old.bytes late) (data_of shape old.bytes) new
kept shape late ranges old new free within waiting touched =
    free_at_rest shape (queue_of shape old.bytes late) (data_of shape old.bytes) (λ g t. false) ranges free old within waiting (λ image left g t lt lt' so. absurd (false≢true so)) new touched

pub returns-clause-during : goal.returns-clause-during
returns-clause-during c late ranges old image free within waiting left =
    let shape = c.args.shape.now in
    holds_stands shape (queue_of shape old.bytes late) (data_of shape old.bytes) image
    (free_rests shape (queue_of shape old.bytes late) (data_of shape old.bytes) (λ g t. false) ranges free old within waiting (λ image' left' g t lt lt' so. absurd (false≢true so)) image left).holds

pub returns-clause-after : goal.returns-clause-after
returns-clause-after c late ranges old new free within waiting touched = rests_again c.args.shape.now late.cells old.bytes late.ballots.items _ new (kept c.args.shape.now late ranges old new free within waiting touched)

pub returns-clause-same : goal.returns-clause-same
returns-clause-same c late ranges old new free within waiting touched = stands_again c.args.shape.now late.cells old.bytes late.ballots.items _ new (kept c.args.shape.now late ranges old new free within waiting touched)
