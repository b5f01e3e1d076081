-- What an image at rest names is what it is at rest with.
use Rattle.std.proofs.Common.{◌≡◌, ℕ, List, [], ◌∷◌, ◌++◌, refl, sym, ◌∙◌, ap, subst, append_assoc}
use Rattle.pcm_media.specs.Images.{Content}
use Rattle.pcm_media.proofs.Left.{left_as_read}
use Rattle.array_shape.specs.declared.shape.Shape.{Shape}
use Rattle.array_shape.specs.Logged.{Part, applied}
use Rattle.row_bytes.specs.declared.ballot.Ballot.{Ballot}
use Rattle.array_image.specs.Image.{data_of}
use Rattle.array_image.proofs.Applied.{applied-append}
use Rattle.commit_queue.specs.Queue.{Commit, Each, IsWritten, queue_parts}
use Rattle.commit_queue.specs.Between.{IsAtRest, Rests}
use Rattle.coordinator.specs.declared.cells.Cells.{Cells}
use Rattle.coordinator.specs.Commits.{commit_of, commit_with, parts_named}
use Rattle.write_back.specs.Waiting.{commits_of}

-- the queue and the data without it, as an image at rest has them
abbrev pub RestsWith : Shape → List Cells → List Ballot → Content → Type 0
RestsWith shape cells bs now = IsAtRest shape (commits_of shape now.bytes cells bs) (data_of shape now.bytes) now

-- the data with it
abbrev pub data_in : Shape → List Cells → List Ballot → List ℕ → List ℕ
data_in shape cells bs image = applied (queue_parts (commits_of shape image cells bs)) (data_of shape image)

module _ (shape : Shape) (cells : List Cells) where
  named_again : (image now : List ℕ) (bs : List Ballot) → Each (IsWritten shape now) (commits_of shape image cells bs) → commits_of shape now cells bs ≡ commits_of shape image cells bs
  named_again image now [] written = refl
  named_again image now (b ∷ bs) written = (λ i. commit_with b cells (written.0.parts_are i) ∷ named_again image now bs written.1 i)

  module _ (image : List ℕ) (bs : List Ballot) (bytes : List ℕ) (now : Content) (rest : IsAtRest shape (commits_of shape image cells bs) bytes now) where
    first : Rests shape (commits_of shape image cells bs) bytes now.bytes
    first = rest now.bytes (left_as_read now)

    pub same_commits : commits_of shape now.bytes cells bs ≡ commits_of shape image cells bs
    same_commits = named_again image now.bytes bs first.holds.queued.written

    pub same_data : data_of shape now.bytes ≡ bytes
    same_data = first.holds.queued.holds

    pub rests_again : RestsWith shape cells bs now
    rests_again = (subst (λ (p : List Commit × List ℕ). IsAtRest shape p.0 p.1 now) (λ i. (sym same_commits i, sym same_data i)) rest)

    pub stands_again : data_in shape cells bs now.bytes ≡ applied (queue_parts (commits_of shape image cells bs)) bytes
    stands_again = (λ i. applied (queue_parts (same_commits i)) (same_data i))

-- the oldest alone, and the rest
pub parts_first : (shape : Shape) (cells : List Cells) (image : List ℕ) (b : Ballot) (bs : List Ballot) → data_in shape cells (b ∷ bs) image ≡ applied (queue_parts (commits_of shape image cells bs)) (applied (parts_named shape image b cells) (data_of shape image))
parts_first shape cells image b bs = applied-append (parts_named shape image b cells) (queue_parts (commits_of shape image cells bs)) (data_of shape image)

pub queue_parts-append : (q r : List Commit) → queue_parts (q ++ r) ≡ queue_parts q ++ queue_parts r
queue_parts-append [] r = refl
queue_parts-append (c ∷ q) r = ap (λ (ps : List Part). c.parts ++ ps) (queue_parts-append q r) ∙ sym (append_assoc c.parts (queue_parts q) (queue_parts r))

pub commits-append : (shape : Shape) (cells : List Cells) (image : List ℕ) (bs cs : List Ballot) → commits_of shape image cells (bs ++ cs) ≡ commits_of shape image cells bs ++ commits_of shape image cells cs
commits-append shape cells image [] cs = refl
commits-append shape cells image (b ∷ bs) cs = ap (λ (q : List Commit). commit_of shape image b cells ∷ q) (commits-append shape cells image bs cs)
