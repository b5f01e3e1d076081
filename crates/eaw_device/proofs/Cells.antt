-- Writes into cells alone, of which no commit that waits has one: they wait before and after, and the data stays.
use Rattle.std.proofs.Common.{◌≡◌, ℕ, ◌+◌, ◌<◌, ◌≤◌, false, List, [], ◌∷◌, length, refl, sym, subst, arith}
use Rattle.std.proofs.lemmas.Bool.{false≢true}
use Rattle.pcm_media.specs.Images.{Content, MayLeave, IsOutside, Touched, partly}
use Rattle.array_shape.specs.declared.shape.Shape.{Shape}
use Rattle.array_shape.specs.Places.{cell_at, row_at, place_of, data_len, media_len}
use Rattle.array_image.specs.Image.{data_of, row_of}
use Rattle.array_image.specs.Standing.{StandsFor}
use Rattle.array_image.proofs.Places.{row_no_cell, cell_no_data}
use Rattle.array_image.proofs.Deciding.{not_decided}
use Rattle.array_image.proofs.Frames.{AllWithin}
use Rattle.commit_queue.specs.Between.{AreFree, IsAtRest}
use Rattle.commit_queue.proofs.Between.{holds_stands}
use Rattle.commit_queue.proofs.Resting.{free_rests, free_at_rest, rest_by_bytes}
use Rattle.row_bytes.specs.declared.ballot.Ballot.{Ballot}
use Rattle.commit_queue.specs.Queue.{Commit, Each, NamesCell}
use Rattle.coordinator.specs.declared.cells.Cells.{Cells}
use Rattle.write_back.specs.declared.queue.LateCommits.{LateCommits}
use Rattle.write_back.specs.Waiting.{AreWaiting, commits_of, data_with, queue_of}
use Rattle.write_back.proofs.Waiting.{rests_again, stands_again}
use Rattle.write_back.specs.Spared.{AreSpared}
use Rattle.eaw_device.specs.Sound.{IsClean}

-- a place that no cell has is outside the ranges
abbrev pub AreInCells : Shape → List (ℕ × ℕ) → Type 0
AreInCells shape ranges = (x : ℕ) → ((g t e : ℕ) → g < shape.loggers → t < shape.numbers → e < shape.entries → cell_at shape g t e ≤ x → x < cell_at shape g t e + 528 → ⊥) → IsOutside ranges x

-- no range at all
pub none_spared : (shape : Shape) (cells : List Cells) (bs : List Ballot) → AreSpared shape cells [] bs
none_spared shape cells [] = tt
none_spared shape cells (b ∷ bs) = ((λ g t e i lt lt' lt'' row from below from' below'. tt), none_spared shape cells bs)

module _ (shape : Shape) (ranges : List (ℕ × ℕ)) (in_cells : AreInCells shape ranges) (queue : LateCommits) (spared : AreSpared shape queue.cells ranges queue.ballots.items) where
  in_row : (g t i : ℕ) → t < shape.numbers → row_at shape g t ≤ i → i < row_at shape g t + 16 → IsOutside ranges i
  in_row g t i lt from below = in_cells i (λ h u e lt' below' below'' from' to. row_no_cell shape g h t u e i lt below' below'' from below from' to)

  in_data : (addr : ℕ) → addr < data_len shape → IsOutside ranges (place_of shape addr)
  in_data addr lt = in_cells (place_of shape addr) (λ g t e lt' below below' from to. cell_no_data shape g t e addr (place_of shape addr) below below' lt from to refl)

  named_free : (image : List ℕ) (bs : List Ballot) → AreSpared shape queue.cells ranges bs
      → Each (λ (c : Commit). (g t e i : ℕ) → g < shape.loggers → t < shape.numbers → e < shape.entries → NamesCell c g t e → cell_at shape g t e ≤ i → i < cell_at shape g t e + 528 → IsOutside ranges i) (commits_of shape image queue.cells bs)
  named_free image [] spared' = tt
  named_free image (b ∷ bs) spared' = ((λ g t e i lt lt' lt'' names from to. spared'.0 g t e i lt lt' lt'' names.row names.from names.below from to), named_free image bs spared'.1)

  free : (image : List ℕ) → AreFree shape (queue_of shape image queue) (λ g t. false) ranges
  free image = record {
    votes = λ g t lt below. in_row g t (row_at shape g t) below (omega arith) (omega arith);
    data_free = in_data;
    rows = λ g t i lt below off from to. in_row g t i below from to;
    cells = named_free image queue.ballots.items spared;
  }

  module _ (old : Content) (within : AllWithin (length old.bytes) ranges) (waiting : AreWaiting shape queue old) where
    -- while cells are written
    pub staging_left : (image : List ℕ) → MayLeave (partly ranges old) image → StandsFor shape image (data_with shape queue old.bytes)
    staging_left image left =
        holds_stands shape (queue_of shape old.bytes queue) (data_of shape old.bytes) image
        (free_rests shape (queue_of shape old.bytes queue) (data_of shape old.bytes) (λ g t. false) ranges (free old.bytes) old within waiting (λ image' left' g t lt below so. absurd (false≢true so)) image left).holds

    -- and after that
    after_staging : (new : Content) → Touched ranges old new → IsAtRest shape (queue_of shape old.bytes queue) (data_of shape old.bytes) new
    after_staging new touched = free_at_rest shape (queue_of shape old.bytes queue) (data_of shape old.bytes) (λ g t. false) ranges (free old.bytes) old within waiting (λ image' left' g t lt below so. absurd (false≢true so)) new touched

    pub staging_waits : (new : Content) → Touched ranges old new → AreWaiting shape queue new
    staging_waits new touched = rests_again shape queue.cells old.bytes queue.ballots.items _ new (after_staging new touched)

    pub staged_data : (new : Content) → Touched ranges old new → data_with shape queue new.bytes ≡ data_with shape queue old.bytes
    staged_data new touched = stands_again shape queue.cells old.bytes queue.ballots.items _ new (after_staging new touched)

-- an array of which all is settled, and no row is voted
pub unvoted_clean : (shape : Shape) (content : Content) → length content.bytes ≡ media_len shape → content.unsettled ≡ [] → ((g t : ℕ) → g < shape.loggers → t < shape.numbers → (row_of shape content.bytes g t).voted ≡ false) → IsClean shape content
unvoted_clean shape content long settled none =
    rest_by_bytes shape [] (data_of shape content.bytes) content (λ i. subst (λ (us : List (ℕ × ℕ)). IsOutside us i) (sym settled) tt) (record {
      holds = record {
        queued = record {
          long = long;
          rise = tt;
          written = tt;
          others = λ g t lt lt' away. not_decided shape.loggers shape.numbers (row_of shape content.bytes) g t lt lt' (none g t lt lt');
          holds = refl;
        };
        voted = tt;
      };
      quiet = λ g t lt lt' away. none g t lt lt';
    })
