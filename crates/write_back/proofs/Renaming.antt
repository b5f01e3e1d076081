-- Cells that are named for a number that does not wait.
use Rattle.std.proofs.Common.{◌≡◌, ℕ, ◌<◌, true, false, List, [], ◌∷◌, refl, sym, ◌∙◌, ap}
use Rattle.std.proofs.lemmas.Bool.{and_parts, false≢true}
use Rattle.std.proofs.lemmas.List.Elements.{All-head, All-tail}
use Rattle.pcm_media.specs.Images.{Content}
use Rattle.array_shape.specs.declared.shape.Shape.{Shape}
use Rattle.array_shape.specs.Logged.{Part, applied}
use Rattle.row_bytes.specs.declared.ballot.Ballot.{Ballot}
use Rattle.array_shape.specs.NumberSet.{has}
use Rattle.row_bytes.specs.Ballots.{has_row}
use Rattle.array_image.specs.Image.{data_of}
use Rattle.commit_queue.specs.Queue.{AreAlike, SaysTheSame}
use Rattle.commit_queue.proofs.Alike.{named_alike, parts_alike, rests_alike}
use Rattle.coordinator.specs.declared.cells.Cells.{Cells}
use Rattle.coordinator.specs.Commits.{cells_in, commit_with, parts_named}
use Rattle.write_back.specs.Orders.{IsFree}
use Rattle.write_back.specs.Waiting.{commits_of}
use Rattle.write_back.proofs.Waiting.{RestsWith, data_in}

module _ (shape : Shape) (cells cells' : List Cells) (tid : ℕ) (others : (g t : ℕ) → g < shape.loggers → t < shape.numbers → (t ≡ tid → ⊥) → cells_in cells' g t ≡ cells_in cells g t) where
  one_alike : (image : List ℕ) (b : Ballot) → has b.group tid ≡ false → SaysTheSame shape (commit_with b cells (parts_named shape image b cells)) (commit_with b cells' (parts_named shape image b cells'))
  one_alike image b away = record {
    ballot_is = refl;
    first_is = λ g t lt lt' on. ap (λ (k : Cells). k.first) (others g t lt lt' (other g t on));
    count_is = λ g t lt lt' on. ap (λ (k : Cells). k.count) (others g t lt lt' (other g t on));
    parts_are = named_alike shape image (commit_with b cells []) (commit_with b cells' []) (record {
      ballot_is = refl;
      first_is = λ g t lt lt' on. ap (λ (k : Cells). k.first) (others g t lt lt' (other g t on));
      count_is = λ g t lt lt' on. ap (λ (k : Cells). k.count) (others g t lt lt' (other g t on));
      parts_are = refl;
    });
  }
    where
      other : (g t : ℕ) → has_row b g t ≡ true → t ≡ tid → ⊥
      other g t on is = false≢true (sym away ∙ ap (has b.group) (sym is) ∙ (and_parts (has b.mask g) (has b.group t) on).1)

  alike : (image : List ℕ) (bs : List Ballot) → IsFree tid bs → AreAlike shape (commits_of shape image cells bs) (commits_of shape image cells' bs)
  alike image [] free = tt
  alike image (b ∷ bs) free = (one_alike image b (All-head (λ (k : Ballot). has k.group tid ≡ false) b bs free), alike image bs (All-tail (λ (k : Ballot). has k.group tid ≡ false) b bs free))

  pub renamed_rests : (bs : List Ballot) → IsFree tid bs → (now : Content) → RestsWith shape cells bs now → RestsWith shape cells' bs now
  renamed_rests bs free now rest image left = rests_alike shape image (commits_of shape now.bytes cells bs) (commits_of shape now.bytes cells' bs) (data_of shape now.bytes) (alike now.bytes bs free) (rest image left)

  pub renamed_data : (bs : List Ballot) → IsFree tid bs → (image : List ℕ) → data_in shape cells' bs image ≡ data_in shape cells bs image
  renamed_data bs free image = ap (λ (ps : List Part). applied ps (data_of shape image)) (parts_alike shape (commits_of shape image cells bs) (commits_of shape image cells' bs) (alike image bs free))
