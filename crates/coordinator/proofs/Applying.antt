-- The parts of one row after another are written into the data.
use Rattle.std.proofs.Common.{◌≡◌, ℕ, ◌+◌, ◌<◌, ⊎_elim, Bool, true, false, cond, List, [], length, sym, ◌∙◌, ap, subst, arith}
use Rattle.std.specs.Int.{bit_at}
use Rattle.std.proofs.lemmas.Bool.{and_left, cases_Bool, ne_eqb}
use Rattle.std.proofs.lemmas.Nat.Bits.{bit_at-zero}
use Rattle.pcm_media.specs.Images.{SameOutside, IsOutside}
use Rattle.array_shape.specs.declared.shape.Shape.{Shape}
use Rattle.array_shape.specs.Places.{media_len}
use Rattle.array_shape.specs.Logged.{Part, applied, AllOwned, AllPlaced, places_of}
use Rattle.row_bytes.specs.declared.ballot.Ballot.{Ballot}
use Rattle.array_shape.specs.NumberSet.{has}
use Rattle.row_bytes.specs.Ballots.{has_row}
use Rattle.array_image.specs.Image.{data_of, parts_from, IsGoodCell}
use Rattle.array_image.specs.Joined.{joined}
use Rattle.array_image.specs.Standing.{SameCells}
use Rattle.array_image.proofs.Data.{all_placed, applied_more, joined_placed, outside_list}
use Rattle.array_image.proofs.Frames.{data_cells}
use Rattle.array_image.proofs.Joined.{joined_none, joined_same}
use Rattle.array_image.proofs.Rows.{parts_owned, parts_same}
use Rattle.commit_queue.specs.Queue.{named_at}
use Rattle.coordinator.specs.declared.cells.Cells.{Cells}
use Rattle.coordinator.specs.Commits.{AreGood, AreThere, cells_in, commit_with, number_parts, parts_named}

module _ (shape : Shape) (ballot : Ballot) (cells : List Cells) (there : AreThere shape ballot cells) where
  -- the parts of one row, by logger
  abbrev pub named : List ℕ → ℕ → ℕ → List Part
  named image t g = named_at shape image (commit_with ballot cells []) t g

  abbrev cells_at : List ℕ → ℕ → ℕ → List Part
  cells_at image t g = parts_from shape image g t (cells_in cells g t).first (cells_in cells g t).count

  pub named_is : (image : List ℕ) (t g : ℕ) → has_row ballot g t ≡ true → named image t g ≡ cells_at image t g
  named_is image t g has = ap (λ (b : Bool). cond b (cells_at image t g) []) has

  pub named_none : (image : List ℕ) (t g : ℕ) → has_row ballot g t ≡ false → named image t g ≡ []
  named_none image t g lacks = ap (λ (b : Bool). cond b (cells_at image t g) []) lacks

  -- cells that are the same hold the same parts, and are as good
  pub named_same : (old new : List ℕ) → SameCells shape old new → (g t : ℕ) → g < shape.loggers → t < shape.numbers → named new t g ≡ named old t g
  named_same old new same g t lt lt' = ⊎_elim
      (λ has.
      named_is new t g has
      ∙ parts_same shape old new g t (cells_in cells g t).first (cells_in cells g t).count (λ k from below. same g t k lt lt' (omega (arith, there.fit g t lt lt' has)))
      ∙ sym (named_is old t g has))
      (λ lacks. named_none new t g lacks ∙ sym (named_none old t g lacks))
      (cases_Bool (has_row ballot g t))

  pub good_same : (old new : List ℕ) → SameCells shape old new → AreGood shape old ballot cells → AreGood shape new ballot cells
  good_same old new same good g t e lt lt' has from below = subst (IsGoodCell shape g) (sym (same g t e lt lt' (omega (arith, there.fit g t lt lt' has)))) (good g t e lt lt' has from below)

  pub number_same : (old new : List ℕ) → SameCells shape old new → (t : ℕ) → t < shape.numbers → number_parts shape new ballot cells t ≡ number_parts shape old ballot cells t
  number_same old new same t lt' = joined_same (named new t) (named old t) 0 shape.loggers (λ g le lt. named_same old new same g t (omega arith) lt')

  pub all_same : (old new : List ℕ) → SameCells shape old new → parts_named shape new ballot cells ≡ parts_named shape old ballot cells
  all_same old new same = joined_same (number_parts shape new ballot cells) (number_parts shape old ballot cells) 0 shape.numbers (λ t le lt'. number_same old new same t (omega arith))

  -- no logger takes part
  pub none_named : ballot.mask ≡ 0 → (image : List ℕ) → parts_named shape image ballot cells ≡ []
  none_named empty image = joined_none (number_parts shape image ballot cells) 0 shape.numbers (λ t le' lt'. joined_none (named image t) 0 shape.loggers (λ g le lt. named_none image t g
      (and_left (has ballot.mask g) (has ballot.group t) (ne_eqb (bit_at ballot.mask g) 1 (λ one. omega (arith, ap (λ (m : ℕ). bit_at m g) empty, bit_at-zero g, one))))))

  module _ (base : List ℕ) (long : length base ≡ media_len shape) (good : AreGood shape base ballot cells) where
    named_owned : (g t : ℕ) → g < shape.loggers → t < shape.numbers → AllOwned shape g (named base t g)
    named_owned g t lt lt' = ⊎_elim
        (λ has. subst (AllOwned shape g) (sym (named_is base t g has)) (parts_owned shape base g t (cells_in cells g t).first (cells_in cells g t).count long lt lt' (there.fit g t lt lt' has) (λ e from below. good g t e lt lt' has from below)))
        (λ lacks. subst (AllOwned shape g) (sym (named_none base t g lacks)) tt)
        (cases_Bool (has_row ballot g t))

    pub number_placed : (t : ℕ) → t < shape.numbers → AllPlaced shape (number_parts shape base ballot cells t)
    number_placed t lt' = joined_placed shape (named base t) 0 shape.loggers (λ g le lt. all_placed shape g (named base t g) (named_owned g t (omega arith) lt'))

    pub parts_placed : AllPlaced shape (parts_named shape base ballot cells)
    parts_placed = joined_placed shape (number_parts shape base ballot cells) 0 shape.numbers (λ t le lt'. number_placed t (omega arith))

    -- while those of one number are written
    module _ (t : ℕ) (small : t < shape.numbers) (cur : List ℕ) (same : SameOutside (places_of shape (number_parts shape base ballot cells t)) base cur) where
      pub row_cells : SameCells shape base cur
      row_cells = data_cells shape (number_parts shape base ballot cells t) (number_placed t small) base cur same

      module _ (g : ℕ) (lt : g < shape.loggers) where
        pub row_skipped : has_row ballot g t ≡ false → data_of shape cur ≡ applied (joined (named base t) 0 g) (data_of shape base) → data_of shape cur ≡ applied (joined (named base t) 0 (g + 1)) (data_of shape base)
        row_skipped lacks before = applied_more (named base t) g (data_of shape base) (data_of shape cur) (data_of shape cur) before (ap (λ (l : List Part). applied l (data_of shape cur)) (sym (named_none base t g lacks)))

        module _ (has : has_row ballot g t ≡ true) where
          row_parts : cells_at cur t g ≡ named base t g
          row_parts = sym (named_is cur t g has) ∙ named_same base cur row_cells g t lt small

          pub row_within : (i : ℕ) → IsOutside (places_of shape (number_parts shape base ballot cells t)) i → IsOutside (places_of shape (cells_at cur t g)) i
          row_within i out = subst (λ l. IsOutside (places_of shape l) i) (sym row_parts) (outside_list shape (named base t) i 0 shape.loggers out g (omega arith) (omega arith))

          pub row_applied : (new : List ℕ) → data_of shape cur ≡ applied (joined (named base t) 0 g) (data_of shape base) → data_of shape new ≡ applied (cells_at cur t g) (data_of shape cur)
              → data_of shape new ≡ applied (joined (named base t) 0 (g + 1)) (data_of shape base)
          row_applied new before now = applied_more (named base t) g (data_of shape base) (data_of shape cur) (data_of shape new) before (now ∙ ap (λ (l : List Part). applied l (data_of shape cur)) row_parts)

    -- while those of all numbers are written
    module _ (cur : List ℕ) (same : SameOutside (places_of shape (parts_named shape base ballot cells)) base cur) where
      pub all_cells : SameCells shape base cur
      all_cells = data_cells shape (parts_named shape base ballot cells) parts_placed base cur same

      module _ (t : ℕ) (lt' : t < shape.numbers) where
        pub number_within : (i : ℕ) → IsOutside (places_of shape (parts_named shape base ballot cells)) i → IsOutside (places_of shape (number_parts shape cur ballot cells t)) i
        number_within i out = subst (λ l. IsOutside (places_of shape l) i) (sym (number_same base cur all_cells t lt')) (outside_list shape (number_parts shape base ballot cells) i 0 shape.numbers out t (omega arith) (omega arith))

        pub number_applied : (new : List ℕ) → data_of shape cur ≡ applied (joined (number_parts shape base ballot cells) 0 t) (data_of shape base) → data_of shape new ≡ applied (number_parts shape cur ballot cells t) (data_of shape cur)
            → data_of shape new ≡ applied (joined (number_parts shape base ballot cells) 0 (t + 1)) (data_of shape base)
        number_applied new before now = applied_more (number_parts shape base ballot cells) t (data_of shape base) (data_of shape cur) (data_of shape new) before (now ∙ ap (λ (l : List Part). applied l (data_of shape cur)) (number_same base cur all_cells t lt'))
