-- The moments of recovery, from any lawful image.
use Rattle.std.proofs.Common.{◌≡◌, ℕ, ◌<◌, ⊎_elim, Bool, true, cond, List, [], length, sym, ◌∙◌, ap, subst, arith, ◌≤◌, ◌+◌, ◌-◌, ◌++◌}
use Rattle.std.specs.Prelude.{nat_eq}
use Rattle.std.proofs.lemmas.Bool.{cases_Bool, and_parts, and_from, eq-eqb, eqb-true, false≢true}
use Rattle.pcm_media.specs.Images.{SameOutside}
use Rattle.array_shape.specs.declared.shape.Shape.{Shape}
use Rattle.array_shape.specs.Places.{media_len}
use Rattle.array_shape.specs.Logged.{Part, applied, AllPlaced, places_of}
use Rattle.row_bytes.specs.declared.ballot.Ballot.{Ballot}
use Rattle.array_image.specs.Joined.{joined}
use Rattle.array_image.specs.Image.{parts_from, data_of, IsGoodCell, row_of, row_parts}
use Rattle.array_image.specs.Standing.{SameCells, IsGoodRow, IsLawful, StandsFor}
use Rattle.array_image.proofs.Applied.{applied_equal}
use Rattle.array_image.proofs.Data.{data_outside, all_fit_in}
use Rattle.array_image.proofs.Frames.{data_cells, data_rows}
use Rattle.array_image.proofs.Joined.{joined_same, joined_past, joined_next}
use Rattle.array_image.proofs.Rows.{parts_same, SameRest, rest_of_same, rest_ballot}
use Rattle.array_image.specs.Decided.{decided, decided_as, decided_parts, order_parts, all_decided, settled_data, orders}
use Rattle.array_image.proofs.Deciding.{decides_same}
use Rattle.array_image.proofs.Parts.{no_parts, its_parts, no_order_parts, decided_placed}

module _ (shape : Shape) (old new : List ℕ) where
  -- where rows differ in their votes alone, and cells not at all
  module _ (rest : (g t : ℕ) → g < shape.loggers → t < shape.numbers → SameRest (row_of shape old g t) (row_of shape new g t)) (cells : SameCells shape old new) where
    pub still_good : (g t : ℕ) → g < shape.loggers → t < shape.numbers → IsGoodRow shape old g t → IsGoodRow shape new g t
    still_good g t lt lt' good =
        let same = rest g t lt lt' in
        record {
          fits = omega (arith, same.first, same.count, good.fits);
          cells = λ e from below. subst (IsGoodCell shape g) (sym (cells g t e lt lt' (omega (arith, same.first, same.count, good.fits)))) (good.cells e (omega (arith, same.first)) (omega (arith, same.first, same.count)));
        }

    same_row_parts : (g t : ℕ) → g < shape.loggers → t < shape.numbers → IsGoodRow shape old g t → row_parts shape new g t ≡ row_parts shape old g t
    same_row_parts g t lt lt' good =
        let same = rest g t lt lt' in
        (λ i. parts_from shape new g t (same.first i) (same.count i))
        ∙ parts_same shape old new g t (row_of shape old g t).first (row_of shape old g t).count (λ k from below. cells g t k lt lt' (omega (arith, good.fits)))

    -- a row that is decided in both has the same parts
    pub same_parts : (o t g : ℕ) → g < shape.loggers → t < shape.numbers → (decided shape old g t ≡ true → IsGoodRow shape old g t) → ((row_of shape old g t).order ≡ o → decided shape new g t ≡ decided shape old g t) → decided_parts shape new o t g ≡ decided_parts shape old o t g
    same_parts o t g lt lt' good alike =
        let order = (rest g t lt lt').order in
        ⊎_elim
        (λ so.
        let both = and_parts (decided shape old g t) (nat_eq (row_of shape old g t).order o) so in
        let is = eqb-true (row_of shape old g t).order o both.1 in
        its_parts shape new o t g (alike is ∙ both.0) (order ∙ is) ∙ same_row_parts g t lt lt' (good both.0) ∙ sym (its_parts shape old o t g both.0 is))
        (λ not_so.
        no_parts shape new o t g (λ so' order'. let is = sym order ∙ order' in false≢true (sym not_so ∙ and_from (decided shape old g t) (nat_eq (row_of shape old g t).order o) (sym (alike is) ∙ so') (eq-eqb (row_of shape old g t).order o is)))
        ∙ ap (λ (b : Bool). cond b (row_parts shape old g t) []) (sym not_so))
        (cases_Bool (decided_as shape old o g t))

    -- if what is decided now was decided before, it is as lawful
    pub still_lawful : length new ≡ length old → ((g t : ℕ) → g < shape.loggers → t < shape.numbers → decided shape new g t ≡ true → decided shape old g t ≡ true) → IsLawful shape old → IsLawful shape new
    still_lawful long was lawful = record {
      long = long ∙ lawful.long;
      one = λ g h t u lt lt' below below' so so' order.
          let a = rest g t lt below in
          let b = rest h u lt' below' in
          ap (λ (x : Ballot). x.group) (rest_ballot t (row_of shape old g t) (row_of shape new g t) a)
          ∙ lawful.one g h t u lt lt' below below' (was g t lt below so) (was h u lt' below' so') (sym a.order ∙ order ∙ b.order)
          ∙ sym (ap (λ (x : Ballot). x.group) (rest_ballot u (row_of shape old h u) (row_of shape new h u) b));
      good = λ g t lt below so. still_good g t lt below (lawful.good g t lt below (was g t lt below so));
    }

  -- while the decided parts are written into the data, and after that
  module _ (long : length old ≡ media_len shape) (good : (g t : ℕ) → g < shape.loggers → t < shape.numbers → decided shape old g t ≡ true → IsGoodRow shape old g t) (same : SameOutside (places_of shape (all_decided shape old)) old new) where
    placed : AllPlaced shape (all_decided shape old)
    placed = decided_placed shape old long good

    applying_rest : (g t : ℕ) → g < shape.loggers → t < shape.numbers → SameRest (row_of shape old g t) (row_of shape new g t)
    applying_rest g t lt lt' = rest_of_same (row_of shape old g t) (row_of shape new g t) (data_rows shape (all_decided shape old) placed old new same g t lt')

    applying_cells : SameCells shape old new
    applying_cells = data_cells shape (all_decided shape old) placed old new same

    pub applying_decided : (g t : ℕ) → g < shape.loggers → t < shape.numbers → decided shape new g t ≡ decided shape old g t
    applying_decided g t lt lt' = decides_same shape.loggers shape.numbers (row_of shape old) (row_of shape new) (λ h u below below'. data_rows shape (all_decided shape old) placed old new same h u below') g t lt lt'

    -- the parts of a row, of an order number, and of all stay what they were
    pub applying_parts : (o t g : ℕ) → g < shape.loggers → t < shape.numbers → decided_parts shape new o t g ≡ decided_parts shape old o t g
    applying_parts o t g lt lt' = same_parts applying_rest applying_cells o t g lt lt' (good g t lt lt') (λ is. applying_decided g t lt lt')

    pub applying_order : (o : ℕ) → order_parts shape new o ≡ order_parts shape old o
    applying_order o = joined_same (λ t. joined (decided_parts shape new o t) 0 shape.loggers) (λ t. joined (decided_parts shape old o t) 0 shape.loggers) 0 shape.numbers (λ t le' lt'.
        joined_same (decided_parts shape new o t) (decided_parts shape old o t) 0 shape.loggers (λ g le'' lt''. applying_parts o t g (omega arith) (omega arith)))

    pub applying_all : all_decided shape new ≡ all_decided shape old
    applying_all = joined_same (order_parts shape new) (order_parts shape old) 0 orders (λ o le lt. applying_order o)

    pub applying_settles : settled_data shape new ≡ settled_data shape old
    applying_settles =
        ap (λ (ps : List Part). applied ps (data_of shape new)) applying_all
        ∙ applied_equal (all_decided shape old) (data_of shape old) (data_of shape new) (all_fit_in shape (all_decided shape old) old placed) (data_outside shape (all_decided shape old) old new placed same)

    pub applying_stands : IsLawful shape old → StandsFor shape new (settled_data shape old)
    applying_stands lawful = record { lawful = still_lawful applying_rest applying_cells same.long (λ g t lt lt' so. sym (applying_decided g t lt lt') ∙ so) lawful; gives = applying_settles }

-- What a loop over rising order numbers has applied: those below one number, then those of the next number that a decided row has,
-- and at last all.
module _ (shape : Shape) (image : List ℕ) (from : ℕ) where
  pub next_order : (o : ℕ) → from ≤ o → ((g t : ℕ) → g < shape.loggers → t < shape.numbers → decided shape image g t ≡ true → from ≤ (row_of shape image g t).order → o ≤ (row_of shape image g t).order)
      → joined (order_parts shape image) 0 (o + 1) ≡ joined (order_parts shape image) 0 from ++ order_parts shape image o
  next_order o le least = joined_next (order_parts shape image) from o le (λ i le' lt. no_order_parts shape image i (λ g t below below' so is. omega (arith, is, least g t below below' so (omega (arith, is)))))

  pub no_more_orders : from ≤ orders → ((g t : ℕ) → g < shape.loggers → t < shape.numbers → decided shape image g t ≡ true → (row_of shape image g t).order < from) → all_decided shape image ≡ joined (order_parts shape image) 0 from
  no_more_orders le none =
      let all : orders ≡ from + (orders - from) = omega arith in
      ap (joined (order_parts shape image) 0) all
      ∙ joined_past (order_parts shape image) from (orders - from) (λ i le' lt. no_order_parts shape image i (λ g t below below' so is. omega (arith, is, none g t below below' so)))
