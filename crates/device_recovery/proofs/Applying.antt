-- The parts of one decided row after another, and of one order number after another, are written into the data.
use Rattle.std.proofs.Common.{◌≡◌, ℕ, ◌+◌, ◌*◌, ◌/◌, ◌%◌, ◌<◌, ◌≤◌, Bool, true, false, cond, List, [], length, refl, sym, ◌∙◌, ap, subst, arith}
use Rattle.std.specs.Prelude.{nat_eq}
use Rattle.std.proofs.lemmas.Bool.{and_parts}
use Rattle.pcm_media.specs.Images.{SameOutside, IsOutside}
use Rattle.array_shape.specs.declared.shape.Shape.{Shape}
use Rattle.array_shape.specs.Places.{media_len}
use Rattle.row_bytes.specs.declared.row.Row.{Row}
use Rattle.array_image.specs.Joined.{joined}
use Rattle.array_shape.specs.Logged.{Part, applied, places_of}
use Rattle.array_image.specs.Image.{row_of, cell_of, parts_from, row_parts, data_of, IsGoodCell}
use Rattle.array_image.specs.Decided.{decided, decided_as, decided_parts, order_parts, all_decided, orders}
use Rattle.array_image.specs.Standing.{SameCells, IsGoodRow}
use Rattle.array_image.proofs.Applied.{applied-append}
use Rattle.array_image.proofs.Data.{outside_list, applied_more}
use Rattle.array_image.proofs.Rows.{parts_same, rest_of_same}
use Rattle.array_image.proofs.Parts.{order_placed, decided_placed}
use Rattle.array_image.proofs.Frames.{data_rows, data_cells}
use Rattle.array_image.proofs.Recovery.{still_good, applying_decided, applying_order, next_order}
use Rattle.device_recovery.proofs.Goods.{AllGood}
use Rattle.device_recovery.proofs.Order.{joined_rows}

-- the data with the parts of those decided with an order number among the first n rows
abbrev pub rows_data : Shape → List ℕ → ℕ → ℕ → List ℕ
rows_data shape base o n = applied (joined (λ k. decided_parts shape base o (k / shape.loggers) (k % shape.loggers)) 0 n) (data_of shape base)

module _ (shape : Shape) (base : List ℕ) (o : ℕ) where
  -- all rows
  pub rows_applied : (n : ℕ) → n ≡ shape.loggers * shape.numbers → rows_data shape base o n ≡ applied (order_parts shape base o) (data_of shape base)
  rows_applied n all = ap (rows_data shape base o) all ∙ ap (λ (ps : List Part). applied ps (data_of shape base)) (joined_rows shape.loggers shape.numbers (λ g t. decided_parts shape base o t g))

  module _ (n g t : ℕ) (is : g ≡ n % shape.loggers) (is' : t ≡ n / shape.loggers) where
    parts_here : decided_parts shape base o (n / shape.loggers) (n % shape.loggers) ≡ decided_parts shape base o t g
    parts_here = (λ i. decided_parts shape base o (sym is' i) (sym is i))

    pub row_skipped : (d : List ℕ) → decided_as shape base o g t ≡ false → d ≡ rows_data shape base o n → d ≡ rows_data shape base o (n + 1)
    row_skipped d not_so before =
        applied_more (λ k. decided_parts shape base o (k / shape.loggers) (k % shape.loggers)) n (data_of shape base) d d before
        (ap (λ (l : List Part). applied l d) (sym (parts_here ∙ ap (λ (b : Bool). cond b (row_parts shape base g t) []) not_so)))

    module _ (long : length base ≡ media_len shape) (good : AllGood shape base shape.numbers) (cur : List ℕ) (same : SameOutside (places_of shape (order_parts shape base o)) base cur) (lt : g < shape.loggers) (small : t < shape.numbers) (row : Row) (row_is : row ≡ row_of shape base g t) (so : decided_as shape base o g t ≡ true) where
      cells : SameCells shape base cur
      cells = data_cells shape (order_parts shape base o) (order_placed shape base long good o) base cur same

      row_good : IsGoodRow shape base g t
      row_good = good g t lt small (and_parts (decided shape base g t) (nat_eq (row_of shape base g t).order o) so).0

      pub good_cells : (e : ℕ) → row.first ≤ e → e < row.first + row.count → IsGoodCell shape g (cell_of shape cur g t e)
      good_cells e from below =
          let first = ap (λ (r : Row). r.first) row_is in
          let count = ap (λ (r : Row). r.count) row_is in
          subst (IsGoodCell shape g) (sym (cells g t e lt small (omega (arith, row_good.fits, first, count)))) (row_good.cells e (omega (arith, first)) (omega (arith, first, count)))

      same_parts : parts_from shape cur g t row.first row.count ≡ decided_parts shape base o t g
      same_parts =
          (λ i. parts_of (row_is i)) ∙ parts_same shape base cur g t (row_of shape base g t).first (row_of shape base g t).count (λ k from below. cells g t k lt small (omega (arith, row_good.fits)))
          ∙ ap (λ (b : Bool). cond b (row_parts shape base g t) []) (sym so)
        where
          parts_of : Row → List Part
          parts_of r = parts_from shape cur g t r.first r.count

      pub parts_within : (i : ℕ) → IsOutside (places_of shape (order_parts shape base o)) i → IsOutside (places_of shape (parts_from shape cur g t row.first row.count)) i
      parts_within i out =
          subst (λ l. IsOutside (places_of shape l) i) (sym same_parts)
          (outside_list shape (decided_parts shape base o t) i 0 shape.loggers (outside_list shape (λ u. joined (decided_parts shape base o u) 0 shape.loggers) i 0 shape.numbers out t (omega arith) (omega arith)) g (omega arith) (omega arith))

      pub row_applied : (new : List ℕ) → data_of shape cur ≡ rows_data shape base o n → data_of shape new ≡ applied (parts_from shape cur g t row.first row.count) (data_of shape cur) → data_of shape new ≡ rows_data shape base o (n + 1)
      row_applied new before now =
          applied_more (λ k. decided_parts shape base o (k / shape.loggers) (k % shape.loggers)) n (data_of shape base) (data_of shape cur) (data_of shape new) before
          (now ∙ ap (λ (l : List Part). applied l (data_of shape cur)) (same_parts ∙ sym parts_here))

pub is_order : (n : ℕ) → n < 65536 → n < orders
unfolding orders
is_order n lt = omega (arith, lt)

pub orders_are : orders ≡ 65536
unfolding orders
orders_are = refl

-- one order number after another
module _ (shape : Shape) (base : List ℕ) (long : length base ≡ media_len shape) (good : AllGood shape base shape.numbers) (cur : List ℕ) (same : SameOutside (places_of shape (all_decided shape base)) base cur) where
  pub rows_stay : (g t : ℕ) → g < shape.loggers → t < shape.numbers → row_of shape cur g t ≡ row_of shape base g t
  rows_stay g t lt lt' = data_rows shape (all_decided shape base) (decided_placed shape base long good) base cur same g t lt'

  pub good_stays : AllGood shape cur shape.numbers
  good_stays g t lt lt' so = still_good shape base cur (λ h u below below'. rest_of_same (row_of shape base h u) (row_of shape cur h u) (rows_stay h u below below'))
      (data_cells shape (all_decided shape base) (decided_placed shape base long good) base cur same) g t lt lt' (good g t lt lt' (sym (applying_decided shape base cur long good same g t lt lt') ∙ so))

  pub order_within : (o : ℕ) → o < orders → (i : ℕ) → IsOutside (places_of shape (all_decided shape base)) i → IsOutside (places_of shape (order_parts shape cur o)) i
  order_within o small i out =
      subst (λ l. IsOutside (places_of shape l) i) (sym (applying_order shape base cur long good same o))
      (outside_list shape (order_parts shape base) i 0 orders out o (omega arith) (omega arith))

  pub order_applied : (from o : ℕ) (new : List ℕ) → from ≤ o → ((g t : ℕ) → g < shape.loggers → t < shape.numbers → decided shape base g t ≡ true → from ≤ (row_of shape base g t).order → o ≤ (row_of shape base g t).order)
      → data_of shape cur ≡ applied (joined (order_parts shape base) 0 from) (data_of shape base) → data_of shape new ≡ applied (order_parts shape cur o) (data_of shape cur)
      → data_of shape new ≡ applied (joined (order_parts shape base) 0 (o + 1)) (data_of shape base)
  order_applied from o new le least before now =
      now ∙ (λ i. applied (applying_order shape base cur long good same o i) (before i))
      ∙ sym (applied-append (joined (order_parts shape base) 0 from) (order_parts shape base o) (data_of shape base))
      ∙ ap (λ (l : List Part). applied l (data_of shape base)) (sym (next_order shape base from o le least))
