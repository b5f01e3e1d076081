-- Rows and cells of images that are the same at some places.
use Rattle.std.proofs.Common.{◌≡◌, ℕ, zero, suc, ◌+◌, ◌^◌, ◌<◌, ◌≤◌, cond, List, ◌∷◌, length, get_or, drop, refl, sym, ◌∙◌, ap, subst, arith}
use Rattle.std.specs.Prelude.{nat_eq}
use Rattle.std.proofs.lemmas.List.{length-take-le, length-drop}
use Rattle.byteorder.specs.Endian.{little_from}
use Rattle.mars_base.specs.Bytes.{range}
use Rattle.pcm_media.specs.Images.{SameOutside, IsOutside}
use Rattle.pcm_media.proofs.Ranges.{length-range, get_or-range, range_away}
use Rattle.array_shape.specs.declared.shape.Shape.{Shape}
use Rattle.array_shape.specs.Places.{row_at, cell_at, media_len}
use Rattle.row_bytes.specs.declared.row.Row.{Row}
use Rattle.row_bytes.specs.Said.{row_said}
use Rattle.array_shape.specs.Logged.{AllOwned, IsOwned}
use Rattle.array_image.specs.Image.{row_of, cell_of, cell_head, cell_part, parts_from, IsGoodCell}
use Rattle.row_bytes.specs.Ballots.{ballot_of}
use Rattle.array_image.proofs.Places.{cell_fits_in}

pub little_same : (i n : ℕ) (xs ys : List ℕ) → ((k : ℕ) → i ≤ k → k < i + n → get_or xs k 0 ≡ get_or ys k 0) → little_from i n xs ≡ little_from i n ys
little_same i zero xs ys same = refl
little_same i (suc n) xs ys same =
    let here = same i (omega arith) (omega arith) in
    let rest = little_same (suc i) n xs ys (λ k le lt. same k (omega arith) (omega arith)) in
    cc

pub voted_said : (xs : List ℕ) → (row_said xs).voted ≡ nat_eq (get_or xs 0 0) 195
unfolding row_said
voted_said xs = refl

-- all of a row but its vote is the same
pub record SameRest (old new : Row) : Type 0 where
  pub mask : new.mask ≡ old.mask
  pub first : new.first ≡ old.first
  pub count : new.count ≡ old.count
  pub group : new.group ≡ old.group
  pub order : new.order ≡ old.order

pub rest_of_same : (old new : Row) → new ≡ old → SameRest old new
rest_of_same old new is = record {
  mask = ap (λ (r : Row). r.mask) is;
  first = ap (λ (r : Row). r.first) is;
  count = ap (λ (r : Row). r.count) is;
  group = ap (λ (r : Row). r.group) is;
  order = ap (λ (r : Row). r.order) is;
}

pub rest_ballot : (t : ℕ) (old new : Row) → SameRest old new → ballot_of t new ≡ ballot_of t old
rest_ballot t old new rest = (λ i. record { mask = rest.mask i; group = cond (nat_eq (rest.group i) 0) (2 ^ t) (rest.group i); order = rest.order i })

said_rest : (xs ys : List ℕ) → ((k : ℕ) → 1 ≤ k → k < 16 → get_or ys k 0 ≡ get_or xs k 0) → SameRest (row_said xs) (row_said ys)
unfolding row_said
said_rest xs ys same = record {
  mask = same 1 (omega arith) (omega arith);
  first = little_same 2 2 ys xs (λ k le lt. same k (omega arith) (omega arith));
  count = little_same 4 2 ys xs (λ k le lt. same k (omega arith) (omega arith));
  group = little_same 6 8 ys xs (λ k le lt. same k (omega arith) (omega arith));
  order = little_same 14 2 ys xs (λ k le lt. same k (omega arith) (omega arith));
}

module _ (shape : Shape) where
  pub voted_at : (image : List ℕ) (g t : ℕ) → (row_of shape image g t).voted ≡ nat_eq (get_or image (row_at shape g t) 0) 195
  voted_at image g t =
      voted_said (range image (row_at shape g t) 16)
      ∙ ap (λ (k : ℕ). nat_eq k 195) (get_or-range image (row_at shape g t) 16 0 (omega arith) ∙ ap (λ (k : ℕ). get_or image k 0) (omega arith))

  pub voted_same : (old new : List ℕ) (g t : ℕ) → get_or new (row_at shape g t) 0 ≡ get_or old (row_at shape g t) 0 → (row_of shape new g t).voted ≡ (row_of shape old g t).voted
  voted_same old new g t same = voted_at new g t ∙ ap (λ (k : ℕ). nat_eq k 195) same ∙ sym (voted_at old g t)

  pub rest_same : (old new : List ℕ) (g t : ℕ) → ((k : ℕ) → 1 ≤ k → k < 16 → get_or new (row_at shape g t + k) 0 ≡ get_or old (row_at shape g t + k) 0) → SameRest (row_of shape old g t) (row_of shape new g t)
  rest_same old new g t same = said_rest (range old (row_at shape g t) 16) (range new (row_at shape g t) 16) (λ k le lt.
      get_or-range new (row_at shape g t) 16 k lt ∙ same k le lt ∙ sym (get_or-range old (row_at shape g t) 16 k lt))

  pub row_away : (ranges : List (ℕ × ℕ)) (old new : List ℕ) (g t : ℕ) → SameOutside ranges old new → ((i : ℕ) → row_at shape g t ≤ i → i < row_at shape g t + 16 → IsOutside ranges i) → row_of shape new g t ≡ row_of shape old g t
  row_away ranges old new g t same away = ap row_said (range_away ranges old new (row_at shape g t) 16 same away)

  pub cell_away : (ranges : List (ℕ × ℕ)) (old new : List ℕ) (g t e : ℕ) → SameOutside ranges old new → ((i : ℕ) → cell_at shape g t e ≤ i → i < cell_at shape g t e + 528 → IsOutside ranges i) → cell_of shape new g t e ≡ cell_of shape old g t e
  cell_away ranges old new g t e same away = range_away ranges old new (cell_at shape g t e) 528 same away

  -- the parts of cells that are the same
  pub parts_same : (old new : List ℕ) (g t e n : ℕ) → ((k : ℕ) → e ≤ k → k < e + n → cell_of shape new g t k ≡ cell_of shape old g t k) → parts_from shape new g t e n ≡ parts_from shape old g t e n
  parts_same old new g t e zero same = refl
  parts_same old new g t e (suc n) same = (λ i. cell_part (same e (omega arith) (omega arith) i) ∷ parts_same old new g t (e + 1) n (λ k le lt. same k (omega arith) (omega arith)) i)

  -- the part of a good cell
  pub part_long : (g : ℕ) (cell : List ℕ) → length cell ≡ 528 → IsGoodCell shape g cell → length (cell_part cell).1 ≡ (cell_head cell).len
  part_long g cell long good = length-take-le (cell_head cell).len (drop 16 cell) (omega (arith, length-drop 16 cell, good.placed.page))

  pub part_owned : (g : ℕ) (cell : List ℕ) → length cell ≡ 528 → IsGoodCell shape g cell → IsOwned shape g (cell_part cell).0 (length (cell_part cell).1)
  part_owned g cell long good = subst (λ n. IsOwned shape g (cell_head cell).addr n) (sym (part_long g cell long good)) good

  pub length-cell : (image : List ℕ) (g t e : ℕ) → length image ≡ media_len shape → g < shape.loggers → t < shape.numbers → e < shape.entries → length (cell_of shape image g t e) ≡ 528
  length-cell image g t e long lt lt' lt'' = length-range image (cell_at shape g t e) 528 (omega (arith, cell_fits_in shape g t e lt lt' lt''))

  pub parts_owned : (image : List ℕ) (g t e n : ℕ) → length image ≡ media_len shape → g < shape.loggers → t < shape.numbers → e + n ≤ shape.entries → ((k : ℕ) → e ≤ k → k < e + n → IsGoodCell shape g (cell_of shape image g t k)) → AllOwned shape g (parts_from shape image g t e n)
  parts_owned image g t e zero long lt lt' fits good = tt
  parts_owned image g t e (suc n) long lt lt' fits good = (
    part_owned g (cell_of shape image g t e) (length-cell image g t e long lt lt' (omega arith)) (good e (omega arith) (omega arith)),
    parts_owned image g t (e + 1) n long lt lt' (omega arith) (λ k le below. good k (omega arith) (omega arith)),
  )
