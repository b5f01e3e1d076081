-- The parts of a value, one behind the other.
use Rattle.std.proofs.Common.{◌≡◌, ℕ, suc, ◌+◌, ◌-◌, ◌*◌, ◌<◌, ◌≤◌, inl, inr, List, ◌++◌, length, take, drop, slice_index, sym, ◌∙◌, ap, arith}
use Rattle.std.specs.Prelude.{get_or}
use Rattle.std.proofs.Math.Seq.{take-add}
use Rattle.std.proofs.lemmas.Bool.{cases_lt}
use Rattle.std.proofs.lemmas.List.{get_or-take, get_or-drop, get_or_past, length-take, take_all}
use Rattle.base64.specs.GeneralPurpose.{IsBytes, encode_of}
use Rattle.base64.specs.Engines.{standard_no_pad}
use Rattle.history.specs.Writes.{Row}
use Rattle.long_values.specs.Values.{part_at, part_count, text_at, rows_of}
use Rattle.long_values.proofs.Rows.{length-rows_from, row_from}

-- a part is of bytes too
pub part_small : (bytes : List ℕ) (n : ℕ) → IsBytes bytes → IsBytes (part_at bytes n)
part_small bytes n small i = elim (cases_lt i 40) [
  | inl lt ↦ let e : slice_index (part_at bytes n) i ≡ slice_index bytes (n * 40 + i) = get_or-take 40 (drop (n * 40) bytes) i 0 lt ∙ get_or-drop (n * 40) bytes i 0 in let b = small (n * 40 + i) in omega (arith, e, b)
  | inr ge ↦ let e : slice_index (part_at bytes n) i ≡ 0 = get_or_past (part_at bytes n) i 0 (omega (arith, ge, length-take 40 (drop (n * 40) bytes))) in omega (arith, e)
]

-- a row behind the first spells a part
pub row_spells : (rows : List Row) (first : ℕ) (bytes : List ℕ) (n : ℕ) (d : Row) → rows ≡ rows_of first bytes → 1 ≤ n → n < length rows → (get_or rows n d).1 ≡ encode_of standard_no_pad (part_at bytes (n - 1))
row_spells rows first bytes n d are ge lt =
    let count : length rows ≡ part_count bytes + 1 = ap length are ∙ length-rows_from first bytes 0 (part_count bytes + 1) in
    let at : get_or rows n d ≡ (first + n, text_at bytes n) = ap (λ (rs : List Row). get_or rs n d) are ∙ row_from first bytes n 0 n (part_count bytes + 1) d (omega arith) (omega (arith, lt, count)) in
    let next : n ≡ suc (n - 1) = omega (arith, ge) in
    ap (λ (r : Row). r.1) at ∙ ap (text_at bytes) next

-- so one more of them gives the bytes up to the end of that part,
pub one_more : (bytes was now : List ℕ) (n : ℕ) → 1 ≤ n → was ≡ take (n * 40 - 40) bytes → now ≡ was ++ part_at bytes (n - 1) → now ≡ take ((n + 1) * 40 - 40) bytes
one_more bytes was now n ge so is =
    let here : n * 40 - 40 ≡ (n - 1) * 40 = omega (arith, ge) in
    let next : (n - 1) * 40 + 40 ≡ (n + 1) * 40 - 40 = omega (arith, ge) in
    is ∙ ap (λ (l : List ℕ). l ++ part_at bytes (n - 1)) (so ∙ ap (λ (k : ℕ). take k bytes) here) ∙ sym (take-add ((n - 1) * 40) 40 bytes) ∙ ap (λ (k : ℕ). take k bytes) next

-- and all of them the bytes
pub whole : (rows : List Row) (first : ℕ) (bytes now : List ℕ) (n : ℕ) → rows ≡ rows_of first bytes → length rows ≤ n → now ≡ take (n * 40 - 40) bytes → now ≡ bytes
whole rows first bytes now n are le is =
    let count : length rows ≡ part_count bytes + 1 = ap length are ∙ length-rows_from first bytes 0 (part_count bytes + 1) in
    is ∙ take_all (n * 40 - 40) bytes (omega (arith, le, count))

-- there is a first row
pub some_row : (rows : List Row) (first : ℕ) (bytes : List ℕ) → rows ≡ rows_of first bytes → 0 < length rows
some_row rows first bytes are = omega (arith, ap length are, length-rows_from first bytes 0 (part_count bytes + 1))
