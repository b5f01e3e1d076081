-- What spells bytes is the text of a value.
use Rattle.std.proofs.Common.{◌≡◌, ℕ, suc, ◌+◌, ◌-◌, ◌*◌, ◌/◌, ◌%◌, ◌<◌, ◌≤◌, true, min, inl, inr, List, [], ◌∷◌, length, take, drop, slice_index, refl, sym, ap, ◌∙◌, arith, append-nil}
use Rattle.std.specs.List.{list_all}
use Rattle.std.proofs.lemmas.Bool.{and_from, cases_lt}
use Rattle.std.proofs.lemmas.List.{length-drop, take_all, take_rest}
use Rattle.std.proofs.lemmas.List.Folds.{list_all-append}
use Rattle.base64.specs.GeneralPurpose.{IsBytes, encode_of, engine_symbols}
use Rattle.base64.specs.Engines.{standard_no_pad}
use Rattle.base64.specs.Rfc4648.{encode_symbols, encode_group, unpadded_len}
use Rattle.base64.proofs.Tables.{all_below_at}
use Rattle.base64.proofs.RoundTrip.{length-encode_symbols}
use Rattle.record_slots.specs.Text.{is_visible, IsValue}

-- the 64 symbols
abbrev alphabet : List ℕ
alphabet = engine_symbols standard_no_pad

-- each of them is visible
symbol : (i : ℕ) → i < 64 → is_visible (slice_index alphabet i) ≡ true
symbol i lt = all_below_at (λ (k : ℕ). is_visible (slice_index alphabet k)) 64 i refl lt

-- and so are those of bytes
symbols : (bytes : List ℕ) → IsBytes bytes → list_all is_visible (encode_symbols alphabet bytes) ≡ true
unfolding encode_symbols
symbols [] small = refl
symbols (a ∷ []) small =
    let x = small 0 in
    and_from _ _ (symbol (a / 4) (omega (arith, x))) (and_from _ _ (symbol (a % 4 * 16) (omega arith)) refl)
symbols (a ∷ b ∷ []) small =
    let x = small 0 in
    let y = small 1 in
    and_from _ _ (symbol (a / 4) (omega (arith, x))) (and_from _ _ (symbol (a % 4 * 16 + b / 16) (omega (arith, y))) (and_from _ _ (symbol (b % 16 * 4) (omega arith)) refl))
symbols (a ∷ b ∷ c ∷ rest) small =
    let x = small 0 in
    let y = small 1 in
    let z = small 2 in
    let group : list_all is_visible (encode_group alphabet a b c) ≡ true =
    and_from _ _ (symbol (a / 4) (omega (arith, x))) (and_from _ _ (symbol (a % 4 * 16 + b / 16) (omega (arith, y)))
    (and_from _ _ (symbol (b % 16 * 4 + c / 64) (omega (arith, z))) (and_from _ _ (symbol (c % 64) (omega arith)) refl))) in
    list_all-append is_visible (encode_group alphabet a b c) (encode_symbols alphabet rest) ∙ and_from _ _ group (symbols rest (λ i. small (suc (suc (suc i)))))

pub length-spelled : (bytes : List ℕ) → length (encode_of standard_no_pad bytes) ≡ unpadded_len (length bytes)
length-spelled bytes = ap length (append-nil (encode_symbols alphabet bytes)) ∙ length-encode_symbols alphabet bytes

pub value_spelled : (bytes : List ℕ) → IsBytes bytes → 0 < length bytes → length bytes ≤ 40 → IsValue (encode_of standard_no_pad bytes)
value_spelled bytes small some few = record {
  some = omega (arith, length-spelled bytes, some);
  short = omega (arith, length-spelled bytes, few);
  visible = ap (list_all is_visible) (append-nil (encode_symbols alphabet bytes)) ∙ symbols bytes small;
}

-- A cut of the bytes up to the end of a part, or to their own, is the part.
pub cut : (bytes : List ℕ) (start stop : ℕ) → stop ≡ min (start + 40) (length bytes) → start ≤ length bytes → take (stop - start) (drop start bytes) ≡ take 40 (drop start bytes)
cut bytes start stop is le = elim (cases_lt (length bytes) (start + 40)) [
  | inl short ↦
      let all : stop - start ≡ length bytes - start = omega (arith, is, short) in
      ap (λ (k : ℕ). take k (drop start bytes)) all ∙ take_rest bytes start ∙ sym (take_all 40 (drop start bytes) (omega (arith, length-drop start bytes, short)))
  | inr long ↦ let all : stop - start ≡ 40 = omega (arith, is, long) in ap (λ (k : ℕ). take k (drop start bytes)) all
]
