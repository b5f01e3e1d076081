-- The digits of a number are the text of a value.
use Rattle.std.proofs.Common.{◌≡◌, ℕ, ◌^◌, ◌<◌, ◌≤◌, true, List, [], ◌∷◌, length, refl, arith}
use Rattle.std.specs.Prelude.{decimal}
use Rattle.std.specs.List.{list_all}
use Rattle.std.specs.Str.Parse.{AllDigits}
use Rattle.std.proofs.lemmas.Bool.{and_from, le-leb}
use Rattle.std.proofs.lemmas.Fmt.{decimal_is_IsNumeral, length-decimal-le}
use Rattle.std.proofs.lemmas.Str.Parse.{digit_from_value}
use Rattle.record_slots.specs.Text.{is_visible, IsValue}

digits_visible : (ds : List ℕ) → AllDigits 10 ds → list_all is_visible ds ≡ true
digits_visible [] digits = refl
digits_visible (c ∷ cs) digits =
    let range = digit_from_value c digits.0 in
    and_from _ _ (and_from _ _ (le-leb 0x21 c (omega (arith, range))) (le-leb c 0x7E (omega (arith, range)))) (digits_visible cs digits.1)

pub value_decimal : (n : ℕ) → n < 2 ^ 64 → IsValue (decimal n)
value_decimal n fits = record {
  some = (decimal_is_IsNumeral n fits).0.0;
  short = let h : length (decimal n) ≤ 20 = length-decimal-le 20 n (omega arith) (omega arith) fits in omega arith;
  visible = digits_visible (decimal n) (decimal_is_IsNumeral n fits).0.1;
}
