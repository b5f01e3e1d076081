-- The letter `v` and a number make a value.
use Rattle.std.proofs.Common.{◌≡◌, ℕ, ◌<◌, ◌^◌, ◌≤◌, List, [], ◌∷◌, length, true, refl, arith}
use Rattle.std.specs.Fmt.{decimal}
use Rattle.std.specs.List.{list_all}
use Rattle.std.specs.Str.Parse.{AllDigits}
use Rattle.std.proofs.lemmas.Bool.{and_from}
use Rattle.std.proofs.lemmas.Fmt.{decimal_is_IsNumeral, length-decimal-le}
use Rattle.std.proofs.lemmas.Str.Parse.{digit_from_value}
use Rattle.record_slots.specs.Text.{IsValue, is_visible}

visible_digit : (c : ℕ) → 48 ≤ c → c ≤ 57 → is_visible c ≡ true
visible_digit c low high = grind arith

digits_show : (ds : List ℕ) → AllDigits 10 ds → list_all is_visible ds ≡ true
digits_show [] all = refl
digits_show (c ∷ cs) all =
    let range = digit_from_value c all.0 in
    and_from (is_visible c) (list_all is_visible cs) (visible_digit c range.0 range.1) (digits_show cs all.1)

pub letter_and_number : (n : ℕ) → n < 2 ^ 64 → IsValue (118 ∷ decimal n)
letter_and_number n small = record {
  some = omega arith;
  short = let short : length (decimal n) ≤ 20 = length-decimal-le 20 n (omega arith) (omega (arith, small)) small in omega (arith, short);
  visible = digits_show (decimal n) (decimal_is_IsNumeral n small).0.1;
}
