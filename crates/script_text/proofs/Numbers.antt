-- The texts of numbers have no space.
use Rattle.std.proofs.Common.{◌≡◌, ℕ, ◌^◌, ◌<◌, ◌≤◌, List, [], ◌∷◌, ◌++◌, sym, subst, ◌∙◌, arith}
use Rattle.std.specs.Char.{digit_value}
use Rattle.std.specs.Fmt.{decimal}
use Rattle.std.specs.Str.Parse.{AllDigits, digits_value}
use Rattle.std.proofs.lemmas.Fmt.{digits_decimal}
use Rattle.std.proofs.lemmas.Str.Parse.{IsNumeralModel, numerals_by_value, tells_digits}
use Rattle.script_text.specs.Reads.{IsWord}
use Rattle.script_text.proofs.Words.{first_space}

-- numerals as std reads them
model : IsNumeralModel (AllDigits 10) (digits_value 10)
model = numerals_by_value (AllDigits 10) tells_digits

digits_are_word : (bytes : List ℕ) → AllDigits 10 bytes → IsWord bytes
digits_are_word [] all = tt
digits_are_word (byte ∷ bytes) all = (λ e. let below : digit_value 32 < 10 = subst (λ x. digit_value x < 10) e all.0 in omega (arith, below), digits_are_word bytes all.1)

-- the text of a number has no space
pub decimal_is_word : (n : ℕ) → n < 2 ^ 64 → IsWord (decimal n)
decimal_is_word n fits = digits_are_word (decimal n) (digits_decimal model n fits)

-- In a number, a space and a text, the first space separates the two.
pub fields : (bytes word rest : List ℕ) (n limit : ℕ) (tail : List ℕ) → limit ≤ 2 ^ 64 → IsWord word → bytes ≡ word ++ 32 ∷ rest → n < limit → bytes ≡ decimal n ++ 32 ∷ tail
    → (word ≡ decimal n) × (rest ≡ tail)
fields bytes word rest n limit tail most is split below other =
    first_space word (decimal n) rest tail is (decimal_is_word n (omega arith)) (sym split ∙ other)
