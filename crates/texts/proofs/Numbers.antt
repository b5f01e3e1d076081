-- Digits and the numbers that they spell.
use Rattle.std.proofs.Common.{◌≡◌, ℕ, zero, suc, ◌+◌, ◌-◌, ◌*◌, ◌^◌, ◌<◌, ◌≤◌, List, length, get_or, take, Option, Some, None, inl, inr, sym, ap, ◌∙◌, arith}
use Rattle.std.specs.Char.{digit_value}
use Rattle.std.specs.Fmt.{decimal}
use Rattle.std.specs.Int.{IsInRange}
use Rattle.std.specs.Option.{SomeIff}
use Rattle.std.specs.Str.Parse.{AllDigits, digits_value}
use Rattle.std.proofs.lemmas.Bool.{cases_lt}
use Rattle.std.proofs.lemmas.Fmt.{decimal_nonempty, decimal_digit, first_decimal, decimal-digits_value, decimal_injective, digits_decimal, digits_value-decimal}
use Rattle.std.proofs.lemmas.Int.Digits.{digits_value_more, digits_more}
use Rattle.std.proofs.lemmas.Str.{digit_value_digit}
use Rattle.std.proofs.lemmas.Str.Parse.{IsNumeralModel, numerals_by_value, tells_digits, digit_at, digits_value-take-le}
use Rattle.texts.specs.Reads.{Reads}

-- numerals as std reads them
model : IsNumeralModel (AllDigits 10) (digits_value 10)
model = numerals_by_value (AllDigits 10) tells_digits

pub empty_is_none : (bytes : List ℕ) (n : ℕ) → length bytes ≡ 0 → n < 2 ^ 64 → bytes ≡ decimal n → ⊥
empty_is_none bytes n none fits is = omega (arith, decimal_nonempty n fits, ap length is)

-- a zero in front of more digits
pub leading_zero_is_none : (n : ℕ) (bytes : List ℕ) → 1 < length bytes → get_or bytes 0 0 ≡ 48 → n < 2 ^ 64 → bytes ≡ decimal n → ⊥
leading_zero_is_none zero bytes long first fits is = omega (arith, ap length (is ∙ decimal_digit 0 (omega arith)))
leading_zero_is_none (suc n) bytes long first fits is = omega (arith, first_decimal (suc n) (omega arith) fits, ap (λ x. get_or x 0 0) is)

no_number_is_none : (bytes : List ℕ) (n : ℕ) → (AllDigits 10 bytes × (digits_value 10 bytes < 2 ^ 64) → ⊥) → n < 2 ^ 64 → bytes ≡ decimal n → ⊥
no_number_is_none bytes n bad fits is = bad (rw is (digits_decimal model n fits, rw (digits_value-decimal model n fits) fits))

number_is : (bytes : List ℕ) → 0 < length bytes → (1 < length bytes → get_or bytes 0 0 ≡ 48 → ⊥) → AllDigits 10 bytes → digits_value 10 bytes < 2 ^ 64 → bytes ≡ decimal (digits_value 10 bytes)
number_is bytes some first all fits = sym (decimal-digits_value model bytes all some (λ z. one_byte (length bytes) some (λ long. first long z)) fits)
  where
    one_byte : (n : ℕ) → 0 < n → (1 < n → ⊥) → n ≡ 1
    one_byte n some short = elim (cases_lt 1 n) [ inl h ↦ absurd (short h) | inr h ↦ omega arith ]

-- Without a leading zero, the number that the digits spell is what the bytes say.
pub number_or_none : (bytes : List ℕ) (result : Option ℕ) → 0 < length bytes → (1 < length bytes → get_or bytes 0 0 ≡ 48 → ⊥)
    → SomeIff result (AllDigits 10 bytes × (digits_value 10 bytes < 2 ^ 64)) (digits_value 10 bytes) → Reads (λ n. n < 2 ^ 64) decimal bytes result
number_or_none bytes None some first is = λ n fits e. no_number_is_none bytes n is fits e
number_or_none bytes (Some n) some first is =
    let fits : n < 2 ^ 64 = rw is.1 is.0.1 in
    (fits, number_is bytes some first is.0.0 is.0.1 ∙ ap decimal (sym is.1))

-- a text is that of at most one number
pub same_number : (bytes : List ℕ) (m n limit : ℕ) → limit ≤ 2 ^ 64 → m < 2 ^ 64 → bytes ≡ decimal m → n < limit → bytes ≡ decimal n → m ≡ n
same_number bytes m n limit most fits is below other = decimal_injective m n fits (omega arith) (sym is ∙ other)

digit_below : (byte : ℕ) → IsInRange 48 57 byte → digit_value byte < 10
digit_below byte range = omega (arith, digit_value_digit byte range, range.0, range.1)

-- one more digit
pub one_digit : (bytes : List ℕ) (i n byte : ℕ) → i < length bytes → byte ≡ get_or bytes i 0 → IsInRange 48 57 byte → AllDigits 10 (take i bytes) → n ≡ digits_value 10 (take i bytes)
    → AllDigits 10 (take (i + 1) bytes) × (n * 10 + (byte - 48) ≡ digits_value 10 (take (i + 1) bytes))
one_digit bytes i n byte lt read range all is = (
  digits_more 10 bytes i lt all (rw (← read) (digit_below byte range)),
  omega (arith, digits_value_more 10 bytes i lt, is, digit_value_digit byte range, ap digit_value read),
)

pub not_a_digit : (bytes : List ℕ) (i byte : ℕ) → i < length bytes → byte ≡ get_or bytes i 0 → (IsInRange 48 57 byte → ⊥) → AllDigits 10 bytes → ⊥
not_a_digit bytes i byte lt read bad all = bad (rw read (digit_at bytes i all lt))

-- a number that is too large after some digits stays so
pub too_large : (bytes : List ℕ) (i n byte : ℕ) → i < length bytes → byte ≡ get_or bytes i 0 → IsInRange 48 57 byte → n ≡ digits_value 10 (take i bytes) → 2 ^ 64 ≤ n * 10 + (byte - 48) → 2 ^ 64 ≤ digits_value 10 bytes
too_large bytes i n byte lt read range is large =
    omega (arith, digits_value-take-le 10 bytes (i + 1) (omega arith), digits_value_more 10 bytes i lt, is, digit_value_digit byte range, ap digit_value read)
