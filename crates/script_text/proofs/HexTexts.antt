-- Hexadecimal texts: their length, their digits, and the bytes that they spell.
use Rattle.std.proofs.Common.{◌≡◌, ℕ, zero, suc, ◌+◌, ◌-◌, ◌*◌, ◌/◌, ◌%◌, ◌<◌, ◌≤◌, ◌⊎◌, inl, inr, List, [], ◌∷◌, length, take, slice_index, Result, Ok, Err, refl, sym, ap, ◌∙◌, length-take, arith}
use Rattle.std.specs.Prelude.{All, Bool, true, false, ◌↔◌, MatchBool, MatchResult}
use Rattle.std.proofs.lemmas.Bool.{cases_lt}
use Rattle.std.proofs.lemmas.List.Elements.{All-nil, All-cons, All-head, All-tail, All-same}
use Rattle.hex.specs.Hex.{IsBytes, lower_digits, encode_with, decode_sized}
use Rattle.hex.specs.declared.error.FromHexError.{FromHexError}
use Rattle.hex.proofs.HexLemmas.{length-encode_with, decode_sized-encode_lower, decode_of-encode_lower, decode_of-same}
use Rattle.script_text.specs.HexText.{hex_of, IsBlock, IsHex, IsDigit}

pub length-hex_of : (bytes : List ℕ) → length (hex_of bytes) ≡ 2 * length bytes
length-hex_of bytes = length-encode_with lower_digits bytes

-- the digits below ten
low_digit : (v : ℕ) → v < 10 → slice_index lower_digits v ≡ 48 + v
low_digit zero h = refl
low_digit (suc zero) h = refl
low_digit (suc (suc zero)) h = refl
low_digit (suc (suc (suc zero))) h = refl
low_digit (suc (suc (suc (suc zero)))) h = refl
low_digit (suc (suc (suc (suc (suc zero))))) h = refl
low_digit (suc (suc (suc (suc (suc (suc zero)))))) h = refl
low_digit (suc (suc (suc (suc (suc (suc (suc zero))))))) h = refl
low_digit (suc (suc (suc (suc (suc (suc (suc (suc zero)))))))) h = refl
low_digit (suc (suc (suc (suc (suc (suc (suc (suc (suc zero))))))))) h = refl
low_digit (suc (suc (suc (suc (suc (suc (suc (suc (suc (suc v)))))))))) h = absurd (omega arith)

-- the six digits above
high_digit : (v : ℕ) → v < 6 → slice_index lower_digits (10 + v) ≡ 97 + v
high_digit zero h = refl
high_digit (suc zero) h = refl
high_digit (suc (suc zero)) h = refl
high_digit (suc (suc (suc zero))) h = refl
high_digit (suc (suc (suc (suc zero)))) h = refl
high_digit (suc (suc (suc (suc (suc zero))))) h = refl
high_digit (suc (suc (suc (suc (suc (suc v)))))) h = absurd (omega arith)

digit_of : (v : ℕ) → v < 16 → IsDigit (slice_index lower_digits v)
digit_of v h = elim (cases_lt v 10) [
  | inl below ↦ let e = low_digit v below in inl (omega (arith, e), omega (arith, e))
  | inr above ↦
      let e = high_digit (v - 10) (omega arith) in
      let same : 10 + (v - 10) ≡ v = omega arith in
      let f = rw same at e in
      inr (omega (arith, f), omega (arith, f))
]

-- the value of a digit
value_of : (c : ℕ) → IsDigit c → (v : ℕ) × (v < 16) × (slice_index lower_digits v ≡ c)
value_of c (inl is) = (c - 48, omega arith, low_digit (c - 48) (omega arith) ∙ (omega arith))
value_of c (inr is) = (10 + (c - 97), omega arith, high_digit (c - 97) (omega arith) ∙ (omega arith))

IsBytes-cons : (b : ℕ) (rest : List ℕ) → b < 256 → IsBytes rest → IsBytes (b ∷ rest)
IsBytes-cons b rest h hs zero = h
IsBytes-cons b rest h hs (suc i) = hs i

-- an even number of digits spells bytes
pub bytes_of_digits : (text : List ℕ) → length text % 2 ≡ 0 → All IsDigit text → (bytes : List ℕ) × IsBytes bytes × (text ≡ hex_of bytes)
unfolding encode_with
bytes_of_digits [] even is = ([], (λ i. omega arith), refl)
bytes_of_digits (a ∷ []) even is = absurd (omega arith)
bytes_of_digits (a ∷ b ∷ rest) even is =
    let tail = All-tail IsDigit a (b ∷ rest) is in
    let high = value_of a (All-head IsDigit a (b ∷ rest) is) in
    let low = value_of b (All-head IsDigit b rest tail) in
    let more = bytes_of_digits rest (omega arith) (All-tail IsDigit b rest tail) in
    let byte : ℕ = high.0 * 16 + low.0 in
    let front : high.0 ≡ byte / 16 = omega arith in
    let back : low.0 ≡ byte % 16 = omega arith in
    let first : a ≡ slice_index lower_digits (byte / 16) = sym high.2 ∙ ap (slice_index lower_digits) front in
    let second : b ≡ slice_index lower_digits (byte % 16) = sym low.2 ∙ ap (slice_index lower_digits) back in
    (byte ∷ more.0, IsBytes-cons byte more.0 (omega arith) more.1, cc (first, second, more.2))

-- the text of bytes has only digits
digits_of_bytes : (bytes : List ℕ) → IsBytes bytes → All IsDigit (hex_of bytes)
unfolding encode_with
digits_of_bytes [] is = All-nil IsDigit
digits_of_bytes (b ∷ rest) is =
    let small : b < 256 = is 0 in
    let low : ℕ = slice_index lower_digits (b % 16) in
    let more = All-cons IsDigit low (hex_of rest) (digit_of (b % 16) (omega arith)) (digits_of_bytes rest (λ i. is (suc i))) in
    All-cons IsDigit (slice_index lower_digits (b / 16)) (low ∷ hex_of rest) (digit_of (b / 16) (omega arith)) more

-- digits of a suitable number are the text of bytes
pub is_text_of_bytes : (text : List ℕ) → 0 < length text → length text ≤ 2048 → length text % 2 ≡ 0 → All IsDigit text → IsHex text
is_text_of_bytes text some most even is =
    let made = bytes_of_digits text even is in
    let long : length text ≡ 2 * length made.0 = ap length made.2 ∙ length-hex_of made.0 in
    (made.0, (omega (arith, long), omega (arith, long), made.1), made.2)

pub hex_is_long : (text : List ℕ) → IsHex text → (0 < length text) × (length text ≤ 2048) × (length text % 2 ≡ 0)
hex_is_long text is =
    let long : length text ≡ 2 * length is.0 = ap length is.2 ∙ length-hex_of is.0 in
    (omega (arith, long, is.1.0), omega (arith, long, is.1.1), omega (arith, long))

pub hex_is_digits : (text : List ℕ) → IsHex text → All IsDigit text
hex_is_digits text is = All-same IsDigit text (hex_of is.0) is.2 (digits_of_bytes is.0 is.1.2)

-- a text with another byte than a digit, or with an odd number of digits, is that of no bytes
pub not_of_bytes : (text : List ℕ) → (length text % 2 ≡ 1) ⊎ (All IsDigit text → ⊥) → (bytes : List ℕ) → IsBytes bytes → text ≡ hex_of bytes → ⊥
not_of_bytes text (inl odd) bytes is same = let long : length text ≡ 2 * length bytes = ap length same ∙ length-hex_of bytes in omega (arith, long, odd)
not_of_bytes text (inr not) bytes is same = not (All-same IsDigit text (hex_of bytes) same (digits_of_bytes bytes is))

-- what the decoder makes of the text of bytes
pub read_whole : (text bytes : List ℕ) (result : Result Unit FromHexError) (out : List ℕ) (room : ℕ) → room ≡ length text / 2 → IsBytes bytes → text ≡ hex_of bytes
    → MatchResult (decode_sized text room) (λ bs. (result ≡ Ok tt) × (out ≡ bs)) (λ e. result ≡ Err e) → (result ≡ Ok tt) × (out ≡ bytes)
read_whole text bytes result out room half is says found =
    let long : length text ≡ 2 * length bytes = ap length says ∙ length-hex_of bytes in
    let count : room ≡ length bytes = omega (arith, long, half) in
    let read : decode_sized text (length bytes) ≡ Ok bytes = rw says (decode_sized-encode_lower bytes (length bytes) refl is) in
    rw read at (rw count at found)

-- what the decoder makes of such a text, in a front of the right length
pub decoded : (text bytes buf : List ℕ) (result : Result Unit FromHexError) (out : List ℕ) → IsBlock bytes → text ≡ hex_of bytes → length text ≤ 2 * length buf
    → MatchResult (decode_sized text (length (take (length text / 2) buf))) (λ bs. (result ≡ Ok tt) × (out ≡ bs)) (λ e. result ≡ Err e)
    → (result ≡ Ok tt) × (out ≡ bytes) × (length text / 2 ≡ length bytes)
decoded text bytes buf result out is says fits found =
    let long : length text ≡ 2 * length bytes = ap length says ∙ length-hex_of bytes in
    let half : length text / 2 ≡ length bytes = omega (arith, long) in
    let room : length (take (length text / 2) buf) ≡ length bytes = simp length-take (omega (arith, long)) in
    let read : decode_sized text (length bytes) ≡ Ok bytes = rw says (decode_sized-encode_lower bytes (length bytes) refl is.2) in
    let both = rw read at (rw room at found) in
    (both.0, both.1, half)

-- equal texts are those of equal bytes
pub hex_of_injective : (a b : List ℕ) → IsBytes a → IsBytes b → hex_of a ≡ hex_of b → a ≡ b
hex_of_injective a b is js same = decode_of-same (hex_of a) a b (decode_of-encode_lower a is) (rw same (decode_of-encode_lower b js))

-- a text of the right length is one of bytes if it has only digits
pub hex_by_digits : (text : List ℕ) (result : Bool) → 0 < length text → length text ≤ 2048 → (length text % 2 ≡ 1 → ⊥) → (result ≡ true) ↔ All IsDigit text → MatchBool result (IsHex text) (IsHex text → ⊥)
hex_by_digits text true some most even says = is_text_of_bytes text some most (omega (arith, even)) (says.0 refl)
hex_by_digits text false some most even says = λ is. cc (says.1 (hex_is_digits text is))
