-- Bytes that say a slot are those with which it is written, if all that says nothing in them is zero.
use Rattle.std.proofs.Common.{◌≡◌, ℕ, zero, suc, ◌+◌, ◌-◌, ◌*◌, ◌/◌, ◌%◌, ◌^◌, ◌<◌, ◌≤◌, true, List, ◌∷◌, ◌++◌, length, get_or, take, drop, replicate, Some, None, inl, inr, refl, sym, ◌∙◌, ap, subst, zero-add, arith}
use Rattle.std.specs.Prelude.{slice_index}
use Rattle.std.specs.Option.{option_map}
use Rattle.std.specs.Int.{byte_at, bytes_low_first}
use Rattle.std.proofs.Math.Nat.{add-mul-div_left, add-mul-mod_self_left, div-div-eq-div-mul, div-eq_of_lt, div-one, mod-eq_of_lt, pow-succ'}
use Rattle.std.proofs.Math.Seq.{drop-cons}
use Rattle.std.proofs.lemmas.Bool.{cases_eq, cases_lt, cases_Bool, false≢true}
use Rattle.std.proofs.lemmas.List.{drop-drop, take-append-drop}
use Rattle.byteorder.specs.Endian.{little_from, little_bytes}
use Rattle.record_slots.specs.Slots.{text_said, state_said, slot_said, slot_bytes, IsPlain}
use Rattle.record_slots.specs.declared.slot.Slot.{Slot}
use Rattle.record_slots.specs.declared.slot.Slot.TheVariants.{Absent, Present}
use Rattle.record_slots.proofs.SlotLemmas.{is_value_said, some_said, none_said, short_said, length-text_said, slot_said-absent, slot_said-present, slot_said-other}

byte_at-pow : (i x : ℕ) → byte_at i x ≡ x / 256 ^ i % 256
byte_at-pow zero x = ap (λ (y : ℕ). y % 256) (sym (div-one x))
byte_at-pow (suc i) x = refl

-- a byte in front moves the others on
byte_at-shift : (i b r : ℕ) → b < 256 → byte_at (suc i) (b + 256 * r) ≡ byte_at i r
byte_at-shift i b r small =
    let rest : (b + 256 * r) / 256 ≡ r = add-mul-div_left b r (omega arith) ∙ ap (λ (q : ℕ). q + r) (div-eq_of_lt small) ∙ zero-add r in
    ap (λ (p : ℕ). (b + 256 * r) / p % 256) (pow-succ' 256 i) ∙ ap (λ (y : ℕ). y % 256) (sym (div-div-eq-div-mul (b + 256 * r) 256 (256 ^ i)))
    ∙ ap (λ (y : ℕ). y / 256 ^ i % 256) rest ∙ sym (byte_at-pow i r)

bytes_low_first-shift : (i n b r : ℕ) → b < 256 → bytes_low_first (suc i) n (b + 256 * r) ≡ bytes_low_first i n r
bytes_low_first-shift i zero b r small = refl
bytes_low_first-shift i (suc n) b r small =
    let first = byte_at-shift i b r small in
    let others = bytes_low_first-shift (suc i) n b r small in
    λ j. first j ∷ others j

-- the bytes of a number that was read are those that it was read from
pub bytes-little_from : (i n : ℕ) (xs : List ℕ) → i + n ≤ length xs → ((k : ℕ) → slice_index xs k < 256) → bytes_low_first 0 n (little_from i n xs) ≡ take n (drop i xs)
bytes-little_from i zero xs long small = refl
bytes-little_from i (suc n) xs long small =
    let b = slice_index xs i in
    let r = little_from (suc i) n xs in
    let first : (b + 256 * r) % 256 ≡ b = add-mul-mod_self_left b 256 r ∙ mod-eq_of_lt (small i) in
    let others : bytes_low_first 1 n (b + 256 * r) ≡ take n (drop (suc i) xs) = bytes_low_first-shift 0 n b r (small i) ∙ bytes-little_from (suc i) n xs (omega arith) small in
    let split : drop i xs ≡ get_or xs i 0 ∷ drop (suc i) xs = drop-cons xs i 0 (omega arith) in
    (λ j. first j ∷ others j) ∙ ap (take (suc n)) (sym split)

-- state, length and key, and the rest
front : (bytes : List ℕ) → IsPlain bytes → slice_index bytes 0 ∷ slice_index bytes 1 ∷ (little_bytes 8 (little_from 2 8 bytes) ++ drop 10 bytes) ≡ bytes
front bytes plain =
    let long = plain.size in
    let key = bytes-little_from 2 8 bytes (omega arith) plain.fits in
    let room : drop 8 (drop 2 bytes) ≡ drop 10 bytes = drop-drop 8 2 bytes in
    let two : take 8 (drop 2 bytes) ++ drop 10 bytes ≡ drop 2 bytes = ap (λ (l : List ℕ). take 8 (drop 2 bytes) ++ l) (sym room) ∙ take-append-drop 8 (drop 2 bytes) in
    ap (λ (l : List ℕ). slice_index bytes 0 ∷ slice_index bytes 1 ∷ (l ++ drop 10 bytes)) key ∙ ap (λ (l : List ℕ). slice_index bytes 0 ∷ slice_index bytes 1 ∷ l) two
    ∙ ap (λ (l : List ℕ). slice_index bytes 0 ∷ l) (sym (drop-cons bytes 1 0 (omega arith))) ∙ sym (drop-cons bytes 0 0 (omega arith))

-- the state is that of the table which it says
halves : (n : ℕ) → n % 2 ≡ 0 → 2 * (n / 2) ≡ n
halves n even = omega arith

odd_halves : (n : ℕ) → (n % 2 ≡ 0 → ⊥) → 2 * (n / 2) + 1 ≡ n
odd_halves n odd = elim (cases_eq (n % 2) 0) [ inl even ↦ absurd (odd even) | inr other ↦ omega arith ]

absent_back : (bytes : List ℕ) → IsPlain bytes → state_said bytes % 2 ≡ 0 → slot_bytes (Absent (state_said bytes / 2) (little_from 2 8 bytes)) ≡ bytes
unfolding slot_bytes
absent_back bytes plain even =
    let none = plain.absent even in
    let state = halves (state_said bytes) even in
    let room : drop 10 bytes ≡ replicate 54 0 = subst (λ (n : ℕ). drop (10 + n) bytes ≡ replicate (54 - n) 0) none plain.padded in
    (λ j. state j ∷ sym none j ∷ (little_bytes 8 (little_from 2 8 bytes) ++ sym room j)) ∙ front bytes plain

present_back : (bytes : List ℕ) → IsPlain bytes → (state_said bytes % 2 ≡ 0 → ⊥) → is_value_said bytes ≡ true → slot_bytes (Present (state_said bytes / 2) (little_from 2 8 bytes) (text_said bytes)) ≡ bytes
unfolding slot_bytes
present_back bytes plain odd value =
    let n = slice_index bytes 1 in
    let state = odd_halves (state_said bytes) odd in
    let len = length-text_said bytes plain.size (short_said bytes value) in
    let behind : replicate (54 - length (text_said bytes)) 0 ≡ drop n (drop 10 bytes) = ap (λ (m : ℕ). replicate (54 - m) 0) len ∙ sym plain.padded ∙ sym (drop-drop n 10 bytes) in
    let room : text_said bytes ++ replicate (54 - length (text_said bytes)) 0 ≡ drop 10 bytes = ap (λ (l : List ℕ). text_said bytes ++ l) behind ∙ take-append-drop n (drop 10 bytes) in
    (λ j. state j ∷ len j ∷ (little_bytes 8 (little_from 2 8 bytes) ++ room j)) ∙ front bytes plain

some_is : {X : Type 0} {x y : X} → Some x ≡ Some y → x ≡ y
some_is e = cc

pub slot_bytes-slot_said : (bytes : List ℕ) (slot : Slot) → IsPlain bytes → slot_said bytes ≡ Some slot → slot_bytes slot ≡ bytes
slot_bytes-slot_said bytes slot plain says =
    elim (cases_lt (state_said bytes) 16) [
      | inr large ↦ absurd (let h : Some slot ≡ None = sym says ∙ slot_said-other bytes large in cc)
      | inl small ↦ elim (cases_eq (state_said bytes % 2) 0) [
        | inl even ↦ ap slot_bytes (some_is (sym says ∙ slot_said-absent bytes small even)) ∙ absent_back bytes plain even
        | inr odd ↦ elim (cases_Bool (is_value_said bytes)) [
          | inl value ↦ ap slot_bytes (some_is (sym says ∙ slot_said-present bytes small odd ∙ ap (option_map (Present (state_said bytes / 2) (little_from 2 8 bytes))) (some_said bytes value))) ∙ present_back bytes plain odd value
          | inr broken ↦ absurd (let h : Some slot ≡ None = sym says ∙ slot_said-present bytes small odd ∙ ap (option_map (Present (state_said bytes / 2) (little_from 2 8 bytes))) (none_said bytes (λ e. false≢true (sym broken ∙ e))) in cc)
        ]
      ]
    ]
