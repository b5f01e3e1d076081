-- What bytes say, and that a slot's own bytes say it.
use Rattle.std.proofs.Common.{◌≡◌, ℕ, zero, suc, ◌+◌, ◌-◌, ◌*◌, ◌/◌, ◌%◌, ◌^◌, ◌<◌, ◌≤◌, inl, inr, Bool, true, List, [], ◌∷◌, ◌++◌, length, take, drop, replicate, Option, Some, None, refl, sym, ◌∙◌, ap, subst, arith}
use Rattle.std.specs.Prelude.{slice_index, nat_le, ◌&&◌}
use Rattle.std.specs.List.{list_all}
use Rattle.std.specs.Option.{SomeIff, option_map}
use Rattle.std.proofs.lemmas.Bool.{and_parts, and_from, cases_eq, leb-true, le-leb, lt-leb, ne_eqb, false_from_ne_true}
use Rattle.std.proofs.lemmas.List.{get_or-drop, length-drop, length-take-le, length-append, append-nil, take_at, drop_at, length-replicate, drop-replicate}
use Rattle.byteorder.specs.Endian.{little_from, little_bytes}
use Rattle.byteorder.specs.Numbers.{little_from-take, little_from-cons, little_number-reads_back, length-bytes_low_first}
use Rattle.record_slots.specs.Text.{IsValue, is_visible}
use Rattle.record_slots.specs.Free.{free_said}
use Rattle.record_slots.specs.Slots.{text_said, value_said, state_said, slot_said, slot_bytes, IsSlot}
use Rattle.record_slots.specs.declared.free.Free.{Free}
use Rattle.record_slots.specs.declared.slot.Slot.{Slot}
use Rattle.record_slots.specs.declared.slot.Slot.TheVariants.{Absent, Present}

-- a number behind k bytes
pub little_shift : (i k n : ℕ) (xs : List ℕ) → little_from i n (drop k xs) ≡ little_from (k + i) n xs
little_shift i k zero xs = refl
little_shift i k (suc n) xs =
    let here = get_or-drop k xs i 0 in
    let rest : little_from (suc i) n (drop k xs) ≡ little_from (suc (k + i)) n xs = little_shift (suc i) k n xs ∙ ap (λ (j : ℕ). little_from j n xs) (omega arith) in
    cc

-- the number that is read behind the first two bytes is the key
pub key_read : (bytes : List ℕ) → little_from 0 8 (take 62 (drop 2 bytes)) ≡ little_from 2 8 bytes
key_read bytes = little_from-take 0 8 62 (drop 2 bytes) (omega arith) ∙ little_shift 0 2 8 bytes

-- the test on the length and on the text
abbrev pub is_value_said : List ℕ → Bool
is_value_said bytes = nat_le 1 (slice_index bytes 1) && (nat_le (slice_index bytes 1) 54 && list_all is_visible (text_said bytes))

pub some_said : (bytes : List ℕ) → is_value_said bytes ≡ true → value_said bytes ≡ Some (text_said bytes)
unfolding value_said
some_said bytes e = rw e refl

pub none_said : (bytes : List ℕ) → (is_value_said bytes ≡ true → ⊥) → value_said bytes ≡ None
unfolding value_said
none_said bytes h = let e = false_from_ne_true (is_value_said bytes) h in rw e refl

pub length-text_said : (bytes : List ℕ) → length bytes ≡ 64 → slice_index bytes 1 ≤ 54 → length (text_said bytes) ≡ slice_index bytes 1
length-text_said bytes long fits = length-take-le (slice_index bytes 1) (drop 10 bytes) (omega (arith, length-drop 10 bytes))

-- what the test says of 64 bytes
module _ (bytes : List ℕ) where
  pub short_said : is_value_said bytes ≡ true → slice_index bytes 1 ≤ 54
  short_said e = leb-true (slice_index bytes 1) 54 (and_parts _ _ (and_parts _ _ e).1).0

  value_passes : length bytes ≡ 64 → slice_index bytes 1 ≤ 54 → IsValue (text_said bytes) → is_value_said bytes ≡ true
  value_passes long fits value =
      let len = length-text_said bytes long fits in
      and_from _ _ (le-leb 1 (slice_index bytes 1) (omega (arith, value.some))) (and_from _ _ (le-leb (slice_index bytes 1) 54 fits) value.visible)

  passes_value : length bytes ≡ 64 → is_value_said bytes ≡ true → IsValue (text_said bytes)
  passes_value long e =
      let fits = short_said e in
      let len = length-text_said bytes long fits in
      let some = leb-true 1 (slice_index bytes 1) (and_parts _ _ e).0 in
      record { some = omega arith; short = omega arith; visible = (and_parts _ _ (and_parts _ _ e).1).1 }

-- a length above 54 is that of no value
pub value_said-long : (bytes : List ℕ) → 54 < slice_index bytes 1 → value_said bytes ≡ None
value_said-long bytes long = none_said bytes (λ e. let fits = short_said bytes e in omega arith)

-- what is known of the text from byte 10 on gives what the bytes say
pub value_said-some : (bytes : List ℕ) → length bytes ≡ 64 → slice_index bytes 1 ≤ 54 → IsValue (text_said bytes) → value_said bytes ≡ Some (text_said bytes)
value_said-some bytes long fits value = some_said bytes (value_passes bytes long fits value)

pub value_said-none : (bytes : List ℕ) → length bytes ≡ 64 → (IsValue (text_said bytes) → ⊥) → value_said bytes ≡ None
value_said-none bytes long refused = none_said bytes (λ e. refused (passes_value bytes long e))

-- what `Value::of` answers at that text is what the bytes say
pub value_said-of : (bytes text : List ℕ) (answer : Option (List ℕ)) → length bytes ≡ 64 → slice_index bytes 1 ≤ 54 → text ≡ text_said bytes
    → SomeIff answer (IsValue text) text → answer ≡ value_said bytes
value_said-of bytes text None long fits there refused = sym (value_said-none bytes long (λ value. refused (subst IsValue (sym there) value)))
value_said-of bytes text (Some value) long fits there is = ap Some (is.1 ∙ there) ∙ sym (value_said-some bytes long fits (subst IsValue there is.0))

-- the three kinds of state byte
pub slot_said-absent : (bytes : List ℕ) → state_said bytes < 16 → state_said bytes % 2 ≡ 0 → slot_said bytes ≡ Some (Absent (state_said bytes / 2) (little_from 2 8 bytes))
unfolding slot_said
slot_said-absent bytes small even = rw (lt-leb 16 (state_said bytes) small, even) refl

pub slot_said-present : (bytes : List ℕ) → state_said bytes < 16 → (state_said bytes % 2 ≡ 0 → ⊥) → slot_said bytes ≡ option_map (Present (state_said bytes / 2) (little_from 2 8 bytes)) (value_said bytes)
unfolding slot_said
slot_said-present bytes small odd = rw (lt-leb 16 (state_said bytes) small, ne_eqb (state_said bytes % 2) 0 odd) refl

pub slot_said-other : (bytes : List ℕ) → 16 ≤ state_said bytes → slot_said bytes ≡ None
unfolding slot_said
slot_said-other bytes large = rw (le-leb 16 (state_said bytes) large) refl

-- what says that it is free, and what does not
pub free_slot_is : (bytes : List ℕ) → slice_index bytes 0 ≡ 0xF0 → free_said 0xF0 2 bytes ≡ Some (record { next = little_from 2 4 bytes; rank = little_from 6 4 bytes })
unfolding free_said
free_slot_is bytes e = rw e refl

pub no_free_slot : (bytes : List ℕ) → (slice_index bytes 0 ≡ 0xF0 → ⊥) → free_said 0xF0 2 bytes ≡ None
unfolding free_said
no_free_slot bytes ne = rw (ne_eqb (slice_index bytes 0) 0xF0 ne) refl

pub free_page_is : (bytes : List ℕ) → slice_index bytes 0 ≡ 0xFF → free_said 0xFF 4 bytes ≡ Some (record { next = little_from 4 4 bytes; rank = little_from 8 4 bytes })
unfolding free_said
free_page_is bytes e = rw e refl

pub no_free_page : (bytes : List ℕ) → (slice_index bytes 0 ≡ 0xFF → ⊥) → free_said 0xFF 4 bytes ≡ None
unfolding free_said
no_free_page bytes ne = rw (ne_eqb (slice_index bytes 0) 0xFF ne) refl

-- a free slot is of no table
pub free_says_none : (bytes : List ℕ) (free : Free) → free_said 0xF0 2 bytes ≡ Some free → slot_said bytes ≡ None
free_says_none bytes free is =
    elim (cases_eq (state_said bytes) 0xF0) [
      | inl e ↦ slot_said-other bytes (omega (arith, e))
      | inr ne ↦ absurd (let h : Some free ≡ None = sym is ∙ no_free_slot bytes ne in cc)
    ]

-- the key behind the first two bytes
key_behind : (a b key : ℕ) (rest : List ℕ) → key < 2 ^ 64 → little_from 2 8 (a ∷ b ∷ (little_bytes 8 key ++ rest)) ≡ key
key_behind a b key rest fits =
    little_from-cons 1 8 a (b ∷ (little_bytes 8 key ++ rest)) ∙ little_from-cons 0 8 b (little_bytes 8 key ++ rest) ∙ little_number-reads_back 8 key rest fits

-- the bytes of a present slot, before they are named
with_value : ℕ → ℕ → List ℕ → List ℕ
with_value state key value = state ∷ length value ∷ (little_bytes 8 key ++ (value ++ replicate (54 - length value) 0))

text_behind : (state key : ℕ) (value : List ℕ) → text_said (with_value state key value) ≡ value
unfolding with_value
text_behind state key value =
    ap (λ (l : List ℕ). take (length value) l) (drop_at (little_bytes 8 key) _ 8 (length-bytes_low_first 0 8 key))
    ∙ take_at value _ (length value) refl

length-with_value : (state key : ℕ) (value : List ℕ) → length value ≤ 54 → length (with_value state key value) ≡ 64
unfolding with_value
length-with_value state key value short =
    omega (arith, length-append (little_bytes 8 key) (value ++ replicate (54 - length value) 0), length-append value (replicate (54 - length value) 0), length-replicate {A = ℕ} (54 - length value) 0, length-bytes_low_first 0 8 key)

value_behind : (state key : ℕ) (value : List ℕ) → IsValue value → value_said (with_value state key value) ≡ Some value
value_behind state key value is =
    let text = text_behind state key value in
    value_said-some (with_value state key value) (length-with_value state key value is.short) (unfold with_value in is.short) (rw text is) ∙ ap Some text

-- the state of a table's slot
even_state : (table : ℕ) → (2 * table % 2 ≡ 0) × (2 * table / 2 ≡ table)
even_state table = (omega arith, omega arith)

odd_state : (table : ℕ) → ((2 * table + 1) % 2 ≡ 1) × ((2 * table + 1) / 2 ≡ table)
odd_state table = (omega arith, omega arith)

-- A slot's own bytes say it.
pub slot_said-slot_bytes : (slot : Slot) → IsSlot slot → slot_said (slot_bytes slot) ≡ Some slot
unfolding slot_bytes with_value
slot_said-slot_bytes (Absent table key) fits =
    let bytes : List ℕ = (2 * table) ∷ 0 ∷ (little_bytes 8 key ++ replicate 54 0) in
    let half : state_said bytes / 2 ≡ table = (even_state table).1 in
    slot_said-absent bytes (omega (arith, fits.0)) (even_state table).0 ∙ (λ i. Some (Absent (half i) (key_behind (2 * table) 0 key (replicate 54 0) fits.1 i)))
slot_said-slot_bytes (Present table key value) fits =
    let bytes = with_value (2 * table + 1) key value in
    let half : state_said bytes / 2 ≡ table = (odd_state table).1 in
    slot_said-present bytes (omega (arith, fits.0)) (λ (even : state_said bytes % 2 ≡ 0). omega (arith, even, (odd_state table).0))
    ∙ (λ i. option_map (Present (half i) (key_behind (2 * table + 1) (length value) key (value ++ replicate (54 - length value) 0) fits.1 i)) (value_behind (2 * table + 1) key value fits.2 i))

-- there are 64 of them
pub length-slot_bytes : (slot : Slot) → IsSlot slot → length (slot_bytes slot) ≡ 64
unfolding slot_bytes with_value
length-slot_bytes (Absent table key) fits = omega (arith, length-append (little_bytes 8 key) (replicate 54 0), length-bytes_low_first 0 8 key)
length-slot_bytes (Present table key value) fits = length-with_value (2 * table + 1) key value fits.2.short

-- what the writer's steps leave are the bytes of the slot
pub absent_written : (table key : ℕ) (buf : List ℕ) → buf ≡ little_bytes 8 key ++ replicate 54 0 → (2 * table) ∷ 0 ∷ (buf ++ []) ≡ slot_bytes (Absent table key)
unfolding slot_bytes
absent_written table key buf e = rw (append-nil buf) (ap (λ (l : List ℕ). (2 * table) ∷ 0 ∷ l) e)

pub present_written : (table key : ℕ) (value buf copied : List ℕ) → buf ≡ little_bytes 8 key ++ replicate 54 0 → copied ≡ value
    → (2 * table + 1) ∷ length value ∷ (take 8 (buf ++ []) ++ (copied ++ drop (10 + length value - 10) (drop 8 (buf ++ [])))) ≡ slot_bytes (Present table key value)
unfolding slot_bytes
present_written table key value buf copied written same =
    let eight = length-bytes_low_first 0 8 key in
    let places : 10 + length value - 10 ≡ length value = omega arith in
    let front : take 8 (buf ++ []) ≡ little_bytes 8 key = rw (append-nil buf, written) (take_at (little_bytes 8 key) (replicate 54 0) 8 eight) in
    let back : drop 8 (buf ++ []) ≡ replicate 54 0 = rw (append-nil buf, written) (drop_at (little_bytes 8 key) (replicate 54 0) 8 eight) in
    rw (front, back, same, places, drop-replicate {X = ℕ} (length value) 54 0) refl
