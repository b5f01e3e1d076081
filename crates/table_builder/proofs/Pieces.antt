-- Bytes that are written piece by piece.
use Rattle.std.proofs.Common.{◌≡◌, ℕ, zero, suc, ◌+◌, ◌-◌, ◌*◌, ◌^◌, ◌<◌, ◌≤◌, List, [], ◌∷◌, ◌++◌, length, get_or, take, drop, replicate, refl, sym, ◌∙◌, ap, append_assoc, arith}
use Rattle.std.specs.Prelude.{None, Some, slice_get}
use Rattle.std.proofs.lemmas.List.{drop-replicate, drop_all, drop_at, length-append, length-drop, length-take, take-append-drop, take_at}
use Rattle.record_slots.specs.Slots.{slot_bytes}
use Rattle.record_slots.specs.Super.{entry_bytes}
use Rattle.record_slots.specs.declared.slot.Slot.{Slot}
use Rattle.record_slots.specs.declared.slot.Slot.TheVariants.{Present}
use Rattle.history.specs.Rows.{NamedRows}
use Rattle.history.specs.Writes.{Row}
use Rattle.table_builder.specs.Plan.{entries_bytes, entries_from, rows_count, slots_bytes, slots_from, slots_page}
use Rattle.table_builder.proofs.Placing.{length-slots_for, length-slots_from, slots_for}
use Rattle.table_builder.proofs.Planning.{get_left, get_right}

-- a piece that is put behind those before it
module _ (width at n : ℕ) (out piece : List ℕ) (inside : at ≤ length out) (long : length piece ≡ width) (size : n ≡ width) where
  abbrev pub after : List ℕ
  after = take at out ++ (piece ++ drop n (drop at out))

  whole : after ≡ (take at out ++ piece) ++ drop n (drop at out)
  whole = sym (append_assoc (take at out) piece (drop n (drop at out)))

  front : length (take at out ++ piece) ≡ at + width
  front = omega (arith, length-append (take at out) piece, length-take at out, inside, long)

  pub piece_in : take (at + width) after ≡ take at out ++ piece
  piece_in = ap (take (at + width)) whole ∙ take_at (take at out ++ piece) (drop n (drop at out)) (at + width) front

  pub piece_behind : drop (at + width) after ≡ drop width (drop at out)
  piece_behind = ap (drop (at + width)) whole ∙ drop_at (take at out ++ piece) (drop n (drop at out)) (at + width) front ∙ ap (λ (m : ℕ). drop m (drop at out)) size

-- one piece more, where zeros were
module _ (width total at next n : ℕ) (out piece bytes rest all : List ℕ) (far : next ≡ at + width) (inside : at ≤ length out) (long : length piece ≡ width) (size : n ≡ width) where
  abbrev put_in : List ℕ
  put_in = take at out ++ (piece ++ drop n (drop at out))

  pub more_in : piece ≡ bytes → take at out ++ (bytes ++ rest) ≡ all → take next (take at out ++ (piece ++ drop n (drop at out))) ++ rest ≡ all
  more_in same is =
      ap (λ (m : ℕ). take m put_in ++ rest) far ∙ ap (λ (l : List ℕ). l ++ rest) (piece_in width at n out piece inside long size)
      ∙ append_assoc (take at out) piece rest ∙ ap (λ (l : List ℕ). take at out ++ (l ++ rest)) same ∙ is

  pub more_behind : drop at out ≡ replicate (total - at) 0 → drop next (take at out ++ (piece ++ drop n (drop at out))) ≡ replicate (total - next) 0
  more_behind is =
      ap (λ (m : ℕ). drop m put_in) far ∙ piece_behind width at n out piece inside long size ∙ ap (drop width) is ∙ drop-replicate width (total - at) 0
      ∙ ap (λ (m : ℕ). replicate m 0) (let e : total - at - width ≡ total - next = omega (arith, far) in e)

  pub more_long : at + width ≤ length out → length (take at out ++ (piece ++ drop n (drop at out))) ≡ length out
  more_long le =
      omega (
        arith,
        le,
        long,
        size,
        length-append (take at out) (piece ++ drop n (drop at out)),
        length-append piece (drop n (drop at out)),
        length-take at out,
        length-drop n (drop at out),
        length-drop at out,
      )

-- behind the last of them are zeros
pub pieces_done : (size n : ℕ) (out all : List ℕ) → length out ≡ size → n ≤ size → take n out ≡ all → drop n out ≡ replicate (size - n) 0 → out ≡ all ++ replicate (size - length all) 0
pieces_done size n out all long le is rest =
    let count : length all ≡ n = ap length (sym is) ∙ length-take n out ∙ omega (arith, long, le) in
    sym (take-append-drop n out) ∙ (λ i. is i ++ rest i) ∙ ap (λ (m : ℕ). all ++ replicate (size - m) 0) (sym count)

-- ---- items of lists

pub get_read : {X : Type 0} (xs : List X) (n : ℕ) (x d : X) → n < length xs → x ≡ get_or xs n d → slice_get xs n ≡ Some x
get_read [] n x d lt is = absurd (omega (arith, lt))
get_read (y ∷ xs) zero x d lt is = ap Some (sym is)
get_read (y ∷ xs) (suc n) x d lt is = get_read xs n x d (omega (arith, lt)) is

pub same_item : {X : Type 0} (x y : X) → Some x ≡ Some y → x ≡ y
same_item x y e = cc

pub drop_get : {X : Type 0} (xs : List X) (n : ℕ) (x : X) → slice_get xs n ≡ Some x → drop n xs ≡ x ∷ drop (n + 1) xs
drop_get [] n x is = absurd (cc)
drop_get (y ∷ xs) zero x is = let e : y ≡ x = cc in ap (λ z. z ∷ xs) e
drop_get (y ∷ xs) (suc n) x is = drop_get xs n x is ∙ ap (λ (m : ℕ). x ∷ drop m (y ∷ xs)) (let e : suc (n + 1) ≡ suc n + 1 = omega arith in e)

pub drop_past : {X : Type 0} (xs : List X) (n : ℕ) → slice_get xs n ≡ None → drop n xs ≡ []
drop_past [] zero is = refl
drop_past [] (suc n) is = refl
drop_past (y ∷ xs) zero is = absurd (cc)
drop_past (y ∷ xs) (suc n) is = drop_past xs n is

pub drop_item : {X : Type 0} (xs : List X) (n : ℕ) (x d : X) → n < length xs → x ≡ get_or xs n d → drop n xs ≡ x ∷ drop (n + 1) xs
drop_item xs n x d lt is = drop_get xs n x (get_read xs n x d lt is)

-- ---- entries

pub entries_more : (tables : List NamedRows) (j : ℕ) (table : NamedRows) → j < length tables → table ≡ get_or tables j table
    → entries_bytes (entries_from (1 + j) (drop j tables)) ≡ entry_bytes (record { name = table.0; root = 1 + j }) ++ entries_bytes (entries_from (1 + (j + 1)) (drop (j + 1) tables))
entries_more tables j table lt is =
    ap (λ (l : List NamedRows). entries_bytes (entries_from (1 + j) l)) (drop_item tables j table table lt is)
    ∙ ap (λ (n : ℕ). entry_bytes (record { name = table.0; root = 1 + j }) ++ entries_bytes (entries_from n (drop (j + 1) tables))) (let e : suc (1 + j) ≡ 1 + (j + 1) = omega arith in e)

pub entries_past : (tables : List NamedRows) (j : ℕ) → length tables ≤ j → entries_bytes (entries_from (1 + j) (drop j tables)) ≡ []
entries_past tables j past = ap (λ (l : List NamedRows). entries_bytes (entries_from (1 + j) l)) (drop_all j tables past)

-- ---- slots

pub slots_more : (all : List Slot) (from j : ℕ) (slot : Slot) → j < 8 → slice_get all (from + j) ≡ Some slot
    → slots_bytes (take (8 - j) (drop (from + j) all)) ≡ slot_bytes slot ++ slots_bytes (take (8 - (j + 1)) (drop (from + (j + 1)) all))
slots_more all from j slot lt is =
    ap (λ (l : List Slot). slots_bytes (take (8 - j) l)) (drop_get all (from + j) slot is)
    ∙ ap (λ (m : ℕ). slots_bytes (take m (slot ∷ drop (from + j + 1) all))) (let e : 8 - j ≡ suc (8 - (j + 1)) = omega (arith, lt) in e)
    ∙ ap (λ (m : ℕ). slot_bytes slot ++ slots_bytes (take (8 - (j + 1)) (drop m all))) (let e : from + j + 1 ≡ from + (j + 1) = omega arith in e)

take_none : {X : Type 0} (n : ℕ) (xs : List X) → xs ≡ [] → take n xs ≡ []
take_none zero xs is = refl
take_none (suc n) [] is = refl
take_none (suc n) (x ∷ xs) is = absurd (cc)

pub slots_past : (all : List Slot) (n m : ℕ) → slice_get all n ≡ None → slots_bytes (take m (drop n all)) ≡ []
slots_past all n m is = ap slots_bytes (take_none m (drop n all) (drop_past all n is))

-- behind all slots a page is zero
pub slots_beyond : (tables : List NamedRows) (k : ℕ) → rows_count tables < 2 ^ 32 → 2 ^ 32 ≤ k → replicate 512 0 ≡ slots_page tables k
unfolding slots_page
slots_beyond tables k few past =
    let none : take 8 (drop (8 * k) (slots_from 0 tables)) ≡ [] =
    take_none 8 (drop (8 * k) (slots_from 0 tables)) (drop_all (8 * k) (slots_from 0 tables) (omega (arith, length-slots_from 0 tables, few, past))) in
    sym (ap (λ (slots : List Slot). slots_bytes slots ++ replicate (512 - length (slots_bytes slots)) 0) none)

-- ---- the slot of a number

module _ (number left : ℕ) (table : NamedRows) (tables : List NamedRows) where
  get_row : (n : ℕ) (rows : List Row) (k : ℕ) (d : Row) → k < length rows → slice_get (slots_for n rows) k ≡ Some (Present n (get_or rows k d).0 (get_or rows k d).1)
  get_row n [] k d lt = absurd (omega (arith, lt))
  get_row n (row ∷ rows) zero d lt = refl
  get_row n (row ∷ rows) (suc k) d lt = get_row n rows k d (omega (arith, lt))

  pub slot_here : (d : Row) → left < length table.1 → slice_get (slots_from number (table ∷ tables)) left ≡ Some (Present number (get_or table.1 left d).0 (get_or table.1 left d).1)
  slot_here d lt = get_left (slots_for number table.1) (slots_from (suc number) tables) left _ (get_row number table.1 left d lt)

  pub slot_later : length table.1 ≤ left → slice_get (slots_from number (table ∷ tables)) left ≡ slice_get (slots_from (suc number) tables) (left - length table.1)
  slot_later le =
      ap (slice_get (slots_from number (table ∷ tables))) (let e : left ≡ length (slots_for number table.1) + (left - length table.1) = omega (arith, length-slots_for number table.1, le) in e)
      ∙ get_right (slots_for number table.1) (slots_from (suc number) tables) (left - length table.1)

-- so it is found, or is one of those of the tables behind
module _ (tables : List NamedRows) (number left slot : ℕ) (table : NamedRows) (rest : List NamedRows) (rows : List Row) (split : drop number tables ≡ table ∷ rest) (same : rows ≡ table.1)
    (is : slice_get (slots_from number (drop number tables)) left ≡ slice_get (slots_from 0 tables) slot) where
  first : slice_get (slots_from number (table ∷ rest)) left ≡ slice_get (slots_from 0 tables) slot
  first = ap (λ (ts : List NamedRows). slice_get (slots_from number ts) left) (sym split) ∙ is

  pub slot_found : (row : Row) → row ≡ get_or rows left row → left < length rows → Some (Present number row.0 row.1) ≡ slice_get (slots_from 0 tables) slot
  slot_found row read lt =
      let e : row ≡ get_or table.1 left row = read ∙ ap (λ (rs : List Row). get_or rs left row) same in
      let many : left < length table.1 = omega (arith, lt, ap length same) in
      ap (λ (r : Row). Some (Present number r.0 r.1)) e ∙ sym (slot_here number left table rest row many) ∙ first

  pub slot_behind : length rows ≤ left → slice_get (slots_from (number + 1) rest) (left - length rows) ≡ slice_get (slots_from 0 tables) slot
  slot_behind le =
      let next : number + 1 ≡ suc number = omega arith in
      (λ i. slice_get (slots_from (next i) rest) (left - length (same i))) ∙ sym (slot_later number left table rest (omega (arith, le, ap length same))) ∙ first
