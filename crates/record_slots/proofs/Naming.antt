-- The names of used entries, and a last entry that is added.
use Rattle.std.proofs.Common.{◌≡◌, ◌≢◌, ◌^◌, ℕ, zero, suc, ◌+◌, ◌-◌, ◌*◌, ◌<◌, ◌≤◌, ◌⊎◌, true, false, ◌&&◌, inl, inr, List, [], ◌∷◌, ◌++◌, length, take, drop, replicate, Option, Some, None, refl, sym, ◌∙◌, ap, subst, append_assoc, arith}
use Rattle.std.specs.Prelude.{slice_index, slice_get}
use Rattle.std.specs.Option.{option_map}
use Rattle.std.proofs.lemmas.Bool.{cases_eq, false≢true, ne_eqb, and_parts, and_from, leb-true, le-leb}
use Rattle.std.proofs.lemmas.List.{drop-drop, drop-replicate, get_or_append_left, take_at, drop_at, take-append-le, take-append-drop, length-take-le, length-drop, length-append, length-replicate}
use Rattle.byteorder.specs.Endian.{little_from, little_bytes}
use Rattle.byteorder.specs.Numbers.{little_from-take, little_number-reads_back, length-bytes_low_first}
use Rattle.mars_base.specs.Bytes.{put}
use Rattle.record_slots.specs.Names.{names_in, with_last}
use Rattle.record_slots.specs.Super.{AreTables, IsMain, IsApart, entry_said, entry_bytes, name_said, is_name, used_entries, tables_used, are_entries, are_named}
use Rattle.record_slots.specs.Text.{IsName}
use Rattle.record_slots.specs.declared.super_page.TableEntry.{TableEntry}
use Rattle.record_slots.proofs.Front.{number_put}
use Rattle.record_slots.proofs.SlotLemmas.{little_shift}
use Rattle.record_slots.proofs.Used.{from, used_free, used_more, left_free, left_gap, left_named, named_at, short_name, tables_used_at, beyond_used}

-- a name that passes the test, and the test of a name
pub name_is : (text : List ℕ) → is_name text ≡ true → IsName text
name_is text e = record {
  some = leb-true 1 (length text) (and_parts _ _ e).0;
  short = leb-true (length text) 16 (and_parts _ _ (and_parts _ _ e).1).0;
  letters = (and_parts _ _ (and_parts _ _ e).1).1;
}

name_passes : (text : List ℕ) → IsName text → is_name text ≡ true
name_passes text name = and_from _ _ (le-leb 1 (length text) (omega (arith, name.some))) (and_from _ _ (le-leb (length text) 16 name.short) name.letters)

-- a name by its number
pub name_at_is : (ts : List TableEntry) (j : ℕ) → slice_get (names_in ts) j ≡ option_map (λ t. t.name) (slice_get ts j)
name_at_is [] j = refl
name_at_is (t ∷ ts) zero = refl
name_at_is (t ∷ ts) (suc j) = name_at_is ts j

pub length-names_in : (ts : List TableEntry) → length (names_in ts) ≡ length ts
length-names_in [] = refl
length-names_in (t ∷ ts) = ap suc (length-names_in ts)

pub name_used : (es : List ℕ) (j : ℕ) → j < length (tables_used es) → slice_get (names_in (tables_used es)) j ≡ Some (name_said (from es j))
name_used es j lt = name_at_is (tables_used es) j ∙ ap (option_map (λ t. t.name)) (tables_used_at j es lt).0

pub name_beyond : (es : List ℕ) (j : ℕ) → length (tables_used es) ≤ j → slice_get (names_in (tables_used es)) j ≡ None
name_beyond es j le = name_at_is (tables_used es) j ∙ ap (option_map (λ t. t.name)) (beyond_used (tables_used es) j le)

pub used_name : (es : List ℕ) (j : ℕ) → are_named es ≡ true → j < length (tables_used es) → IsName (name_said (from es j))
unfolding tables_used are_named
used_name es j are lt = name_is (name_said (from es j)) (named_at 8 j es are lt)

-- what is written behind other bytes
put_behind : (xs rest : List ℕ) (k m : ℕ) (b : List ℕ) → m ≡ k + length xs → put (xs ++ rest) m b ≡ xs ++ put rest k b
put_behind [] rest k m b is = ap (λ (n : ℕ). put rest n b) (omega (arith, is))
put_behind (x ∷ xs) rest k m b is =
    ap (λ (n : ℕ). put (x ∷ xs ++ rest) n b) (let e : m ≡ suc (k + length xs) = omega (arith, is) in e)
    ∙ ap (λ (n : ℕ). (x ∷ take (k + length xs) (xs ++ rest)) ++ b ++ drop n (x ∷ xs ++ rest)) (let e : suc (k + length xs) + length b ≡ suc (k + length xs + length b) = omega arith in e)
    ∙ ap (λ (l : List ℕ). x ∷ l) (put_behind xs rest k (k + length xs) b refl)

-- bytes that were copied into others
pub put_copied : (at n : ℕ) (es copied b : List ℕ) → copied ≡ b → n ≡ length b → take at es ++ (copied ++ drop n (drop at es)) ≡ put es at b
put_copied at n es copied b same is =
    (λ i. take at es ++ (same i ++ (drop-drop n at es ∙ ap (λ (k : ℕ). drop k es) (let e : at + n ≡ at + length b = omega (arith, is) in e)) i))
    ∙ sym (append_assoc (take at es) b (drop (at + length b) es))

-- an entry is said by its 32 bytes
said_front : (xs rest : List ℕ) → length xs ≡ 32 → slice_index xs 0 ≤ 16 → entry_said (xs ++ rest) ≡ entry_said xs
said_front [] rest long short = absurd (omega (arith, long))
said_front (x ∷ xs) rest long short = λ i. record {
  name = take-append-le x xs rest (omega (arith, long, short)) i;
  root = (sym (little_from-take 20 4 32 (x ∷ xs ++ rest) (omega arith)) ∙ ap (little_from 20 4) (take_at (x ∷ xs) rest 32 long)) i;
}

first_of : (xs rest : List ℕ) → length xs ≡ 32 → slice_index (xs ++ rest) 0 ≡ slice_index xs 0
first_of xs rest long = get_or_append_left xs rest 0 0 (omega (arith, long))

-- entries that are all free
free_none : (n : ℕ) (es : List ℕ) → are_entries false n es ≡ true → used_entries n es ≡ []
free_none zero es are = refl
free_none (suc n) es are = elim (cases_eq (slice_index es 0) 0) [
  | inl free ↦ used_free (suc n) es free
  | inr ne ↦ absurd (false≢true (sym (left_gap n es ne) ∙ are))
]

free_entries : (n : ℕ) (es : List ℕ) → are_entries false n es ≡ true → are_entries true n es ≡ true
free_entries zero es are = refl
free_entries (suc n) es are = elim (cases_eq (slice_index es 0) 0) [
  | inl free ↦ left_free true n es free ∙ sym (left_free false n es free) ∙ are
  | inr ne ↦ absurd (false≢true (sym (left_gap n es ne) ∙ are))
]

-- the entry of a table, written where it is due
module _ (t : TableEntry) (name : IsName t.name) (small : t.root < 2 ^ 32) where
  abbrev b : List ℕ
  b = entry_bytes t

  zeros : List ℕ
  zeros = replicate (19 - length t.name) 0

  abbrev tail : List ℕ
  tail = little_bytes 4 t.root ++ replicate 8 0

  long-zeros : length (t.name ++ zeros) ≡ 19
  unfolding zeros
  long-zeros = omega (arith, length-append t.name (replicate (19 - length t.name) 0), length-replicate {A = ℕ} (19 - length t.name) 0, name.short)

  pub long_entry : length (entry_bytes t) ≡ 32
  unfolding zeros
  long_entry = omega (
    arith,
    long-zeros,
    length-append t.name (replicate (19 - length t.name) 0),
    length-append t.name (replicate (19 - length t.name) 0 ++ tail),
    length-append (replicate (19 - length t.name) 0) tail,
    length-append (little_bytes 4 t.root) (replicate 8 0),
    length-bytes_low_first 0 4 t.root,
    length-replicate {A = ℕ} 8 0,
  )

  entry_name : (rest : List ℕ) → name_said (b ++ rest) ≡ t.name
  entry_name rest = ap (take (length t.name)) (append_assoc t.name (replicate (19 - length t.name) 0 ++ tail) rest) ∙ take_at t.name ((replicate (19 - length t.name) 0 ++ tail) ++ rest) (length t.name) refl

  entry_root : (rest : List ℕ) → little_from 20 4 (b ++ rest) ≡ t.root
  unfolding zeros
  entry_root rest =
      let split : drop 20 (b ++ rest) ≡ little_bytes 4 t.root ++ (replicate 8 0 ++ rest) =
      ap (drop 19) (
      append_assoc t.name (replicate (19 - length t.name) 0 ++ tail) rest
      ∙ ap (λ (l : List ℕ). t.name ++ l) (append_assoc (replicate (19 - length t.name) 0) tail rest)
      ∙ sym (append_assoc t.name (replicate (19 - length t.name) 0) (tail ++ rest))
      )
      ∙ drop_at (t.name ++ replicate (19 - length t.name) 0) (tail ++ rest) 19 long-zeros
      ∙ append_assoc (little_bytes 4 t.root) (replicate 8 0) rest in
      sym (little_shift 0 20 4 (b ++ rest)) ∙ ap (little_from 0 4) split ∙ little_number-reads_back 4 t.root (replicate 8 0 ++ rest) small

  entry_is : (rest : List ℕ) → entry_said (b ++ rest) ≡ t
  entry_is rest = λ i. record { name = entry_name rest i; root = entry_root rest i }

  entry_some : (rest : List ℕ) → slice_index (b ++ rest) 0 ≢ 0
  entry_some rest e = absurd (omega (arith, e, name.some))

  entry_named : (rest : List ℕ) → is_name (name_said (b ++ rest)) ≡ true
  entry_named rest = ap is_name (entry_name rest) ∙ name_passes t.name name

  pub record IsAdded (n : ℕ) (es fs : List ℕ) : Type 0 where
    pub used : used_entries n fs ≡ used_entries n es ++ t ∷ []
    pub named : are_entries true n fs ≡ true

  -- at the first free entry
  at_free : (n : ℕ) (es : List ℕ) → slice_index es 0 ≡ 0 → are_entries true (suc n) es ≡ true → IsAdded (suc n) es (b ++ drop 32 es)
  at_free n es free are =
      let rest_free : are_entries false n (drop 32 es) ≡ true = sym (left_free true n es free) ∙ are in
      let behind : drop 32 (b ++ drop 32 es) ≡ drop 32 es = drop_at b (drop 32 es) 32 long_entry in
      record {
        used = used_more n (b ++ drop 32 es) (entry_some (drop 32 es)) ∙ (λ i. entry_is (drop 32 es) i ∷ used_entries n (behind i)) ∙ ap (λ (l : List TableEntry). t ∷ l) (free_none n (drop 32 es) rest_free)
            ∙ ap (λ (l : List TableEntry). l ++ t ∷ []) (sym (used_free (suc n) es free));
        named = left_named n (b ++ drop 32 es) (entry_some (drop 32 es)) (entry_named (drop 32 es)) ∙ ap (are_entries true n) behind ∙ free_entries n (drop 32 es) rest_free;
      }

  -- behind a used one
  behind_used : (n : ℕ) (xs rest more : List ℕ) → length xs ≡ 32 → slice_index xs 0 ≤ 16 → slice_index (xs ++ rest) 0 ≢ 0 → is_name (name_said (xs ++ rest)) ≡ true → IsAdded n rest more → IsAdded (suc n) (xs ++ rest) (xs ++ more)
  behind_used n xs rest more long short ne named added =
      let some : slice_index (xs ++ more) 0 ≢ 0 = λ e. ne (first_of xs rest long ∙ sym (first_of xs more long) ∙ e) in
      let same : entry_said (xs ++ more) ≡ entry_said (xs ++ rest) = said_front xs more long short ∙ sym (said_front xs rest long short) in
      record {
        used = used_more n (xs ++ more) some ∙ (λ i. same i ∷ used_entries n (drop_at xs more 32 long i)) ∙ ap (λ (l : List TableEntry). entry_said (xs ++ rest) ∷ l) added.used
            ∙ ap (λ (l : List TableEntry). l ++ t ∷ []) (sym (used_more n (xs ++ rest) ne ∙ ap (λ (l : List ℕ). entry_said (xs ++ rest) ∷ used_entries n l) (drop_at xs rest 32 long)));
        named = left_named n (xs ++ more) some (ap (λ (e : TableEntry). is_name e.name) same ∙ named) ∙ ap (are_entries true n) (drop_at xs more 32 long) ∙ added.named;
      }

  added_at : (n j : ℕ) (es : List ℕ) → length es ≡ 32 * n → are_entries true n es ≡ true → j ≡ length (used_entries n es) → j < n → IsAdded n es (put es (32 * j) b)
  added_at zero j es long are is lt = absurd (omega (arith, lt))
  added_at (suc n) j es long are is lt = elim (cases_eq (slice_index es 0) 0) [
    | inl free ↦
        let first : 32 * j ≡ 0 = omega (arith, is, ap (λ (l : List TableEntry). length l) (used_free (suc n) es free)) in
        subst (IsAdded (suc n) es) (sym (ap (λ (k : ℕ). put es k b) first ∙ ap (λ (k : ℕ). b ++ drop k es) (let e : 0 + length b ≡ 32 = omega (arith, long_entry) in e))) (at_free n es free are)
    | inr ne ↦
        let both : (is_name (name_said es) && are_entries true n (drop 32 es)) ≡ true = sym (rw (ne_eqb (slice_index es 0) 0 ne) refl) ∙ are in
        let count : length (used_entries (suc n) es) ≡ suc (length (used_entries n (drop 32 es))) = ap (λ (l : List TableEntry). length l) (used_more n es ne) in
        let long-xs : length (take 32 es) ≡ 32 = length-take-le 32 es (omega (arith, long)) in
        let whole : take 32 es ++ drop 32 es ≡ es = take-append-drop 32 es in
        let first : slice_index (take 32 es) 0 ≡ slice_index es 0 = sym (first_of (take 32 es) (drop 32 es) long-xs) ∙ ap (λ (l : List ℕ). slice_index l 0) whole in
        let short : slice_index es 0 ≤ 16 = short_name es (omega (arith, long)) (and_parts _ _ both).0 in
        let m = length (used_entries n (drop 32 es)) in
        let rest = added_at n (length (used_entries n (drop 32 es))) (drop 32 es) (omega (arith, long, length-drop 32 es)) (and_parts _ _ both).1 refl (omega (arith, lt, is, count)) in
        let far : 32 * j ≡ 32 * length (used_entries n (drop 32 es)) + length (take 32 es) = omega (arith, is, count, long-xs) in
        let step : IsAdded (suc n) (take 32 es ++ drop 32 es) (take 32 es ++ put (drop 32 es) (32 * length (used_entries n (drop 32 es))) b) =
        behind_used n (take 32 es) (drop 32 es) (put (drop 32 es) (32 * length (used_entries n (drop 32 es))) b) long-xs (omega (arith, first, short)) (λ e. ne (ap (λ (l : List ℕ). slice_index l 0) (sym whole) ∙ e))
        (ap (λ (l : List ℕ). is_name (name_said l)) whole ∙ (and_parts _ _ both).0) rest in
        subst (λ (l : List ℕ). IsAdded (suc n) l (put es (32 * j) b)) whole
        (subst (IsAdded (suc n) (take 32 es ++ drop 32 es))
        (sym (put_behind (take 32 es) (drop 32 es) (32 * length (used_entries n (drop 32 es))) (32 * j) b far) ∙ ap (λ (l : List ℕ). put l (32 * j) b) whole) step)
  ]

  pub added : (es : List ℕ) → length es ≡ 256 → are_named es ≡ true → length (tables_used es) < 8
      → (tables_used (put es (32 * length (tables_used es)) (entry_bytes t)) ≡ tables_used es ++ t ∷ []) × (are_named (put es (32 * length (tables_used es)) (entry_bytes t)) ≡ true)
  unfolding tables_used are_named
  added es long are room = let h = added_at 8 (length (used_entries 8 es)) es (omega (arith, long)) are refl room in (h.used, h.named)

-- a table of a longer list
pub last_get : (ts : List TableEntry) (t x : TableEntry) (j : ℕ) → slice_get (ts ++ t ∷ []) j ≡ Some x → (slice_get ts j ≡ Some x) ⊎ ((j ≡ length ts) × (x ≡ t))
last_get [] t x zero is = inr (refl, (let e : t ≡ x = cc in sym e))
last_get [] t x (suc j) is = absurd (cc)
last_get (u ∷ ts) t x zero is = inl is
last_get (u ∷ ts) t x (suc j) is = elim (last_get ts t x j is) [ inl h ↦ inl h | inr h ↦ inr (ap suc h.0, h.1) ]

pub first_get : (ts : List TableEntry) (t x : TableEntry) (j : ℕ) → slice_get ts j ≡ Some x → slice_get (ts ++ t ∷ []) j ≡ Some x
first_get [] t x j is = absurd (cc)
first_get (u ∷ ts) t x zero is = is
first_get (u ∷ ts) t x (suc j) is = first_get ts t x j is

pub last_is : (ts : List TableEntry) (t : TableEntry) → slice_get (ts ++ t ∷ []) (length ts) ≡ Some t
last_is [] t = refl
last_is (u ∷ ts) t = last_is ts t

-- the entry is written piece by piece
pub entry_written : (name : List ℕ) (root m : ℕ) (copied buf old : List ℕ) → IsName name → copied ≡ name → m ≡ length name → buf ≡ little_bytes 4 root ++ drop 4 (take 4 old)
    → length name ∷ (take 19 (copied ++ drop m (replicate 31 0)) ++ (buf ++ drop 4 (drop 19 (copied ++ drop m (replicate 31 0))))) ≡ entry_bytes (record { name = name; root = root })
entry_written name root m copied buf old is same size put =
    let zeros : drop m (replicate 31 0) ≡ replicate (19 - length name) 0 ++ replicate 12 0 =
    drop-replicate {X = ℕ} m 31 0 ∙ ap (λ (n : ℕ). replicate n 0) (let e : 31 - m ≡ 19 - length name + 12 = omega (arith, size, is.short) in e) ∙ replicate-add (19 - length name) 12 in
    let whole : copied ++ drop m (replicate 31 0) ≡ (name ++ replicate (19 - length name) 0) ++ replicate 12 0 = (λ i. same i ++ zeros i) ∙ sym (append_assoc name (replicate (19 - length name) 0) (replicate 12 0)) in
    let long : length (name ++ replicate (19 - length name) 0) ≡ 19 = omega (arith, length-append name (replicate (19 - length name) 0), length-replicate {A = ℕ} (19 - length name) 0, is.short) in
    let front : take 19 (copied ++ drop m (replicate 31 0)) ≡ name ++ replicate (19 - length name) 0 = ap (take 19) whole ∙ take_at (name ++ replicate (19 - length name) 0) (replicate 12 0) 19 long in
    let rest : drop 4 (drop 19 (copied ++ drop m (replicate 31 0))) ≡ replicate 8 0 = ap (λ (l : List ℕ). drop 4 (drop 19 l)) whole ∙ ap (drop 4) (drop_at (name ++ replicate (19 - length name) 0) (replicate 12 0) 19 long) in
    (λ i. length name ∷ (front i ++ (number_put root buf old put i ++ rest i))) ∙ ap (λ (l : List ℕ). length name ∷ l) (append_assoc name (replicate (19 - length name) 0) (little_bytes 4 root ++ replicate 8 0))
  where
    replicate-add : (a c : ℕ) → replicate {A = ℕ} (a + c) 0 ≡ replicate a 0 ++ replicate c 0
    replicate-add zero c = ap (λ (n : ℕ). replicate n 0) (let e : 0 + c ≡ c = omega arith in e)
    replicate-add (suc a) c = ap (λ (n : ℕ). replicate n 0) (let e : suc a + c ≡ suc (a + c) = omega arith in e) ∙ ap (λ (l : List ℕ). 0 ∷ l) (replicate-add a c)

-- tables and one more, whose root is the next page
module _ (ts : List TableEntry) (pages : ℕ) (name : List ℕ) (are : AreTables pages ts) (some : 2 ≤ pages) (other : (j : ℕ) → slice_get (names_in ts) j ≢ Some name) where
  abbrev new : TableEntry
  new = record { name = name; root = pages }

  beyond : (j : ℕ) (x : TableEntry) → length ts ≤ j → slice_get ts j ≡ Some x → ⊥
  beyond j x le is = let e : None ≡ Some x = sym (beyond_used ts j le) ∙ is in absurd (cc)

  main_root : (o : Option TableEntry) (x : TableEntry) → IsMain o → o ≡ Some x → x.root ≡ 1
  main_root None x main is = absurd main
  main_root (Some y) x main is = let e : y ≡ x = cc in ap (λ (z : TableEntry). z.root) (sym e) ∙ main.1

  root_below : (i : ℕ) (x : TableEntry) → slice_get ts i ≡ Some x → x.root < pages
  root_below zero x is = omega (arith, some, main_root (slice_get ts 0) x are.main is)
  root_below (suc i) x is = (are.inside (suc i) x (omega arith) is).1

  main_still : (o : Option TableEntry) → slice_get ts 0 ≡ o → IsMain o → IsMain (slice_get (ts ++ new ∷ []) 0)
  main_still None is main = absurd main
  main_still (Some x) is main = subst IsMain (sym (first_get ts new x 0 is)) main

  apart : (j : ℕ) → IsApart (ts ++ new ∷ []) j
  apart j i one two lt is is' = elim (last_get ts new one i is) [
    | inl here ↦ elim (last_get ts new two j is') [
      | inl there ↦ are.other j i one two lt here there
      | inr last ↦ (
        λ e. other i (name_at_is ts i ∙ ap (option_map (λ t. t.name)) here ∙ ap Some (e ∙ ap (λ (t : TableEntry). t.name) last.1)),
        λ e. absurd (omega (arith, root_below i one here, e, ap (λ (t : TableEntry). t.root) last.1)),
      )
    ]
    | inr first ↦ elim (last_get ts new two j is') [
      | inl there ↦ absurd (beyond j two (omega (arith, lt, first.0)) there)
      | inr last ↦ absurd (omega (arith, lt, first.0, last.0))
    ]
  ]

  pub are_more : AreTables (pages + 1) (with_last ts name pages)
  are_more = record {
    main = main_still (slice_get ts 0) refl are.main;
    inside = λ j table one is. elim (last_get ts new table j is) [
      | inl here ↦ let h = are.inside j table one here in (h.0, omega (arith, h.1))
      | inr last ↦ (omega (arith, some, ap (λ (t : TableEntry). t.root) last.1), omega (arith, ap (λ (t : TableEntry). t.root) last.1))
    ];
    other = apart;
  }

-- entries over which the entry of a new table was copied, behind the used ones
pub last_added : (es copied name : List ℕ) (count root n : ℕ) → IsName name → root < 2 ^ 32 → length es ≡ 256 → are_named es ≡ true → count ≡ length (tables_used es) → length (tables_used es) < 8 → n ≡ 32
    → copied ≡ entry_bytes (record { name = name; root = root })
    → (tables_used (take (32 * count) es ++ (copied ++ drop n (drop (32 * count) es))) ≡ with_last (tables_used es) name root) × (are_named (take (32 * count) es ++ (copied ++ drop n (drop (32 * count) es))) ≡ true)
last_added es copied name count root n is small long are count_is room size same =
    let t : TableEntry = record { name = name; root = root } in
    let written : take (32 * count) es ++ (copied ++ drop n (drop (32 * count) es)) ≡ put es (32 * length (tables_used es)) (entry_bytes t) =
    put_copied (32 * count) n es copied (entry_bytes t) same (omega (arith, size, long_entry t is small)) ∙ ap (λ (k : ℕ). put es (32 * k) (entry_bytes t)) count_is in
    let h = added t is small es long are room in
    (ap tables_used written ∙ h.0, ap are_named written ∙ h.1)
