-- Entries of tables, one after another.
use Rattle.std.proofs.Common.{◌≡◌, ◌≢◌, ℕ, zero, suc, ◌+◌, ◌-◌, ◌*◌, ◌<◌, ◌≤◌, Bool, true, false, ◌&&◌, inl, inr, List, [], ◌∷◌, length, drop, Option, Some, None, refl, sym, ◌∙◌, ap, subst, arith}
use Rattle.byteorder.specs.Endian.{little_from}
use Rattle.std.specs.Prelude.{codes, slice_index, slice_get}
use Rattle.std.proofs.lemmas.Bool.{cases_eq, eq-eqb, ne_eqb, and_parts, leb-true}
use Rattle.std.proofs.lemmas.List.{drop-drop, get_or-drop, length-take, length-drop}
use Rattle.record_slots.specs.Super.{IsApart, IsMain, entry_said, name_said, is_name, used_entries, tables_used, tables_in, are_entries, are_named}
use Rattle.record_slots.specs.declared.super_page.TableEntry.{TableEntry}

-- the entries from entry j on
abbrev pub from : List ℕ → ℕ → List ℕ
from es j = drop (32 * j) es

pub from_next : (es : List ℕ) (j : ℕ) → drop 32 (from es j) ≡ from es (j + 1)
from_next es j = drop-drop 32 (32 * j) es ∙ ap (λ (n : ℕ). drop n es) (let e : 32 * j + 32 ≡ 32 * (j + 1) = omega arith in e)

pub first_byte : (es : List ℕ) (j : ℕ) → slice_index (from es j) 0 ≡ slice_index es (32 * j)
first_byte es j = get_or-drop (32 * j) es 0 0 ∙ ap (λ (n : ℕ). slice_index es n) (let e : 32 * j + 0 ≡ 32 * j = omega arith in e)

-- the used ones from a free entry on, and from a used one on
pub used_free : (n : ℕ) (es : List ℕ) → slice_index es 0 ≡ 0 → used_entries n es ≡ []
used_free zero es e = refl
used_free (suc n) es e = rw (eq-eqb (slice_index es 0) 0 e) refl

pub used_more : (n : ℕ) (es : List ℕ) → slice_index es 0 ≢ 0 → used_entries (suc n) es ≡ entry_said es ∷ used_entries n (drop 32 es)
used_more n es ne = rw (ne_eqb (slice_index es 0) 0 ne) refl

-- what is left to be tested behind entries that were used up to here, or not
pub left_free : (used : Bool) (n : ℕ) (es : List ℕ) → slice_index es 0 ≡ 0 → are_entries used (suc n) es ≡ are_entries false n (drop 32 es)
left_free used n es e = rw (eq-eqb (slice_index es 0) 0 e) refl

pub left_gap : (n : ℕ) (es : List ℕ) → slice_index es 0 ≢ 0 → are_entries false (suc n) es ≡ false
left_gap n es ne = rw (ne_eqb (slice_index es 0) 0 ne) refl

pub left_unnamed : (n : ℕ) (es : List ℕ) → slice_index es 0 ≢ 0 → is_name (name_said es) ≡ false → are_entries true (suc n) es ≡ false
left_unnamed n es ne bad = rw (ne_eqb (slice_index es 0) 0 ne, bad) refl

pub left_named : (n : ℕ) (es : List ℕ) → slice_index es 0 ≢ 0 → is_name (name_said es) ≡ true → are_entries true (suc n) es ≡ are_entries true n (drop 32 es)
left_named n es ne named = rw (ne_eqb (slice_index es 0) 0 ne, named) refl

pub left_none : (used : Bool) (es : List ℕ) → are_entries used 0 es ≡ true
left_none used es = refl

-- a used entry, by its number
pub record IsUsed (n j : ℕ) (es : List ℕ) : Type 0 where
  pub said : slice_get (used_entries n es) j ≡ Some (entry_said (from es j))
  pub few : j < n
  pub some : slice_index (from es j) 0 ≢ 0

from_behind : (es : List ℕ) (j : ℕ) → from (drop 32 es) j ≡ from es (suc j)
from_behind es j = drop-drop (32 * j) 32 es ∙ ap (λ (n : ℕ). drop n es) (let e : 32 + 32 * j ≡ 32 * suc j = omega arith in e)

pub used_at : (n j : ℕ) (es : List ℕ) → j < length (used_entries n es) → IsUsed n j es
used_at zero j es lt = absurd (omega arith)
used_at (suc n) j es lt =
    elim (cases_eq (slice_index es 0) 0) [
      | inl free ↦ absurd (let e : length (used_entries (suc n) es) ≡ 0 = ap (λ (l : List TableEntry). length l) (used_free (suc n) es free) in omega arith)
      | inr ne ↦ used_step n j es ne (subst (λ (l : List TableEntry). j < length l) (used_more n es ne) lt) (used_at n)
    ]
  where
    used_step : (n j : ℕ) (es : List ℕ) → slice_index es 0 ≢ 0 → j < length (entry_said es ∷ used_entries n (drop 32 es))
        → ((k : ℕ) (fs : List ℕ) → k < length (used_entries n fs) → IsUsed n k fs) → IsUsed (suc n) j es
    used_step n zero es ne lt ih = record { said = ap (λ (l : List TableEntry). slice_get l 0) (used_more n es ne); few = omega arith; some = ne }
    used_step n (suc j) es ne lt ih =
        let h = ih j (drop 32 es) (omega arith) in
        record {
          said = ap (λ (l : List TableEntry). slice_get l (suc j)) (used_more n es ne) ∙ h.said ∙ ap (λ (l : List ℕ). Some (entry_said l)) (from_behind es j);
          few = omega (arith, h.few);
          some = subst (λ (l : List ℕ). slice_index l 0 ≢ 0) (from_behind es j) h.some;
        }

-- and it has a name
pub named_at : (n j : ℕ) (es : List ℕ) → are_entries true n es ≡ true → j < length (used_entries n es) → is_name (name_said (from es j)) ≡ true
named_at zero j es are lt = absurd (omega arith)
named_at (suc n) j es are lt =
    elim (cases_eq (slice_index es 0) 0) [
      | inl free ↦ absurd (let e : length (used_entries (suc n) es) ≡ 0 = ap (λ (l : List TableEntry). length l) (used_free (suc n) es free) in omega arith)
      | inr ne ↦ named_step n j es ne (let e : (is_name (name_said es) && are_entries true n (drop 32 es)) ≡ true = (sym (rw (ne_eqb (slice_index es 0) 0 ne) refl)) ∙ are in e)
          (subst (λ (l : List TableEntry). j < length l) (used_more n es ne) lt) (named_at n)
    ]
  where
    named_step : (n j : ℕ) (es : List ℕ) → slice_index es 0 ≢ 0 → (is_name (name_said es) && are_entries true n (drop 32 es)) ≡ true → j < length (entry_said es ∷ used_entries n (drop 32 es))
        → ((k : ℕ) (fs : List ℕ) → are_entries true n fs ≡ true → k < length (used_entries n fs) → is_name (name_said (from fs k)) ≡ true) → is_name (name_said (from es j)) ≡ true
    named_step n zero es ne are lt ih = (and_parts _ _ are).0
    named_step n (suc j) es ne are lt ih =
        subst (λ (l : List ℕ). is_name (name_said l) ≡ true) (from_behind es j) (ih j (drop 32 es) (and_parts _ _ are).1 (omega arith))

-- the length of a name that stands whole in the entries
pub short_name : (es : List ℕ) → 32 ≤ length es → is_name (name_said es) ≡ true → slice_index es 0 ≤ 16
short_name es long is =
    let short = leb-true (length (name_said es)) 16 (and_parts _ _ (and_parts _ _ is).1).0 in
    let len = length-take (slice_index es 0) (drop 1 es) in
    omega (arith, len, length-drop 1 es, short)

-- the same of all eight
pub tables_used_at : (j : ℕ) (es : List ℕ) → j < length (tables_used es) → (slice_get (tables_used es) j ≡ Some (entry_said (from es j))) × (j < 8)
unfolding tables_used
tables_used_at j es lt = let h = used_at 8 j es lt in (h.said, h.few)

pub named_used_at : (j : ℕ) (es : List ℕ) → length es ≡ 256 → are_named es ≡ true → j < length (tables_used es) → slice_index es (32 * j) ≤ 16
unfolding tables_used are_named
named_used_at j es long are lt =
    let few = (used_at 8 j es lt).few in
    let h = short_name (from es j) (omega (arith, length-drop (32 * j) es)) (named_at 8 j es are lt) in
    omega (arith, h, first_byte es j)

-- how many are used: up to the first that is free, or all
pub used_so_far : (es : List ℕ) (j : ℕ) → j < 8 → slice_index es (32 * j) ≢ 0 → length (tables_used es) ≡ j + length (used_entries (8 - j) (from es j))
    → length (tables_used es) ≡ j + 1 + length (used_entries (8 - (j + 1)) (from es (j + 1)))
used_so_far es j lt ne so_far =
    let e : 8 - j ≡ suc (8 - (j + 1)) = omega arith in
    let more = used_more (8 - (j + 1)) (from es j) (λ z. ne (sym (first_byte es j) ∙ z)) in
    let len : length (used_entries (8 - j) (from es j)) ≡ suc (length (used_entries (8 - (j + 1)) (from es (j + 1)))) =
    ap (λ (n : ℕ). length (used_entries n (from es j))) e ∙ ap (λ (l : List TableEntry). length l) more ∙ ap (λ (l : List ℕ). suc (length (used_entries (8 - (j + 1)) l))) (from_next es j) in
    omega (arith, so_far, len)

pub used_up_to : (es : List ℕ) (j : ℕ) → slice_index es (32 * j) ≡ 0 → length (tables_used es) ≡ j + length (used_entries (8 - j) (from es j)) → j ≡ length (tables_used es)
used_up_to es j free so_far =
    let none : length (used_entries (8 - j) (from es j)) ≡ 0 = ap (λ (l : List TableEntry). length l) (used_free (8 - j) (from es j) (first_byte es j ∙ free)) in
    omega (arith, so_far, none)

used_whole : (n : ℕ) (es : List ℕ) → n ≡ 8 → used_entries n es ≡ tables_used es
unfolding tables_used
used_whole n es e = ap (λ (m : ℕ). used_entries m es) e

pub used_first : (es : List ℕ) (n : ℕ) → n ≡ 8 → length (tables_used es) ≡ 0 + length (used_entries n es)
used_first es n e = omega (arith, ap (λ (l : List TableEntry). length l) (used_whole n es e))

pub named_first : (es : List ℕ) (n : ℕ) → n ≡ 8 → are_named es ≡ are_entries true n es
unfolding are_named
named_first es n e = ap (λ (m : ℕ). are_entries true m es) (sym e)

pub used_all : (es : List ℕ) (j : ℕ) → j ≡ 8 → length (tables_used es) ≡ j + length (used_entries (8 - j) (from es j)) → 8 ≡ length (tables_used es)
used_all es j e so_far =
    let none : length (used_entries (8 - j) (from es j)) ≡ 0 = ap (λ (n : ℕ). length (used_entries n (from es j))) (let z : 8 - j ≡ 0 = omega (arith, e) in z) in
    omega (arith, so_far, none, e)

-- one entry more that is tested
pub left_on_free : (used : Bool) (es : List ℕ) (j : ℕ) (all : Bool) → j < 8 → slice_index es (32 * j) ≡ 0 → all ≡ are_entries used (8 - j) (from es j) → all ≡ are_entries false (8 - (j + 1)) (from es (j + 1))
left_on_free used es j all lt free is =
    let e : 8 - j ≡ suc (8 - (j + 1)) = omega arith in
    is ∙ ap (λ (n : ℕ). are_entries used n (from es j)) e ∙ left_free used (8 - (j + 1)) (from es j) (first_byte es j ∙ free) ∙ ap (λ (l : List ℕ). are_entries false (8 - (j + 1)) l) (from_next es j)

pub left_on_gap : (used : Bool) (es : List ℕ) (j : ℕ) (all : Bool) → used ≡ false → j < 8 → slice_index es (32 * j) ≢ 0 → all ≡ are_entries used (8 - j) (from es j) → all ≡ false
left_on_gap used es j all gap lt ne is =
    let e : 8 - j ≡ suc (8 - (j + 1)) = omega arith in
    is ∙ (λ i. are_entries (gap i) (e i) (from es j)) ∙ left_gap (8 - (j + 1)) (from es j) (λ z. ne (sym (first_byte es j) ∙ z))

pub left_on_unnamed : (used : Bool) (es : List ℕ) (j : ℕ) (all : Bool) → used ≡ true → j < 8 → slice_index es (32 * j) ≢ 0 → is_name (name_said (from es j)) ≡ false → all ≡ are_entries used (8 - j) (from es j) → all ≡ false
left_on_unnamed used es j all is_used lt ne bad is =
    let e : 8 - j ≡ suc (8 - (j + 1)) = omega arith in
    is ∙ (λ i. are_entries (is_used i) (e i) (from es j)) ∙ left_unnamed (8 - (j + 1)) (from es j) (λ z. ne (sym (first_byte es j) ∙ z)) bad

pub left_on_named : (used : Bool) (es : List ℕ) (j : ℕ) (all : Bool) → used ≡ true → j < 8 → slice_index es (32 * j) ≢ 0 → is_name (name_said (from es j)) ≡ true → all ≡ are_entries used (8 - j) (from es j)
    → all ≡ are_entries used (8 - (j + 1)) (from es (j + 1))
left_on_named used es j all is_used lt ne named is =
    let e : 8 - j ≡ suc (8 - (j + 1)) = omega arith in
    is ∙ (λ i. are_entries (is_used i) (e i) (from es j)) ∙ left_named (8 - (j + 1)) (from es j) (λ z. ne (sym (first_byte es j) ∙ z)) named
    ∙ (λ i. are_entries (sym is_used i) (8 - (j + 1)) (from_next es j i))

pub left_at_end : (used : Bool) (es : List ℕ) (n : ℕ) (all : Bool) → n ≡ 0 → all ≡ are_entries used n es → true ≡ all
left_at_end used es n all e is = sym (is ∙ ap (λ (m : ℕ). are_entries used m es) e ∙ left_none used es)

some_is : {X : Type 0} {x y : X} → Some x ≡ Some y → x ≡ y
some_is e = cc

-- two entries of one root, or of one name
module _ (es : List ℕ) (i j : ℕ) (lt : i < j) (used : j < length (tables_used es)) where
  pub clash_root : little_from 20 4 (from es i) ≡ little_from 20 4 (from es j) → ¬ IsApart (tables_used es) j
  clash_root e apart = (apart i (entry_said (from es i)) (entry_said (from es j)) lt (tables_used_at i es (omega (arith, lt, used))).0 (tables_used_at j es used).0).1 e

  pub clash_name : name_said (from es i) ≡ name_said (from es j) → ¬ IsApart (tables_used es) j
  clash_name e apart = (apart i (entry_said (from es i)) (entry_said (from es j)) lt (tables_used_at i es (omega (arith, lt, used))).0 (tables_used_at j es used).0).0 e

  pub differ : little_from 20 4 (from es i) ≢ little_from 20 4 (from es j) → name_said (from es i) ≢ name_said (from es j) → (one two : TableEntry) → slice_get (tables_used es) i ≡ Some one → slice_get (tables_used es) j ≡ Some two
      → (one.name ≢ two.name) × (one.root ≢ two.root)
  differ roots names one two is is' =
      let e : entry_said (from es i) ≡ one = some_is (sym (tables_used_at i es (omega (arith, lt, used))).0 ∙ is) in
      let e' : entry_said (from es j) ≡ two = some_is (sym (tables_used_at j es used).0 ∙ is') in
      (λ same. names (ap (λ (t : TableEntry). t.name) e ∙ same ∙ ap (λ (t : TableEntry). t.name) (sym e')), λ same. roots (ap (λ (t : TableEntry). t.root) e ∙ same ∙ ap (λ (t : TableEntry). t.root) (sym e')))

-- the first of the used entries
pub main_first : (es : List ℕ) → 0 < length (tables_used es) → name_said es ≡ codes "main" → little_from 20 4 es ≡ 1 → IsMain (slice_get (tables_used es) 0)
main_first es some name root = subst (λ (t : Option TableEntry). IsMain t) (sym (tables_used_at 0 es some).0) (name, root)

pub first_main : (es : List ℕ) → 0 < length (tables_used es) → IsMain (slice_get (tables_used es) 0) → (name_said es ≡ codes "main") × (little_from 20 4 es ≡ 1)
first_main es some main = subst (λ (t : Option TableEntry). IsMain t) (tables_used_at 0 es some).0 main

pub none_main : (es : List ℕ) → length (tables_used es) ≡ 0 → ¬ IsMain (slice_get (tables_used es) 0)
none_main es none main = no_main (tables_used es) none main
  where
    no_main : (ts : List TableEntry) → length ts ≡ 0 → IsMain (slice_get ts 0) → ⊥
    no_main [] none main = main
    no_main (t ∷ ts) none main = absurd (omega arith)

-- an entry's root
pub root_used : (es : List ℕ) (j : ℕ) (table : TableEntry) → j < length (tables_used es) → slice_get (tables_used es) j ≡ Some table → little_from 20 4 (from es j) ≡ table.root
root_used es j table lt is = ap (λ (t : TableEntry). t.root) (some_is (sym (tables_used_at j es lt).0 ∙ is))

-- those of a later version than the first
pub used_in : (version : ℕ) (es : List ℕ) → version ≢ 1 → tables_in version es ≡ tables_used es
used_in version es later = rw (ne_eqb version 1 later) refl

-- there is no entry behind the used ones
pub beyond_used : (ts : List TableEntry) (j : ℕ) → length ts ≤ j → slice_get ts j ≡ None
beyond_used [] j le = refl
beyond_used (t ∷ ts) zero le = absurd (omega arith)
beyond_used (t ∷ ts) (suc j) le = beyond_used ts j (omega arith)
