-- A whole index, and the index of each table.
use Rattle.std.proofs.Common.{◌≡◌, ◌≢◌, ℕ, zero, suc, ◌+◌, ◌-◌, ◌<◌, ◌≤◌, inl, inr, List, [], ◌∷◌, Option, Some, None, refl, sym, ◌∙◌, ap, subst, arith}
use Rattle.std.specs.Prelude.{slice_get, nat_eq, true, false}
use Rattle.std.specs.Option.{option_map}
use Rattle.std.proofs.lemmas.Bool.{cases_eq, cases_lt, eq-eqb, ne_eqb}
use Rattle.mars_base.specs.Check.{Check, test, both, IsSingle}
use Rattle.mars_base.proofs.Checks.{pass_single, test_single, both_single}
use Rattle.record_slots.specs.Super.{AreTables, IsMain, main_table, tables_in, tables_used, entries_said, tables_said, next_said, free_in}
use Rattle.record_slots.specs.Places.{page_bytes, next_page, next_slot, tables_of, version_of, free_slots, free_pages, free_slot, free_page, free_slot_of, free_page_of, slot_page, slot_due, IsSuper}
use Rattle.record_slots.specs.declared.super_page.TableEntry.{TableEntry}
use Rattle.page_store.specs.Index.{IsTable, HasCounts, KeepsIndex}
use Rattle.index_pages.specs.Slots.{slots_check, pages_check, tables_check, index_check}
use Rattle.index_pages.proofs.Stacks.{IsList, list_seen, list_passes, list_few, list_kept, list_single, member_is, rank_some}
use Rattle.index_pages.proofs.Fronts.{super_rests}
use Rattle.index_pages.specs.Ways.{Keeps}
use Rattle.record_slots.specs.Free.{member_at, free_said}

-- the root of a table among these
abbrev pub root_in : List TableEntry → ℕ → Option ℕ
root_in tables j = option_map (λ t. t.root) (slice_get tables j)

module _ (check : ℕ → ℕ → Check ℕ) where
  pub tables_seen : (tables : List TableEntry) (n j root : ℕ) → tables_check check n tables None → root_in tables j ≡ Some root → check root (n + j) None
  tables_seen [] n j root c is = absurd (cc)
  tables_seen (t ∷ ts) n zero root c is =
      let e : t.root ≡ root = cc in
      subst (λ (m : ℕ). check root m None) (let z : n ≡ n + 0 = omega arith in z) (subst (λ (r : ℕ). check r n None) e c.0)
  tables_seen (t ∷ ts) n (suc j) root c is = subst (λ (m : ℕ). check root m None) (let z : n + 1 + j ≡ n + suc j = omega arith in z) (tables_seen ts (n + 1) j root c.1 is)

  pub tables_pass : (tables : List TableEntry) (n : ℕ) → ((j root : ℕ) → root_in tables j ≡ Some root → check root (n + j) None) → tables_check check n tables None
  tables_pass [] n each = tt
  tables_pass (t ∷ ts) n each = (
    subst (λ (m : ℕ). check t.root m None) (let z : n + 0 ≡ n = omega arith in z) (each zero t.root refl),
    tables_pass ts (n + 1) (λ j root is. subst (λ (m : ℕ). check root m None) (let z : n + suc j ≡ n + 1 + j = omega arith in z) (each (suc j) root is)),
  )

-- What a whole index is made of: the super page, the two lists, and the index of each table.
pub record IsWhole (form : ℕ) (check : List ℕ → ℕ → ℕ → Check ℕ) (bytes : List ℕ) : Type 0 where
  pub front : IsSuper form bytes
  pub slots : IsList (free_slot_of bytes) 0 (next_slot bytes) (free_slots bytes) (free_slot bytes)
  pub pages : IsList (free_page_of bytes) 2 (next_page bytes) (free_pages bytes) (free_page bytes)
  pub tables : (table root : ℕ) → IsTable bytes table root → check bytes root table None

module _ (form : ℕ) (check : List ℕ → ℕ → ℕ → Check ℕ) (bytes : List ℕ) where
  pub whole_seen : index_check form check bytes None → IsWhole form check bytes
  whole_seen c = record {
    front = c.0;
    slots = list_seen (free_slot_of bytes) (slot_page bytes) 0 (next_slot bytes) (free_slots bytes) (free_slot bytes) 0 c.1.0.0;
    pages = list_seen (free_page_of bytes) (λ page. page) 2 (next_page bytes) (free_pages bytes) (free_page bytes) 0 c.1.0.1;
    tables = λ table root is. subst (λ (m : ℕ). check bytes root m None) (let z : 0 + table ≡ table = omega arith in z) (tables_seen (check bytes) (tables_of bytes) 0 table root c.1.1 is);
  }

  pub whole_passes : IsWhole form check bytes → index_check form check bytes None
  whole_passes w = (
    w.front,
    (
      (
        list_passes (free_slot_of bytes) (slot_page bytes) 0 (next_slot bytes) (free_slots bytes) (free_slot bytes) 0 w.slots,
        list_passes (free_page_of bytes) (λ page. page) 2 (next_page bytes) (free_pages bytes) (free_page bytes) 0 w.pages,
      ),
      tables_pass (check bytes) (tables_of bytes) 0 (λ table root is. subst (λ (m : ℕ). check bytes root m None) (let z : table ≡ 0 + table = omega arith in z) (w.tables table root is)),
    ),
  )

-- the entry of a table that has a root
entry_there : (tables : List TableEntry) (j root : ℕ) → root_in tables j ≡ Some root → (t : TableEntry) × (slice_get tables j ≡ Some t) × (t.root ≡ root)
entry_there tables j root is = here (slice_get tables j) is
  where
    here : (o : Option TableEntry) → option_map (λ t. t.root) o ≡ Some root → (t : TableEntry) × (o ≡ Some t) × (t.root ≡ root)
    here None e = absurd (cc)
    here (Some t) e = (t, refl, cc)

tables_one : (version : ℕ) (entries : List ℕ) → version ≡ 1 → tables_in version entries ≡ main_table ∷ []
tables_one version entries one = (let b : nat_eq version 1 ≡ true = eq-eqb version 1 one in rw b refl)

tables_two : (version : ℕ) (entries : List ℕ) → version ≢ 1 → tables_in version entries ≡ tables_used entries
tables_two version entries other = (let b : nat_eq version 1 ≡ false = ne_eqb version 1 other in rw b refl)

root_main : (j root : ℕ) → root_in (main_table ∷ []) j ≡ Some root → (j ≡ 0) × (root ≡ 1)
root_main zero root is = (refl, (let e : 1 ≡ root = cc in sym e))
root_main (suc j) root is = absurd (cc)

root_own : (pages : ℕ) (tables : List TableEntry) (j root : ℕ) → 2 ≤ pages → AreTables pages tables → root_in tables j ≡ Some root → (1 ≤ root) × (root < pages)
root_own pages tables zero root some are is =
    let there = entry_there tables zero root is in
    let main : IsMain (Some there.0) = subst (λ (o : Option TableEntry). IsMain o) there.1 are.main in
    (omega (arith, main.1, there.2), omega (arith, main.1, there.2, some))
root_own pages tables (suc j) root some are is =
    let there = entry_there tables (suc j) root is in
    let inside = are.inside (suc j) there.0 (omega arith) there.1 in
    (omega (arith, inside.0, there.2), omega (arith, inside.1, there.2))

roots_differ : (pages : ℕ) (tables : List TableEntry) (i j root : ℕ) → AreTables pages tables → i < j → root_in tables i ≡ Some root → root_in tables j ≡ Some root → ⊥
roots_differ pages tables i j root are lt is is' =
    let one = entry_there tables i root is in
    let two = entry_there tables j root is' in
    (are.other j i one.0 two.0 lt one.1 two.1).1 (one.2 ∙ sym two.2)

-- the root of a table is a given page
pub table_own : (form : ℕ) (bytes : List ℕ) (table root : ℕ) → IsSuper form bytes → IsTable bytes table root → (1 ≤ root) × (root < next_page bytes)
unfolding tables_said
table_own form bytes table root front is = elim (cases_eq (version_of bytes) 1) [
  | inl one ↦
      let r = root_main table root (subst (λ (ts : List TableEntry). root_in ts table ≡ Some root) (tables_one (version_of bytes) (entries_said (page_bytes bytes 0)) one) is) in
      (omega (arith, r.1), omega (arith, r.1, front.some_pages))
  | inr other ↦
      root_own (next_page bytes) (tables_used (entries_said (page_bytes bytes 0))) table root front.some_pages
      (front.tables (omega (arith, other, front.has_mark.some, front.has_mark.known))).1
      (subst (λ (ts : List TableEntry). root_in ts table ≡ Some root) (tables_two (version_of bytes) (entries_said (page_bytes bytes 0)) other) is)
]

-- two tables have two roots
pub roots_apart : (form : ℕ) (bytes : List ℕ) (one two root : ℕ) → IsSuper form bytes → IsTable bytes one root → IsTable bytes two root → one ≡ two
unfolding tables_said
roots_apart form bytes one two root front is is' = elim (cases_eq (version_of bytes) 1) [
  | inl first ↦
      let e = tables_one (version_of bytes) (entries_said (page_bytes bytes 0)) first in
      let r = root_main one root (subst (λ (ts : List TableEntry). root_in ts one ≡ Some root) e is) in
      let r' = root_main two root (subst (λ (ts : List TableEntry). root_in ts two ≡ Some root) e is') in
      r.0 ∙ sym r'.0
  | inr other ↦
      let e = tables_two (version_of bytes) (entries_said (page_bytes bytes 0)) other in
      let are = (front.tables (omega (arith, other, front.has_mark.some, front.has_mark.known))).1 in
      let a = subst (λ (ts : List TableEntry). root_in ts one ≡ Some root) e is in
      let b = subst (λ (ts : List TableEntry). root_in ts two ≡ Some root) e is' in
      let tables : List TableEntry = tables_used (entries_said (page_bytes bytes 0)) in
      elim (cases_eq one two) [
        | inl same ↦ same
        | inr differ ↦ elim (cases_lt one two) [
          | inl less ↦ absurd (roots_differ (next_page bytes) (tables_used (entries_said (page_bytes bytes 0))) one two root are less a b)
          | inr more ↦ absurd (roots_differ (next_page bytes) (tables_used (entries_said (page_bytes bytes 0))) two one root are (omega (arith, more, differ)) b a)
        ]
      ]
]

-- the first table is `main`, with root 1
pub main_named : (form : ℕ) (bytes : List ℕ) → IsSuper form bytes → IsTable bytes 0 1
unfolding tables_said
main_named form bytes front = elim (cases_eq (version_of bytes) 1) [
  | inl one ↦ subst (λ (ts : List TableEntry). root_in ts 0 ≡ Some 1) (sym (tables_one (version_of bytes) (entries_said (page_bytes bytes 0)) one)) refl
  | inr other ↦
      subst (λ (ts : List TableEntry). root_in ts 0 ≡ Some 1) (sym (tables_two (version_of bytes) (entries_said (page_bytes bytes 0)) other))
      (first (slice_get (tables_used (entries_said (page_bytes bytes 0))) 0) (front.tables (omega (arith, other, front.has_mark.some, front.has_mark.known))).1.main)
]
  where
    first : (o : Option TableEntry) → IsMain o → option_map (λ t. t.root) o ≡ Some 1
    first None m = absurd m
    first (Some t) m = ap (λ (r : ℕ). Some r) m.1

-- what a whole index counts
pub whole_counts : (form : ℕ) (check : List ℕ → ℕ → ℕ → Check ℕ) (bytes : List ℕ) → IsWhole form check bytes → HasCounts bytes
whole_counts form check bytes w = record {
  oldest = w.front.has_mark.some;
  newest = w.front.has_mark.known;
  slots = w.front.slots;
  some = w.front.some_pages;
  pages = w.front.pages;
  free_slots_few = (let few = list_few (free_slot_of bytes) 0 (next_slot bytes) (free_slots bytes) (free_slot bytes) (omega arith) w.slots in omega (arith, few));
  free_pages_few = list_few (free_page_of bytes) 2 (next_page bytes) (free_pages bytes) (free_page bytes) w.front.some_pages w.pages;
  due = λ some.
      let m = member_is (free_slot_of bytes) 0 (next_slot bytes) (free_slots bytes) 0 (free_slot bytes) w.slots (omega (arith, some)) in
      let b : nat_eq (free_slots bytes) 0 ≡ false = ne_eqb (free_slots bytes) 0 some in
      let e : slot_due bytes ≡ free_slot bytes - 1 = (rw b refl) in
      omega (arith, e, m.0.0, m.0.1);
  main = main_named form bytes w.front;
  mark = w.front.has_mark;
  tables = w.front.tables;
}

-- a whole index has at most one verdict, if the index of each table has
module _ (check : ℕ → ℕ → Check ℕ) (single : (root table : ℕ) → IsSingle (check root table)) where
  tables_single : (n : ℕ) (tables : List TableEntry) → IsSingle (tables_check check n tables)
  tables_single n [] = pass_single
  tables_single n (t ∷ ts) = both_single (check t.root n) (tables_check check (n + 1) ts) (single t.root n) (tables_single (n + 1) ts)

pub index_single : (form : ℕ) (check : List ℕ → ℕ → ℕ → Check ℕ) (bytes : List ℕ) → ((root table : ℕ) → IsSingle (check bytes root table)) → IsSingle (index_check form check bytes)
index_single form check bytes single =
    both_single (test (IsSuper form bytes) 0) (both (both (slots_check bytes) (pages_check bytes)) (tables_check (check bytes) 0 (tables_of bytes))) (test_single (IsSuper form bytes) 0)
    (both_single (both (slots_check bytes) (pages_check bytes)) (tables_check (check bytes) 0 (tables_of bytes))
    (both_single (slots_check bytes) (pages_check bytes)
    (list_single (free_slot_of bytes) (slot_page bytes) 0 (next_slot bytes) (free_slots bytes) (free_slot bytes) 0)
    (list_single (free_page_of bytes) (λ page. page) 2 (next_page bytes) (free_pages bytes) (free_page bytes) 0))
    (tables_single (check bytes) single 0 (tables_of bytes)))

-- What stands when only slots were written, and each free one is as it was: all but the index of each table.
pub record FrontRests (form : ℕ) (old new : List ℕ) : Type 0 where
  pub front : IsSuper form new
  pub slots : IsList (free_slot_of new) 0 (next_slot new) (free_slots new) (free_slot new)
  pub pages : IsList (free_page_of new) 2 (next_page new) (free_pages new) (free_page new)
  pub tables : tables_of new ≡ tables_of old
  pub keeps : Keeps old new

pub front_rests : (form : ℕ) (check : List ℕ → ℕ → ℕ → Check ℕ) (old new : List ℕ) → IsWhole form check old → KeepsIndex old new → FrontRests form old new
front_rests form check old new w keeps =
    let r = super_rests form old new w.front keeps in
    let next : next_slot new ≡ next_slot old = ap (next_said 8) r.2 in
    let next' : next_page new ≡ next_page old = ap (next_said 12) r.2 in
    let many : free_slots new ≡ free_slots old = ap (free_in 280) r.2 in
    let many' : free_pages new ≡ free_pages old = ap (free_in 284) r.2 in
    let first : free_slot new ≡ free_slot old = ap (free_in 272) r.2 in
    let first' : free_page new ≡ free_page old = ap (free_in 276) r.2 in
    let slots = list_kept (free_slot_of old) 0 (next_slot old) (free_slot_of new) (next_slot new) (free_slots old) (free_slot old) (omega (arith, next)) w.slots
    (λ i lt.
    let m = member_is (free_slot_of old) 0 (next_slot old) (free_slots old) i (free_slot old) w.slots lt in
    ap (free_said 0xF0 2) (keeps.free (member_at (free_slot_of old) (free_slot old) i - 1) (omega (arith, m.0.0, m.0.1))
    (rank_some (free_slot_of old (member_at (free_slot_of old) (free_slot old) i - 1)) (free_slots old - i) m.1))) in
    let pages = list_kept (free_page_of old) 2 (next_page old) (free_page_of new) (next_page new) (free_pages old) (free_page old) (omega (arith, next')) w.pages
    (λ i lt.
    let m = member_is (free_page_of old) 2 (next_page old) (free_pages old) i (free_page old) w.pages lt in
    ap (free_said 0xFF 4) (keeps.pages (member_at (free_page_of old) (free_page old) i - 1) (omega (arith, m.0.0, m.0.1, w.front.pages)))) in
    record {
      front = r.0;
      slots = subst (λ (k : ℕ). IsList (free_slot_of new) 0 (next_slot new) (free_slots new) k) (sym first) (subst (λ (k : ℕ). IsList (free_slot_of new) 0 (next_slot new) k (free_slot old)) (sym many) slots);
      pages = subst (λ (k : ℕ). IsList (free_page_of new) 2 (next_page new) (free_pages new) k) (sym first') (subst (λ (k : ℕ). IsList (free_page_of new) 2 (next_page new) k (free_page old)) (sym many') pages);
      tables = ap tables_said r.2;
      keeps = r.1;
    }
