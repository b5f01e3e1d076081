-- The root that is kept for a table that has a name.
use Rattle.std.proofs.Common.{◌≡◌, ◌≢◌, ℕ, zero, suc, ◌<◌, Bool, cond, inl, inr, IsTrue, List, [], ◌∷◌, length, refl, sym, ◌∙◌, ap, subst, arith}
use Rattle.std.specs.Prelude.{◌≤◌, Some, codes, get_or, map, slice_get, slice_set, ◌++◌}
use Rattle.std.proofs.lemmas.List.{map-append, length-map, length-set, get_or-set_same, get_or-set_other}
use Rattle.std.specs.Option.{option_map}
use Rattle.std.proofs.lemmas.Bool.{cases_eq, cases_lt, ne_eqb}
use Rattle.std.proofs.lemmas.Option.{same_Some}
use Rattle.array_shape.specs.declared.shape.Shape.{Shape}
use Rattle.array_shape.specs.Places.{data_len, page_count}
use Rattle.eaw_face.specs.StoreView.{StoreView}
use Rattle.eaw_face.specs.Causes.{IsAlive}
use Rattle.record_slots.specs.Super.{main_table, tables_in, tables_said, tables_used, entries_said}
use Rattle.record_slots.specs.Names.{names_in, with_last}
use Rattle.record_slots.specs.Places.{page_bytes, next_page, version_of, tables_of, root_of}
use Rattle.record_slots.specs.declared.super_page.TableEntry.{TableEntry}
use Rattle.page_store.specs.Index.{IsTable, HasCounts}
use Rattle.page_store.specs.Shown.{PagesView, Shown}
use Rattle.record_table.specs.Names.{IsCalled, names_of, BeginsWithMain, KeepsNames, KeepsRoots, KeepsTables}
use Rattle.record_table.proofs.Main.{root_there}
use Rattle.record_table.proofs.Sharing.{root_called}

pub rooted : (tells : Bool) (old : PagesView) (roots : List ℕ) (table : ℕ) → table < 8 → KeepsRoots tells old roots → (name : List ℕ) → (IsTrue tells → IsAlive old.store → IsCalled old.store.state.bytes table name)
    → IsTrue tells → IsAlive old.store → IsTable old.store.state.bytes table (get_or roots table 0)
rooted tells old roots table lt keeps name called told alive =
    let r = root_called old.store.state.bytes table name (called told alive) in
    r.1 ∙ ap Some (sym (keeps.are told alive table r.0 lt r.1))

pub rooted_as : (tells : Bool) (old : PagesView) (roots : List ℕ) (table : ℕ) → table < 8 → KeepsRoots tells old roots → (name : List ℕ) → (IsTrue tells → IsAlive old.store → IsCalled old.store.state.bytes table name)
    → (root : ℕ) → root ≡ get_or roots table 0 → IsTrue tells → IsAlive old.store → IsTable old.store.state.bytes table root
rooted_as tells old roots table lt keeps name called root is told alive = rooted tells old roots table lt keeps name called told alive ∙ ap Some (sym is)

pub inside_as : (tells : Bool) (old : PagesView) (roots : List ℕ) (table : ℕ) → table < 8 → KeepsRoots tells old roots → (root : ℕ) → root ≡ get_or roots table 0 → root < page_count old.store.shape
inside_as tells old roots table lt keeps root is = omega (arith, is, keeps.inside table lt)

-- a name that a table has before a call, it has in the value that the call begins with
pub called_inside : {S : Type 0} (tells : Bool) (view : S → StoreView) (arg inside : Shown S) → inside ≡ arg → (table : ℕ) (name : List ℕ)
    → (IsTrue tells → IsAlive (view arg.store) → IsCalled (view arg.store).state.bytes table name) → IsTrue tells → IsAlive (view inside.store) → IsCalled (view inside.store).state.bytes table name
called_inside {S} tells view arg inside same table name called = subst (λ (p : Shown S). IsTrue tells → IsAlive (view p.store) → IsCalled (view p.store).state.bytes table name) (sym same) called

-- the root of a table of sound data is a page of the array
pub root_inside : (d : List ℕ) (shape : Shape) → length d ≡ data_len shape → HasCounts d → (table root : ℕ) → IsTable d table root → root < page_count shape
unfolding tables_said
root_inside d shape long counts table root is = elim (cases_eq table 0) [
  | inl zeroth ↦ (let one : root ≡ 1 = same_Some root 1 (sym is ∙ ap (root_of d) zeroth ∙ counts.main) in omega (arith, one, root_there shape))
  | inr later ↦ by_version (version_of d) refl (tables_of d) refl later
]
  where
    by_version : (version : ℕ) → version_of d ≡ version → (tables : List TableEntry) → tables_of d ≡ tables → table ≢ 0 → root < page_count shape
    by_version version is-version tables are later = elim (cases_eq version 1) [
      | inl one ↦ absurd (none table later (sym (ap (λ (v : ℕ). option_map (λ entry. entry.root) (slice_get (tables_in v (entries_said (page_bytes d 0))) table)) (is-version ∙ one)) ∙ is))
      | inr other ↦
          let two : version_of d ≡ 2 = omega (arith, is-version, other, counts.oldest, counts.newest) in
          let used = sym (ap (λ (b : Bool). cond b (main_table ∷ []) (tables_used (entries_said (page_bytes d 0)))) (ne_eqb (version_of d) 1 (λ e. omega (arith, e, two)))) in
          let e = entry_of (tables_used (entries_said (page_bytes d 0))) table (ap (λ (ts : List TableEntry). option_map (λ entry. entry.root) (slice_get ts table)) used ∙ is) in
          omega (arith, ((counts.tables two).1.inside table e.0 (omega (arith, later)) e.1).1, e.2, counts.pages, long)
    ]
      where
        none : (n : ℕ) → n ≢ 0 → option_map (λ entry. entry.root) (slice_get (main_table ∷ []) n) ≡ Some root → ⊥
        none zero ne is = ne refl
        none (suc n) ne is = absurd (cc)

        entry_of : (tables : List TableEntry) (n : ℕ) → option_map (λ entry. entry.root) (slice_get tables n) ≡ Some root → (entry : TableEntry) × (slice_get tables n ≡ Some entry) × (entry.root ≡ root)
        entry_of [] n none = absurd (cc)
        entry_of (entry ∷ entries) zero has = (entry, refl, same_Some entry.root root has)
        entry_of (entry ∷ entries) (suc n) has = entry_of entries n has

-- the first of a list stays so with one more behind
first_kept : (names : List (List ℕ)) (name first : List ℕ) → slice_get names 0 ≡ Some first → slice_get (names ++ name ∷ []) 0 ≡ Some first
first_kept [] name first none = absurd (cc)
first_kept (n ∷ ns) name first is = is

-- with one table more, the root of which is set under its number
module _ (tells : Bool) (old new : PagesView) (name : List ℕ) (number root : ℕ) (names later : List (List ℕ)) (roots : List ℕ) (keeps : KeepsTables tells old names roots)
    (shape : new.store.shape ≡ old.store.shape) (alive : IsAlive old.store) (some : number < 8) (added : length names < 8 → later ≡ names ++ name ∷ []) (full : 8 ≤ length names → later ≡ names)
    (its : IsTrue tells → (number ≡ length (names_of old.store.state.bytes)) × (number < 8)) (tables : IsTrue tells → tables_of new.store.state.bytes ≡ with_last (tables_of old.store.state.bytes) name (next_page old.store.state.bytes))
    (next : IsTrue tells → root ≡ next_page old.store.state.bytes) (inside : root < page_count old.store.shape) where
  named_too : KeepsNames tells new later
  named_too told living =
      let was = keeps.0.0 told alive in
      added (omega (arith, ap length was, (its told).0, some))
      ∙ ap (λ (ns : List (List ℕ)). ns ++ name ∷ []) was
      ∙ sym (map-append (λ (t : TableEntry). t.name) (tables_of old.store.state.bytes) (record { name = name; root = next_page old.store.state.bytes } ∷ []))
      ∙ ap names_in (sym (tables told))

  last_or : (ts : List TableEntry) (t : TableEntry) (j r : ℕ) → option_map (λ entry. entry.root) (slice_get (ts ++ t ∷ []) j) ≡ Some r → j ≢ length ts → option_map (λ entry. entry.root) (slice_get ts j) ≡ Some r
  last_or [] t zero r is ne = absurd (ne refl)
  last_or [] t (suc j) r is ne = absurd (cc)
  last_or (u ∷ ts) t zero r is ne = is
  last_or (u ∷ ts) t (suc j) r is ne = last_or ts t j r is (λ e. ne (ap suc e))

  last_is : (ts : List TableEntry) (t : TableEntry) (j r : ℕ) → option_map (λ entry. entry.root) (slice_get (ts ++ t ∷ []) j) ≡ Some r → j ≡ length ts → t.root ≡ r
  last_is [] t zero r is same = same_Some t.root r is
  last_is [] t (suc j) r is same = absurd (omega (arith, same))
  last_is (u ∷ ts) t zero r is same = absurd (omega (arith, same))
  last_is (u ∷ ts) t (suc j) r is same = last_is ts t j r is (omega (arith, same))

  set_there : (j : ℕ) → j < 8 → j ≢ number → get_or (slice_set roots number root) j 0 ≡ get_or roots j 0
  set_there j lt ne = get_or-set_other roots number j root 0 ne

  set_here : get_or (slice_set roots number root) number 0 ≡ root
  set_here = get_or-set_same roots number root 0 (omega (arith, keeps.1.long, some))

  rooted_too : KeepsRoots tells new (slice_set roots number root)
  rooted_too = record {
    long = length-set roots number root ∙ keeps.1.long;
    inside = λ j lt. subst (λ (s : Shape). get_or (slice_set roots number root) j 0 < page_count s) (sym shape) (elim (cases_eq j number) [
      | inl same ↦ subst (λ (k : ℕ). get_or (slice_set roots number root) k 0 < page_count old.store.shape) (sym same) (omega (arith, set_here, inside))
      | inr ne ↦ omega (arith, set_there j lt ne, keeps.1.inside j lt)
    ]);
    are = λ told living j r lt is.
        let there = ap (λ (ts : List TableEntry). option_map (λ entry. entry.root) (slice_get ts j)) (sym (tables told)) ∙ is in
        let many : length (tables_of old.store.state.bytes) ≡ number = sym (length-map (tables_of old.store.state.bytes) (λ (t : TableEntry). t.name)) ∙ sym (its told).0 in
        elim (cases_eq j number) [
          | inl same ↦
              ap (λ (k : ℕ). get_or (slice_set roots number root) k 0) same ∙ set_here ∙ next told
              ∙ last_is (tables_of old.store.state.bytes) (record { name = name; root = next_page old.store.state.bytes }) j r there (same ∙ sym many)
          | inr ne ↦
              set_there j lt ne
              ∙ keeps.1.are told alive j r lt (last_or (tables_of old.store.state.bytes) (record { name = name; root = next_page old.store.state.bytes }) j r there (λ e. ne (e ∙ many)))
        ];
  }

  main_too : BeginsWithMain later
  main_too = elim (cases_lt (length names) 8) [
    | inl lt ↦ ap (λ (ns : List (List ℕ)). slice_get ns 0) (added lt) ∙ first_kept names name (codes "main") keeps.0.1
    | inr ge ↦ ap (λ (ns : List (List ℕ)). slice_get ns 0) (full ge) ∙ keeps.0.1
  ]

  pub one_more : KeepsTables tells new later (slice_set roots number root)
  one_more = ((named_too, main_too), rooted_too)
