-- The pairs of all tables, under their keys.
use Rattle.std.proofs.Common.{◌≡◌, ◌≢◌, ◌^◌, ℕ, zero, suc, ◌+◌, ◌<◌, ◌≤◌, ◌⊎◌, Bool, true, false, cond, inl, inr, ◌&&◌, List, [], ◌∷◌, ◌++◌, refl, sym, ◌∙◌, ap, subst, arith}
use Rattle.std.specs.Prelude.{nat_eq, nat_lt, map, slice_get, Option, Some, None, IsTrue}
use Rattle.std.specs.Option.{option_map}
use Rattle.std.proofs.lemmas.Bool.{cases_eq, cases_Bool, eq-eqb, ne_eqb, false_from_ne_true}
use Rattle.record_slots.specs.Places.{page_bytes, version_of, tables_of}
use Rattle.record_slots.specs.Super.{main_table, tables_in, tables_said, tables_used, entries_said, IsMain}
use Rattle.record_slots.specs.declared.super_page.TableEntry.{TableEntry}
use Rattle.history.specs.declared.key.Key.{Key}
use Rattle.history.specs.Key.{of_table, is_same_key, is_of_table}
use Rattle.history.proofs.Keys.{name_decides}
use Rattle.page_store.specs.Index.{Index, HasCounts}
use Rattle.page_store.specs.Pairs.{Pair, Rise, found, inserted}
use Rattle.record_table.specs.Shown.{found_key, in_table, pairs_from}

-- the root of a table among these
abbrev pub root_in : List TableEntry → ℕ → Option ℕ
root_in tables j = option_map (λ entry. entry.root) (slice_get tables j)

-- tables whose indexes have the same pairs in other data
pub pairs_same : (index : Index) (d e : List ℕ) (tables : List TableEntry) → ((j root : ℕ) → root_in tables j ≡ Some root → index.pairs e root ≡ index.pairs d root) → pairs_from index e tables ≡ pairs_from index d tables
pairs_same index d e [] same = refl
pairs_same index d e (entry ∷ entries) same = λ i. map (in_table entry.name) (same 0 entry.root refl i) ++ pairs_same index d e entries (λ j root is. same (suc j) root is) i

-- a key of a table is found by its number among the pairs of that table
pub found_named : (name : List ℕ) (ps : List Pair) (q : Key) → found_key (map (in_table name) ps) q ≡ cond (is_of_table name q) (found ps q.key) None
found_named name [] q = none (is_of_table name q)
  where
    none : (b : Bool) → ◌≡◌ {A = Option ℕ} None (cond b None None)
    none true = refl
    none false = refl
found_named name (p ∷ ps) q = ap (cond (is_of_table name q && nat_eq p.0 q.key) (Some p.1)) (found_named name ps q) ∙ go (is_of_table name q) (nat_eq p.0 q.key)
  where
    go : (b c : Bool) → cond (b && c) (Some p.1) (cond b (found ps q.key) None) ≡ cond b (cond c (Some p.1) (found ps q.key)) None
    go true c = refl
    go false c = refl

-- the first table of sound data is `main`
pub main_first : (d : List ℕ) → HasCounts d → slice_get (tables_of d) 0 ≡ Some main_table
unfolding tables_said
main_first d counts = by_version (version_of d) refl
  where
    is_it : (o : Option TableEntry) → IsMain o → o ≡ Some main_table
    is_it None is = absurd is
    is_it (Some table) is = λ i. Some (record { name = is.0 i; root = is.1 i })

    by_version : (version : ℕ) → version_of d ≡ version → slice_get (tables_in version (entries_said (page_bytes d 0))) 0 ≡ Some main_table
    by_version version is = elim (cases_eq version 1) [
      | inl one ↦ ap (λ (v : ℕ). slice_get (tables_in v (entries_said (page_bytes d 0))) 0) one
      | inr other ↦
          ap (λ (b : Bool). slice_get (cond b (main_table ∷ []) (tables_used (entries_said (page_bytes d 0)))) 0) (ne_eqb version 1 other)
          ∙ is_it (slice_get (tables_used (entries_said (page_bytes d 0))) 0) (counts.tables (omega (arith, is, other, counts.oldest, counts.newest))).1.main
    ]

-- no two tables have one name
abbrev pub AreApart : List TableEntry → Type 0
AreApart tables = (i j : ℕ) (one two : TableEntry) → i < j → slice_get tables i ≡ Some one → slice_get tables j ≡ Some two → one.name ≢ two.name

-- so it is with the tables of sound data
pub tables_apart : (d : List ℕ) → HasCounts d → AreApart (tables_of d)
unfolding tables_said
tables_apart d counts = by_version (version_of d) refl
  where
    alone : AreApart (main_table ∷ [])
    alone i zero one two lt x y = absurd (omega (arith, lt))
    alone i (suc j) one two lt x y = absurd (cc)

    by_version : (version : ℕ) → version_of d ≡ version → AreApart (tables_in version (entries_said (page_bytes d 0)))
    by_version version is = elim (cases_eq version 1) [
      | inl one ↦ subst (λ (v : ℕ). AreApart (tables_in v (entries_said (page_bytes d 0)))) (sym one) alone
      | inr other ↦
          subst (λ (b : Bool). AreApart (cond b (main_table ∷ []) (tables_used (entries_said (page_bytes d 0))))) (sym (ne_eqb version 1 other))
          (λ i j one two lt x y. ((counts.tables (omega (arith, is, other, counts.oldest, counts.newest))).1.other j i one two lt x y).0)
    ]

rest_apart : (entry : TableEntry) (entries : List TableEntry) → AreApart (entry ∷ entries) → AreApart entries
rest_apart entry entries apart i j one two lt x y = apart (suc i) (suc j) one two (omega (arith, lt)) x y

-- the first of two, or else the second
abbrev or_else : Option ℕ → Option ℕ → Option ℕ
or_else None other = other
or_else (Some x) other = Some x

or_none : (o : Option ℕ) → or_else o None ≡ o
or_none None = refl
or_none (Some x) = refl

found_append : (ps qs : List (Key × ℕ)) (q : Key) → found_key (ps ++ qs) q ≡ or_else (found_key ps q) (found_key qs q)
found_append [] qs q = refl
found_append (p ∷ ps) qs q = go (is_same_key p.0 q) (found_append ps qs q)
  where
    go : (b : Bool) → found_key (ps ++ qs) q ≡ or_else (found_key ps q) (found_key qs q) → cond b (Some p.1) (found_key (ps ++ qs) q) ≡ or_else (cond b (Some p.1) (found_key ps q)) (found_key qs q)
    go true rest = refl
    go false rest = rest

-- what is found among the pairs of some tables
found_first : (index : Index) (d : List ℕ) (q : Key) (entry : TableEntry) (entries : List TableEntry)
    → found_key (pairs_from index d (entry ∷ entries)) q ≡ or_else (cond (is_of_table entry.name q) (found (index.pairs d entry.root) q.key) None) (found_key (pairs_from index d entries) q)
found_first index d q entry entries =
    found_append (map (in_table entry.name) (index.pairs d entry.root)) (pairs_from index d entries) q
    ∙ ap (λ (o : Option ℕ). or_else o (found_key (pairs_from index d entries) q)) (found_named entry.name (index.pairs d entry.root) q)

-- a key that is found is one of a table
pub record FoundIn (index : Index) (d : List ℕ) (q : Key) (slot : ℕ) (tables : List TableEntry) : Type 0 where
  pub number : ℕ
  pub entry : TableEntry
  pub there : slice_get tables number ≡ Some entry
  pub named : entry.name ≡ q.table
  pub has : found (index.pairs d entry.root) q.key ≡ Some slot

pub found_some : (index : Index) (d : List ℕ) (q : Key) (slot : ℕ) (tables : List TableEntry) → found_key (pairs_from index d tables) q ≡ Some slot → FoundIn index d q slot tables
found_some index d q slot [] is = absurd (cc)
found_some index d q slot (entry ∷ entries) is = go (λ rest. found_some index d q slot entries rest) (is_of_table entry.name q) (found (index.pairs d entry.root) q.key) refl refl (sym (found_first index d q entry entries) ∙ is)
  where
    later : FoundIn index d q slot entries → FoundIn index d q slot (entry ∷ entries)
    later f = record { number = suc f.number; entry = f.entry; there = f.there; named = f.named; has = f.has }

    go : (found_key (pairs_from index d entries) q ≡ Some slot → FoundIn index d q slot entries) → (b : Bool) (o : Option ℕ) → is_of_table entry.name q ≡ b → found (index.pairs d entry.root) q.key ≡ o → or_else (cond b o None) (found_key (pairs_from index d entries) q) ≡ Some slot
        → FoundIn index d q slot (entry ∷ entries)
    go below true (Some s) named has is = record { number = 0; entry = entry; there = refl; named = (name_decides entry.name q.table).0 named; has = has ∙ is }
    go below true None named has is = later (below is)
    go below false o named has is = later (below is)

-- what is found for a key of a table is what its index has
pub found_from : (index : Index) (d : List ℕ) (tables : List TableEntry) (number : ℕ) (entry : TableEntry) (key : ℕ) → AreApart tables → slice_get tables number ≡ Some entry
    → found_key (pairs_from index d tables) (of_table entry.name key) ≡ found (index.pairs d entry.root) key
found_from index d [] number entry key apart is = absurd (cc)
found_from index d (first ∷ entries) zero entry key apart is =
    found_first index d (of_table entry.name key) first entries
    ∙ (λ i. or_else (cond (mine i) (found (index.pairs d first.root) key) None) (none (found_key (pairs_from index d entries) (of_table entry.name key)) refl i))
    ∙ or_none (found (index.pairs d first.root) key)
    ∙ ap (λ (e : TableEntry). found (index.pairs d e.root) key) same
  where
    same : first ≡ entry
    same = cc

    mine : is_of_table first.name (of_table entry.name key) ≡ true
    mine = (name_decides first.name entry.name).1 (ap (λ (e : TableEntry). e.name) same)

    none : (o : Option ℕ) → found_key (pairs_from index d entries) (of_table entry.name key) ≡ o → found_key (pairs_from index d entries) (of_table entry.name key) ≡ None
    none None is = is
    none (Some slot) is =
        let f = found_some index d (of_table entry.name key) slot entries is in
        absurd (apart 0 (suc f.number) first f.entry (omega arith) refl f.there (ap (λ (e : TableEntry). e.name) same ∙ sym f.named))
found_from index d (first ∷ entries) (suc number) entry key apart is =
    found_first index d (of_table entry.name key) first entries
    ∙ ap (λ (b : Bool). or_else (cond b (found (index.pairs d first.root) key) None) (found_key (pairs_from index d entries) (of_table entry.name key))) away
    ∙ found_from index d entries number entry key (rest_apart first entries apart) is
  where
    away : is_of_table first.name (of_table entry.name key) ≡ false
    away = false_from_ne_true (is_of_table first.name (of_table entry.name key)) (λ same. apart 0 (suc number) first entry (omega arith) refl is ((name_decides first.name entry.name).0 same))

-- the bounds of keys that rise
pub rise_bounds : (low high : ℕ) (ps : List Pair) → Rise low high ps → low ≤ high
rise_bounds low high [] rise = rise
rise_bounds low high (p ∷ ps) rise = omega (arith, rise.0, rise_bounds (suc p.0) high ps rise.1)

pub found_inside : (low high : ℕ) (ps : List Pair) (k slot : ℕ) → Rise low high ps → found ps k ≡ Some slot → (low ≤ k) × (k < high)
found_inside low high [] k slot rise is = absurd (cc)
found_inside low high (p ∷ ps) k slot rise is = elim (cases_eq p.0 k) [
  | inl same ↦ (omega (arith, same, rise.0), omega (arith, same, rise_bounds (suc p.0) high ps rise.1))
  | inr ne ↦
      let rest = found_inside (suc p.0) high ps k slot rise.1 (sym (ap (λ (b : Bool). cond b (Some p.1) (found ps k)) (ne_eqb p.0 k ne)) ∙ is) in
      (omega (arith, rest.0, rise.0), rest.1)
]

-- what is found for a key after another was inserted
found_other : (ps : List Pair) (key to q : ℕ) → q ≢ key → found (inserted ps key to) q ≡ found ps q
found_other [] key to q ne = ap (λ (b : Bool). cond b (Some to) None) (ne_eqb key q (λ e. ne (sym e)))
found_other (p ∷ ps) key to q ne = go (nat_lt key p.0) (found_other ps key to q ne)
  where
    go : (b : Bool) → found (inserted ps key to) q ≡ found ps q → found (cond b ((key, to) ∷ p ∷ ps) (p ∷ inserted ps key to)) q ≡ found (p ∷ ps) q
    go true rest = ap (λ (b : Bool). cond b (Some to) (found (p ∷ ps) q)) (ne_eqb key q (λ e. ne (sym e)))
    go false rest = ap (λ (o : Option ℕ). cond (nat_eq p.0 q) (Some p.1) o) rest

pub found_new : (ps : List Pair) (key to : ℕ) → found ps key ≡ None → found (inserted ps key to) key ≡ Some to
found_new [] key to none = ap (λ (b : Bool). cond b (Some to) None) (eq-eqb key key refl)
found_new (p ∷ ps) key to none = go (nat_lt key p.0) (found_new ps key to)
  where
    other : nat_eq p.0 key ≡ false
    other = elim (cases_Bool (nat_eq p.0 key)) [ inl is ↦ absurd (let e : Some p.1 ≡ None = sym (ap (λ (b : Bool). cond b (Some p.1) (found ps key)) is) ∙ none in cc) | inr isnt ↦ isnt ]

    rest_none : found ps key ≡ None
    rest_none = sym (ap (λ (b : Bool). cond b (Some p.1) (found ps key)) other) ∙ none

    go : (b : Bool) → (found ps key ≡ None → found (inserted ps key to) key ≡ Some to) → found (cond b ((key, to) ∷ p ∷ ps) (p ∷ inserted ps key to)) key ≡ Some to
    go true rest = ap (λ (b : Bool). cond b (Some to) (found (p ∷ ps) key)) (eq-eqb key key refl)
    go false rest = ap (λ (b : Bool). cond b (Some p.1) (found (inserted ps key to) key)) other ∙ rest rest_none

pub found_inserted : (ps : List Pair) (key to q : ℕ) → found ps key ≡ None → found (inserted ps key to) q ≡ cond (nat_eq key q) (Some to) (found ps q)
found_inserted ps key to q none = elim (cases_eq key q) [
  | inl same ↦ ap (found (inserted ps key to)) (sym same) ∙ found_new ps key to none ∙ sym (ap (λ (b : Bool). cond b (Some to) (found ps q)) (eq-eqb key q same))
  | inr ne ↦ found_other ps key to q (λ e. ne (sym e)) ∙ sym (ap (λ (b : Bool). cond b (Some to) (found ps q)) (ne_eqb key q ne))
]
