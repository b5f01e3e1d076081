-- The tests of tables, one after another.
use Rattle.std.proofs.Common.{◌≡◌, ℕ, zero, suc, ◌+◌, ◌≤◌, inl, inr, List, [], ◌∷◌, drop, Option, Some, None, Result, Ok, Err, refl, sym, ◌∙◌, ap, subst, arith}
use Rattle.std.specs.Prelude.{nat_eq, slice_index, length}
use Rattle.std.proofs.lemmas.Bool.{cases_Bool}
use Rattle.std.proofs.lemmas.List.{drop_all}
use Rattle.mars_base.specs.Check.{Check}
use Rattle.mars_base.proofs.Checks.{both_on}
use Rattle.record_slots.specs.Places.{page_bytes, tables_of}
use Rattle.record_slots.specs.Super.{SaysSuper, tables_in, tables_used, used_entries, tables_said, entries_said, version_said}
use Rattle.record_slots.specs.declared.super_page.Super.{Super}
use Rattle.record_slots.specs.declared.super_page.TableEntry.{TableEntry}
use Rattle.page_store.specs.declared.index_fault.CheckFault.{CheckFault}
use Rattle.page_store.specs.declared.index_fault.CheckFault.TheVariants.{Damaged, Media, Dead, NoMemory}
use Rattle.index_pages.specs.Slots.{tables_check, IsVerdict}
use Rattle.index_pages.proofs.Tabled.{root_in}

-- Of all tables these are left, from this number on: their verdict is that of all.
abbrev pub TablesLeft : (ℕ → ℕ → Check ℕ) → List TableEntry → ℕ → Type 0
TablesLeft check tables j = (verdict : Option ℕ) → tables_check check j (drop j tables) verdict → tables_check check 0 tables verdict

pub all_left : (check : ℕ → ℕ → Check ℕ) (tables : List TableEntry) → TablesLeft check tables 0
all_left check tables = λ verdict told. told

-- the entry of a number, and those behind it
pub entry_at : (tables : List TableEntry) (j root : ℕ) → root_in tables j ≡ Some root → (t : TableEntry) × (drop j tables ≡ t ∷ drop (suc j) tables) × (t.root ≡ root)
entry_at [] j root is = absurd (cc)
entry_at (t ∷ ts) zero root is = (t, refl, (let e : t.root ≡ root = cc in e))
entry_at (t ∷ ts) (suc j) root is = entry_at ts j root is

pub none_at : (tables : List TableEntry) (j : ℕ) → root_in tables j ≡ None → drop j tables ≡ []
none_at [] zero is = refl
none_at [] (suc j) is = refl
none_at (t ∷ ts) zero is = absurd (cc)
none_at (t ∷ ts) (suc j) is = none_at ts j is

module _ (check : ℕ → ℕ → Check ℕ) (tables : List TableEntry) (j : ℕ) (left : TablesLeft check tables j) where
  pub tables_none : root_in tables j ≡ None → tables_check check 0 tables None
  tables_none is = left None (subst (λ (ts : List TableEntry). tables_check check j ts None) (sym (none_at tables j is)) tt)

  module _ (root : ℕ) (is : root_in tables j ≡ Some root) where
    pub tables_step : (let r : Result (Unit {0}) CheckFault = Ok tt in IsVerdict (check root j) r) → TablesLeft check tables (j + 1)
    tables_step well = λ verdict told.
        let e = entry_at tables j root is in
        let here : check e.0.root j None = subst (λ (r : ℕ). check r j None) (sym e.2) well in
        let on : suc j ≡ j + 1 = omega arith in
        let rest : tables_check check (j + 1) (drop (suc j) tables) verdict = subst (λ (k : ℕ). tables_check check (j + 1) (drop k tables) verdict) (sym on) told in
        left verdict (subst (λ (ts : List TableEntry). tables_check check j ts verdict) (sym e.1) (both_on (check e.0.root j) (tables_check check (j + 1) (drop (suc j) tables)) here verdict rest))

    pub tables_fail : (fault : CheckFault) → (let r : Result (Unit {0}) CheckFault = Err fault in IsVerdict (check root j) r) → (let s : Result (Unit {0}) CheckFault = Err fault in IsVerdict (tables_check check 0 tables) s)
    tables_fail (Damaged bad) f =
        let e = entry_at tables j root is in
        left (Some bad) (subst (λ (ts : List TableEntry). tables_check check j ts (Some bad)) (sym e.1) (inl (subst (λ (r : ℕ). check r j (Some bad)) (sym e.2) f)))
    tables_fail Media f = tt
    tables_fail Dead f = tt
    tables_fail NoMemory f = tt

-- the root of a table, as the super page says it
pub root_says : (bytes : List ℕ) (front : Super) (table : ℕ) → SaysSuper (page_bytes bytes 0) front → root_in (tables_of bytes) table ≡ root_in (tables_in front.version front.entries) table
unfolding tables_said
root_says bytes front table says =
    ap (λ (v : ℕ). root_in (tables_in v (entries_said (page_bytes bytes 0))) table) (sym says.version) ∙ ap (λ (es : List ℕ). root_in (tables_in front.version es) table) (sym says.entries)

-- there are no more than eight tables
used_few : (n : ℕ) (entries : List ℕ) → length (used_entries n entries) ≤ n
used_few zero entries = omega arith
used_few (suc n) entries = elim (cases_Bool (nat_eq (slice_index entries 0) 0)) [
  | inl b ↦ rw b (omega arith)
  | inr b ↦ rw b (let h = used_few n (drop 32 entries) in omega arith)
]

tables_few : (version : ℕ) (entries : List ℕ) → length (tables_in version entries) ≤ 8
unfolding tables_used
tables_few version entries = elim (cases_Bool (nat_eq version 1)) [ inl b ↦ rw b (omega arith) | inr b ↦ rw b (used_few 8 entries) ]

pub none_left : (version : ℕ) (entries : List ℕ) (j : ℕ) → 8 ≤ j → drop j (tables_in version entries) ≡ []
none_left version entries j all = (let few = tables_few version entries in drop_all j (tables_in version entries) (omega (arith, few, all)))

-- so none is left after eight
pub none_behind : (bytes : List ℕ) (j : ℕ) → 8 ≤ j → drop j (tables_of bytes) ≡ []
unfolding tables_said
none_behind bytes j all =
    let few = tables_few (version_said (page_bytes bytes 0)) (entries_said (page_bytes bytes 0)) in
    drop_all j (tables_in (version_said (page_bytes bytes 0)) (entries_said (page_bytes bytes 0))) (omega (arith, few, all))

pub tables_end : (check : ℕ → ℕ → Check ℕ) (bytes : List ℕ) (j : ℕ) → 8 ≤ j → TablesLeft check (tables_of bytes) j → tables_check check 0 (tables_of bytes) None
tables_end check bytes j all left = left None (subst (λ (ts : List TableEntry). tables_check check j ts None) (sym (none_behind bytes j all)) tt)
