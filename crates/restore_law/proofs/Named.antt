-- The tables that records are of.
use Rattle.std.proofs.Common.{◌≡◌, ℕ, zero, suc, ◌-◌, ◌<◌, ◌≤◌, Bool, true, false, ◌⊎◌, inl, inr, ⊎_elim, List, [], ◌∷◌, ◌++◌, length, drop, Some, refl, sym, ap, subst, ◌∙◌, arith}
use Rattle.std.specs.Prelude.{if◌then◌else◌, slice_get}
use Rattle.std.specs.List.{Contains, list_any}
use Rattle.std.proofs.lemmas.Bool.{cases_eq}
use Rattle.std.proofs.lemmas.Cmp.{nat_list_eq_equiv}
use Rattle.std.proofs.lemmas.List.{length-drop}
use Rattle.std.proofs.lemmas.List.Elements.{Contains-append_left, Contains-append_right, Contains-append_cases}
use Rattle.std.proofs.lemmas.Map.Made.{is_member-Decides, length-le_from_is_member}
use Rattle.std.proofs.lemmas.Option.{slice_get_within, get_or_from_slice_get}
use Rattle.record_slots.specs.Names.{names_in}
use Rattle.record_slots.specs.Places.{page_bytes, version_of, tables_of}
use Rattle.record_slots.specs.Super.{main_table, tables_in, tables_said, tables_used, entries_said}
use Rattle.record_slots.specs.Text.{IsName}
use Rattle.record_slots.specs.declared.super_page.TableEntry.{TableEntry}
use Rattle.record_slots.proofs.Naming.{length-names_in, name_used, used_name}
use Rattle.record_slots.proofs.Used.{used_in}
use Rattle.history.specs.Key.{main_name}
use Rattle.history.proofs.Keys.{name_decides}
use Rattle.page_store.specs.Index.{HasCounts}
use Rattle.index_pages.proofs.Tables.{none_behind}
use Rattle.record_table.specs.Names.{names_of}
use Rattle.record_table.proofs.Joint.{main_first}
use Rattle.record_table.proofs.Sharing.{name_there}
use Rattle.dump_text.specs.Dump.{is_same_name, with_name, met, tables_met}
use Rattle.dump_text.proofs.Taken.{met_apart, main_alone}
use Rattle.restore_law.proofs.Found.{Entry}

-- a name in a place is among the names
pub at_place : (names : List (List ℕ)) (j : ℕ) (name : List ℕ) → slice_get names j ≡ Some name → Contains names name
at_place names j name is = (j, slice_get_within names j name is, get_or_from_slice_get names j name name is)

-- ---- the names of sound data

main_is : IsName main_name
main_is = record { some = omega arith; short = omega arith; letters = refl }

module _ (bytes : List ℕ) (counts : HasCounts bytes) where
  -- each is a name
  pub proper_name : (j : ℕ) (name : List ℕ) → slice_get (names_of bytes) j ≡ Some name → IsName name
  unfolding tables_said
  proper_name j name at = elim (cases_eq (version_of bytes) 1) [
    | inl one ↦ alone j (sym (ap (λ (v : ℕ). slice_get (names_in (tables_in v (entries_said (page_bytes bytes 0)))) j) one) ∙ at)
    | inr other ↦
        let entries = entries_said (page_bytes bytes 0) in
        let two : version_of bytes ≡ 2 = omega (arith, other, counts.oldest, counts.newest) in
        let here : slice_get (names_in (tables_used entries)) j ≡ Some name = sym (ap (λ (ts : List TableEntry). slice_get (names_in ts) j) (used_in (version_of bytes) entries other)) ∙ at in
        let within : j < length (tables_used entries) = omega (arith, slice_get_within (names_in (tables_used entries)) j name here, length-names_in (tables_used entries)) in
        subst IsName (same (sym (name_used entries j within) ∙ here)) (used_name entries j (counts.tables two).0 within)
  ]
    where
      same : {a b : List ℕ} → Some a ≡ Some b → a ≡ b
      same is = cc

      alone : (j : ℕ) → slice_get (main_name ∷ []) j ≡ Some name → IsName name
      alone zero is = subst IsName (same is) main_is
      alone (suc j) is = absurd (cc)

  -- there are at most eight
  pub few_names : length (names_of bytes) ≤ 8
  few_names =
      let none : length (drop 8 (tables_of bytes)) ≡ 0 = ap length (none_behind bytes 8 (omega arith)) in
      omega (arith, none, length-drop 8 (tables_of bytes), length-names_in (tables_of bytes))

  -- and `main` is one
  pub has_main : Contains (names_of bytes) main_name
  has_main = at_place (names_of bytes) 0 main_name (name_there (tables_of bytes) 0 main_table (main_first bytes counts))

-- ---- the tables that records are of, behind some names

-- one of the records is of the table of this name
abbrev pub IsOfOne : List Entry → List ℕ → Type 0
IsOfOne records name = (entry : Entry) × Contains records entry × (entry.0.table ≡ name)

more : (first : Entry) (records : List Entry) (name : List ℕ) → IsOfOne records name → IsOfOne (first ∷ records) name
more first records name of = (of.0, Contains-append_right (first ∷ []) records of.0 of.1, of.2)

has-with : (names : List (List ℕ)) (name : List ℕ) → Contains (with_name names name) name
has-with names name = go (list_any (is_same_name name) names) refl
  where
    go : (b : Bool) → list_any (is_same_name name) names ≡ b → Contains (if b then names else names ++ name ∷ []) name
    go true is = (is_member-Decides name_decides names name).0 is
    go false is = Contains-append_right names (name ∷ []) name (0, omega arith, refl)

keeps-with : (names : List (List ℕ)) (other name : List ℕ) → Contains names name → Contains (with_name names other) name
keeps-with names other name has = go (list_any (is_same_name other) names)
  where
    go : (b : Bool) → Contains (if b then names else names ++ other ∷ []) name
    go true = has
    go false = Contains-append_left names (other ∷ []) name has

from-with : (names : List (List ℕ)) (other name : List ℕ) → Contains (with_name names other) name → Contains names name ⊎ (other ≡ name)
from-with names other name = go (list_any (is_same_name other) names)
  where
    single : Contains (other ∷ []) name → other ≡ name
    single (zero, within, is) = is
    single (suc k, within, is) = absurd (omega (arith, within))

    go : (b : Bool) → Contains (if b then names else names ++ other ∷ []) name → Contains names name ⊎ (other ≡ name)
    go true has = inl has
    go false has = ⊎_elim (λ before. inl before) (λ last. inr (single last)) (Contains-append_cases names (other ∷ []) name has)

met_keeps : (names : List (List ℕ)) (records : List Entry) (name : List ℕ) → Contains names name → Contains (met names records) name
met_keeps names [] name has = has
met_keeps names (entry ∷ records) name has = met_keeps (with_name names entry.0.table) records name (keeps-with names entry.0.table name has)

met_has : (names : List (List ℕ)) (records : List Entry) (name : List ℕ) → IsOfOne records name → Contains (met names records) name
met_has names [] name (entry, (k, within, is), of) = absurd (omega (arith, within))
met_has names (first ∷ records) name (entry, (zero, within, is), of) =
    met_keeps (with_name names first.0.table) records name (subst (Contains (with_name names first.0.table)) (ap (λ (e : Entry). e.0.table) is ∙ of) (has-with names first.0.table))
met_has names (first ∷ records) name (entry, (suc k, within, is), of) = met_has (with_name names first.0.table) records name (entry, (k, omega (arith, within), is), of)

met_from : (names : List (List ℕ)) (records : List Entry) (name : List ℕ) → Contains (met names records) name → Contains names name ⊎ IsOfOne records name
met_from names [] name has = inl has
met_from names (entry ∷ records) name has = ⊎_elim
    (λ before. ⊎_elim (λ there. inl there) (λ here. inr (entry, (0, omega arith, refl), here)) (from-with names entry.0.table name before))
    (λ later. inr (more entry records name later)) (met_from (with_name names entry.0.table) records name has)

-- ---- of an array

-- a name is met if it is `main`, or a record is of its table; and no other is
pub is_met : (records : List Entry) (name : List ℕ) → (name ≡ main_name) ⊎ IsOfOne records name → Contains (tables_met records) name
is_met records name (inl main) = met_keeps (main_name ∷ []) records name (0, omega arith, sym main)
is_met records name (inr of) = met_has (main_name ∷ []) records name of

pub is_of_met : (records : List Entry) (name : List ℕ) → Contains (tables_met records) name → (name ≡ main_name) ⊎ IsOfOne records name
is_of_met records name has = ⊎_elim (λ main. inl (sym (single main))) (λ of. inr of) (met_from (main_name ∷ []) records name has)
  where
    single : Contains (main_name ∷ []) name → main_name ≡ name
    single (zero, within, is) = is
    single (suc k, within, is) = absurd (omega (arith, within))

-- no more tables are met than there are, if records are of these
pub met_few : (records : List Entry) (names : List (List ℕ)) → Contains names main_name → ((name : List ℕ) → IsOfOne records name → Contains names name) → length (tables_met records) ≤ length names
met_few records names main are =
    length-le_from_is_member nat_list_eq_equiv (tables_met records) names (met_apart (main_name ∷ []) records main_alone)
    (λ name has. (is_member-Decides name_decides names name).1 (⊎_elim (λ is. subst (Contains names) (sym is) main) (are name) (is_of_met records name ((is_member-Decides name_decides (tables_met records) name).0 has))))
