-- What is found in lists of records, each of another key.
use Rattle.std.proofs.Common.{◌≡◌, ℕ, Bool, true, false, cond, ◌&&◌, List, [], ◌∷◌, map, Option, Some, None, refl, sym, ap, subst, ◌∙◌}
use Rattle.std.specs.Prelude.{IsPermutation, slice_get, T}
use Rattle.std.specs.List.{AllByRecursion, Contains, IsDistinct}
use Rattle.std.specs.Map.{lookup}
use Rattle.std.specs.Ordering.{eq_by_cmp, is_eq, is_lt}
use Rattle.std.specs.declared.cmp.Ordering.{Ordering}
use Rattle.std.specs.declared.cmp.Ordering.TheVariants.{Less, Equal, Greater}
use Rattle.std.specs.Cmp.{eq_by_cmp_equiv}
use Rattle.std.specs.FinMap.{get, entries, from_entries, entries_sorted, get-entries, get-from_entries}
use Rattle.std.specs.FinMap.Entries.{find, below_all, is_sorted}
use Rattle.std.proofs.lemmas.List.Sorted.{Contains-permutation, IsPermutation-map, IsPermutation-sym}
use Rattle.std.proofs.lemmas.Map.Entries.{place_from_lookup}
use Rattle.std.proofs.lemmas.Map.Keys.{IsDistinct-IsPermutation}
use Rattle.std.proofs.lemmas.Map.Views.{lookup-from_Contains}
use Rattle.std.proofs.lemmas.Option.{slice_get_within, get_or_from_slice_get}
use Rattle.history.specs.Key.{key_cmp, is_same_key}
use Rattle.history.specs.declared.key.Key.{Key}
use Rattle.history.specs.Writes.{Table}
use Rattle.history.proofs.Keys.{key_cmp_total, same_keys, same_turned, tied}
use Rattle.history.proofs.Agreeing.{same_table}

abbrev pub Entry : Type 0
Entry = Key × List ℕ

abbrev pub keys_in : List Entry → List Key
keys_in records = map (λ (entry : Entry). entry.0) records

-- the order ties the keys that are the same
same_test : eq_by_cmp key_cmp ≡ is_same_key
same_test = λ i q k. (tied q k ∙ same_turned k q) i

-- ---- records by rising key

front : (a b : Bool) → T (a && b) → T a
front true b p = tt
front false b p = p

rest : (a b : Bool) → T (a && b) → T b
rest true b p = p
rest false b p = absurd p

above : (order : Ordering) → T (is_lt order) → is_eq order ≡ false
above Less less = refl
above Equal less = absurd less
above Greater less = refl

later_differ : (key : Key) (records : List Entry) → T (below_all key_cmp key records) → AllByRecursion (λ other. is_same_key key other ≡ false) (keys_in records)
later_differ key [] below = tt
later_differ key (entry ∷ records) below =
    (sym (λ i. same_test i key entry.0) ∙ above (key_cmp key entry.0) (front _ _ below), later_differ key records (rest _ _ below))

sorted_once : (records : List Entry) → T (is_sorted key_cmp records) → IsDistinct is_same_key (keys_in records)
unfolding IsDistinct
sorted_once [] sorted = tt
sorted_once (entry ∷ records) sorted = (later_differ entry.0 records (front _ _ sorted), sorted_once records (rest _ _ sorted))

-- no key of a table stands twice
pub once : (table : Table) → IsDistinct is_same_key (keys_in (entries table))
once table = sorted_once (entries table) (entries_sorted table)

-- ---- a record that is there is found, and the other way round

find_is_lookup : (key : Key) (records : List Entry) → lookup (eq_by_cmp key_cmp key) records ≡ find key_cmp key records
find_is_lookup key [] = refl
find_is_lookup key (entry ∷ records) = ap (λ (o : Option (List ℕ)). cond (eq_by_cmp key_cmp key entry.0) (Some entry.1) o) (find_is_lookup key records)

there_found : (records : List Entry) (key : Key) (value : List ℕ) → IsDistinct is_same_key (keys_in records) → Contains records (key, value) → find key_cmp key records ≡ Some value
there_found records key value apart has =
    sym (find_is_lookup key records)
    ∙ lookup-from_Contains (eq_by_cmp_equiv key_cmp_total) key value records (subst (λ (test : Key → Key → Bool). IsDistinct test (keys_in records)) (sym same_test) apart) has

found_there : (records : List Entry) (key : Key) (value : List ℕ) → find key_cmp key records ≡ Some value → Contains records (key, value)
found_there records key value is =
    let place = place_from_lookup (eq_by_cmp key_cmp key) records value (find_is_lookup key records ∙ is) in
    let same : key ≡ place.1 = same_keys key place.1 (sym (λ i. same_test i key place.1) ∙ place.3) in
    let at : slice_get records place.0 ≡ Some (key, value) = place.2 ∙ ap (λ (k : Key). Some (k, value)) (sym same) in
    (place.0, slice_get_within records place.0 (key, value) at, get_or_from_slice_get records place.0 (key, value) (key, value) at)

pub entry_got : (table : Table) (key : Key) (value : List ℕ) → Contains (entries table) (key, value) → get table key ≡ Some value
entry_got table key value has = get-entries table key ∙ there_found (entries table) key value (once table) has

pub got_entry : (table : Table) (key : Key) (value : List ℕ) → get table key ≡ Some value → Contains (entries table) (key, value)
got_entry table key value is = found_there (entries table) key value (sym (get-entries table key) ∙ is)

-- ---- records in another order make the same table

module _ (records others : List Entry) (apart : IsDistinct is_same_key (keys_in records)) (same : IsPermutation records others) where
  apart_too : IsDistinct is_same_key (keys_in others)
  apart_too = IsDistinct-IsPermutation is_same_key same_turned (keys_in records) (keys_in others) (IsPermutation-map (λ (entry : Entry). entry.0) records others same) apart

  pub find_same : (key : Key) → find key_cmp key others ≡ find key_cmp key records
  find_same key = go (find key_cmp key records) (find key_cmp key others) refl refl
    where
      go : (one other : Option (List ℕ)) → find key_cmp key records ≡ one → find key_cmp key others ≡ other → find key_cmp key others ≡ find key_cmp key records
      go (Some value) other first second = there_found others key value apart_too (Contains-permutation records others (key, value) same (found_there records key value first)) ∙ sym first
      go None None first second = second ∙ sym first
      go None (Some value) first second =
          let there : find key_cmp key records ≡ Some value =
          there_found records key value apart (Contains-permutation others records (key, value) (IsPermutation-sym records others same) (found_there others key value second)) in
          second ∙ sym there

pub made_again : (table : Table) (others : List Entry) → IsPermutation (entries table) others → from_entries others ≡ table
made_again table others same =
    same_table (from_entries others) table (λ key. get-from_entries key_cmp_total others key ∙ find_same (entries table) others (once table) same key ∙ sym (get-entries table key))
