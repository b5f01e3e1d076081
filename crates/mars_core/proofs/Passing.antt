-- Which keys a purge has passed.
use Rattle.std.proofs.Common.{◌≡◌, ◌+◌, ◌^◌, ◌<◌, ◌≤◌, ◌⊎◌, ℕ, zero, suc, min, inl, inr, List, [], ◌∷◌, length, Some, sym, ap, subst, ◌∙◌, arith}
use Rattle.std.specs.Prelude.{slice_get}
use Rattle.std.proofs.lemmas.Bool.{cases_eq, cases_lt}
use Rattle.history.specs.Key.{of_table}
use Rattle.history.specs.declared.key.Key.{Key}
use Rattle.page_store.specs.Index.{Index}
use Rattle.record_table.specs.Removing.{IsAbsent, HasNoAbsent}
use Rattle.caller_steps.specs.Purging.{ComesBefore}
use Rattle.mars_core.specs.Purging.{IsBelow, IsOfTable, IsOfFirst}
use Rattle.mars_core.proofs.Clearing.{one_name}

-- a key of a table by its parts
key_is : (key : Key) (name : List ℕ) → key.table ≡ name → key ≡ of_table name key.key
key_is key name is = λ i. record { table = is i; key = key.key }

-- a name that is at a number is one of those
pub there : (names : List (List ℕ)) (table : ℕ) (name : List ℕ) → slice_get names table ≡ Some name → table < length names
there [] table name is = absurd (cc)
there (one ∷ names) zero name is = omega arith
there (one ∷ names) (suc table) name is = omega (arith, there names table name is)

module _ (index : Index) (bytes : List ℕ) (name : List ℕ) (from : ℕ) where
  -- no key more is absent
  pub all_below : HasNoAbsent index bytes name from (2 ^ 64) → (key : Key) → IsOfTable name key → IsAbsent index bytes key → IsBelow name from key
  all_below none key (is, small) absent = elim (cases_lt key.key from) [
    | inl lt ↦ (is, lt)
    | inr le ↦ absurd (none key.key (omega (arith, le)) small (subst (λ (k : Key). IsAbsent index bytes k) (key_is key name is) absent))
  ]

  -- up to the next one
  pub below_next : (next : ℕ) → HasNoAbsent index bytes name from next → (key : Key) → IsBelow name (suc next) key → IsAbsent index bytes key → IsBelow name from key ⊎ (key ≡ of_table name next)
  below_next next none key (is, small) absent = elim (cases_lt key.key from) [
    | inl lt ↦ inl (is, lt)
    | inr le ↦ elim (cases_eq key.key next) [
      | inl e ↦ inr (λ i. record { table = is i; key = e i })
      | inr ne ↦ absurd (none key.key (omega (arith, le)) (omega (arith, small, ne)) (subst (λ (k : Key). IsAbsent index bytes k) (key_is key name is) absent))
    ]
  ]

-- what was passed is passed still
pub below_more : (name : List ℕ) (from to : ℕ) → from ≤ to → (key : Key) → IsBelow name from key → IsBelow name to key
below_more name from to le key below = (below.0, omega (arith, le, below.1))

-- and so it is with the next key
pub below_both : (name : List ℕ) (from next to : ℕ) → from ≤ next → next < to → (key : Key) → IsBelow name from key ⊎ (key ≡ of_table name next) → IsBelow name to key
below_both name from next to le lt key (inl below) = (below.0, omega (arith, le, lt, below.1))
below_both name from next to le lt key (inr is) = (ap (λ (k : Key). k.table) is, omega (arith, lt, ap (λ (k : Key). k.key) is))

-- which comes behind them
pub below_before : (names : List (List ℕ)) (name : List ℕ) (from next : ℕ) → from ≤ next → (one : Key) → IsBelow name from one → ComesBefore names one (of_table name next)
below_before names name from next le one below = inr (below.0, omega (arith, le, below.1))

-- the tables before one, and that one
pub first_both : (names : List (List ℕ)) (n : ℕ) (name : List ℕ) → slice_get names n ≡ Some name → (key : Key) → IsOfFirst names n key ⊎ IsOfTable name key → IsOfFirst names (n + 1) key
first_both names n name at key (inl (j, lt, is, small)) = (j, omega (arith, lt), is, small)
first_both names n name at key (inr (is, small)) = (n, omega arith, at ∙ ap (λ (x : List ℕ). Some x) (sym is), small)

-- whose keys come behind theirs
pub first_before : (names : List (List ℕ)) (n : ℕ) (name : List ℕ) → slice_get names n ≡ Some name → (one other : Key) → IsOfFirst names n one → IsOfTable name other → ComesBefore names one other
first_before names n name at one other (j, lt, is, small) of = inl (j, n, lt, is, at ∙ ap (λ (x : List ℕ). Some x) (sym of.0))

-- all of them are of all tables
pub first_all : (names : List (List ℕ)) (n : ℕ) (key : Key) → IsOfFirst names n key → IsOfFirst names (length names) key
first_all names n key (j, lt, is, small) = (j, there names j key.table is, is, small)

-- one table more
pub first_more : (names : List (List ℕ)) (n : ℕ) (name : List ℕ) → slice_get names n ≡ Some name → (key : Key) → IsOfFirst names (n + 1) key → IsOfFirst names n key ⊎ IsOfTable name key
first_more names n name at key (j, lt, is, small) = elim (cases_eq j n) [
  | inl e ↦ inr (one_name key.table name (sym is ∙ ap (slice_get names) e ∙ at), small)
  | inr ne ↦ inl (j, omega (arith, lt, ne), is, small)
]

pub first_none : (names : List (List ℕ)) (key : Key) → IsOfFirst names 0 key → ⊥
first_none names key (j, lt, is, small) = omega (arith, lt)

pub below_none : (name : List ℕ) (key : Key) → IsBelow name 0 key → ⊥
below_none name key (is, lt) = omega (arith, lt)

-- a sum that has room
pub sum_is : (taken more sum : ℕ) → sum ≡ min (taken + more) 4294967295 → taken + more < 2 ^ 32 → sum ≡ taken + more
sum_is taken more sum total lt = omega (arith, total, lt)
