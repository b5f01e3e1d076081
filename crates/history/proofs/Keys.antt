-- Keys: their order, and when two are the same.
use Rattle.std.proofs.Common.{◌≡◌, ◌≢◌, ℕ, true, false, ◌⊎◌, inl, inr, List, refl, sym, ap, ◌∙◌, Decides}
use Rattle.std.specs.Prelude.{nat_eq}
use lib.Pointwise.{pointwise}
use Rattle.std.specs.Ordering.{nat_cmp, eq_by_cmp}
use Rattle.std.specs.Cmp.{IsTotalOrder, nat_cmp_total, unsigned_ties, on_total, then_total, both_tied, Equal-is}
use Rattle.std.specs.Cmp.Lexicographic.{slice_cmp, nat_list_cmp_total, texts_ties}
use Rattle.std.specs.FinMap.{IsAntisymmetric}
use Rattle.std.proofs.lemmas.Bool.{and_parts, and_from, cases_Bool, false_from_ne_true, both_ways}
use Rattle.std.proofs.lemmas.Bool.Decides.{Decides-eqb}
use Rattle.std.proofs.lemmas.Slice.Eq.{slice_eq-Decides}
use Rattle.history.specs.Key.{Key, key_cmp, is_same_key}

pub key_cmp_total : IsTotalOrder key_cmp
unfolding key_cmp
key_cmp_total = then_total (on_total (λ (k : Key). k.table) nat_list_cmp_total) (on_total (λ (k : Key). k.key) nat_cmp_total)

-- two names are the same
pub name_decides : (one other : List ℕ) → Decides (pointwise nat_eq one other) (one ≡ other)
name_decides one other = slice_eq-Decides Decides-eqb one other (pointwise nat_eq one other) refl

-- two keys are the same if the test of it says so,
pub same_keys : (one other : Key) → is_same_key one other ≡ true → one ≡ other
same_keys one other is =
    let both = and_parts (pointwise nat_eq one.table other.table) (nat_eq one.key other.key) is in
    let name : one.table ≡ other.table = (name_decides one.table other.table).0 both.0 in
    let number : one.key ≡ other.key = (Decides-eqb one.key other.key).0 both.1 in
    λ i. record { table = name i; key = number i }

-- and only then
pub same_key : (one other : Key) → one ≡ other → is_same_key one other ≡ true
same_key one other is =
    and_from (pointwise nat_eq one.table other.table) (nat_eq one.key other.key)
    ((name_decides one.table other.table).1 (ap (λ (k : Key). k.table) is)) ((Decides-eqb one.key other.key).1 (ap (λ (k : Key). k.key) is))

pub other_key : (one other : Key) → one ≢ other → is_same_key one other ≡ false
other_key one other ne = false_from_ne_true (is_same_key one other) (λ same. ne (same_keys one other same))

pub cases_key : (one other : Key) → (one ≡ other) ⊎ (one ≢ other)
cases_key one other = elim (cases_Bool (is_same_key one other)) [
  | inl same ↦ inl (same_keys one other same)
  | inr differ ↦ inr (λ is. both_ways (is_same_key one other) differ (same_key one other is))
]

pub same_turned : (one other : Key) → is_same_key one other ≡ is_same_key other one
same_turned one other = elim (cases_key one other) [
  | inl same ↦ same_key one other same ∙ sym (same_key other one (sym same))
  | inr differ ↦ other_key one other differ ∙ sym (other_key other one (λ e. differ (sym e)))
]

-- keys that the order does not tell apart are the same
pub tied : (q k : Key) → eq_by_cmp key_cmp q k ≡ is_same_key k q
unfolding key_cmp
tied q k =
    sym (both_tied (pointwise nat_eq q.table k.table) (nat_eq q.key k.key) (slice_cmp nat_cmp q.table k.table) (nat_cmp q.key k.key)
    (texts_ties q.table k.table) (unsigned_ties q.key k.key)) ∙ same_turned q k

pub key_cmp-IsAntisymmetric : IsAntisymmetric key_cmp
key_cmp-IsAntisymmetric x y is = sym (same_keys y x (sym (tied x y) ∙ (Equal-is (key_cmp x y)).1 is))
