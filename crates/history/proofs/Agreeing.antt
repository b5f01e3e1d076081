-- Tables after writes, and tables that agree on some keys.
use Rattle.std.proofs.Common.{◌≡◌, ◌≢◌, ℕ, Bool, true, false, cond, inl, inr, List, Some, None, refl, sym, ap, subst, ◌∙◌}
use Rattle.std.specs.Prelude.{Option}
use Rattle.std.specs.FinMap.{get, remove, get-insert, get-remove, same_map}
use Rattle.std.proofs.lemmas.Bool.{both_ways}
use Rattle.history.specs.Key.{Key, is_same_key}
use Rattle.history.specs.Writes.{Table, set_or_remove}
use Rattle.history.specs.Locks.{Agree, AgreeOff}
use Rattle.history.proofs.Keys.{key_cmp_total, key_cmp-IsAntisymmetric, tied, cases_key, same_key, other_key}

-- what is found at a key after a write
pub get-set : (table : Table) (k : Key) (v : Option (List ℕ)) (q : Key) → get (set_or_remove table k v) q ≡ cond (is_same_key k q) v (get table q)
get-set table k None q = get-remove key_cmp_total table k q ∙ ap (λ (b : Bool). cond b None (get table q)) (tied q k)
get-set table k (Some v) q = get-insert key_cmp_total table k v q ∙ ap (λ (b : Bool). cond b (Some v) (get table q)) (tied q k)

pub get-set_here : (table : Table) (k : Key) (v : Option (List ℕ)) → get (set_or_remove table k v) k ≡ v
get-set_here table k v = get-set table k v k ∙ ap (λ (b : Bool). cond b v (get table k)) (same_key k k refl)

pub get-set_there : (table : Table) (k : Key) (v : Option (List ℕ)) (q : Key) → q ≢ k → get (set_or_remove table k v) q ≡ get table q
get-set_there table k v q ne = get-set table k v q ∙ ap (λ (b : Bool). cond b v (get table q)) (other_key k q (λ e. ne (sym e)))

-- tables in which the same is found are equal
pub same_table : (one other : Table) → ((q : Key) → get one q ≡ get other q) → one ≡ other
same_table one other same = same_map key_cmp_total key_cmp-IsAntisymmetric one other same

-- removing an absent key changes nothing
pub remove_absent : (table : Table) (key : Key) → get table key ≡ None → remove table key ≡ table
remove_absent table key none = same_table (remove table key) table (λ q. elim (cases_key q key) [
  | inl is ↦ ap (get (remove table key)) is ∙ get-set_here table key None ∙ sym (ap (get table) is ∙ none)
  | inr ne ↦ get-set_there table key None q ne
])

apart : (keys : Key → Bool) (k q : Key) → keys k ≡ true → keys q ≡ false → q ≢ k
apart keys k q within out same = both_ways (keys q) out (subst (λ (x : Key). keys x ≡ true) (sym same) within)

module _ (keys : Key → Bool) where
  -- the same write keeps the agreement
  pub agree-set : (one other : Table) (k : Key) (v : Option (List ℕ)) → Agree keys one other → Agree keys (set_or_remove one k v) (set_or_remove other k v)
  agree-set one other k v agree q within = get-set one k v q ∙ ap (cond (is_same_key k q) v) (agree q within) ∙ sym (get-set other k v q)

  -- a write of a key of the set changes nothing outside it
  pub off-set : (one other : Table) (k : Key) (v : Option (List ℕ)) → keys k ≡ true → AgreeOff keys one other → AgreeOff keys (set_or_remove one k v) other
  off-set one other k v within agree q out = get-set_there one k v q (apart keys k q within out) ∙ agree q out

-- tables that agree on all keys are equal
pub agree_all : (keys : Key → Bool) (one other : Table) → ((key : Key) → keys key ≡ true) → Agree keys one other → one ≡ other
agree_all keys one other all agree = same_table one other (λ q. agree q (all q))
