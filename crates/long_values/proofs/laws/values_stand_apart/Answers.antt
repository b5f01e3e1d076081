use Rattle.std.proofs.Common.{◌≢◌, ℕ, ◌+◌, ◌*◌, ◌<◌, ◌≤◌, inl, inr, List, Option, sym, ◌∙◌, subst, arith}
use Rattle.std.proofs.lemmas.Bool.{cases_eq}
use Rattle.std.proofs.lemmas.Map.{update_here, update_apart}
use Rattle.history.specs.Key.{of_table}
use Rattle.history.specs.Writes.{Table}
use Rattle.long_values.specs.Values.{IsKept, AreKept, with_value}
use Rattle.long_values.specs.Changing.{SameButAt}
use Rattle.long_values.proofs.laws.values_stand_apart.Goals as goal

-- the records of two keys lie apart
apart : (key other n : ℕ) → other ≢ key → n < 512 → key * 512 ≤ other * 512 + n → key * 512 + 512 ≤ other * 512 + n
apart key other n ne lt le = omega (arith, ne, lt, le)

others_stay : (name : List ℕ) (key other : ℕ) (value : Option (List ℕ)) (old new : Table) → other ≢ key → SameButAt name key old new → IsKept name other value old → IsKept name other value new
others_stay name key other value old new ne same kept = record {
  long = kept.long;
  records = λ n lt. same (of_table name (other * 512 + n)) (λ is le. apart key other n ne lt le) ∙ kept.records n lt;
}

one_of_them : (name : List ℕ) (key : ℕ) (values : ℕ → Option (List ℕ)) (value : Option (List ℕ)) (old new : Table) → AreKept name values old → SameButAt name key old new → IsKept name key value new → AreKept name (with_value values key value) new
one_of_them name key values value old new all same kept other = elim (cases_eq other key) [
  | inl here ↦ subst (λ (k : ℕ). IsKept name k (with_value values key value k) new) (sym here) (subst (λ (v : Option (List ℕ)). IsKept name key v new) (sym (update_here values key value)) kept)
  | inr ne ↦ subst (λ (v : Option (List ℕ)). IsKept name other v new) (sym (update_apart values key value other ne)) (others_stay name key other (values other) old new ne same (all other))
]

pub returns : goal.returns
returns c = record {
  none = λ name table empty key. record { long = tt; records = λ n lt. empty (key * 512 + n) };
  others = others_stay;
  all = one_of_them;
}
