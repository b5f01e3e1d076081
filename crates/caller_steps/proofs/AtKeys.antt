-- Functions of keys, changed at one key.
use Rattle.std.proofs.Common.{◌≡◌, ◌≢◌, Bool, cond, Option, refl, sym, ap}
use Rattle.std.specs.Map.{update}
use Rattle.history.specs.Key.{is_same_key}
use Rattle.history.specs.declared.key.Key.{Key}
use Rattle.history.proofs.Keys.{same_key, other_key}

pub at_key : {X : Type 0} (f : Key → Option X) (key : Key) (value : Option X) → update is_same_key f key value key ≡ value
at_key f key value = ap (λ (b : Bool). cond b value (f key)) (same_key key key refl)

pub at_other_key : {X : Type 0} (f : Key → Option X) (key : Key) (value : Option X) (other : Key) → other ≢ key → update is_same_key f key value other ≡ f other
at_other_key f key value other ne = ap (λ (b : Bool). cond b value (f other)) (other_key key other (λ same. ne (sym same)))
