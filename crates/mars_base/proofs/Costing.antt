-- Costs of calls one after another.
use Rattle.std.proofs.Common.{◌≡◌, ℕ, suc, subst, ◌+◌, ◌*◌, ◌<◌, ◌≤◌, Bool, Result, Ok, Err, arith}
use Rattle.std.specs.Prelude.{IsErr}
use Rattle.std.proofs.lemmas.Bool.{false≢true}
use Rattle.std.proofs.Math.Nat.{mul-suc, mul-le-mul_left}
use Rattle.mars_base.specs.Costs.{Costs}
use Rattle.mars_base.specs.Moments.{Ticks}

-- what calls cost if all succeeded
abbrev pub CostsSoFar : Bool → ℕ → ℕ → ℕ → Type 0
CostsSoFar exact calls before now = let done : Result (Unit {0}) (Unit {0}) = Ok tt in Costs exact calls before now done

module _ {T E : Type 0} (exact : Bool) where
  -- one call
  pub costs_one : (before now : ℕ) (r : Result T E) → Ticks before now r → Costs exact 1 before now r
  costs_one before now (Ok x) ticks = record { done = λ told. omega (arith, ticks.next, ticks.last); most = omega (arith, ticks.next) }
  costs_one before now (Err e) ticks = record { done = λ told. tt; most = omega (arith, ticks.next) }

  -- all of them, whatever the answer
  pub costs_all : (calls before now : ℕ) (r : Result T E) → now ≡ before + calls → Costs exact calls before now r
  costs_all calls before now (Ok x) is = record { done = λ told. is; most = omega arith }
  costs_all calls before now (Err e) is = record { done = λ told. tt; most = omega arith }

  -- some of them, if the work failed
  pub costs_err : (calls before now : ℕ) (r : Result T E) → IsErr r → now ≤ before + calls → Costs exact calls before now r
  costs_err calls before now (Ok x) failed le = absurd (false≢true failed)
  costs_err calls before now (Err e) failed le = record { done = λ told. tt; most = le }

  -- after others that succeeded
  pub costs_then : (all part rest before mid now : ℕ) (r : Result T E) → all ≡ part + rest → CostsSoFar exact part before mid → Costs exact rest mid now r → Costs exact all before now r
  costs_then all part rest before mid now (Ok y) is first costs = record {
    done = λ told. let one = first.done told in let two = costs.done told in omega (arith, is, one, two);
    most = omega (arith, is, first.most, costs.most);
  }
  costs_then all part rest before mid now (Err e) is first costs = record { done = λ told. tt; most = omega (arith, is, first.most, costs.most) }

-- this many were made
pub so_far : (exact : Bool) (calls before now : ℕ) → now ≡ before + calls → CostsSoFar exact calls before now
so_far exact calls before now is = record { done = λ told. is; most = omega arith }

pub once : {T E : Type 0} (exact : Bool) (before now : ℕ) (x : T) → (let r : Result T E = Ok x in Ticks before now r) → CostsSoFar exact 1 before now
once exact before now x ticks = record { done = λ told. omega (arith, ticks.next, ticks.last); most = omega (arith, ticks.next) }

pub none_yet : (exact : Bool) (calls now : ℕ) → calls ≡ 0 → CostsSoFar exact calls now now
none_yet exact calls now none = record { done = λ told. omega arith; most = omega arith }

pub costs_more : {T E : Type 0} (exact : Bool) (all part rest before mid now : ℕ) (x : T) → all ≡ part + rest
    → CostsSoFar exact part before mid → (let r : Result T E = Ok x in Costs exact rest mid now r) → CostsSoFar exact all before now
costs_more exact all part rest before mid now x is first costs = record {
  done = λ told. let one = first.done told in let two = costs.done told in omega (arith, is, one, two);
  most = omega (arith, is, first.most, costs.most);
}

pub costs_ok : {T E : Type 0} (exact : Bool) (all calls before now : ℕ) (x : T) → all ≡ calls → CostsSoFar exact calls before now → (let r : Result T E = Ok x in Costs exact all before now r)
costs_ok exact all calls before now x is costs = record { done = λ told. let one = costs.done told in omega (arith, is, one); most = omega (arith, is, costs.most) }

-- one more round of a loop whose rounds make `each` calls
pub rounds_next : (each at next : ℕ) → next ≡ at + 1 → each * next ≡ each * at + each
rounds_next each at next is = subst (λ (k : ℕ). each * k ≡ each * at + each) (let e : suc at ≡ next = omega arith in e) (mul-suc each at)

pub rounds_below : (each at all : ℕ) → at < all → each * at + each ≤ each * all
rounds_below each at all lt = let le : suc at ≤ all = omega arith in omega (arith, mul-suc each at, mul-le-mul_left {m = suc at} {n = all} each le)
