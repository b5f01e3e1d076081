-- How many calls of an object some work makes, told by the moments before and after it.
use Rattle.std.specs.Prelude.{ℕ, ◌≡◌, ◌+◌, ◌≤◌, Bool, IsTrue, Result, OnOk}

-- At most this many calls; and just this many when the work succeeds, if `exact`.
pub record Costs {T E : Type 0} (exact : Bool) (calls before now : ℕ) (result : Result T E) : Type 0 where
  pub done : IsTrue exact → OnOk result (now ≡ before + calls)
  pub most : now ≤ before + calls
