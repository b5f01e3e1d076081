-- The depth of a device, and what its type says of it.
use Rattle.std.proofs.Common.{◌≡◌, ℕ, ◌<◌, sym, subst, arith}
use Rattle.std.proofs.lemmas.Bool.{ltb-true, ltb-false}
use Rattle.std.specs.Prelude.{IsTrue, IsFalse, nat_lt}
use Rattle.eaw_device.specs.Depths.{IsOfDepth}

module _ (least most : ℕ) where
  -- a call that keeps the depth keeps what the type says
  pub keeps_depth : (old new : ℕ) → new ≡ old → IsOfDepth least most old → IsOfDepth least most new
  keeps_depth old new same is = subst (IsOfDepth least most) (sym same) is

  -- where the type lets none wait
  pub none_may_wait : (depth : ℕ) → IsOfDepth least most depth → IsFalse (nat_lt 0 most) → depth ≡ 0
  none_may_wait depth is none = omega (arith, is.1, ltb-false 0 most none)

  -- and where it lets some
  pub some_can_wait : (depth : ℕ) → IsOfDepth least most depth → IsTrue (nat_lt 0 least) → 0 < depth
  some_can_wait depth is some = omega (arith, is.0, ltb-true 0 least some)
