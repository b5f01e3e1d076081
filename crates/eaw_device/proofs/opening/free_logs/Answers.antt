use Rattle.std.proofs.Common.{◌≡◌, ◌∙◌, ℕ, zero, suc, ◌+◌, List, [], ◌∷◌, ◌++◌, length, ap, sym, subst, length-append}
use Rattle.std.specs.Prelude.{Some, slice_get}
use Rattle.eaw_device.specs.declared.log.Log.{Log}
use Rattle.eaw_device.specs.Opening.{IsFree}
use Rattle.eaw_device.proofs.opening.free_logs.Goals as goal

-- one more at the end
each_more : {X : Type 0} (P : X → Type 0) (xs : List X) (x : X) → ((t : ℕ) (y : X) → slice_get xs t ≡ Some y → P y) → P x → (t : ℕ) (y : X) → slice_get (xs ++ x ∷ []) t ≡ Some y → P y
each_more P [] x each here zero y is = let same : x ≡ y = cc in subst P same here
each_more P [] x each here (suc t) y is = cc
each_more P (z ∷ xs) x each here zero y is = each zero y is
each_more P (z ∷ xs) x each here (suc t) y is = each_more P xs x (λ u w got. each (suc u) w got) here t y is

pub loop-tid-preserved : goal.loop-tid-preserved
loop-tid-preserved c =
    let log = c.in_ok-new.field-0 in
    let old = c.loop-tid.logs.items in
    let items = c.push_reserved.ensures.items in
    let free : IsFree c.args.shape.now log = record { kept = c.in_ok-new.ensures.kept; room = c.in_ok-new.ensures.room; is_free = c.in_ok-new.ensures.free } in
    record {
      room = c.push_reserved.ensures.capacity ∙ c.loop-tid.invariant.room;
      many = ap length items ∙ length-append old (log ∷ []) ∙ ap (λ (n : ℕ). n + 1) c.loop-tid.invariant.many;
      free = λ t x got. each_more (IsFree c.args.shape.now) old log c.loop-tid.invariant.free free t x (ap (λ (l : List Log). slice_get l t) (sym items) ∙ got);
    }
