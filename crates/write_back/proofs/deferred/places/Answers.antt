use Rattle.std.proofs.Common.{◌≡◌, ◌∙◌, ℕ, zero, suc, ◌+◌, ◌*◌, List, [], ◌∷◌, ◌++◌, length, ap, sym, subst, length-append}
use Rattle.std.specs.Prelude.{Some, slice_get}
use Rattle.write_back.specs.declared.deferred.NumberParts.{NumberParts}
use Rattle.write_back.specs.Kept.{IsFree}
use Rattle.write_back.proofs.deferred.places.Goals as goal

-- one more at the end
each_more : {X : Type 0} (P : X → Type 0) (xs : List X) (x : X) → ((t : ℕ) (y : X) → slice_get xs t ≡ Some y → P y) → P x → (t : ℕ) (y : X) → slice_get (xs ++ x ∷ []) t ≡ Some y → P y
each_more P [] x each here zero y is = let same : x ≡ y = cc in subst P same here
each_more P [] x each here (suc t) y is = cc
each_more P (z ∷ xs) x each here zero y is = each zero y is
each_more P (z ∷ xs) x each here (suc t) y is = each_more P xs x (λ u w got. each (suc u) w got) here t y is

pub loop-tid-preserved : goal.loop-tid-preserved
loop-tid-preserved c =
    let n : NumberParts = record { entries = c.in_ok-entries.entries } in
    let old = c.loop-tid.table.items in
    let items = c.push_reserved.ensures.items in
    let loggers = c.from.ensures in
    let entries = c.from-2.ensures in
    let free : IsFree c.args.shape.now n = record { none = c.in_ok-entries.ensures.items; exact = c.in_ok-entries.ensures.exact ∙ (λ i. loggers i * entries i) } in
    record {
      room = c.push_reserved.ensures.capacity ∙ c.loop-tid.invariant.room;
      many = ap length items ∙ length-append old (n ∷ []) ∙ ap (λ (k : ℕ). k + 1) c.loop-tid.invariant.many;
      free = λ t x got. each_more (IsFree c.args.shape.now) old n c.loop-tid.invariant.free free t x (ap (λ (l : List NumberParts). slice_get l t) (sym items) ∙ got);
    }
