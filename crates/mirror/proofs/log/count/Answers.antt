use Rattle.std.proofs.Common.{◌≡◌, ℕ, ◌+◌, ◌<◌, Bool, true, false, cond, nat_eq, List, length, take, get_or, sym, ◌∙◌, ap, arith}
use Rattle.std.proofs.lemmas.Bool.{eq-eqb, ne_eqb}
use Rattle.std.proofs.lemmas.List.{length-take}
use Rattle.array_shape.specs.declared.shape.Shape.{Shape}
use Rattle.array_shape.specs.Places.{logger_of}
use Rattle.array_shape.specs.Logged.{Part, ranges_of}
use Rattle.eaw_face.specs.State.{count_on}
use Rattle.mirror.proofs.Parts.{count_on-more, count_on-few}
use Rattle.mirror.proofs.log.count.Goals as goal
use Rattle.mirror.proofs.log.count.Goals.{then-place-logger, else-place-logger}

pub overflow_add-count : goal.overflow_add-count
overflow_add-count c =
    omega (arith, count_on-few c.args.shape c.args.logger (take c.loop-part.part-index c.args.parts.now), length-take c.loop-part.part-index c.args.parts.now)

-- one more part, which is the logger's or is not
one_more : (shape : Shape) (g : ℕ) (ps : List Part) (i count : ℕ) (part : Part) (on : Bool) → i < length ps → part ≡ get_or ps i part
    → count ≡ count_on shape g (ranges_of (take i ps)) → nat_eq (logger_of shape part.0) g ≡ on → count + cond on 1 0 ≡ count_on shape g (ranges_of (take (i + 1) ps))
one_more shape g ps i count part on lt is so_far test =
    let more = count_on-more shape g ps i part lt in
    let same : nat_eq (logger_of shape (get_or ps i part).0) g ≡ on = ap (λ (p : Part). nat_eq (logger_of shape p.0) g) (sym is) ∙ test in
    (λ i. so_far i + cond (sym same i) 1 0) ∙ sym more

none_more : (n : ℕ) → n ≡ n + 0
none_more n = omega arith

pub loop-part-preserved : goal.loop-part-preserved
loop-part-preserved c =
    let lt : c.loop-part.part-index < length c.args.parts.now = omega arith in
    let logger : c.place.result.logger ≡ logger_of c.args.shape c.part-item.result.0 = c.place.ensures.logger ∙ ap (logger_of c.args.shape) c.addr.ensures in
    elim c.if-place-logger.branch [
      | then-place-logger w ↦ w.count-is ∙ one_more c.args.shape c.args.logger c.args.parts.now c.loop-part.part-index c.loop-part.count c.part-item.result true lt c.part-item.is c.loop-part.invariant
          (eq-eqb (logger_of c.args.shape c.part-item.result.0) c.args.logger (sym logger ∙ w.if-place-logger.true))
      | else-place-logger w ↦ w.count-is ∙ none_more c.loop-part.count ∙ one_more c.args.shape c.args.logger c.args.parts.now c.loop-part.part-index c.loop-part.count c.part-item.result false lt c.part-item.is c.loop-part.invariant
          (ne_eqb (logger_of c.args.shape c.part-item.result.0) c.args.logger (λ is. w.if-place-logger.false (logger ∙ is)))
    ]
