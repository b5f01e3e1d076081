use Rattle.std.proofs.Common.{◌≡◌, drop, length}
use Rattle.array_shape.specs.Logged.{applied, AllFit}
use Rattle.mirror.proofs.log.apply_all.Given as goal

abbrev pub invariant-loop-part : goal.invariant-loop-part
invariant-loop-part l = record { left : applied (drop l.part-index l.parts) l.target ≡ applied l.parts l.fn.target; fit : AllFit (length l.target) (drop l.part-index l.parts) }
