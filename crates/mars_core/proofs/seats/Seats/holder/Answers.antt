use Rattle.std.proofs.Common.{ℕ, length, sym, ap, ◌∙◌, arith}
use Rattle.std.proofs.lemmas.Bool.{MatchBool-at_true, MatchBool-at_false}
use Rattle.std.specs.Prelude.{IsTrue, IsFalse}
use Rattle.history.specs.Locks.{touches, touched, clash}
use Rattle.mars_core.specs.Seats.{Seats, calls_at}
use Rattle.mars_core.proofs.Seating.{free_own, free_apart, free_idle, free_all}
use Rattle.mars_core.proofs.seats.Seats.holder.Goals.{else-other-caller-via-then-other-caller+then-is_live+else-clash, else-other-caller-via-then-other-caller+else-is_live, else-other-caller-via-else-other-caller}
use Rattle.mars_core.proofs.seats.Seats.holder.Goals as goal

pub loop-other-init : goal.loop-other-init
loop-other-init g c = λ call are holder lt blocks. absurd (omega (arith, lt))

pub returns-then-clash-clause-busy : goal.returns-then-clash-clause-busy
returns-then-clash-clause-busy g c = λ call are.
    let asked = touches c.args.self.now.names call in
    let taken = touched c.args.self.now.names (calls_at c.args.self.now c.loop-other.other) in
    let meets = MatchBool-at_true ((stripe : ℕ) × IsTrue (clash (asked stripe) (taken stripe))) ((stripe : ℕ) → IsFalse (clash (asked stripe) (taken stripe)))
    c.if-clash.true (c.clash.ensures asked taken are c.touched.ensures) in
    ((c.if-other-caller.true, meets), c.loop-other.invariant call are)

pub loop-other-preserved : goal.loop-other-preserved
loop-other-preserved g c = λ call are. elim c.else-other-caller.branch [
  | else-other-caller-via-then-other-caller+then-is_live+else-clash w ↦ (let asked = touches c.args.self.now.names call in
      let taken = touched c.args.self.now.names (calls_at c.args.self.now c.loop-other.other) in
      free_apart c.args.self.now c.args.caller call c.loop-other.other (c.loop-other.invariant call are)
      (MatchBool-at_false ((stripe : ℕ) × IsTrue (clash (asked stripe) (taken stripe))) ((stripe : ℕ) → IsFalse (clash (asked stripe) (taken stripe)))
      w.if-clash.false (w.clash.ensures asked taken are w.touched.ensures)))
  | else-other-caller-via-then-other-caller+else-is_live w ↦ free_idle c.args.self.now c.args.caller call c.loop-other.other (c.loop-other.invariant call are)
      (sym w.is_live.ensures ∙ w.if-is_live.false)
  | else-other-caller-via-else-other-caller w ↦ free_own c.args.self.now c.args.caller call c.loop-other.other (c.loop-other.invariant call are) w.if-other-caller.false
]

pub returns-clause-free : goal.returns-clause-free
returns-clause-free g c = λ call are.
    let all = ap (λ (seats : Seats). length seats.places) (sym c.self.view_is) in
    free_all c.args.self.now c.args.caller call c.loop-other.other (omega (arith, all, c.len-other-end.ensures, c.loop-other-test.false)) (c.loop-other.invariant call are)
