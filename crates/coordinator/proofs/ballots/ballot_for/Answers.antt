use Rattle.std.proofs.Common.{◌≡◌, ℕ, ◌+◌, Bool, true, false, ◌&&◌, ◌||◌, nat_lt, refl, sym, ◌∙◌, ap, subst, arith}
use Rattle.std.proofs.lemmas.Bool.{ne_eqb}
use Rattle.std.proofs.lemmas.Nat.{pow_pos}
use Rattle.std.proofs.lemmas.Nat.Bits.{bit_at-zero}
use Rattle.array_shape.specs.NumberSet.{has}
use Rattle.commit_queue.specs.Deferred.{any_below}
use Rattle.coordinator.specs.Commits.{IsMaskOf, cells_in}
use Rattle.coordinator.proofs.Masks.{any_more, mask_joined}
use Rattle.coordinator.proofs.ballots.ballot_for.Goals as goal

pub loop-tid-init : goal.loop-tid-init
loop-tid-init c = record { small = pow_pos c.args.shape.now.loggers; is = λ g lt. ne_eqb _ 1 (λ one. omega (arith, one, bit_at-zero g)) }

or_none : (a b : Bool) → b ≡ false → (a || b) ≡ a
or_none true b none = refl
or_none false b none = none

pub loop-tid-preserved-then-not-contains : goal.loop-tid-preserved-then-not-contains
loop-tid-preserved-then-not-contains c =
    let at = c.loop-tid.invariant in
    let test = λ (g t : ℕ). has c.args.group t && nat_lt 0 (cells_in c.args.cells.now g t).count in
    record {
      small = at.small;
      is = λ g lt.
          let none : test g c.loop-tid.tid ≡ false = ap (λ (b : Bool). b && nat_lt 0 (cells_in c.args.cells.now g c.loop-tid.tid).count) (sym c.contains.ensures ∙ c.if-not-contains.true) in
          at.is g lt ∙ sym (any_more c.loop-tid.tid (test g) ∙ or_none (any_below c.loop-tid.tid (test g)) (test g c.loop-tid.tid) none);
    }

pub loop-tid-preserved : goal.loop-tid-preserved
loop-tid-preserved c =
    let test = λ (g t : ℕ). has c.args.group t && nat_lt 0 (cells_in c.args.cells.now g t).count in
    let t = c.loop-tid.tid in
    mask_joined c.args.shape.now.loggers (λ g. any_below t (test g)) (λ g. nat_lt 0 (cells_in c.args.cells.now g t).count) (λ g. any_below (t + 1) (test g)) c.loop-tid.mask c.loggers_of-mask.result
    c.loop-tid.invariant c.loggers_of-mask.ensures (λ g lt. any_more t (test g) ∙ ap (λ (b : Bool). any_below t (test g) || (b && nat_lt 0 (cells_in c.args.cells.now g t).count)) (sym c.contains.ensures ∙ c.if-not-contains.false))

pub returns-clause-mask : goal.returns-clause-mask
returns-clause-mask c =
    let all : c.loop-tid.tid ≡ c.args.shape.now.numbers = omega arith in
    subst (λ (n : ℕ). IsMaskOf c.args.shape.now.loggers (λ g. any_below n (λ t. has c.args.group t && nat_lt 0 (cells_in c.args.cells.now g t).count)) c.loop-tid.mask) all c.loop-tid.invariant
