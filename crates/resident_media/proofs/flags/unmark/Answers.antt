use Rattle.std.proofs.Common.{◌≡◌, ℕ, false, subst, arith}
use Rattle.resident_media.specs.Blocks.{IsMarked}
use Rattle.resident_media.proofs.flags.unmark.Goals as goal

pub returns : goal.returns
returns c =
    let is : c.loop-b.b ≡ c.args.end = omega arith in
    subst (λ (n : ℕ). IsMarked c.args.first n false c.args.known.now c.loop-b.known) is c.loop-b.invariant
