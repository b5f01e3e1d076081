use Rattle.std.proofs.Common.{◌≤◌, ap, subst, arith, length, List}
use mathlib.Core.List.{IsPrefix}
use Rattle.snapshot_readers.specs.Batches.{Batch}
use Rattle.snapshot_readers.proofs.Prefixes.{prefix_shorter}
use Rattle.snapshot_readers.proofs.prefix.Prefix.longer.Goals as goal

pub returns-then-self-other-clause-this : goal.returns-then-self-other-clause-this
returns-then-self-other-clause-this c =
    let self = c.args.self.now in
    let other = c.args.other.now in
    let both = c.learn.new.self.log in
    let this : IsPrefix self.seen.log both = subst (λ (l : List Batch). IsPrefix l both) (ap (λ s. s.log) c.again-both.ensures) c.learn.ensures.2 in
    let less : length self.seen.log ≤ length other.seen.log = omega (arith, self.as_many, other.as_many) in
    rw c.again.ensures (prefix_shorter self.seen.log other.seen.log both this c.learn.ensures.3 less)

pub returns-clause-that : goal.returns-clause-that
returns-clause-that c =
    let self = c.args.self.now in
    let other = c.args.other.now in
    let both = c.learn.new.self.log in
    let this : IsPrefix self.seen.log both = subst (λ (l : List Batch). IsPrefix l both) (ap (λ s. s.log) c.again-both.ensures) c.learn.ensures.2 in
    let less : length other.seen.log ≤ length self.seen.log = omega (arith, self.as_many, other.as_many) in
    rw c.again-else-self-other.ensures (prefix_shorter other.seen.log self.seen.log both c.learn.ensures.3 this less)
