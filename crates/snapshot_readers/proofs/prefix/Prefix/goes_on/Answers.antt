use Rattle.std.proofs.Common.{◌≤◌, ◌<◌, ap, subst, arith, length, List}
use mathlib.Core.List.{IsPrefix}
use Rattle.std.proofs.lemmas.Bool.{leb-true, leb-false}
use Rattle.snapshot_readers.specs.Batches.{Batch}
use Rattle.snapshot_readers.proofs.Prefixes.{prefix_shorter, by_test}
use Rattle.snapshot_readers.proofs.prefix.Prefix.goes_on.Goals as goal

pub returns : goal.returns
returns c =
    let self = c.args.self.now in
    let other = c.args.other.now in
    let both = c.learn.new.self.log in
    let this : IsPrefix self.seen.log both = subst (λ (l : List Batch). IsPrefix l both) (ap (λ s. s.log) c.again-both.ensures) c.learn.ensures.2 in
    by_test _ _ _
    (λ is. let few : other.batches ≤ self.batches = leb-true other.batches self.batches is in
    let less : length other.seen.log ≤ length self.seen.log = omega (arith, self.as_many, other.as_many) in prefix_shorter other.seen.log self.seen.log both c.learn.ensures.3 this less)
    (λ is. let many : self.batches < other.batches = leb-false other.batches self.batches is in
    let less : length self.seen.log ≤ length other.seen.log = omega (arith, self.as_many, other.as_many) in prefix_shorter self.seen.log other.seen.log both this c.learn.ensures.3 less)
