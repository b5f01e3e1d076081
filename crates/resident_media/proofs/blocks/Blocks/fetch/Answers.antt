use Rattle.std.proofs.Common.{◌≡◌, ◌-◌, ◌*◌, ◌<◌, ◌≤◌, ◌^◌, ℕ, List, ap, ◌∙◌, arith, length, take}
use Rattle.std.proofs.lemmas.List.{length-take-le}
use Rattle.std.specs.Vec.{vec_capacity}
use Rattle.mars_base.specs.Bytes.{range}
use Rattle.resident_media.specs.Blocks.{Kept}
use Rattle.resident_media.proofs.Kept.{holds_fetched}
use Rattle.resident_media.proofs.blocks.Blocks.fetch.Goals as goal

pub overflow_mul-from : goal.overflow_mul-from
overflow_mul-from g c =
    let small : vec_capacity c.self.inside.room < 2 ^ 63 = c.self.inside.room.small in
    omega (arith, small, c.self.invariant.fits, c.self.invariant.long, c.requires.order, c.requires.few, ap (λ (k : Kept). length k.known) c.self.view_is)

pub overflow_mul-end : goal.overflow_mul-end
overflow_mul-end g c =
    let small : vec_capacity c.self.inside.room < 2 ^ 63 = c.self.inside.room.small in
    omega (arith, small, c.self.invariant.fits, c.self.invariant.long, c.requires.few, ap (λ (k : Kept). length k.known) c.self.view_is)

pub returns-clause-holds : goal.returns-clause-holds
returns-clause-holds g c told long holds =
    let content = (g.M.Media.view c.args.inner.now).content.bytes in
    let from = c.args.first * 16384 in
    let count = c.min.result - c.args.first * 16384 in
    let few : count ≤ length c.deref_mut.result.now = omega (arith, c.lengthen.ensures.long, ap (λ (l : List ℕ). length l) c.deref_mut.ensures.value) in
    let old_long : length (take count c.deref_mut.result.now) ≡ count = length-take-le count c.deref_mut.result.now few in
    let new_long : length c.read.new.buf ≡ count = omega (arith, old_long) in
    holds_fetched from count c.read.new.buf c.args.self.now c.put_all.new.self new_long c.put_all.ensures.len c.put_all.ensures.known c.put_all.ensures.bytes content
    (c.in_ok-read.ensures.bytes told ∙ ap (range content from) old_long) holds
