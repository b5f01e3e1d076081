use Rattle.std.proofs.Common.{◌≡◌, ◌+◌, ◌-◌, ℕ, ap, arith, take, drop}
use Rattle.resident_media.proofs.Putting.{put_more}
use Rattle.resident_media.proofs.blocks.Blocks.put_all.Goals as goal

pub loop-done-preserved : goal.loop-done-preserved
loop-done-preserved c =
    let done = c.loop-done.done in
    let part = c.min-part.result in
    let count : done + part - done ≡ part = omega arith in
    put_more c.args.at done part c.args.bytes.now (take (done + part - done) (drop done c.args.bytes.now)) c.args.self.now c.loop-done.self c.put_part.new.self c.loop-done.invariant c.loop-done-test.true
    c.min-part.ensures (ap (λ (k : ℕ). take k (drop done c.args.bytes.now)) count) c.requires.within c.put_part.ensures.len c.put_part.ensures.known c.put_part.ensures.bytes
