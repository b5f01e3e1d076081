use Rattle.std.proofs.Common.{◌≡◌, ◌+◌, ◌-◌, ◌/◌, ℕ, ◌∙◌, ap, sym, subst, arith, take, drop}
use Rattle.resident_media.proofs.Spots.{Copied, copied_on}
use borrow.Rule.Slice.PartMut.{put_mid}
use Rattle.resident_media.proofs.room.copy_out.Goals as goal

pub loop-done-preserved : goal.loop-done-preserved
loop-done-preserved c =
    let done = c.loop-done.done in
    let part = c.min-part.result in
    let n : done + part - done ≡ part = omega arith in
    let all : Copied c.args.at (done + part) c.args.room.now c.args.places.now (put_mid done part c.loop-done.buf c.copy_from_slice.new.self) =
    copied_on c.args.at done part c.spot-from.result c.args.room.now c.args.places.now c.loop-done.buf c.copy_from_slice.new.self
    (c.copy_from_slice.ensures.after ∙ ap (λ (k : ℕ). take k (drop c.spot-from.result c.args.room.now)) (omega arith))
    (omega (arith, c.requires.room ((c.args.at + done) / 16384), c.requires.placed (c.args.at + done) (omega arith) (omega arith), c.spot-from.ensures, c.min-part.ensures)) (omega arith) c.spot-from.ensures (omega arith) c.loop-done.invariant in
    subst (λ (k : ℕ). Copied c.args.at (done + part) c.args.room.now c.args.places.now (put_mid done k c.loop-done.buf c.copy_from_slice.new.self)) (sym n) all
