use Rattle.std.proofs.Common.{◌+◌, ◌<◌, ◌≤◌, length, List, ap, arith}
use Rattle.std.specs.Vec.{vec_capacity}
use Rattle.array_shape.specs.Logged.{Part, ranges_of}
use Rattle.eaw_face.specs.State.{range_at}
use Rattle.mirror.specs.Log.{Log}
use Rattle.mirror.proofs.Parts.{range_at-part, edited-part}
use Rattle.mirror.proofs.log.PlainLog.edit.Goals as goal

pub edit-requires : goal.edit-requires
edit-requires c =
    let items = c.self.inside.parts.items in
    let lt : c.args.pos < length items = rw (← c.self.view_is) at c.requires.pos in
    let within : c.args.at + length c.args.bytes.now ≤ (range_at (ranges_of items) c.args.pos).1 = rw (← c.self.view_is) at c.requires.within in
    omega (arith, within, ap (λ r. r.1) (range_at-part items c.args.pos c.index_mut.result.now lt c.index_mut.ensures.value))

pub returns : goal.returns
returns c =
    let items = c.self.inside.parts.items in
    let lt : c.args.pos < length items = rw (← c.self.view_is) at c.requires.pos in
    let with : List Part → Log = λ ps. record { is_live = c.self.inside.is_live; parts = ps; room = vec_capacity c.self.inside.parts } in
    rw (← c.self.view_is) (ap with (edited-part items c.args.pos c.args.at c.args.bytes.now c.index_mut.result.now c.edit.new.self lt c.index_mut.ensures.value c.edit.ensures))
