use Rattle.std.proofs.Common.{◌≡◌, ◌<◌, ◌+◌, length, min, max, refl, arith}
use Rattle.std.proofs.lemmas.Bool.{ltb-true}
use Rattle.write_back.proofs.Laying.{copied}
use Rattle.write_back.proofs.overlay.copy_part.Goals as goal

pub returns : goal.returns
returns c whole fits inside was =
    let e = c.args.entry in
    let start : c.max-start.result ≡ max e.addr c.args.addr = c.max-start.ensures in
    let end : c.min-end.result ≡ min (e.addr + e.len) (c.args.addr + length c.args.buf.now) = omega (arith, c.min-end.ensures, c.from.ensures) in
    let some : max e.addr c.args.addr < min (e.addr + e.len) (c.args.addr + length c.args.buf.now) = ltb-true _ _ c.requires.meets in
    copied whole c.args.cell.now c.args.buf.now c.copy_from_slice.new.self e.addr e.len c.args.addr c.max-start.result c.min-end.result _ _ _ _ start end (omega arith)
    (omega (arith, c.told-cell, c.requires.page)) fits inside refl refl (omega arith) (omega arith) c.copy_from_slice.ensures.after was
