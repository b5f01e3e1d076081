use Rattle.record_slots.proofs.Front.{part_written}
use Rattle.record_slots.proofs.super_page.write_super_part.Goals as goal

pub returns : goal.returns
returns c =
    part_written c.args.front.now c.args.out.now c.write_u32.new.buf c.write_u32-2.new.buf c.copy_from_slice.new.self c.write_u32-3.new.buf c.write_u32-4.new.buf c.write_u32-5.new.buf c.write_u32-6.new.buf
    c.told-out c.copy_from_slice.ensures.after c.copy_from_slice.ensures.len _ _ _ _ _ _ c.write_u32.ensures c.write_u32-2.ensures c.write_u32-3.ensures c.write_u32-4.ensures c.write_u32-5.ensures c.write_u32-6.ensures
