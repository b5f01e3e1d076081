use Rattle.std.proofs.Common.{◌+◌, refl, ◌∙◌, length}
use Rattle.row_bytes.specs.Written.{head_bytes}
use Rattle.logger.proofs.Heading.{headed}
use Rattle.logger.proofs.logger.fill_cell.Goals as goal

pub returns : goal.returns
returns c =
    let len = length c.args.bytes.now in
    headed c.copy_from_slice.new.self _ c.copy_from_slice-2.new.self (head_bytes (record { addr = c.args.addr; len = len })) c.args.bytes.now _ refl
    (c.copy_from_slice.ensures.after ∙ c.write_head.ensures.written) c.copy_from_slice-2.ensures.after (16 + len) refl
