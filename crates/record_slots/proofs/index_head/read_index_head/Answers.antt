use Rattle.std.proofs.Common.{◌≡◌, ◌∙◌, arith}
use Rattle.std.specs.Prelude.{slice_index}
use Rattle.byteorder.specs.Endian.{little_from}
use Rattle.record_slots.specs.IndexHead.{index_head_said}
use Rattle.record_slots.proofs.Front.{number_read}
use Rattle.record_slots.proofs.index_head.read_index_head.Goals as goal

pub returns : goal.returns
unfolding index_head_said
returns c =
    let bytes = c.args.bytes.now in
    let count : c.read_u16.result ≡ little_from 2 2 bytes = c.read_u16.ensures ∙ number_read 2 2 510 bytes (omega arith) in
    let link : c.read_u32.result ≡ little_from 4 4 bytes = c.read_u32.ensures ∙ number_read 4 4 508 bytes (omega arith) in
    λ i. record { kind = slice_index bytes 0; level = slice_index bytes 1; count = count i; link = link i }
