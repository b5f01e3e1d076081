use Rattle.std.proofs.Common.{length, ap, ◌∙◌}
use Rattle.std.proofs.lemmas.List.{take_at}
use Rattle.image_pieces.proofs.Images.{length-header_bytes}
use Rattle.image_pieces.proofs.filling.header_piece.Goals as goal

pub returns-clause-bytes : goal.returns-clause-bytes
returns-clause-bytes c =
    let is = c.copy_from_slice.ensures.after ∙ c.write_array_header.ensures.written in
    take_at c.copy_from_slice.new.self _ 512 (ap length is ∙ length-header_bytes c.args.shape.now) ∙ is
