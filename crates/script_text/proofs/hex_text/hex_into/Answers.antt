use Rattle.std.proofs.Common.{refl}
use Rattle.script_text.proofs.HexTexts.{decoded}
use Rattle.script_text.proofs.hex_text.hex_into.Goals as goal

pub unwrap-requires : goal.unwrap-requires
unwrap-requires c =
    let text = c.requires.text in
    let read = decoded c.args.hex.now text.0 c.args.buf.now c.decode_to_slice.result c.decode_to_slice.new.out text.1 text.2 c.requires.fits c.decode_to_slice.ensures.value in
    rw (read.0) refl

pub returns-clause-bytes : goal.returns-clause-bytes
returns-clause-bytes c = λ bytes is says.
    let read = decoded c.args.hex.now bytes c.args.buf.now c.decode_to_slice.result c.decode_to_slice.new.out is says c.requires.fits c.decode_to_slice.ensures.value in
    rw (read.1, read.2) refl
