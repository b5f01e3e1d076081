use Rattle.std.proofs.Common.{◌≡◌, ◌*◌, ◌++◌, drop, take, length, refl, ap, ◌∙◌, arith}
use Rattle.std.proofs.lemmas.List.{take_at}
use Rattle.script_text.proofs.HexTexts.{length-hex_of, bytes_of_digits, read_whole}
use Rattle.script_text.proofs.hex_text.decode.Goals as goal

pub unwrap-requires : goal.unwrap-requires
unwrap-requires c =
    let spelled = bytes_of_digits c.args.text.now c.requires.even c.requires.digits in
    let read = read_whole c.args.text.now spelled.0 c.decode_to_slice.result c.decode_to_slice.new.out _ (omega (arith, c.in_ok-resize.ensures.len, c.deref_mut.ensures.len)) spelled.1 spelled.2 c.decode_to_slice.ensures.value in
    rw (read.0) refl

pub returns : goal.returns
returns c =
    let text = c.args.text.now in
    let out = c.decode_to_slice.new.out in
    let spelled = bytes_of_digits text c.requires.even c.requires.digits in
    let read = read_whole text spelled.0 c.decode_to_slice.result out _ (omega (arith, c.in_ok-resize.ensures.len, c.deref_mut.ensures.len)) spelled.1 spelled.2 c.decode_to_slice.ensures.value in
    let long : length text ≡ 2 * length spelled.0 = ap length spelled.2 ∙ length-hex_of spelled.0 in
    let same : length out ≡ length spelled.0 = ap length read.1 in
    let whole : take c.resize.new.self.len (out ++ drop (length out) c.resize.new.self.items) ≡ spelled.0 =
    take_at out (drop (length out) c.resize.new.self.items) c.resize.new.self.len (omega (arith, long, same, c.in_ok-resize.ensures.len)) ∙ read.1 in
    rw whole (spelled.1, spelled.2)
