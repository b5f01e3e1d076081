use Rattle.std.proofs.Common.{refl, sym, ◌∙◌}
use Rattle.std.proofs.lemmas.Bool.{false≢true}
use Rattle.eaw_face.specs.Frame.{frame_bytes}
use Rattle.script_text.proofs.HexTexts.{hex_of_injective}
use Rattle.frame_lines.proofs.Bytes.{bytes_of_frame, hex_is}
use Rattle.frame_lines.proofs.take.take_line.Goals as goal

pub returns-in-Ok-false-clause-took : goal.returns-in-Ok-false-clause-took
returns-in-Ok-false-clause-took g c = (
  refl,
  (c.in-Some.text.now, c.in-Some.ensures),
  λ f says. (rw c.in-Ok-false.field-0-test at c.in-Ok-false.ensures) (frame_bytes f) (bytes_of_frame f says.0.is) (hex_is c.args.line.now c.in-Some.text.now _ c.in-Some.ensures says.1),
  refl,
)

pub returns-then-not-is_frame-clause-took : goal.returns-then-not-is_frame-clause-took
returns-then-not-is_frame-clause-took g c =
    let read = rw c.in-Ok-true.field-0-test at c.in-Ok-true.ensures in (
      refl,
      (c.in-Some.text.now, c.in-Some.ensures),
      λ f says.
          let same = hex_of_injective c.read_hex.new.bytes.items (frame_bytes f) read.0 (bytes_of_frame f says.0.is) (sym read.1 ∙ hex_is c.args.line.now c.in-Some.text.now _ c.in-Some.ensures says.1) in
          false≢true (sym c.if-not-is_frame.true ∙ c.is_frame.ensures.1 (record { frame = f; good = says.0; is = sym (c.deref.ensures.value ∙ same) })),
      refl,
    )
