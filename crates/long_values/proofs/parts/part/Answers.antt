use Rattle.std.proofs.Common.{◌*◌, ℕ, List, ◌∙◌, ap, arith}
use Rattle.base64.specs.GeneralPurpose.{encode_of}
use Rattle.base64.specs.Engines.{standard_no_pad}
use Rattle.long_values.proofs.Spelling.{cut}
use Rattle.long_values.proofs.parts.part.Goals as goal

pub returns : goal.returns
returns c =
    let inside = c.requires in
    c.spelled.ensures ∙ ap (λ (part : List ℕ). encode_of standard_no_pad part) (cut c.args.bytes.now (c.args.n * 40) c.min-end.result c.min-end.ensures (omega (arith, inside)))
