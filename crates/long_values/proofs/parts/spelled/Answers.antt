use Rattle.std.proofs.Common.{◌≡◌, ℕ, List, length, take, Ok, sym, ◌∙◌, ap, subst, arith}
use Rattle.std.proofs.lemmas.List.{take_at}
use Rattle.base64.specs.GeneralPurpose.{encode_of, encoded_size_of}
use Rattle.base64.specs.Engines.{standard_no_pad}
use Rattle.record_slots.specs.Text.{IsValue}
use Rattle.long_values.proofs.Spelling.{length-spelled, value_spelled}
use Rattle.long_values.proofs.parts.spelled.Goals as goal

pub unreachable-requires-in-None : goal.unreachable-requires-in-None
unreachable-requires-in-None c =
    let part = c.args.part.now in
    let few = c.requires.few in
    let fits : c.encode_slice.result ≡ Ok (encoded_size_of standard_no_pad (length part)) = c.encode_slice.ensures.fits (omega (arith, few)) in
    let both : Ok (encoded_size_of standard_no_pad (length part)) ≡ Ok c.in-Ok.len = sym fits ∙ c.in-Ok.is in
    let size : encoded_size_of standard_no_pad (length part) ≡ c.in-Ok.len = cc in
    let text : take c.in-Ok.len c.encode_slice.new.output ≡ encode_of standard_no_pad part =
    ap (take c.in-Ok.len) c.in-Ok.ensures.written ∙ take_at (encode_of standard_no_pad part) _ c.in-Ok.len (length-spelled part ∙ size) in
    c.in-None.ensures (subst (λ (t : List ℕ). IsValue t) (sym text) (value_spelled part (λ i. let fit = c.type_inv.part i in omega (arith, fit)) c.requires.some few))
