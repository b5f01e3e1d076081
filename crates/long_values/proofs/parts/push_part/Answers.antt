use Rattle.std.proofs.Common.{◌≡◌, ◌++◌, ℕ, List, drop, take, Ok, sym, ◌∙◌, ap, take-append-drop, refl}
use Rattle.base64.specs.GeneralPurpose.{IsBytes, decode_of, encode_of}
use Rattle.base64.specs.Engines.{standard_no_pad}
use Rattle.base64.proofs.EngineFacts.{decode_of-encode_of}
use Rattle.long_values.proofs.parts.push_part.Goals as goal

-- what spells a part gives it back
reads_back : (text part : List ℕ) → IsBytes part → text ≡ encode_of standard_no_pad part → decode_of standard_no_pad text ≡ Ok part
reads_back text part small is = ap (decode_of standard_no_pad) is ∙ decode_of-encode_of standard_no_pad part refl small

behind : (old new part rest : List ℕ) (n : ℕ) → take n new ≡ old → drop n new ≡ rest → rest ≡ part → new ≡ old ++ part
behind old new part rest n front back is = sym (take-append-drop n new) ∙ (λ i. front i ++ (back ∙ is) i)

pub returns-in-Ok-clause-ok : goal.returns-in-Ok-clause-ok
returns-in-Ok-clause-ok c part small is =
    let both = sym c.in-Ok.ensures.ok ∙ reads_back c.as_bytes.result.now part small (c.as_bytes.ensures.text ∙ is) in
    behind c.args.bytes.now.items c.decode_vec.new.buffer.items part _ _ c.in-Ok.ensures.front refl (cc both)

pub returns-in-Err-DecodeError-clause-err : goal.returns-in-Err-DecodeError-clause-err
returns-in-Err-DecodeError-clause-err c part small is =
    let failed = rw c.in-Err-DecodeError.field-0-is at c.in-Err-DecodeError.ensures.err in
    let both = sym failed ∙ reads_back c.as_bytes.result.now part small (c.as_bytes.ensures.text ∙ is) in
    cc both
