use Rattle.std.proofs.Common.{ℕ, List, ◌<◌, ◌^◌, ◌++◌, ◌∷◌}
use Rattle.std.specs.Fmt.{decimal}
use Rattle.script_text.specs.HexText.{IsHex}
use Rattle.script_text.proofs.Fields.{reads_behind}
use Rattle.script_text.proofs.eaw_call.read_write.Goals as goal

pub returns : goal.returns
returns c =
    reads_behind (λ (p : ℕ × List ℕ). (p.0 < 2 ^ 32) × IsHex p.1) (λ p. decimal p.0 ++ 32 ∷ p.1) c.args.front.now c.args.bytes.now c.in_ok-rest.rest.now _ c.in_ok-rest.ensures
    c.read_place_and_hex.ensures
