use Rattle.std.proofs.Common.{◌++◌, ◌∷◌}
use Rattle.std.specs.Prelude.{codes}
use Rattle.std.specs.Fmt.{decimal}
use Rattle.script_text.proofs.Fields.{behind, same_long_fields}
use Rattle.script_text.proofs.call.read_scan.Goals as goal

pub returns-in_err-low : goal.returns-in_err-low
returns-in_err-low c = rw c.from_residual-in_err-low.ensures (λ p is e.
    c.in_err-low.ensures (p.0, decimal p.1) is.0 (behind (codes "scan ") c.args.bytes.now _ (decimal p.0 ++ 32 ∷ decimal p.1) c.in_ok-rest.ensures e))

pub returns-in_err-high : goal.returns-in_err-high
returns-in_err-high c = rw c.from_residual-in_err-high.ensures (λ p is e.
    let first = behind (codes "scan ") c.args.bytes.now _ (decimal p.0 ++ 32 ∷ decimal p.1) c.in_ok-rest.ensures e in
    let same = same_long_fields _ _ (decimal p.1) _ p.0 c.in_ok-low.ensures.0 is.0 c.in_ok-low.ensures.1 first in
    c.in_err-high.ensures p.1 is.1 same.1)
