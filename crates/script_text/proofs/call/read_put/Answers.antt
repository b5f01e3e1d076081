use Rattle.std.proofs.Common.{◌++◌, ◌∷◌, sym, subst}
use Rattle.std.specs.Prelude.{codes}
use Rattle.std.specs.Fmt.{decimal}
use Rattle.record_slots.specs.Text.{IsValue}
use Rattle.script_text.proofs.Fields.{behind, same_long_fields}
use Rattle.script_text.proofs.call.read_put.Goals as goal

pub returns-in_err-key : goal.returns-in_err-key
returns-in_err-key c = rw c.from_residual-in_err-key.ensures (λ p is e.
    c.in_err-key.ensures p is.0 (behind (codes "put ") c.args.bytes.now _ (decimal p.0 ++ 32 ∷ p.1) c.in_ok-rest.ensures e))

pub returns-in_err-value : goal.returns-in_err-value
returns-in_err-value c = rw c.from_residual-in_err-value.ensures (λ p is e.
    let first = behind (codes "put ") c.args.bytes.now _ (decimal p.0 ++ 32 ∷ p.1) c.in_ok-rest.ensures e in
    let same = same_long_fields _ _ p.1 _ p.0 c.in_ok-key.ensures.0 is.0 c.in_ok-key.ensures.1 first in
    c.in_err-value.ensures (subst IsValue (sym same.1) is.1))
