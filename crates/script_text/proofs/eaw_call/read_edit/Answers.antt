use Rattle.std.proofs.Common.{◌++◌, ◌∷◌}
use Rattle.std.specs.Prelude.{codes}
use Rattle.std.specs.Fmt.{decimal}
use Rattle.script_text.proofs.Fields.{behind, same_fields}
use Rattle.script_text.proofs.eaw_call.read_edit.Goals as goal

pub returns-in_err-pos : goal.returns-in_err-pos
returns-in_err-pos c = rw c.from_residual-in_err-pos.ensures (λ p is e.
    let tail = decimal p.1 ++ 32 ∷ p.2 in
    c.in_err-pos.ensures (p.0, tail) is.0 (behind (codes "editlog ") c.args.bytes.now _ (decimal p.0 ++ 32 ∷ tail) c.in_ok-rest.ensures e))

pub returns-in_err-at : goal.returns-in_err-at
returns-in_err-at c = rw c.from_residual-in_err-at.ensures (λ p is e.
    let tail = decimal p.1 ++ 32 ∷ p.2 in
    let first = behind (codes "editlog ") c.args.bytes.now _ (decimal p.0 ++ 32 ∷ tail) c.in_ok-rest.ensures e in
    let same = same_fields _ _ tail _ p.0 c.in_ok-pos.ensures.0 is.0 c.in_ok-pos.ensures.1 first in
    c.in_err-at.ensures (p.1, p.2) (is.1, is.2) same.1)
