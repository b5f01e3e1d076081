use Rattle.std.proofs.Common.{◌++◌, ◌∷◌, arith}
use Rattle.std.specs.Prelude.{codes}
use Rattle.std.specs.Fmt.{decimal}
use Rattle.script_text.proofs.Fields.{behind, same_fields}
use Rattle.texts.proofs.Numbers.{same_number}
use Rattle.script_text.proofs.eaw_call.read_range.Goals as goal

pub returns-in_err-addr : goal.returns-in_err-addr
returns-in_err-addr c = rw c.from_residual-in_err-addr.ensures (λ p is e.
    c.in_err-addr.ensures (p.0, decimal p.1) is.0 (behind (codes "read ") c.args.bytes.now _ (decimal p.0 ++ 32 ∷ decimal p.1) c.in_ok-rest.ensures e))

pub returns-in_err-len : goal.returns-in_err-len
returns-in_err-len c = rw c.from_residual-in_err-len.ensures (λ p is e.
    let first = behind (codes "read ") c.args.bytes.now _ (decimal p.0 ++ 32 ∷ decimal p.1) c.in_ok-rest.ensures e in
    let same = same_fields _ _ (decimal p.1) _ p.0 c.in_ok-addr.ensures.0 is.0 c.in_ok-addr.ensures.1 first in
    c.in_err-len.ensures p.1 (omega (arith, is.2)) same.1)

pub returns-then-len-eq0 : goal.returns-then-len-eq0
returns-then-len-eq0 c = λ p is e.
    let first = behind (codes "read ") c.args.bytes.now _ (decimal p.0 ++ 32 ∷ decimal p.1) c.in_ok-rest.ensures e in
    let same = same_fields _ _ (decimal p.1) _ p.0 c.in_ok-addr.ensures.0 is.0 c.in_ok-addr.ensures.1 first in
    let len = same_number _ c.in_ok-len.len p.1 1025 (omega arith) (omega arith) c.in_ok-len.ensures.1 (omega (arith, is.2)) same.1 in
    omega (arith, is.1, len)
