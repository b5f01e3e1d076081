use Rattle.std.proofs.Common.{List, ℕ, sym, subst, ◌∙◌, arith}
use Rattle.row_bytes.specs.Header.{SaysShape}
use Rattle.restore_runs.proofs.Heading.{not_faulty}
use Rattle.restore_runs.proofs.making.holds_array.Goals as goal

pub returns-then-len-lt-HEADER_LEN-clause-each : goal.returns-then-len-lt-HEADER_LEN-clause-each
returns-then-len-lt-HEADER_LEN-clause-each g c = λ told begins. absurd (omega (arith, c.if-len-lt-HEADER_LEN.true, c.len-len.ensures, begins.2))

pub returns-in-Ok-clause-held : goal.returns-in-Ok-clause-held
returns-in-Ok-clause-held g c = λ told _. (c.in-Ok.field-0, subst (λ (header : List ℕ). SaysShape header c.in-Ok.field-0) (c.in_ok-read.ensures.bytes told) c.in-Ok.ensures.shape, sym c.len-len.ensures ∙ c.in-Ok.ensures.length)

pub returns-in-Err-clause-each : goal.returns-in-Err-clause-each
returns-in-Err-clause-each g c = λ told begins.
    absurd (not_faulty _ c.len-len.result begins.0 c.in-Err.field-0 (subst (λ (header : List ℕ). SaysShape header begins.0) (sym (c.in_ok-read.ensures.bytes told)) begins.1) (c.len-len.ensures ∙ begins.2) c.in-Err.ensures.fault)
