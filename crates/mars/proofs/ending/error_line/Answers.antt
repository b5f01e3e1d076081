use Rattle.std.proofs.Common.{◌<◌, ◌∷◌, [], ◌++◌, List, ℕ, codes, length, sym, ap, ◌∙◌, arith}
use Rattle.array_runs.specs.Fault.{status_text}
use Rattle.mars.proofs.LineLemmas.{line_is}
use Rattle.mars.proofs.ending.error_line.Goals as goal

pub returns : goal.returns
returns c =
    let text = status_text c.args.status.now in
    let some : 0 < length text = omega (arith, c.fault_text-len.ensures.whole, c.if-len-eq0.false) in
    c.of-2.ensures.text ∙ ap (λ (l : List ℕ). codes "mars: " ++ (l ++ 10 ∷ [])) c.fault_text-len.ensures.text ∙ sym (line_is text some)
