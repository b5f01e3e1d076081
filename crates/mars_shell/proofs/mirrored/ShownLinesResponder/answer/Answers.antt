use Rattle.std.proofs.Common.{⊎_elim, inl, inr, sym, subst}
use Rattle.mars_core.specs.Held.{core_of}
use Rattle.mars_shell.specs.Standing.{line_script, IsShown, Stands, Comes}
use Rattle.mars_shell.proofs.Showing.{answers_shown}
use Rattle.mars_shell.proofs.mirrored.ShownLinesResponder.answer.Goals as goal

pub returns-clause-answers : goal.returns-clause-answers
returns-clause-answers g c = λ told progress stood.
    let s = g.S.EawStore in
    let old = c.args.self.now.lines.core in
    let new = c.answer.new.self.core in
    let view = core_of s.opens g.I.KeyIndex.index (s.view old.records.store) old in
    let later = core_of s.opens g.I.KeyIndex.index (s.view new.records.store) new in
    answers_shown line_script (Stands later) (Comes view progress later) (IsShown later) progress c.args.n c.args.line.now c.answer.new.out.items c.answer.result
    (⊎_elim (λ same. subst (λ core. IsShown (core_of s.opens g.I.KeyIndex.index (s.view core.records.store) core)) (sym same) stood.1) (λ sent. sent.1 told stood.1) c.answer.ensures.sends)
    (c.answer.ensures.answers told progress stood.0)

pub returns-clause-sends : goal.returns-clause-sends
returns-clause-sends g c = ⊎_elim (λ same. inl same) (λ sent. inr sent.0) c.answer.ensures.sends
