use Rattle.std.proofs.Common.{List, ℕ, sym, subst}
use Rattle.record_slots.specs.Super.{HasSuperMark, SaysSuper}
use Rattle.record_table.proofs.Fronts.{first_page}
use Rattle.record_table.proofs.upgrading.read_front.Goals as goal

pub returns-in-Some-clause-says : goal.returns-in-Some-clause-says
returns-in-Some-clause-says g c = λ told. subst (λ (bytes : List ℕ). SaysSuper bytes c.in-Some.front) (first_page _ _ (c.in_ok-read.ensures.bytes told)) c.in-Some.ensures.says

pub returns-in-None-clause-cause : goal.returns-in-None-clause-cause
returns-in-None-clause-cause g c =
    let alive = c.in_ok-read.ensures.does.cause.0 in (
      alive,
      λ told. c.in-None.ensures.unmarked (subst HasSuperMark (sym (first_page _ _ (c.in_ok-read.ensures.bytes told))) (g.met.K.KeyIndex.counts _ ((c.requires.holds alive).tied told).sound).mark),
    )
