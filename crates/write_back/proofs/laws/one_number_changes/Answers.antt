use Rattle.std.proofs.Common.{◌≡◌, ℕ, List, inl, inr, sym, ◌∙◌, ap, subst}
use Rattle.std.proofs.lemmas.Bool.{cases_eq, false≢true}
use Rattle.array_shape.specs.Logged.{ranges_of}
use Rattle.write_back.specs.declared.entry.Entry.{Entry}
use Rattle.write_back.specs.Entries.{parts_in, ranges_in}
use Rattle.write_back.specs.Shown.{entries_of, shape_of}
use Rattle.write_back.specs.Turns.{has_some}
use Rattle.write_back.proofs.laws.one_number_changes.Goals as goal

pub returns-clause-same : goal.returns-clause-same
returns-clause-same c old new t es queue sets lacks u lt some = sets.others u (λ is. false≢true (sym lacks ∙ ap (has_some queue) (sym is) ∙ some))

pub returns-clause-held : goal.returns-clause-held
returns-clause-held c old new t es image sets says held u lt = elim (cases_eq u t) [
  | inl is ↦
      subst (λ (v : ℕ). ranges_of (parts_in (shape_of old) image v (entries_of new v)) ≡ ranges_in (entries_of new v)) (sym is)
      (subst (λ (l : List Entry). ranges_of (parts_in (shape_of old) image t l) ≡ ranges_in l) (sym sets.here) says)
  | inr ne ↦ subst (λ (l : List Entry). ranges_of (parts_in (shape_of old) image u l) ≡ ranges_in l) (sym (sets.others u ne)) (held u lt)
]
