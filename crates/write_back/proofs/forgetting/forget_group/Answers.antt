use Rattle.std.proofs.Common.{◌≡◌, true, false, inl, inr, refl, sym, ◌∙◌, ap, arith}
use Rattle.std.proofs.lemmas.Bool.{cases_eq, false≢true}
use Rattle.array_shape.specs.declared.shape.Shape.{Shape}
use Rattle.array_shape.specs.NumberSet.{has}
use Rattle.write_back.specs.Shown.{entries_of}
use Rattle.write_back.proofs.forgetting.forget_group.Goals as goal

pub loop-tid-init : goal.loop-tid-init
loop-tid-init c = record {
  shape = c.requires.shape;
  places = c.requires.places;
  gone = λ t lt so. absurd (omega arith);
  others = λ t lacks. refl;
}

pub loop-tid-preserved-then-not-contains : goal.loop-tid-preserved-then-not-contains
loop-tid-preserved-then-not-contains c =
    let at = c.loop-tid.invariant in
    let here : has c.args.group c.loop-tid.tid ≡ false = sym c.contains.ensures ∙ c.if-not-contains.true in
    record {
      shape = at.shape;
      places = at.places;
      gone = λ t lt so. elim (cases_eq t c.loop-tid.tid) [
        | inl is ↦ absurd (false≢true (sym here ∙ ap (has c.args.group) (sym is) ∙ so))
        | inr ne ↦ at.gone t (omega arith) so
      ];
      others = at.others;
    }

pub forget-requires-clause-places : goal.forget-requires-clause-places
forget-requires-clause-places c = c.loop-tid.invariant.places

pub forget-requires-clause-tid : goal.forget-requires-clause-tid
forget-requires-clause-tid c = omega (arith, ap (λ (s : Shape). s.numbers) c.loop-tid.invariant.shape)

pub loop-tid-preserved : goal.loop-tid-preserved
loop-tid-preserved c =
    let at = c.loop-tid.invariant in
    let sets = c.forget.ensures in
    let here : has c.args.group c.loop-tid.tid ≡ true = sym c.contains.ensures ∙ c.if-not-contains.false in
    record {
      shape = sets.shape ∙ at.shape;
      places = sets.places at.places;
      gone = λ t lt so. elim (cases_eq t c.loop-tid.tid) [
        | inl is ↦ ap (entries_of c.forget.new.self) is ∙ sets.here
        | inr ne ↦ sets.others t ne ∙ at.gone t (omega arith) so
      ];
      others = λ t lacks. sets.others t (λ is. false≢true (sym lacks ∙ ap (has c.args.group) is ∙ here)) ∙ at.others t lacks;
    }

pub returns-clause-shape : goal.returns-clause-shape
returns-clause-shape c = c.loop-tid.invariant.shape

pub returns-clause-places : goal.returns-clause-places
returns-clause-places c = c.loop-tid.invariant.places

pub returns-clause-gone : goal.returns-clause-gone
returns-clause-gone c t lt so = c.loop-tid.invariant.gone t (omega arith) so

pub returns-clause-others : goal.returns-clause-others
returns-clause-others c t lt lacks = c.loop-tid.invariant.others t lacks
