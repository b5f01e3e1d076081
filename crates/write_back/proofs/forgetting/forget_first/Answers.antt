use Rattle.std.proofs.Common.{◌≡◌, ◌+◌, ◌++◌, ◌∷◌, [], ℕ, List, get_or, take, sym, subst, arith}
use Rattle.std.proofs.lemmas.List.{take_more}
use Rattle.row_bytes.specs.declared.ballot.Ballot.{Ballot}
use Rattle.write_back.specs.Shown.{entries_of}
use Rattle.write_back.specs.Tied.{Forgets}
use Rattle.write_back.proofs.Tying.{forgets_more, forgets_none}
use Rattle.write_back.proofs.forgetting.forget_first.Goals as goal

abbrev none : Ballot
none = record { mask = 0; group = 0; order = 0 }

pub loop-at-init : goal.loop-at-init
loop-at-init c = record {
  shape = c.requires.shape;
  places = λ was. was;
  forgets = forgets_none c.args.shape.now (entries_of c.args.parts.now);
}

pub forget_group-requires-clause-places : goal.forget_group-requires-clause-places
forget_group-requires-clause-places c = c.loop-at.invariant.places (c.requires.places (omega arith))

pub loop-at-preserved : goal.loop-at-preserved
loop-at-preserved c =
    let shape = c.args.shape.now in
    let at = c.loop-at.invariant in
    let bs = c.args.ballots.now in
    let b = get_or bs c.loop-at.at none in
    let next : take (c.loop-at.at + 1) bs ≡ take c.loop-at.at bs ++ b ∷ [] = take_more bs c.loop-at.at none (omega arith) in
    record {
      shape = c.forget_group.ensures.shape;
      places = λ was. c.forget_group.ensures.places;
      forgets = subst (λ (l : List Ballot). Forgets shape l (entries_of c.args.parts.now) (entries_of c.forget_group.new.parts)) (sym next)
          (forgets_more shape (take c.loop-at.at bs) b (entries_of c.args.parts.now) (entries_of c.loop-at.parts) (entries_of c.forget_group.new.parts) at.forgets c.forget_group.ensures.gone c.forget_group.ensures.others);
    }

pub returns-clause-forgets : goal.returns-clause-forgets
returns-clause-forgets c =
    let all : c.loop-at.at ≡ c.args.count = omega arith in
    subst (λ (n : ℕ). Forgets c.args.shape.now (take n c.args.ballots.now) (entries_of c.args.parts.now) (entries_of c.loop-at.parts)) all c.loop-at.invariant.forgets
