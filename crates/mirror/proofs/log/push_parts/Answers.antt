use Rattle.std.proofs.Common.{refl, sym, ◌∙◌, ap, subst, length, arith, ℕ, List}
use Rattle.std.proofs.lemmas.List.{length-take}
use Rattle.mirror.proofs.Pushing.{StandsAt, stands_first, stands_next, stands_last, within_here, fewer}
use Rattle.mirror.proofs.log.push_parts.Goals as goal

pub loop-part-init : goal.loop-part-init
loop-part-init c = record {
  stands = subst (λ left. StandsAt c.args.addr c.args.bytes.now c.args.parts.now.items c.args.parts.now.items left)
      (sym (c.into_iter-part-iterator.ensures.into_iter_gives ∙ c.parts-part-items.ensures.parts))
      (stands_first c.args.addr c.args.bytes.now c.args.parts.now.items c.args.shape c.requires.inside);
  capacity = refl;
}

pub part_of_write-piece-requires-clause-from : goal.part_of_write-piece-requires-clause-from
part_of_write-piece-requires-clause-from c = (within_here c.args.addr c.args.bytes.now c.args.parts.now.items c.loop-part.parts.items c.in-Some.part c.loop-part.part-iterator c.next.new.self c.in-Some.ensures.steps c.loop-part.invariant.stands).from

pub part_of_write-piece-requires-clause-to : goal.part_of_write-piece-requires-clause-to
part_of_write-piece-requires-clause-to c = (within_here c.args.addr c.args.bytes.now c.args.parts.now.items c.loop-part.parts.items c.in-Some.part c.loop-part.part-iterator c.next.new.self c.in-Some.ensures.steps c.loop-part.invariant.stands).to

pub new-requires : goal.new-requires
new-requires c =
    let within = within_here c.args.addr c.args.bytes.now c.args.parts.now.items c.loop-part.parts.items c.in-Some.part c.loop-part.part-iterator c.next.new.self c.in-Some.ensures.steps c.loop-part.invariant.stands in
    omega (arith, within.small, ap length c.part_of_write-piece.ensures, length-take {A = ℕ})

pub push_reserved-requires : goal.push_reserved-requires
push_reserved-requires c =
    let less = fewer c.args.addr c.args.bytes.now c.args.parts.now.items c.loop-part.parts.items c.in-Some.part c.loop-part.part-iterator c.next.new.self c.in-Some.ensures.steps c.loop-part.invariant.stands in
    omega (arith, less, c.loop-part.parts.ok.0, c.args.parts.now.ok.0)

pub loop-part-preserved : goal.loop-part-preserved
loop-part-preserved c = record {
  stands = subst (λ items. StandsAt c.args.addr c.args.bytes.now c.args.parts.now.items items c.next.new.self) (sym c.push_reserved.ensures.items)
      (stands_next c.args.addr c.args.bytes.now c.args.parts.now.items c.loop-part.parts.items c.in-Some.part c.loop-part.part-iterator c.next.new.self c.in-Some.ensures.steps c.loop-part.invariant.stands _
      (c.new.ensures ∙ ap (λ (bs : List ℕ). (c.in-Some.part.addr, bs)) c.part_of_write-piece.ensures));
  capacity = c.push_reserved.ensures.capacity ∙ c.loop-part.invariant.capacity;
}

pub returns-clause-items : goal.returns-clause-items
returns-clause-items c = stands_last c.args.addr c.args.bytes.now c.args.parts.now.items c.loop-part.parts.items c.loop-part.part-iterator c.in-None.ensures.steps.0 c.loop-part.invariant.stands
