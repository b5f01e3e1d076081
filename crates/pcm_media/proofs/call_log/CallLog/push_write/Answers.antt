use Rattle.std.proofs.Common.{◌∙◌, refl, ap, arith, length, [], ◌∷◌, false}
use Rattle.std.proofs.lemmas.List.{length-append}
use Rattle.pcm_media.specs.declared.call.Call.TheVariants.{Write}
use Rattle.pcm_media.proofs.CallLemmas.{write_kept, write_unsettled, end_kept}
use Rattle.pcm_media.proofs.call_log.CallLog.push_write.Goals as goal

pub invariant_of-self : goal.invariant_of-self
invariant_of-self c =
    let p = c.self.inside.places in
    (write_kept c.self.inside.marks.items c.self.inside.last c.self.inside.places.items c.self.inside.settled c.self.invariant
    c.with_write-self-inside.new.marks.items c.with_write-self-inside.result c.push_reserved.new.self.items c.args.place c.push_reserved.ensures.items c.with_write-self-inside.ensures.mark).0

pub invariant_of-self-else-is_done : goal.invariant_of-self-else-is_done
invariant_of-self-else-is_done c =
    let p = c.self.inside.places in
    (end_kept c.self.inside.marks.items c.self.inside.last c.self.inside.places.items c.self.inside.settled c.self.invariant
    c.push_reserved-else-is_done.new.self.items _ _ c.push_reserved.new.self.items (c.args.place ∷ []) c.self.inside.settled (Write c.args.place.at c.args.place.len) false c.push_reserved-else-is_done.ensures.items
    refl refl refl c.push_reserved.ensures.items refl refl (omega (arith, c.self.invariant.past, ap length c.push_reserved.ensures.items ∙ length-append p.items (c.args.place ∷ [])))
    (write_unsettled c.self.inside.marks.items c.self.inside.last c.self.inside.places.items c.self.inside.settled c.self.invariant c.push_reserved.new.self.items c.args.place c.push_reserved.ensures.items)).0

pub returns-then-is_done-clause-records : goal.returns-then-is_done-clause-records
returns-then-is_done-clause-records c =
    let p = c.self.inside.places in
    rw (← c.self.view_is, c.if-is_done.true) ((write_kept c.self.inside.marks.items c.self.inside.last c.self.inside.places.items c.self.inside.settled c.self.invariant
    c.with_write-self-inside.new.marks.items c.with_write-self-inside.result c.push_reserved.new.self.items c.args.place c.push_reserved.ensures.items c.with_write-self-inside.ensures.mark).1)

pub returns-else-is_done-clause-records : goal.returns-else-is_done-clause-records
returns-else-is_done-clause-records c =
    let p = c.self.inside.places in
    rw (← c.self.view_is, c.if-is_done.false) ((end_kept c.self.inside.marks.items c.self.inside.last c.self.inside.places.items c.self.inside.settled c.self.invariant
    c.push_reserved-else-is_done.new.self.items _ _ c.push_reserved.new.self.items (c.args.place ∷ []) c.self.inside.settled (Write c.args.place.at c.args.place.len) false c.push_reserved-else-is_done.ensures.items
    refl refl refl c.push_reserved.ensures.items refl refl (omega (arith, c.self.invariant.past, ap length c.push_reserved.ensures.items ∙ length-append p.items (c.args.place ∷ [])))
    (write_unsettled c.self.inside.marks.items c.self.inside.last c.self.inside.places.items c.self.inside.settled c.self.invariant c.push_reserved.new.self.items c.args.place c.push_reserved.ensures.items)).1)
