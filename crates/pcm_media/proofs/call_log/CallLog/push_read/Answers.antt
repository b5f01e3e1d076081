use Rattle.std.proofs.Common.{refl, sym, [], false}
use Rattle.std.proofs.lemmas.List.{append-nil}
use Rattle.pcm_media.specs.declared.call.Call.TheVariants.{Read}
use Rattle.pcm_media.proofs.CallLemmas.{read_kept, end_kept}
use Rattle.pcm_media.proofs.call_log.CallLog.push_read.Goals as goal

pub invariant_of-self : goal.invariant_of-self
invariant_of-self c =
    let p = c.self.inside.places in
    (read_kept c.self.inside.marks.items c.self.inside.last c.self.inside.places.items c.self.inside.settled c.self.invariant
    c.with_read-self-inside.new.marks.items c.with_read-self-inside.result c.with_read-self-inside.ensures.mark).0

pub invariant_of-self-else-is_done : goal.invariant_of-self-else-is_done
invariant_of-self-else-is_done c =
    let p = c.self.inside.places in
    (end_kept c.self.inside.marks.items c.self.inside.last c.self.inside.places.items c.self.inside.settled c.self.invariant
    c.push_reserved.new.self.items _ _ p.items [] c.self.inside.settled Read false c.push_reserved.ensures.items refl refl refl (sym (append-nil p.items)) refl refl c.self.invariant.past refl).0

pub returns-then-is_done-clause-records : goal.returns-then-is_done-clause-records
returns-then-is_done-clause-records c =
    let p = c.self.inside.places in
    rw (← c.self.view_is, c.if-is_done.true) ((read_kept c.self.inside.marks.items c.self.inside.last c.self.inside.places.items c.self.inside.settled c.self.invariant
    c.with_read-self-inside.new.marks.items c.with_read-self-inside.result c.with_read-self-inside.ensures.mark).1)

pub returns-else-is_done-clause-records : goal.returns-else-is_done-clause-records
returns-else-is_done-clause-records c =
    let p = c.self.inside.places in
    rw (← c.self.view_is, c.if-is_done.false) ((end_kept c.self.inside.marks.items c.self.inside.last c.self.inside.places.items c.self.inside.settled c.self.invariant
    c.push_reserved.new.self.items _ _ p.items [] c.self.inside.settled Read false c.push_reserved.ensures.items refl refl refl (sym (append-nil p.items)) refl refl c.self.invariant.past refl).1)
