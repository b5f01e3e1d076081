use Rattle.std.proofs.Common.{refl, sym, ap, arith, [], false, true}
use Rattle.std.proofs.lemmas.List.{append-nil, drop_all}
use Rattle.pcm_media.specs.declared.call.Call.TheVariants.{Barrier}
use Rattle.pcm_media.specs.Calls.{ranges_in}
use Rattle.pcm_media.proofs.CallLemmas.{end_kept}
use Rattle.pcm_media.proofs.call_log.CallLog.push_barrier.Goals as goal

pub invariant_of-self : goal.invariant_of-self
invariant_of-self c =
    let p = c.self.inside.places in
    (end_kept c.self.inside.marks.items c.self.inside.last c.self.inside.places.items c.self.inside.settled c.self.invariant
    c.push_reserved.new.self.items _ _ p.items [] c.len-self-inside.result Barrier true c.push_reserved.ensures.items refl refl refl (sym (append-nil p.items)) refl refl (omega arith)
    (sym (ap ranges_in (drop_all c.len-self-inside.result p.items (omega arith))))).0

pub invariant_of-self-else-is_done : goal.invariant_of-self-else-is_done
invariant_of-self-else-is_done c =
    let p = c.self.inside.places in
    (end_kept c.self.inside.marks.items c.self.inside.last c.self.inside.places.items c.self.inside.settled c.self.invariant
    c.push_reserved-else-is_done.new.self.items _ _ p.items [] c.self.inside.settled Barrier false c.push_reserved-else-is_done.ensures.items refl refl refl (sym (append-nil p.items)) refl refl c.self.invariant.past refl).0

pub returns-then-is_done-clause-records : goal.returns-then-is_done-clause-records
returns-then-is_done-clause-records c =
    let p = c.self.inside.places in
    rw (← c.self.view_is, c.if-is_done.true) ((end_kept c.self.inside.marks.items c.self.inside.last c.self.inside.places.items c.self.inside.settled c.self.invariant
    c.push_reserved.new.self.items _ _ p.items [] c.len-self-inside.result Barrier true c.push_reserved.ensures.items refl refl refl (sym (append-nil p.items)) refl refl (omega arith)
    (sym (ap ranges_in (drop_all c.len-self-inside.result p.items (omega arith))))).1)

pub returns-else-is_done-clause-records : goal.returns-else-is_done-clause-records
returns-else-is_done-clause-records c =
    let p = c.self.inside.places in
    rw (← c.self.view_is, c.if-is_done.false) ((end_kept c.self.inside.marks.items c.self.inside.last c.self.inside.places.items c.self.inside.settled c.self.invariant
    c.push_reserved-else-is_done.new.self.items _ _ p.items [] c.self.inside.settled Barrier false c.push_reserved-else-is_done.ensures.items refl refl refl (sym (append-nil p.items)) refl refl c.self.invariant.past refl).1)
