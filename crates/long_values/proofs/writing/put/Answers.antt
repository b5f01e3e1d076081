use Rattle.std.proofs.Common.{Some, ◌∙◌}
use Rattle.transactions.specs.declared.work.Stop.TheVariants.{Refused}
use Rattle.long_values.specs.Changing.{seen_by, saved_by}
use Rattle.long_values.proofs.Putting.{same_seen, all_same, from_before, kept_before, kept_after}
use Rattle.long_values.proofs.Undoing.{handed_on, saved, undone_outside, of_core, not_unfit, unwritten}
use Rattle.long_values.proofs.writing.put.Goals as goal

-- the save was refused
pub returns-in_err-saved-clause-others : goal.returns-in_err-saved-clause-others
returns-in_err-saved-clause-others g c told =
    all_same c.args.table c.args.key (seen_by c.args.caller (g.C.Core.view c.args.core.now)) (seen_by c.args.caller (g.C.Core.view c.save.new.core))
    (same_seen c.args.caller (g.C.Core.view c.args.core.now) (g.C.Core.view c.save.new.core) (c.save.ensures.stays told) (c.in_err-saved.ensures.err told))

pub returns-in_err-saved-clause-refused : goal.returns-in_err-saved-clause-refused
returns-in_err-saved-clause-refused g c told =
    handed_on _ c.from_residual.result _ c.from_residual.ensures
    (c.in_err-saved.ensures.refused told, same_seen c.args.caller (g.C.Core.view c.args.core.now) (g.C.Core.view c.save.new.core) (c.save.ensures.stays told) (c.in_err-saved.ensures.err told))

-- the bytes are too many
pub returns-then-bytes-gt-LONG_MAX-clause-others : goal.returns-then-bytes-gt-LONG_MAX-clause-others
returns-then-bytes-gt-LONG_MAX-clause-others g c told =
    all_same c.args.table c.args.key (seen_by c.args.caller (g.C.Core.view c.args.core.now)) (seen_by c.args.caller (g.C.Core.view c.save.new.core))
    (saved c.args.caller c.in_ok-saved.saved (g.C.Core.view c.args.core.now) (g.C.Core.view c.save.new.core) (c.save.ensures.stays told) (c.in_ok-saved.ensures.ok told)).0

pub returns-then-bytes-gt-LONG_MAX-clause-refused : goal.returns-then-bytes-gt-LONG_MAX-clause-refused
returns-then-bytes-gt-LONG_MAX-clause-refused g c told =
    (saved c.args.caller c.in_ok-saved.saved (g.C.Core.view c.args.core.now) (g.C.Core.view c.save.new.core) (c.save.ensures.stays told) (c.in_ok-saved.ensures.ok told)).0

-- it is put
pub returns-in-Ok-clause-stays : goal.returns-in-Ok-clause-stays
returns-in-Ok-clause-stays g c told = c.calls_join.ensures.stays c.args.core.now c.save.new.core c.write.new.core c.args.caller (c.save.ensures.stays told) (c.write.ensures.stays told)

pub returns-in-Ok-clause-within : goal.returns-in-Ok-clause-within
returns-in-Ok-clause-within g c told = c.calls_join.ensures.within c.args.core.now c.save.new.core c.write.new.core c.args.caller (c.save.ensures.within told) (c.write.ensures.changes told).within

pub returns-in-Ok-clause-kept : goal.returns-in-Ok-clause-kept
returns-in-Ok-clause-kept g c told was kept =
    let old = g.C.Core.view c.args.core.now in
    let mid = g.C.Core.view c.save.new.core in
    let new = g.C.Core.view c.write.new.core in
    let here = saved c.args.caller c.in_ok-saved.saved old mid (c.save.ensures.stays told) (c.in_ok-saved.ensures.ok told) in
    kept_after c.args.table c.args.key c.first.result (Some c.args.bytes.now) (seen_by c.args.caller new) c.first.ensures.is
    (c.in-Ok.ensures.kept told was (kept_before c.args.table c.args.key c.first.result was (seen_by c.args.caller old) (seen_by c.args.caller mid) here.0 c.first.ensures.is kept))

pub returns-in-Ok-clause-others : goal.returns-in-Ok-clause-others
returns-in-Ok-clause-others g c told =
    let old = g.C.Core.view c.args.core.now in
    let mid = g.C.Core.view c.save.new.core in
    let here = saved c.args.caller c.in_ok-saved.saved old mid (c.save.ensures.stays told) (c.in_ok-saved.ensures.ok told) in
    from_before c.args.table c.args.key c.first.result (seen_by c.args.caller old) (seen_by c.args.caller mid) (seen_by c.args.caller (g.C.Core.view c.write.new.core)) here.0 c.first.ensures.is (c.write.ensures.changes told).outside

pub returns-in-Ok-clause-saves : goal.returns-in-Ok-clause-saves
returns-in-Ok-clause-saves g c told =
    (c.write.ensures.changes told).saves
    ∙ (saved c.args.caller c.in_ok-saved.saved (g.C.Core.view c.args.core.now) (g.C.Core.view c.save.new.core) (c.save.ensures.stays told) (c.in_ok-saved.ensures.ok told)).1

-- it is undone
pub returns-in-Err-clause-stays : goal.returns-in-Err-clause-stays
returns-in-Err-clause-stays g c told =
    let join = c.calls_join.ensures.stays in
    let old = c.args.core.now in
    join old c.write.new.core c.undo.new.core c.args.caller (join old c.save.new.core c.write.new.core c.args.caller (c.save.ensures.stays told) (c.write.ensures.stays told)) (c.undo.ensures.stays told)

pub returns-in-Err-clause-within : goal.returns-in-Err-clause-within
returns-in-Err-clause-within g c told =
    let join = c.calls_join.ensures.within in
    let old = c.args.core.now in
    join old c.write.new.core c.undo.new.core c.args.caller (join old c.save.new.core c.write.new.core c.args.caller (c.save.ensures.within told) (c.write.ensures.changes told).within) (c.undo.ensures.within told)

pub returns-in-Err-clause-of_core : goal.returns-in-Err-clause-of_core
returns-in-Err-clause-of_core g c told =
    let old = c.args.core.now in
    let view = g.C.Core.view in
    let stop = Refused c.in-Err.refusal in
    let later = c.calls_join.ensures.later old c.save.new.core c.write.new.core c.args.caller stop (c.save.ensures.stays told) (c.in-Err.ensures.refused told) in
    let stays = c.calls_join.ensures.stays old c.save.new.core c.write.new.core c.args.caller (c.save.ensures.stays told) (c.write.ensures.stays told) in
    of_core c.args.caller (view old) (view c.undo.new.core) c.in-Err.refusal c.undo.result c.undo.ensures.told (c.calls_join.ensures.earlier old c.write.new.core c.undo.new.core c.args.caller stop stays later (c.undo.ensures.stays told))

pub returns-in-Err-clause-others : goal.returns-in-Err-clause-others
returns-in-Err-clause-others g c told =
    let old = g.C.Core.view c.args.core.now in
    let mid = g.C.Core.view c.save.new.core in
    let wrote = g.C.Core.view c.write.new.core in
    let here = saved c.args.caller c.in_ok-saved.saved old mid (c.save.ensures.stays told) (c.in_ok-saved.ensures.ok told) in
    undone_outside c.args.caller c.args.table c.args.key (seen_by c.args.caller old) wrote (g.C.Core.view c.undo.new.core) c.undo.result
    (c.undo.ensures.undone told (saved_by c.args.caller old) (seen_by c.args.caller old) here.2 ((c.write.ensures.changes told).saves ∙ here.1))
    (from_before c.args.table c.args.key c.first.result (seen_by c.args.caller old) (seen_by c.args.caller mid) (seen_by c.args.caller wrote) here.0 c.first.ensures.is (c.write.ensures.changes told).outside)

pub returns-in-Err-clause-refused : goal.returns-in-Err-clause-refused
returns-in-Err-clause-refused g c told =
    let old = g.C.Core.view c.args.core.now in
    let mid = g.C.Core.view c.save.new.core in
    let wrote = g.C.Core.view c.write.new.core in
    let new = g.C.Core.view c.undo.new.core in
    let stop = Refused c.in-Err.refusal in
    let later = c.calls_join.ensures.later c.args.core.now c.save.new.core c.write.new.core c.args.caller stop (c.save.ensures.stays told) (c.in-Err.ensures.refused told) in
    let stays = c.calls_join.ensures.stays c.args.core.now c.save.new.core c.write.new.core c.args.caller (c.save.ensures.stays told) (c.write.ensures.stays told) in
    let refuses = c.calls_join.ensures.earlier c.args.core.now c.write.new.core c.undo.new.core c.args.caller stop stays later (c.undo.ensures.stays told) in
    let here = saved c.args.caller c.in_ok-saved.saved old mid (c.save.ensures.stays told) (c.in_ok-saved.ensures.ok told) in
    let undone = c.undo.ensures.undone told (saved_by c.args.caller old) (seen_by c.args.caller old) here.2 ((c.write.ensures.changes told).saves ∙ here.1) in
    unwritten c.args.caller c.args.table c.args.key c.in-Err.refusal old wrote new c.undo.result stays c.undo.ensures.told refuses undone
    (undone_outside c.args.caller c.args.table c.args.key (seen_by c.args.caller old) wrote new c.undo.result undone
    (from_before c.args.table c.args.key c.first.result (seen_by c.args.caller old) (seen_by c.args.caller mid) (seen_by c.args.caller wrote) here.0 c.first.ensures.is (c.write.ensures.changes told).outside))

pub returns-in-Err-clause-cause : goal.returns-in-Err-clause-cause
returns-in-Err-clause-cause g c = not_unfit _ c.in-Err.refusal c.undo.result c.undo.ensures.told
