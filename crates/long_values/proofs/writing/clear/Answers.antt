use Rattle.std.proofs.Common.{◌+◌, Bool, refl, ◌∙◌, subst, arith}
use Rattle.std.specs.Prelude.{Ok}
use Rattle.history.specs.declared.call.TableCall.TheVariants.{Del}
use Rattle.transactions.specs.Adds.{Adds}
use Rattle.transactions.specs.Told.{told_del}
use Rattle.transactions.specs.declared.work.Stop.TheVariants.{Refused}
use Rattle.long_values.specs.Changing.{seen_by}
use Rattle.long_values.proofs.Undoing.{handed_on}
use Rattle.long_values.proofs.Records.{changes_none, changes_on, changes_wider, changes_kept, changes_del, seen_del, del_absent, part_gone, cleared}
use Rattle.long_values.proofs.writing.clear.Goals as goal

pub loop-n-init : goal.loop-n-init
loop-n-init g c = record {
  limits = refl;
  changes = λ told. changes_none c.args.caller c.args.at.now.table (c.args.at.now.first + c.args.from) (c.args.at.now.first + c.args.from) (g.C.Core.view c.args.core.now) (c.requires.sound told);
  stays = λ start told stays. stays;
  gone = λ told k ge lt. absurd (omega (arith, ge, lt));
}

pub loop-n-preserved : goal.loop-n-preserved
loop-n-preserved g c =
    let old = c.args.core.now in
    let cur = c.loop-n.core in
    let new = c.del.new.core in
    let view = g.C.Core.view in
    let n = c.loop-n.n in
    let ge = c.loop-n.auto.n in
    record {
      limits = c.del.ensures.steps.limits ∙ c.loop-n.invariant.limits;
      changes = λ told.
          changes_on c.args.caller c.args.at.now.table (c.args.at.now.first + c.args.from) (c.args.at.now.first + (n + 1)) (view old) (view cur) (view new)
          (c.calls_join.ensures.within old cur new c.args.caller (c.loop-n.invariant.changes told).within (c.del.ensures.within told))
          (changes_wider c.args.caller c.args.at.now.table (c.args.at.now.first + c.args.from) (c.args.at.now.first + n) (c.args.at.now.first + c.args.from) (c.args.at.now.first + (n + 1)) (view old) (view cur) (omega arith) (omega arith) (c.loop-n.invariant.changes told))
          (changes_del c.args.caller c.args.at.now.table (c.args.at.now.first + n) (c.args.at.now.first + c.args.from) (c.args.at.now.first + (n + 1)) (told_del (Ok c.in_ok-was_there.was_there)) (view cur) (view new) (c.del.ensures.stays told) (c.del.ensures.within told)
          (c.in_ok-was_there.ensures.ok told) (omega (arith, ge)) (omega arith));
      stays = λ start told stays. c.calls_join.ensures.stays start cur new c.args.caller (c.loop-n.invariant.stays start told stays) (c.del.ensures.stays told);
      gone = λ told.
          part_gone c.args.caller c.args.at.now.table c.args.at.now.first c.args.from n (told_del (Ok c.in_ok-was_there.was_there)) (view cur) (view new) (c.del.ensures.stays told) (c.del.ensures.within told)
          (c.in_ok-was_there.ensures.ok told) (c.loop-n.invariant.gone told);
    }

-- a removal was refused
pub returns-in_err-was_there-clause-changes : goal.returns-in_err-was_there-clause-changes
returns-in_err-was_there-clause-changes g c told =
    let old = c.args.core.now in
    let cur = c.loop-n.core in
    let new = c.del.new.core in
    let view = g.C.Core.view in
    let lt = c.loop-n-test.true in
    let from = c.args.at.now.first + c.args.from in
    changes_on c.args.caller c.args.at.now.table from (c.args.at.now.first + 512) (view old) (view cur) (view new)
    (c.calls_join.ensures.within old cur new c.args.caller (c.loop-n.invariant.changes told).within (c.del.ensures.within told))
    (changes_wider c.args.caller c.args.at.now.table from (c.args.at.now.first + c.loop-n.n) from (c.args.at.now.first + 512) (view old) (view cur) (omega arith) (omega (arith, lt)) (c.loop-n.invariant.changes told))
    (changes_kept c.args.caller c.args.at.now.table from (c.args.at.now.first + 512) (view cur) (view new) (c.del.ensures.stays told) (c.del.ensures.within told) (c.in_err-was_there.ensures.err told))

pub returns-in_err-was_there-clause-stays : goal.returns-in_err-was_there-clause-stays
returns-in_err-was_there-clause-stays g c start told stays =
    c.calls_join.ensures.stays start c.loop-n.core c.del.new.core c.args.caller (c.loop-n.invariant.stays start told stays) (c.del.ensures.stays told)

pub returns-in_err-was_there-clause-refused : goal.returns-in_err-was_there-clause-refused
returns-in_err-was_there-clause-refused g c start told stays =
    handed_on _ c.from_residual.result _ c.from_residual.ensures
    (c.calls_join.ensures.later start c.loop-n.core c.del.new.core c.args.caller (Refused c.in_err-was_there.field-0.0) (c.loop-n.invariant.stays start told stays) (c.in_err-was_there.ensures.refused told))

-- there was none
pub returns-then-not-was_there-clause-changes : goal.returns-then-not-was_there-clause-changes
returns-then-not-was_there-clause-changes g c told =
    let old = c.args.core.now in
    let cur = c.loop-n.core in
    let new = c.del.new.core in
    let view = g.C.Core.view in
    let lt = c.loop-n-test.true in
    let ge = c.loop-n.auto.n in
    let from = c.args.at.now.first + c.args.from in
    changes_on c.args.caller c.args.at.now.table from (c.args.at.now.first + 512) (view old) (view cur) (view new)
    (c.calls_join.ensures.within old cur new c.args.caller (c.loop-n.invariant.changes told).within (c.del.ensures.within told))
    (changes_wider c.args.caller c.args.at.now.table from (c.args.at.now.first + c.loop-n.n) from (c.args.at.now.first + 512) (view old) (view cur) (omega arith) (omega (arith, lt)) (c.loop-n.invariant.changes told))
    (changes_del c.args.caller c.args.at.now.table (c.args.at.now.first + c.loop-n.n) from (c.args.at.now.first + 512) (told_del (Ok c.in_ok-was_there.was_there)) (view cur) (view new) (c.del.ensures.stays told) (c.del.ensures.within told) (c.in_ok-was_there.ensures.ok told)
    (omega (arith, ge)) (omega (arith, lt)))

pub returns-then-not-was_there-clause-stays : goal.returns-then-not-was_there-clause-stays
returns-then-not-was_there-clause-stays g c start told stays =
    c.calls_join.ensures.stays start c.loop-n.core c.del.new.core c.args.caller (c.loop-n.invariant.stays start told stays) (c.del.ensures.stays told)

pub returns-then-not-was_there-clause-gone : goal.returns-then-not-was_there-clause-gone
returns-then-not-was_there-clause-gone g c told was records =
    let old = g.C.Core.view c.args.core.now in
    let cur = g.C.Core.view c.loop-n.core in
    let new = g.C.Core.view c.del.new.core in
    let n = c.loop-n.n in
    let stays = c.del.ensures.stays told in
    let adds = c.in_ok-was_there.ensures.ok told in
    let absent = subst (λ (b : Bool). Adds c.args.caller (Del c.args.at.now.table (c.args.at.now.first + n)) (told_del (Ok b)) cur new) c.if-not-was_there.true adds in
    cleared c.args.at.now.table c.args.at.now.first c.args.from n was (seen_by c.args.caller old) (seen_by c.args.caller cur) (seen_by c.args.caller new) records (c.loop-n.invariant.changes told).outside (c.loop-n.invariant.gone told)
    c.loop-n.auto.n c.loop-n-test.true (del_absent c.args.caller c.args.at.now.table (c.args.at.now.first + n) cur new stays absent)
    (changes_del c.args.caller c.args.at.now.table (c.args.at.now.first + n) (c.args.at.now.first + n) (c.args.at.now.first + n + 1) (told_del (Ok c.in_ok-was_there.was_there)) cur new stays (c.del.ensures.within told) adds (omega arith) (omega arith)).outside
    (seen_del c.args.caller c.args.at.now.table (c.args.at.now.first + n) (told_del (Ok c.in_ok-was_there.was_there)) cur new stays adds)

-- all were removed
pub returns-clause-changes : goal.returns-clause-changes
returns-clause-changes g c told =
    let view = g.C.Core.view in
    let le = c.loop-n.auto.n-end c.requires.below in
    changes_wider c.args.caller c.args.at.now.table (c.args.at.now.first + c.args.from) (c.args.at.now.first + c.loop-n.n) (c.args.at.now.first + c.args.from) (c.args.at.now.first + 512) (view c.args.core.now) (view c.loop-n.core)
    (omega arith) (omega (arith, le)) (c.loop-n.invariant.changes told)

pub returns-clause-gone : goal.returns-clause-gone
returns-clause-gone g c told was records k ge lt = c.loop-n.invariant.gone told k ge (let past = c.loop-n-test.false in omega (arith, past, lt))
