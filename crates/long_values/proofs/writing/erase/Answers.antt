use Rattle.std.proofs.Common.{◌+◌, Bool, Option, refl, subst, arith}
use Rattle.std.specs.Prelude.{Ok, IsSome}
use Rattle.std.proofs.lemmas.Bool.{false≢true}
use Rattle.history.specs.declared.call.TableCall.TheVariants.{Del}
use Rattle.transactions.specs.Adds.{Adds}
use Rattle.transactions.specs.Told.{told_del}
use Rattle.long_values.specs.Changing.{seen_by}
use Rattle.long_values.proofs.Undoing.{handed_on}
use Rattle.long_values.proofs.Records.{changes_on, changes_wider, changes_kept, changes_del, seen_del, del_absent, del_there, erased, erased_none, was_value, was_none}
use Rattle.long_values.proofs.writing.erase.Goals as goal

-- the removal of the first record was refused
pub returns-in_err-was_there-clause-changes : goal.returns-in_err-was_there-clause-changes
returns-in_err-was_there-clause-changes g c told =
    changes_kept c.args.caller c.args.at.now.table c.args.at.now.first (c.args.at.now.first + 512) (g.C.Core.view c.args.core.now) (g.C.Core.view c.del.new.core) (c.del.ensures.stays told) (c.del.ensures.within told)
    (c.in_err-was_there.ensures.err told)

-- there was none
pub returns-then-not-was_there-clause-changes : goal.returns-then-not-was_there-clause-changes
returns-then-not-was_there-clause-changes g c told =
    changes_del c.args.caller c.args.at.now.table c.args.at.now.first c.args.at.now.first (c.args.at.now.first + 512) (told_del (Ok c.in_ok-was_there.was_there)) (g.C.Core.view c.args.core.now) (g.C.Core.view c.del.new.core) (c.del.ensures.stays told) (c.del.ensures.within told)
    (c.in_ok-was_there.ensures.ok told) (omega arith) (omega arith)

pub returns-then-not-was_there-clause-gone : goal.returns-then-not-was_there-clause-gone
returns-then-not-was_there-clause-gone g c told was kept =
    let old = g.C.Core.view c.args.core.now in
    let new = g.C.Core.view c.del.new.core in
    let first = c.args.at.now.first in
    let stays = c.del.ensures.stays told in
    let adds = c.in_ok-was_there.ensures.ok told in
    let none = del_absent c.args.caller c.args.at.now.table first old new stays (subst (λ (b : Bool). Adds c.args.caller (Del c.args.at.now.table first) (told_del (Ok b)) old new) c.if-not-was_there.true adds) in
    let gone = was_none c.args.at.now.table first was (seen_by c.args.caller old) kept none in (
      erased_none c.args.at.now.table first was (seen_by c.args.caller old) (seen_by c.args.caller new) kept none
          (changes_del c.args.caller c.args.at.now.table first first (first + 1) (told_del (Ok c.in_ok-was_there.was_there)) old new stays (c.del.ensures.within told) adds (omega arith) (omega arith)).outside (seen_del c.args.caller c.args.at.now.table first (told_del (Ok c.in_ok-was_there.was_there)) old new stays adds),
      ((λ is. absurd (false≢true is)), λ some. absurd (false≢true (subst (λ (o : Option _). IsSome o) gone some))),
    )

-- the removal of another was refused
pub returns-in_err-clear-clause-changes : goal.returns-in_err-clear-clause-changes
returns-in_err-clear-clause-changes g c told =
    let old = c.args.core.now in
    let mid = c.del.new.core in
    let new = c.clear.new.core in
    let view = g.C.Core.view in
    let first = c.args.at.now.first in
    changes_on c.args.caller c.args.at.now.table first (first + 512) (view old) (view mid) (view new) (c.calls_join.ensures.within old mid new c.args.caller (c.del.ensures.within told) (c.clear.ensures.changes told).within)
    (changes_del c.args.caller c.args.at.now.table first first (first + 512) (told_del (Ok c.in_ok-was_there.was_there)) (view old) (view mid) (c.del.ensures.stays told) (c.del.ensures.within told) (c.in_ok-was_there.ensures.ok told) (omega arith) (omega arith))
    (changes_wider c.args.caller c.args.at.now.table (first + 1) (first + 512) first (first + 512) (view mid) (view new) (omega arith) (omega arith) (c.clear.ensures.changes told))

pub returns-in_err-clear-clause-stays : goal.returns-in_err-clear-clause-stays
returns-in_err-clear-clause-stays g c told = c.clear.ensures.stays c.args.core.now told (c.del.ensures.stays told)

pub returns-in_err-clear-clause-refused : goal.returns-in_err-clear-clause-refused
returns-in_err-clear-clause-refused g c told =
    handed_on _ c.from_residual-in_err-clear.result _ c.from_residual-in_err-clear.ensures (c.in_err-clear.ensures.refused c.args.core.now told (c.del.ensures.stays told))

-- all were removed
pub returns-clause-changes : goal.returns-clause-changes
returns-clause-changes g c told =
    let old = c.args.core.now in
    let mid = c.del.new.core in
    let new = c.clear.new.core in
    let view = g.C.Core.view in
    let first = c.args.at.now.first in
    changes_on c.args.caller c.args.at.now.table first (first + 512) (view old) (view mid) (view new) (c.calls_join.ensures.within old mid new c.args.caller (c.del.ensures.within told) (c.clear.ensures.changes told).within)
    (changes_del c.args.caller c.args.at.now.table first first (first + 512) (told_del (Ok c.in_ok-was_there.was_there)) (view old) (view mid) (c.del.ensures.stays told) (c.del.ensures.within told) (c.in_ok-was_there.ensures.ok told) (omega arith) (omega arith))
    (changes_wider c.args.caller c.args.at.now.table (first + 1) (first + 512) first (first + 512) (view mid) (view new) (omega arith) (omega arith) (c.clear.ensures.changes told))

pub returns-clause-stays : goal.returns-clause-stays
returns-clause-stays g c told = c.clear.ensures.stays c.args.core.now told (c.del.ensures.stays told)

pub returns-clause-gone : goal.returns-clause-gone
returns-clause-gone g c told was kept =
    let old = g.C.Core.view c.args.core.now in
    let mid = g.C.Core.view c.del.new.core in
    let new = g.C.Core.view c.clear.new.core in
    let first = c.args.at.now.first in
    let stays = c.del.ensures.stays told in
    let adds = c.in_ok-was_there.ensures.ok told in
    let there = del_there c.args.caller c.args.at.now.table first old mid stays (subst (λ (b : Bool). Adds c.args.caller (Del c.args.at.now.table first) (told_del (Ok b)) old mid) c.if-not-was_there.false adds) in
    let some = was_value c.args.at.now.table first was (seen_by c.args.caller old) kept there in (
      erased c.args.at.now.table first was (seen_by c.args.caller old) (seen_by c.args.caller mid) (seen_by c.args.caller new) kept
          (changes_del c.args.caller c.args.at.now.table first first (first + 1) (told_del (Ok c.in_ok-was_there.was_there)) old mid stays (c.del.ensures.within told) adds (omega arith) (omega arith)).outside (seen_del c.args.caller c.args.at.now.table first (told_del (Ok c.in_ok-was_there.was_there)) old mid stays adds)
          (c.clear.ensures.changes told).outside (c.in_ok-clear.ensures.gone told was),
      ((λ is. some), λ is. refl),
    )
