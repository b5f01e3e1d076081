use Rattle.std.proofs.Common.{◌+◌, sym, ◌∙◌}
use Rattle.long_values.specs.Changing.{seen_by}
use Rattle.long_values.proofs.Putting.{same_seen}
use Rattle.long_values.proofs.Telling.{seen_scan, told_value, untold_value, unread_as}
use Rattle.long_values.proofs.reading.get.Goals as goal

-- the scan was refused
pub returns-in_err-rows-clause-same : goal.returns-in_err-rows-clause-same
returns-in_err-rows-clause-same g c told = same_seen c.args.caller (g.C.Core.view c.args.core.now) (g.C.Core.view c.scan.new.core) (c.scan.ensures.stays told) (c.in_err-rows.ensures.err told)

-- the rows were read
pub returns-in-Ok-clause-same : goal.returns-in-Ok-clause-same
returns-in-Ok-clause-same g c told =
    (seen_scan c.args.caller (g.C.Core.view c.args.core.now) (g.C.Core.view c.scan.new.core) c.args.table c.first-first.result (c.first-first.result + 511) c.in_ok-rows.rows (c.scan.ensures.stays told) (c.in_ok-rows.ensures.ok told)).0

pub returns-in-Ok-clause-told : goal.returns-in-Ok-clause-told
returns-in-Ok-clause-told g c told value kept =
    let scanned = seen_scan c.args.caller (g.C.Core.view c.args.core.now) (g.C.Core.view c.scan.new.core) c.args.table c.first-first.result (c.first-first.result + 511) c.in_ok-rows.rows (c.scan.ensures.stays told) (c.in_ok-rows.ensures.ok told) in
    told_value _ c.args.table c.args.key c.first-first.result (seen_by c.args.caller (g.C.Core.view c.args.core.now)) c.as_slice.result.now c.in-Ok.told value (c.as_slice.ensures ∙ scanned.1) c.first-first.ensures.is
    (λ empty. let both = sym c.in-Ok.is ∙ c.bytes_in.ensures.none empty in cc both) c.in-Ok.ensures.some kept

-- they were not
pub returns-clause-same : goal.returns-clause-same
returns-clause-same g c told =
    (seen_scan c.args.caller (g.C.Core.view c.args.core.now) (g.C.Core.view c.scan.new.core) c.args.table c.first-first.result (c.first-first.result + 511) c.in_ok-rows.rows (c.scan.ensures.stays told) (c.in_ok-rows.ensures.ok told)).0

pub returns-clause-unread : goal.returns-clause-unread
returns-clause-unread g c told =
    let table = seen_by c.args.caller (g.C.Core.view c.args.core.now) in
    let scanned = seen_scan c.args.caller (g.C.Core.view c.args.core.now) (g.C.Core.view c.scan.new.core) c.args.table c.first-first.result (c.first-first.result + 511) c.in_ok-rows.rows (c.scan.ensures.stays told) (c.in_ok-rows.ensures.ok told) in
    unread_as c.args.table c.args.key table c.in-Err.unkept c.in-Err.ensures.cause
    (untold_value c.args.table c.args.key c.first-first.result table c.as_slice.result.now c.bytes_in.result c.in-Err.unkept (c.as_slice.ensures ∙ scanned.1) c.first-first.ensures.is c.in-Err.is c.in-Err.ensures.cause c.bytes_in.ensures.none c.in-Err.ensures.err)
