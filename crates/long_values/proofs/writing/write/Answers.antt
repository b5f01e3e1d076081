use Rattle.std.proofs.Common.{◌+◌, Some, ◌∙◌, ap, arith}
use Rattle.long_values.specs.Values.{part_count}
use Rattle.long_values.specs.Changing.{seen_by}
use Rattle.long_values.proofs.Undoing.{handed_on}
use Rattle.long_values.proofs.Records.{changes_on, changes_wider, changes_kept, changes_put, seen_put, written}
use Rattle.long_values.proofs.writing.write.Goals as goal

-- the first record was refused
pub returns-in_err-put-clause-changes : goal.returns-in_err-put-clause-changes
returns-in_err-put-clause-changes g c told =
    changes_kept c.args.caller c.args.at.now.table c.args.at.now.first (c.args.at.now.first + 512) (g.C.Core.view c.args.core.now) (g.C.Core.view c.put.new.core) (c.put.ensures.stays told) (c.put.ensures.within told) (c.in_err-put.ensures.err told)

-- or one of a part
pub returns-in_err-write_parts-clause-changes : goal.returns-in_err-write_parts-clause-changes
returns-in_err-write_parts-clause-changes g c told =
    let old = c.args.core.now in
    let put = c.put.new.core in
    let new = c.write_parts.new.core in
    let view = g.C.Core.view in
    let first = c.args.at.now.first in
    let short = c.requires.short in
    changes_on c.args.caller c.args.at.now.table first (first + 512) (view old) (view put) (view new)
    (c.calls_join.ensures.within old put new c.args.caller (c.put.ensures.within told) (c.write_parts.ensures.changes told).within)
    (changes_put c.args.caller c.args.at.now.table c.value_of.result first first (first + 512) (view old) (view put) (c.put.ensures.stays told) (c.put.ensures.within told) (c.in_ok-put.ensures.ok told) (omega arith) (omega arith))
    (changes_wider c.args.caller c.args.at.now.table (first + 1) (first + 1 + part_count c.args.bytes.now) first (first + 512) (view put) (view new) (omega arith) (omega (arith, short)) (c.write_parts.ensures.changes told))

pub returns-in_err-write_parts-clause-stays : goal.returns-in_err-write_parts-clause-stays
returns-in_err-write_parts-clause-stays g c told = c.write_parts.ensures.stays c.args.core.now told (c.put.ensures.stays told)

pub returns-in_err-write_parts-clause-refused : goal.returns-in_err-write_parts-clause-refused
returns-in_err-write_parts-clause-refused g c told =
    handed_on _ c.from_residual-in_err-write_parts.result _ c.from_residual-in_err-write_parts.ensures (c.in_err-write_parts.ensures.refused c.args.core.now told (c.put.ensures.stays told))

-- or the removal of an old one
pub returns-in_err-clear-clause-changes : goal.returns-in_err-clear-clause-changes
returns-in_err-clear-clause-changes g c told =
    let old = c.args.core.now in
    let put = c.put.new.core in
    let parted = c.write_parts.new.core in
    let new = c.clear.new.core in
    let view = g.C.Core.view in
    let first = c.args.at.now.first in
    let short = c.requires.short in
    let front = c.calls_join.ensures.within old put parted c.args.caller (c.put.ensures.within told) (c.write_parts.ensures.changes told).within in
    changes_on c.args.caller c.args.at.now.table first (first + 512) (view old) (view parted) (view new)
    (c.calls_join.ensures.within old parted new c.args.caller front (c.clear.ensures.changes told).within)
    (changes_on c.args.caller c.args.at.now.table first (first + 512) (view old) (view put) (view parted) front
    (changes_put c.args.caller c.args.at.now.table c.value_of.result first first (first + 512) (view old) (view put) (c.put.ensures.stays told) (c.put.ensures.within told) (c.in_ok-put.ensures.ok told) (omega arith) (omega arith))
    (changes_wider c.args.caller c.args.at.now.table (first + 1) (first + 1 + part_count c.args.bytes.now) first (first + 512) (view put) (view parted) (omega arith) (omega (arith, short)) (c.write_parts.ensures.changes told)))
    (changes_wider c.args.caller c.args.at.now.table (first + (c.part_count.result + 1)) (first + 512) first (first + 512) (view parted) (view new) (omega arith) (omega arith) (c.clear.ensures.changes told))

pub returns-in_err-clear-clause-stays : goal.returns-in_err-clear-clause-stays
returns-in_err-clear-clause-stays g c told = c.clear.ensures.stays c.args.core.now told (c.write_parts.ensures.stays c.args.core.now told (c.put.ensures.stays told))

pub returns-in_err-clear-clause-refused : goal.returns-in_err-clear-clause-refused
returns-in_err-clear-clause-refused g c told =
    handed_on _ c.from_residual-in_err-clear.result _ c.from_residual-in_err-clear.ensures
    (c.in_err-clear.ensures.refused c.args.core.now told (c.write_parts.ensures.stays c.args.core.now told (c.put.ensures.stays told)))

-- all was done
pub returns-clause-changes : goal.returns-clause-changes
returns-clause-changes g c told =
    let old = c.args.core.now in
    let put = c.put.new.core in
    let parted = c.write_parts.new.core in
    let new = c.clear.new.core in
    let view = g.C.Core.view in
    let first = c.args.at.now.first in
    let short = c.requires.short in
    let front = c.calls_join.ensures.within old put parted c.args.caller (c.put.ensures.within told) (c.write_parts.ensures.changes told).within in
    changes_on c.args.caller c.args.at.now.table first (first + 512) (view old) (view parted) (view new)
    (c.calls_join.ensures.within old parted new c.args.caller front (c.clear.ensures.changes told).within)
    (changes_on c.args.caller c.args.at.now.table first (first + 512) (view old) (view put) (view parted) front
    (changes_put c.args.caller c.args.at.now.table c.value_of.result first first (first + 512) (view old) (view put) (c.put.ensures.stays told) (c.put.ensures.within told) (c.in_ok-put.ensures.ok told) (omega arith) (omega arith))
    (changes_wider c.args.caller c.args.at.now.table (first + 1) (first + 1 + part_count c.args.bytes.now) first (first + 512) (view put) (view parted) (omega arith) (omega (arith, short)) (c.write_parts.ensures.changes told)))
    (changes_wider c.args.caller c.args.at.now.table (first + (c.part_count.result + 1)) (first + 512) first (first + 512) (view parted) (view new) (omega arith) (omega arith) (c.clear.ensures.changes told))

pub returns-clause-stays : goal.returns-clause-stays
returns-clause-stays g c told = c.clear.ensures.stays c.args.core.now told (c.write_parts.ensures.stays c.args.core.now told (c.put.ensures.stays told))

pub returns-clause-kept : goal.returns-clause-kept
returns-clause-kept g c told was kept =
    let old = g.C.Core.view c.args.core.now in
    let put = g.C.Core.view c.put.new.core in
    let parted = g.C.Core.view c.write_parts.new.core in
    let new = g.C.Core.view c.clear.new.core in
    let first = c.args.at.now.first in
    let bytes = c.args.bytes.now in
    let short = c.requires.short in
    let count = c.part_count.ensures in
    let stays = c.put.ensures.stays told in
    let adds = c.in_ok-put.ensures.ok told in
    written c.args.at.now.table first bytes was (c.part_count.result + 1) (seen_by c.args.caller old) (seen_by c.args.caller put) (seen_by c.args.caller parted) (seen_by c.args.caller new) (omega (arith, count))
    (λ i. let fit = c.type_inv.bytes i in omega (arith, fit), short) (omega (arith, short)) kept
    (changes_put c.args.caller c.args.at.now.table c.value_of.result first first (first + 1) old put stays (c.put.ensures.within told) adds (omega arith) (omega arith)).outside
    (seen_put c.args.caller c.args.at.now.table c.value_of.result first old put stays adds ∙ ap Some c.value_of.ensures)
    (c.write_parts.ensures.changes told).outside (c.in_ok-write_parts.ensures.written told) (c.clear.ensures.changes told).outside (c.in_ok-clear.ensures.gone told was)
