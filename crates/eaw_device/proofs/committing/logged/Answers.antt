use Rattle.std.proofs.Common.{◌≡◌, ℕ, ◌<◌, Bool, ◌&&◌, length, sym, ◌∙◌, ap, arith}
use Rattle.std.specs.Prelude.{nat_lt}
use Rattle.std.proofs.lemmas.Bool.{eqb-true, eqb-false, lt-ltb, le-ltb}
use Rattle.array_shape.proofs.Sets.{passed_first, passed_with, passed_skip, passed_past, passed_at}
use Rattle.eaw_face.specs.State.{listed}
use Rattle.eaw_device.specs.Logs.{ranges_logged}
use Rattle.write_back.specs.Entries.{ranges_in}
use Rattle.eaw_device.proofs.Entries.{length-ranges_in}
use Rattle.eaw_device.proofs.Tables.{found_log, ranges_there}
use Rattle.eaw_device.proofs.committing.logged.Goals as goal

pub loop-tid-init : goal.loop-tid-init
loop-tid-init c = record { numbers = passed_first c.args.tids.bits (λ t. nat_lt 0 (length (listed (ranges_logged c.args.logs.now t)))) c.empty-group.result.bits c.empty-group.ensures.lacks }

pub loop-tid-preserved-then-not-contains : goal.loop-tid-preserved-then-not-contains
loop-tid-preserved-then-not-contains c =
    let some = λ (t : ℕ). nat_lt 0 (length (listed (ranges_logged c.args.logs.now t))) in
    record { numbers = passed_skip c.args.tids.bits some c.loop-tid.tid c.loop-tid.group.bits c.loop-tid.invariant.numbers (ap (λ (b : Bool). b && some c.loop-tid.tid) (sym c.contains.ensures ∙ c.if-not-contains.true)) }

pub loop-tid-preserved-then-is_empty : goal.loop-tid-preserved-then-is_empty
loop-tid-preserved-then-is_empty c =
    let logs = c.args.logs.now in
    let t = c.loop-tid.tid in
    let some = λ (u : ℕ). nat_lt 0 (length (listed (ranges_logged logs u))) in
    let log = c.index-logs-from.result in
    let there = found_log logs c.from.result t log c.from.ensures (omega (arith, c.requires.many)) c.index-logs-from.is in
    let its_len : length (listed (ranges_logged logs t)) ≡ length (ranges_in log.entries.items) = ap length (ranges_there c.args.shape.now logs t log there (c.requires.kept t log there)) in
    let empty : length (listed (ranges_logged logs t)) ≡ 0 =
    omega (arith, its_len, length-ranges_in log.entries.items, eqb-true log.entries.len 0 (sym c.is_empty.ensures ∙ c.if-is_empty.true), log.entries.ok.0) in
    record { numbers = passed_skip c.args.tids.bits some t c.loop-tid.group.bits c.loop-tid.invariant.numbers ((λ i. (sym c.contains.ensures ∙ c.if-not-contains.false) i && le-ltb 0 (length (listed (ranges_logged logs t))) (omega (arith, empty)) i)) }

pub loop-tid-preserved : goal.loop-tid-preserved
loop-tid-preserved c =
    let logs = c.args.logs.now in
    let t = c.loop-tid.tid in
    let some = λ (u : ℕ). nat_lt 0 (length (listed (ranges_logged logs u))) in
    let log = c.index-logs-from.result in
    let there = found_log logs c.from.result t log c.from.ensures (omega (arith, c.requires.many)) c.index-logs-from.is in
    let filled = eqb-false log.entries.len 0 (sym c.is_empty.ensures ∙ c.if-is_empty.false) in
    let its_len : length (listed (ranges_logged logs t)) ≡ length (ranges_in log.entries.items) = ap length (ranges_there c.args.shape.now logs t log there (c.requires.kept t log there)) in
    let some_logged : 0 < length (listed (ranges_logged logs t)) = omega (arith, its_len, length-ranges_in log.entries.items, filled, log.entries.ok.0) in
    record { numbers = passed_with c.args.tids.bits some t c.loop-tid.group.bits c.with-group.result.bits c.loop-tid.invariant.numbers (λ i. (sym c.contains.ensures ∙ c.if-not-contains.false) i && lt-ltb 0 (length (listed (ranges_logged logs t))) some_logged i) c.with-group.ensures.here c.with-group.ensures.others }

pub returns-clause-numbers : goal.returns-clause-numbers
returns-clause-numbers c = λ t lt. passed_at c.args.tids.bits (λ u. nat_lt 0 (length (listed (ranges_logged c.args.logs.now u)))) c.loop-tid.tid c.loop-tid.group.bits c.loop-tid.invariant.numbers t (omega arith)

pub returns-clause-beyond : goal.returns-clause-beyond
returns-clause-beyond c = λ t past. passed_past c.args.tids.bits (λ u. nat_lt 0 (length (listed (ranges_logged c.args.logs.now u)))) c.loop-tid.tid c.loop-tid.group.bits c.loop-tid.invariant.numbers t (omega arith)
