use Rattle.std.proofs.Common.{◌≡◌, ℕ, ◌+◌, ◌-◌, ◌<◌, ◌&&◌, ◌||◌, nat_eq, inl, inr, sym, ◌∙◌, ap, arith}
use Rattle.std.specs.Prelude.{nat_lt, slice_get, slice_index}
use Rattle.std.specs.List.{range_with_len}
use Rattle.std.proofs.lemmas.Bool.{cases_eq, false≢true}
use Rattle.array_shape.specs.NumberSet.{has}
use Rattle.coordinator.specs.declared.cells.Cells.{Cells}
use Rattle.coordinator.specs.Commits.{cells_in}
use Rattle.write_back.specs.Entries.{cells_on}
use Rattle.write_back.specs.Shown.{entries_of}
use Rattle.write_back.specs.Turns.{has_some}
use Rattle.eaw_face.specs.State.{listed, count_on}
use Rattle.write_back.proofs.Tying.{free_lacks}
use Rattle.eaw_device.specs.declared.log.Log.{Log}
use Rattle.eaw_device.specs.Logs.{ranges_logged}
use Rattle.eaw_device.proofs.Aside.{aside_as, below, below_next, not_below}
use Rattle.eaw_device.proofs.Doing.{one_log}
use Rattle.eaw_device.proofs.Gathering.{held_is, log_there}
use Rattle.eaw_device.proofs.Tables.{found_log}
use Rattle.eaw_device.proofs.committing.set_group_aside.Goals as goal

pub set_aside-requires-clause-kept : goal.set_aside-requires-clause-kept
set_aside-requires-clause-kept c =
    let log = c.index-logs-from.result in
    c.requires.kept c.loop-tid.tid log (found_log c.args.logs.now c.from.result c.loop-tid.tid log c.from.ensures (omega (arith, c.requires.many)) c.index-logs-from.is)

pub set_aside-requires-clause-none : goal.set_aside-requires-clause-none
set_aside-requires-clause-none c =
    let t = c.loop-tid.tid in
    let at = c.loop-tid.invariant in
    let on = sym c.contains.ensures ∙ c.if-not-contains.false in
    at.tied.none t (omega arith) (not_below c.args.group.bits (nat_lt 0 c.loop-tid.late.queue.depth) t)
    ((λ i. has_some (at.ballots i).items t) ∙ free_lacks c.args.late.now.queue.ballots.items t (c.requires.apart t on))

pub loop-tid-preserved : goal.loop-tid-preserved
loop-tid-preserved c =
    let logs = c.args.logs.now in
    let shape = c.args.shape.now in
    let bits = c.args.group.bits in
    let t = c.loop-tid.tid in
    let at = c.loop-tid.invariant in
    let said = c.set_aside.ensures in
    let new = c.set_aside.new.late in
    let cells = new.queue.cells in
    let log = c.index-logs-from.result in
    let there = found_log logs c.from.result t log c.from.ensures (omega (arith, c.requires.many)) c.index-logs-from.is in
    let on = sym c.contains.ensures ∙ c.if-not-contains.false in
    let small : (g : ℕ) → g < shape.loggers → g < 8 = λ g lt. omega (arith, shape.in_range.most_loggers) in
    record {
      ready = said.ready;
      ballots = said.ballots ∙ at.ballots;
      depth = said.depth ∙ at.depth;
      first = λ g u lt below so. elim (cases_eq u t) [
        | inl is ↦ ap (λ (v : ℕ). (cells_in cells g v).first) is ∙ ap (λ (x : Cells). x.first) (said.here g lt)
        | inr ne ↦ ap (λ (x : Cells). x.first) (said.others g u (small g lt) ne) ∙ at.first g u lt (omega arith) so
      ];
      count = λ g u lt below so. elim (cases_eq u t) [
        | inl is ↦
            (let whole : slice_index log.held g - 0 ≡ slice_index log.held g = omega arith in
            ap (λ (v : ℕ). (cells_in cells g v).count) is ∙ ap (λ (x : Cells). x.count) (said.here g lt) ∙ whole ∙ sym (held_is shape logs c.requires.many c.requires.kept t log there g lt)
            ∙ ap (λ (v : ℕ). count_on shape g (listed (ranges_logged logs v))) (sym is))
        | inr ne ↦ ap (λ (x : Cells). x.count) (said.others g u (small g lt) ne) ∙ at.count g u lt (omega arith) so
      ];
      others = λ g u lt off. said.others g u lt (λ is. false≢true (sym off ∙ ap (has bits) is ∙ on)) ∙ at.others g u lt off;
      entries = λ may u lt so. elim (cases_eq u t) [
        | inl is ↦ (λ l got. ap (entries_of new.parts) is ∙ said.entries (omega (arith, may, at.depth)) ∙ ap (λ (x : Log). x.entries.items) (one_log logs t log l there (ap (slice_get logs) (sym is) ∙ got)))
        | inr ne ↦ (λ l got. said.beside u ne ∙ at.entries may u (omega arith) so l got)
      ];
      tied = aside_as shape cells (entries_of new.parts) new.queue.ballots.items (λ u. nat_lt 0 c.loop-tid.late.queue.depth && (nat_eq u t || below bits t u)) (λ u. nat_lt 0 new.queue.depth && below bits (t + 1) u)
          (λ u lt. (λ i. nat_lt 0 (sym said.depth i) && below_next bits t on u i)) (said.tied (below bits t) at.tied);
      waiting = λ now waiting. said.waiting now (at.waiting now waiting);
      same = λ image. said.same image ∙ at.same image;
      held = λ image all before. said.held image (all t log there) (at.held image all before);
    }

pub returns-clause-entries : goal.returns-clause-entries
returns-clause-entries c = λ may g t lt lt' so.
    let logs = c.args.logs.now in
    let shape = c.args.shape.now in
    let at = c.loop-tid.invariant in
    let found = log_there logs t (omega (arith, c.requires.many)) in
    let log = found.0 in
    let first = at.first g t lt (omega arith) so in
    let count = at.count g t lt (omega arith) so ∙ held_is shape logs c.requires.many c.requires.kept t log found.1 g lt in
    ap (cells_on shape g) (at.entries may t (omega arith) so log found.1) ∙ (c.requires.kept t log found.1).cells g lt ∙ (λ i. range_with_len (sym first i) (sym count i))
