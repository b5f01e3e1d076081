use Rattle.std.proofs.Common.{◌≡◌, ℕ, ◌*◌, ◌^◌, ◌%◌, ◌-◌, ◌<◌, ◌≤◌, true, false, List, [], ◌∷◌, length, take, drop, refl, sym, ◌∙◌, ap, subst, arith}
use Rattle.std.specs.Prelude.{IsTrue, slice_index}
use Rattle.std.proofs.lemmas.Bool.{false≢true}
use Rattle.std.proofs.lemmas.List.{drop_all, length-drop}
use Rattle.std.proofs.lemmas.Result.{err_from_is_err_and, on_ok_weaker}
use Rattle.array_shape.specs.declared.shape.Shape.{Shape}
use Rattle.array_shape.specs.Logged.{Part, applied}
use Rattle.array_shape.specs.NumberSet.{has}
use Rattle.coordinator.specs.declared.cells.Cells.{Cells}
use Rattle.coordinator.specs.Commits.{cells_in, parts_named}
use Rattle.write_back.specs.declared.entry.Entry.{Entry}
use Rattle.write_back.specs.Entries.{cells_on, ranges_in, parts_in}
use Rattle.write_back.specs.Shown.{entries_of}
use Rattle.write_back.specs.Orders.{IsFree, due_for}
use Rattle.write_back.specs.Waiting.{data_with}
use Rattle.write_back.proofs.Composing.{back_fails, commits_after, commits_as, commits_none}
use Rattle.write_back.proofs.Tying.{free_lacks}
use Rattle.row_bytes.specs.declared.ballot.Ballot.{Ballot}
use Rattle.eaw_device.specs.Costs.{commit_cost, joining_cost}
use Rattle.eaw_device.specs.Groups.{HaveCells, HaveEntries, HaveParts, group_count}
use Rattle.eaw_device.specs.Laws.{length-waiting}
use Rattle.eaw_device.specs.declared.log.Log.{Log}
use Rattle.eaw_device.specs.Logs.{IsKept}
use Rattle.eaw_device.proofs.Alone.{alone_applied, alone_count, alone_entries, alone_fits, alone_good, alone_rows, has_other, has_own, own_bit, own_small}
use Rattle.eaw_device.proofs.Aside.{alone_aside, kept_before, none_aside}
use Rattle.eaw_device.proofs.Cutting.{before_first}
use Rattle.eaw_device.proofs.Entries.{length-ranges_in}
use Rattle.eaw_device.proofs.GroupBits.{group_of_one}
use Rattle.eaw_device.proofs.Grouping.{group_parts, are_there, group_rows, named_same}
use Rattle.eaw_device.proofs.JoiningCost.{back_part, no_cost, whole_cost}
use Rattle.eaw_device.proofs.Keeping.{length-cells_on_kept}
use Rattle.eaw_device.proofs.LogParts.{parts_in-drop}
use Rattle.eaw_device.proofs.Tables.{held_same}
use Rattle.eaw_device.proofs.committing.commit_log.Given.{Over}
use Rattle.eaw_device.proofs.committing.commit_log.Goals as goal

pub returns-then-offset-len-clause-does : goal.returns-then-offset-len-clause-does
returns-then-offset-len-clause-does g c =
    let shape = c.args.shape.now in
    let log = c.args.log.now in
    let offset = c.args.offset in
    let all : length log.entries.items ≤ offset = omega (arith, c.len.ensures) in
    let ranges = drop offset (ranges_in log.entries.items) in
    let none : length ranges ≡ 0 = ap length (drop_all offset (ranges_in log.entries.items) (omega (arith, all, length-ranges_in log.entries.items))) in
    commits_none g.M.Media.tells shape _ (commit_cost shape c.args.late.now.queue (c.args.tid ∷ []) ranges) c.args.late.now.queue (g.M.Media.view c.args.media.now) c.requires.ready.fit c.requires.waiting
    (λ told.
    let image = (g.M.Media.view c.args.media.now).content.bytes in
    sym (parts_in-drop shape image c.args.tid offset log.entries.items) ∙ ap (parts_in shape image c.args.tid) (drop_all offset log.entries.items all))
    (no_cost shape c.args.late.now.queue (c.args.tid ∷ []) ranges none)

pub returns-then-offset-len-clause-before : goal.returns-then-offset-len-clause-before
returns-then-offset-len-clause-before g c = λ now kept items before. before_first c.args.shape.now c.args.late.now.queue c.args.tid c.args.offset c.args.log.now now c.requires.kept kept items before

pub returns-in_err-write_back_for-clause-does : goal.returns-in_err-write_back_for-clause-does
returns-in_err-write_back_for-clause-does g c =
    let shape = c.args.shape.now in
    let log = c.args.log.now in
    let t = c.args.tid in
    let group = 1 * 2 ^ t % 2 ^ 64 in
    let queue = c.args.late.now.queue in
    let ranges = drop c.args.offset (ranges_in log.entries.items) in
    let some : 0 < length ranges = omega (arith, length-drop c.args.offset (ranges_in log.entries.items), length-ranges_in log.entries.items, c.requires.offset, c.len.ensures) in
    let p = err_from_is_err_and c.from_residual.result c.from_residual.ensures.1 in
    rw (p.1, p.2) (back_fails g.M.Media.tells shape (due_for group queue.ballots.items) (commit_cost shape queue (t ∷ []) ranges) (joining_cost shape queue group 1 ranges) _ queue c.write_back_for.new.self.queue
    (g.M.Media.view c.args.media.now) (g.M.Media.view c.write_back_for.new.media) _ refl (back_part shape queue group (t ∷ []) ranges (own_bit shape t c.requires.tid ∙ sym (group_of_one t)) some) c.in_err-write_back_for.ensures.back)

-- the bit of the number, as it is computed
own_in : (shape : Shape) (t : ℕ) → t < shape.numbers → has (1 * 2 ^ t % 2 ^ 64) t ≡ true
own_in shape t small = ap (λ (k : ℕ). has k t) (own_bit shape t small) ∙ has_own t

pub set_aside-requires-clause-apart : goal.set_aside-requires-clause-apart
set_aside-requires-clause-apart g c = c.in_ok-write_back_for.ensures.apart c.args.tid (own_in c.args.shape.now c.args.tid c.requires.tid)

pub set_aside-requires-clause-none : goal.set_aside-requires-clause-none
set_aside-requires-clause-none g c = c.in_ok-write_back_for.ensures.tied.none c.args.tid c.requires.tid refl (free_lacks c.write_back_for.new.self.queue.ballots.items c.args.tid (c.in_ok-write_back_for.ensures.apart c.args.tid (own_in c.args.shape.now c.args.tid c.requires.tid)))

pub commit_cells-requires-clause-group : goal.commit_cells-requires-clause-group
commit_cells-requires-clause-group g c = own_small c.args.shape.now c.args.tid c.requires.tid

pub commit_cells-requires-clause-tied : goal.commit_cells-requires-clause-tied
commit_cells-requires-clause-tied g c =
    let shape = c.args.shape.now in
    let mid = c.write_back_for.new.self in
    let named = c.set_aside.new.late in
    alone_aside shape named.queue.cells (entries_of named.parts) named.queue.ballots.items mid.queue.depth named.queue.depth c.args.tid (1 * 2 ^ c.args.tid % 2 ^ 64) c.set_aside.ensures.depth (own_bit shape c.args.tid c.requires.tid)
    (c.set_aside.ensures.tied (λ t. false) (none_aside shape mid.queue.cells (entries_of mid.parts) mid.queue.ballots.items mid.queue.depth c.in_ok-write_back_for.ensures.tied))

pub commit_cells-requires-clause-entries : goal.commit_cells-requires-clause-entries
commit_cells-requires-clause-entries g c = λ may.
    let named = c.set_aside.new.late in
    subst (λ (k : ℕ). HaveEntries c.args.shape.now k named.queue.cells (entries_of named.parts)) (sym (own_bit c.args.shape.now c.args.tid c.requires.tid))
    (alone_entries c.args.shape.now c.args.tid c.requires.tid c.args.log.now c.requires.kept c.args.offset named.queue.cells c.set_aside.ensures.here (entries_of named.parts) (c.set_aside.ensures.entries (omega (arith, may, c.set_aside.ensures.depth))))

pub commit_cells-requires-clause-apart : goal.commit_cells-requires-clause-apart
commit_cells-requires-clause-apart g c = λ t so. subst (λ (bs : List Ballot). IsFree t bs) (λ i. (sym c.set_aside.ensures.ballots i).items) (c.in_ok-write_back_for.ensures.apart t so)

pub commit_cells-requires-clause-waiting : goal.commit_cells-requires-clause-waiting
commit_cells-requires-clause-waiting g c = λ told. c.set_aside.ensures.waiting (g.M.Media.view c.write_back_for.new.media).content (c.in_ok-write_back_for.ensures.back.waiting told)

-- the cells that are named for the number
module _ (shape : Shape) (t : ℕ) (small : t < shape.numbers) (log : Log) (kept : IsKept shape log) (offset : ℕ) (more : offset < length log.entries.items) (cells : List Cells)
    (here : (h : ℕ) → h < shape.loggers → cells_in cells h t ≡ record { first = length (cells_on shape h (take offset log.entries.items)); count = slice_index log.held h - length (cells_on shape h (take offset log.entries.items)) }) where
  its_fits : HaveCells shape (1 * 2 ^ t % 2 ^ 64) cells
  its_fits = subst (λ (k : ℕ). HaveCells shape k cells) (sym (own_bit shape t small)) (alone_fits shape t small log kept offset cells here)

  its_count : group_count shape (1 * 2 ^ t % 2 ^ 64) cells ≡ length (drop offset (ranges_in log.entries.items))
  its_count = ap (λ (k : ℕ). group_count shape k cells) (own_bit shape t small) ∙ alone_count shape t small log kept offset cells here

  its_some : 0 < group_count shape (1 * 2 ^ t % 2 ^ 64) cells
  its_some = omega (arith, its_count, length-drop offset (ranges_in log.entries.items), length-ranges_in log.entries.items, more)

pub commit_cells-requires-clause-there : goal.commit_cells-requires-clause-there
commit_cells-requires-clause-there g c = its_fits c.args.shape.now c.args.tid c.requires.tid c.args.log.now c.requires.kept c.args.offset (omega (arith, c.requires.offset, c.len.ensures)) c.set_aside.new.late.queue.cells c.set_aside.ensures.here

pub commit_cells-requires-clause-good : goal.commit_cells-requires-clause-good
commit_cells-requires-clause-good g c = λ told.
    let image = (g.M.Media.view c.write_back_for.new.media).content.bytes in
    subst (λ (k : ℕ). HaveParts c.args.shape.now image k c.set_aside.new.late.queue.cells) (sym (own_bit c.args.shape.now c.args.tid c.requires.tid))
    (alone_good c.args.shape.now c.args.tid c.requires.tid c.args.log.now c.requires.kept c.args.offset c.set_aside.new.late.queue.cells c.set_aside.ensures.here image (held_same c.args.shape.now (g.M.Media.view c.args.media.now).content.bytes (g.M.Media.view c.write_back_for.new.media).content.bytes c.args.tid c.args.log.now c.requires.tid c.requires.kept (c.in_ok-write_back_for.ensures.back.cells told) (c.requires.held told)))

pub commit_cells-requires-clause-some : goal.commit_cells-requires-clause-some
commit_cells-requires-clause-some g c = its_some c.args.shape.now c.args.tid c.requires.tid c.args.log.now c.requires.kept c.args.offset (omega (arith, c.requires.offset, c.len.ensures)) c.set_aside.new.late.queue.cells c.set_aside.ensures.here

module _ (g : Over) (c : goal.After-commit_cells g) where
  -- what is named for the commit is what the log has from the offset on
  written : IsTrue g.M.Media.tells → (let shape = c.args.shape.now in let old = g.M.Media.view c.args.media.now in let before = data_with shape c.args.late.now.queue old.content.bytes in
      applied (parts_named shape old.content.bytes c.commit_cells.ensures.does.ballot c.set_aside.new.late.queue.cells) before ≡ applied (drop c.args.offset (parts_in shape old.content.bytes c.args.tid c.args.log.now.entries.items)) before)
  written told =
      let shape = c.args.shape.now in
      let old = g.M.Media.view c.args.media.now in
      let its = c.commit_cells.ensures.does in
      let cells = c.set_aside.new.late.queue.cells in
      let before = data_with shape c.args.late.now.queue old.content.bytes in
      ap (λ (ps : List Part). applied ps before) (named_same shape (1 * 2 ^ c.args.tid % 2 ^ 64) cells its.ballot its.group_is its.mask_is old.content.bytes)
      ∙ ap (λ (k : ℕ). applied (group_parts shape old.content.bytes k cells) before) (own_bit shape c.args.tid c.requires.tid)
      ∙ alone_applied shape c.args.tid c.requires.tid c.args.log.now c.requires.kept c.args.offset cells c.set_aside.ensures.here old.content.bytes before (c.requires.held told) (g.met.M.Media.long c.args.media.now told ∙ c.requires.size) (length-waiting shape c.args.late.now.queue old.content (c.requires.waiting told))

  beside : (h t : ℕ) → h < 8 → has (1 * 2 ^ c.args.tid % 2 ^ 64) t ≡ false → cells_in c.set_aside.new.late.queue.cells h t ≡ cells_in c.write_back_for.new.self.queue.cells h t
  beside h t lt off = c.set_aside.ensures.others h t lt (λ is. false≢true (sym off ∙ ap (λ (k : ℕ). has k t) (own_bit c.args.shape.now c.args.tid c.requires.tid) ∙ ap (has (2 ^ c.args.tid)) is ∙ has_own c.args.tid))

pub returns-clause-does : goal.returns-clause-does
returns-clause-does g c =
    let shape = c.args.shape.now in
    let t = c.args.tid in
    let group = 1 * 2 ^ t % 2 ^ 64 in
    let old = g.M.Media.view c.args.media.now in
    let mid = g.M.Media.view c.write_back_for.new.media in
    let queue = c.args.late.now.queue in
    let back = c.write_back_for.new.self.queue in
    let named = c.set_aside.new.late.queue in
    let gone = c.in_ok-write_back_for.ensures.back in
    let its = c.commit_cells.ensures.does in
    let is = own_bit shape t c.requires.tid in
    let there = are_there shape group named.cells its.ballot its.group_is its.mask_is (own_small shape t c.requires.tid) (its_fits c.args.shape.now c.args.tid c.requires.tid c.args.log.now c.requires.kept c.args.offset (omega (arith, c.requires.offset, c.len.ensures)) c.set_aside.new.late.queue.cells c.set_aside.ensures.here) in
    let rows = ap (λ (k : ℕ). group_rows shape k named.cells) is ∙ alone_rows shape t c.requires.tid c.args.log.now c.requires.kept c.args.offset named.cells c.set_aside.ensures.here in
    let cost = whole_cost shape group queue back named its.ballot gone.left gone.table gone.depth c.set_aside.ensures.ballots c.set_aside.ensures.depth c.in_ok-write_back_for.ensures.apart
    (λ h u lt lt' off. beside g c h u (omega (arith, lt, shape.in_range.most_loggers)) off) its.group_is its.mask_is (its_some c.args.shape.now c.args.tid c.requires.tid c.args.log.now c.requires.kept c.args.offset (omega (arith, c.requires.offset, c.len.ensures)) c.set_aside.new.late.queue.cells c.set_aside.ensures.here) (t ∷ []) (drop c.args.offset (ranges_in c.args.log.now.entries.items)) (is ∙ sym (group_of_one t)) rows (its_count c.args.shape.now c.args.tid c.requires.tid c.args.log.now c.requires.kept c.args.offset (omega (arith, c.requires.offset, c.len.ensures)) c.set_aside.new.late.queue.cells c.set_aside.ensures.here) in
    commits_as g.M.Media.tells shape _ _ _ _ queue old c.commit_cells.new.late.queue (g.M.Media.view c.commit_cells.new.media) c.commit_cells.result (written g c) cost
    (commits_after g.M.Media.tells shape its.ballot (due_for group queue.ballots.items) queue back named old mid there c.set_aside.ensures.same c.set_aside.ensures.depth c.commit_cells.new.late.queue (g.M.Media.view c.commit_cells.new.media) c.commit_cells.result gone its.does)

pub returns-clause-stays : goal.returns-clause-stays
returns-clause-stays g c =
    let stays = c.commit_cells.ensures.stays in
    record {
      ready = stays.ready;
      held = λ told before. stays.held told (c.set_aside.ensures.held (g.M.Media.view c.write_back_for.new.media).content.bytes (held_same c.args.shape.now (g.M.Media.view c.args.media.now).content.bytes (g.M.Media.view c.write_back_for.new.media).content.bytes c.args.tid c.args.log.now c.requires.tid c.requires.kept (c.in_ok-write_back_for.ensures.back.cells told) (c.requires.held told)) (c.in_ok-write_back_for.ensures.stays.held told before));
    }

pub returns-clause-before : goal.returns-clause-before
returns-clause-before g c =
    let shape = c.args.shape.now in
    let does = c.commit_cells.ensures.does.does in
    on_ok_weaker c.commit_cells.result
    (λ left now kept items before so h lt.
    omega (arith, length-cells_on_kept shape now h kept lt, ap (λ (es : List Entry). length (cells_on shape h es)) items, ap (λ (l : List Cells). (cells_in l h c.args.tid).first) does.table, ap (λ (x : Cells). x.first) (c.set_aside.ensures.here h lt))) does.left_is

pub returns-clause-others : goal.returns-clause-others
returns-clause-others g c =
    let shape = c.args.shape.now in
    let t = c.args.tid in
    let group = 1 * 2 ^ t % 2 ^ 64 in
    let gone = c.in_ok-write_back_for.ensures.back in
    let its = c.commit_cells.ensures.does in
    on_ok_weaker c.commit_cells.result
    (λ left u log ne. kept_before shape group (due_for group c.args.late.now.queue.ballots.items) c.args.late.now.queue c.write_back_for.new.self.queue c.set_aside.new.late.queue c.commit_cells.new.late.queue its.ballot its.group_is gone.left gone.table
    c.set_aside.ensures.ballots its.does.table left u log (ap (λ (k : ℕ). has k u) (own_bit shape t c.requires.tid) ∙ has_other t u ne) (λ h lt. c.set_aside.ensures.others h u lt ne)) its.does.left_is

pub returns-then-offset-len-clause-waits : goal.returns-then-offset-len-clause-waits
returns-then-offset-len-clause-waits g c = λ may more. absurd (omega (arith, more, c.len.ensures))

pub returns-clause-waits : goal.returns-clause-waits
returns-clause-waits g c = λ may more. c.commit_cells.ensures.waits (omega (arith, may, c.in_ok-write_back_for.ensures.back.depth, c.set_aside.ensures.depth))
