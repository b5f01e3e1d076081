use Rattle.std.proofs.Common.{◌≡◌, ℕ, ◌<◌, true, false, ◌&&◌, nat_lt, List, [], ◌≤◌, length, Result, Ok, Err, refl, sym, ◌∙◌, ap, subst, arith}
use Rattle.std.specs.Prelude.{IsTrue, OnErr, flat_map, slice_get}
use Rattle.std.specs.Option.{ForSome}
use Rattle.std.proofs.lemmas.Bool.{lt-ltb}
use Rattle.std.proofs.lemmas.Option.{slice_get_within}
use Rattle.std.proofs.lemmas.Result.{err_from_is_err_and, on_ok_weaker}
use Rattle.array_shape.specs.declared.shape.Shape.{Shape}
use Rattle.array_shape.specs.Logged.{Part, applied}
use Rattle.array_shape.specs.declared.number_set.NumberSet.{NumberSet}
use Rattle.array_shape.specs.NumberSet.{has, members}
use Rattle.array_shape.proofs.Sets.{none_has, small_from_bits}
use Rattle.array_image.specs.Standing.{SameCells}
use Rattle.coordinator.specs.declared.cells.Cells.{Cells}
use Rattle.coordinator.specs.Commits.{cells_in, parts_named}
use Rattle.write_back.specs.Shown.{entries_of}
use Rattle.eaw_face.specs.State.{listed, group_log, count_on}
use Rattle.write_back.specs.Orders.{IsFree, due_for}
use Rattle.write_back.specs.Waiting.{data_with}
use Rattle.write_back.proofs.Composing.{back_fails, commits_after, commits_as, commits_none}
use Rattle.row_bytes.specs.declared.ballot.Ballot.{Ballot}
use Rattle.eaw_device.specs.Costs.{commit_cost, group_of, joining_cost, with_entries}
use Rattle.eaw_device.specs.Groups.{HaveCells, group_count}
use Rattle.eaw_device.specs.Laws.{length-waiting}
use Rattle.eaw_device.specs.declared.log.Log.{Log}
use Rattle.eaw_device.specs.Logs.{IsHeld, IsKept, ranges_logged, parts_logged}
use Rattle.eaw_device.proofs.Aside.{aside_as, kept_before}
use Rattle.eaw_device.proofs.Gathering.{gathered_fit, gathered_good, logs_applied, none, past_ranges}
use Rattle.eaw_device.proofs.GroupBits.{group_of_logged, not_in_group}
use Rattle.eaw_device.proofs.Grouping.{are_there, named_same}
use Rattle.eaw_device.proofs.JoiningCost.{back_part, no_cost, whole_cost}
use Rattle.eaw_device.proofs.Members.{gathered_count, gathered_nothing, gathered_rows, some_gathered}
use Rattle.eaw_device.proofs.Tables.{held_same}
use Rattle.eaw_device.proofs.committing.commit_logs.Given.{Over}
use Rattle.eaw_device.proofs.committing.commit_logs.Goals as goal

always : {T E P : Type 0} (r : Result T E) → P → OnErr r P
always (Ok x) p = tt
always (Err e) p = p

-- the group, as its numbers were found
module _ (shape : Shape) (logs : List Log) (many : length logs ≡ shape.numbers) (kept : (t : ℕ) → ForSome (slice_get logs t) (IsKept shape)) (tids : NumberSet) (group : ℕ)
    (numbers : (t : ℕ) → t < shape.numbers → has group t ≡ (has tids.bits t && nat_lt 0 (length (listed (ranges_logged logs t))))) (beyond : (t : ℕ) → shape.numbers ≤ t → has group t ≡ false) where
  past : (t : ℕ) → shape.numbers ≤ t → listed (ranges_logged logs t) ≡ []
  past = past_ranges shape logs many kept

  its_group : group ≡ group_of (with_entries (ranges_logged logs) (members tids))
  its_group = group_of_logged shape tids.bits group (ranges_logged logs) numbers beyond past

  some : (group ≡ 0 → ⊥) → 0 < length (group_log (ranges_logged logs) (members tids))
  some = some_gathered shape tids.bits group (λ t. listed (ranges_logged logs t)) numbers past beyond

  nothing : {A : Type 0} (f : ℕ → List A) → ((u : ℕ) → listed (ranges_logged logs u) ≡ [] → f u ≡ []) → group ≡ 0 → flat_map f (members tids) ≡ []
  nothing f empty zero_is = gathered_nothing shape tids.bits group (λ t. listed (ranges_logged logs t)) numbers past f empty (λ u. ap (λ (k : ℕ). has k u) zero_is ∙ none_has u)

  -- the cells that are named for it
  module _ (cells : List Cells) (first : (h t : ℕ) → h < shape.loggers → t < shape.numbers → has group t ≡ true → (cells_in cells h t).first ≡ 0)
      (count : (h t : ℕ) → h < shape.loggers → t < shape.numbers → has group t ≡ true → (cells_in cells h t).count ≡ count_on shape h (listed (ranges_logged logs t))) where
    its_fits : HaveCells shape group cells
    its_fits = gathered_fit shape logs many kept tids.bits group cells numbers first count

    its_count : group_count shape group cells ≡ length (group_log (ranges_logged logs) (members tids))
    its_count = gathered_count shape tids.bits group (λ t. listed (ranges_logged logs t)) numbers past cells count

    its_some : (group ≡ 0 → ⊥) → 0 < group_count shape group cells
    its_some ne = omega (arith, its_count, some ne)

pub returns-then-group-eq0-clause-does : goal.returns-then-group-eq0-clause-does
returns-then-group-eq0-clause-does g c =
    let shape = c.args.shape.now in
    let logs = c.args.logs.now in
    let queue = c.args.late.now.queue in
    let zero_is : c.logged-group.result.bits ≡ 0 = omega arith in
    commits_none g.M.Media.tells shape _ _ queue (g.M.Media.view c.args.media.now) c.requires.ready.fit c.requires.waiting
    (λ told. let image = (g.M.Media.view c.args.media.now).content.bytes in nothing c.args.shape.now c.args.logs.now c.requires.many c.requires.kept c.args.tids c.logged-group.result.bits c.logged-group.ensures.numbers c.logged-group.ensures.beyond (λ t. listed (parts_logged shape image logs t)) (none shape logs c.requires.many c.requires.kept image) zero_is)
    (no_cost shape queue (with_entries (ranges_logged logs) (members c.args.tids)) (group_log (ranges_logged logs) (members c.args.tids)) (ap length (nothing c.args.shape.now c.args.logs.now c.requires.many c.requires.kept c.args.tids c.logged-group.result.bits c.logged-group.ensures.numbers c.logged-group.ensures.beyond (λ t. listed (ranges_logged logs t)) (λ u empty. empty) zero_is)))

pub returns-in_err-write_back_for-clause-does : goal.returns-in_err-write_back_for-clause-does
returns-in_err-write_back_for-clause-does g c =
    let shape = c.args.shape.now in
    let logs = c.args.logs.now in
    let group = c.logged-group.result.bits in
    let queue = c.args.late.now.queue in
    let ts = with_entries (ranges_logged logs) (members c.args.tids) in
    let ranges = group_log (ranges_logged logs) (members c.args.tids) in
    let p = err_from_is_err_and c.from_residual.result c.from_residual.ensures.1 in
    rw (p.1, p.2) (back_fails g.M.Media.tells shape (due_for group queue.ballots.items) (commit_cost shape queue ts ranges) (joining_cost shape queue group (length ts) ranges) _ queue c.write_back_for.new.self.queue
    (g.M.Media.view c.args.media.now) (g.M.Media.view c.write_back_for.new.media) _ refl (back_part shape queue group ts ranges (its_group c.args.shape.now c.args.logs.now c.requires.many c.requires.kept c.args.tids c.logged-group.result.bits c.logged-group.ensures.numbers c.logged-group.ensures.beyond) (some c.args.shape.now c.args.logs.now c.requires.many c.requires.kept c.args.tids c.logged-group.result.bits c.logged-group.ensures.numbers c.logged-group.ensures.beyond (λ zero_is. absurd (omega (arith, zero_is))))) c.in_err-write_back_for.ensures.back)

pub returns-in_err-write_back_for-clause-due : goal.returns-in_err-write_back_for-clause-due
returns-in_err-write_back_for-clause-due g c = always c.from_residual.result (some c.args.shape.now c.args.logs.now c.requires.many c.requires.kept c.args.tids c.logged-group.result.bits c.logged-group.ensures.numbers c.logged-group.ensures.beyond (λ zero_is. absurd (omega (arith, zero_is))))

pub returns-in_err-write_back_for-clause-idle : goal.returns-in_err-write_back_for-clause-idle
returns-in_err-write_back_for-clause-idle g c = λ empty. absurd (omega (arith, empty, some c.args.shape.now c.args.logs.now c.requires.many c.requires.kept c.args.tids c.logged-group.result.bits c.logged-group.ensures.numbers c.logged-group.ensures.beyond (λ zero_is. absurd (omega (arith, zero_is)))))

-- the logs are held still
mid_held : (shape : Shape) (logs : List Log) → length logs ≡ shape.numbers → ((t : ℕ) → ForSome (slice_get logs t) (IsKept shape)) → (old mid : List ℕ) → SameCells shape old mid → ((t : ℕ) → ForSome (slice_get logs t) (IsHeld shape old t)) → (t : ℕ) → ForSome (slice_get logs t) (IsHeld shape mid t)
mid_held shape logs many kept old mid cells held t log got = held_same shape old mid t log (omega (arith, slice_get_within logs t log got, many)) (kept t log got) cells (held t log got)

pub commit_cells-requires-clause-group : goal.commit_cells-requires-clause-group
commit_cells-requires-clause-group g c = small_from_bits c.args.shape.now.numbers c.logged-group.result.bits c.logged-group.ensures.beyond

pub commit_cells-requires-clause-tied : goal.commit_cells-requires-clause-tied
commit_cells-requires-clause-tied g c =
    let named = c.set_group_aside.new.late in
    let group = c.logged-group.result.bits in
    let numbers = c.args.shape.now.numbers in
    aside_as c.args.shape.now named.queue.cells (entries_of named.parts) named.queue.ballots.items (λ t. nat_lt 0 c.write_back_for.new.self.queue.depth && (nat_lt t numbers && has group t)) (λ t. nat_lt 0 named.queue.depth && has group t)
    (λ t lt. (λ i. nat_lt 0 (sym c.set_group_aside.ensures.depth i) && (lt-ltb t numbers lt i && has group t))) c.set_group_aside.ensures.tied

pub commit_cells-requires-clause-entries : goal.commit_cells-requires-clause-entries
commit_cells-requires-clause-entries g c = λ may. c.set_group_aside.ensures.entries (omega (arith, may, c.set_group_aside.ensures.depth))

pub commit_cells-requires-clause-apart : goal.commit_cells-requires-clause-apart
commit_cells-requires-clause-apart g c = λ t so. subst (λ (bs : List Ballot). IsFree t bs) (λ i. (sym c.set_group_aside.ensures.ballots i).items) (c.in_ok-write_back_for.ensures.apart t so)

pub commit_cells-requires-clause-waiting : goal.commit_cells-requires-clause-waiting
commit_cells-requires-clause-waiting g c = λ told. c.set_group_aside.ensures.waiting (g.M.Media.view c.write_back_for.new.media).content (c.in_ok-write_back_for.ensures.back.waiting told)

pub commit_cells-requires-clause-there : goal.commit_cells-requires-clause-there
commit_cells-requires-clause-there g c = its_fits c.args.shape.now c.args.logs.now c.requires.many c.requires.kept c.args.tids c.logged-group.result.bits c.logged-group.ensures.numbers c.logged-group.ensures.beyond c.set_group_aside.new.late.queue.cells c.set_group_aside.ensures.first c.set_group_aside.ensures.count

pub commit_cells-requires-clause-good : goal.commit_cells-requires-clause-good
commit_cells-requires-clause-good g c = λ told.
    gathered_good c.args.shape.now c.args.logs.now c.requires.many c.requires.kept c.args.tids.bits c.logged-group.result.bits c.set_group_aside.new.late.queue.cells c.logged-group.ensures.numbers c.set_group_aside.ensures.first c.set_group_aside.ensures.count
    (g.M.Media.view c.write_back_for.new.media).content.bytes (mid_held c.args.shape.now c.args.logs.now c.requires.many c.requires.kept (g.M.Media.view c.args.media.now).content.bytes (g.M.Media.view c.write_back_for.new.media).content.bytes (c.in_ok-write_back_for.ensures.back.cells told) (c.requires.held told))

pub commit_cells-requires-clause-some : goal.commit_cells-requires-clause-some
commit_cells-requires-clause-some g c = its_some c.args.shape.now c.args.logs.now c.requires.many c.requires.kept c.args.tids c.logged-group.result.bits c.logged-group.ensures.numbers c.logged-group.ensures.beyond c.set_group_aside.new.late.queue.cells c.set_group_aside.ensures.first c.set_group_aside.ensures.count (λ zero_is. absurd (omega (arith, zero_is)))

-- what is named for the commit is what the numbers have logged
written : (g : Over) (c : goal.After-commit_cells g) → IsTrue g.M.Media.tells → (let shape = c.args.shape.now in let old = g.M.Media.view c.args.media.now in let before = data_with shape c.args.late.now.queue old.content.bytes in
    applied (parts_named shape old.content.bytes c.commit_cells.ensures.does.ballot c.set_group_aside.new.late.queue.cells) before ≡ applied (group_log (parts_logged shape old.content.bytes c.args.logs.now) (members c.args.tids)) before)
written g c told =
    let shape = c.args.shape.now in
    let old = g.M.Media.view c.args.media.now in
    let its = c.commit_cells.ensures.does in
    let before = data_with shape c.args.late.now.queue old.content.bytes in
    ap (λ (ps : List Part). applied ps before) (named_same shape c.logged-group.result.bits c.set_group_aside.new.late.queue.cells its.ballot its.group_is its.mask_is old.content.bytes)
    ∙ logs_applied shape c.args.logs.now c.requires.many c.requires.kept c.args.tids.bits c.logged-group.result.bits c.set_group_aside.new.late.queue.cells c.logged-group.ensures.numbers c.set_group_aside.ensures.first c.set_group_aside.ensures.count
    old.content.bytes (c.requires.held told) before (g.met.M.Media.long c.args.media.now told ∙ c.requires.size) (length-waiting shape c.args.late.now.queue old.content (c.requires.waiting told))

pub returns-clause-does : goal.returns-clause-does
returns-clause-does g c =
    let shape = c.args.shape.now in
    let group = c.logged-group.result.bits in
    let logs = c.args.logs.now in
    let old = g.M.Media.view c.args.media.now in
    let mid = g.M.Media.view c.write_back_for.new.media in
    let queue = c.args.late.now.queue in
    let back = c.write_back_for.new.self.queue in
    let named = c.set_group_aside.new.late.queue in
    let gone = c.in_ok-write_back_for.ensures.back in
    let its = c.commit_cells.ensures.does in
    let there = are_there shape group named.cells its.ballot its.group_is its.mask_is (small_from_bits shape.numbers group c.logged-group.ensures.beyond) (its_fits c.args.shape.now c.args.logs.now c.requires.many c.requires.kept c.args.tids c.logged-group.result.bits c.logged-group.ensures.numbers c.logged-group.ensures.beyond c.set_group_aside.new.late.queue.cells c.set_group_aside.ensures.first c.set_group_aside.ensures.count) in
    let rows = gathered_rows shape c.args.tids.bits group (λ t. listed (ranges_logged logs t)) c.logged-group.ensures.numbers (past_ranges shape logs c.requires.many c.requires.kept) named.cells c.set_group_aside.ensures.count in
    let cost = whole_cost shape group queue back named its.ballot gone.left gone.table gone.depth c.set_group_aside.ensures.ballots c.set_group_aside.ensures.depth c.in_ok-write_back_for.ensures.apart
    (λ h u lt lt' off. c.set_group_aside.ensures.others h u (omega (arith, lt, shape.in_range.most_loggers)) off) its.group_is its.mask_is (its_some c.args.shape.now c.args.logs.now c.requires.many c.requires.kept c.args.tids c.logged-group.result.bits c.logged-group.ensures.numbers c.logged-group.ensures.beyond c.set_group_aside.new.late.queue.cells c.set_group_aside.ensures.first c.set_group_aside.ensures.count (λ zero_is. absurd (omega (arith, zero_is)))) (with_entries (ranges_logged logs) (members c.args.tids)) (group_log (ranges_logged logs) (members c.args.tids)) (its_group c.args.shape.now c.args.logs.now c.requires.many c.requires.kept c.args.tids c.logged-group.result.bits c.logged-group.ensures.numbers c.logged-group.ensures.beyond) rows (its_count c.args.shape.now c.args.logs.now c.requires.many c.requires.kept c.args.tids c.logged-group.result.bits c.logged-group.ensures.numbers c.logged-group.ensures.beyond c.set_group_aside.new.late.queue.cells c.set_group_aside.ensures.first c.set_group_aside.ensures.count) in
    commits_as g.M.Media.tells shape _ _ _ _ queue old c.commit_cells.new.late.queue (g.M.Media.view c.commit_cells.new.media) c.commit_cells.result (written g c) cost
    (commits_after g.M.Media.tells shape its.ballot (due_for group queue.ballots.items) queue back named old mid there c.set_group_aside.ensures.same c.set_group_aside.ensures.depth c.commit_cells.new.late.queue (g.M.Media.view c.commit_cells.new.media) c.commit_cells.result gone its.does)

pub returns-clause-stays : goal.returns-clause-stays
returns-clause-stays g c =
    let stays = c.commit_cells.ensures.stays in
    record {
      ready = stays.ready;
      held = λ told before. stays.held told (c.set_group_aside.ensures.held (g.M.Media.view c.write_back_for.new.media).content.bytes (mid_held c.args.shape.now c.args.logs.now c.requires.many c.requires.kept (g.M.Media.view c.args.media.now).content.bytes (g.M.Media.view c.write_back_for.new.media).content.bytes (c.in_ok-write_back_for.ensures.back.cells told) (c.requires.held told)) (c.in_ok-write_back_for.ensures.stays.held told before));
    }

pub returns-clause-others : goal.returns-clause-others
returns-clause-others g c =
    let shape = c.args.shape.now in
    let group = c.logged-group.result.bits in
    let logs = c.args.logs.now in
    let gone = c.in_ok-write_back_for.ensures.back in
    let its = c.commit_cells.ensures.does in
    on_ok_weaker c.commit_cells.result
    (λ left u log out.
    let off = not_in_group shape c.args.tids.bits group (ranges_logged c.args.logs.now) c.logged-group.ensures.numbers c.logged-group.ensures.beyond (past_ranges shape logs c.requires.many c.requires.kept) u out in
    kept_before shape group (due_for group c.args.late.now.queue.ballots.items) c.args.late.now.queue c.write_back_for.new.self.queue c.set_group_aside.new.late.queue c.commit_cells.new.late.queue its.ballot its.group_is gone.left gone.table
    c.set_group_aside.ensures.ballots its.does.table left u log off (λ h lt. c.set_group_aside.ensures.others h u lt off)) its.does.left_is

pub returns-clause-due : goal.returns-clause-due
returns-clause-due g c = always c.commit_cells.result (some c.args.shape.now c.args.logs.now c.requires.many c.requires.kept c.args.tids c.logged-group.result.bits c.logged-group.ensures.numbers c.logged-group.ensures.beyond (λ zero_is. absurd (omega (arith, zero_is))))

pub returns-clause-idle : goal.returns-clause-idle
returns-clause-idle g c = λ empty. absurd (omega (arith, empty, some c.args.shape.now c.args.logs.now c.requires.many c.requires.kept c.args.tids c.logged-group.result.bits c.logged-group.ensures.numbers c.logged-group.ensures.beyond (λ zero_is. absurd (omega (arith, zero_is)))))

pub returns-then-group-eq0-clause-waits : goal.returns-then-group-eq0-clause-waits
returns-then-group-eq0-clause-waits g c = λ may more.
    let logs = c.args.logs.now in
    let zero_is : c.logged-group.result.bits ≡ 0 = omega arith in
    let empty = nothing c.args.shape.now logs c.requires.many c.requires.kept c.args.tids c.logged-group.result.bits c.logged-group.ensures.numbers c.logged-group.ensures.beyond (λ t. listed (ranges_logged logs t)) (λ u none. none) zero_is in
    absurd (omega (arith, more, ap (λ (rs : List (ℕ × ℕ)). length rs) empty))

pub returns-clause-waits : goal.returns-clause-waits
returns-clause-waits g c = λ may more. c.commit_cells.ensures.waits (omega (arith, may, c.in_ok-write_back_for.ensures.back.depth, c.set_group_aside.ensures.depth))
