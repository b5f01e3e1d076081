use Rattle.std.proofs.Common.{◌≡◌, ◌-◌, ℕ, ◌&&◌, ◌||◌, nat_eq, List, length, take, drop, sym, ◌∙◌, ap, subst, arith}
use Rattle.std.specs.Prelude.{All, nat_lt}
use Rattle.std.proofs.lemmas.List.{length-drop, take_all}
use Rattle.std.proofs.lemmas.List.Elements.{All-drop}
use Rattle.array_shape.specs.Logged.{ranges_of}
use Rattle.write_back.specs.declared.entry.Entry.{Entry}
use Rattle.write_back.specs.Entries.{AreHeld, IsEntry, ranges_in, parts_in}
use Rattle.write_back.specs.declared.deferred.DeferredParts.{DeferredParts}
use Rattle.write_back.specs.Shown.{entries_of}
use Rattle.write_back.specs.declared.queue.LateCommits.{LateCommits}
use Rattle.write_back.specs.Waiting.{AreWaiting}
use Rattle.write_back.specs.Tied.{AreTied, IsTied}
use Rattle.eaw_device.proofs.Keeping.{length-cells_on_kept}
use Rattle.eaw_device.proofs.Entries.{few_entries}
use Rattle.eaw_device.proofs.LogParts.{heads_left, kept_entries}
use Rattle.eaw_device.proofs.committing.set_aside.Goals as goal

-- the entries from the offset on, as they are lent
rest : (items lent : List Entry) (offset : ℕ) → lent ≡ items → take (length lent - offset) (drop offset lent) ≡ drop offset items
rest items lent offset is = take_all (length lent - offset) (drop offset lent) (omega (arith, length-drop offset lent)) ∙ ap (drop offset) is

pub keep-requires-clause-entries : goal.keep-requires-clause-entries
keep-requires-clause-entries c =
    let log = c.args.log.now in
    subst (All (IsEntry c.args.shape.now)) (sym (rest log.entries.items c.deref.result.now c.args.offset c.deref.ensures.value)) (All-drop (IsEntry c.args.shape.now) c.args.offset log.entries.items (kept_entries c.args.shape.now log c.requires.kept))

pub keep-requires-clause-few : goal.keep-requires-clause-few
keep-requires-clause-few c =
    let log = c.args.log.now in
    let shape = c.args.shape.now in
    let kept = c.requires.kept in
    let few = few_entries shape log.entries.items shape.in_range (λ g lt. omega (arith, length-cells_on_kept shape log g kept lt, kept.fits g lt)) in
    omega (arith, few, ap length (rest log.entries.items c.deref.result.now c.args.offset c.deref.ensures.value), length-drop c.args.offset log.entries.items)

pub returns-clause-tied : goal.returns-clause-tied
returns-clause-tied c aside tied =
    let shape = c.args.shape.now in
    let new = c.keep.new.self in
    let depth = c.name_cells.ensures.depth in
    subst (λ (d : ℕ). AreTied shape new.queue.cells (entries_of new.parts) new.queue.ballots.items (λ t. nat_lt 0 d && (nat_eq t c.args.tid || aside t))) depth
    (c.keep.ensures.tied aside (subst (λ (d : ℕ). IsTied shape c.name_cells.new.late (λ t. nat_lt 0 d && aside t)) (sym depth) (c.name_cells.ensures.tied (λ t. nat_lt 0 c.args.late.now.queue.depth && aside t) tied)))

pub returns-clause-waiting : goal.returns-clause-waiting
returns-clause-waiting c now waiting = subst (λ (queue : LateCommits). AreWaiting c.args.shape.now queue now) (sym c.keep.ensures.queue) (c.name_cells.ensures.waiting now waiting)

pub returns-clause-held : goal.returns-clause-held
returns-clause-held c image held before =
    let log = c.args.log.now in
    let shape = c.args.shape.now in
    c.keep.ensures.held image
    (subst (λ (es : List Entry). ranges_of (parts_in shape image c.args.tid es) ≡ ranges_in es) (sym (rest log.entries.items c.deref.result.now c.args.offset c.deref.ensures.value)) (heads_left shape image c.args.tid c.args.offset log.entries.items held.heads))
    (subst (λ (parts : DeferredParts). AreHeld shape image (entries_of parts)) (sym c.name_cells.ensures.parts) before)
