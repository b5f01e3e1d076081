use Rattle.std.proofs.Common.{◌≡◌, ◌<◌, ◌≤◌, ◌-◌, ◌^◌, ℕ, Bool, true, false, List, [], length, min, take, drop, sym, ◌∙◌, ap, subst, refl, arith}
use Rattle.std.specs.Prelude.{All, Err, Ok, Result}
use Rattle.mars_base.specs.declared.Failed.{Failed}
use Rattle.pcm_media.specs.View.{View}
use Rattle.array_shape.specs.declared.shape.Shape.{Shape}
use Rattle.std.proofs.lemmas.List.Elements.{All-drop}
use Rattle.std.proofs.lemmas.Result.{on_ok_weaker}
use Rattle.array_shape.specs.NumberSet.{has}
use Rattle.row_bytes.specs.declared.ballot.Ballot.{Ballot}
use Rattle.coordinator.specs.declared.cells.Cells.{Cells}
use Rattle.coordinator.specs.Commits.{AreGood, AreThere}
use Rattle.coordinator.proofs.Applying.{good_same}
use Rattle.write_back.specs.declared.queue.LateCommits.{LateCommits}
use Rattle.write_back.specs.Orders.{IsFree, due_for_place, last_order}
use Rattle.write_back.specs.Shown.{entries_of}
use Rattle.write_back.specs.Steps.{CommitsOne, WritesBack}
use Rattle.write_back.specs.Tied.{AreTied, Forgets}
use Rattle.write_back.proofs.Adding.{place_fault, placed_and_decided}
use Rattle.write_back.proofs.OneMore.{one_waits}
use Rattle.write_back.proofs.Orders.{place_made}
use Rattle.write_back.proofs.Together.{committed, none_aside, place_few, still_held}
use Rattle.write_back.proofs.Tying.{forgets_none}
use Rattle.write_back.proofs.commits.LateData.commit.Given.{Over}
use Rattle.write_back.proofs.commits.LateData.commit.Goals as goal

-- where none may wait
pub commit_at_once-requires-clause-queued : goal.commit_at_once-requires-clause-queued
commit_at_once-requires-clause-queued g c = record { fit = c.requires.ready.fit; size = c.requires.size; waiting = c.requires.waiting }

pub returns-then-self-eq0-clause-stays : goal.returns-then-self-eq0-clause-stays
returns-then-self-eq0-clause-stays g c =
    let kept = c.args.self.now in
    record {
      ready = c.requires.ready;
      held = λ told. still_held c.args.shape.now kept.parts c.requires.ready.shape_is (entries_of kept.parts) [] (forgets_none c.args.shape.now (entries_of kept.parts))
          (g.M.Media.view c.args.media.now).content.bytes (g.M.Media.view c.commit_at_once.new.media).content.bytes (c.commit_at_once.ensures.cells told);
    }

pub returns-then-self-eq0-clause-tied : goal.returns-then-self-eq0-clause-tied
returns-then-self-eq0-clause-tied g c =
    let kept = c.args.self.now in
    on_ok_weaker c.commit_at_once.result
    (λ left. none_aside c.args.shape.now kept.queue.cells (entries_of kept.parts) kept.queue.ballots.items kept.queue.depth (has c.args.ballot.group) (omega arith) c.requires.tied)
    c.commit_at_once.ensures.left_is

-- where some may
pub write_back_first-requires-clause-count : goal.write_back_first-requires-clause-count
write_back_first-requires-clause-count g c = let queue = c.args.self.now.queue in omega (arith, c.due_for_place-due.ensures, place_few queue.depth queue.ballots.items (omega arith))

-- as many were written back as make place
placed : {r : Result (Unit {0}) Failed} (tells : Bool) (shape : Shape) (n : ℕ) (queue : LateCommits) (old : View) (mid : LateCommits) (now : View) → n ≡ due_for_place queue.depth queue.ballots.items → WritesBack tells shape n queue old mid now r
    → WritesBack tells shape (due_for_place queue.depth queue.ballots.items) queue old mid now r
placed {r} tells shape n queue old mid now is back = subst (λ (k : ℕ). WritesBack tells shape k queue old mid now r) is back

pub returns-in_err-write_back_first-clause-does : goal.returns-in_err-write_back_first-clause-does
returns-in_err-write_back_first-clause-does g c =
    let queue = c.args.self.now.queue in
    let old = g.M.Media.view c.args.media.now in
    let mid = c.write_back_first.new.self.queue in
    let now = g.M.Media.view c.write_back_first.new.media in
    place_fault g.M.Media.tells c.args.shape.now c.args.ballot queue mid (omega arith) c.requires.there old now c.from_residual.result c.from_residual.ensures.0 refl
    (placed g.M.Media.tells c.args.shape.now c.due_for_place-due.result queue old mid now c.due_for_place-due.ensures c.in_err-write_back_first.ensures.back)

pub decide_next-requires-clause-queued : goal.decide_next-requires-clause-queued
decide_next-requires-clause-queued g c =
    let back = c.in_ok-write_back_first.ensures.back in
    record { fit = back.fit; size = back.does.does.size ∙ c.requires.size; waiting = back.waiting }

pub decide_next-requires-clause-there : goal.decide_next-requires-clause-there
decide_next-requires-clause-there g c = subst (λ (cells : List Cells). AreThere c.args.shape.now c.args.ballot cells) (sym c.in_ok-write_back_first.ensures.back.table) c.requires.there

pub decide_next-requires-clause-good : goal.decide_next-requires-clause-good
decide_next-requires-clause-good g c = λ told.
    let back = c.in_ok-write_back_first.ensures.back in
    let mid = (g.M.Media.view c.write_back_first.new.media).content.bytes in
    subst (λ (cells : List Cells). AreGood c.args.shape.now mid c.args.ballot cells) (sym back.table)
    (good_same c.args.shape.now c.args.ballot c.args.self.now.queue.cells c.requires.there (g.M.Media.view c.args.media.now).content.bytes mid (back.cells told) (c.requires.good told))

pub decide_next-requires-clause-apart : goal.decide_next-requires-clause-apart
decide_next-requires-clause-apart g c = λ t so.
    subst (IsFree t) (sym c.in_ok-write_back_first.ensures.back.left)
    (All-drop (λ (b : Ballot). has b.group t ≡ false) c.due_for_place-due.result c.args.self.now.queue.ballots.items (c.requires.apart t so))

-- there is place for one more, and an order number
left_fits : (depth : ℕ) (bs left : List Ballot) (n : ℕ) → 0 < depth → length bs ≤ depth → All (λ (b : Ballot). (0 < b.order) × (b.order < 2 ^ 16)) bs → n ≡ due_for_place depth bs → left ≡ drop n bs → (length left < depth) × (last_order left < 2 ^ 16 - 1)
left_fits depth bs left n may few ordered n_is is =
    subst (λ (l : List Ballot). (length l < depth) × (last_order l < 2 ^ 16 - 1)) (sym (is ∙ ap (λ (k : ℕ). drop k bs) n_is)) (place_made depth may bs few ordered)

pub decide_next-requires-clause-place : goal.decide_next-requires-clause-place
decide_next-requires-clause-place g c =
    let queue = c.args.self.now.queue in
    let back = c.in_ok-write_back_first.ensures.back in
    let fit = c.requires.ready.fit in
    omega (arith, back.depth, (left_fits queue.depth queue.ballots.items c.write_back_first.new.self.queue.ballots.items c.due_for_place-due.result (omega arith) fit.few fit.ordered c.due_for_place-due.ensures back.left).0)

pub decide_next-requires-clause-order : goal.decide_next-requires-clause-order
decide_next-requires-clause-order g c =
    let queue = c.args.self.now.queue in
    let back = c.in_ok-write_back_first.ensures.back in
    let fit = c.requires.ready.fit in
    (left_fits queue.depth queue.ballots.items c.write_back_first.new.self.queue.ballots.items c.due_for_place-due.result (omega arith) fit.few fit.ordered c.due_for_place-due.ensures back.left).1

module _ (g : Over) (c : goal.After-decide_next g) where
  does : CommitsOne g.M.Media.tells c.args.shape.now c.args.ballot c.args.self.now.queue (g.M.Media.view c.args.media.now) c.decide_next.new.self (g.M.Media.view c.decide_next.new.media) c.decide_next.result
  does =
      let queue = c.args.self.now.queue in
      let old = g.M.Media.view c.args.media.now in
      let mid = c.write_back_first.new.self.queue in
      let now = g.M.Media.view c.write_back_first.new.media in
      placed_and_decided g.M.Media.tells c.args.shape.now c.args.ballot queue mid (omega arith) c.requires.there old now c.decide_next.new.self (g.M.Media.view c.decide_next.new.media) c.decide_next.result
      (placed g.M.Media.tells c.args.shape.now c.due_for_place-due.result queue old mid now c.due_for_place-due.ensures c.in_ok-write_back_first.ensures.back) c.decide_next.ensures

pub returns-clause-does : goal.returns-clause-does
returns-clause-does g c = does g c

pub returns-clause-waits : goal.returns-clause-waits
returns-clause-waits g c = λ may.
    let queue = c.args.self.now.queue in
    on_ok_weaker c.decide_next.result (λ left. omega (arith, ap (λ (bs : List Ballot). length bs) left, one_waits queue.depth queue.ballots.items c.args.ballot may)) (does g c).left_is

pub returns-clause-stays : goal.returns-clause-stays
returns-clause-stays g c =
    let parts = c.write_back_first.new.self.parts in
    let was = c.in_ok-write_back_first.ensures.stays in
    record {
      ready = record {
        fit = (does g c).fit;
        shape_is = was.ready.shape_is;
        places = λ some. was.ready.places (omega (arith, some, c.decide_next.ensures.depth));
      };
      held = λ told held. still_held c.args.shape.now parts was.ready.shape_is (entries_of parts) [] (forgets_none c.args.shape.now (entries_of parts))
          (g.M.Media.view c.write_back_first.new.media).content.bytes (g.M.Media.view c.decide_next.new.media).content.bytes (c.decide_next.ensures.cells told) (was.held told held);
    }

pub returns-clause-tied : goal.returns-clause-tied
returns-clause-tied g c =
    let queue = c.args.self.now.queue in
    let bs = queue.ballots.items in
    let old = entries_of c.args.self.now.parts in
    let new = entries_of c.write_back_first.new.self.parts in
    let forgets = subst (λ (n : ℕ). Forgets c.args.shape.now (take n bs) old new) c.due_for_place-due.ensures c.in_ok-write_back_first.ensures.forgets in
    on_ok_weaker c.decide_next.result
    (λ left. subst (λ (p : List Cells × List Ballot). AreTied c.args.shape.now p.0 new p.1 (λ t. false)) (λ i. (sym (does g c).table i, sym left i))
    (committed c.args.shape.now queue.cells old new queue.depth (omega arith) bs c.args.ballot c.requires.tied (c.requires.named (omega arith)) c.requires.apart forgets))
    (does g c).left_is
