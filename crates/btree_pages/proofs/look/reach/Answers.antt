use Rattle.btree_pages.specs.declared.look.Leaf.{Leaf}
use Rattle.btree_pages.specs.declared.look.Reached.{Reached}
use Rattle.btree_pages.proofs.Nexting.{no_error, other_error, not_damaged_page}
use Rattle.std.proofs.Common.{◌≤◌, ◌*◌, ℕ, subst, arith}
use Rattle.page_store.specs.Pairs.{AreInside}
use Rattle.record_slots.specs.Places.{next_slot}
use Rattle.index_pages.specs.Page.{pairs_said}
use Rattle.index_pages.proofs.Sizes.{slots_are}
use Rattle.index_pages.proofs.Turns.{rest_inside}
use Rattle.btree_pages.proofs.Nexting.{reaches_here}
use Rattle.btree_pages.specs.Trees.{whole_of}
use Rattle.std.proofs.Common.{refl}
use Rattle.index_pages.proofs.Courses.{walks_ok, walks_bad, walks_err}
use Rattle.btree_pages.specs.Downward.{down, Descended, Gathered}
use Rattle.btree_pages.proofs.Turning.{descended_last, gathered_is}
use Rattle.std.proofs.lemmas.Result.{err_from_is_err_and}
use Rattle.btree_pages.proofs.look.reach.Goals as goal

pub returns-in_default-clause-cause : goal.returns-in_default-clause-cause
returns-in_default-clause-cause g c =
    let view = g.S.EawStore.view c.args.pages.now.store in (
      c.in_ok-leaf.ensures.cause,
      λ told.
          let at = (c.in_ok-leaf.ensures.leaf told).1 in
          let few : next_slot view.state.bytes ≤ (8 * c.index_page_count-slots.result) = omega (arith, (whole_of view.state.bytes (c.requires.may.sound told c.in_ok-leaf.ensures.cause)).front.slots, slots_are view.shape view.state.bytes (g.met.S.EawStore.long c.args.pages.now.store told), c.index_page_count-slots.ensures.all) in
          (rw c.in_default.is at c.rest_of.ensures.none) (rest_inside view.state.bytes c.args.root.table (8 * c.index_page_count-slots.result) at.rises.0 at.rises.1 c.args.start.key (pairs_said c.descend.new.bytes) at.rises.2 at.given few),
    )

pub returns-in_err-leaf : goal.returns-in_err-leaf
returns-in_err-leaf g c =
    let exit = err_from_is_err_and c.from_residual.result c.from_residual.ensures.1 in
    rw (exit.1, exit.2) (record {
      looks = c.in_err-leaf.ensures.looks;
      cause = c.in_err-leaf.ensures.cause;
      walks = walks_err g.S.EawStore.tells (g.S.EawStore.calls c.args.pages.now.store) (g.S.EawStore.calls c.descend.new.pages.store) (down c.args.start.page c.args.start.key) (down c.args.start.page c.args.start.key) c.args.start.most c.args.start.most
          (Descended c.args.start.key c.descend.new.bytes) (Gathered c.args.start.key) (g.S.EawStore.view c.args.pages.now.store) (g.S.EawStore.view c.descend.new.pages.store) (λ read way. way) (omega arith) c.in_err-leaf.field-0.0 c.in_err-leaf.ensures.walks;
      reaches = λ told. tt;
      inside = tt;
      behind = tt;
      begins = λ told. tt;
      dead = λ told. c.in_err-leaf.ensures.dead (other_error Reached Leaf _ _ told);
    })

pub returns-in_default-clause-looks : goal.returns-in_default-clause-looks
returns-in_default-clause-looks g c = c.in_ok-leaf.ensures.looks

pub returns-in_default-clause-dead : goal.returns-in_default-clause-dead
returns-in_default-clause-dead g c = λ told. not_damaged_page _ told

pub returns-clause-looks : goal.returns-clause-looks
returns-clause-looks g c = c.in_ok-leaf.ensures.looks

pub returns-clause-cause : goal.returns-clause-cause
returns-clause-cause g c = c.in_ok-leaf.ensures.cause

pub returns-clause-dead : goal.returns-clause-dead
returns-clause-dead g c = λ told. no_error _ _ told

pub returns-clause-reaches : goal.returns-clause-reaches
returns-clause-reaches g c = λ told.
    let at = c.in_ok-leaf.ensures.leaf told in (
      at.0,
      reaches_here c.args.root (g.S.EawStore.view c.args.pages.now.store).state.bytes c.args.start.key (8 * c.index_page_count-slots.result) at.0 c.descend.new.bytes at.1
          c.in-Some.some.items (rw c.in-Some.is at c.rest_of.ensures.rest) (rw c.in-Some.is at c.rest_of.ensures.inside),
      at.2,
    )

pub returns-clause-inside : goal.returns-clause-inside
returns-clause-inside g c =
    let view = g.S.EawStore.view c.args.pages.now.store in
    subst (λ (n : ℕ). AreInside c.args.start.key n c.in-Some.some.items) (omega (arith, c.index_page_count-slots.ensures.all)) (rw c.in-Some.is at c.rest_of.ensures.inside)

pub returns-in_default-clause-walks : goal.returns-in_default-clause-walks
returns-in_default-clause-walks g c =
    walks_bad g.S.EawStore.tells (g.S.EawStore.calls c.args.pages.now.store) (g.S.EawStore.calls c.descend.new.pages.store) (down c.args.start.page c.args.start.key) (down c.args.start.page c.args.start.key) c.args.start.most c.args.start.most
    (Descended c.args.start.key c.descend.new.bytes) (Gathered c.args.start.key) (g.S.EawStore.view c.args.pages.now.store) (g.S.EawStore.view c.descend.new.pages.store) (λ read way. way) (omega arith) c.in_ok-leaf.leaf c.in_ok-leaf.leaf.page c.in_ok-leaf.ensures.walks (descended_last c.args.start.key c.descend.new.bytes c.in_ok-leaf.leaf)

pub returns-clause-walks : goal.returns-clause-walks
returns-clause-walks g c =
    walks_ok g.S.EawStore.tells (g.S.EawStore.calls c.args.pages.now.store) (g.S.EawStore.calls c.descend.new.pages.store) (down c.args.start.page c.args.start.key) (down c.args.start.page c.args.start.key) c.args.start.most c.args.start.most
    (Descended c.args.start.key c.descend.new.bytes) (Gathered c.args.start.key) (g.S.EawStore.view c.args.pages.now.store) (g.S.EawStore.view c.descend.new.pages.store) (λ read way. way) (omega arith) c.in_ok-leaf.leaf _ c.in_ok-leaf.ensures.walks
    (λ read way ends. gathered_is c.args.start.key c.descend.new.bytes c.in_ok-leaf.leaf _ read ends refl refl (rw c.in-Some.is at c.rest_of.ensures.rest))

pub returns-clause-behind : goal.returns-clause-behind
returns-clause-behind g c = c.in_ok-leaf.ensures.behind

pub returns-clause-begins : goal.returns-clause-begins
returns-clause-begins g c = c.in_ok-leaf.ensures.begins
