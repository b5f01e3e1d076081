use Rattle.std.proofs.Common.{ℕ, Option}
use Rattle.btree_pages.specs.declared.look.Leaf.{Leaf}
use Rattle.btree_pages.proofs.Nexting.{no_error, other_error, not_damaged_page}
use Rattle.std.proofs.Common.{◌≡◌, Some, sym, ◌∙◌, arith}
use Rattle.page_store.specs.Pairs.{found}
use Rattle.index_pages.specs.Page.{pairs_said}
use Rattle.index_pages.proofs.Sizes.{slots_are}
use Rattle.btree_pages.proofs.Given.{given_found}
use Rattle.btree_pages.specs.Trees.{whole_of}
use Rattle.std.proofs.Common.{ap}
use Rattle.index_pages.proofs.Courses.{walks_ok, walks_bad, walks_err}
use Rattle.btree_pages.specs.Downward.{down, slot_at, Descended}
use Rattle.btree_pages.proofs.Turning.{slot_is, descended_last}
use Rattle.std.proofs.lemmas.Result.{err_from_is_err_and}
use Rattle.btree_pages.proofs.index.BTreePagesKeyIndex.find.Goals as goal

pub returns-then-slot-from-clause-cause : goal.returns-then-slot-from-clause-cause
returns-then-slot-from-clause-cause g c =
    let view = g.S.EawStore.view c.args.pages.now.store in (
      c.in_ok-leaf.ensures.cause,
      λ told.
          let at = (c.in_ok-leaf.ensures.leaf told).1 in
          let some : found (pairs_said c.descend.new.bytes) c.args.key ≡ Some c.in-Some.slot = sym c.slot_in.ensures ∙ c.in-Some.is in
          let given = given_found view.state.bytes c.args.table c.args.key c.in-Some.slot (pairs_said c.descend.new.bytes) at.given some in
          omega (arith, given, (whole_of view.state.bytes (c.requires.sound told c.in_ok-leaf.ensures.cause)).front.slots, slots_are view.shape view.state.bytes (g.met.S.EawStore.long c.args.pages.now.store told), c.index_page_count-count.ensures.all, c.if-slot-from.true, c.from.ensures),
    )

pub returns-in_err-leaf : goal.returns-in_err-leaf
returns-in_err-leaf g c =
    let exit = err_from_is_err_and c.from_residual.result c.from_residual.ensures.1 in
    rw (exit.1, exit.2) (record {
      looks = c.in_err-leaf.ensures.looks;
      cause = c.in_err-leaf.ensures.cause;
      follows = walks_err g.S.EawStore.tells (g.S.EawStore.calls c.args.pages.now.store) (g.S.EawStore.calls c.descend.new.pages.store) (down c.args.root c.args.key) (down c.args.root c.args.key) 8 8
          (Descended c.args.key c.descend.new.bytes) (λ slot read. slot_at c.args.key read ≡ Some slot) (g.S.EawStore.view c.args.pages.now.store) (g.S.EawStore.view c.descend.new.pages.store) (λ read way. way) (omega arith) c.in_err-leaf.field-0.0 c.in_err-leaf.ensures.walks;
      found = λ told. tt;
      inside = tt;
      dead = λ told. c.in_err-leaf.ensures.dead (other_error (Option ℕ) Leaf _ _ told);
    })

pub returns-in_default : goal.returns-in_default
returns-in_default g c = record {
  looks = c.in_ok-leaf.ensures.looks;
  cause = c.in_ok-leaf.ensures.cause;
  follows = walks_ok g.S.EawStore.tells (g.S.EawStore.calls c.args.pages.now.store) (g.S.EawStore.calls c.descend.new.pages.store) (down c.args.root c.args.key) (down c.args.root c.args.key) 8 8
      (Descended c.args.key c.descend.new.bytes) (λ slot read. slot_at c.args.key read ≡ Some slot) (g.S.EawStore.view c.args.pages.now.store) (g.S.EawStore.view c.descend.new.pages.store) (λ read way. way) (omega arith) c.in_ok-leaf.leaf _ c.in_ok-leaf.ensures.walks (λ read way ends. slot_is c.args.key c.descend.new.bytes c.in_ok-leaf.leaf read ends ∙ ap Some (sym c.slot_in.ensures ∙ c.in_default.is));
  found = λ told. sym ((c.in_ok-leaf.ensures.leaf told).1.found_is ∙ sym c.slot_in.ensures ∙ c.in_default.is);
  inside = tt;
  dead = λ told. no_error _ _ told;
}

pub returns-then-slot-from-clause-looks : goal.returns-then-slot-from-clause-looks
returns-then-slot-from-clause-looks g c = c.in_ok-leaf.ensures.looks

pub returns-then-slot-from-clause-dead : goal.returns-then-slot-from-clause-dead
returns-then-slot-from-clause-dead g c = λ told. not_damaged_page _ told

pub returns-clause-looks : goal.returns-clause-looks
returns-clause-looks g c = c.in_ok-leaf.ensures.looks

pub returns-clause-cause : goal.returns-clause-cause
returns-clause-cause g c = c.in_ok-leaf.ensures.cause

pub returns-clause-dead : goal.returns-clause-dead
returns-clause-dead g c = λ told. no_error _ _ told

pub returns-then-slot-from-clause-follows : goal.returns-then-slot-from-clause-follows
returns-then-slot-from-clause-follows g c =
    walks_bad g.S.EawStore.tells (g.S.EawStore.calls c.args.pages.now.store) (g.S.EawStore.calls c.descend.new.pages.store) (down c.args.root c.args.key) (down c.args.root c.args.key) 8 8
    (Descended c.args.key c.descend.new.bytes) (λ slot read. slot_at c.args.key read ≡ Some slot) (g.S.EawStore.view c.args.pages.now.store) (g.S.EawStore.view c.descend.new.pages.store) (λ read way. way) (omega arith) c.in_ok-leaf.leaf c.in_ok-leaf.leaf.page c.in_ok-leaf.ensures.walks (descended_last c.args.key c.descend.new.bytes c.in_ok-leaf.leaf)

pub returns-clause-follows : goal.returns-clause-follows
returns-clause-follows g c =
    walks_ok g.S.EawStore.tells (g.S.EawStore.calls c.args.pages.now.store) (g.S.EawStore.calls c.descend.new.pages.store) (down c.args.root c.args.key) (down c.args.root c.args.key) 8 8
    (Descended c.args.key c.descend.new.bytes) (λ slot read. slot_at c.args.key read ≡ Some slot) (g.S.EawStore.view c.args.pages.now.store) (g.S.EawStore.view c.descend.new.pages.store) (λ read way. way) (omega arith) c.in_ok-leaf.leaf _ c.in_ok-leaf.ensures.walks (λ read way ends. slot_is c.args.key c.descend.new.bytes c.in_ok-leaf.leaf read ends ∙ ap Some (sym c.slot_in.ensures ∙ c.in-Some.is))
