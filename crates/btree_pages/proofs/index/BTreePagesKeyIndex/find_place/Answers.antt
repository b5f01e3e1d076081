use Rattle.std.proofs.Common.{◌≡◌, ◌<◌, ℕ, List, [], ◌∷◌, Option, Some, length, refl, sym, ◌∙◌, ap, subst, arith}
use Rattle.std.proofs.lemmas.Bool.{false≢true}
use Rattle.page_store.specs.Pairs.{Pair, found}
use Rattle.index_pages.specs.Page.{pairs_said, level_of, page_pairs}
use Rattle.index_pages.specs.Ways.{IsOwn, above}
use Rattle.index_pages.specs.Keys.{key_end}
use Rattle.index_pages.proofs.Sizes.{slots_are, index_pages_are}
use Rattle.btree_laws.proofs.Ways.{way_own}
use Rattle.btree_laws.specs.Descent.{leaf_for}
use Rattle.btree_laws.specs.Sound.{IsTree}
use Rattle.index_pages.specs.Actions.{adding}
use Rattle.btree_pages.specs.Trees.{whole_of, table_sound}
use Rattle.btree_pages.proofs.Crowds.{crowded_two, open_leaf, length-pairs_said}
use Rattle.btree_pages.proofs.Given.{given_found}
use Rattle.btree_pages.proofs.Whole.{above_all}
use Rattle.page_store.specs.Course.{LeafSaid}
use Rattle.page_store.specs.Placed.{IsPlaceSaid, slot_sought}
use Rattle.index_pages.proofs.Courses.{walks_ok, walks_bad, walks_err}
use Rattle.btree_pages.specs.Downward.{down, slot_at, tree_placing, Descended}
use Rattle.btree_pages.proofs.Turning.{slot_is, leaf_placed, descended_last}
use Rattle.std.proofs.lemmas.Result.{err_from_is_err_and}
use Rattle.btree_laws.specs.declared.root.Root.{Root}
use Rattle.btree_pages.proofs.index.BTreePagesKeyIndex.find_place.Goals as goal

pub returns-then-slot-from-clause-cause : goal.returns-then-slot-from-clause-cause
returns-then-slot-from-clause-cause g c =
    let view = g.S.EawStore.view c.args.pages.now.store in (
      c.in_ok-leaf.ensures.cause,
      λ told.
          let at = (c.in_ok-leaf.ensures.leaf told).1 in
          let some : found (pairs_said c.descend.new.bytes) c.args.key ≡ Some c.in-Some.slot = sym c.slot_in.ensures ∙ c.in-Some.is in
          let given = given_found view.state.bytes c.args.table c.args.key c.in-Some.slot (pairs_said c.descend.new.bytes) at.given some in
          omega (arith, given, (whole_of view.state.bytes (c.requires.sound told c.in_ok-leaf.ensures.cause)).front.slots, slots_are view.shape view.state.bytes (g.met.S.EawStore.long c.args.pages.now.store told), c.index_page_count-count.ensures.all, c.if-slot-from.true, c.from.ensures),
    )

pub returns-then-full-clause-place : goal.returns-then-full-clause-place
returns-then-full-clause-place g c = λ told. crowded_two (g.S.EawStore.view c.args.pages.now.store).state.bytes c.args.root c.args.key (sym (c.in_ok-leaf.ensures.full told refl) ∙ c.if-full.true)

pub returns-then-not-is_index_page-clause-cause : goal.returns-then-not-is_index_page-clause-cause
returns-then-not-is_index_page-clause-cause g c =
    let view = g.S.EawStore.view c.args.pages.now.store in (
      c.in_ok-leaf.ensures.cause,
      λ told.
          let bytes = view.state.bytes in
          let root : Root = record { page = c.args.root; table = c.args.table } in
          let sound = table_sound (g.S.EawStore.view c.args.pages.now.store).state.bytes (record { page = c.args.root; table = c.args.table }) (c.requires.sound told c.in_ok-leaf.ensures.cause) (c.requires.named told c.in_ok-leaf.ensures.cause) in
          let tree : IsTree (record { page = c.args.root; table = c.args.table }) (above (level_of (g.S.EawStore.view c.args.pages.now.store).state.bytes c.args.root) 0) (g.S.EawStore.view c.args.pages.now.store).state.bytes c.args.root 0 key_end =
          subst (λ (n : ℕ). IsTree (record { page = c.args.root; table = c.args.table }) n (g.S.EawStore.view c.args.pages.now.store).state.bytes c.args.root 0 key_end) (above_all (level_of (g.S.EawStore.view c.args.pages.now.store).state.bytes c.args.root)) sound.2 in
          let own : IsOwn (g.S.EawStore.view c.args.pages.now.store).state.bytes (leaf_for (g.S.EawStore.view c.args.pages.now.store).state.bytes c.args.root c.args.key) =
          way_own root (level_of bytes root.page) 0 bytes c.args.key root.page 0 key_end sound.0 tree (omega arith) (omega arith) in
          let here = c.in_ok-leaf.ensures.page told in
          let less : c.in_ok-leaf.leaf.page < c.index_page_count-count.result = omega (arith, own.1, here, (whole_of view.state.bytes (c.requires.sound told c.in_ok-leaf.ensures.cause)).front.pages, index_pages_are view.shape bytes (g.met.S.EawStore.long c.args.pages.now.store told), c.index_page_count-count.ensures.count) in
          false≢true (c.if-not-is_index_page.ensures.1 (omega (arith, own.0, here), less)),
    )

pub returns-clause-place : goal.returns-clause-place
returns-clause-place g c = λ told.
    let bytes = (g.S.EawStore.view c.args.pages.now.store).state.bytes in
    let here = c.in_ok-leaf.ensures.page told in
    record {
      page_is = here;
      pairs_are = c.read_pairs.ensures.pairs ∙ (c.in_ok-leaf.ensures.leaf told).1.pairs ∙ ap (λ (p : ℕ). page_pairs bytes p) (sym here);
      alone = open_leaf bytes c.args.root c.args.key (sym (c.in_ok-leaf.ensures.full told refl) ∙ c.if-full.false) ∙ ap (λ (p : ℕ). adding bytes p ∷ []) (sym here);
    }

pub returns-clause-inside : goal.returns-clause-inside
returns-clause-inside g c =
    let inside = c.if-not-is_index_page.ensures.0 refl in
    let room : c.in_ok-leaf.leaf.count < 30 = c.in_ok-leaf.ensures.room c.if-full.false in
    record {
      some = inside.0;
      inside = subst (λ (k : ℕ). c.in_ok-leaf.leaf.page < k) c.index_page_count-count.ensures.count inside.1;
      room = omega (arith, room, c.in_ok-leaf.ensures.count, ap (λ (ps : List Pair). length ps) c.read_pairs.ensures.pairs, length-pairs_said c.descend.new.bytes);
      small = c.read_pairs.ensures.small;
    }

pub returns-in_err-leaf-clause-follows : goal.returns-in_err-leaf-clause-follows
returns-in_err-leaf-clause-follows g c =
    let exit = err_from_is_err_and c.from_residual.result c.from_residual.ensures.1 in
    rw (exit.1, exit.2) (
    walks_err g.S.EawStore.tells (g.S.EawStore.calls c.args.pages.now.store) (g.S.EawStore.calls c.descend.new.pages.store) (down c.args.root c.args.key) (down c.args.root c.args.key) 8 8
    (Descended c.args.key c.descend.new.bytes) (λ sought read. (slot_at c.args.key read ≡ Some (slot_sought sought)) × IsPlaceSaid (tree_placing c.args.key read) sought) (g.S.EawStore.view c.args.pages.now.store) (g.S.EawStore.view c.descend.new.pages.store) (λ read way. way) (omega arith) c.in_err-leaf.field-0.0 c.in_err-leaf.ensures.walks)

pub returns-then-slot-from-clause-follows : goal.returns-then-slot-from-clause-follows
returns-then-slot-from-clause-follows g c =
    walks_bad g.S.EawStore.tells (g.S.EawStore.calls c.args.pages.now.store) (g.S.EawStore.calls c.descend.new.pages.store) (down c.args.root c.args.key) (down c.args.root c.args.key) 8 8
    (Descended c.args.key c.descend.new.bytes) (λ sought read. (slot_at c.args.key read ≡ Some (slot_sought sought)) × IsPlaceSaid (tree_placing c.args.key read) sought) (g.S.EawStore.view c.args.pages.now.store) (g.S.EawStore.view c.descend.new.pages.store) (λ read way. way) (omega arith) c.in_ok-leaf.leaf c.in_ok-leaf.leaf.page c.in_ok-leaf.ensures.walks (descended_last c.args.key c.descend.new.bytes c.in_ok-leaf.leaf)

pub returns-in-Some-clause-follows : goal.returns-in-Some-clause-follows
returns-in-Some-clause-follows g c =
    walks_ok g.S.EawStore.tells (g.S.EawStore.calls c.args.pages.now.store) (g.S.EawStore.calls c.descend.new.pages.store) (down c.args.root c.args.key) (down c.args.root c.args.key) 8 8
    (Descended c.args.key c.descend.new.bytes) (λ sought read. (slot_at c.args.key read ≡ Some (slot_sought sought)) × IsPlaceSaid (tree_placing c.args.key read) sought) (g.S.EawStore.view c.args.pages.now.store) (g.S.EawStore.view c.descend.new.pages.store) (λ read way. way) (omega arith) c.in_ok-leaf.leaf _ c.in_ok-leaf.ensures.walks (λ read way ends. (slot_is c.args.key c.descend.new.bytes c.in_ok-leaf.leaf read ends ∙ ap Some (sym c.slot_in.ensures ∙ c.in-Some.is), tt))

pub returns-then-full-clause-follows : goal.returns-then-full-clause-follows
returns-then-full-clause-follows g c =
    walks_ok g.S.EawStore.tells (g.S.EawStore.calls c.args.pages.now.store) (g.S.EawStore.calls c.descend.new.pages.store) (down c.args.root c.args.key) (down c.args.root c.args.key) 8 8
    (Descended c.args.key c.descend.new.bytes) (λ sought read. (slot_at c.args.key read ≡ Some (slot_sought sought)) × IsPlaceSaid (tree_placing c.args.key read) sought) (g.S.EawStore.view c.args.pages.now.store) (g.S.EawStore.view c.descend.new.pages.store) (λ read way. way) (omega arith) c.in_ok-leaf.leaf _ c.in_ok-leaf.ensures.walks (λ read way ends. (slot_is c.args.key c.descend.new.bytes c.in_ok-leaf.leaf read ends ∙ ap Some (sym c.slot_in.ensures ∙ c.in_default.is), tt))

pub returns-then-not-is_index_page-clause-follows : goal.returns-then-not-is_index_page-clause-follows
returns-then-not-is_index_page-clause-follows g c =
    walks_bad g.S.EawStore.tells (g.S.EawStore.calls c.args.pages.now.store) (g.S.EawStore.calls c.descend.new.pages.store) (down c.args.root c.args.key) (down c.args.root c.args.key) 8 8
    (Descended c.args.key c.descend.new.bytes) (λ sought read. (slot_at c.args.key read ≡ Some (slot_sought sought)) × IsPlaceSaid (tree_placing c.args.key read) sought) (g.S.EawStore.view c.args.pages.now.store) (g.S.EawStore.view c.descend.new.pages.store) (λ read way. way) (omega arith) c.in_ok-leaf.leaf c.in_ok-leaf.leaf.page c.in_ok-leaf.ensures.walks (descended_last c.args.key c.descend.new.bytes c.in_ok-leaf.leaf)

pub returns-clause-follows : goal.returns-clause-follows
returns-clause-follows g c =
    walks_ok g.S.EawStore.tells (g.S.EawStore.calls c.args.pages.now.store) (g.S.EawStore.calls c.descend.new.pages.store) (down c.args.root c.args.key) (down c.args.root c.args.key) 8 8
    (Descended c.args.key c.descend.new.bytes) (λ sought read. (slot_at c.args.key read ≡ Some (slot_sought sought)) × IsPlaceSaid (tree_placing c.args.key read) sought) (g.S.EawStore.view c.args.pages.now.store) (g.S.EawStore.view c.descend.new.pages.store) (λ read way. way) (omega arith) c.in_ok-leaf.leaf _ c.in_ok-leaf.ensures.walks (λ read way ends. (
      slot_is c.args.key c.descend.new.bytes c.in_ok-leaf.leaf read ends ∙ ap Some (sym c.slot_in.ensures ∙ c.in_default.is),
      leaf_placed c.args.key c.descend.new.bytes c.in_ok-leaf.leaf read ends ∙ ap (λ (ps : List Pair). (let o : Option LeafSaid = Some (record { page = c.in_ok-leaf.leaf.page; link = 0; pairs = ps }) in o)) (sym c.read_pairs.ensures.pairs),
    ))
