use Rattle.std.proofs.Common.{◌<◌, ◌≤◌, ◌^◌, ℕ, length, Option, ◌∙◌, ap, arith, ◌≡◌, ◌≢◌, Bool, true, false, List, [], ◌∷◌, None, Some, Result, Err, IsTrue, inl, inr, refl, subst, sym}
use Rattle.page_store.specs.Shown.{pages_of}
use Rattle.index_pages.proofs.May.{may_yet}
use Rattle.index_pages.proofs.Removals.{removes_then, removes_none, removes_damaged, removes_look_err}
use Rattle.btree_pages.specs.Index.{tree, tree_removal}
use Rattle.btree_pages.proofs.Arriving.{both_looks, leaf_now, lone_now, stays_here, leaf_gives}
use Rattle.std.proofs.lemmas.Bool.{false≢true}
use Rattle.array_shape.specs.Places.{page_count}
use Rattle.page_store.specs.Works.{blamed, is_done, removal_actions}
use Rattle.page_store.specs.declared.fault.PageFault.{PageFault}
use Rattle.index_pages.proofs.Working.{onwards}
use Rattle.btree_pages.proofs.Looked.{bytes_same}
use Rattle.btree_pages.proofs.Removing.{blamed_as, came_child, came_fails, down_fails, down_then, ends_none, one_met}
use Rattle.btree_pages.specs.declared.node.Node.{Node}
use Rattle.array_shape.specs.declared.shape.Shape.{Shape}
use Rattle.std.proofs.lemmas.Result.{err_from_is_err_and}
use Rattle.btree_pages.proofs.removal.remove_below.Goals as goal

pub returns-in_default-clause-removes : goal.returns-in_default-clause-removes
returns-in_default-clause-removes g c =
    let T = g.S.EawStore.tells in
    let V = g.S.EawStore.view in
    let E = g.S.EawStore.opens in
    let root = c.args.change.root in
    let key = c.args.change.key in
    let v0 = pages_of (V c.args.pages.now.store) c.args.pages.now in
    let v1 = pages_of (V c.fetch_parent.new.pages.store) c.fetch_parent.new.pages in
    let v2 = pages_of (V c.fetch_child.new.pages.store) c.fetch_child.new.pages in
    let fits : c.args.change.key < 2 ^ 64 = omega arith in
    let parent = c.in_ok-parent.parent in
    let leaf = c.in_ok-leaf.leaf in
    removes_damaged T (E v0.store.shape) tree c.args.change.tid root.page key v0 v2 leaf.page (both_looks T E root key fits v0 v1 v2 c.in_ok-parent.ensures.looks c.in_ok-leaf.ensures.looks c.requires.may.sound c.requires.may.named parent.page parent.level parent.pairs.items c.in_ok-parent.ensures.level c.in_ok-parent.ensures.reached leaf.page leaf.level leaf.pairs.items c.in_ok-leaf.ensures.child c.in_ok-leaf.ensures.level c.in_ok-leaf.ensures.pairs) c.requires.may.alive
    (leaf_gives T E root key fits v0 v1 v2 c.in_ok-parent.ensures.looks c.in_ok-leaf.ensures.looks c.requires.may.sound c.requires.may.named parent.page parent.level parent.pairs.items c.in_ok-parent.ensures.level c.in_ok-parent.ensures.reached leaf.page leaf.level leaf.pairs.items c.in_ok-leaf.ensures.child c.in_ok-leaf.ensures.level c.in_ok-leaf.ensures.pairs c.requires.there c.requires.lists c.args.front.now c.requires.says c.in_default.ensures.none)

pub lose_pair-requires-clause-may : goal.lose_pair-requires-clause-may
lose_pair-requires-clause-may g c =
    let T = g.S.EawStore.tells in
    let V = g.S.EawStore.view in
    let E = g.S.EawStore.opens in
    let root = c.args.change.root in
    let key = c.args.change.key in
    let v0 = pages_of (V c.args.pages.now.store) c.args.pages.now in
    let v1 = pages_of (V c.fetch_parent.new.pages.store) c.fetch_parent.new.pages in
    let v2 = pages_of (V c.fetch_child.new.pages.store) c.fetch_child.new.pages in
    let fits : c.args.change.key < 2 ^ 64 = omega arith in
    let parent = c.in_ok-parent.parent in
    let leaf = c.in_ok-leaf.leaf in
    may_yet T (E v0.store.shape) tree c.args.change.tid root.table root.page v0 v2 (both_looks T E root key fits v0 v1 v2 c.in_ok-parent.ensures.looks c.in_ok-leaf.ensures.looks c.requires.may.sound c.requires.may.named parent.page parent.level parent.pairs.items c.in_ok-parent.ensures.level c.in_ok-parent.ensures.reached leaf.page leaf.level leaf.pairs.items c.in_ok-leaf.ensures.child c.in_ok-leaf.ensures.level c.in_ok-leaf.ensures.pairs) c.requires.may

pub join_right-requires-clause-may : goal.join_right-requires-clause-may
join_right-requires-clause-may g c =
    let T = g.S.EawStore.tells in
    let V = g.S.EawStore.view in
    let E = g.S.EawStore.opens in
    let root = c.args.change.root in
    let key = c.args.change.key in
    let v0 = pages_of (V c.args.pages.now.store) c.args.pages.now in
    let v1 = pages_of (V c.fetch_parent.new.pages.store) c.fetch_parent.new.pages in
    let v2 = pages_of (V c.fetch_child.new.pages.store) c.fetch_child.new.pages in
    let fits : c.args.change.key < 2 ^ 64 = omega arith in
    let parent = c.in_ok-parent.parent in
    let leaf = c.in_ok-leaf.leaf in
    may_yet T (E v0.store.shape) tree c.args.change.tid root.table root.page v0 v2 (both_looks T E root key fits v0 v1 v2 c.in_ok-parent.ensures.looks c.in_ok-leaf.ensures.looks c.requires.may.sound c.requires.may.named parent.page parent.level parent.pairs.items c.in_ok-parent.ensures.level c.in_ok-parent.ensures.reached leaf.page leaf.level leaf.pairs.items c.in_ok-leaf.ensures.child c.in_ok-leaf.ensures.level c.in_ok-leaf.ensures.pairs) c.requires.may

pub leave_parent-requires-clause-may : goal.leave_parent-requires-clause-may
leave_parent-requires-clause-may g c =
    let T = g.S.EawStore.tells in
    let V = g.S.EawStore.view in
    let E = g.S.EawStore.opens in
    let root = c.args.change.root in
    let key = c.args.change.key in
    let v0 = pages_of (V c.args.pages.now.store) c.args.pages.now in
    let v1 = pages_of (V c.fetch_parent.new.pages.store) c.fetch_parent.new.pages in
    let v2 = pages_of (V c.fetch_child.new.pages.store) c.fetch_child.new.pages in
    let fits : c.args.change.key < 2 ^ 64 = omega arith in
    let parent = c.in_ok-parent.parent in
    let leaf = c.in_ok-leaf.leaf in
    may_yet T (E v0.store.shape) tree c.args.change.tid root.table root.page v0 v2 (both_looks T E root key fits v0 v1 v2 c.in_ok-parent.ensures.looks c.in_ok-leaf.ensures.looks c.requires.may.sound c.requires.may.named parent.page parent.level parent.pairs.items c.in_ok-parent.ensures.level c.in_ok-parent.ensures.reached leaf.page leaf.level leaf.pairs.items c.in_ok-leaf.ensures.child c.in_ok-leaf.ensures.level c.in_ok-leaf.ensures.pairs) c.requires.may

pub lose_pair-requires-clause-reached : goal.lose_pair-requires-clause-reached
lose_pair-requires-clause-reached g c =
    let T = g.S.EawStore.tells in
    let V = g.S.EawStore.view in
    let E = g.S.EawStore.opens in
    let root = c.args.change.root in
    let key = c.args.change.key in
    let v0 = pages_of (V c.args.pages.now.store) c.args.pages.now in
    let v1 = pages_of (V c.fetch_parent.new.pages.store) c.fetch_parent.new.pages in
    let v2 = pages_of (V c.fetch_child.new.pages.store) c.fetch_child.new.pages in
    let fits : c.args.change.key < 2 ^ 64 = omega arith in
    let parent = c.in_ok-parent.parent in
    let leaf = c.in_ok-leaf.leaf in
    leaf_now T E root key fits v0 v1 v2 c.in_ok-parent.ensures.looks c.in_ok-leaf.ensures.looks c.requires.may.sound c.requires.may.named parent.page parent.level parent.pairs.items c.in_ok-parent.ensures.level c.in_ok-parent.ensures.reached leaf.page leaf.level leaf.pairs.items c.in_ok-leaf.ensures.child c.in_ok-leaf.ensures.level c.in_ok-leaf.ensures.pairs

pub join_right-requires-clause-lone : goal.join_right-requires-clause-lone
join_right-requires-clause-lone g c =
    let T = g.S.EawStore.tells in
    let V = g.S.EawStore.view in
    let E = g.S.EawStore.opens in
    let root = c.args.change.root in
    let key = c.args.change.key in
    let v0 = pages_of (V c.args.pages.now.store) c.args.pages.now in
    let v1 = pages_of (V c.fetch_parent.new.pages.store) c.fetch_parent.new.pages in
    let v2 = pages_of (V c.fetch_child.new.pages.store) c.fetch_child.new.pages in
    let fits : c.args.change.key < 2 ^ 64 = omega arith in
    let parent = c.in_ok-parent.parent in
    let leaf = c.in_ok-leaf.leaf in
    let few : length c.in_ok-leaf.leaf.pairs.items ≤ 1 = omega (arith, c.len.ensures.value, c.if-len-gt1.false) in
    lone_now T E root key fits v0 v1 v2 c.in_ok-parent.ensures.looks c.in_ok-leaf.ensures.looks c.requires.may.sound c.requires.may.named parent.page parent.level parent.pairs.items c.in_ok-parent.ensures.level c.in_ok-parent.ensures.reached leaf.page leaf.level leaf.pairs.items c.in_ok-leaf.ensures.child c.in_ok-leaf.ensures.level c.in_ok-leaf.ensures.pairs c.in-Some.slot.number c.in-Some.ensures.finds few c.in_ok-parent.ensures.read c.in_ok-leaf.ensures.read.inside

pub leave_parent-requires-clause-lone : goal.leave_parent-requires-clause-lone
leave_parent-requires-clause-lone g c =
    let T = g.S.EawStore.tells in
    let V = g.S.EawStore.view in
    let E = g.S.EawStore.opens in
    let root = c.args.change.root in
    let key = c.args.change.key in
    let v0 = pages_of (V c.args.pages.now.store) c.args.pages.now in
    let v1 = pages_of (V c.fetch_parent.new.pages.store) c.fetch_parent.new.pages in
    let v2 = pages_of (V c.fetch_child.new.pages.store) c.fetch_child.new.pages in
    let fits : c.args.change.key < 2 ^ 64 = omega arith in
    let parent = c.in_ok-parent.parent in
    let leaf = c.in_ok-leaf.leaf in
    let few : length c.in_ok-leaf.leaf.pairs.items ≤ 1 = omega (arith, c.len.ensures.value, c.if-len-gt1.false) in
    lone_now T E root key fits v0 v1 v2 c.in_ok-parent.ensures.looks c.in_ok-leaf.ensures.looks c.requires.may.sound c.requires.may.named parent.page parent.level parent.pairs.items c.in_ok-parent.ensures.level c.in_ok-parent.ensures.reached leaf.page leaf.level leaf.pairs.items c.in_ok-leaf.ensures.child c.in_ok-leaf.ensures.level c.in_ok-leaf.ensures.pairs c.in-Some.slot.number c.in-Some.ensures.finds few c.in_ok-parent.ensures.read c.in_ok-leaf.ensures.read.inside

pub returns-then-len-gt1-clause-removes : goal.returns-then-len-gt1-clause-removes
returns-then-len-gt1-clause-removes g c =
    let T = g.S.EawStore.tells in
    let V = g.S.EawStore.view in
    let E = g.S.EawStore.opens in
    let root = c.args.change.root in
    let key = c.args.change.key in
    let v0 = pages_of (V c.args.pages.now.store) c.args.pages.now in
    let v1 = pages_of (V c.fetch_parent.new.pages.store) c.fetch_parent.new.pages in
    let v2 = pages_of (V c.fetch_child.new.pages.store) c.fetch_child.new.pages in
    let fits : c.args.change.key < 2 ^ 64 = omega arith in
    let parent = c.in_ok-parent.parent in
    let leaf = c.in_ok-leaf.leaf in
    let v3 = pages_of (V c.lose_pair.new.pages.store) c.lose_pair.new.pages in
    removes_then T E tree c.args.change.tid root.page key v0 v2 v3 (both_looks T E root key fits v0 v1 v2 c.in_ok-parent.ensures.looks c.in_ok-leaf.ensures.looks c.requires.may.sound c.requires.may.named parent.page parent.level parent.pairs.items c.in_ok-parent.ensures.level c.in_ok-parent.ensures.reached leaf.page leaf.level leaf.pairs.items c.in_ok-leaf.ensures.child c.in_ok-leaf.ensures.level c.in_ok-leaf.ensures.pairs) c.requires.may.alive c.lose_pair.result c.lose_pair.ensures.removes

pub returns-in-Some-place_behind-clause-removes : goal.returns-in-Some-place_behind-clause-removes
returns-in-Some-place_behind-clause-removes g c =
    let T = g.S.EawStore.tells in
    let V = g.S.EawStore.view in
    let E = g.S.EawStore.opens in
    let root = c.args.change.root in
    let key = c.args.change.key in
    let v0 = pages_of (V c.args.pages.now.store) c.args.pages.now in
    let v1 = pages_of (V c.fetch_parent.new.pages.store) c.fetch_parent.new.pages in
    let v2 = pages_of (V c.fetch_child.new.pages.store) c.fetch_child.new.pages in
    let fits : c.args.change.key < 2 ^ 64 = omega arith in
    let parent = c.in_ok-parent.parent in
    let leaf = c.in_ok-leaf.leaf in
    let v3 = pages_of (V c.join_right.new.pages.store) c.join_right.new.pages in
    removes_then T E tree c.args.change.tid root.page key v0 v2 v3 (both_looks T E root key fits v0 v1 v2 c.in_ok-parent.ensures.looks c.in_ok-leaf.ensures.looks c.requires.may.sound c.requires.may.named parent.page parent.level parent.pairs.items c.in_ok-parent.ensures.level c.in_ok-parent.ensures.reached leaf.page leaf.level leaf.pairs.items c.in_ok-leaf.ensures.child c.in_ok-leaf.ensures.level c.in_ok-leaf.ensures.pairs) c.requires.may.alive c.join_right.result c.join_right.ensures.removes

pub returns-then-len-gt1-2-clause-removes : goal.returns-then-len-gt1-2-clause-removes
returns-then-len-gt1-2-clause-removes g c =
    let T = g.S.EawStore.tells in
    let V = g.S.EawStore.view in
    let E = g.S.EawStore.opens in
    let root = c.args.change.root in
    let key = c.args.change.key in
    let v0 = pages_of (V c.args.pages.now.store) c.args.pages.now in
    let v1 = pages_of (V c.fetch_parent.new.pages.store) c.fetch_parent.new.pages in
    let v2 = pages_of (V c.fetch_child.new.pages.store) c.fetch_child.new.pages in
    let fits : c.args.change.key < 2 ^ 64 = omega arith in
    let parent = c.in_ok-parent.parent in
    let leaf = c.in_ok-leaf.leaf in
    let v3 = pages_of (V c.leave_parent.new.pages.store) c.leave_parent.new.pages in
    removes_then T E tree c.args.change.tid root.page key v0 v2 v3 (both_looks T E root key fits v0 v1 v2 c.in_ok-parent.ensures.looks c.in_ok-leaf.ensures.looks c.requires.may.sound c.requires.may.named parent.page parent.level parent.pairs.items c.in_ok-parent.ensures.level c.in_ok-parent.ensures.reached leaf.page leaf.level leaf.pairs.items c.in_ok-leaf.ensures.child c.in_ok-leaf.ensures.level c.in_ok-leaf.ensures.pairs) c.requires.may.alive c.leave_parent.result c.leave_parent.ensures.removes

pub returns-clause-removes : goal.returns-clause-removes
returns-clause-removes g c =
    let T = g.S.EawStore.tells in
    let V = g.S.EawStore.view in
    let E = g.S.EawStore.opens in
    let root = c.args.change.root in
    let key = c.args.change.key in
    let v0 = pages_of (V c.args.pages.now.store) c.args.pages.now in
    let v1 = pages_of (V c.fetch_parent.new.pages.store) c.fetch_parent.new.pages in
    let v2 = pages_of (V c.fetch_child.new.pages.store) c.fetch_child.new.pages in
    let fits : c.args.change.key < 2 ^ 64 = omega arith in
    let parent = c.in_ok-parent.parent in
    let leaf = c.in_ok-leaf.leaf in
    let few : length c.in_ok-leaf.leaf.pairs.items ≤ 1 = omega (arith, c.len.ensures.value, c.if-len-gt1.false) in
    let only : length c.in_ok-parent.parent.pairs.items ≤ 1 = omega (arith, c.len-2.ensures.value, c.if-len-gt1-2.false) in
    removes_none T (E v0.store.shape) tree c.args.change.tid root.page key v0 v2 (both_looks T E root key fits v0 v1 v2 c.in_ok-parent.ensures.looks c.in_ok-leaf.ensures.looks c.requires.may.sound c.requires.may.named parent.page parent.level parent.pairs.items c.in_ok-parent.ensures.level c.in_ok-parent.ensures.reached leaf.page leaf.level leaf.pairs.items c.in_ok-leaf.ensures.child c.in_ok-leaf.ensures.level c.in_ok-leaf.ensures.pairs) c.requires.may.alive (stays_here T E root key fits v0 v1 v2 c.in_ok-parent.ensures.looks c.in_ok-leaf.ensures.looks c.requires.may.sound c.requires.may.named parent.page parent.level parent.pairs.items c.in_ok-parent.ensures.level c.in_ok-parent.ensures.reached leaf.page leaf.level leaf.pairs.items c.in_ok-leaf.ensures.child c.in_ok-leaf.ensures.level c.in_ok-leaf.ensures.pairs few only)

pub returns-in_err-parent-clause-works : goal.returns-in_err-parent-clause-works
returns-in_err-parent-clause-works g c =
    let exit = err_from_is_err_and c.from_residual.result c.from_residual.ensures.1 in
    rw (exit.1, exit.2) (
    let V = g.S.EawStore.view in
    let T = g.S.EawStore.tells in
    let E = g.S.EawStore.opens in
    let root = c.args.change.root in
    let key = c.args.change.key in
    let top = c.args.top in
    let old = c.args.pages.now.store in
    let v0 = pages_of (V old) c.args.pages.now in
    let v1 = pages_of (V c.fetch_parent.new.pages.store) c.fetch_parent.new.pages in
    let due = removal_actions (tree_removal v0.store.state.bytes root.page key) in
    let s : Result Bool PageFault = Err c.in_err-parent.field-0.0 in
    down_fails g.S.EawStore.tells V g.S.EawStore.calls key top.page top.level top.pairs.items old c.args.change.tid due (blamed s) v1.store c.in_err-parent.field-0.0 (blamed_as Bool (Unit {0}) c.in_err-parent.field-0.0) c.in_err-parent.ensures.fails)

pub returns-in_err-leaf-clause-works : goal.returns-in_err-leaf-clause-works
returns-in_err-leaf-clause-works g c =
    let exit = err_from_is_err_and c.from_residual-in_err-leaf.result c.from_residual-in_err-leaf.ensures.1 in
    rw (exit.1, exit.2) (
    let V = g.S.EawStore.view in
    let T = g.S.EawStore.tells in
    let E = g.S.EawStore.opens in
    let root = c.args.change.root in
    let key = c.args.change.key in
    let top = c.args.top in
    let old = c.args.pages.now.store in
    let v0 = pages_of (V old) c.args.pages.now in
    let v1 = pages_of (V c.fetch_parent.new.pages.store) c.fetch_parent.new.pages in
    let due = removal_actions (tree_removal v0.store.state.bytes root.page key) in
    let v2 = pages_of (V c.fetch_child.new.pages.store) c.fetch_child.new.pages in
    let fits : c.args.change.key < 2 ^ 64 = omega arith in
    let parent = c.in_ok-parent.parent in
    let came = c.in_ok-parent.ensures.down in
    let inner : c.in_ok-parent.parent.level ≢ 0 = λ e. omega (arith, e, c.in_ok-parent.ensures.level) in
    let s : Result Bool PageFault = Err c.in_err-leaf.field-0.0 in
    down_fails g.S.EawStore.tells V g.S.EawStore.calls key top.page top.level top.pairs.items old c.args.change.tid due (blamed s) v2.store c.in_err-leaf.field-0.0 (blamed_as Bool (Unit {0}) c.in_err-leaf.field-0.0)
    (came_fails g.S.EawStore.tells V g.S.EawStore.calls key top.page top.level top.pairs.items old c.fetch_parent.new.pages.store c.fetch_child.new.pages.store parent.page parent.level parent.pairs.items came inner c.in_err-leaf.field-0.0 c.in_err-leaf.ensures.reads))

pub returns-in_default-clause-works : goal.returns-in_default-clause-works
returns-in_default-clause-works g c =
    let V = g.S.EawStore.view in
    let T = g.S.EawStore.tells in
    let E = g.S.EawStore.opens in
    let root = c.args.change.root in
    let key = c.args.change.key in
    let top = c.args.top in
    let old = c.args.pages.now.store in
    let v0 = pages_of (V old) c.args.pages.now in
    let v1 = pages_of (V c.fetch_parent.new.pages.store) c.fetch_parent.new.pages in
    let due = removal_actions (tree_removal v0.store.state.bytes root.page key) in
    let v2 = pages_of (V c.fetch_child.new.pages.store) c.fetch_child.new.pages in
    let fits : c.args.change.key < 2 ^ 64 = omega arith in
    let parent = c.in_ok-parent.parent in
    let came = c.in_ok-parent.ensures.down in
    let inner : c.in_ok-parent.parent.level ≢ 0 = λ e. omega (arith, e, c.in_ok-parent.ensures.level) in
    let leaf = c.in_ok-leaf.leaf in
    let here = came_child g.S.EawStore.tells V g.S.EawStore.calls key top.page top.level top.pairs.items old c.fetch_parent.new.pages.store c.fetch_child.new.pages.store parent.page parent.level parent.pairs.items came inner leaf c.in_ok-leaf.ensures.reads c.in_ok-leaf.ensures.looks.shape c.in_ok-leaf.ensures.child c.in_ok-leaf.ensures.level in
    let looks = both_looks T E root key fits v0 v1 v2 c.in_ok-parent.ensures.looks c.in_ok-leaf.ensures.looks c.requires.may.sound c.requires.may.named parent.page parent.level parent.pairs.items c.in_ok-parent.ensures.level c.in_ok-parent.ensures.reached leaf.page leaf.level leaf.pairs.items c.in_ok-leaf.ensures.child c.in_ok-leaf.ensures.level c.in_ok-leaf.ensures.pairs in
    let same = λ (told : IsTrue g.S.EawStore.tells). ap (λ (b : List ℕ). removal_actions (tree_removal b c.args.change.root.page c.args.change.key)) (bytes_same g.S.EawStore.tells (g.S.EawStore.opens v0.store.shape) v0 v2 looks told) in
    let due2 = removal_actions (tree_removal v2.store.state.bytes root.page key) in
    down_then g.S.EawStore.tells V g.S.EawStore.calls key top.page top.level top.pairs.items old c.args.change.tid due (Some leaf.page) (false) v2.store (v2.store) leaf.page leaf.level leaf.pairs.items here due (λ told. refl) (leaf.page ∷ []) (λ p among. one_met leaf.page top.page (onwards here.read) here.met p among) (ends_none g.S.EawStore.tells V g.S.EawStore.calls c.args.change.tid due (Some leaf.page) false key (leaf.page ∷ []) v2.store (subst (λ (sh : Shape). c.in_ok-leaf.leaf.page < page_count sh) (sym c.in_ok-leaf.ensures.looks.shape) (omega (arith, c.in_ok-leaf.ensures.read.inside)), inl refl) (λ told yes. absurd (false≢true yes)))

pub returns-then-len-gt1-clause-works : goal.returns-then-len-gt1-clause-works
returns-then-len-gt1-clause-works g c =
    let V = g.S.EawStore.view in
    let T = g.S.EawStore.tells in
    let E = g.S.EawStore.opens in
    let root = c.args.change.root in
    let key = c.args.change.key in
    let top = c.args.top in
    let old = c.args.pages.now.store in
    let v0 = pages_of (V old) c.args.pages.now in
    let v1 = pages_of (V c.fetch_parent.new.pages.store) c.fetch_parent.new.pages in
    let due = removal_actions (tree_removal v0.store.state.bytes root.page key) in
    let v2 = pages_of (V c.fetch_child.new.pages.store) c.fetch_child.new.pages in
    let fits : c.args.change.key < 2 ^ 64 = omega arith in
    let parent = c.in_ok-parent.parent in
    let came = c.in_ok-parent.ensures.down in
    let inner : c.in_ok-parent.parent.level ≢ 0 = λ e. omega (arith, e, c.in_ok-parent.ensures.level) in
    let leaf = c.in_ok-leaf.leaf in
    let here = came_child g.S.EawStore.tells V g.S.EawStore.calls key top.page top.level top.pairs.items old c.fetch_parent.new.pages.store c.fetch_child.new.pages.store parent.page parent.level parent.pairs.items came inner leaf c.in_ok-leaf.ensures.reads c.in_ok-leaf.ensures.looks.shape c.in_ok-leaf.ensures.child c.in_ok-leaf.ensures.level in
    let looks = both_looks T E root key fits v0 v1 v2 c.in_ok-parent.ensures.looks c.in_ok-leaf.ensures.looks c.requires.may.sound c.requires.may.named parent.page parent.level parent.pairs.items c.in_ok-parent.ensures.level c.in_ok-parent.ensures.reached leaf.page leaf.level leaf.pairs.items c.in_ok-leaf.ensures.child c.in_ok-leaf.ensures.level c.in_ok-leaf.ensures.pairs in
    let same = λ (told : IsTrue g.S.EawStore.tells). ap (λ (b : List ℕ). removal_actions (tree_removal b c.args.change.root.page c.args.change.key)) (bytes_same g.S.EawStore.tells (g.S.EawStore.opens v0.store.shape) v0 v2 looks told) in
    let due2 = removal_actions (tree_removal v2.store.state.bytes root.page key) in
    down_then g.S.EawStore.tells V g.S.EawStore.calls key top.page top.level top.pairs.items old c.args.change.tid due (blamed c.lose_pair.result) (is_done c.lose_pair.result) v2.store (V c.lose_pair.new.pages.store) leaf.page leaf.level leaf.pairs.items here due2 same [] (λ p among. absurd among) (c.lose_pair.ensures.works)

pub returns-in-Some-place_behind-clause-works : goal.returns-in-Some-place_behind-clause-works
returns-in-Some-place_behind-clause-works g c =
    let V = g.S.EawStore.view in
    let T = g.S.EawStore.tells in
    let E = g.S.EawStore.opens in
    let root = c.args.change.root in
    let key = c.args.change.key in
    let top = c.args.top in
    let old = c.args.pages.now.store in
    let v0 = pages_of (V old) c.args.pages.now in
    let v1 = pages_of (V c.fetch_parent.new.pages.store) c.fetch_parent.new.pages in
    let due = removal_actions (tree_removal v0.store.state.bytes root.page key) in
    let v2 = pages_of (V c.fetch_child.new.pages.store) c.fetch_child.new.pages in
    let fits : c.args.change.key < 2 ^ 64 = omega arith in
    let parent = c.in_ok-parent.parent in
    let came = c.in_ok-parent.ensures.down in
    let inner : c.in_ok-parent.parent.level ≢ 0 = λ e. omega (arith, e, c.in_ok-parent.ensures.level) in
    let leaf = c.in_ok-leaf.leaf in
    let here = came_child g.S.EawStore.tells V g.S.EawStore.calls key top.page top.level top.pairs.items old c.fetch_parent.new.pages.store c.fetch_child.new.pages.store parent.page parent.level parent.pairs.items came inner leaf c.in_ok-leaf.ensures.reads c.in_ok-leaf.ensures.looks.shape c.in_ok-leaf.ensures.child c.in_ok-leaf.ensures.level in
    let looks = both_looks T E root key fits v0 v1 v2 c.in_ok-parent.ensures.looks c.in_ok-leaf.ensures.looks c.requires.may.sound c.requires.may.named parent.page parent.level parent.pairs.items c.in_ok-parent.ensures.level c.in_ok-parent.ensures.reached leaf.page leaf.level leaf.pairs.items c.in_ok-leaf.ensures.child c.in_ok-leaf.ensures.level c.in_ok-leaf.ensures.pairs in
    let same = λ (told : IsTrue g.S.EawStore.tells). ap (λ (b : List ℕ). removal_actions (tree_removal b c.args.change.root.page c.args.change.key)) (bytes_same g.S.EawStore.tells (g.S.EawStore.opens v0.store.shape) v0 v2 looks told) in
    let due2 = removal_actions (tree_removal v2.store.state.bytes root.page key) in
    down_then g.S.EawStore.tells V g.S.EawStore.calls key top.page top.level top.pairs.items old c.args.change.tid due (blamed c.join_right.result) (is_done c.join_right.result) v2.store (V c.join_right.new.pages.store) leaf.page leaf.level leaf.pairs.items here due2 same (parent.page ∷ []) (λ p among. one_met parent.page top.page (onwards here.read) (elim came.met [ inl e ↦ inl e | inr met ↦ inr (inr met) ]) p among) (c.join_right.ensures.works)

pub returns-then-len-gt1-2-clause-works : goal.returns-then-len-gt1-2-clause-works
returns-then-len-gt1-2-clause-works g c =
    let V = g.S.EawStore.view in
    let T = g.S.EawStore.tells in
    let E = g.S.EawStore.opens in
    let root = c.args.change.root in
    let key = c.args.change.key in
    let top = c.args.top in
    let old = c.args.pages.now.store in
    let v0 = pages_of (V old) c.args.pages.now in
    let v1 = pages_of (V c.fetch_parent.new.pages.store) c.fetch_parent.new.pages in
    let due = removal_actions (tree_removal v0.store.state.bytes root.page key) in
    let v2 = pages_of (V c.fetch_child.new.pages.store) c.fetch_child.new.pages in
    let fits : c.args.change.key < 2 ^ 64 = omega arith in
    let parent = c.in_ok-parent.parent in
    let came = c.in_ok-parent.ensures.down in
    let inner : c.in_ok-parent.parent.level ≢ 0 = λ e. omega (arith, e, c.in_ok-parent.ensures.level) in
    let leaf = c.in_ok-leaf.leaf in
    let here = came_child g.S.EawStore.tells V g.S.EawStore.calls key top.page top.level top.pairs.items old c.fetch_parent.new.pages.store c.fetch_child.new.pages.store parent.page parent.level parent.pairs.items came inner leaf c.in_ok-leaf.ensures.reads c.in_ok-leaf.ensures.looks.shape c.in_ok-leaf.ensures.child c.in_ok-leaf.ensures.level in
    let looks = both_looks T E root key fits v0 v1 v2 c.in_ok-parent.ensures.looks c.in_ok-leaf.ensures.looks c.requires.may.sound c.requires.may.named parent.page parent.level parent.pairs.items c.in_ok-parent.ensures.level c.in_ok-parent.ensures.reached leaf.page leaf.level leaf.pairs.items c.in_ok-leaf.ensures.child c.in_ok-leaf.ensures.level c.in_ok-leaf.ensures.pairs in
    let same = λ (told : IsTrue g.S.EawStore.tells). ap (λ (b : List ℕ). removal_actions (tree_removal b c.args.change.root.page c.args.change.key)) (bytes_same g.S.EawStore.tells (g.S.EawStore.opens v0.store.shape) v0 v2 looks told) in
    let due2 = removal_actions (tree_removal v2.store.state.bytes root.page key) in
    down_then g.S.EawStore.tells V g.S.EawStore.calls key top.page top.level top.pairs.items old c.args.change.tid due (blamed c.leave_parent.result) (is_done c.leave_parent.result) v2.store (V c.leave_parent.new.pages.store) leaf.page leaf.level leaf.pairs.items here due2 same (leaf.page ∷ []) (λ p among. one_met leaf.page top.page (onwards here.read) here.met p among) (c.leave_parent.ensures.works)

pub returns-clause-works : goal.returns-clause-works
returns-clause-works g c =
    let V = g.S.EawStore.view in
    let T = g.S.EawStore.tells in
    let E = g.S.EawStore.opens in
    let root = c.args.change.root in
    let key = c.args.change.key in
    let top = c.args.top in
    let old = c.args.pages.now.store in
    let v0 = pages_of (V old) c.args.pages.now in
    let v1 = pages_of (V c.fetch_parent.new.pages.store) c.fetch_parent.new.pages in
    let due = removal_actions (tree_removal v0.store.state.bytes root.page key) in
    let v2 = pages_of (V c.fetch_child.new.pages.store) c.fetch_child.new.pages in
    let fits : c.args.change.key < 2 ^ 64 = omega arith in
    let parent = c.in_ok-parent.parent in
    let came = c.in_ok-parent.ensures.down in
    let inner : c.in_ok-parent.parent.level ≢ 0 = λ e. omega (arith, e, c.in_ok-parent.ensures.level) in
    let leaf = c.in_ok-leaf.leaf in
    let here = came_child g.S.EawStore.tells V g.S.EawStore.calls key top.page top.level top.pairs.items old c.fetch_parent.new.pages.store c.fetch_child.new.pages.store parent.page parent.level parent.pairs.items came inner leaf c.in_ok-leaf.ensures.reads c.in_ok-leaf.ensures.looks.shape c.in_ok-leaf.ensures.child c.in_ok-leaf.ensures.level in
    let looks = both_looks T E root key fits v0 v1 v2 c.in_ok-parent.ensures.looks c.in_ok-leaf.ensures.looks c.requires.may.sound c.requires.may.named parent.page parent.level parent.pairs.items c.in_ok-parent.ensures.level c.in_ok-parent.ensures.reached leaf.page leaf.level leaf.pairs.items c.in_ok-leaf.ensures.child c.in_ok-leaf.ensures.level c.in_ok-leaf.ensures.pairs in
    let same = λ (told : IsTrue g.S.EawStore.tells). ap (λ (b : List ℕ). removal_actions (tree_removal b c.args.change.root.page c.args.change.key)) (bytes_same g.S.EawStore.tells (g.S.EawStore.opens v0.store.shape) v0 v2 looks told) in
    let due2 = removal_actions (tree_removal v2.store.state.bytes root.page key) in
    let few : length c.in_ok-leaf.leaf.pairs.items ≤ 1 = omega (arith, c.len.ensures.value, c.if-len-gt1.false) in
    let only : length c.in_ok-parent.parent.pairs.items ≤ 1 = omega (arith, c.len-2.ensures.value, c.if-len-gt1-2.false) in
    let stays = stays_here T E root key fits v0 v1 v2 c.in_ok-parent.ensures.looks c.in_ok-leaf.ensures.looks c.requires.may.sound c.requires.may.named parent.page parent.level parent.pairs.items c.in_ok-parent.ensures.level c.in_ok-parent.ensures.reached leaf.page leaf.level leaf.pairs.items c.in_ok-leaf.ensures.child c.in_ok-leaf.ensures.level c.in_ok-leaf.ensures.pairs few only in
    down_then g.S.EawStore.tells V g.S.EawStore.calls key top.page top.level top.pairs.items old c.args.change.tid due (None) (true) v2.store (v2.store) leaf.page leaf.level leaf.pairs.items here due (λ told. refl) [] (λ p among. absurd among) (ends_none g.S.EawStore.tells V g.S.EawStore.calls c.args.change.tid due None true key [] v2.store tt (λ told yes. ap removal_actions (stays told)))

pub returns-in_err-leaf-clause-removes : goal.returns-in_err-leaf-clause-removes
returns-in_err-leaf-clause-removes g c =
    let exit = err_from_is_err_and c.from_residual-in_err-leaf.result c.from_residual-in_err-leaf.ensures.1 in
    rw (exit.1, exit.2) (
    let T = g.S.EawStore.tells in
    let V = g.S.EawStore.view in
    let E = g.S.EawStore.opens in
    let v0 = pages_of (V c.args.pages.now.store) c.args.pages.now in
    let v1 = pages_of (V c.fetch_parent.new.pages.store) c.fetch_parent.new.pages in
    let v2 = pages_of (V c.fetch_child.new.pages.store) c.fetch_child.new.pages in
    let r : Result Bool PageFault = Err c.in_err-leaf.field-0.0 in
    removes_then T E tree c.args.change.tid c.args.change.root.page c.args.change.key v0 v1 v2 c.in_ok-parent.ensures.looks c.requires.may.alive r
    (removes_look_err T (E v1.store.shape) tree c.args.change.tid c.args.change.root.page c.args.change.key Node v1 v2 c.in_err-leaf.field-0.0 (c.in_err-leaf.ensures.looks, c.in_err-leaf.ensures.cause)))
