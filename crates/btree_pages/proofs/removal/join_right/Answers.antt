use Rattle.std.proofs.Common.{◌≡◌, ◌≢◌, ◌<◌, ◌^◌, ℕ, Bool, true, List, Option, Some, Result, Ok, Err, ◌∙◌, ap, subst, arith, false, [], ◌∷◌, None, IsTrue, refl, sym}
use Rattle.array_shape.specs.declared.shape.Shape.{Shape}
use Rattle.page_store.specs.Index.{IsTable, index_pages_of, Action}
use Rattle.page_store.specs.Pairs.{Pair, found}
use Rattle.page_store.specs.Shown.{pages_of}
use Rattle.page_store.specs.declared.fault.PageFault.{PageFault}
use Rattle.index_pages.specs.Acts.{Acts}
use Rattle.index_pages.specs.Page.{page_pairs, count_of}
use Rattle.index_pages.proofs.Faulting.{dead_look}
use Rattle.index_pages.proofs.Removals.{removes_then, removes_look_err, removes_damaged}
use Rattle.btree_laws.specs.Removals.{without_right, right_of}
use Rattle.btree_laws.specs.Tree.{pairs_of_tree}
use Rattle.btree_pages.specs.Index.{tree, AreSoundTrees, tree_removal}
use Rattle.btree_pages.specs.OnWay.{IsReached}
use Rattle.btree_pages.specs.Writes.{IsRead, Releases, joining_pages, joining_parts}
use Rattle.btree_pages.specs.declared.node.Node.{Node}
use Rattle.btree_pages.proofs.Ending.{join_done, join_err, join_takes_told}
use Rattle.btree_pages.proofs.Giveable.{right_may}
use Rattle.btree_pages.proofs.Looked.{still_told, still_alive, still_shaped, bytes_same}
use Rattle.btree_pages.proofs.Nexting.{error_is}
use Rattle.eaw_face.specs.StoreView.{log_len}
use Rattle.page_store.specs.Runs.{acting_of}
use Rattle.page_store.specs.Works.{blamed, removal_actions, WorksFrom}
use Rattle.array_shape.specs.Places.{page_count}
use Rattle.page_store.specs.Course.{Reading}
use Rattle.page_store.specs.Follows.{HasRead}
use Rattle.btree_pages.specs.Downward.{below}
use Rattle.btree_pages.specs.Steps.{limits_down}
use Rattle.index_pages.proofs.Working.{act_blames}
use Rattle.btree_pages.proofs.Removing.{joining_in, act_beside, beside_bad, beside_fails}
use Rattle.std.proofs.lemmas.Result.{err_from_is_err_and}
use Rattle.btree_pages.proofs.removal.join_right.Goals as goal

pub returns-in_err-right-clause-removes : goal.returns-in_err-right-clause-removes
returns-in_err-right-clause-removes g c =
    let exit = err_from_is_err_and c.from_residual.result c.from_residual.ensures.1 in
    rw (exit.1, exit.2) (
    let V = g.S.EawStore.view in
    let v0 = pages_of (V c.args.pages.now.store) c.args.pages.now in
    let v1 = pages_of (V c.fetch_right.new.pages.store) c.fetch_right.new.pages in
    removes_look_err g.S.EawStore.tells (g.S.EawStore.opens v0.store.shape) tree c.args.change.tid c.args.change.root.page c.args.change.key Node v0 v1 c.in_err-right.field-0.0 (c.in_err-right.ensures.looks, c.in_err-right.ensures.cause))

pub returns-in_err-right-clause-dead : goal.returns-in_err-right-clause-dead
returns-in_err-right-clause-dead g c =
    let exit = err_from_is_err_and c.from_residual.result c.from_residual.ensures.1 in
    rw (exit.1, exit.2) (λ told. dead_look Node g.S.EawStore.tells (g.S.EawStore.view c.args.pages.now.store) c.in_err-right.field-0.0 c.requires.may.alive (error_is _ _ told) c.in_err-right.ensures.cause)

pub returns-in_default-clause-removes : goal.returns-in_default-clause-removes
returns-in_default-clause-removes g c =
    let V = g.S.EawStore.view in
    let v0 = pages_of (V c.args.pages.now.store) c.args.pages.now in
    let v1 = pages_of (V c.fetch_right.new.pages.store) c.fetch_right.new.pages in
    let fits : c.args.change.key < 2 ^ 64 = omega arith in
    let right = c.in_ok-right.right in
    let some : c.in_ok-right.right.page ≢ 0 = λ none. (let least = c.in_ok-right.ensures.read.some in omega (arith, least, none, c.in_ok-right.ensures.page)) in
    removes_damaged g.S.EawStore.tells (g.S.EawStore.opens v0.store.shape) tree c.args.change.tid c.args.change.root.page c.args.change.key v0 v1 right.page c.in_ok-right.ensures.looks c.requires.may.alive
    (λ told. c.in_default.ensures.none (right_may c.args.change.root v0.store.state.bytes c.args.change.key fits (c.requires.may.sound told) (c.requires.may.named told) c.args.parent.page c.args.parent.level c.args.parent.pairs.items c.requires.lone.level_is (c.requires.lone.reached told)
    c.args.slot.now.number c.args.slot.now.free c.args.slot.now.front (c.requires.released told) right.page c.in_ok-right.ensures.page some))

pub join_leaves-requires-clause-closed : goal.join_leaves-requires-clause-closed
join_leaves-requires-clause-closed g c = λ alive. ap (λ (f : ℕ → Option ℕ). f c.args.change.tid) c.in_ok-right.ensures.looks.tops ∙ c.requires.may.closed

pub returns-clause-removes : goal.returns-clause-removes
returns-clause-removes g c =
    let T = g.S.EawStore.tells in
    let V = g.S.EawStore.view in
    let E = g.S.EawStore.opens in
    let v0 = pages_of (V c.args.pages.now.store) c.args.pages.now in
    let v1 = pages_of (V c.fetch_right.new.pages.store) c.fetch_right.new.pages in
    let v2 = pages_of (V c.join_leaves.new.pages.store) c.join_leaves.new.pages in
    let fits : c.args.change.key < 2 ^ 64 = omega arith in
    let looks = c.in_ok-right.ensures.looks in
    let right = c.in_ok-right.right in
    let freed = c.in-Some.freed in
    let gives = c.in-Some.ensures.gives.1 in
    let left : c.without_place.result.items ≡ without_right c.args.parent.pairs.items c.args.change.key = c.without_place.ensures ∙ c.requires.leaves in
    let done : Result Bool PageFault = Ok true in
    let acted : Result (Unit {0}) PageFault = Ok tt in
    removes_then T E tree c.args.change.tid c.args.change.root.page c.args.change.key v0 v1 v2 looks c.requires.may.alive done
    (join_done T E c.args.change.tid c.args.change.root c.args.change.key v1 fits (still_alive T (E v0.store.shape) v0 v1 looks c.requires.may.alive) (λ told. g.met.S.EawStore.long c.fetch_right.new.pages.store told)
    (still_told T (E v0.store.shape) v0 v1 looks AreSoundTrees c.requires.may.sound) (still_told T (E v0.store.shape) v0 v1 looks (λ (b : List ℕ). IsTable b c.args.change.root.table c.args.change.root.page) c.requires.may.named)
    c.args.slot.now.number c.args.slot.now.free c.args.slot.now.front (still_told T (E v0.store.shape) v0 v1 looks (λ (b : List ℕ). Releases b c.args.slot.now.number c.args.slot.now.free c.args.slot.now.front) c.requires.released) v2
    (still_told T (E v0.store.shape) v0 v1 looks (λ (b : List ℕ). found (pairs_of_tree b c.args.change.root.page) c.args.change.key ≡ Some c.args.slot.now.number) c.requires.lone.finds)
    c.args.leaf c.args.parent.page c.args.parent.level c.args.parent.pairs.items c.requires.lone.leaf_is (still_told T (E v0.store.shape) v0 v1 looks (λ (b : List ℕ). count_of b c.args.leaf ≡ 1) c.requires.lone.alone)
    (still_shaped T (E v0.store.shape) v0 v1 looks (λ (sh : Shape). IsRead sh c.args.parent.page c.args.parent.level c.args.parent.pairs.items) c.requires.lone.parent) c.requires.lone.level_is
    (still_told T (E v0.store.shape) v0 v1 looks (λ (b : List ℕ). IsReached c.args.change.root b c.args.change.key c.args.parent.page c.args.parent.level c.args.parent.pairs.items) c.requires.lone.reached)
    right.page right.level c.in_ok-right.ensures.page right.pairs.items (still_shaped T (E v0.store.shape) v0 v1 looks (λ (sh : Shape). IsRead sh c.in_ok-right.right.page c.in_ok-right.right.level c.in_ok-right.right.pairs.items) c.in_ok-right.ensures.read)
    (still_told T (E v0.store.shape) v0 v1 looks (λ (b : List ℕ). c.in_ok-right.right.pairs.items ≡ page_pairs b c.in_ok-right.right.page) c.in_ok-right.ensures.pairs)
    freed.free freed.front gives
    (subst (λ (x : ℕ × List Pair). Acts T (E v1.store.shape) c.args.change.tid (joining_pages (index_pages_of v1.store.shape) c.args.slot.now.number c.args.leaf c.args.parent.page x.0)
    (joining_parts (index_pages_of v1.store.shape) c.in-Some.freed.front c.args.slot.now.number c.args.slot.now.free c.args.leaf c.in_ok-right.right.pairs.items c.args.parent.page x.1 x.0 c.in-Some.freed.free) v1 v2 acted)
    (λ i. (c.in-Some.ensures.gives.0 i, left i)) c.in_ok-join_leaves.ensures.acts))

pub returns-in_err-join_leaves-clause-removes : goal.returns-in_err-join_leaves-clause-removes
returns-in_err-join_leaves-clause-removes g c =
    let exit = err_from_is_err_and c.from_residual-in_err-join_leaves.result c.from_residual-in_err-join_leaves.ensures.1 in
    rw (exit.1, exit.2) (
    let T = g.S.EawStore.tells in
    let V = g.S.EawStore.view in
    let E = g.S.EawStore.opens in
    let v0 = pages_of (V c.args.pages.now.store) c.args.pages.now in
    let v1 = pages_of (V c.fetch_right.new.pages.store) c.fetch_right.new.pages in
    let v2 = pages_of (V c.join_leaves.new.pages.store) c.join_leaves.new.pages in
    let fits : c.args.change.key < 2 ^ 64 = omega arith in
    let looks = c.in_ok-right.ensures.looks in
    let right = c.in_ok-right.right in
    let freed = c.in-Some.freed in
    let fault = c.in_err-join_leaves.field-0.0 in
    let gives = c.in-Some.ensures.gives.1 in
    let left : c.without_place.result.items ≡ without_right c.args.parent.pairs.items c.args.change.key = c.without_place.ensures ∙ c.requires.leaves in
    let done : Result Bool PageFault = Err c.in_err-join_leaves.field-0.0 in
    let acted : Result (Unit {0}) PageFault = Err c.in_err-join_leaves.field-0.0 in
    removes_then T E tree c.args.change.tid c.args.change.root.page c.args.change.key v0 v1 v2 looks c.requires.may.alive done
    (join_err T E c.args.change.tid c.args.change.root c.args.change.key v1 fits (still_alive T (E v0.store.shape) v0 v1 looks c.requires.may.alive) (λ told. g.met.S.EawStore.long c.fetch_right.new.pages.store told)
    (still_told T (E v0.store.shape) v0 v1 looks AreSoundTrees c.requires.may.sound) (still_told T (E v0.store.shape) v0 v1 looks (λ (b : List ℕ). IsTable b c.args.change.root.table c.args.change.root.page) c.requires.may.named)
    c.args.slot.now.number c.args.slot.now.free c.args.slot.now.front (still_told T (E v0.store.shape) v0 v1 looks (λ (b : List ℕ). Releases b c.args.slot.now.number c.args.slot.now.free c.args.slot.now.front) c.requires.released) v2
    (still_told T (E v0.store.shape) v0 v1 looks (λ (b : List ℕ). found (pairs_of_tree b c.args.change.root.page) c.args.change.key ≡ Some c.args.slot.now.number) c.requires.lone.finds)
    c.args.leaf c.args.parent.page c.args.parent.level c.args.parent.pairs.items c.requires.lone.leaf_is (still_told T (E v0.store.shape) v0 v1 looks (λ (b : List ℕ). count_of b c.args.leaf ≡ 1) c.requires.lone.alone)
    (still_shaped T (E v0.store.shape) v0 v1 looks (λ (sh : Shape). IsRead sh c.args.parent.page c.args.parent.level c.args.parent.pairs.items) c.requires.lone.parent) c.requires.lone.level_is
    (still_told T (E v0.store.shape) v0 v1 looks (λ (b : List ℕ). IsReached c.args.change.root b c.args.change.key c.args.parent.page c.args.parent.level c.args.parent.pairs.items) c.requires.lone.reached)
    right.page right.level c.in_ok-right.ensures.page right.pairs.items (still_shaped T (E v0.store.shape) v0 v1 looks (λ (sh : Shape). IsRead sh c.in_ok-right.right.page c.in_ok-right.right.level c.in_ok-right.right.pairs.items) c.in_ok-right.ensures.read)
    (still_told T (E v0.store.shape) v0 v1 looks (λ (b : List ℕ). c.in_ok-right.right.pairs.items ≡ page_pairs b c.in_ok-right.right.page) c.in_ok-right.ensures.pairs)
    freed.free freed.front gives fault
    (subst (λ (x : ℕ × List Pair). Acts T (E v1.store.shape) c.args.change.tid (joining_pages (index_pages_of v1.store.shape) c.args.slot.now.number c.args.leaf c.args.parent.page x.0)
    (joining_parts (index_pages_of v1.store.shape) c.in-Some.freed.front c.args.slot.now.number c.args.slot.now.free c.args.leaf c.in_ok-right.right.pairs.items c.args.parent.page x.1 x.0 c.in-Some.freed.free) v1 v2 acted)
    (λ i. (c.in-Some.ensures.gives.0 i, left i)) c.in_err-join_leaves.ensures.acts)))

pub returns-in_err-right-clause-works : goal.returns-in_err-right-clause-works
returns-in_err-right-clause-works g c =
    let exit = err_from_is_err_and c.from_residual.result c.from_residual.ensures.1 in
    rw (exit.1, exit.2) (
    let V = g.S.EawStore.view in
    let v0 = pages_of (V c.args.pages.now.store) c.args.pages.now in
    let v1 = pages_of (V c.fetch_right.new.pages.store) c.fetch_right.new.pages in
    let named = right_of c.args.parent.pairs.items c.args.change.key in
    let due = removal_actions (tree_removal v0.store.state.bytes c.args.change.root.page c.args.change.key) in
    beside_fails g.S.EawStore.tells V g.S.EawStore.calls c.args.change.tid c.args.change.key c.args.parent.page named due c.args.pages.now.store (g.S.EawStore.calls c.fetch_right.new.pages.store) v1.store c.in_err-right.field-0.0 (omega (arith, c.requires.lone.parent.inside)) c.in_err-right.ensures.reads)

pub returns-in_default-clause-works : goal.returns-in_default-clause-works
returns-in_default-clause-works g c =
    let V = g.S.EawStore.view in
    let v0 = pages_of (V c.args.pages.now.store) c.args.pages.now in
    let v1 = pages_of (V c.fetch_right.new.pages.store) c.fetch_right.new.pages in
    let named = right_of c.args.parent.pairs.items c.args.change.key in
    let due = removal_actions (tree_removal v0.store.state.bytes c.args.change.root.page c.args.change.key) in
    let reads = subst (λ (rs : List Reading). HasRead g.S.EawStore.tells false (g.S.EawStore.calls c.args.pages.now.store) (g.S.EawStore.calls c.fetch_right.new.pages.store) v0.store v1.store rs) c.in_ok-right.ensures.reads.says.1 c.in_ok-right.ensures.reads.reads in
    let there : right_of c.args.parent.pairs.items c.args.change.key < page_count v0.store.shape = omega (arith, c.in_ok-right.ensures.page, c.in_ok-right.ensures.read.inside) in
    subst (λ (p : ℕ). WorksFrom (c.args.parent.page ∷ []) (Unit {0}) g.S.EawStore.tells false V g.S.EawStore.calls c.args.change.tid (below c.args.change.key 0 []) (limits_down 0) due (Some p) v0.store v1.store) (sym c.in_ok-right.ensures.page)
    (beside_bad g.S.EawStore.tells V g.S.EawStore.calls c.args.change.tid c.args.change.key c.args.parent.page named due c.args.pages.now.store (g.S.EawStore.calls c.fetch_right.new.pages.store) v1.store c.in_ok-right.ensures.reads.says.0 there reads)

pub returns-clause-works : goal.returns-clause-works
returns-clause-works g c =
    let V = g.S.EawStore.view in
    let v0 = pages_of (V c.args.pages.now.store) c.args.pages.now in
    let v1 = pages_of (V c.fetch_right.new.pages.store) c.fetch_right.new.pages in
    let named = right_of c.args.parent.pairs.items c.args.change.key in
    let due = removal_actions (tree_removal v0.store.state.bytes c.args.change.root.page c.args.change.key) in
    let reads = subst (λ (rs : List Reading). HasRead g.S.EawStore.tells false (g.S.EawStore.calls c.args.pages.now.store) (g.S.EawStore.calls c.fetch_right.new.pages.store) v0.store v1.store rs) c.in_ok-right.ensures.reads.says.1 c.in_ok-right.ensures.reads.reads in
    let v2 = pages_of (V c.join_leaves.new.pages.store) c.join_leaves.new.pages in
    let fits : c.args.change.key < 2 ^ 64 = omega arith in
    let looks = c.in_ok-right.ensures.looks in
    let right = c.in_ok-right.right in
    let freed = c.in-Some.freed in
    let gives = c.in-Some.ensures.gives in
    let T = g.S.EawStore.tells in
    let E = g.S.EawStore.opens in
    let half = index_pages_of v1.store.shape in
    let slot = c.args.slot.now in
    let parent = c.args.parent in
    let mark = log_len v1.store c.args.change.tid in
    let action : Action = record { pages = joining_pages half slot.number c.args.leaf parent.page freed.number; takes = 0 } in
    let parts = joining_parts half freed.front slot.number slot.free c.args.leaf right.pairs.items parent.page c.without_place.result.items freed.number freed.free in
    let is = λ (told : IsTrue g.S.EawStore.tells). (λ i. (let a : Action = record { pages = joining_pages half slot.number c.args.leaf parent.page (gives.0 i); takes = 0 } in a ∷ []))
    ∙ ap removal_actions (sym (join_takes_told T E c.args.change.tid c.args.change.root c.args.change.key v1 fits (still_alive T (E v0.store.shape) v0 v1 looks c.requires.may.alive) (λ tell. g.met.S.EawStore.long c.fetch_right.new.pages.store tell)
    (still_told T (E v0.store.shape) v0 v1 looks AreSoundTrees c.requires.may.sound) (still_told T (E v0.store.shape) v0 v1 looks (λ (b : List ℕ). IsTable b c.args.change.root.table c.args.change.root.page) c.requires.may.named)
    slot.number slot.free slot.front (still_told T (E v0.store.shape) v0 v1 looks (λ (b : List ℕ). Releases b c.args.slot.now.number c.args.slot.now.free c.args.slot.now.front) c.requires.released) v2
    (still_told T (E v0.store.shape) v0 v1 looks (λ (b : List ℕ). found (pairs_of_tree b c.args.change.root.page) c.args.change.key ≡ Some c.args.slot.now.number) c.requires.lone.finds)
    c.args.leaf parent.page parent.level parent.pairs.items c.requires.lone.leaf_is (still_told T (E v0.store.shape) v0 v1 looks (λ (b : List ℕ). count_of b c.args.leaf ≡ 1) c.requires.lone.alone)
    (still_shaped T (E v0.store.shape) v0 v1 looks (λ (sh : Shape). IsRead sh c.args.parent.page c.args.parent.level c.args.parent.pairs.items) c.requires.lone.parent) c.requires.lone.level_is
    (still_told T (E v0.store.shape) v0 v1 looks (λ (b : List ℕ). IsReached c.args.change.root b c.args.change.key c.args.parent.page c.args.parent.level c.args.parent.pairs.items) c.requires.lone.reached)
    right.page right.level c.in_ok-right.ensures.page right.pairs.items (still_shaped T (E v0.store.shape) v0 v1 looks (λ (sh : Shape). IsRead sh c.in_ok-right.right.page c.in_ok-right.right.level c.in_ok-right.right.pairs.items) c.in_ok-right.ensures.read)
    (still_told T (E v0.store.shape) v0 v1 looks (λ (b : List ℕ). c.in_ok-right.right.pairs.items ≡ page_pairs b c.in_ok-right.right.page) c.in_ok-right.ensures.pairs)
    freed.free freed.front gives.1 told))
    ∙ ap (λ (b : List ℕ). removal_actions (tree_removal b c.args.change.root.page c.args.change.key)) (bytes_same T (E v0.store.shape) v0 v1 looks told) in
    let r : Result (Unit {0}) PageFault = Ok tt in
    act_beside g.S.EawStore.tells V g.S.EawStore.calls c.args.change.tid due (None) c.args.change.key (c.args.parent.page ∷ []) c.args.pages.now action (acting_of c.args.change.tid mark parts) (mark, parts, refl, joining_in half freed.front slot.number slot.free c.args.leaf right.pairs.items parent.page c.without_place.result.items freed.number freed.free) refl is
    c.args.pages.now.store (g.S.EawStore.calls c.fetch_right.new.pages.store) named c.in_ok-right.ensures.reads.says.0 r v1.store v2.store reads c.in_ok-join_leaves.ensures.runs

pub returns-in_err-join_leaves-clause-works : goal.returns-in_err-join_leaves-clause-works
returns-in_err-join_leaves-clause-works g c =
    let exit = err_from_is_err_and c.from_residual-in_err-join_leaves.result c.from_residual-in_err-join_leaves.ensures.1 in
    rw (exit.1, exit.2) (
    let V = g.S.EawStore.view in
    let v0 = pages_of (V c.args.pages.now.store) c.args.pages.now in
    let v1 = pages_of (V c.fetch_right.new.pages.store) c.fetch_right.new.pages in
    let named = right_of c.args.parent.pairs.items c.args.change.key in
    let due = removal_actions (tree_removal v0.store.state.bytes c.args.change.root.page c.args.change.key) in
    let reads = subst (λ (rs : List Reading). HasRead g.S.EawStore.tells false (g.S.EawStore.calls c.args.pages.now.store) (g.S.EawStore.calls c.fetch_right.new.pages.store) v0.store v1.store rs) c.in_ok-right.ensures.reads.says.1 c.in_ok-right.ensures.reads.reads in
    let v2 = pages_of (V c.join_leaves.new.pages.store) c.join_leaves.new.pages in
    let fits : c.args.change.key < 2 ^ 64 = omega arith in
    let looks = c.in_ok-right.ensures.looks in
    let right = c.in_ok-right.right in
    let freed = c.in-Some.freed in
    let gives = c.in-Some.ensures.gives in
    let T = g.S.EawStore.tells in
    let E = g.S.EawStore.opens in
    let half = index_pages_of v1.store.shape in
    let slot = c.args.slot.now in
    let parent = c.args.parent in
    let mark = log_len v1.store c.args.change.tid in
    let action : Action = record { pages = joining_pages half slot.number c.args.leaf parent.page freed.number; takes = 0 } in
    let parts = joining_parts half freed.front slot.number slot.free c.args.leaf right.pairs.items parent.page c.without_place.result.items freed.number freed.free in
    let is = λ (told : IsTrue g.S.EawStore.tells). (λ i. (let a : Action = record { pages = joining_pages half slot.number c.args.leaf parent.page (gives.0 i); takes = 0 } in a ∷ []))
    ∙ ap removal_actions (sym (join_takes_told T E c.args.change.tid c.args.change.root c.args.change.key v1 fits (still_alive T (E v0.store.shape) v0 v1 looks c.requires.may.alive) (λ tell. g.met.S.EawStore.long c.fetch_right.new.pages.store tell)
    (still_told T (E v0.store.shape) v0 v1 looks AreSoundTrees c.requires.may.sound) (still_told T (E v0.store.shape) v0 v1 looks (λ (b : List ℕ). IsTable b c.args.change.root.table c.args.change.root.page) c.requires.may.named)
    slot.number slot.free slot.front (still_told T (E v0.store.shape) v0 v1 looks (λ (b : List ℕ). Releases b c.args.slot.now.number c.args.slot.now.free c.args.slot.now.front) c.requires.released) v2
    (still_told T (E v0.store.shape) v0 v1 looks (λ (b : List ℕ). found (pairs_of_tree b c.args.change.root.page) c.args.change.key ≡ Some c.args.slot.now.number) c.requires.lone.finds)
    c.args.leaf parent.page parent.level parent.pairs.items c.requires.lone.leaf_is (still_told T (E v0.store.shape) v0 v1 looks (λ (b : List ℕ). count_of b c.args.leaf ≡ 1) c.requires.lone.alone)
    (still_shaped T (E v0.store.shape) v0 v1 looks (λ (sh : Shape). IsRead sh c.args.parent.page c.args.parent.level c.args.parent.pairs.items) c.requires.lone.parent) c.requires.lone.level_is
    (still_told T (E v0.store.shape) v0 v1 looks (λ (b : List ℕ). IsReached c.args.change.root b c.args.change.key c.args.parent.page c.args.parent.level c.args.parent.pairs.items) c.requires.lone.reached)
    right.page right.level c.in_ok-right.ensures.page right.pairs.items (still_shaped T (E v0.store.shape) v0 v1 looks (λ (sh : Shape). IsRead sh c.in_ok-right.right.page c.in_ok-right.right.level c.in_ok-right.right.pairs.items) c.in_ok-right.ensures.read)
    (still_told T (E v0.store.shape) v0 v1 looks (λ (b : List ℕ). c.in_ok-right.right.pairs.items ≡ page_pairs b c.in_ok-right.right.page) c.in_ok-right.ensures.pairs)
    freed.free freed.front gives.1 told))
    ∙ ap (λ (b : List ℕ). removal_actions (tree_removal b c.args.change.root.page c.args.change.key)) (bytes_same T (E v0.store.shape) v0 v1 looks told) in
    let r : Result (Unit {0}) PageFault = Err c.in_err-join_leaves.field-0.0 in
    let s : Result Bool PageFault = Err c.in_err-join_leaves.field-0.0 in
    act_beside g.S.EawStore.tells V g.S.EawStore.calls c.args.change.tid due (blamed s) c.args.change.key (c.args.parent.page ∷ []) c.args.pages.now action (acting_of c.args.change.tid mark parts) (mark, parts, refl, joining_in half freed.front slot.number slot.free c.args.leaf right.pairs.items parent.page c.without_place.result.items freed.number freed.free) (act_blames Bool v1.store c.args.change.tid (joining_pages half slot.number c.args.leaf parent.page freed.number) c.in_err-join_leaves.field-0.0 c.in_err-join_leaves.ensures.acts.cause) is
    c.args.pages.now.store (g.S.EawStore.calls c.fetch_right.new.pages.store) named c.in_ok-right.ensures.reads.says.0 r v1.store v2.store reads c.in_err-join_leaves.ensures.runs)
