use Rattle.std.proofs.Common.{◌≡◌, ◌<◌, ◌^◌, ℕ, List, Result, Ok, Err, subst, arith, Bool, false, [], ◌∷◌, None, Some, IsTrue, inl, refl, sym, ◌∙◌, ap}
use Rattle.page_store.specs.Index.{index_pages_of, Action}
use Rattle.page_store.specs.Pairs.{Pair}
use Rattle.page_store.specs.Shown.{pages_of}
use Rattle.page_store.specs.declared.fault.PageFault.{PageFault}
use Rattle.index_pages.specs.Acts.{Acts}
use Rattle.index_pages.proofs.Looking.{looks_none}
use Rattle.index_pages.proofs.Removals.{removes_damaged}
use Rattle.btree_laws.specs.Removals.{without_last}
use Rattle.btree_pages.specs.Index.{tree, tree_removal}
use Rattle.btree_pages.specs.Writes.{leaving_pages, leaving_parts}
use Rattle.btree_pages.proofs.Ending.{leave_done, leave_err, leave_takes_told}
use Rattle.btree_pages.proofs.Giveable.{leaf_may}
use Rattle.eaw_face.specs.StoreView.{log_len}
use Rattle.page_store.specs.Runs.{acting_of}
use Rattle.page_store.specs.Works.{blamed, removal_actions}
use Rattle.std.proofs.lemmas.Bool.{false≢true}
use Rattle.index_pages.proofs.Working.{act_blames}
use Rattle.btree_pages.proofs.Removing.{leaving_in, ends_none, act_alone}
use Rattle.std.proofs.lemmas.Result.{err_from_is_err_and}
use Rattle.btree_pages.proofs.removal.leave_parent.Goals as goal

pub returns-in_default-clause-removes : goal.returns-in_default-clause-removes
returns-in_default-clause-removes g c =
    let V = g.S.EawStore.view in
    let v0 = pages_of (V c.args.pages.now.store) c.args.pages.now in
    let fits : c.args.change.key < 2 ^ 64 = omega arith in
    removes_damaged g.S.EawStore.tells (g.S.EawStore.opens v0.store.shape) tree c.args.change.tid c.args.change.root.page c.args.change.key v0 v0 c.args.leaf (looks_none g.S.EawStore.tells (g.S.EawStore.opens v0.store.shape) v0) c.requires.may.alive
    (λ told. c.in_default.ensures.none (leaf_may c.args.change.root v0.store.state.bytes c.args.change.key fits (c.requires.may.sound told) (c.requires.may.named told) c.args.parent.page c.args.parent.level c.args.parent.pairs.items c.requires.lone.level_is (c.requires.lone.reached told)
    c.args.slot.now.number c.args.slot.now.free c.args.slot.now.front (c.requires.released told) c.args.leaf c.requires.lone.leaf_is))

pub returns-clause-removes : goal.returns-clause-removes
returns-clause-removes g c =
    let T = g.S.EawStore.tells in
    let V = g.S.EawStore.view in
    let E = g.S.EawStore.opens in
    let v0 = pages_of (V c.args.pages.now.store) c.args.pages.now in
    let v1 = pages_of (V c.drop_leaf.new.pages.store) c.drop_leaf.new.pages in
    let fits : c.args.change.key < 2 ^ 64 = omega arith in
    let freed = c.in-Some.freed in
    let gives = c.in-Some.ensures.gives.1 in
    let rest : c.without_end.result.items ≡ without_last c.args.parent.pairs.items = c.without_end.ensures in
    let acted : Result (Unit {0}) PageFault = Ok tt in
    leave_done T E c.args.change.tid c.args.change.root c.args.change.key v0 fits c.requires.may.alive (λ told. g.met.S.EawStore.long c.args.pages.now.store told) c.requires.may.sound c.requires.may.named
    c.args.slot.now.number c.args.slot.now.free c.args.slot.now.front c.requires.released v1 c.requires.lone.finds
    c.args.leaf c.args.parent.page c.args.parent.level c.args.parent.pairs.items c.requires.lone.leaf_is c.requires.lone.alone c.requires.lone.parent c.requires.lone.level_is c.requires.lone.reached
    c.requires.last c.requires.several freed.free freed.front gives
    (subst (λ (x : ℕ × List Pair). Acts T (E v0.store.shape) c.args.change.tid (leaving_pages (index_pages_of v0.store.shape) c.args.slot.now.number c.args.parent.page x.0)
    (leaving_parts (index_pages_of v0.store.shape) c.in-Some.freed.front c.args.slot.now.number c.args.slot.now.free c.args.parent.page x.1 x.0 c.in-Some.freed.free) v0 v1 acted)
    (λ i. (c.in-Some.ensures.gives.0 i, rest i)) c.in_ok-drop_leaf.ensures.acts)

pub returns-in_err-drop_leaf-clause-removes : goal.returns-in_err-drop_leaf-clause-removes
returns-in_err-drop_leaf-clause-removes g c =
    let exit = err_from_is_err_and c.from_residual.result c.from_residual.ensures.1 in
    rw (exit.1, exit.2) (
    let T = g.S.EawStore.tells in
    let V = g.S.EawStore.view in
    let E = g.S.EawStore.opens in
    let v0 = pages_of (V c.args.pages.now.store) c.args.pages.now in
    let v1 = pages_of (V c.drop_leaf.new.pages.store) c.drop_leaf.new.pages in
    let fits : c.args.change.key < 2 ^ 64 = omega arith in
    let freed = c.in-Some.freed in
    let gives = c.in-Some.ensures.gives.1 in
    let rest : c.without_end.result.items ≡ without_last c.args.parent.pairs.items = c.without_end.ensures in
    let acted : Result (Unit {0}) PageFault = Err c.in_err-drop_leaf.field-0.0 in
    leave_err T E c.args.change.tid c.args.change.root c.args.change.key v0 fits c.requires.may.alive (λ told. g.met.S.EawStore.long c.args.pages.now.store told) c.requires.may.sound c.requires.may.named
    c.args.slot.now.number c.args.slot.now.free c.args.slot.now.front c.requires.released v1 c.requires.lone.finds
    c.args.leaf c.args.parent.page c.args.parent.level c.args.parent.pairs.items c.requires.lone.leaf_is c.requires.lone.alone c.requires.lone.parent c.requires.lone.level_is c.requires.lone.reached
    c.requires.last c.requires.several freed.free freed.front gives c.in_err-drop_leaf.field-0.0
    (subst (λ (x : ℕ × List Pair). Acts T (E v0.store.shape) c.args.change.tid (leaving_pages (index_pages_of v0.store.shape) c.args.slot.now.number c.args.parent.page x.0)
    (leaving_parts (index_pages_of v0.store.shape) c.in-Some.freed.front c.args.slot.now.number c.args.slot.now.free c.args.parent.page x.1 x.0 c.in-Some.freed.free) v0 v1 acted)
    (λ i. (c.in-Some.ensures.gives.0 i, rest i)) c.in_err-drop_leaf.ensures.acts))

pub returns-in_default-clause-works : goal.returns-in_default-clause-works
returns-in_default-clause-works g c =
    let V = g.S.EawStore.view in
    let v0 = pages_of (V c.args.pages.now.store) c.args.pages.now in
    let due = removal_actions (tree_removal v0.store.state.bytes c.args.change.root.page c.args.change.key) in
    ends_none g.S.EawStore.tells V g.S.EawStore.calls c.args.change.tid due (Some c.args.leaf) false c.args.change.key (c.args.leaf ∷ []) v0.store (omega (arith, c.requires.lone.inside), inl refl) (λ told yes. absurd (false≢true yes))

pub returns-clause-works : goal.returns-clause-works
returns-clause-works g c =
    let V = g.S.EawStore.view in
    let v0 = pages_of (V c.args.pages.now.store) c.args.pages.now in
    let due = removal_actions (tree_removal v0.store.state.bytes c.args.change.root.page c.args.change.key) in
    let v1 = pages_of (V c.drop_leaf.new.pages.store) c.drop_leaf.new.pages in
    let fits : c.args.change.key < 2 ^ 64 = omega arith in
    let freed = c.in-Some.freed in
    let gives = c.in-Some.ensures.gives in
    let half = index_pages_of v0.store.shape in
    let slot = c.args.slot.now in
    let parent = c.args.parent in
    let mark = log_len v0.store c.args.change.tid in
    let action : Action = record { pages = leaving_pages half slot.number parent.page freed.number; takes = 0 } in
    let parts = leaving_parts half freed.front slot.number slot.free parent.page c.without_end.result.items freed.number freed.free in
    let is = λ (told : IsTrue g.S.EawStore.tells). (λ i. (let a : Action = record { pages = leaving_pages half slot.number parent.page (gives.0 i); takes = 0 } in a ∷ [])) ∙ ap removal_actions (sym (leave_takes_told g.S.EawStore.tells g.S.EawStore.opens c.args.change.tid c.args.change.root c.args.change.key v0 fits c.requires.may.alive (λ tell. g.met.S.EawStore.long c.args.pages.now.store tell) c.requires.may.sound c.requires.may.named
    slot.number slot.free slot.front c.requires.released v1 c.requires.lone.finds c.args.leaf parent.page parent.level parent.pairs.items c.requires.lone.leaf_is c.requires.lone.alone c.requires.lone.parent c.requires.lone.level_is c.requires.lone.reached c.requires.last c.requires.several freed.free freed.front gives.1 told)) in
    let r : Result (Unit {0}) PageFault = Ok tt in
    act_alone g.S.EawStore.tells V g.S.EawStore.calls c.args.change.tid due (None) c.args.change.key (c.args.leaf ∷ []) c.args.pages.now action (acting_of c.args.change.tid mark parts) (mark, parts, refl, leaving_in half freed.front slot.number slot.free parent.page c.without_end.result.items freed.number freed.free) refl is r v0.store v1.store c.in_ok-drop_leaf.ensures.runs

pub returns-in_err-drop_leaf-clause-works : goal.returns-in_err-drop_leaf-clause-works
returns-in_err-drop_leaf-clause-works g c =
    let exit = err_from_is_err_and c.from_residual.result c.from_residual.ensures.1 in
    rw (exit.1, exit.2) (
    let V = g.S.EawStore.view in
    let v0 = pages_of (V c.args.pages.now.store) c.args.pages.now in
    let due = removal_actions (tree_removal v0.store.state.bytes c.args.change.root.page c.args.change.key) in
    let v1 = pages_of (V c.drop_leaf.new.pages.store) c.drop_leaf.new.pages in
    let fits : c.args.change.key < 2 ^ 64 = omega arith in
    let freed = c.in-Some.freed in
    let gives = c.in-Some.ensures.gives in
    let half = index_pages_of v0.store.shape in
    let slot = c.args.slot.now in
    let parent = c.args.parent in
    let mark = log_len v0.store c.args.change.tid in
    let action : Action = record { pages = leaving_pages half slot.number parent.page freed.number; takes = 0 } in
    let parts = leaving_parts half freed.front slot.number slot.free parent.page c.without_end.result.items freed.number freed.free in
    let is = λ (told : IsTrue g.S.EawStore.tells). (λ i. (let a : Action = record { pages = leaving_pages half slot.number parent.page (gives.0 i); takes = 0 } in a ∷ [])) ∙ ap removal_actions (sym (leave_takes_told g.S.EawStore.tells g.S.EawStore.opens c.args.change.tid c.args.change.root c.args.change.key v0 fits c.requires.may.alive (λ tell. g.met.S.EawStore.long c.args.pages.now.store tell) c.requires.may.sound c.requires.may.named
    slot.number slot.free slot.front c.requires.released v1 c.requires.lone.finds c.args.leaf parent.page parent.level parent.pairs.items c.requires.lone.leaf_is c.requires.lone.alone c.requires.lone.parent c.requires.lone.level_is c.requires.lone.reached c.requires.last c.requires.several freed.free freed.front gives.1 told)) in
    let r : Result (Unit {0}) PageFault = Err c.in_err-drop_leaf.field-0.0 in
    let s : Result Bool PageFault = Err c.in_err-drop_leaf.field-0.0 in
    act_alone g.S.EawStore.tells V g.S.EawStore.calls c.args.change.tid due (blamed s) c.args.change.key (c.args.leaf ∷ []) c.args.pages.now action (acting_of c.args.change.tid mark parts) (mark, parts, refl, leaving_in half freed.front slot.number slot.free parent.page c.without_end.result.items freed.number freed.free) (act_blames Bool v0.store c.args.change.tid (leaving_pages half slot.number parent.page freed.number) c.in_err-drop_leaf.field-0.0 c.in_err-drop_leaf.ensures.acts.cause) is r v0.store v1.store c.in_err-drop_leaf.ensures.runs)
