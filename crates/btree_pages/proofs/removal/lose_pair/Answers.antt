use Rattle.std.proofs.Common.{◌<◌, ◌^◌, arith, Bool, [], None, Result, Ok, Err, IsTrue, refl, sym, ap}
use Rattle.page_store.specs.Index.{index_pages_of, Action}
use Rattle.page_store.specs.Shown.{pages_of}
use Rattle.index_pages.specs.Giving.{removing_pages, removing_parts}
use Rattle.index_pages.proofs.Faulting.{dead_act}
use Rattle.btree_pages.proofs.Ending.{lose_done, lose_err, takes}
use Rattle.btree_pages.proofs.Nexting.{no_error, error_is}
use Rattle.eaw_face.specs.StoreView.{log_len}
use Rattle.page_store.specs.Runs.{acting_of}
use Rattle.page_store.specs.Works.{blamed, removal_actions}
use Rattle.page_store.specs.declared.fault.PageFault.{PageFault}
use Rattle.btree_pages.specs.Index.{tree_removal}
use Rattle.index_pages.proofs.Working.{act_blames, removing_in}
use Rattle.btree_pages.proofs.Removing.{act_alone}
use Rattle.std.proofs.lemmas.Result.{err_from_is_err_and}
use Rattle.btree_pages.proofs.removal.lose_pair.Goals as goal

pub returns-clause-removes : goal.returns-clause-removes
returns-clause-removes g c =
    let V = g.S.EawStore.view in
    let v0 = pages_of (V c.args.pages.now.store) c.args.pages.now in
    let v1 = pages_of (V c.remove_pair.new.pages.store) c.remove_pair.new.pages in
    let fits : c.args.change.key < 2 ^ 64 = omega arith in
    lose_done g.S.EawStore.tells g.S.EawStore.opens c.args.change.tid c.args.change.root c.args.change.key v0 fits c.requires.may.alive (λ told. g.met.S.EawStore.long c.args.pages.now.store told) c.requires.may.sound c.requires.may.named
    c.args.slot.now.number c.args.slot.now.free c.args.slot.now.front c.requires.released v1 c.args.leaf.page c.args.leaf.level c.args.leaf.pairs.items c.requires.leaf c.requires.bottom c.requires.reached c.requires.finds c.requires.more
    c.in_ok-remove_pair.ensures.acts

pub returns-in_err-remove_pair-clause-removes : goal.returns-in_err-remove_pair-clause-removes
returns-in_err-remove_pair-clause-removes g c =
    let exit = err_from_is_err_and c.from_residual.result c.from_residual.ensures.1 in
    rw (exit.1, exit.2) (
    let V = g.S.EawStore.view in
    let v0 = pages_of (V c.args.pages.now.store) c.args.pages.now in
    let v1 = pages_of (V c.remove_pair.new.pages.store) c.remove_pair.new.pages in
    let fits : c.args.change.key < 2 ^ 64 = omega arith in
    lose_err g.S.EawStore.tells g.S.EawStore.opens c.args.change.tid c.args.change.root c.args.change.key v0 fits c.requires.may.alive (λ told. g.met.S.EawStore.long c.args.pages.now.store told) c.requires.may.sound c.requires.may.named
    c.args.slot.now.number c.args.slot.now.free c.args.slot.now.front c.requires.released v1 c.args.leaf.page c.args.leaf.level c.args.leaf.pairs.items c.requires.leaf c.requires.bottom c.requires.reached c.requires.finds c.requires.more
    c.in_err-remove_pair.field-0.0 c.in_err-remove_pair.ensures.acts)

pub returns-clause-dead : goal.returns-clause-dead
returns-clause-dead g c = λ told. no_error _ _ told

pub returns-in_err-remove_pair-clause-dead : goal.returns-in_err-remove_pair-clause-dead
returns-in_err-remove_pair-clause-dead g c =
    let exit = err_from_is_err_and c.from_residual.result c.from_residual.ensures.1 in
    rw (exit.1, exit.2) (λ told.
    let V = g.S.EawStore.view in
    dead_act (V c.args.pages.now.store) c.args.change.tid (removing_pages (index_pages_of (V c.args.pages.now.store).shape) c.args.slot.now.number c.args.leaf.page) c.in_err-remove_pair.field-0.0 c.requires.may.alive (error_is _ _ told) c.in_err-remove_pair.ensures.acts.cause)

pub returns-clause-works : goal.returns-clause-works
returns-clause-works g c =
    let V = g.S.EawStore.view in
    let v0 = pages_of (V c.args.pages.now.store) c.args.pages.now in
    let v1 = pages_of (V c.remove_pair.new.pages.store) c.remove_pair.new.pages in
    let fits : c.args.change.key < 2 ^ 64 = omega arith in
    let half = index_pages_of v0.store.shape in
    let slot = c.args.slot.now in
    let leaf = c.args.leaf in
    let mark = log_len v0.store c.args.change.tid in
    let action : Action = record { pages = removing_pages half slot.number leaf.page; takes = 0 } in
    let parts = removing_parts half slot.front slot.number slot.free leaf.page 0 leaf.pairs.items c.args.change.key in
    let due = removal_actions (tree_removal v0.store.state.bytes c.args.change.root.page c.args.change.key) in
    let is = λ (told : IsTrue g.S.EawStore.tells). ap removal_actions (sym (takes g.S.EawStore.tells g.S.EawStore.opens c.args.change.tid c.args.change.root c.args.change.key v0 fits c.requires.may.alive (λ tell. g.met.S.EawStore.long c.args.pages.now.store tell) c.requires.may.sound c.requires.may.named
    slot.number slot.free slot.front c.requires.released v1 leaf.page leaf.level leaf.pairs.items c.requires.leaf c.requires.bottom c.requires.reached c.requires.finds c.requires.more told)) in
    let r : Result (Unit {0}) PageFault = Ok tt in
    act_alone g.S.EawStore.tells V g.S.EawStore.calls c.args.change.tid due (None) c.args.change.key [] c.args.pages.now action (acting_of c.args.change.tid mark parts) (mark, parts, refl, removing_in half slot.front slot.number slot.free leaf.page 0 leaf.pairs.items c.args.change.key) refl is r v0.store v1.store c.in_ok-remove_pair.ensures.runs

pub returns-in_err-remove_pair-clause-works : goal.returns-in_err-remove_pair-clause-works
returns-in_err-remove_pair-clause-works g c =
    let exit = err_from_is_err_and c.from_residual.result c.from_residual.ensures.1 in
    rw (exit.1, exit.2) (
    let V = g.S.EawStore.view in
    let v0 = pages_of (V c.args.pages.now.store) c.args.pages.now in
    let v1 = pages_of (V c.remove_pair.new.pages.store) c.remove_pair.new.pages in
    let fits : c.args.change.key < 2 ^ 64 = omega arith in
    let half = index_pages_of v0.store.shape in
    let slot = c.args.slot.now in
    let leaf = c.args.leaf in
    let mark = log_len v0.store c.args.change.tid in
    let action : Action = record { pages = removing_pages half slot.number leaf.page; takes = 0 } in
    let parts = removing_parts half slot.front slot.number slot.free leaf.page 0 leaf.pairs.items c.args.change.key in
    let due = removal_actions (tree_removal v0.store.state.bytes c.args.change.root.page c.args.change.key) in
    let is = λ (told : IsTrue g.S.EawStore.tells). ap removal_actions (sym (takes g.S.EawStore.tells g.S.EawStore.opens c.args.change.tid c.args.change.root c.args.change.key v0 fits c.requires.may.alive (λ tell. g.met.S.EawStore.long c.args.pages.now.store tell) c.requires.may.sound c.requires.may.named
    slot.number slot.free slot.front c.requires.released v1 leaf.page leaf.level leaf.pairs.items c.requires.leaf c.requires.bottom c.requires.reached c.requires.finds c.requires.more told)) in
    let r : Result (Unit {0}) PageFault = Err c.in_err-remove_pair.field-0.0 in
    let s : Result Bool PageFault = Err c.in_err-remove_pair.field-0.0 in
    act_alone g.S.EawStore.tells V g.S.EawStore.calls c.args.change.tid due (blamed s) c.args.change.key [] c.args.pages.now action (acting_of c.args.change.tid mark parts) (mark, parts, refl, removing_in half slot.front slot.number slot.free leaf.page 0 leaf.pairs.items c.args.change.key) (act_blames Bool v0.store c.args.change.tid (removing_pages half slot.number leaf.page) c.in_err-remove_pair.field-0.0 c.in_err-remove_pair.ensures.acts.cause) is r v0.store v1.store c.in_err-remove_pair.ensures.runs)
