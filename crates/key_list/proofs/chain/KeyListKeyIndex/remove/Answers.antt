use Rattle.std.proofs.Common.{ℕ, Option, ◌∙◌, ap, ◌≤◌, List, Bool, [], ◌∷◌, refl, Result, Err, arith}
use Rattle.page_store.specs.Shown.{pages_of}
use Rattle.index_pages.proofs.May.{may_then, may_yet}
use Rattle.index_pages.proofs.Removals.{removes_then}
use Rattle.key_list.specs.Index.{chain}
use Rattle.eaw_face.specs.State.{State}
use Rattle.page_store.specs.Index.{index_pages_of}
use Rattle.page_store.specs.Works.{Step, IsMet, IsAmong, blamed, removal_actions, removal_limits, is_done}
use Rattle.page_store.specs.declared.fault.PageFault.{PageFault}
use Rattle.key_list.specs.Along.{chain_finding}
use Rattle.key_list.specs.Finds.{limits_here}
use Rattle.key_list.specs.Index.{chain_removal}
use Rattle.key_list.specs.declared.place.Located.{Located}
use Rattle.key_list.proofs.Finding.{blamed_as, finds_fail, finds_then, both_only}
use Rattle.std.proofs.lemmas.Result.{err_from_is_err_and}
use Rattle.key_list.proofs.chain.KeyListKeyIndex.remove.Goals as goal

pub remove_here-requires-clause-may : goal.remove_here-requires-clause-may
remove_here-requires-clause-may g c =
    let V = g.S.EawStore.view in
    let v0 = pages_of (V c.args.pages.now.store) c.args.pages.now in
    let alive = c.in_ok-at.ensures.cause in
    may_yet g.S.EawStore.tells (g.S.EawStore.opens v0.store.shape) chain c.args.tid c.args.table c.args.root v0 (pages_of (V c.locate.new.pages.store) c.locate.new.pages) c.in_ok-at.ensures.looks
    (may_then g.S.EawStore.tells chain c.args.tid c.args.table c.args.root v0 c.requires.tid c.requires.table c.requires.closed alive c.requires.sound c.requires.named)

pub returns-clause-removes : goal.returns-clause-removes
returns-clause-removes g c =
    let T = g.S.EawStore.tells in
    let V = g.S.EawStore.view in
    let E = g.S.EawStore.opens in
    let v0 = pages_of (V c.args.pages.now.store) c.args.pages.now in
    let v1 = pages_of (V c.locate.new.pages.store) c.locate.new.pages in
    let v2 = pages_of (V c.remove_here.new.pages.store) c.remove_here.new.pages in
    removes_then T E chain c.args.tid c.args.root c.args.key v0 v1 v2 c.in_ok-at.ensures.looks c.in_ok-at.ensures.cause c.remove_here.result c.remove_here.ensures.removes

pub returns-in_err-at-clause-works : goal.returns-in_err-at-clause-works
returns-in_err-at-clause-works g c =
    let exit = err_from_is_err_and c.from_residual.result c.from_residual.ensures.1 in
    rw (exit.1, exit.2) (
    let V = g.S.EawStore.view in
    let v0 = pages_of (V c.args.pages.now.store) c.args.pages.now in
    let v1 = pages_of (V c.locate.new.pages.store) c.locate.new.pages in
    let limits = removal_limits (chain_finding c.args.root c.args.key) v0.store.shape in
    let due = removal_actions (chain_removal v0.store.state.bytes c.args.root c.args.key) in
    let s : Result Bool PageFault = Err c.in_err-at.field-0.0 in
    finds_fail g.S.EawStore.tells V g.S.EawStore.calls c.args.root c.args.key (index_pages_of v0.store.shape) Located (λ (at : Located) (steps : List Step). IsMet 0 steps × IsMet at.page steps) (Unit {0}) c.args.tid limits due (blamed s) v0.store v1.store (omega arith) (omega arith) c.in_err-at.field-0.0 (blamed_as Bool Located c.in_err-at.field-0.0) c.in_err-at.ensures.finds)

pub returns-clause-works : goal.returns-clause-works
returns-clause-works g c =
    let V = g.S.EawStore.view in
    let v0 = pages_of (V c.args.pages.now.store) c.args.pages.now in
    let v1 = pages_of (V c.locate.new.pages.store) c.locate.new.pages in
    let limits = removal_limits (chain_finding c.args.root c.args.key) v0.store.shape in
    let due = removal_actions (chain_removal v0.store.state.bytes c.args.root c.args.key) in
    finds_then g.S.EawStore.tells V g.S.EawStore.calls c.args.root c.args.key (index_pages_of v0.store.shape) Located (λ (at : Located) (steps : List Step). IsMet 0 steps × IsMet at.page steps) (Unit {0}) c.args.tid limits due (blamed c.remove_here.result) v0.store v1.store (omega arith) (omega arith) (V c.remove_here.new.pages.store) (is_done c.remove_here.result) limits_here (removal_actions (chain_removal v1.store.state.bytes c.args.root c.args.key)) (0 ∷ c.in_ok-at.at.page ∷ [])
    c.in_ok-at.ensures.looks.shape c.in_ok-at.at c.in_ok-at.ensures.finds refl refl (omega arith) (omega arith)
    (λ told. ap (λ (b : List ℕ). removal_actions (chain_removal b c.args.root c.args.key)) (ap (λ (s : State). s.bytes) ((c.in_ok-at.ensures.looks.still refl).state told)))
    (λ page among. both_only page c.in_ok-at.at.page c.in_ok-at.ensures.finds.steps c.in_ok-at.ensures.finds.ends.0 c.in_ok-at.ensures.finds.ends.1 among) c.remove_here.ensures.works
