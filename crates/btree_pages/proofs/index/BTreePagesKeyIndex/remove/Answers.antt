use Rattle.std.proofs.Common.{◌≡◌, ◌<◌, ◌^◌, ℕ, List, Option, Result, Err, false, refl, sym, ◌∙◌, ap, subst, arith, ◌≤◌, Bool, [], ◌∷◌, Some, IsTrue, inl, inr}
use Rattle.std.proofs.lemmas.Bool.{false≢true}
use Rattle.record_slots.specs.Places.{page_bytes, IsSuper}
use Rattle.page_store.specs.Looks.{is_failed}
use Rattle.page_store.specs.Shown.{pages_of}
use Rattle.page_store.specs.declared.fault.PageFault.{PageFault}
use Rattle.index_pages.specs.Page.{level_of, page_pairs}
use Rattle.index_pages.proofs.Causing.{look_cause}
use Rattle.index_pages.proofs.Looking.{looks_next}
use Rattle.index_pages.proofs.Removals.{removes_then, removes_look_err, removes_damaged}
use Rattle.index_pages.proofs.Sizes.{index_pages_are}
use Rattle.index_pages.proofs.Tabled.{table_own}
use Rattle.btree_pages.specs.Index.{tree, tree_removal}
use Rattle.btree_pages.specs.Node.{IsNode}
use Rattle.btree_pages.specs.Trees.{whole_of}
use Rattle.btree_pages.specs.declared.node.Node.{Node}
use Rattle.btree_pages.proofs.Arriving.{gives_back}
use Rattle.btree_pages.proofs.Looked.{bytes_same}
use Rattle.btree_pages.proofs.Standing.{root_node, root_reached, root_some}
use Rattle.array_shape.specs.declared.shape.Shape.{Shape}
use Rattle.array_shape.specs.Places.{page_count}
use Rattle.page_store.specs.Works.{blamed, is_done, removal_actions, removal_limits}
use Rattle.record_slots.specs.declared.super_page.Super.{Super}
use Rattle.btree_pages.specs.Downward.{below, tree_finding}
use Rattle.btree_pages.proofs.Removing.{blamed_as, ends_none, front_ends, goes_leaf, root_fails, root_then, root_two, super_fails}
use Rattle.std.proofs.lemmas.Result.{err_from_is_err_and}
use Rattle.index_pages.proofs.May.{may_then, may_yet}
use Rattle.btree_laws.specs.declared.root.Root.{Root}
use Rattle.btree_pages.proofs.index.BTreePagesKeyIndex.remove.Goals as goal

pub returns-then-not-is_index_page-clause-removes : goal.returns-then-not-is_index_page-clause-removes
returns-then-not-is_index_page-clause-removes g c =
    let T = g.S.EawStore.tells in
    let V = g.S.EawStore.view in
    let E = g.S.EawStore.opens in
    let root : Root = record { page = c.args.root; table = c.args.table } in
    let key = c.args.key in
    let v0 = pages_of (V c.args.pages.now.store) c.args.pages.now in
    let v1 = pages_of (V c.fetch_super.new.pages.store) c.fetch_super.new.pages in
    let alive = c.in_ok-front.ensures.cause in
    removes_damaged T (E v0.store.shape) tree c.args.tid root.page key v0 v1 0 c.in_ok-front.ensures.looks alive (λ told.
    let front = (whole_of v0.store.state.bytes (c.requires.sound told c.in_ok-front.ensures.cause)).front in
    let own = table_own 1 v0.store.state.bytes root.table root.page front (c.requires.named told c.in_ok-front.ensures.cause) in
    false≢true (c.if-not-is_index_page.ensures.1 (own.0, omega (arith, own.1, front.pages, index_pages_are v0.store.shape v0.store.state.bytes (g.met.S.EawStore.long c.args.pages.now.store told), c.index_page_count-count.ensures.count))))

pub returns-in_err-top-clause-removes : goal.returns-in_err-top-clause-removes
returns-in_err-top-clause-removes g c =
    let exit = err_from_is_err_and c.from_residual-in_err-top.result c.from_residual-in_err-top.ensures.1 in
    rw (exit.1, exit.2) (
    let T = g.S.EawStore.tells in
    let V = g.S.EawStore.view in
    let E = g.S.EawStore.opens in
    let root : Root = record { page = c.args.root; table = c.args.table } in
    let key = c.args.key in
    let v0 = pages_of (V c.args.pages.now.store) c.args.pages.now in
    let v1 = pages_of (V c.fetch_super.new.pages.store) c.fetch_super.new.pages in
    let v2 = pages_of (V c.fetch_node.new.pages.store) c.fetch_node.new.pages in
    let fault = c.in_err-top.field-0.0 in
    let fits : c.args.key < 2 ^ 64 = omega arith in
    let r : Result Node PageFault = Err c.in_err-top.field-0.0 in
    removes_look_err T (E v0.store.shape) tree c.args.tid root.page key Node v0 v2 fault (
      looks_next T E (is_failed r) v0 v1 v2 c.in_ok-front.ensures.looks c.in_err-top.ensures.looks,
      look_cause Node Node T v0.store v1.store (IsNode (page_bytes v1.store.state.bytes root.page)) root.page fault (c.in_ok-front.ensures.looks.still refl)
          (λ told alive. subst (λ (b : List ℕ). IsNode (page_bytes b c.args.root)) (sym (bytes_same T (E v0.store.shape) v0 v1 c.in_ok-front.ensures.looks told)) (root_node root v0.store.state.bytes key fits (c.requires.sound told alive) (c.requires.named told alive)))
          c.in_err-top.ensures.cause,
    ))

pub remove_below-requires-clause-may : goal.remove_below-requires-clause-may
remove_below-requires-clause-may g c =
    let T = g.S.EawStore.tells in
    let V = g.S.EawStore.view in
    let E = g.S.EawStore.opens in
    let root : Root = record { page = c.args.root; table = c.args.table } in
    let key = c.args.key in
    let v0 = pages_of (V c.args.pages.now.store) c.args.pages.now in
    let v1 = pages_of (V c.fetch_super.new.pages.store) c.fetch_super.new.pages in
    let v2 = pages_of (V c.fetch_node.new.pages.store) c.fetch_node.new.pages in
    let looks = looks_next T E false v0 v1 v2 c.in_ok-front.ensures.looks c.in_ok-top.ensures.looks in
    let alive = c.in_ok-front.ensures.cause in
    may_yet T (E v0.store.shape) tree c.args.tid c.args.table c.args.root v0 v2 looks
    (may_then T tree c.args.tid c.args.table c.args.root v0 c.requires.tid c.requires.table c.requires.closed alive c.requires.sound c.requires.named)

pub returns-then-top-gt0-clause-removes : goal.returns-then-top-gt0-clause-removes
returns-then-top-gt0-clause-removes g c =
    let T = g.S.EawStore.tells in
    let V = g.S.EawStore.view in
    let E = g.S.EawStore.opens in
    let root : Root = record { page = c.args.root; table = c.args.table } in
    let key = c.args.key in
    let v0 = pages_of (V c.args.pages.now.store) c.args.pages.now in
    let v1 = pages_of (V c.fetch_super.new.pages.store) c.fetch_super.new.pages in
    let v2 = pages_of (V c.fetch_node.new.pages.store) c.fetch_node.new.pages in
    let looks = looks_next T E false v0 v1 v2 c.in_ok-front.ensures.looks c.in_ok-top.ensures.looks in
    let alive = c.in_ok-front.ensures.cause in
    let v3 = pages_of (V c.remove_below.new.pages.store) c.remove_below.new.pages in
    removes_then T E tree c.args.tid root.page key v0 v2 v3 looks alive c.remove_below.result c.remove_below.ensures.removes

pub returns-in_default-clause-removes : goal.returns-in_default-clause-removes
returns-in_default-clause-removes g c =
    let T = g.S.EawStore.tells in
    let V = g.S.EawStore.view in
    let E = g.S.EawStore.opens in
    let root : Root = record { page = c.args.root; table = c.args.table } in
    let key = c.args.key in
    let v0 = pages_of (V c.args.pages.now.store) c.args.pages.now in
    let v1 = pages_of (V c.fetch_super.new.pages.store) c.fetch_super.new.pages in
    let v2 = pages_of (V c.fetch_node.new.pages.store) c.fetch_node.new.pages in
    let looks = looks_next T E false v0 v1 v2 c.in_ok-front.ensures.looks c.in_ok-top.ensures.looks in
    let alive = c.in_ok-front.ensures.cause in
    let top = c.in_ok-top.top in
    let fits : c.args.key < 2 ^ 64 = omega arith in
    let bottom : c.in_ok-top.top.level ≡ 0 = omega (arith, c.if-top-gt0.false) in
    removes_damaged T (E v0.store.shape) tree c.args.tid root.page key v0 v2 top.page looks alive (λ told.
    gives_back root v0.store.state.bytes key fits (c.requires.sound told c.in_ok-front.ensures.cause) (c.requires.named told c.in_ok-front.ensures.cause) top.page top.level top.pairs.items bottom
    (root_reached root v0.store.state.bytes key top.page top.level top.pairs.items c.in_ok-top.ensures.page
    (c.in_ok-top.ensures.level told ∙ ap (λ (b : List ℕ). level_of b c.args.root) (bytes_same T (E v0.store.shape) v0 v1 c.in_ok-front.ensures.looks told))
    (c.in_ok-top.ensures.pairs told ∙ ap (λ (b : List ℕ). page_pairs b c.args.root) (bytes_same T (E v0.store.shape) v0 v1 c.in_ok-front.ensures.looks told)))
    (root_some tree v0.store.state.bytes root.page root.table key (c.requires.absent told c.in_ok-front.ensures.cause)) (c.requires.lists told c.in_ok-front.ensures.cause) c.in_ok-front.front (c.in_ok-front.ensures.says told) c.in_default.ensures.none)

pub lose_pair-requires-clause-may : goal.lose_pair-requires-clause-may
lose_pair-requires-clause-may g c =
    let T = g.S.EawStore.tells in
    let V = g.S.EawStore.view in
    let E = g.S.EawStore.opens in
    let root : Root = record { page = c.args.root; table = c.args.table } in
    let key = c.args.key in
    let v0 = pages_of (V c.args.pages.now.store) c.args.pages.now in
    let v1 = pages_of (V c.fetch_super.new.pages.store) c.fetch_super.new.pages in
    let v2 = pages_of (V c.fetch_node.new.pages.store) c.fetch_node.new.pages in
    let looks = looks_next T E false v0 v1 v2 c.in_ok-front.ensures.looks c.in_ok-top.ensures.looks in
    let alive = c.in_ok-front.ensures.cause in
    may_yet T (E v0.store.shape) tree c.args.tid c.args.table c.args.root v0 v2 looks
    (may_then T tree c.args.tid c.args.table c.args.root v0 c.requires.tid c.requires.table c.requires.closed alive c.requires.sound c.requires.named)

pub returns-clause-removes : goal.returns-clause-removes
returns-clause-removes g c =
    let T = g.S.EawStore.tells in
    let V = g.S.EawStore.view in
    let E = g.S.EawStore.opens in
    let root : Root = record { page = c.args.root; table = c.args.table } in
    let key = c.args.key in
    let v0 = pages_of (V c.args.pages.now.store) c.args.pages.now in
    let v1 = pages_of (V c.fetch_super.new.pages.store) c.fetch_super.new.pages in
    let v2 = pages_of (V c.fetch_node.new.pages.store) c.fetch_node.new.pages in
    let looks = looks_next T E false v0 v1 v2 c.in_ok-front.ensures.looks c.in_ok-top.ensures.looks in
    let alive = c.in_ok-front.ensures.cause in
    let v3 = pages_of (V c.lose_pair.new.pages.store) c.lose_pair.new.pages in
    removes_then T E tree c.args.tid root.page key v0 v2 v3 looks alive c.lose_pair.result c.lose_pair.ensures.removes

pub returns-in_err-front-clause-works : goal.returns-in_err-front-clause-works
returns-in_err-front-clause-works g c =
    let exit = err_from_is_err_and c.from_residual.result c.from_residual.ensures.1 in
    rw (exit.1, exit.2) (
    let V = g.S.EawStore.view in
    let T = g.S.EawStore.tells in
    let E = g.S.EawStore.opens in
    let root : Root = record { page = c.args.root; table = c.args.table } in
    let key = c.args.key in
    let old = c.args.pages.now.store in
    let one = c.fetch_super.new.pages.store in
    let v0 = pages_of (V old) c.args.pages.now in
    let v1 = pages_of (V one) c.fetch_super.new.pages in
    let limits = removal_limits (tree_finding root.page key) v0.store.shape in
    let due = removal_actions (tree_removal v0.store.state.bytes root.page key) in
    let some : 0 < page_count v0.store.shape = omega (arith, c.index_page_count-count.ensures.some, c.index_page_count-count.ensures.all) in
    let s : Result Bool PageFault = Err c.in_err-front.field-0.0 in
    super_fails g.S.EawStore.tells V g.S.EawStore.calls c.args.tid key root.page due (blamed s) limits (omega arith) old Super (IsSuper 1 v0.store.state.bytes) (g.S.EawStore.calls one) v1.store c.in_err-front.ensures.reads.0 (page_bytes v0.store.state.bytes 0) c.in_err-front.field-0.0 some (blamed_as Bool Super c.in_err-front.field-0.0) c.in_err-front.ensures.cause c.in_err-front.ensures.reads.1)

pub returns-then-not-is_index_page-clause-works : goal.returns-then-not-is_index_page-clause-works
returns-then-not-is_index_page-clause-works g c =
    let V = g.S.EawStore.view in
    let T = g.S.EawStore.tells in
    let E = g.S.EawStore.opens in
    let root : Root = record { page = c.args.root; table = c.args.table } in
    let key = c.args.key in
    let old = c.args.pages.now.store in
    let one = c.fetch_super.new.pages.store in
    let v0 = pages_of (V old) c.args.pages.now in
    let v1 = pages_of (V one) c.fetch_super.new.pages in
    let limits = removal_limits (tree_finding root.page key) v0.store.shape in
    let due = removal_actions (tree_removal v0.store.state.bytes root.page key) in
    let some : 0 < page_count v0.store.shape = omega (arith, c.index_page_count-count.ensures.some, c.index_page_count-count.ensures.all) in
    front_ends g.S.EawStore.tells V g.S.EawStore.calls c.args.tid key root.page due (Some 0) limits (omega arith) old one c.in_ok-front.ensures.reads.0 c.in_ok-front.ensures.looks.shape c.in_ok-front.ensures.reads.1 refl some

pub returns-in_err-top-clause-works : goal.returns-in_err-top-clause-works
returns-in_err-top-clause-works g c =
    let exit = err_from_is_err_and c.from_residual-in_err-top.result c.from_residual-in_err-top.ensures.1 in
    rw (exit.1, exit.2) (
    let V = g.S.EawStore.view in
    let T = g.S.EawStore.tells in
    let E = g.S.EawStore.opens in
    let root : Root = record { page = c.args.root; table = c.args.table } in
    let key = c.args.key in
    let old = c.args.pages.now.store in
    let one = c.fetch_super.new.pages.store in
    let v0 = pages_of (V old) c.args.pages.now in
    let v1 = pages_of (V one) c.fetch_super.new.pages in
    let limits = removal_limits (tree_finding root.page key) v0.store.shape in
    let due = removal_actions (tree_removal v0.store.state.bytes root.page key) in
    let some : 0 < page_count v0.store.shape = omega (arith, c.index_page_count-count.ensures.some, c.index_page_count-count.ensures.all) in
    let s : Result Bool PageFault = Err c.in_err-top.field-0.0 in
    let good = c.if-not-is_index_page.ensures.0 refl in
    let there : c.args.root < page_count v0.store.shape = omega (arith, good.1, c.index_page_count-count.ensures.all) in
    root_fails g.S.EawStore.tells V g.S.EawStore.calls c.args.tid key root.page due (blamed s) limits (omega arith) old one c.in_ok-front.ensures.reads.0 c.in_ok-front.ensures.looks.shape c.in_ok-front.ensures.reads.1 (IsNode (page_bytes v1.store.state.bytes root.page)) (g.S.EawStore.calls c.fetch_node.new.pages.store) (V c.fetch_node.new.pages.store) c.in_err-top.ensures.reads.0 (page_bytes v1.store.state.bytes root.page) c.in_err-top.field-0.0
    there (omega arith) (blamed_as Bool Node c.in_err-top.field-0.0) c.in_err-top.ensures.cause c.in_err-top.ensures.reads.1)

pub returns-then-top-gt0-clause-works : goal.returns-then-top-gt0-clause-works
returns-then-top-gt0-clause-works g c =
    let V = g.S.EawStore.view in
    let T = g.S.EawStore.tells in
    let E = g.S.EawStore.opens in
    let root : Root = record { page = c.args.root; table = c.args.table } in
    let key = c.args.key in
    let old = c.args.pages.now.store in
    let one = c.fetch_super.new.pages.store in
    let v0 = pages_of (V old) c.args.pages.now in
    let v1 = pages_of (V one) c.fetch_super.new.pages in
    let limits = removal_limits (tree_finding root.page key) v0.store.shape in
    let due = removal_actions (tree_removal v0.store.state.bytes root.page key) in
    let some : 0 < page_count v0.store.shape = omega (arith, c.index_page_count-count.ensures.some, c.index_page_count-count.ensures.all) in
    let v2 = pages_of (V c.fetch_node.new.pages.store) c.fetch_node.new.pages in
    let top = c.in_ok-top.top in
    let looks = looks_next T E false v0 v1 v2 c.in_ok-front.ensures.looks c.in_ok-top.ensures.looks in
    let same = λ (told : IsTrue g.S.EawStore.tells). ap (λ (b : List ℕ). removal_actions (tree_removal b c.args.root c.args.key)) (bytes_same g.S.EawStore.tells (g.S.EawStore.opens v0.store.shape) v0 v2 looks told) in
    let due2 = removal_actions (tree_removal v2.store.state.bytes root.page key) in
    root_then g.S.EawStore.tells V g.S.EawStore.calls c.args.tid key root.page due (blamed c.remove_below.result) limits (omega arith) old one c.in_ok-front.ensures.reads.0 c.in_ok-front.ensures.looks.shape c.in_ok-front.ensures.reads.1 c.fetch_node.new.pages.store (V c.remove_below.new.pages.store) c.in_ok-top.ensures.reads.0 c.in_ok-top.ensures.looks.shape c.in_ok-top.ensures.reads.1 top.level top.pairs.items (c.in_ok-top.ensures.reads.2.level) c.in_ok-top.ensures.reads.2.pairs
    (is_done c.remove_below.result) (below key top.level top.pairs.items) refl (omega (arith, c.in_ok-top.ensures.read.level_most)) (omega arith) (omega arith) due2 same (0 ∷ top.page ∷ []) (λ p among. root_two p top.page root.page c.in_ok-top.ensures.page among) (c.remove_below.ensures.works)

pub returns-in_default-clause-works : goal.returns-in_default-clause-works
returns-in_default-clause-works g c =
    let V = g.S.EawStore.view in
    let T = g.S.EawStore.tells in
    let E = g.S.EawStore.opens in
    let root : Root = record { page = c.args.root; table = c.args.table } in
    let key = c.args.key in
    let old = c.args.pages.now.store in
    let one = c.fetch_super.new.pages.store in
    let v0 = pages_of (V old) c.args.pages.now in
    let v1 = pages_of (V one) c.fetch_super.new.pages in
    let limits = removal_limits (tree_finding root.page key) v0.store.shape in
    let due = removal_actions (tree_removal v0.store.state.bytes root.page key) in
    let some : 0 < page_count v0.store.shape = omega (arith, c.index_page_count-count.ensures.some, c.index_page_count-count.ensures.all) in
    let v2 = pages_of (V c.fetch_node.new.pages.store) c.fetch_node.new.pages in
    let top = c.in_ok-top.top in
    let looks = looks_next T E false v0 v1 v2 c.in_ok-front.ensures.looks c.in_ok-top.ensures.looks in
    let same = λ (told : IsTrue g.S.EawStore.tells). ap (λ (b : List ℕ). removal_actions (tree_removal b c.args.root c.args.key)) (bytes_same g.S.EawStore.tells (g.S.EawStore.opens v0.store.shape) v0 v2 looks told) in
    let due2 = removal_actions (tree_removal v2.store.state.bytes root.page key) in
    let bottom : c.in_ok-top.top.level ≡ 0 = omega (arith, c.if-top-gt0.false) in
    let good = c.if-not-is_index_page.ensures.0 refl in
    let there_now : c.in_ok-top.top.page < page_count v2.store.shape = subst (λ (sh : Shape). c.in_ok-top.top.page < page_count sh) (sym looks.shape) (omega (arith, good.1, c.in_ok-top.ensures.page, c.index_page_count-count.ensures.all)) in
    root_then g.S.EawStore.tells V g.S.EawStore.calls c.args.tid key root.page due (Some top.page) limits (omega arith) old one c.in_ok-front.ensures.reads.0 c.in_ok-front.ensures.looks.shape c.in_ok-front.ensures.reads.1 c.fetch_node.new.pages.store (V c.fetch_node.new.pages.store) c.in_ok-top.ensures.reads.0 c.in_ok-top.ensures.looks.shape c.in_ok-top.ensures.reads.1 0 top.pairs.items (sym bottom ∙ c.in_ok-top.ensures.reads.2.level) c.in_ok-top.ensures.reads.2.pairs
    (false) (below key 0 []) (goes_leaf key top.pairs.items) (omega arith) (omega arith) (omega arith) due (λ told. refl) (top.page ∷ []) (λ p among. elim among [ inl is ↦ inr (is ∙ c.in_ok-top.ensures.page) | inr none ↦ absurd none ]) (ends_none g.S.EawStore.tells V g.S.EawStore.calls c.args.tid due (Some top.page) false key (top.page ∷ []) v2.store (there_now, inl refl) (λ told yes. absurd (false≢true yes)))

pub returns-clause-works : goal.returns-clause-works
returns-clause-works g c =
    let V = g.S.EawStore.view in
    let T = g.S.EawStore.tells in
    let E = g.S.EawStore.opens in
    let root : Root = record { page = c.args.root; table = c.args.table } in
    let key = c.args.key in
    let old = c.args.pages.now.store in
    let one = c.fetch_super.new.pages.store in
    let v0 = pages_of (V old) c.args.pages.now in
    let v1 = pages_of (V one) c.fetch_super.new.pages in
    let limits = removal_limits (tree_finding root.page key) v0.store.shape in
    let due = removal_actions (tree_removal v0.store.state.bytes root.page key) in
    let some : 0 < page_count v0.store.shape = omega (arith, c.index_page_count-count.ensures.some, c.index_page_count-count.ensures.all) in
    let v2 = pages_of (V c.fetch_node.new.pages.store) c.fetch_node.new.pages in
    let top = c.in_ok-top.top in
    let looks = looks_next T E false v0 v1 v2 c.in_ok-front.ensures.looks c.in_ok-top.ensures.looks in
    let same = λ (told : IsTrue g.S.EawStore.tells). ap (λ (b : List ℕ). removal_actions (tree_removal b c.args.root c.args.key)) (bytes_same g.S.EawStore.tells (g.S.EawStore.opens v0.store.shape) v0 v2 looks told) in
    let due2 = removal_actions (tree_removal v2.store.state.bytes root.page key) in
    let bottom : c.in_ok-top.top.level ≡ 0 = omega (arith, c.if-top-gt0.false) in
    root_then g.S.EawStore.tells V g.S.EawStore.calls c.args.tid key root.page due (blamed c.lose_pair.result) limits (omega arith) old one c.in_ok-front.ensures.reads.0 c.in_ok-front.ensures.looks.shape c.in_ok-front.ensures.reads.1 c.fetch_node.new.pages.store (V c.lose_pair.new.pages.store) c.in_ok-top.ensures.reads.0 c.in_ok-top.ensures.looks.shape c.in_ok-top.ensures.reads.1 0 top.pairs.items (sym bottom ∙ c.in_ok-top.ensures.reads.2.level) c.in_ok-top.ensures.reads.2.pairs
    (is_done c.lose_pair.result) (below key 0 []) (goes_leaf key top.pairs.items) (omega arith) (omega arith) (omega arith) due2 same [] (λ p among. absurd among) (c.lose_pair.ensures.works)
