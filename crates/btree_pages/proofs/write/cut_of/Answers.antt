use Rattle.std.proofs.Common.{◌≡◌, ◌<◌, ℕ, List, get_or, ◌∙◌, ap, subst, arith}
use Rattle.index_pages.proofs.Halved.{get_key}
use Rattle.index_pages.specs.Keys.{key_at}
use Rattle.page_store.specs.Pairs.{Pair}
use Rattle.btree_pages.proofs.CutPlace.{cut_last, cut_half}
use Rattle.btree_pages.proofs.write.cut_of.Goals.{else-node-eq0-via-then-node-eq0+else-last-key, else-node-eq0-via-else-node-eq0}
use Rattle.btree_pages.proofs.write.cut_of.Goals as goal

pub returns-then-last-key-clause-cut : goal.returns-then-last-key-clause-cut
returns-then-last-key-clause-cut c =
    let last : (get_or c.as_slice-pairs.result.now 29 (0, 0)).0 ≡ key_at c.args.node.now.pairs.items 29 = ap (λ (ps : List Pair). (get_or ps 29 (0, 0)).0) c.as_slice-pairs.ensures.value ∙ get_key c.args.node.now.pairs.items 29 in
    cut_last c.args.node.now.level c.args.node.now.pairs.items c.args.key c.if-node-eq0.true (subst (λ (k : ℕ). k < c.args.key) last c.if-last-key.true)

pub returns-else-node-eq0-clause-cut : goal.returns-else-node-eq0-clause-cut
returns-else-node-eq0-clause-cut c =
    let last : (get_or c.as_slice-pairs.result.now 29 (0, 0)).0 ≡ key_at c.args.node.now.pairs.items 29 = ap (λ (ps : List Pair). (get_or ps 29 (0, 0)).0) c.as_slice-pairs.ensures.value ∙ get_key c.args.node.now.pairs.items 29 in
    cut_half c.args.node.now.level c.args.node.now.pairs.items c.args.key (λ leaf late. elim c.else-node-eq0.branch [
      | else-node-eq0-via-then-node-eq0+else-last-key w ↦ omega (arith, w.if-last-key.false, last, late)
      | else-node-eq0-via-else-node-eq0 w ↦ w.if-node-eq0.false leaf
    ])
