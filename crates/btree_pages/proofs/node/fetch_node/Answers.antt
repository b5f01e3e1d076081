use Rattle.std.proofs.Common.{◌≤◌, List, length, sym, ◌∙◌, subst}
use Rattle.page_store.specs.Pairs.{Pair}
use Rattle.btree_pages.proofs.Nodes.{inner_some}
use Rattle.std.proofs.lemmas.Result.{err_from_is_err_and}
use Rattle.btree_pages.proofs.node.fetch_node.Goals as goal

pub returns-clause-some : goal.returns-clause-some
returns-clause-some g c = λ inner.
    subst (λ (ps : List Pair). 1 ≤ length ps) (sym c.read_pairs.ensures.pairs)
    (inner_some c.read_node.new.bytes c.in_ok-head.ensures.head.node (λ e. inner (c.in_ok-head.ensures.head.level ∙ e)))

pub returns-in_err-head-clause-reads : goal.returns-in_err-head-clause-reads
returns-in_err-head-clause-reads g c =
    let exit = err_from_is_err_and c.from_residual.result c.from_residual.ensures.1 in
    rw (exit.1, exit.2) (c.read_node.new.bytes, c.in_err-head.ensures.reads, tt)
