use Rattle.std.proofs.Common.{◌≡◌, ℕ, suc, ◌+◌, ◌-◌, ◌<◌, ◌≤◌, List, Some, sym, ◌∙◌, ap, subst, arith}
use Rattle.page_store.specs.Pairs.{Pair}
use Rattle.index_pages.specs.Page.{pairs_from, pair_said, count_said}
use Rattle.index_pages.proofs.Reading.{from_first}
use Rattle.btree_laws.specs.Descent.{child_for}
use Rattle.btree_pages.specs.Leaf.{behind_in}
use Rattle.btree_pages.proofs.Nodes.{child_here, child_later}
use Rattle.btree_pages.proofs.page.child_in.Goals as goal

pub loop-i-init : goal.loop-i-init
loop-i-init c =
    let all : c.args.count - 0 ≡ count_said c.args.page.now = omega (arith, c.requires.count) in
    record {
      rest = ap (λ (m : ℕ). child_for (pairs_from c.args.page.now 0 m) c.args.key) all ∙ ap (λ (ps : List Pair). child_for ps c.args.key) (sym (from_first c.args.page.now));
      bounds = ap (λ (m : ℕ). behind_in (pairs_from c.args.page.now 0 m) c.args.key) all ∙ ap (λ (ps : List Pair). behind_in ps c.args.key) (sym (from_first c.args.page.now));
    }

pub returns-then-key-next-clause-child : goal.returns-then-key-next-clause-child
returns-then-key-next-clause-child c =
    let back : c.loop-i.i ≡ suc (c.loop-i.i - 1) = omega arith in
    let key : c.args.key < (pair_said c.args.page.now c.loop-i.i).0 = subst (λ (p : Pair). c.args.key < p.0) c.read_pair-next.ensures.pair c.if-key-next.true in
    ap (λ (p : Pair). p.1) c.read_pair.ensures.pair
    ∙ sym (child_here c.args.page.now (c.loop-i.i - 1) c.args.count c.args.key (omega arith) (subst (λ (j : ℕ). c.args.key < (pair_said c.args.page.now j).0) back key)).0
    ∙ c.loop-i.invariant.rest

pub returns-then-key-next-clause-behind : goal.returns-then-key-next-clause-behind
returns-then-key-next-clause-behind c =
    let back : c.loop-i.i ≡ suc (c.loop-i.i - 1) = omega arith in
    let key : c.args.key < (pair_said c.args.page.now c.loop-i.i).0 = subst (λ (p : Pair). c.args.key < p.0) c.read_pair-next.ensures.pair c.if-key-next.true in
    ap Some c.read_pair-next.ensures.pair ∙ ap (λ (j : ℕ). Some (pair_said c.args.page.now j)) back
    ∙ sym (child_here c.args.page.now (c.loop-i.i - 1) c.args.count c.args.key (omega arith) (subst (λ (j : ℕ). c.args.key < (pair_said c.args.page.now j).0) back key)).1
    ∙ c.loop-i.invariant.bounds

pub loop-i-preserved : goal.loop-i-preserved
loop-i-preserved c =
    let back : c.loop-i.i ≡ suc (c.loop-i.i - 1) = omega arith in
    let next : c.loop-i.i + 1 - 1 ≡ suc (c.loop-i.i - 1) = omega arith in
    let key : (pair_said c.args.page.now c.loop-i.i).0 ≤ c.args.key = subst (λ (p : Pair). p.0 ≤ c.args.key) c.read_pair-next.ensures.pair c.if-key-next.false in
    let later = child_later c.args.page.now (c.loop-i.i - 1) c.args.count c.args.key (omega arith) (subst (λ (j : ℕ). (pair_said c.args.page.now j).0 ≤ c.args.key) back key) in
    record {
      rest = ap (λ (j : ℕ). child_for (pairs_from c.args.page.now j (c.args.count - j)) c.args.key) next ∙ sym later.0 ∙ c.loop-i.invariant.rest;
      bounds = ap (λ (j : ℕ). behind_in (pairs_from c.args.page.now j (c.args.count - j)) c.args.key) next ∙ sym later.1 ∙ c.loop-i.invariant.bounds;
    }
