use Rattle.std.proofs.Common.{◌≡◌, ◌+◌, ◌-◌, ℕ, suc, List, sym, ◌∙◌, ap, arith}
use Rattle.page_store.specs.Pairs.{Pair, found}
use Rattle.index_pages.specs.Page.{pairs_from, count_said}
use Rattle.index_pages.proofs.Reading.{from_first}
use Rattle.btree_pages.proofs.Nodes.{found_later}
use Rattle.btree_pages.proofs.page.slot_in.Goals as goal

pub loop-i-init : goal.loop-i-init
loop-i-init c =
    let all : c.args.count - 0 ≡ count_said c.args.page.now = omega (arith, c.requires.count) in
    ap (λ (n : ℕ). found (pairs_from c.args.page.now 0 n) c.args.key) all ∙ ap (λ (ps : List Pair). found ps c.args.key) (sym (from_first c.args.page.now))

pub loop-i-preserved : goal.loop-i-preserved
loop-i-preserved c =
    let next : c.loop-i.i + 1 ≡ suc c.loop-i.i = omega arith in
    ap (λ (j : ℕ). found (pairs_from c.args.page.now j (c.args.count - j)) c.args.key) next
    ∙ sym (found_later c.args.page.now c.loop-i.i c.args.count c.args.key c.loop-i-test.true (λ e. c.if-other-key.false (ap (λ (p : Pair). p.0) c.read_pair-other.ensures.pair ∙ e)))
    ∙ c.loop-i.invariant
