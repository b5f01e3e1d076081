use Rattle.std.proofs.Common.{◌≡◌, ◌+◌, ◌-◌, ◌<◌, ◌≤◌, ℕ, suc, List, Some, sym, ◌∙◌, ap, subst, arith}
use Rattle.page_store.specs.Pairs.{Pair, next}
use Rattle.index_pages.specs.Page.{pairs_from, pair_said, count_said}
use Rattle.index_pages.proofs.Reading.{from_first, from_end, next_here, next_later}
use Rattle.index_pages.proofs.page.next_pair.Goals as goal

pub loop-i-init : goal.loop-i-init
loop-i-init c =
    let all : c.args.count - 0 ≡ count_said c.args.page.now = omega (arith, c.requires.count) in
    ap (λ (n : ℕ). next (pairs_from c.args.page.now 0 n) c.args.from) all ∙ ap (λ (ps : List Pair). next ps c.args.from) (sym (from_first c.args.page.now))

pub returns-then-from-pair : goal.returns-then-from-pair
returns-then-from-pair c =
    let key : c.args.from ≤ (pair_said c.args.page.now c.loop-i.i).0 = subst (λ (p : Pair). c.args.from ≤ p.0) c.read_pair-pair.ensures.pair c.if-from-pair.true in
    ap (λ (p : Pair). Some p) c.read_pair-pair.ensures.pair ∙ sym (next_here c.args.page.now c.loop-i.i c.args.count c.args.from c.loop-i-test.true key) ∙ c.loop-i.invariant

pub loop-i-preserved : goal.loop-i-preserved
loop-i-preserved c =
    let next_is : c.loop-i.i + 1 ≡ suc c.loop-i.i = omega arith in
    let key : (pair_said c.args.page.now c.loop-i.i).0 < c.args.from = subst (λ (p : Pair). p.0 < c.args.from) c.read_pair-pair.ensures.pair c.if-from-pair.false in
    ap (λ (j : ℕ). next (pairs_from c.args.page.now j (c.args.count - j)) c.args.from) next_is
    ∙ sym (next_later c.args.page.now c.loop-i.i c.args.count c.args.from c.loop-i-test.true key) ∙ c.loop-i.invariant

pub returns : goal.returns
returns c =
    ap (λ (ps : List Pair). next ps c.args.from) (sym (from_end c.args.page.now c.loop-i.i c.args.count c.loop-i-test.false)) ∙ c.loop-i.invariant
