use Rattle.std.proofs.Common.{◌≡◌, ◌+◌, ◌-◌, ◌<◌, ◌≤◌, ℕ, suc, List, sym, ◌∙◌, ap, subst, arith}
use Rattle.page_store.specs.Pairs.{Pair}
use Rattle.index_pages.specs.Keys.{from_on}
use Rattle.index_pages.specs.Page.{pairs_from, pair_said, count_said}
use Rattle.index_pages.proofs.Reading.{from_first, from_end}
use Rattle.index_pages.proofs.Turns.{rest_here, rest_later}
use Rattle.index_pages.proofs.rest.first_from.Goals as goal

pub loop-i-init : goal.loop-i-init
loop-i-init c =
    let all : c.args.count - 0 ≡ count_said c.args.page.now = omega (arith, c.requires.count) in
    ap (λ (n : ℕ). from_on (pairs_from c.args.page.now 0 n) c.args.from) all ∙ ap (λ (ps : List Pair). from_on ps c.args.from) (sym (from_first c.args.page.now))

pub returns-then-from-read_pair-clause-rest : goal.returns-then-from-read_pair-clause-rest
returns-then-from-read_pair-clause-rest c =
    let key : c.args.from ≤ (pair_said c.args.page.now c.loop-i.i).0 = subst (λ (p : Pair). c.args.from ≤ p.0) c.read_pair.ensures.pair c.if-from-read_pair.true in
    sym (rest_here c.args.page.now c.loop-i.i c.args.count c.args.from c.loop-i-test.true key) ∙ c.loop-i.invariant

pub loop-i-preserved : goal.loop-i-preserved
loop-i-preserved c =
    let next_is : c.loop-i.i + 1 ≡ suc c.loop-i.i = omega arith in
    let key : (pair_said c.args.page.now c.loop-i.i).0 < c.args.from = subst (λ (p : Pair). p.0 < c.args.from) c.read_pair.ensures.pair c.if-from-read_pair.false in
    ap (λ (j : ℕ). from_on (pairs_from c.args.page.now j (c.args.count - j)) c.args.from) next_is
    ∙ sym (rest_later c.args.page.now c.loop-i.i c.args.count c.args.from c.loop-i-test.true key) ∙ c.loop-i.invariant

pub returns-clause-rest : goal.returns-clause-rest
returns-clause-rest c =
    let end : c.args.count - c.args.count ≡ c.args.count - c.loop-i.i = omega (arith, c.loop-i-test.false) in
    ap (λ (ps : List Pair). ps) (from_end c.args.page.now c.args.count c.args.count (omega arith))
    ∙ ap (λ (ps : List Pair). from_on ps c.args.from) (sym (from_end c.args.page.now c.loop-i.i c.args.count c.loop-i-test.false)) ∙ c.loop-i.invariant
