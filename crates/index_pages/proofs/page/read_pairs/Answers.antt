use Rattle.std.proofs.Common.{◌≡◌, ◌+◌, ◌-◌, ℕ, suc, List, [], ◌∷◌, ◌++◌, length, sym, ◌∙◌, ap, subst, append_assoc, arith}
use Rattle.std.proofs.lemmas.List.{append-nil}
use Rattle.page_store.specs.Pairs.{Pair}
use Rattle.index_pages.specs.Page.{pairs_from, pair_said, count_said}
use Rattle.index_pages.specs.Written.{AreSmall}
use Rattle.index_pages.proofs.Reading.{from_first, from_step, from_end}
use Rattle.index_pages.proofs.Writing.{small_more}
use Rattle.index_pages.proofs.page.read_pairs.Goals as goal

pub loop-i-init : goal.loop-i-init
loop-i-init c =
    let all : c.args.count - 0 ≡ count_said c.args.page.now = omega (arith, c.requires.count) in
    record {
      small = subst AreSmall (sym c.new-pairs.ensures) tt;
      many = ap length c.new-pairs.ensures;
      so_far = ap (λ (l : List Pair). l ++ pairs_from c.args.page.now 0 (c.args.count - 0)) c.new-pairs.ensures
          ∙ ap (λ (n : ℕ). pairs_from c.args.page.now 0 n) all ∙ sym (from_first c.args.page.now);
    }

pub loop-i-preserved : goal.loop-i-preserved
loop-i-preserved c =
    let i = c.loop-i.i in
    let next : i + 1 ≡ suc i = omega arith in
    record {
      small = subst AreSmall (sym c.push.ensures.items) (small_more c.loop-i.pairs.items c.read_pair.result c.loop-i.invariant.small c.read_pair.ensures.small.0 c.read_pair.ensures.small.1);
      many = c.push.ensures.len ∙ ap (λ (n : ℕ). n + 1) c.loop-i.invariant.many;
      so_far =
          ap (λ (l : List Pair). l ++ pairs_from c.args.page.now (i + 1) (c.args.count - (i + 1))) (c.push.ensures.items ∙ ap (λ (p : Pair). c.loop-i.pairs.items ++ p ∷ []) c.read_pair.ensures.pair)
          ∙ append_assoc (c.loop-i.pairs.items) (pair_said c.args.page.now i ∷ []) (pairs_from c.args.page.now (i + 1) (c.args.count - (i + 1)))
          ∙ ap (λ (n : ℕ). c.loop-i.pairs.items ++ pair_said c.args.page.now i ∷ pairs_from c.args.page.now n (c.args.count - n)) next
          ∙ ap (λ (l : List Pair). c.loop-i.pairs.items ++ l) (sym (from_step c.args.page.now i c.args.count c.loop-i-test.true))
          ∙ c.loop-i.invariant.so_far;
    }

pub returns-clause-pairs : goal.returns-clause-pairs
returns-clause-pairs c =
    sym (append-nil c.loop-i.pairs.items)
    ∙ ap (λ (l : List Pair). c.loop-i.pairs.items ++ l) (sym (from_end c.args.page.now c.loop-i.i c.args.count c.loop-i-test.false))
    ∙ c.loop-i.invariant.so_far
