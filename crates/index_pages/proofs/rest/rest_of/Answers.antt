use Rattle.std.proofs.Common.{◌≡◌, ◌+◌, ◌-◌, ◌<◌, ◌≤◌, ℕ, suc, List, [], ◌∷◌, ◌++◌, length, sym, ◌∙◌, ap, subst, append_assoc, arith}
use Rattle.std.proofs.lemmas.List.{append-nil}
use Rattle.std.proofs.lemmas.Bool.{false≢true}
use Rattle.page_store.specs.Pairs.{Pair, AreInside}
use Rattle.index_pages.specs.Keys.{low_for}
use Rattle.index_pages.specs.Page.{pairs_from, pair_said}
use Rattle.index_pages.proofs.Reading.{from_step, from_end}
use Rattle.index_pages.proofs.rest.rest_of.Goals as goal

pub loop-i-init : goal.loop-i-init
loop-i-init c = record {
  many = omega (arith, ap length c.new-some.ensures);
  so_far = ap (λ (l : List Pair). l ++ pairs_from c.args.page.now c.first_from-first.result (c.args.count - c.first_from-first.result)) c.new-some.ensures ∙ c.first_from-first.ensures.rest;
  inside = λ rest h. subst (λ (l : List Pair). AreInside c.args.from c.args.slots (l ++ rest)) (sym c.new-some.ensures) h;
  back = λ rest h. subst (λ (l : List Pair). AreInside c.args.from c.args.slots (l ++ rest)) c.new-some.ensures h;
}

pub loop-i-preserved : goal.loop-i-preserved
loop-i-preserved c =
    let i = c.loop-i.i in
    let next : i + 1 ≡ suc i = omega arith in
    let items = c.loop-i.some.items in
    let q : Pair = c.read_pair-key.result in
    let follows : low_for c.args.from c.loop-i.last ≤ c.read_pair-key.result.0 = c.may_follow.ensures.0 c.if-not-may_follow.false in
    let less : c.read_pair-key.result.1 < c.args.slots = omega (arith, c.if-slot-from.false, c.from.ensures) in
    record {
      many = omega (arith, c.push.ensures.len, c.loop-i.invariant.many);
      so_far =
          ap (λ (l : List Pair). l ++ pairs_from c.args.page.now (i + 1) (c.args.count - (i + 1))) (c.push.ensures.items ∙ ap (λ (p : Pair). c.loop-i.some.items ++ p ∷ []) c.read_pair-key.ensures.pair)
          ∙ append_assoc c.loop-i.some.items (pair_said c.args.page.now i ∷ []) (pairs_from c.args.page.now (i + 1) (c.args.count - (i + 1)))
          ∙ ap (λ (n : ℕ). c.loop-i.some.items ++ pair_said c.args.page.now i ∷ pairs_from c.args.page.now n (c.args.count - n)) next
          ∙ ap (λ (l : List Pair). c.loop-i.some.items ++ l) (sym (from_step c.args.page.now i c.args.count c.loop-i-test.true))
          ∙ c.loop-i.invariant.so_far;
      inside = λ rest h.
          subst (λ (l : List Pair). AreInside c.args.from c.args.slots (l ++ rest)) (sym c.push.ensures.items)
          (subst (λ (l : List Pair). AreInside c.args.from c.args.slots l) (sym (append_assoc c.loop-i.some.items (c.read_pair-key.result ∷ []) rest))
          (c.loop-i.invariant.inside (c.read_pair-key.result ∷ rest) (follows, less, h)));
      back = λ rest h.
          let all = c.loop-i.invariant.back (c.read_pair-key.result ∷ rest)
          (subst (λ (l : List Pair). AreInside c.args.from c.args.slots l) (append_assoc c.loop-i.some.items (c.read_pair-key.result ∷ []) rest)
          (subst (λ (l : List Pair). AreInside c.args.from c.args.slots (l ++ rest)) c.push.ensures.items h)) in
          all.2;
    }

pub returns-then-not-may_follow-clause-none : goal.returns-then-not-may_follow-clause-none
returns-then-not-may_follow-clause-none c = λ all.
    let i = c.loop-i.i in
    let split = ap (λ (l : List Pair). c.loop-i.some.items ++ l) (from_step c.args.page.now i c.args.count c.loop-i-test.true) in
    let here = c.loop-i.invariant.back (pair_said c.args.page.now i ∷ pairs_from c.args.page.now (suc i) (c.args.count - suc i))
    (subst (λ (l : List Pair). AreInside c.args.from c.args.slots l) (sym c.loop-i.invariant.so_far ∙ split) all) in
    absurd (false≢true (sym c.if-not-may_follow.true ∙ c.may_follow.ensures.1 (subst (λ (p : Pair). low_for c.args.from c.loop-i.last ≤ p.0) (sym c.read_pair-key.ensures.pair) here.0)))

pub returns-then-slot-from-clause-none : goal.returns-then-slot-from-clause-none
returns-then-slot-from-clause-none c = λ all.
    let i = c.loop-i.i in
    let split = ap (λ (l : List Pair). c.loop-i.some.items ++ l) (from_step c.args.page.now i c.args.count c.loop-i-test.true) in
    let here = c.loop-i.invariant.back (pair_said c.args.page.now i ∷ pairs_from c.args.page.now (suc i) (c.args.count - suc i))
    (subst (λ (l : List Pair). AreInside c.args.from c.args.slots l) (sym c.loop-i.invariant.so_far ∙ split) all) in
    let less : c.read_pair-key.result.1 < c.args.slots = subst (λ (p : Pair). p.1 < c.args.slots) (sym c.read_pair-key.ensures.pair) here.1 in
    omega (arith, less, c.if-slot-from.true, c.from.ensures)

pub returns-clause-rest : goal.returns-clause-rest
returns-clause-rest c =
    sym (append-nil c.loop-i.some.items)
    ∙ ap (λ (l : List Pair). c.loop-i.some.items ++ l) (sym (from_end c.args.page.now c.loop-i.i c.args.count c.loop-i-test.false))
    ∙ c.loop-i.invariant.so_far

pub returns-clause-inside : goal.returns-clause-inside
returns-clause-inside c = subst (λ (l : List Pair). AreInside c.args.from c.args.slots l) (append-nil c.loop-i.some.items) (c.loop-i.invariant.inside [] tt)
