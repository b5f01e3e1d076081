use Rattle.std.proofs.Common.{List, refl, ap, subst, sym, arith}
use Rattle.std.proofs.lemmas.Bool.{false≢true}
use Rattle.page_store.specs.Pairs.{Pair}
use Rattle.btree_laws.specs.Tree.{AreChildren}
use Rattle.index_pages.specs.Page.{pairs_said}
use Rattle.btree_pages.proofs.Checks.{whole_left, named_step, named_here, named_end}
use Rattle.btree_pages.proofs.checking.are_named.Goals as goal

pub loop-i-init : goal.loop-i-init
loop-i-init c =
    let e = whole_left c.args.bytes.now c.args.count c.requires.count in (
      λ a. subst (λ (ps : List Pair). AreChildren c.args.pages ps) (sym e) a,
      λ a. subst (λ (ps : List Pair). AreChildren c.args.pages ps) e a,
    )

pub returns-then-child-lt-FIRST_CHILD : goal.returns-then-child-lt-FIRST_CHILD
returns-then-child-lt-FIRST_CHILD c = (
  λ bad. absurd (false≢true bad),
  λ all.
      let h = named_here c.args.bytes.now c.loop-i.i c.args.count (AreChildren c.args.pages (pairs_said c.args.bytes.now)) c.args.pages c.loop-i.invariant c.loop-i-test.true all in
      absurd (omega (arith, h.0, ap (λ (p : Pair). p.1) c.read_pair-child.ensures.pair, c.if-child-lt-FIRST_CHILD.true)),
)

pub returns-then-child-from : goal.returns-then-child-from
returns-then-child-from c = (
  λ bad. absurd (false≢true bad),
  λ all.
      let h = named_here c.args.bytes.now c.loop-i.i c.args.count (AreChildren c.args.pages (pairs_said c.args.bytes.now)) c.args.pages c.loop-i.invariant c.loop-i-test.true all in
      absurd (omega (arith, h.1, ap (λ (p : Pair). p.1) c.read_pair-child.ensures.pair, c.from.ensures, c.if-child-from.true)),
)

pub loop-i-preserved : goal.loop-i-preserved
loop-i-preserved c =
    let e = ap (λ (p : Pair). p.1) c.read_pair-child.ensures.pair in
    named_step c.args.bytes.now c.loop-i.i c.args.count (AreChildren c.args.pages (pairs_said c.args.bytes.now)) c.args.pages c.loop-i.invariant c.loop-i-test.true
    (omega (arith, e, c.if-child-lt-FIRST_CHILD.false)) (omega (arith, e, c.from.ensures, c.if-child-from.false))

pub returns : goal.returns
returns c = (
  λ good. named_end c.args.bytes.now c.loop-i.i c.args.count (AreChildren c.args.pages (pairs_said c.args.bytes.now)) c.args.pages c.loop-i.invariant c.loop-i-test.false,
  λ all. refl,
)
