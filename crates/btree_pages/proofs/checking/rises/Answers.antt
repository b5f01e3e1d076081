use Rattle.std.proofs.Common.{◌↔◌, ◌≤◌, ◌-◌, ◌+◌, suc, List, refl, subst, sym, arith}
use Rattle.std.proofs.lemmas.Bool.{false≢true}
use Rattle.page_store.specs.Pairs.{Pair, Rise}
use Rattle.index_pages.specs.Page.{pairs_said, pairs_from}
use Rattle.btree_pages.specs.Checked.{high_of, least_of}
use Rattle.btree_pages.proofs.Checks.{whole_left, rise_step, rise_not, rise_end}
use Rattle.btree_pages.proofs.checking.rises.Goals as goal

pub loop-i-init : goal.loop-i-init
loop-i-init c =
    let e = whole_left c.args.bytes.now c.args.count c.requires.count in
    record {
      least = omega arith;
      left = (
        λ a. subst (λ (ps : List Pair). Rise c.args.low (high_of c.args.high) ps) (sym e) a,
        λ a. subst (λ (ps : List Pair). Rise c.args.low (high_of c.args.high) ps) e a,
      );
    }

pub returns-then-not-is_above : goal.returns-then-not-is_above
returns-then-not-is_above c = (
  λ bad. absurd (false≢true bad),
  λ all.
      absurd (rise_not c.args.bytes.now c.loop-i.i c.args.count (Rise c.args.low (high_of c.args.high) (pairs_said c.args.bytes.now)) (least_of c.args.low c.loop-i.last) (high_of c.args.high)
      c.loop-i.invariant.left c.loop-i-test.true
      (λ le. false≢true (c.if-not-is_above.ensures.1 (subst (λ (p : Pair). least_of c.args.low c.loop-i.last ≤ p.0) (sym c.read_pair-key.ensures.pair) le))) all),
)

pub loop-i-preserved : goal.loop-i-preserved
loop-i-preserved c =
    let low = subst (λ (p : Pair). least_of c.args.low c.loop-i.last ≤ p.0) c.read_pair-key.ensures.pair (c.if-not-is_above.ensures.0 refl) in
    let r = rise_step c.args.bytes.now c.loop-i.i c.args.count (Rise c.args.low (high_of c.args.high) (pairs_said c.args.bytes.now)) (least_of c.args.low c.loop-i.last) (high_of c.args.high)
    c.loop-i.invariant.left c.loop-i-test.true low in
    record {
      least = omega (arith, c.read_pair-key.ensures.small.0);
      left = subst (λ (p : Pair). Rise (suc p.0) (high_of c.args.high) (pairs_from c.args.bytes.now (c.loop-i.i + 1) (c.args.count - (c.loop-i.i + 1))) ↔ Rise c.args.low (high_of c.args.high) (pairs_said c.args.bytes.now))
          (sym c.read_pair-key.ensures.pair) r;
    }

pub returns : goal.returns
returns c =
    let r = rise_end c.args.bytes.now c.loop-i.i c.args.count (Rise c.args.low (high_of c.args.high) (pairs_said c.args.bytes.now)) (least_of c.args.low c.loop-i.last) (high_of c.args.high)
    c.loop-i.invariant.left c.loop-i-test.false in
    (λ good. r.0 (c.is_below.ensures.0 good), λ all. c.is_below.ensures.1 (r.1 all))
