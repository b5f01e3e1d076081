use Rattle.std.proofs.Common.{refl, subst, arith}
use Rattle.std.proofs.lemmas.List.{take_all}
use Rattle.std.proofs.lemmas.Bool.{both_ways, false≢true}
use Rattle.history.specs.Legal.{IsLegal}
use Rattle.history.specs.Rows.{table_of}
use Rattle.history_replay.specs.Replay.{table_in}
use Rattle.history_replay.proofs.Judging.{left-next, stays_legal, is_misnumbered, is_illegal}
use Rattle.history_replay.proofs.replay.is_legal.Goals as goal

pub returns-then-done-i : goal.returns-then-done-i
returns-then-done-i c =
    let base = table_of c.args.base.now in (
      λ never. absurd (false≢true never),
      λ legal. absurd (is_misnumbered base c.args.history.now c.loop-i.i c.index-history-i.result c.loop-i-test.true c.index-history-i.is
          (table_in c.loop-i.replay.table) c.loop-i.invariant.table (λ is. omega (arith, is)) legal),
    )

pub returns-then-not-branch : goal.returns-then-not-branch
returns-then-not-branch c =
    let base = table_of c.args.base.now in (
      λ never. absurd (false≢true never),
      λ legal. absurd (is_illegal base c.args.history.now c.loop-i.i c.index-history-i.result c.loop-i-test.true c.index-history-i.is
          (table_in c.loop-i.replay.table) c.loop-i.invariant.table (λ right. both_ways c.in_ok-is_right.field-0 c.if-not-branch.true (c.in_ok-is_right.ensures.right.1 right))
          legal),
    )

pub loop-i-preserved : goal.loop-i-preserved
loop-i-preserved c =
    let base = table_of c.args.base.now in
    record {
      table = left-next base c.args.history.now c.loop-i.i c.index-history-i.result c.loop-i-test.true c.index-history-i.is
          (table_in c.loop-i.replay.table) c.loop-i.invariant.table (table_in c.is_right.new.self.table) (c.in_ok-is_right.ensures.made c.if-not-branch.false);
      legal = stays_legal base c.args.history.now c.loop-i.i c.index-history-i.result c.loop-i-test.true c.index-history-i.is
          (table_in c.loop-i.replay.table) c.loop-i.invariant.table c.loop-i.invariant.legal (omega arith) (c.in_ok-is_right.ensures.right.0 c.if-not-branch.false);
    }

pub returns : goal.returns
returns c =
    (λ _. subst (IsLegal (table_of c.args.base.now)) (take_all c.loop-i.i c.args.history.now c.loop-i-test.false) c.loop-i.invariant.legal, λ _. refl)
