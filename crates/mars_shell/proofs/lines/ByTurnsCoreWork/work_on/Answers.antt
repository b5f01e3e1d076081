use Rattle.std.proofs.Common.{arith}
use Rattle.mars_shell.proofs.Lining.{stands, by_turns}
use Rattle.mars_shell.proofs.lines.ByTurnsCoreWork.work_on.Goals as goal

pub answer_lines-ended-requires : goal.answer_lines-ended-requires
answer_lines-ended-requires g c = record { callers_are = c.requires.numbers; alive = c.requires.ready.alive }

pub returns-clause-works : goal.returns-clause-works
returns-clause-works g c =
    let s = g.S.EawStore in
    let ran = c.answer_lines-ended.ensures.ran in
    record {
      cut = ran.cut;
      text = ran.text;
      wrote = ran.wrote;
      counts = ran.counts;
      holds = λ told. by_turns s.tells 0 _ c.requires.ready told _ (omega (arith, c.requires.numbers, c.ranges.numbers.fits)) c.args.input.now c.answer_lines-ended.result ran.cut ran.text
          (ran.holds told _ (stands s.tells 0 _ c.requires.ready told));
    }
