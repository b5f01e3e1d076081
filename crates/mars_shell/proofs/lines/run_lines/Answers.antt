use Rattle.std.proofs.Common.{Bool, sym, subst, refl}
use Rattle.std.specs.Prelude.{true, false}
use Rattle.array_runs.specs.Outcome.{OutcomeOf}
use Rattle.mars_shell.specs.Late.{depth_of}
use Rattle.mars_shell.specs.FramedRun.{RunsAs}
use Rattle.mars_shell.proofs.lines.run_lines.Goals as goal

pub returns-then-options-clause-ran : goal.returns-then-options-clause-ran
returns-then-options-clause-ran g c =
    let old = g.M.Media.view c.args.media in
    let new = g.M.Media.view c.run_framed.result.1 in
    let ran = c.run_framed.ensures.ran in
    record {
      cut = ran.cut;
      text = ran.text;
      wrote = ran.wrote;
      counts = ran.counts;
      holds = (
        ran.holds.0,
        ran.holds.1,
        λ told. subst (λ (b : Bool). OutcomeOf false true 0 (λ ended. RunsAs b (depth_of c.args.options.writing) ran.holds.0 ran.cut ran.text old ended new) old c.run_framed.result.0 new ran.cut ran.text)
            (sym c.if-options.true) (ran.holds.2 told),
      );
    }

pub returns-clause-ran : goal.returns-clause-ran
returns-clause-ran g c =
    let old = g.M.Media.view c.args.media in
    let new = g.M.Media.view c.over_records.result.1 in
    let ran = c.over_records.ensures.ran in
    record {
      cut = ran.cut;
      text = ran.text;
      wrote = ran.wrote;
      counts = ran.counts;
      holds = (
        ran.holds.0,
        ran.holds.1 refl,
        λ told. subst (λ (b : Bool). OutcomeOf false true 0 (λ ended. RunsAs b (depth_of c.args.options.writing) ran.holds.0 ran.cut ran.text old ended new) old c.over_records.result.0 new ran.cut ran.text)
            (sym c.if-options.false) (ran.holds.2 told),
      );
    }

pub returns-then-options-clause-spares : goal.returns-then-options-clause-spares
returns-then-options-clause-spares g c = c.run_framed.ensures.spares

pub returns-clause-spares : goal.returns-clause-spares
returns-clause-spares g c = record { no_usage = c.over_records.ensures.no_usage; early = λ early. (c.over_records.ensures.early early).1; silent = c.over_records.ensures.silent }
