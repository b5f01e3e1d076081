use Rattle.std.proofs.Common.{refl}
use Rattle.eaw_script.specs.Progress.{begun}
use Rattle.eaw_script.proofs.run.answer_commands.Goals as goal

pub returns-clause-ran : goal.returns-clause-ran
returns-clause-ran g c =
    let ran = c.answer_lines-ended.ensures.ran in
    let store = g.S.EawStore.view c.args.store in
    record {
      cut = ran.cut;
      text = ran.text;
      wrote = ran.wrote;
      counts = ran.counts;
      holds = λ tell. ran.holds tell (begun store.shape store.state) (record { shape = refl; state = refl; certain = refl });
    }
