use Rattle.std.proofs.Common.{◌∙◌, ap}
use Rattle.std.proofs.lemmas.List.{take_all}
use Rattle.std.proofs.lemmas.Result.{IfOk-weaker}
use Rattle.std.specs.FinMap.{entries}
use Rattle.history.specs.Legal.{records}
use Rattle.history.specs.Rows.{table_of}
use Rattle.history_replay.proofs.replay.play.Goals as goal

pub returns : goal.returns
returns c =
    IfOk-weaker c.tables.result _ _
    (λ tables is. is ∙ ap entries (c.loop-done.invariant ∙ ap (records (table_of c.args.base.now)) (take_all c.loop-done.done-index c.args.history.now c.loop-done-test.false)))
    c.tables.ensures
