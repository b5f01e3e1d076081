use Rattle.std.proofs.Common.{ap, sym, ◌∙◌, ◌++◌, append-nil}
use Rattle.history.specs.Rows.{records_in}
use Rattle.history_replay.proofs.Replaying.{entries_of}
use Rattle.history_replay.proofs.replay.Replay.tables.Goals as goal

pub returns : goal.returns
returns c = sym (append-nil (records_in c.loop-key.tables)) ∙ ap (λ rest. records_in c.loop-key.tables ++ rest) (sym c.in-None.ensures.steps.0) ∙ c.loop-key.invariant
    ∙ sym (entries_of c.args.self.now.table.entries c.iter-key-items.ensures.ordered)
