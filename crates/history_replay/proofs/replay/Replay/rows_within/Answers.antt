use Rattle.std.proofs.Common.{ap, sym, ◌∙◌, ◌++◌, append-nil}
use Rattle.history_replay.proofs.Replaying.{entries_of, listed}
use Rattle.history_replay.proofs.replay.Replay.rows_within.Goals as goal

pub returns : goal.returns
returns c = sym (append-nil c.loop-key.rows) ∙ ap (λ rest. c.loop-key.rows ++ listed c.args.table.now c.args.low c.args.high rest) (sym c.in-None.ensures.steps.0) ∙ c.loop-key.invariant
    ∙ ap (listed c.args.table.now c.args.low c.args.high) (sym (entries_of c.args.self.now.table.entries c.iter-key-items.ensures.ordered))
