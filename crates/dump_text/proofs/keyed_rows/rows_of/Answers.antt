use Rattle.std.proofs.Common.{◌≡◌, ◌++◌, List, append-nil, sym, ap, subst, ◌∙◌}
use Rattle.history.specs.Key.{main_name}
use Rattle.history.specs.Writes.{Row}
use Rattle.dump_text.specs.Dump.{AreRising}
use Rattle.dump_text.proofs.keyed_rows.rows_of.Goals as goal

pub returns-clause-same : goal.returns-clause-same
returns-clause-same c = sym (append-nil c.loop-key.rows) ∙ ap (λ rest. c.loop-key.rows ++ rest) (sym c.in-None.ensures.steps.0) ∙ c.loop-key.invariant

pub returns-clause-rising : goal.returns-clause-rising
returns-clause-rising c =
    let same : c.loop-key.rows ≡ c.args.map.now.entries = sym (append-nil c.loop-key.rows) ∙ ap (λ rest. c.loop-key.rows ++ rest) (sym c.in-None.ensures.steps.0) ∙ c.loop-key.invariant in
    subst (λ (rows : List Row). AreRising (main_name, rows)) (sym same) c.iter-key-items.ensures.ordered
