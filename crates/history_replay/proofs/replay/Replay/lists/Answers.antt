use Rattle.std.proofs.Common.{◌≡◌, ℕ, List, [], ap, sym, ◌∙◌}
use Rattle.history.specs.Writes.{rows_within}
use Rattle.history.specs.declared.call.Reply.{Reply}
use Rattle.history.specs.declared.call.Reply.TheVariants.{Listed}
use Rattle.history_replay.specs.Replay.{table_in}
use Rattle.history_replay.proofs.Comparing.{rows_decide}
use Rattle.history_replay.proofs.replay.Replay.lists.Goals as goal

rows_in : Reply → List (ℕ × List ℕ)
rows_in (Listed rows) = rows
rows_in _ = []

same_rows : (one other : List (ℕ × List ℕ)) → Listed one ≡ Listed other → one ≡ other
unfolding rows_in
same_rows one other is = ap rows_in is

pub returns : goal.returns
returns c =
    let decides = rows_decide c.in_ok-rows.rows c.in-Listed.told c.eq.result c.eq.ensures in
    let within = rows_within c.args.table.now c.args.low c.args.high (table_in c.args.self.now.table) in (
      λ same. c.in-Listed.is ∙ ap Listed (sym (decides.0 same) ∙ c.in_ok-rows.ensures),
      λ is. decides.1 (c.in_ok-rows.ensures ∙ sym (same_rows c.in-Listed.told within (sym c.in-Listed.is ∙ is))),
    )
