use Rattle.std.proofs.Common.{◌++◌, [], ◌∷◌, List, take, sym, ap, ◌∙◌}
use Rattle.std.specs.BTreeMap.{insert_entry}
use Rattle.std.specs.Ordering.{nat_cmp}
use Rattle.std.proofs.lemmas.List.{take_more}
use Rattle.history.specs.Writes.{Row}
use Rattle.dump_text.proofs.Rising.{put_behind, below_next}
use Rattle.dump_text.proofs.keyed_rows.map_of.Goals as goal

pub loop-row-preserved : goal.loop-row-preserved
loop-row-preserved c =
    let rows = c.args.rows.now in
    let i = c.loop-row.row-index in
    let row = c.row-item.result in
    c.in_ok-insert.ensures.entries ∙ ap (λ (l : List Row). insert_entry nat_cmp l row.0 row.1) c.loop-row.invariant
    ∙ put_behind row.0 row.1 (take i rows) (below_next rows i row c.requires c.loop-row-test.true c.row-item.is)
    ∙ ap (λ (r : Row). take i rows ++ r ∷ []) c.row-item.is ∙ sym (take_more rows i row c.loop-row-test.true)
