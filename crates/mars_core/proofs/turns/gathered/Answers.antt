use Rattle.std.proofs.Common.{List, [], ◌∷◌, ◌++◌, ap, ◌∙◌}
use Rattle.history.specs.Rows.{NamedRows}
use Rattle.mars_core.proofs.turns.gathered.Goals as goal

pub loop-name-preserved : goal.loop-name-preserved
loop-name-preserved g c = c.in_ok-push.ensures.ok ∙ ap (λ (tables : List NamedRows). tables ++ (c.in-Some.name, c.in-Some.rows) ∷ []) c.loop-name.invariant
