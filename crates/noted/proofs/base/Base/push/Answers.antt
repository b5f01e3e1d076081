use Rattle.std.proofs.Common.{rules, ◌≡◌, ap, ◌∙◌, ◌∷◌, [], ◌++◌, List, ℕ}
use Rattle.noted.proofs.base.Base.push.Goals as goal
use Rattle.noted.proofs.base.Base.push.Goals.{in-Some+in-Some-kept+else-is_err, in-Some+in_default, in-None+in-Some-1, in-None+in-None-1}

pub invariant_of-self-2 : goal.invariant_of-self-2
invariant_of-self-2 g c =
    let same : c.then-told.result.said ≡ c.self.inside.notes.said ++ (c.args.name, c.args.rows) ∷ [] =
    c.then-told.ensures ∙ ap (λ (rows : List (ℕ × List ℕ)). c.self.inside.notes.said ++ (c.args.name, rows) ∷ []) c.into_parts-rows.ensures.notes in
    elim c.match-rows.branch [
      | in-Some+in-Some-kept+else-is_err w ↦
          let rows : w.in-Some.rows ≡ c.args.rows = search rules in
          let tables : w.in-Some-kept.tables ≡ c.self.inside.notes.said = search rules in
          let pushed : w.push.new.self ≡ w.in-Some-kept.tables ++ (c.args.name, w.in-Some.rows) ∷ [] = search rules in
          let is : w.push.new.self ≡ c.then-told.result.said = cc in
          search rules
      | in-Some+in_default w ↦ search rules
      | in-None+in-Some-1 w ↦ search rules
      | in-None+in-None-1 w ↦ search rules
    ]

pub returns : goal.returns
returns g c =
    record {
      ok = c.then-told.ensures
          ∙ ap (λ (rows : List (ℕ × List ℕ)). c.self.inside.notes.said ++ (c.args.name, rows) ∷ []) c.into_parts-rows.ensures.notes
          ∙ ap (λ (tables : List (List ℕ × List (ℕ × List ℕ))). tables ++ (c.args.name, c.args.rows) ∷ []) c.self.view_is;
    }
