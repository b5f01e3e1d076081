use Rattle.std.proofs.Common.{◌≡◌, ℕ, List, Option, Some, None, rules, subst, sym, true≢false}
use Rattle.std.specs.Prelude.{slice_get, IfSome, IsSome}
use Rattle.taped_records.specs.Making.{tables_in}
use Rattle.taped_records.proofs.records.TapedRecords.bar_to.Goals as goal

-- what was found is there
found_at : (P : ℕ → Type 0) (found : Option ℕ) → IsSome found → IfSome found P → (at : ℕ) × P at
found_at P (Some at) is holds = (at, holds)
found_at P None is holds = absurd (true≢false (sym is))

pub returns-then-is_some-clause-cause : goal.returns-then-is_some-clause-cause
returns-then-is_some-clause-cause c =
    let at = found_at (λ (j : ℕ). slice_get c.names-names.result.now j ≡ Some c.args.name.now) c.number.result (search rules) c.number.ensures.some in
    let same : c.names-names.result.now ≡ tables_in c.args.self.now = search (rules, c.names-names.ensures, c.core.ensures.core) in
    (at.0, subst (λ (names : List (List ℕ)). slice_get names at.0 ≡ Some c.args.name.now) same at.1)
