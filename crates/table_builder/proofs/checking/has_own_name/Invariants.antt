use Rattle.std.proofs.Common.{ℕ, ◌≡◌, ◌≢◌, ◌<◌}
use Rattle.std.specs.Prelude.{Some, slice_get}
use Rattle.history.specs.Rows.{NamedRows}
use Rattle.table_builder.proofs.checking.has_own_name.Given as goal

-- no table so far has its name
abbrev pub invariant-loop-i : goal.invariant-loop-i
invariant-loop-i l = (k : ℕ) (one two : NamedRows) → k < l.i → slice_get l.tables k ≡ Some one → slice_get l.tables l.j ≡ Some two → one.0 ≢ two.0
