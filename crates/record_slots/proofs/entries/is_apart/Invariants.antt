use Rattle.std.proofs.Common.{ℕ, ◌≡◌, ◌≢◌, ◌<◌, Some}
use Rattle.std.specs.Prelude.{slice_get}
use Rattle.record_slots.specs.Super.{tables_used}
use Rattle.record_slots.specs.declared.super_page.TableEntry.{TableEntry}
use Rattle.record_slots.proofs.entries.is_apart.Given as goal

-- no entry so far has the name or the root
abbrev pub invariant-loop-i : goal.invariant-loop-i
invariant-loop-i l =
    (k : ℕ) (one two : TableEntry) → k < l.i → slice_get (tables_used l.entries) k ≡ Some one → slice_get (tables_used l.entries) l.j ≡ Some two → (one.name ≢ two.name) × (one.root ≢ two.root)
