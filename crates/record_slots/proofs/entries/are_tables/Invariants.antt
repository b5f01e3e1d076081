use Rattle.std.proofs.Common.{ℕ, ◌≡◌, ◌<◌, ◌≤◌, Some}
use Rattle.std.specs.Prelude.{slice_get}
use Rattle.record_slots.specs.Super.{tables_used, IsApart}
use Rattle.record_slots.specs.declared.super_page.TableEntry.{TableEntry}
use Rattle.record_slots.proofs.entries.are_tables.Given as goal

-- those so far are tables
abbrev pub invariant-loop-j : goal.invariant-loop-j
invariant-loop-j l = record {
  inside : (k : ℕ) (table : TableEntry) → 1 ≤ k → k < l.j → slice_get (tables_used l.entries) k ≡ Some table → (2 ≤ table.root) × (table.root < l.pages);
  apart : (k : ℕ) → k < l.j → IsApart (tables_used l.entries) k;
}
