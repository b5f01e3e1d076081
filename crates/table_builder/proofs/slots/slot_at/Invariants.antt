use Rattle.std.proofs.Common.{◌≡◌, drop}
use Rattle.std.specs.Prelude.{slice_get}
use Rattle.table_builder.specs.Plan.{slots_from}
use Rattle.table_builder.proofs.slots.slot_at.Given as goal

-- it is one of those of the tables that are left
abbrev pub invariant-loop-number : goal.invariant-loop-number
invariant-loop-number l = slice_get (slots_from l.number (drop l.number l.tables)) l.left ≡ slice_get (slots_from 0 l.tables) l.slot
