use Rattle.std.proofs.Common.{◌≡◌, take}
use Rattle.std.specs.List.{list_all}
use Rattle.record_slots.specs.Text.{is_visible}
use Rattle.record_slots.proofs.value.each_visible.Given as goal

abbrev pub invariant-loop-byte : goal.invariant-loop-byte
invariant-loop-byte l = l.all ≡ list_all is_visible (take l.byte-index l.text)
