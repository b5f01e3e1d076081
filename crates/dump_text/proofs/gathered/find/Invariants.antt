use Rattle.std.proofs.Common.{◌≡◌, false, take}
use Rattle.std.specs.List.{list_any}
use Rattle.dump_text.specs.Dump.{is_same_name}
use Rattle.dump_text.specs.Gathering.{names_of}
use Rattle.dump_text.proofs.gathered.find.Given as goal

-- none of the names so far is this one
abbrev pub invariant-loop-i : goal.invariant-loop-i
invariant-loop-i l = list_any (is_same_name l.name) (take l.i (names_of l.tables)) ≡ false
