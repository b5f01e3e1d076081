-- How calls of a file in memory are answered.
use Rattle.std.specs.Prelude.{ℕ, ◌≡◌, min, List, [], ◌∷◌, Result, Err, IsOk}
use Rattle.media_file.specs.declared.calls.CallFault.{CallFault}
use Rattle.media_file.specs.declared.calls.CallFault.TheVariants as fault
use Rattle.media_file.specs.declared.honest_call.Answer.{Answer}
use Rattle.media_file.specs.declared.honest_call.Answer.TheVariants.{Whole, Part, Interrupted, Failed}

-- the answer of a list to the next call
abbrev pub next_of : List Answer → Answer
next_of [] = Whole
next_of (answer ∷ later) = answer

-- a call was answered so: it did its work, or a part of it; it was interrupted; it failed
abbrev pub Obeys : {T : Type 0} → Answer → Result T CallFault → Type 0
Obeys Whole result = IsOk result
Obeys (Part most) result = IsOk result
Obeys Interrupted result = result ≡ Err fault.Interrupted
Obeys Failed result = result ≡ Err fault.Failed

-- how many of so many bytes are done
abbrev pub part_done : Answer → ℕ → ℕ
part_done Whole len = len
part_done (Part most) len = min most len
part_done Interrupted len = 0
part_done Failed len = 0
