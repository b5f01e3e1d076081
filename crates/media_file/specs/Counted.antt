-- How calls of a file are counted.
use Rattle.std.specs.Prelude.{ℕ, ◌≡◌, ◌+◌, ◌-◌, ◌^◌, ◌≤◌, ◌⊎◌, max, ◌==◌, nat_le, ◌&&◌, if◌then◌else◌, Result, Ok, Err}
use Rattle.mars_base.specs.Causes.{next_count}
use Rattle.media_file.specs.declared.calls.CallFault.{CallFault}
use Rattle.media_file.specs.declared.calls.CallFault.TheVariants.{Interrupted, Failed}
use Rattle.media_file.specs.declared.call_faults.CallFaults.{CallFaults}

-- one more, up to the last value of a u64, at which a count stays
abbrev pub raised : ℕ → ℕ
raised n = max n (next_count n)

-- before the first call
abbrev pub no_faults : CallFaults
no_faults = record { failed = 0; interrupted = 0 }

-- the counts after a call with this answer
abbrev pub after_answer : {T : Type 0} → Result T CallFault → CallFaults → CallFaults
after_answer (Ok done) faults = faults
after_answer (Err Interrupted) faults = record faults { interrupted = raised faults.interrupted }
after_answer (Err Failed) faults = record faults { failed = raised faults.failed }

-- an answer to a read or a write of so many bytes, as it counts: one that takes none of some is a failure
abbrev pub part_of : ℕ → Result ℕ CallFault → Result ℕ CallFault
part_of len (Ok count) = if count == 0 && nat_le 1 len then Err Failed else Ok count
part_of len (Err fault) = Err fault

-- What was counted by a call that is made again where it is interrupted, and goes on where a part is done, of at most so many parts.
-- At Ok none has failed. At Err one has, the last; or they were as many as a u64 counts, all interrupted but for the parts.
abbrev pub Tried : {T E : Type 0} → ℕ → CallFaults → CallFaults → Result T E → Type 0
Tried parts old new (Ok done) = new.failed ≡ old.failed
Tried parts old new (Err fault) = (new.failed ≡ raised old.failed) ⊎ ((new.failed ≡ old.failed) × (2 ^ 64 - 1 ≤ new.interrupted + parts))
