-- What the calls of a medium in memory did, told as the tape of one of which nothing was taken down.
use Rattle.std.specs.Prelude.{ℕ, ◌+◌, ◌-◌, ◌^◌, nat_le, Bool, false, List, [], replicate}
use Rattle.pcm_media.specs.Images.{Content}
use Rattle.tape_media.specs.Steps as steps
use Rattle.tape_media.specs.Steps.{Step, Made, writes, barrier}
use Rattle.tape_media.specs.Tape.{Tape}
use Rattle.blank_media.specs.declared.change.Change.{Change}
use Rattle.blank_media.specs.declared.change.Change.TheVariants.{Write, Barrier}

-- what a change does
abbrev pub step_of : Change → Step
step_of (Write at bytes) = writes at bytes.now
step_of Barrier = barrier

-- so many zeros, the moment, how many calls failed, and the changes so far
abbrev pub tape_of : ℕ → ℕ → ℕ → List Made → Tape
tape_of len moment faults made = record { past = record { start = replicate len 0; done = []; ahead = made }; moment = moment; faults = faults; has_failed = false }

-- a new one
abbrev pub blank : ℕ → Tape
blank len = tape_of len 0 0 []

-- what it holds
abbrev pub content_of : Tape → Content
content_of tape = steps.content_of tape.past

-- its next calls will not fail: this many, whatever they write
abbrev pub is_steady : Tape → ℕ → ℕ → Bool
is_steady tape calls bytes = nat_le (tape.moment + calls) (2 ^ 64 - 1)
