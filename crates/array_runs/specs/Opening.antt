-- What comes of a run whose array is not opened.
use Rattle.std.specs.Prelude.{[], true, false}
use Rattle.pcm_media.specs.View.{View}
use Rattle.array_runs.specs.Outcome.{OutcomeOf}
use Rattle.array_runs.specs.declared.status.Status.{Status}
use Rattle.array_runs.specs.declared.status.Status.TheVariants.{Good, Usage, TooLong, ReadFault, WriteFault, NoMemory, Damaged, Refused, BadFrame, Gap}

-- a run without an opened array may end with this status
abbrev pub IsUnopened : Status → Type 0
IsUnopened Good = ⊥
IsUnopened Usage = ⊥
IsUnopened WriteFault = ⊥
IsUnopened (Damaged page) = ⊥
IsUnopened (Refused refusal) = ⊥
IsUnopened (BadFrame n) = ⊥
IsUnopened (Gap expected got) = ⊥
IsUnopened _ = Unit {0}

-- an input that is not taken ends the run with this status
abbrev pub IsUnread : Status → Type 0
IsUnread TooLong = Unit {0}
IsUnread ReadFault = Unit {0}
IsUnread NoMemory = Unit {0}
IsUnread _ = ⊥

-- the outcome if nothing was done
abbrev pub Unopened : View → Status → View → Type 0
Unopened old status new = OutcomeOf true false 0 (λ ended. ⊥) old status new false []
