-- What the kinds of a status give.
use Rattle.std.proofs.Common.{◌≡◌, ◌⊎◌, ℕ, inl, inr, refl, ap, subst, sym, Result, Ok, Err, List, [], length, ◌≤◌}
use Rattle.std.specs.Result.{IfErr, IfOk}
use Rattle.mars_core.specs.declared.fault.CoreFault.{CoreFault}
use Rattle.mars_core.specs.declared.fault.CoreFault.TheVariants as core
use Rattle.script_run.specs.Counts.{Counts as ScriptCounts}
use Rattle.script_run.specs.declared.ended.Ended.{Ended}
use Rattle.script_run.specs.declared.ended.Ended.TheVariants as script
use Rattle.script_run.specs.Input.{input_limit}
use Rattle.array_runs.specs.Input.{InputSays}
use Rattle.array_runs.specs.Opening.{IsUnread, IsUnopened}
use Rattle.array_runs.specs.Statuses.{Counts, IsEarly, IsRefusal, IsSilent, script_status, served_status}
use Rattle.array_runs.specs.declared.status.Status.{Status}
use Rattle.array_runs.specs.declared.status.Status.TheVariants.{Good, Usage, TooLong, ReadFault, WriteFault, MediaFault, NoMemory, Damaged, BadRow, NotMars, BadShape, Refused, BadFrame, Gap}

-- a status with which nothing is written ends a run early, or is a refusal
pub silent_kind : (status : Status) → IsSilent status → IsEarly status ⊎ IsRefusal status
silent_kind Usage silent = inr tt
silent_kind TooLong silent = inl tt
silent_kind ReadFault silent = inl tt
silent_kind (Damaged page) silent = inr tt
silent_kind (BadRow logger tid) silent = inr tt
silent_kind NotMars silent = inr tt
silent_kind (BadShape which given) silent = inr tt
silent_kind (Refused refusal) silent = inr tt
silent_kind Good silent = absurd (silent.0 refl)
silent_kind WriteFault silent = absurd (silent.1 refl)
silent_kind MediaFault silent = absurd (silent.2 refl)
silent_kind NoMemory silent = absurd (silent.3 refl)
silent_kind (BadFrame n) silent = absurd (silent.4 n refl)
silent_kind (Gap expected got) silent = absurd (silent.5 expected got refl)

pub read_fault_early : (status : Status) → status ≡ ReadFault → IsEarly status
read_fault_early status is = subst IsEarly (sym is) tt

pub is_early : (status : Status) → (status ≡ TooLong) ⊎ (status ≡ ReadFault) → IsEarly status
is_early status (inl is) = subst IsEarly (sym is) tt
is_early status (inr is) = read_fault_early status is

-- a command that reads nothing leaves the source's count
pub counts_unread : (status : Status) (s k k' m m' : ℕ) → (IsEarly status → ⊥) → Counts status 0 0 k k' m m' → Counts status s s k k' m m'
counts_unread ReadFault s k k' m m' late counts = absurd (late tt)
counts_unread MediaFault s k k' m m' late counts = (refl, counts.1)
counts_unread _ s k k' m m' late counts = (refl, counts.1, counts.2)

-- nothing is written before the array is opened
pub counts_unwritten : (status : Status) (s s' k m m' : ℕ) → IsUnopened status → Counts status s s' 0 0 m m' → Counts status s s' k k m m'
counts_unwritten TooLong s s' k m m' kind counts = (counts.0, refl, counts.2)
counts_unwritten ReadFault s s' k m m' kind counts = (counts.0, refl, counts.2)
counts_unwritten MediaFault s s' k m m' kind counts = counts
counts_unwritten NoMemory s s' k m m' kind counts = (counts.0, refl, counts.2)
counts_unwritten (BadRow logger tid) s s' k m m' kind counts = (counts.0, refl, counts.2)
counts_unwritten NotMars s s' k m m' kind counts = (counts.0, refl, counts.2)
counts_unwritten (BadShape which given) s s' k m m' kind counts = (counts.0, refl, counts.2)
counts_unwritten _ s s' k m m' kind counts = absurd kind

-- work over an array that was opened does not end early
pub script_late : (ended : Ended) → IsEarly (script_status ended) → ⊥
script_late script.All early = early
script_late _ early = early

pub served_late : (result : Result Ended CoreFault) → IsEarly (served_status result) → ⊥
served_late (Ok ended) early = script_late ended early
served_late (Err (core.Damaged page)) early = early
served_late (Err core.Media) early = early
served_late (Err core.NoMemory) early = early

-- it ends with a refusal only if the records were not taken
pub script_accepted : (ended : Ended) → IsRefusal (script_status ended) → ⊥
script_accepted script.All refusal = refusal
script_accepted _ refusal = refusal

pub served_refused : (Silent : Type 0) (result : Result Ended CoreFault) → IfErr result (λ fault. Silent) → IsRefusal (served_status result) → Silent
served_refused Silent (Ok ended) silent refusal = absurd (script_accepted ended refusal)
served_refused Silent (Err fault) silent refusal = silent

-- it is no wrong use
pub served_usage : (result : Result Ended CoreFault) → served_status result ≡ Usage → ⊥
served_usage (Ok script.All) is = cc is
served_usage (Ok script.WriteFault) is = cc is
served_usage (Ok script.MediaFault) is = cc is
served_usage (Ok script.NoMemory) is = cc is
served_usage (Err (core.Damaged page)) is = cc is
served_usage (Err core.Media) is = cc is
served_usage (Err core.NoMemory) is = cc is

-- nothing is told of work that is written at its end and did not come to it
told_late : (Silent : Type 0) (ended : Ended) → (ended ≡ script.All) ⊎ (ended ≡ script.WriteFault) → (script_status ended ≡ MediaFault) ⊎ (script_status ended ≡ NoMemory) → Silent
told_late Silent ended (inl is) (inl status) = absurd (cc (ap script_status is, status))
told_late Silent ended (inl is) (inr status) = absurd (cc (ap script_status is, status))
told_late Silent ended (inr is) (inl status) = absurd (cc (ap script_status is, status))
told_late Silent ended (inr is) (inr status) = absurd (cc (ap script_status is, status))

pub served_untold : (Silent : Type 0) (result : Result Ended CoreFault) → IfErr result (λ fault. Silent) → IfOk result (λ ended. (ended ≡ script.All) ⊎ (ended ≡ script.WriteFault))
    → (served_status result ≡ MediaFault) ⊎ (served_status result ≡ NoMemory) → Silent
served_untold Silent (Ok ended) silent end either = told_late Silent ended end either
served_untold Silent (Err fault) silent end either = silent

-- the status says which count rose, that of the medium through its store
pub script_counts : (ended : Ended) (s k k' m m' : ℕ) → ScriptCounts ended k k' m m' → Counts (script_status ended) s s k k' m m'
script_counts script.All s k k' m m' counts = (refl, counts.0, counts.1)
script_counts script.WriteFault s k k' m m' counts = (refl, counts.0, counts.1)
script_counts script.MediaFault s k k' m m' counts = (refl, counts)
script_counts script.NoMemory s k k' m m' counts = (refl, counts.0, counts.1)

pub scripted : (ended : Ended) (status : Status) (s s' k k' m m' n n' : ℕ) → status ≡ script_status ended → s' ≡ s → n ≡ m → m' ≡ n' → ScriptCounts ended k k' n n' → Counts status s s' k k' m m'
scripted ended status s s' k k' m m' n n' is read before after counts = rw (is, read, ← before, after) (script_counts ended s k k' n n' counts)

-- an input that was read, at a status that is not early
pub input_read : (status : Status) (given left : List ℕ) → (IsEarly status → ⊥) → length given ≤ input_limit → left ≡ [] → InputSays status given left
input_read TooLong given left late short done = absurd (late tt)
input_read ReadFault given left late short done = tt
input_read NoMemory given left late short done = tt
input_read _ given left late short done = (short, done)

-- an input that is not taken
pub unread_unopened : (status : Status) → IsUnread status → IsUnopened status
unread_unopened TooLong kind = tt
unread_unopened ReadFault kind = tt
unread_unopened NoMemory kind = tt
unread_unopened Good kind = kind
unread_unopened Usage kind = kind
unread_unopened WriteFault kind = kind
unread_unopened (Damaged page) kind = kind
unread_unopened _ kind = absurd kind

-- leaves the medium's count
pub counts_unlooked : (status : Status) (s s' m : ℕ) → IsUnread status → Counts status s s' 0 0 0 0 → Counts status s s' 0 0 m m
counts_unlooked TooLong s s' m kind counts = (counts.0, refl, refl)
counts_unlooked ReadFault s s' m kind counts = (counts.0, refl, refl)
counts_unlooked NoMemory s s' m kind counts = (counts.0, refl, refl)
counts_unlooked _ s s' m kind counts = absurd kind
