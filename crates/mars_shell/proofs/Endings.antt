-- What the kinds of a status give, of a format and of work over records.
use Rattle.std.proofs.Common.{◌≡◌, ℕ, ⊎_elim, refl, Result, Ok, Err}
use Rattle.command_words.specs.declared.words.FormatNumbers.{FormatNumbers}
use Rattle.std.specs.Prelude.{IfOk, IfErr}
use Rattle.mars_core.specs.declared.fault.CoreFault.{CoreFault}
use Rattle.mars_core.specs.declared.fault.CoreFault.TheVariants as core
use Rattle.script_run.specs.declared.ended.Ended.{Ended}
use Rattle.script_run.specs.declared.ended.Ended.TheVariants as script
use Rattle.mars_shell.specs.Contract.{Spares}
use Rattle.mars_shell.specs.Formats.{FormatSays}
use Rattle.mars_shell.specs.Served.{ServedCounts}
use Rattle.array_runs.specs.Statuses.{Counts, IsEarly, IsRefusal, served_status}
use Rattle.array_runs.specs.declared.status.Status.{Status}
use Rattle.array_runs.specs.declared.status.Status.TheVariants.{Good, Usage, TooLong, ReadFault, WriteFault, MediaFault, NoMemory, Damaged, BadRow, NotMars, BadShape, Refused, BadFrame, Gap}
use Rattle.array_runs.proofs.Endings.{script_counts}

-- a format ends late
pub format_late : (asked : FormatNumbers) (size : ℕ) (status : Status) (Untold Untouched : Type 0) → FormatSays asked size status Untold Untouched → IsEarly status → ⊥
format_late asked size Good Untold Untouched says early = early
format_late asked size WriteFault Untold Untouched says early = early
format_late asked size MediaFault Untold Untouched says early = early
format_late asked size (BadShape which given) Untold Untouched says early = early
format_late asked size Usage Untold Untouched says early = early
format_late asked size TooLong Untold Untouched says early = says
format_late asked size ReadFault Untold Untouched says early = says
format_late asked size NoMemory Untold Untouched says early = says
format_late asked size (Damaged page) Untold Untouched says early = early
format_late asked size (BadRow logger tid) Untold Untouched says early = early
format_late asked size NotMars Untold Untouched says early = early
format_late asked size (Refused refusal) Untold Untouched says early = early
format_late asked size (BadFrame n) Untold Untouched says early = early
format_late asked size (Gap expected got) Untold Untouched says early = early

-- a command that ends late leaves what a refusal does
pub spares_of : (status : Status) (Untouched Untold : Type 0) → (status ≡ Usage → ⊥) → (IsEarly status → ⊥) → (IsRefusal status → Untold) → Spares status Untouched Untold
spares_of status Untouched Untold no_usage late refused = record { no_usage = no_usage; early = λ early. absurd (late early); silent = ⊎_elim (λ early. absurd (late early)) refused }

-- the status of work says which count rose, that of the medium through its store
served_counts : (result : Result Ended CoreFault) (s k k' m m' : ℕ) → ServedCounts result k k' m m' → Counts (served_status result) s s k k' m m'
served_counts (Ok ended) s k k' m m' counts = script_counts ended s k k' m m' counts
served_counts (Err (core.Damaged page)) s k k' m m' counts = (refl, counts.0, counts.1)
served_counts (Err core.Media) s k k' m m' counts = (refl, counts.1)
served_counts (Err core.NoMemory) s k k' m m' counts = (refl, counts.0, counts.1)

pub served : (result : Result Ended CoreFault) (status : Status) (s s' k k' m m' n n' : ℕ) → status ≡ served_status result → s' ≡ s → n ≡ m → m' ≡ n' → ServedCounts result k k' n n'
    → Counts status s s' k k' m m'
served result status s s' k k' m m' n n' is read before after counts = rw (is, read, ← before, after) (served_counts result s k k' n n' counts)

-- nothing was written where memory ran out, if nothing was where the work was not done, and where memory ran out in it
pub served_short : (Silent : Type 0) (result : Result Ended CoreFault) → IfErr result (λ fault. Silent) → IfOk result (λ ended. ended ≡ script.NoMemory → Silent) → served_status result ≡ NoMemory → Silent
served_short Silent (Ok script.All) untold short is = absurd (let no : ⊥ = cc is in no)
served_short Silent (Ok script.WriteFault) untold short is = absurd (let no : ⊥ = cc is in no)
served_short Silent (Ok script.MediaFault) untold short is = absurd (let no : ⊥ = cc is in no)
served_short Silent (Ok script.NoMemory) untold short is = short refl
served_short Silent (Err fault) untold short is = untold
