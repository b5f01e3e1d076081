-- What is told of work at its end, and the status.
use Rattle.std.proofs.Common.{◌≡◌, ◌≤◌, ◌⊎◌, inl, inr, ℕ, Bool, true, false, List, [], Result, Ok, Err, IfErr, refl, sym, subst, arith}
use Rattle.std.specs.Prelude.{IsTrue, MatchBool}
use Rattle.mars_base.specs.Causes.{Rose}
use Rattle.pcm_media.specs.Images.{MayLeave}
use Rattle.pcm_media.specs.View.{View}
use Rattle.eaw_face.specs.StoreView.{StoreView}
use Rattle.eaw_device.specs.Opens.{Opens, Attached, KeepsData, IsBehind}
use Rattle.mars_core.specs.Attached.{GivesBack, LeftAsItWas, is_media_fault}
use Rattle.mars_core.specs.declared.fault.CoreFault.{CoreFault}
use Rattle.mars_core.specs.declared.fault.CoreFault.TheVariants as core
use Rattle.script_run.specs.declared.ended.Ended.{Ended}
use Rattle.array_runs.specs.Forms.{index_at}
use Rattle.array_runs.specs.Outcome.{OutcomeOf}
use Rattle.array_runs.specs.Untaken.{Untaken}
use Rattle.array_runs.specs.Statuses.{Counts, IsEarly, IsRefusal, served_status}
use Rattle.array_runs.specs.declared.status.Status.{Status}
use Rattle.array_runs.specs.declared.status.Status.TheVariants.{Good, Usage, WriteFault, MediaFault, NoMemory, Damaged, Refused, TooLong, ReadFault, BadRow, NotMars, BadShape, BadFrame, Gap}
use Rattle.array_runs.proofs.Opened.{untaken_outcome}
use Rattle.array_runs.proofs.Statuses.{outcome_spared}
use Rattle.told_commands.specs.Told.{IsStop, FaultCounts, Tells, Ran}

-- work does not stop with such a status
stop_late : (status : Status) → IsStop status → IsEarly status → ⊥
stop_late TooLong stop early = stop
stop_late ReadFault stop early = stop
stop_late Good stop early = stop
stop_late Usage stop early = stop
stop_late WriteFault stop early = stop
stop_late MediaFault stop early = early
stop_late NoMemory stop early = early
stop_late (Damaged page) stop early = early
stop_late (BadRow logger tid) stop early = stop
stop_late NotMars stop early = stop
stop_late (BadShape which given) stop early = stop
stop_late (Refused refusal) stop early = early
stop_late (BadFrame n) stop early = stop
stop_late (Gap expected got) stop early = stop

stop_counts : (status : Status) (s k m m' : ℕ) → IsStop status → (let end : Result (List ℕ) Status = Err status in FaultCounts end m m') → Counts status s s k k m m'
stop_counts TooLong s k m m' stop counts = absurd stop
stop_counts ReadFault s k m m' stop counts = absurd stop
stop_counts Good s k m m' stop counts = absurd stop
stop_counts Usage s k m m' stop counts = absurd stop
stop_counts WriteFault s k m m' stop counts = absurd stop
stop_counts MediaFault s k m m' stop counts = (refl, counts)
stop_counts NoMemory s k m m' stop counts = (refl, refl, counts)
stop_counts (Damaged page) s k m m' stop counts = (refl, refl, counts)
stop_counts (BadRow logger tid) s k m m' stop counts = absurd stop
stop_counts NotMars s k m m' stop counts = absurd stop
stop_counts (BadShape which given) s k m m' stop counts = absurd stop
stop_counts (Refused refusal) s k m m' stop counts = (refl, refl, counts)
stop_counts (BadFrame n) s k m m' stop counts = absurd stop
stop_counts (Gap expected got) s k m m' stop counts = absurd stop

-- the status of what was told
pub tells_usage : (end : Result (List ℕ) Status) (status : Status) (cut : Bool) (text : List ℕ) → IfErr end IsStop → Tells end status cut text → status ≡ Usage → ⊥
tells_usage (Ok whole) status true text stops told is = cc (told.0, is)
tells_usage (Ok whole) status false text stops told is = cc (told.0, is)
tells_usage (Err stop) status cut text stops told is = subst IsStop (let same : stop ≡ Usage = cc (told.0, is) in same) stops

pub tells_late : (end : Result (List ℕ) Status) (status : Status) (cut : Bool) (text : List ℕ) → IfErr end IsStop → Tells end status cut text → IsEarly status → ⊥
tells_late (Ok whole) status true text stops told early = subst IsEarly told.0 early
tells_late (Ok whole) status false text stops told early = subst IsEarly told.0 early
tells_late (Err stop) status cut text stops told early = stop_late stop stops (subst IsEarly told.0 early)

pub tells_refused : (Silent : Type 0) (end : Result (List ℕ) Status) (status : Status) (cut : Bool) (text : List ℕ) → IfErr end (λ stop. Silent) → Tells end status cut text → IsRefusal status → Silent
tells_refused Silent (Ok whole) status true text silent told refusal = absurd (subst IsRefusal told.0 refusal)
tells_refused Silent (Ok whole) status false text silent told refusal = absurd (subst IsRefusal told.0 refusal)
tells_refused Silent (Err stop) status cut text silent told refusal = silent

pub tells_untold : (Silent : Type 0) (end : Result (List ℕ) Status) (status : Status) (cut : Bool) (text : List ℕ) → IfErr end (λ stop. Silent) → Tells end status cut text → (status ≡ MediaFault) ⊎ (status ≡ NoMemory) → Silent
tells_untold Silent (Ok whole) status true text silent told (inl is) = absurd (cc (told.0, is))
tells_untold Silent (Ok whole) status true text silent told (inr is) = absurd (cc (told.0, is))
tells_untold Silent (Ok whole) status false text silent told (inl is) = absurd (cc (told.0, is))
tells_untold Silent (Ok whole) status false text silent told (inr is) = absurd (cc (told.0, is))
tells_untold Silent (Err stop) status cut text silent told either = silent

pub tells_counts : (end : Result (List ℕ) Status) (status : Status) (cut : Bool) (text : List ℕ) (s k k' m m' : ℕ) → IfErr end IsStop → Tells end status cut text → MatchBool cut (Rose k k') (k' ≡ k) → FaultCounts end m m' → Counts status s s k k' m m'
tells_counts (Ok whole) status true text s k k' m m' stops told rose same = subst (λ (x : Status). Counts x s s k k' m m') (sym told.0) (refl, rose, same)
tells_counts (Ok whole) status false text s k k' m m' stops told still same = subst (λ (x : Status). Counts x s s k k' m m') (sym told.0) (refl, still, same)
tells_counts (Err stop) status cut text s k k' m m' stops told written counts =
    let still : k' ≡ k = subst (λ (c : Bool). MatchBool c (Rose k k') (k' ≡ k)) told.1 written in
    subst (λ (x : Status × ℕ). Counts x.0 s s k x.1 m m') (λ i. (sym told.0 i, sym still i)) (stop_counts stop s k m m' stops counts)

-- of records that were not taken
pub core_stops : (fault : CoreFault) → (let r : Result Ended CoreFault = Err fault in IsStop (served_status r))
core_stops (core.Damaged page) = tt
core_stops core.Media = tt
core_stops core.NoMemory = tt

pub left_counts : (tells : Bool) (Opens : List ℕ → List ℕ → Type 0) (old new : StoreView) (fault : CoreFault) → LeftAsItWas tells Opens (is_media_fault fault) old new
    → (let r : Result Ended CoreFault = Err fault in let end : Result (List ℕ) Status = Err (served_status r) in FaultCounts end old.faults new.faults)
left_counts tells Opens old new (core.Damaged page) left = (left.kept refl).1
left_counts tells Opens old new core.Media left = (left.dies refl).1
left_counts tells Opens old new core.NoMemory left = (left.kept refl).1

pub given_counts : (tells : Bool) (Opens : List ℕ → List ℕ → Type 0) (old new : StoreView) (fault : CoreFault) → GivesBack tells Opens (is_media_fault fault) old new
    → (let r : Result Ended CoreFault = Err fault in let end : Result (List ℕ) Status = Err (served_status r) in FaultCounts end old.faults new.faults)
given_counts tells Opens old new (core.Damaged page) back = (back.kept refl).1
given_counts tells Opens old new core.Media back = (back.dies refl).1
given_counts tells Opens old new core.NoMemory back = (back.kept refl).1

pub ran_of : (tells : Bool) (old : View) (store later : StoreView) (new : View) → ((image : List ℕ) → IsTrue tells → old.left_since old.moment image → MayLeave old.content image) → Attached tells old store
    → KeepsData tells old store.moment store.left_since → store.depth ≡ 0 → IsBehind tells false later new → ((t : ℕ) (image : List ℕ) → IsTrue tells → t ≤ new.moment → MayLeave new.content image → new.left_since t image) → Ran tells old store later new
ran_of tells old store later new only_now attached keeps at_once behind counts_now = record { only_now = only_now; attached = attached; keeps = keeps; at_once = at_once; behind = behind; counts_now = counts_now }

-- nothing was done, whether the data is spared or not
pub idle_over : (spares : Bool) (old : View) (status : Status) (new : View) → OutcomeOf true true 0 (λ ended. ⊥) old status new false [] → OutcomeOf spares true 0 (λ ended. ⊥) old status new false []
idle_over spares old status new outcome =
    outcome_spared spares (λ ended. ⊥) true 0 old status new false [] outcome

pub untaken_over : (tells : Bool) → IsTrue tells → (old : View) (store later : StoreView) (new : View) → Ran tells old store later new → (spares : Bool) (fault : CoreFault)
    → Untaken spares Opens (index_at store.state.bytes) store fault false [] later → (let r : Result Ended CoreFault = Err fault in OutcomeOf spares true 0 (λ ended. ⊥) old (served_status r) new false [])
untaken_over tells told old store later new ran spares fault off =
    untaken_outcome tells told old ran.only_now store ran.attached ran.keeps false later new ran.behind spares (λ ended. ⊥) 0 (omega arith) fault false [] off
