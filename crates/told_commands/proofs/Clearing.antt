-- A purge of the records of an array that was opened.
use Rattle.std.proofs.Common.{◌≡◌, ◌⊎◌, ◌≤◌, ◌||◌, inl, inr, ⊎_elim, ℕ, zero, suc, Bool, true, false, List, [], ◌++◌, Option, None, Result, Ok, Err, IfOk, IfErr, refl, sym, ap, subst, ◌∙◌, arith}
use Rattle.std.specs.Prelude.{codes, IsTrue, IsFalse, is_some, not, take, if◌then◌else◌}
use Rattle.std.proofs.lemmas.Bool.{false≢true}
use Rattle.mars_base.specs.Causes.{Rose}
use Rattle.mars_base.proofs.Going as going
use Rattle.pcm_media.specs.Images.{MayLeave}
use Rattle.pcm_media.specs.View.{View}
use Rattle.array_shape.specs.declared.shape.Shape.{Shape}
use Rattle.array_image.specs.Decided.{settled_data}
use Rattle.device_recovery.specs.Recovered.{HasNoVote}
use Rattle.eaw_face.specs.State as face
use Rattle.eaw_face.specs.StoreView.{StoreView, LeavesOnly}
use Rattle.eaw_device.specs.Opens.{Opens, KeepsData, Attached, IsBehind}
use Rattle.page_store.specs.Index.{Index}
use Rattle.record_table.specs.Names.{names_of}
use Rattle.record_table.specs.Shown.{table_of}
use Rattle.record_table.specs.Upgrading.{upgraded, OpensUpgraded}
use Rattle.history.specs.Legal.{records}
use Rattle.history.specs.declared.transaction.Done.{Done}
use Rattle.history.specs.Table.{Granted}
use Rattle.history.specs.declared.call.Call.TheVariants.{Control}
use Rattle.history.specs.declared.call.Control.TheVariants.{Purge}
use Rattle.history.specs.declared.call.Reply.{Reply}
use Rattle.history.specs.declared.call.Reply.TheVariants as says
use Rattle.caller_steps.specs.Core.{CoreView, Steps}
use Rattle.caller_steps.specs.Fate.{is_media}
use Rattle.caller_steps.specs.Offers.{is_unoffered, is_engaged}
use Rattle.caller_steps.specs.Prefix.{HasPrefixOf}
use Rattle.caller_steps.specs.Purging.{PurgeCause, Purges}
use Rattle.caller_steps.specs.Room.{Limits}
use Rattle.caller_steps.specs.State.{State, Offer, unoffered}
use Rattle.caller_steps.specs.Step.{StepOf, Step}
use Rattle.caller_steps.proofs.Trying as steps_of_callers
use Rattle.mars_core.specs.Making.{OpensAsNamed}
use Rattle.mars_core.specs.Over.{IsOver, Begins, limits_of}
use Rattle.mars_core.specs.declared.fault.CoreFault.{CoreFault}
use Rattle.mars_core.specs.declared.fault.CoreFault.TheVariants as core
use Rattle.history_text.specs.Text.{number_line}
use Rattle.texts.specs.Written.{IsWritten}
use Rattle.script_run.specs.declared.ended.Ended.{Ended}
use Rattle.script_run.specs.declared.ended.Ended.TheVariants as script
use Rattle.array_runs.specs.Forms.{index_of_form, index_at, SaysForm}
use Rattle.array_runs.specs.Outcome.{OutcomeOf}
use Rattle.array_runs.specs.Records.{HoldsRecords, HasAll, begun_on}
use Rattle.told_commands.specs.Purge.{ClearsTo, ClearsStore, ClearedCounts, IsAnswer, StopCause, cleared, PurgesRecords, purged_end, LeavesPurged}
use Rattle.told_commands.specs.Told.{ByEnd, HasRecords, names_on, WorksOn, Tells, FaultCounts, Ran}
use Rattle.array_runs.specs.Statuses.{Counts, IsEarly, served_status}
use Rattle.array_runs.specs.declared.status.Status.{Status}
use Rattle.array_runs.specs.declared.status.Status.TheVariants.{Good, WriteFault, NoMemory}
use Rattle.array_runs.proofs.Completing.{complete_records, nothing_read}
use Rattle.array_runs.proofs.Forming.{of_form, sound_says}
use Rattle.array_runs.proofs.Opened.{holds, at_entry}
use Rattle.array_runs.proofs.Shapes.{same_limits}
use Rattle.array_runs.proofs.Statuses.{outcome_as}

-- a caller without a transaction, which has offered nothing
pub idle_as : (state : State) → state.live 0 ≡ None → state.offers 0 ≡ unoffered → is_engaged state 0 ≡ false
idle_as state none free = λ i. is_some (none i) || not (is_unoffered (free i))

-- of a core that nobody else calls nothing but its medium or a damaged page stops a purge
pub answers : (old : State) (reply : Reply) → old.is_dead ≡ false → is_engaged old 0 ≡ false → PurgeCause old 0 reply → IsAnswer reply
answers old (says.Purged n) alive idle cause = tt
answers old says.Media alive idle cause = tt
answers old (says.Damaged page) alive idle cause = tt
answers old says.Dead alive idle cause = absurd (false≢true (sym alive ∙ cause))
answers old says.Already alive idle cause = absurd (false≢true (sym idle ∙ cause.1))
answers old _ alive idle cause = absurd cause

-- what a step of such a core is
cleared_step : (limits : Limits) (old new : State) (reply : Reply) → old.is_dead ≡ false → old.live 0 ≡ None → old.offers 0 ≡ unoffered → Step limits old 0 (Control Purge) reply new → steps_of_callers.Clears limits old reply new
cleared_step limits old new reply alive none free step =
    subst (λ (x : Bool × Offer × Option Granted). StepOf limits x.0 x.1 x.2 old 0 (Control Purge) reply new) (λ i. (alive i, free i, none i)) step.acts

-- it changes neither the history nor what is in doubt
unchanged : (limits : Limits) (old new : State) (reply : Reply) → steps_of_callers.Clears limits old reply new → (new.history ≡ old.history) × (new.doubt ≡ old.doubt)
unchanged limits old new reply (inl (n, re, purges)) = (ap (λ (s : State). s.history) purges.same, ap (λ (s : State). s.doubt) purges.same)
unchanged limits old new reply (inr (re, index, e)) = (ap (λ (s : State). s.history) e, ap (λ (s : State). s.doubt) e)

-- a store that tells its data has no damaged page
undamaged : (limits : Limits) (old new : State) (page : ℕ) → steps_of_callers.Clears limits old (says.Damaged page) new → ⊥
undamaged limits old new page (inl (n, re, purges)) = absurd (cc)
undamaged limits old new page (inr (re, index, e)) = absurd (cc)

stop_cause : (tells : Bool) (limits : Limits) (old new : State) (reply : Reply) → IsAnswer reply → (IsTrue tells → steps_of_callers.Clears limits old reply new) → IfErr (cleared reply) (StopCause tells)
stop_cause tells limits old new (says.Purged n) is step = tt
stop_cause tells limits old new says.Media is step = tt
stop_cause tells limits old new (says.Damaged page) is step = λ told. undamaged limits old new page (step told)
stop_cause tells limits old new _ is step = absurd is

-- the count of the medium's faults
counted : (reply : Reply) (m m' : ℕ) → IsAnswer reply → (IsTrue (is_media reply) → Rose m m') → (IsFalse (is_media reply) → m' ≡ m) → ClearedCounts (cleared reply) m m'
counted (says.Purged n) m m' is failed kept = kept refl
counted says.Media m m' is failed kept = failed refl
counted (says.Damaged page) m m' is failed kept = kept refl
counted _ m m' is failed kept = absurd is

same_count : (n m : ℕ) → says.Purged n ≡ says.Purged m → n ≡ m
same_count n m e = cc

none_taken : (n : ℕ) → (let none : List Done = [] in take n none ≡ none)
none_taken zero = refl
none_taken (suc n) = refl

-- a core that has just begun was purged
module _ (tells : Bool) (Opens : Shape → List ℕ → List ℕ → Type 0) (index : Index) (old mid new : StoreView) (core later : CoreView) (begins : Begins tells (Opens old.shape) index old mid core)
    (over : IsOver tells (Opens new.shape) index new later) (reply : Reply) (steps : Steps tells 0 (Control Purge) core later reply) (cause : PurgeCause core.state 0 reply) where
  shape : new.shape ≡ old.shape
  shape = same_limits index new.shape mid.shape new.depth mid.depth (sym over.limits ∙ steps.limits ∙ begins.over.limits) ∙ begins.shape

  limits : core.limits ≡ limits_of index old.shape old.depth
  limits = begins.over.limits ∙ (λ i. limits_of index (begins.shape i) (begins.depth i))

  living : core.state.is_dead ≡ false
  living = begins.over.dead ∙ begins.alive

  -- no caller has a transaction yet
  idle : is_engaged core.state 0 ≡ false
  idle = idle_as core.state (begins.fresh.1 0) (begins.fresh.3 0)

  answer : IsAnswer reply
  answer = answers core.state reply living idle cause

  step : IsTrue tells → steps_of_callers.Clears core.limits core.state reply later.state
  step told = cleared_step core.limits core.state later.state reply living (begins.fresh.1 0) (begins.fresh.3 0) (steps.step told)

  empty : IsTrue tells → later.state.history ++ later.state.doubt ≡ []
  empty told =
      let same = unchanged core.limits core.state later.state reply (step told) in
      let history = same.0 ∙ begins.fresh.0 in
      let doubt = same.1 ∙ begins.fresh.2 in
      λ i. history i ++ doubt i

  first_base : IsTrue tells → core.state.base ≡ table_of index old.state.bytes
  first_base told = ap (λ (s : State). s.base) (begins.state told)

  first_names : IsTrue tells → core.state.names ≡ names_of old.state.bytes
  first_names told = ap (λ (s : State). s.names) (begins.state told)

  -- what has a prefix of no transactions has the records and the names at first
  has_records : IsTrue tells → (least : ℕ) (image : List ℕ) → HasPrefixOf later.opens later.state least image → OpensAsNamed (Opens old.shape) index old.state.bytes image
  has_records told least image has =
      let table = records later.state.base (take has.count (later.state.history ++ later.state.doubt)) in
      let is : table ≡ table_of index old.state.bytes =
      ap (λ (l : List Done). records later.state.base (take has.count l)) (empty told) ∙ ap (records later.state.base) (none_taken has.count) ∙ steps.moves.base ∙ first_base told in
      let opens = (over.opens_to image table).1 has.opens in
      record {
        bytes = opens.bytes;
        opened = subst (λ (s : Shape). Opens s image opens.bytes) shape opens.opened;
        sound = opens.sound;
        named = opens.named ∙ steps.moves.names ∙ first_names told;
        shows = opens.shows ∙ is;
      }

  purge_time : IsTrue tells → LeavesOnly (OpensAsNamed (Opens old.shape) index old.state.bytes) mid new
  purge_time told = record {
    later = omega (arith, begins.over.moment, over.moment, (steps.time told).later);
    keeps = λ t image le left. (over.left t image).1 ((steps.time told).keeps t image (omega (arith, le, begins.over.moment)) ((begins.over.left t image).0 left));
    only = λ t image le left. ⊎_elim (λ was. inl ((begins.over.left t image).1 was)) (λ has. inr (has_records told _ image has))
        ((steps.time told).only t image (omega (arith, le, begins.over.moment)) ((over.left t image).0 left));
  }

  -- data in version 2 has the same names and the same records
  names_two : IsTrue tells → names_of (upgraded old.state.bytes) ≡ names_of old.state.bytes
  names_two told = ap names_of (sym (begins.bytes told)) ∙ begins.over.names told begins.alive ∙ first_names told

  same_two : IsTrue tells → table_of index (upgraded old.state.bytes) ≡ table_of index old.state.bytes
  same_two told = ap (table_of index) (sym (begins.bytes told)) ∙ begins.over.table told begins.alive ∙ ap (records core.state.base) begins.fresh.0 ∙ first_base told

  first_has : IsTrue tells → (image : List ℕ) → OpensUpgraded (Opens old.shape) old.state.bytes image → OpensAsNamed (Opens old.shape) index old.state.bytes image
  first_has told image opens = ⊎_elim (λ was. record { bytes = old.state.bytes; opened = was; sound = begins.sound told; named = refl; shows = refl }) (λ is. record {
    bytes = upgraded old.state.bytes;
    opened = is;
    sound = subst index.sound (begins.bytes told) (begins.over.sound told begins.alive);
    named = names_two told;
    shows = same_two told;
  }) opens

  counts : ClearedCounts (cleared reply) old.faults new.faults
  counts =
      let before = begins.over.faults ∙ begins.faults in
      counted reply old.faults new.faults answer (λ failed. subst (λ (x : ℕ × ℕ). Rose x.0 x.1) (λ i. (before i, over.faults i)) (steps.failed failed)) (λ kept. sym over.faults ∙ steps.kept kept ∙ before)

  module _ (told : IsTrue tells) (lives : new.is_dead ≡ false) where
    all : HasAll index new.state.bytes later.state
    all = record { sound = over.sound told lives; names = over.names told lives; table = over.table told lives; keys = over.keys told }

  alive_after : (said : Reply) → new.is_dead ≡ is_media said → IsAnswer said → IfOk (cleared said) (λ n. new.is_dead ≡ false)
  alive_after (says.Purged n) dead is = dead
  alive_after says.Media dead is = tt
  alive_after (says.Damaged page) dead is = tt
  alive_after _ dead is = absurd is

  to_data : (told : IsTrue tells) (said : Reply) → new.is_dead ≡ is_media said → IsAnswer said → steps_of_callers.Clears (limits_of index old.shape old.depth) (begun_on index old.state.bytes) said later.state
      → IfOk (cleared said) (λ n. ClearsTo index old.shape old.depth old.state.bytes n new.state.bytes)
  to_data told (says.Purged n) dead is (inl (m, re, purges)) = record {
    final = later.state;
    purged = subst (λ (k : ℕ). Purges (limits_of index old.shape old.depth) (begun_on index old.state.bytes) k later.state) (sym (same_count n m re)) purges;
    left = all told dead;
  }
  to_data told (says.Purged n) dead is (inr (re, other, e)) = absurd (cc)
  to_data told says.Media dead is clears = tt
  to_data told (says.Damaged page) dead is clears = tt
  to_data told _ dead is clears = absurd is

  dead : new.is_dead ≡ is_media reply
  dead = sym over.dead ∙ steps.moves.dead ∙ ap (λ (b : Bool). b || is_media reply) living

  pub clears_store : ClearsStore tells (Opens old.shape) index old new (cleared reply)
  clears_store = record {
    shape = shape;
    sound = begins.sound;
    cause = stop_cause tells core.limits core.state later.state reply answer step;
    counts = counts;
    alive = alive_after reply dead answer;
    cleared = λ told. to_data told reply dead answer
        (subst (λ (x : Limits × State). steps_of_callers.Clears x.0 x.1 reply later.state) (λ i. (limits i, begins.state told i)) (step told));
    time = λ told. going.then (going.weaker (first_has told) (begins.time told)) (purge_time told);
    now = λ told image left. has_records told _ image (steps.now told image ((over.left later.moment image).0 (subst (λ (t : ℕ). new.left_since t image) (sym over.moment) left)));
  }

-- the same under the index that the data names
pub clears_over : (tells : Bool) (Opens : Shape → List ℕ → List ℕ → Type 0) (form : ℕ) (old mid new : StoreView) → SaysForm tells (Opens old.shape) form old mid → (r : Result ℕ CoreFault)
    → ClearsStore tells (Opens mid.shape) (index_of_form form) mid new r → ClearsStore tells (Opens old.shape) (index_at old.state.bytes) old new r
clears_over tells Opens form old mid new says r clears = record {
  shape = clears.shape ∙ says.shape;
  sound = λ told. sound told;
  cause = clears.cause;
  counts = subst (λ (n : ℕ). ClearedCounts r n new.faults) says.faults clears.counts;
  alive = clears.alive;
  cleared = λ told. moved told (λ h b i. IfOk r (λ n. ClearsTo i h old.depth b n new.state.bytes)) (subst (λ (d : ℕ). IfOk r (λ n. ClearsTo (index_of_form form) mid.shape d mid.state.bytes n new.state.bytes)) says.depth (clears.cleared told));
  time = λ told. going.then (going.weaker (λ image opens. record { bytes = old.state.bytes; opened = opens; sound = sound told; named = refl; shows = refl }) (says.time told))
      (moved told (λ h b i. LeavesOnly (OpensAsNamed (Opens h) i b) mid new) (clears.time told));
  now = λ told. moved told (λ h b i. (image : List ℕ) → new.left_since new.moment image → OpensAsNamed (Opens h) i b image) (clears.now told);
}
  where
    bytes : IsTrue tells → mid.state.bytes ≡ old.state.bytes
    bytes told = ap (λ (s : face.State). s.bytes) (says.state told)

    moved : IsTrue tells → (P : Shape → List ℕ → Index → Type 0) → P mid.shape mid.state.bytes (index_of_form form) → P old.shape old.state.bytes (index_at old.state.bytes)
    moved told P p = subst (λ (x : Shape × List ℕ × Index). P x.0 x.1 x.2) (λ i. (says.shape i, bytes told i, sym (of_form form old.state.bytes (says.is told)) i)) p

    sound : IsTrue tells → (index_at old.state.bytes).sound old.state.bytes
    sound told = moved told (λ h b i. i.sound b) (clears.sound told)

-- ---- in terms of the medium

-- what comes of a purge
abbrev pub PurgeOutcome : View → Status → View → Bool → List ℕ → Type 0
PurgeOutcome old status new cut text = OutcomeOf false true 0 (ByEnd (λ shape. WorksOn shape (HasRecords shape old (names_on shape old)) old new) (PurgesRecords old new cut text) cut text) old status new cut text

-- nothing was done
pub as_purged : (old : View) (status : Status) (new : View) → OutcomeOf false true 0 (λ ended. ⊥) old status new false [] → PurgeOutcome old status new false []
as_purged old status new outcome = outcome_as false (λ ended. ⊥) (ByEnd (λ shape. WorksOn shape (HasRecords shape old (names_on shape old)) old new) (PurgesRecords old new false []) false []) true 0 old status new false []
    (λ ended none. absurd none) outcome

module _ (tells : Bool) (told : IsTrue tells) (old : View) (only_now : (image : List ℕ) → IsTrue tells → old.left_since old.moment image → MayLeave old.content image)
    (store : StoreView) (attached : Attached tells old store) (keeps : KeepsData tells old store.moment store.left_since) (at_once : store.depth ≡ 0)
    (later : StoreView) (new : View) (behind : IsBehind tells false later new) (counts_now : (t : ℕ) (image : List ℕ) → IsTrue tells → t ≤ new.moment → MayLeave new.content image → new.left_since t image) where
  -- in terms of the data of the array
  own : (P : List ℕ → Type 0) → P store.state.bytes → P (settled_data store.shape old.content.bytes)
  own P p = subst P (attached.bytes told) p

  left_now : (image : List ℕ) → MayLeave new.content image → later.left_since later.moment image
  left_now image left = subst (λ (t : ℕ). later.left_since t image) behind.moment (behind.left new.moment image (counts_now new.moment image told (omega arith) left))

  module _ (result : Result ℕ CoreFault) (clears : ClearsStore tells (Opens store.shape) (index_at store.state.bytes) store later result) where
    has : (image : List ℕ) → OpensAsNamed (Opens store.shape) (index_at store.state.bytes) store.state.bytes image → HasRecords store.shape old (names_on store.shape old) image
    has image opens = own (λ b. OpensAsNamed (Opens store.shape) (index_at b) b image) opens

    clear : WorksOn store.shape (HasRecords store.shape old (names_on store.shape old)) old new
    clear = record {
      holds = holds tells told old only_now store attached keeps (clears.sound told);
      later = λ all. omega (arith, (keeps told store.shape all).later, (clears.time told).later, behind.moment);
      since = λ all image left. ⊎_elim (λ was. inl (at_entry tells told old only_now store attached keeps store.shape all image was)) (λ opens. inr (has image opens))
          ((clears.time told).only old.moment image (keeps told store.shape all).later (behind.left old.moment image left));
    }

  -- the records were purged, and told in whole or in part
  purges : (n : ℕ) (clears : ClearsStore tells (Opens store.shape) (index_at store.state.bytes) store later (Ok n)) (ended : Ended) (cut : Bool) (text : List ℕ) → ended ≡ (if cut then script.WriteFault else script.All)
      → IsWritten cut text (number_line (codes "purged") n) → PurgesRecords old new cut text ended
  purges n clears ended cut text end wrote =
      let to = clears.cleared told in
      let bytes : settled_data store.shape new.content.bytes ≡ later.state.bytes = ap (λ (s : Shape). settled_data s new.content.bytes) (sym clears.shape) ∙ behind.bytes told clears.alive in
      record {
        shape = store.shape;
        works = clear (Ok n) clears;
        count = n;
        final = to.final;
        purged = own (λ b. Purges (limits_of (index_at b) store.shape 0) (begun_on (index_at b) b) n to.final)
            (subst (λ (d : ℕ). Purges (limits_of (index_at store.state.bytes) store.shape d) (begun_on (index_at store.state.bytes) store.state.bytes) n to.final) at_once to.purged);
        left = subst (λ (b : List ℕ). HasAll (index_at b) b to.final) (sym bytes)
            (subst (λ (i : Index). HasAll i later.state.bytes to.final) (sym (sound_says store.state.bytes later.state.bytes to.left.sound)) to.left);
        finishes = record {
          now = λ image left. has (Ok n) clears image (clears.now told image (left_now image left));
          quiet = subst (λ (s : Shape). HasNoVote s new.content.bytes) clears.shape (behind.quiet told clears.alive refl);
          end = end;
          told = wrote;
        };
      }

  purged_outcome : (n : ℕ) → ClearsStore tells (Opens store.shape) (index_at store.state.bytes) store later (Ok n) → (status : Status) (cut : Bool) (text : List ℕ) → status ≡ (if cut then WriteFault else Good)
      → IsWritten cut text (number_line (codes "purged") n) → PurgeOutcome old status new cut text
  purged_outcome n clears status true text is wrote = subst (λ (s : Status). PurgeOutcome old s new true text) (sym is) (purges n clears script.WriteFault true text refl wrote)
  purged_outcome n clears status false text is wrote = subst (λ (s : Status). PurgeOutcome old s new false text) (sym is) (purges n clears script.All false text refl wrote)

  -- they were not
  stopped_outcome : (f : CoreFault) → ClearsStore tells (Opens store.shape) (index_at store.state.bytes) store later (Err f) → (let r : Result Ended CoreFault = Err f in PurgeOutcome old (served_status r) new false [])
  stopped_outcome core.Media clears = inr (refl, (store.shape, clear (Err core.Media) clears))
  stopped_outcome core.NoMemory clears = absurd clears.cause
  stopped_outcome (core.Damaged page) clears = absurd (clears.cause told)

  -- what is told of it
  pub told_outcome : (purged : Result ℕ CoreFault) → ClearsStore tells (Opens store.shape) (index_at store.state.bytes) store later purged
      → (status : Status) (cut : Bool) (text : List ℕ) → Tells (purged_end purged) status cut text → PurgeOutcome old status new cut text
  told_outcome (Ok n) clears status cut text said = purged_outcome n clears status cut text said.0 said.1
  told_outcome (Err f) clears status cut text said =
      subst (λ (x : Status × Bool × List ℕ). PurgeOutcome old x.0 new x.1 x.2) (λ i. (sym said.0 i, sym said.1 i, sym said.2 i)) (stopped_outcome f clears)

-- the count of the medium's faults
pub purged_counts : (purged : Result ℕ CoreFault) (m m' : ℕ) → ClearedCounts purged m m' → FaultCounts (purged_end purged) m m'
purged_counts (Ok n) m m' counts = counts
purged_counts (Err (core.Damaged page)) m m' counts = counts
purged_counts (Err core.Media) m m' counts = counts
purged_counts (Err core.NoMemory) m m' counts = counts

-- what is told of a purge under the index that the data names
pub comes_of : (tells : Bool) → IsTrue tells → (old : View) (store mid later : StoreView) (new : View) → Ran tells old store later new → (form : ℕ) → SaysForm tells (Opens store.shape) form store mid
    → (end : Result (List ℕ) Status) → LeavesPurged tells Opens (index_of_form form) mid end later → (status : Status) (cut : Bool) (text : List ℕ) → Tells end status cut text → PurgeOutcome old status new cut text
comes_of tells told old store mid later new ran form says end left status cut text said = told_outcome tells told old ran.only_now store ran.attached ran.keeps ran.at_once later new ran.behind ran.counts_now left.0
    (clears_over tells Opens form store mid later says left.0 left.2) status cut text (subst (λ (e : Result (List ℕ) Status). Tells e status cut text) left.1 said)

-- What can be purged is purged, unless memory runs out.
module _ (old new : View) (cut : Bool) (text : List ℕ) (s s' k k' m m' : ℕ) (shape : Shape) (holds : HoldsRecords shape old) (no_source : Rose s s' → ⊥) (no_sink : Rose k k' → ⊥) (no_media : Rose m m' → ⊥) where
  pub complete_purge : (status : Status) → (IsEarly status → ⊥) → Counts status s s' k k' m m' → PurgeOutcome old status new cut text → (status ≡ Good) ⊎ (status ≡ NoMemory)
  complete_purge status late counts outcome =
      complete_records false 0 (ByEnd (λ shape. WorksOn shape (HasRecords shape old (names_on shape old)) old new) (PurgesRecords old new cut text) cut text) old status new cut text [] [] s s' k k' m m' (omega arith) shape holds (omega arith) no_source no_sink no_media counts (nothing_read status late) outcome
