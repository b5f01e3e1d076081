-- A table that is made in an array that was opened.
use Rattle.std.proofs.Common.{◌≡◌, ◌⊎◌, ◌<◌, ◌≤◌, inl, inr, ⊎_elim, ℕ, Bool, true, false, List, [], ◌∷◌, ◌++◌, length, Result, Ok, Err, OnOk, OnErr, refl, sym, ap, subst, ◌∙◌, arith}
use Rattle.std.specs.Prelude.{IsTrue, if◌then◌else◌, Some, slice_get}
use Rattle.std.proofs.lemmas.Bool.{false≢true}
use Rattle.mars_base.specs.Causes.{Rose}
use Rattle.mars_base.proofs.Going as going
use Rattle.pcm_media.specs.Images.{MayLeave}
use Rattle.pcm_media.specs.View.{View}
use Rattle.array_shape.specs.declared.shape.Shape.{Shape}
use Rattle.array_image.specs.Decided.{settled_data}
use Rattle.device_recovery.specs.Recovered.{HasNoVote}
use Rattle.eaw_face.specs.State.{State}
use Rattle.eaw_face.specs.StoreView.{StoreView, LeavesOnly}
use Rattle.eaw_face.proofs.Mirroring.{sent_then}
use Rattle.eaw_device.specs.Opens.{Opens, KeepsData, Attached, IsBehind}
use Rattle.record_slots.specs.Places.{next_page}
use Rattle.page_store.specs.Index.{Index, index_pages_of}
use Rattle.record_table.specs.Making.{OnlyUpgrades, is_make_failed}
use Rattle.record_table.specs.Names.{names_of, IsNew}
use Rattle.record_table.specs.Upgrading.{upgraded}
use Rattle.record_table.specs.declared.making.MakeFault.{MakeFault}
use Rattle.record_table.specs.declared.making.MakeFault.TheVariants as make
use Rattle.mars_core.specs.Making.{OpensAsNamed, OpensWithName}
use Rattle.mars_core.specs.Making as making
use Rattle.mars_core.proofs.Tabled.{moved_cause}
use Rattle.texts.specs.Written.{IsWritten}
use Rattle.script_run.specs.declared.ended.Ended.{Ended}
use Rattle.script_run.specs.declared.ended.Ended.TheVariants as script
use Rattle.array_runs.specs.Forms.{index_of_form, index_at, SaysForm}
use Rattle.array_runs.specs.Outcome.{OutcomeOf}
use Rattle.array_runs.specs.Records.{HoldsRecords}
use Rattle.array_runs.specs.Statuses.{Counts, IsEarly}
use Rattle.told_commands.specs.Tables.{made_status, table_line, Tries, MakesTable, RefusalCause, Refuses, made_end, LeavesTable}
use Rattle.told_commands.specs.Told.{ByEnd, HasRecords, names_on, Tells, FaultCounts, IsStop, Ran}
use Rattle.array_runs.specs.declared.status.Refusal.{Refusal}
use Rattle.array_runs.specs.declared.status.Refusal.TheVariants.{Exists, TablesFull, PagesFull}
use Rattle.array_runs.specs.declared.status.Status.{Status}
use Rattle.array_runs.specs.declared.status.Status.TheVariants.{Good, WriteFault, NoMemory, Refused}
use Rattle.array_runs.proofs.Completing.{complete_records, nothing_read}
use Rattle.array_runs.proofs.Forming.{of_form}
use Rattle.array_runs.proofs.Opened.{holds, at_entry}
use Rattle.array_runs.proofs.Statuses.{outcome_as}

-- what comes of the making of a table
abbrev pub MakeOutcome : List ℕ → View → Status → View → Bool → List ℕ → Type 0
MakeOutcome name old status new cut text =
    OutcomeOf true true 0 (ByEnd (λ shape. Tries name shape old new) (MakesTable name old new cut text) cut text) old status new cut text ⊎ ((refusal : Refusal) × (status ≡ Refused refusal) × Refuses name refusal old new cut text)

-- nothing was done, whatever the name is
pub as_made : (name : List ℕ) (old : View) (status : Status) (new : View) → OutcomeOf true true 0 (λ ended. ⊥) old status new false [] → MakeOutcome name old status new false []
as_made name old status new outcome = inl (outcome_as true (λ ended. ⊥) (ByEnd (λ shape. Tries name shape old new) (MakesTable name old new false []) false []) true 0 old status new false []
    (λ ended none. absurd none) outcome)

module _ (tells : Bool) (told : IsTrue tells) (old : View) (only_now : (image : List ℕ) → IsTrue tells → old.left_since old.moment image → MayLeave old.content image)
    (store : StoreView) (attached : Attached tells old store) (keeps : KeepsData tells old store.moment store.left_since)
    (later : StoreView) (new : View) (behind : IsBehind tells false later new) (counts_now : (t : ℕ) (image : List ℕ) → IsTrue tells → t ≤ new.moment → MayLeave new.content image → new.left_since t image) (name : List ℕ) where
  -- in terms of the data of the array
  own : (P : List ℕ → Type 0) → P store.state.bytes → P (settled_data store.shape old.content.bytes)
  own P p = subst P (attached.bytes told) p

  left_now : (image : List ℕ) → MayLeave new.content image → later.left_since later.moment image
  left_now image left = subst (λ (t : ℕ). later.left_since t image) behind.moment (behind.left new.moment image (counts_now new.moment image told (omega arith) left))

  module _ (result : Result ℕ MakeFault) (made : making.MakesTable tells (Opens store.shape) (index_at store.state.bytes) name store later result) where
    had : (image : List ℕ) → OpensAsNamed (Opens store.shape) (index_at store.state.bytes) store.state.bytes image → HasRecords store.shape old (names_on store.shape old) image
    had image opens = own (λ b. OpensAsNamed (Opens store.shape) (index_at b) b image) opens

    has : (image : List ℕ) → OpensWithName (Opens store.shape) (index_at store.state.bytes) name store.state.bytes image → HasRecords store.shape old (names_on store.shape old ++ name ∷ []) image
    has image opens = own (λ b. OpensWithName (Opens store.shape) (index_at b) name b image) opens

    tries : Tries name store.shape old new
    tries = record {
      holds = holds tells told old only_now store attached keeps (made.sound told);
      later = λ all. omega (arith, (keeps told store.shape all).later, (made.time told).later, behind.moment);
      since = λ all image left. ⊎_elim (λ was. inl (at_entry tells told old only_now store attached keeps store.shape all image was)) (λ named. inr (⊎_elim (λ same. inl (had image same)) (λ more. inr (has image more)) named))
          ((made.time told).only old.moment image (keeps told store.shape all).later (behind.left old.moment image left));
    }

    quiet : later.is_dead ≡ false → HasNoVote store.shape new.content.bytes
    quiet living = subst (λ (s : Shape). HasNoVote s new.content.bytes) made.shape (behind.quiet told living refl)

  -- it was made, and told in whole or in part
  makes : (j : ℕ) (made : making.MakesTable tells (Opens store.shape) (index_at store.state.bytes) name store later (Ok j)) (ended : Ended) (cut : Bool) (text : List ℕ) → ended ≡ (if cut then script.WriteFault else script.All)
      → IsWritten cut text (table_line j name) → MakesTable name old new cut text ended
  makes j made ended cut text end wrote =
      let cause = own (λ b. IsNew name (names_of b) × (j ≡ length (names_of b)) × (j < 8) × (next_page b < index_pages_of store.shape)) (made.cause.1 told) in
      record {
        shape = store.shape;
        tries = tries (Ok j) made;
        is_new = cause.0;
        few = subst (λ (n : ℕ). n < 8) cause.1 cause.2;
        page = cause.3;
        finishes = record {
          now = λ image left. has (Ok j) made image (made.now told image (left_now image left));
          quiet = quiet (Ok j) made ((made.kept refl).0 ∙ attached.alive);
          end = end;
          told = subst (λ (n : ℕ). IsWritten cut text (table_line n name)) cause.1 wrote;
        };
      }

  pub made_outcome : (j : ℕ) → making.MakesTable tells (Opens store.shape) (index_at store.state.bytes) name store later (Ok j) → (status : Status) (cut : Bool) (text : List ℕ) → status ≡ (if cut then WriteFault else Good)
      → IsWritten cut text (table_line j name) → MakeOutcome name old status new cut text
  made_outcome j made status true text is wrote = subst (λ (s : Status). MakeOutcome name old s new true text) (sym is) (inl (makes j made script.WriteFault true text refl wrote))
  made_outcome j made status false text is wrote = subst (λ (s : Status). MakeOutcome name old s new false text) (sym is) (inl (makes j made script.All false text refl wrote))

  -- it was not made
  refuses : (f : MakeFault) (made : making.MakesTable tells (Opens store.shape) (index_at store.state.bytes) name store later (Err f)) → (let r : Result ℕ MakeFault = Err f in is_make_failed r ≡ false)
      → later.state.bytes ≡ upgraded store.state.bytes → (refusal : Refusal) → RefusalCause name store.shape old refusal → Refuses name refusal old new false []
  refuses f made well upgrades refusal cause = record {
    shape = store.shape;
    tries = tries (Err f) made;
    cause = cause;
    left = subst (λ (s : Shape). settled_data s new.content.bytes ≡ later.state.bytes) made.shape (behind.bytes told ((made.kept well).0 ∙ attached.alive)) ∙ own (λ b. later.state.bytes ≡ upgraded b) upgrades;
    now = λ image left. had (Err f) made image (made.same told well image (left_now image left));
    quiet = quiet (Err f) made ((made.kept well).0 ∙ attached.alive);
    silent = refl;
  }

  pub unmade_outcome : (f : MakeFault) → making.MakesTable tells (Opens store.shape) (index_at store.state.bytes) name store later (Err f) → MakeOutcome name old (made_status f name) new false []
  unmade_outcome make.Exists made =
      let cause = own (λ b. (j : ℕ) × (slice_get (names_of b) j ≡ Some name)) (made.cause.1 told) in
      inr (Exists name, refl, refuses make.Exists made refl (made.upgrades told) (Exists name) (refl, cause.0, cause.1))
  unmade_outcome make.TablesFull made = inr (TablesFull, refl, refuses make.TablesFull made refl (made.upgrades told) TablesFull (own (λ b. IsNew name (names_of b) × (length (names_of b) ≡ 8)) (made.cause.1 told)))
  unmade_outcome (make.PagesFull n) made =
      let cause = own (λ b. IsNew name (names_of b) × (length (names_of b) < 8) × (next_page b ≡ index_pages_of store.shape)) (made.cause.2 told) in
      inr (PagesFull n, refl, refuses (make.PagesFull n) made refl (made.upgrades told) (PagesFull n) (cause.0, cause.1, cause.2, made.cause.1))
  unmade_outcome make.Media made = inl (inr (refl, (store.shape, tries (Err make.Media) made)))
  unmade_outcome make.Dead made = absurd (false≢true (sym attached.alive ∙ made.cause))
  unmade_outcome (make.Damaged page) made = absurd (made.cause.1 told)

  -- what is told of it
  pub told_outcome : (made : Result ℕ MakeFault) → making.MakesTable tells (Opens store.shape) (index_at store.state.bytes) name store later made
      → (status : Status) (cut : Bool) (text : List ℕ) → Tells (made_end made name) status cut text → MakeOutcome name old status new cut text
  told_outcome (Ok j) made status cut text said = made_outcome j made status cut text said.0 said.1
  told_outcome (Err f) made status cut text said =
      subst (λ (x : Status × Bool × List ℕ). MakeOutcome name old x.0 new x.1 x.2) (λ i. (sym said.0 i, sym said.1 i, sym said.2 i)) (unmade_outcome f made)

-- the count of the medium's faults
pub made_counts : (tells : Bool) (Opens : List ℕ → List ℕ → Type 0) (index : Index) (name : List ℕ) (old new : StoreView) → old.is_dead ≡ false → (made : Result ℕ MakeFault) → making.MakesTable tells Opens index name old new made
    → FaultCounts (made_end made name) old.faults new.faults
made_counts tells Opens index name old new alive (Ok j) makes = (makes.kept refl).1
made_counts tells Opens index name old new alive (Err make.Exists) makes = (makes.kept refl).1
made_counts tells Opens index name old new alive (Err make.TablesFull) makes = (makes.kept refl).1
made_counts tells Opens index name old new alive (Err (make.PagesFull n)) makes = (makes.kept refl).1
made_counts tells Opens index name old new alive (Err make.Media) makes = (makes.dies refl).1
made_counts tells Opens index name old new alive (Err make.Dead) makes = absurd (false≢true (sym alive ∙ makes.cause))
made_counts tells Opens index name old new alive (Err (make.Damaged page)) makes = (makes.kept refl).1

-- the status with which it stopped
pub made_stops : (fault : MakeFault) (name : List ℕ) → IsStop (made_status fault name)
made_stops make.Exists name = tt
made_stops make.TablesFull name = tt
made_stops (make.PagesFull n) name = tt
made_stops make.Media name = tt
made_stops make.Dead name = tt
made_stops (make.Damaged page) name = tt

-- the same for a table that was made under the index that the data names
pub makes_over : (tells : Bool) (Opens : Shape → List ℕ → List ℕ → Type 0) (form : ℕ) (name : List ℕ) (old mid new : StoreView) → old.is_dead ≡ false → SaysForm tells (Opens old.shape) form old mid → (made : Result ℕ MakeFault)
    → making.MakesTable tells (Opens mid.shape) (index_of_form form) name mid new made → making.MakesTable tells (Opens old.shape) (index_at old.state.bytes) name old new made
makes_over tells Opens form name old mid new alive says made makes = record {
  shape = makes.shape ∙ says.shape;
  depth = makes.depth ∙ says.depth;
  mirrors = sent_then tells old mid new says.mirrors makes.mirrors;
  sound = λ told. moved told (λ h b i. i.sound b) (makes.sound told);
  cause = moved_cause tells name old mid alive (says.alive ∙ sym alive) says.shape (λ told. bytes told) made makes.cause;
  kept = λ well. ((makes.kept well).0 ∙ says.alive ∙ sym alive, (makes.kept well).1 ∙ says.faults);
  dies = λ failed. ((makes.dies failed).0, subst (λ (n : ℕ). Rose n new.faults) says.faults (makes.dies failed).1);
  time = λ told. going.then (going.weaker (λ image opens. inl (record { bytes = old.state.bytes; opened = opens; sound = moved told (λ h b i. i.sound b) (makes.sound told); named = refl; shows = refl })) (says.time told))
      (moved told (λ h b i. LeavesOnly (λ image. OpensAsNamed (Opens h) i b image ⊎ OpensWithName (Opens h) i name b image) mid new) (makes.time told));
  now = λ told. moved told (λ h b i. OnOk made ((image : List ℕ) → new.left_since new.moment image → OpensWithName (Opens h) i name b image)) (makes.now told);
  upgrades = λ told. moved told (λ h b i. OnlyUpgrades b new.state.bytes made) (makes.upgrades told);
  same = λ told well. moved told (λ h b i. OnErr made ((image : List ℕ) → new.left_since new.moment image → OpensAsNamed (Opens h) i b image)) (makes.same told well);
}
  where
    bytes : IsTrue tells → mid.state.bytes ≡ old.state.bytes
    bytes told = ap (λ (s : State). s.bytes) (says.state told)

    moved : IsTrue tells → (P : Shape → List ℕ → Index → Type 0) → P mid.shape mid.state.bytes (index_of_form form) → P old.shape old.state.bytes (index_at old.state.bytes)
    moved told P p = subst (λ (x : Shape × List ℕ × Index). P x.0 x.1 x.2) (λ i. (says.shape i, bytes told i, sym (of_form form old.state.bytes (says.is told)) i)) p

-- what is told of a table that was to be made under the index that the data names
pub comes_of : (tells : Bool) → IsTrue tells → (old : View) (store mid later : StoreView) (new : View) (name : List ℕ) → Ran tells old store later new → (form : ℕ) → SaysForm tells (Opens store.shape) form store mid
    → (end : Result (List ℕ) Status) → LeavesTable name tells Opens (index_of_form form) mid end later → (status : Status) (cut : Bool) (text : List ℕ) → Tells end status cut text → MakeOutcome name old status new cut text
comes_of tells told old store mid later new name ran form says end left status cut text said = told_outcome tells told old ran.only_now store ran.attached ran.keeps later new ran.behind ran.counts_now name left.0
    (makes_over tells Opens form name store mid later ran.attached.alive says left.0 left.2) status cut text (subst (λ (e : Result (List ℕ) Status). Tells e status cut text) left.1 said)

-- What can be made is made, unless memory runs out or it is refused.
module _ (name : List ℕ) (old new : View) (cut : Bool) (text : List ℕ) (s s' k k' m m' : ℕ) (shape : Shape) (holds : HoldsRecords shape old) (no_source : Rose s s' → ⊥) (no_sink : Rose k k' → ⊥) (no_media : Rose m m' → ⊥) where
  pub complete_make : (status : Status) → (IsEarly status → ⊥) → Counts status s s' k k' m m' → MakeOutcome name old status new cut text → (status ≡ Good) ⊎ ((status ≡ NoMemory) ⊎ ((refusal : Refusal) × (status ≡ Refused refusal)))
  complete_make status late counts outcome = ⊎_elim
      (λ over. ⊎_elim (λ good. inl good) (λ short. inr (inl short))
      (complete_records true 0 (ByEnd (λ shape. Tries name shape old new) (MakesTable name old new cut text) cut text) old status new cut text [] [] s s' k k' m m' (omega arith) shape holds (omega arith) no_source no_sink no_media counts (nothing_read status late) over))
      (λ refused. inr (inr (refused.0, refused.1))) outcome
