-- A dump of the records of an array that was opened.
use Rattle.std.proofs.Common.{◌≡◌, ◌⊎◌, inl, ℕ, Bool, true, false, List, [], Result, Ok, refl, sym, ap, subst, ◌∙◌, arith}
use Rattle.std.specs.Prelude.{IsTrue, if◌then◌else◌}
use Rattle.std.specs.FinMap.{entries}
use Rattle.mars_base.specs.Causes.{Rose}
use Rattle.mars_base.proofs.Going as going
use Rattle.pcm_media.specs.Images.{MayLeave}
use Rattle.pcm_media.specs.View.{View}
use Rattle.array_shape.specs.declared.shape.Shape.{Shape}
use Rattle.array_image.specs.Decided.{settled_data}
use Rattle.device_recovery.specs.Recovered.{HasNoVote}
use Rattle.eaw_face.specs.State.{State}
use Rattle.eaw_face.specs.StoreView.{StoreView, LeavesOnly}
use Rattle.eaw_device.specs.Opens.{Opens}
use Rattle.page_store.specs.Index.{Index}
use Rattle.record_table.specs.Shown.{table_of}
use Rattle.texts.specs.Written.{IsWritten}
use Rattle.script_run.specs.declared.ended.Ended.{Ended}
use Rattle.script_run.specs.declared.ended.Ended.TheVariants as script
use Rattle.array_runs.specs.Forms.{index_of_form, index_at, SaysForm}
use Rattle.array_runs.specs.Outcome.{OutcomeOf}
use Rattle.array_runs.specs.Records.{HoldsRecords}
use Rattle.array_runs.specs.Statuses.{Counts, IsEarly}
use Rattle.array_runs.specs.declared.status.Status.{Status}
use Rattle.array_runs.specs.declared.status.Status.TheVariants.{Good, NoMemory}
use Rattle.array_runs.proofs.Completing.{complete_records, nothing_read}
use Rattle.array_runs.proofs.Forming.{of_form}
use Rattle.array_runs.proofs.Opened.{holds, looked}
use Rattle.array_runs.proofs.Statuses.{outcome_as}
use Rattle.told_commands.specs.Dump.{records_text, DumpsRecords, LeavesRead}
use Rattle.told_commands.specs.Told.{WorksOn, Tells, Ran}

-- what comes of a dump
abbrev pub DumpOutcome : View → Status → View → Bool → List ℕ → Type 0
DumpOutcome old status new cut text = OutcomeOf true true 0 (DumpsRecords old new cut text) old status new cut text

-- nothing was done
pub as_dumped : (old : View) (status : Status) (new : View) → OutcomeOf true true 0 (λ ended. ⊥) old status new false [] → DumpOutcome old status new false []
as_dumped old status new outcome = outcome_as true (λ ended. ⊥) (DumpsRecords old new false []) true 0 old status new false []
    (λ ended none. absurd none) outcome

module _ (tells : Bool) (told : IsTrue tells) (old : View) (store mid later : StoreView) (new : View) (ran : Ran tells old store later new) (form : ℕ) (says : SaysForm tells (Opens store.shape) form store mid) where
  own : index_at store.state.bytes ≡ index_of_form form
  own = of_form form store.state.bytes (says.is told)

  mid_bytes : mid.state.bytes ≡ store.state.bytes
  mid_bytes = ap (λ (s : State). s.bytes) (says.state told)

  module _ (end : Result (List ℕ) Status) (read : LeavesRead tells Opens (index_of_form form) mid end later) where
    shape_is : later.shape ≡ store.shape
    shape_is = read.left.shape ∙ says.shape

    lives : later.is_dead ≡ false
    lives = (read.left.kept refl).0 ∙ says.alive

    later_bytes : later.state.bytes ≡ store.state.bytes
    later_bytes = read.left.unwritten told refl ∙ mid_bytes

    first_bytes : store.state.bytes ≡ settled_data store.shape old.content.bytes
    first_bytes = ran.attached.bytes told

    left_now : (image : List ℕ) → MayLeave new.content image → later.left_since later.moment image
    left_now image left = subst (λ (t : ℕ). later.left_since t image) ran.behind.moment (ran.behind.left new.moment image (ran.counts_now new.moment image told (omega arith) left))

    works : WorksOn store.shape (λ image. ⊥) old new
    works = record {
      holds = holds tells told old ran.only_now store ran.attached ran.keeps (subst (λ (x : Index × List ℕ). x.0.sound x.1) (λ i. (sym own i, mid_bytes i)) (read.sound told));
      later = λ all. omega (arith, (ran.keeps told store.shape all).later, (says.time told).later, (read.left.time told).later, ran.behind.moment);
      since = λ all image left. inl (looked tells told old ran.only_now store ran.attached ran.keeps false later new ran.behind
          (going.then (says.time told) (subst (λ (x : Shape × List ℕ). LeavesOnly (λ image. Opens x.0 image x.1) mid later) (λ i. (says.shape i, mid_bytes i)) (read.left.time told))) store.shape all image left);
    }

    dumps : (ended : Ended) (cut : Bool) (text : List ℕ) → ended ≡ (if cut then script.WriteFault else script.All) → IsWritten cut text (records_text (entries (table_of (index_of_form form) mid.state.bytes))) → DumpsRecords old new cut text ended
    dumps ended cut text is wrote = record {
      shape = store.shape;
      works = works;
      left = ap (λ (s : Shape). settled_data s new.content.bytes) (sym shape_is) ∙ ran.behind.bytes told lives ∙ later_bytes ∙ first_bytes;
      finishes = record {
        now = λ image left. subst (λ (x : Shape × List ℕ). Opens x.0 image x.1) (λ i. (shape_is i, (later_bytes ∙ first_bytes) i)) (read.now told lives image (left_now image left));
        quiet = subst (λ (s : Shape). HasNoVote s new.content.bytes) shape_is (ran.behind.quiet told lives refl);
        end = is;
        told = subst (λ (b : List ℕ). IsWritten cut text (records_text (entries (table_of (index_at b) b)))) first_bytes
            (subst (λ (x : Index × List ℕ). IsWritten cut text (records_text (entries (table_of x.0 x.1)))) (λ i. (sym own i, mid_bytes i)) wrote);
      };
    }

    -- what is told of it
    pub comes_of : (status : Status) (cut : Bool) (text : List ℕ) → Tells end status cut text → DumpOutcome old status new cut text
    comes_of status cut text said = by_cut cut (subst (λ (e : Result (List ℕ) Status). Tells e status cut text) (read.told told) said)
      where
        by_cut : (cut : Bool) → (let e : Result (List ℕ) Status = Ok (records_text (entries (table_of (index_of_form form) mid.state.bytes))) in Tells e status cut text) → DumpOutcome old status new cut text
        by_cut true told = subst (λ (s : Status). DumpOutcome old s new true text) (sym told.0) (dumps script.WriteFault true text refl told.1)
        by_cut false told = subst (λ (s : Status). DumpOutcome old s new false text) (sym told.0) (dumps script.All false text refl told.1)

-- What can be dumped is dumped, unless memory runs out.
module _ (old new : View) (cut : Bool) (text : List ℕ) (s s' k k' m m' : ℕ) (shape : Shape) (holds : HoldsRecords shape old) (no_source : Rose s s' → ⊥) (no_sink : Rose k k' → ⊥) (no_media : Rose m m' → ⊥) where
  pub complete_dump : (status : Status) → (IsEarly status → ⊥) → Counts status s s' k k' m m' → DumpOutcome old status new cut text → (status ≡ Good) ⊎ (status ≡ NoMemory)
  complete_dump status late counts outcome =
      complete_records true 0 (DumpsRecords old new cut text) old status new cut text [] [] s s' k k' m m' (omega arith) shape holds (omega arith) no_source no_sink no_media counts (nothing_read status late) outcome
