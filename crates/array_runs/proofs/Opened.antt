-- A run over an array that was opened.
use Rattle.std.proofs.Common.{◌≡◌, ℕ, ◌≤◌, true, false, inl, inr, ⊎_elim, List, [], Bool, refl, sym, ap, subst, ◌+◌, ◌∙◌, arith}
use Rattle.std.specs.Prelude.{IsTrue, Err}
use Rattle.pcm_media.specs.Images.{MayLeave}
use Rattle.pcm_media.specs.View.{View}
use Rattle.pcm_media.proofs.Left.{left_as_read}
use Rattle.array_shape.specs.declared.shape.Shape.{Shape}
use Rattle.array_image.specs.Standing.{IsLawful}
use Rattle.row_bytes.proofs.OneShape.{one_shape}
use Rattle.eaw_face.specs.StoreView.{StoreView, LeavesOnly}
use Rattle.device_recovery.specs.Recovered.{HasNoVote}
use Rattle.eaw_device.specs.Opens.{header_of, Opens, AllOpen, OpensLike, KeepsData, opening_calls, OpensWithin, Attached, IsArray, HoldsArray, IsBehind}
use Rattle.record_table.specs.Upgrading.{upgraded}
use Rattle.mars_core.specs.declared.fault.CoreFault.{CoreFault}
use Rattle.mars_core.specs.declared.fault.CoreFault.TheVariants as core
use Rattle.texts.specs.Written.{IsWritten}
use Rattle.script_run.specs.declared.ended.Ended.{Ended}
use Rattle.array_runs.specs.Forms.{index_at}
use Rattle.array_runs.specs.Outcome.{OpensInTwo, Idle}
use Rattle.array_runs.specs.Outcome.{OutcomeOf}
use Rattle.array_runs.specs.Records.{HoldsRecords}
use Rattle.array_runs.specs.Untaken.{spares_at, Untaken}
use Rattle.array_runs.specs.Statuses.{served_status}
use Rattle.array_runs.proofs.Completing.{no_excess}
use Rattle.array_runs.proofs.Unopened.{first_like}

-- an array was opened within the calls of an opening
pub opened_within : (tells : Bool) (old : View) (store : StoreView) → Attached tells old store → (new : View) → new.moment ≡ store.moment → OpensWithin tells old new.moment
opened_within tells old store attached new same = λ told shape says none.
    let is : store.shape ≡ shape = one_shape (header_of old.content.bytes) store.shape shape (attached.shape_is told) says in
    let calls : store.moment ≡ old.moment + opening_calls shape
    = attached.calls told (subst (λ (s : Shape). HasNoVote s old.content.bytes) (sym is) none) ∙ ap (λ (s : Shape). old.moment + opening_calls s) is in
    omega (arith, same, calls)

module _ (tells : Bool) (told : IsTrue tells) (old : View) (only_now : (image : List ℕ) → IsTrue tells → old.left_since old.moment image → MayLeave old.content image)
    (store : StoreView) (attached : Attached tells old store) (keeps : KeepsData tells old store.moment store.left_since) where
  pub array : IsArray store.shape old
  array = record { header = attached.shape_is told; sized = attached.sized; good = attached.good told }

  -- what was left at the opening
  pub at_entry : (shape : Shape) → AllOpen shape old.content → (image : List ℕ) → store.left_since old.moment image → OpensLike shape old.content image
  at_entry shape all image left = ⊎_elim (first_like tells told old only_now shape all image) (λ like. like) ((keeps told shape all).only old.moment image (omega arith) left)

  -- what a read gives opens with the data of the array
  first_shape : (shape : Shape) → AllOpen shape old.content → store.shape ≡ shape
  first_shape shape all = one_shape (header_of old.content.bytes) store.shape shape (attached.shape_is told) (all old.content.bytes (left_as_read old.content)).1.header

  first_opens : (shape : Shape) → AllOpen shape old.content → Opens shape old.content.bytes store.state.bytes
  first_opens shape all =
      let first = all old.content.bytes (left_as_read old.content) in
      subst (λ (s : Shape). Opens s old.content.bytes store.state.bytes) (first_shape shape all) (record {
        header = attached.shape_is told;
        stands = record { lawful = subst (λ (s : Shape). IsLawful s old.content.bytes) (sym (first_shape shape all)) first.1.stands.lawful; gives = sym (attached.bytes told) };
      })

  -- an image that opens with that data, or with the same in version 2
  like_data : (shape : Shape) → AllOpen shape old.content → (image : List ℕ) → Opens store.shape image store.state.bytes → OpensLike shape old.content image
  like_data shape all image opens =
      (old.content.bytes, left_as_read old.content, store.state.bytes, first_opens shape all, subst (λ (s : Shape). Opens s image store.state.bytes) (first_shape shape all) opens)

  in_two : (shape : Shape) → AllOpen shape old.content → (image : List ℕ) → Opens store.shape image (upgraded store.state.bytes) → OpensInTwo shape old.content image
  in_two shape all image opens =
      (old.content.bytes, left_as_read old.content, store.state.bytes, first_opens shape all, subst (λ (s : Shape). Opens s image (upgraded store.state.bytes)) (first_shape shape all) opens)

  pub holds : (index_at store.state.bytes).sound store.state.bytes → HoldsRecords store.shape old
  holds sound = record { array = array; sound = subst (λ (b : List ℕ). (index_at b).sound b) (attached.bytes told) sound }

  module _ (defers : Bool) (later : StoreView) (new : View) (behind : IsBehind tells defers later new) where
    -- the records were read
    pub looked : LeavesOnly (λ image. Opens store.shape image store.state.bytes) store later → (shape : Shape) → AllOpen shape old.content → (image : List ℕ) → new.left_since old.moment image → OpensLike shape old.content image
    looked time shape all image left = ⊎_elim (at_entry shape all image) (like_data shape all image) (time.only old.moment image (keeps told shape all).later (behind.left old.moment image left))

    -- the array is left as it was opened
    pub left_alone : (Cause : Type 0) → later ≡ store → Cause → Idle true (HoldsArray old) Cause old new false []
    left_alone Cause same cause = record {
      silent = refl;
      later = λ shape all. omega (arith, (keeps told shape all).later, ap (λ (v : StoreView). v.moment) same, behind.moment);
      keeps = λ shape all image left. inl (looked (subst (λ (v : StoreView). LeavesOnly (λ image. Opens store.shape image store.state.bytes) store v) (sym same)
          (record { later = omega arith; keeps = λ t image le left. left; only = λ t image le left. inl left })) shape all image left);
      spared = inr (store.shape, array);
      cause = cause;
    }

    module _ (spares : Bool) (fault : CoreFault) (cut : Bool) (text : List ℕ) (off : Untaken spares Opens (index_at store.state.bytes) store fault cut text later) where
      idle : (Cause : Type 0) → Cause → Idle (spares_at spares fault) (HoldsArray old) Cause old new cut text
      idle Cause cause = record {
        silent = subst (λ (c : Bool). IsWritten c text []) (sym off.whole) off.silent;
        later = λ shape all. omega (arith, (keeps told shape all).later, off.time.later, behind.moment);
        keeps = λ shape all image left. ⊎_elim (λ was. inl (at_entry shape all image was))
            (λ either. ⊎_elim (λ opens. inl (like_data shape all image opens)) (λ two. inr (two.0, in_two shape all image two.1)) either)
            (off.time.only old.moment image (keeps told shape all).later (behind.left old.moment image left));
        spared = inr (store.shape, array);
        cause = cause;
      }

    -- the records were not taken
    pub untaken_outcome : (spares : Bool) (Works : Ended → Type 0) (callers : ℕ) → callers ≤ store.shape.numbers → (fault : CoreFault) (cut : Bool) (text : List ℕ) → Untaken spares Opens (index_at store.state.bytes) store fault cut text later
        → OutcomeOf spares true callers Works old (served_status (Err fault)) new cut text
    untaken_outcome spares Works callers enough (core.Damaged page) cut text off = idle spares (core.Damaged page) cut text off _
        (refl, (store.shape, array, subst (λ (b : List ℕ). (index_at b).fails b page) (attached.bytes told) (off.cause refl)), no_excess old store.shape callers array enough)
    untaken_outcome spares Works callers enough core.Media cut text off = inl (idle spares core.Media cut text off _ tt)
    untaken_outcome spares Works callers enough core.NoMemory cut text off = inr (inl (idle spares core.NoMemory cut text off _ (refl, (store.shape, array), no_excess old store.shape callers array enough)))
