-- A run of raw commands over an array that was opened.
use Rattle.array_image.specs.Decided.{settled_data}
use Rattle.std.proofs.Common.{◌≡◌, ℕ, ◌≤◌, inl, inr, ⊎_elim, List, [], Bool, None, true, false, refl, sym, ap, subst, ◌∙◌, arith}
use Rattle.std.specs.Prelude.{IsTrue, ⊤}
use Rattle.mars_base.proofs.Going.{weaker}
use Rattle.pcm_media.specs.Images.{MayLeave}
use Rattle.pcm_media.specs.View.{View}
use Rattle.array_shape.specs.declared.shape.Shape.{Shape}
use Rattle.device_recovery.specs.Recovered.{HasNoVote}
use Rattle.eaw_face.specs.State.{State}
use Rattle.eaw_face.specs.StoreView.{StoreView, LeavesOnly}
use Rattle.eaw_device.specs.Opens.{Opens, KeepsData, Attached, IsBehind, HoldsArray}
use Rattle.frame_lines.specs.Framed.{Framed}
use Rattle.eaw_script.specs.Lines.{raw_script}
use Rattle.eaw_script.specs.Mirrored.{RanAs, framed_script, framed_begun}
use Rattle.eaw_script.specs.Progress.{Progress, Shows, Comes, begun}
use Rattle.script_run.specs.Lines.{lines_of}
use Rattle.script_run.specs.Script.{Script}
use Rattle.script_run.specs.Transcript.{Answered, Ran}
use Rattle.script_run.specs.declared.ended.Ended.{Ended}
use Rattle.script_run.specs.declared.ended.Ended.TheVariants.{All}
use Rattle.mars_shell.specs.Commands.{ObeysBy, ObeysAs}
use Rattle.array_runs.specs.Outcome.{Idle}
use Rattle.array_runs.proofs.Opened.{array, at_entry, looked}

module _ (tells : Bool) (told : IsTrue tells) (old : View) (only_now : (image : List ℕ) → IsTrue tells → old.left_since old.moment image → MayLeave old.content image)
    (store : StoreView) (attached : Attached tells old store) (keeps : KeepsData tells old store.moment store.left_since)
    (store' : StoreView) (new : View) (behind : IsBehind tells false store' new) (counts_now : (t : ℕ) (image : List ℕ) → IsTrue tells → t ≤ new.moment → MayLeave new.content image → new.left_since t image)
    (input : List ℕ) (ended : Ended) (cut : Bool) (text : List ℕ)
    {S : Type 0} (script : Script S) (first : Shape → State → S) (progress : S → Progress) (Stands : S → Type 0) (shows : (state : S) → Stands state → Shows store' (progress state))
    (ran : Ran script Stands (λ (after : S). Comes Opens store (begun store.shape store.state) store' (progress after)) (first store.shape store.state) (lines_of input) ended cut text)
    (alive : ended ≡ All → store'.is_dead ≡ false) where
  -- no number is live yet
  first_is : first store.shape store.state ≡ first store.shape (record { bytes = settled_data store.shape old.content.bytes; logs = λ t. None })
  first_is = λ i. first store.shape (record { bytes = attached.bytes told i; logs = λ t. attached.unlogged t i })

  pub obeys : ObeysBy script first progress old input ended new cut text
  obeys = record {
    shape = store.shape;
    array = array tells told old only_now store attached keeps;
    final = ran.final;
    told = record { answers = ran.answers; rest = ran.rest; text_is = ran.text_is; answered = subst (λ (p : S). Answered script p 1 (lines_of input) ended cut ran.answers ran.rest ran.final) first_is ran.answered };
    now = λ image left. ran.comes.now image (subst (λ (t : ℕ). store'.left_since t image) behind.moment (behind.left new.moment image (counts_now new.moment image told (omega arith) left)));
    since = λ all image left. ⊎_elim (λ was. inl (at_entry tells told old only_now store attached keeps store.shape all image was)) (λ made. inr made)
        (ran.comes.since.only old.moment image (keeps told store.shape all).later (behind.left old.moment image left));
    left = λ good. (
      subst (λ (s : Shape). HasNoVote s new.content.bytes) (shape_is good) (behind.quiet told (alive good) refl),
      ap (λ (s : Shape). settled_data s new.content.bytes) (sym (shape_is good)) ∙ behind.bytes told (alive good) ∙ sym (λ i. ((shows ran.final (ran.stands good)).state i).bytes),
    );
  }
    where
      shape_is : ended ≡ All → store'.shape ≡ store.shape
      shape_is good = sym (shows ran.final (ran.stands good)).shape ∙ ran.comes.shape

-- with frames or without
module _ (tells : Bool) (told : IsTrue tells) (old : View) (only_now : (image : List ℕ) → IsTrue tells → old.left_since old.moment image → MayLeave old.content image)
    (store : StoreView) (attached : Attached tells old store) (keeps : KeepsData tells old store.moment store.left_since)
    (store' : StoreView) (new : View) (behind : IsBehind tells false store' new) (counts_now : (t : ℕ) (image : List ℕ) → IsTrue tells → t ≤ new.moment → MayLeave new.content image → new.left_since t image)
    (input : List ℕ) (ended : Ended) (cut : Bool) (text : List ℕ) (alive : ended ≡ All → store'.is_dead ≡ false) where
  -- nothing was begun
  unbegun : LeavesOnly (λ image. ⊥) store store' → Idle true (HoldsArray old) ⊤ old new false []
  unbegun time = record {
    silent = refl;
    later = λ shape all. omega (arith, (keeps told shape all).later, time.later, behind.moment);
    keeps = λ shape all image left. inl (looked tells told old only_now store attached keeps false store' new behind (weaker (λ image none. absurd none) time) shape all image left);
    spared = inr (store.shape, array tells told old only_now store attached keeps);
    cause = tt;
  }

  pub obeys_as : (frames : Bool) → RanAs frames Opens store store' (lines_of input) ended cut text → ObeysAs frames old input ended new cut text
  obeys_as false ran = obeys tells told old only_now store attached keeps store' new behind counts_now input ended cut text raw_script begun (λ (p : Progress). p) (Shows store') (λ (p : Progress) (shows : Shows store' p). shows) ran alive
  obeys_as true (inl ran) = inl (obeys tells told old only_now store attached keeps store' new behind counts_now input ended cut text framed_script framed_begun (λ (f : Framed Progress). f.inner)
      (λ (f : Framed Progress). Shows store' f.inner) (λ (f : Framed Progress) (shows : Shows store' f.inner). shows) ran alive)
  obeys_as true (inr none) = inr (
    none.0,
    subst (λ (c : Bool). Idle true (HoldsArray old) ⊤ old new c text) (sym none.1)
        (subst (λ (t : List ℕ). Idle true (HoldsArray old) ⊤ old new false t) (sym none.2) (unbegun none.3)),
  )
