-- A run of lines that say frames over an array that was opened.
use Rattle.array_image.specs.Decided.{settled_data}
use Rattle.std.proofs.Common.{◌≡◌, ℕ, ◌≤◌, ◌⊎◌, inl, inr, ⊎_elim, List, length, Bool, true, false, refl, sym, ap, subst, ◌∙◌, arith}
use Rattle.std.specs.Prelude.{IsTrue}
use Rattle.std.proofs.lemmas.Bool.{false≢true}
use Rattle.mars_base.specs.Causes.{Rose}
use Rattle.pcm_media.specs.Images.{MayLeave}
use Rattle.pcm_media.specs.View.{View}
use Rattle.array_shape.specs.declared.shape.Shape.{Shape}
use Rattle.device_recovery.specs.Recovered.{HasNoVote}
use Rattle.eaw_face.specs.Frame.{Frame}
use Rattle.eaw_face.specs.Mirroring.{followed}
use Rattle.eaw_face.specs.StoreView.{StoreView, LeavesOnly}
use Rattle.eaw_device.specs.Opens.{Opens, KeepsData, Attached, IsBehind, IsArray}
use Rattle.frame_lines.specs.Taken.{GoesOn}
use Rattle.frame_lines.specs.Followed.{LeavesJust, LeavesNear, LeavesStore, OpensNear, FollowedLines, OpensFirst, Counts as LineCounts}
use Rattle.frame_lines.specs.declared.ended.FollowEnd.{FollowEnd}
use Rattle.frame_lines.specs.declared.ended.FollowEnd.TheVariants as follow
use Rattle.script_run.specs.Input.{input_limit}
use Rattle.script_run.specs.Lines.{lines_of}
use Rattle.command_words.specs.declared.words.Words.TheVariants.{Follow}
use Rattle.mars_shell.specs.Asked.{OutcomeFor, IsComplete}
use Rattle.mars_shell.specs.Follow.{LeavesFollowed, Follows, follow_status}
use Rattle.array_runs.specs.Input.{InputSays}
use Rattle.array_runs.specs.Statuses.{Counts, IsEarly, IsRefusal}
use Rattle.array_runs.specs.declared.status.Status.{Status}
use Rattle.array_runs.proofs.Completing.{complete_of}
use Rattle.array_runs.proofs.Opened.{array, at_entry}

module _ (tells : Bool) (told : IsTrue tells) (old : View) (only_now : (image : List ℕ) → IsTrue tells → old.left_since old.moment image → MayLeave old.content image)
    (store : StoreView) (attached : Attached tells old store) (keeps : KeepsData tells old store.moment store.left_since)
    (store' : StoreView) (new : View) (behind : IsBehind tells false store' new)
    (counts_now : (t : ℕ) (image : List ℕ) → IsTrue tells → t ≤ new.moment → MayLeave new.content image → new.left_since t image) where
  -- the medium has the data of a store that goes on
  stands : (frames : List Frame) → GoesOn tells frames store store' → HasNoVote store.shape new.content.bytes × (settled_data store.shape new.content.bytes ≡ followed frames (settled_data store.shape old.content.bytes))
  stands frames on = (
    subst (λ (s : Shape). HasNoVote s new.content.bytes) on.data_is.shape (behind.quiet told on.alive refl),
    ap (λ (s : Shape). settled_data s new.content.bytes) (sym on.data_is.shape) ∙ behind.bytes told on.alive ∙ on.data_is.data_is told ∙ ap (λ (b : List ℕ). followed frames b) (attached.bytes told),
  )

  -- what may be left of the medium may be left of the store
  left_now : (image : List ℕ) → MayLeave new.content image → store'.left_since store'.moment image
  left_now image left = subst (λ (t : ℕ). store'.left_since t image) behind.moment (behind.left new.moment image (counts_now new.moment image told (omega arith) left))

  first_bytes : store.state.bytes ≡ settled_data store.shape old.content.bytes
  first_bytes = attached.bytes told

  stands_now : (frames : List Frame) → GoesOn tells frames store store' × LeavesJust tells Opens store store' frames
      → HasNoVote store.shape new.content.bytes × (settled_data store.shape new.content.bytes ≡ followed frames (settled_data store.shape old.content.bytes))
      × ((image : List ℕ) → MayLeave new.content image → Opens store.shape image (followed frames (settled_data store.shape old.content.bytes)))
  stands_now frames on = (
    (stands frames on.0).0,
    (stands frames on.0).1,
    λ image left. subst (λ (b : List ℕ). Opens store.shape image (followed frames b)) first_bytes (on.1 told image (left_now image left)),
  )

  near_now : (frames : List Frame) (later : List (List ℕ)) → LeavesNear tells Opens store store' frames later
      → (image : List ℕ) → MayLeave new.content image → OpensNear Opens store.shape (settled_data store.shape old.content.bytes) frames later image
  near_now frames later near image left = subst (λ (b : List ℕ). OpensNear Opens store.shape b frames later image) first_bytes (near told image (left_now image left))

  leaves_on : (ended : FollowEnd) (frames : List Frame) (later : List (List ℕ)) → LeavesStore tells Opens store store' ended frames later → LeavesFollowed store.shape old new ended frames later
  leaves_on follow.MediaFault frames later on = near_now frames later on
  leaves_on follow.NoMemory frames later on = near_now frames later on
  leaves_on _ frames later on = stands_now frames on

  pub follows : (input : List ℕ) (ended : FollowEnd) (cut : Bool) (text : List ℕ) → FollowedLines store.shape (LeavesStore tells Opens store store' ended) (lines_of input) ended cut text
      → LeavesOnly (OpensFirst Opens store.shape store.state.bytes (lines_of input)) store store' → Follows old input ended new cut text
  follows input ended cut text ran time = record {
    shape = store.shape;
    array = array tells told old only_now store attached keeps;
    lines = record {
      frames = ran.frames;
      count = ran.count;
      said = ran.said;
      sequence = ran.sequence;
      told = ran.told;
      leaves = leaves_on ended ran.frames _ ran.leaves;
      stops = ran.stops;
    };
    later = λ all. omega (arith, (keeps told store.shape all).later, time.later, behind.moment);
    since = λ all image left. ⊎_elim
        (λ was. inl (at_entry tells told old only_now store attached keeps store.shape all image was))
        (λ opens. inr (subst (λ (b : List ℕ). OpensFirst Opens store.shape b (lines_of input) image) (attached.bytes told) opens))
        (time.only old.moment image (keeps told store.shape all).later (behind.left old.moment image left));
  }

-- lines that were followed end a run late, and are no refusal of the array
pub follow_late : (ended : FollowEnd) → IsEarly (follow_status ended) → ⊥
follow_late follow.All early = early
follow_late _ early = early

pub follow_accepted : (ended : FollowEnd) → IsRefusal (follow_status ended) → ⊥
follow_accepted follow.All refusal = refusal
follow_accepted _ refusal = refusal

-- the status says which count rose
line_counts : (ended : FollowEnd) (s k k' m m' : ℕ) → LineCounts ended k k' m m' → Counts (follow_status ended) s s k k' m m'
line_counts follow.MediaFault s k k' m m' counts = (refl, counts.1)
line_counts _ s k k' m m' counts = (refl, counts.0, counts.1)

pub follow_counted : (ended : FollowEnd) (status : Status) (s s' k k' m m' n n' : ℕ) → status ≡ follow_status ended → s' ≡ s → n ≡ m → m' ≡ n' → LineCounts ended k k' n n' → Counts status s s' k k' m m'
follow_counted ended status s s' k k' m m' n n' is read before after counts = rw (is, read, ← before, after) (line_counts ended s k k' n n' counts)

-- What can be followed is followed, unless memory runs out or a line is not followed.
module _ (old new : View) (input : List ℕ) (cut : Bool) (text : List ℕ) (given left : List ℕ) (s s' k k' m m' : ℕ)
    (short : length given ≤ input_limit) (shape : Shape) (is_array : IsArray shape old) (no_source : Rose s s' → ⊥) (no_sink : Rose k k' → ⊥) (no_media : Rose m m' → ⊥) where
  followed_so : (ended : FollowEnd) → Counts (follow_status ended) s s' k k' m m' → IsComplete Follow (follow_status ended)
  followed_so follow.All counts = inl refl
  followed_so (follow.BadFrame n) counts = inr (inr (inl (n, refl)))
  followed_so (follow.Gap expected got) counts = inr (inr (inr (expected, got, refl)))
  followed_so follow.WriteFault counts = absurd (no_sink counts.1)
  followed_so follow.MediaFault counts = absurd (no_media counts.1)
  followed_so follow.NoMemory counts = inr (inl refl)

  pub complete_follow : (status : Status) → Counts status s s' k k' m m' → InputSays status given left → OutcomeFor Follow (λ place. Unit {0}) old status new input cut text → IsComplete Follow status
  complete_follow status counts says outcome = ⊎_elim
      (λ unopened. ⊎_elim (λ good. inl good) (λ none. inr (inl none))
      (complete_of true (λ ended. ⊥) false 0 old new cut text given left s s' k k' m m' short shape is_array (λ looks page is. absurd (false≢true looks)) (λ is. absurd (omega (arith, is.2))) no_source no_sink no_media status counts says unopened))
      (λ ran. subst (IsComplete Follow) (sym ran.1) (followed_so ran.0 (subst (λ (x : Status). Counts x s s' k k' m m') ran.1 counts)))
      outcome
