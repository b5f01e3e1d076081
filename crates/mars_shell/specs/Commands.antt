-- What a run of raw commands does on a medium that tells its bytes.
use Rattle.array_image.specs.Decided.{settled_data}
use Rattle.std.specs.Prelude.{ℕ, ◌≡◌, ◌⊎◌, List, [], Bool, true, false, None, Contains, ⊤}
use Rattle.pcm_media.specs.Images.{MayLeave}
use Rattle.pcm_media.specs.View.{View}
use Rattle.array_shape.specs.declared.shape.Shape.{Shape}
use Rattle.device_recovery.specs.Recovered.{HasNoVote}
use Rattle.eaw_device.specs.Opens.{Opens, AllOpen, OpensLike, IsArray, HoldsArray}
use Rattle.eaw_face.specs.State.{State}
use Rattle.eaw_script.specs.Lines.{raw_script}
use Rattle.eaw_script.specs.Progress.{Progress, MayStand, begun}
use Rattle.frame_lines.specs.Framed.{framed}
use Rattle.script_run.specs.Script.{Script}
use Rattle.script_run.specs.declared.ended.Ended.{Ended}
use Rattle.script_run.specs.declared.ended.Ended.TheVariants.{All, NoMemory}
use Rattle.array_runs.specs.Outcome.{Idle}
use Rattle.mars_shell.specs.Run.{AnswersLines}

-- The lines of the input were answered by a script whose states have this progress, starting from the data of the array with no number live.
-- What a loss of power may leave at the end opens with data that the script may have reached. What it might have left since the start opens
-- with data that the script has made, or with that of an image that could be left at first, if all of those open.
pub record ObeysBy {S : Type 0} (script : Script S) (first : Shape → State → S) (progress : S → Progress) (old : View) (input : List ℕ) (ended : Ended) (new : View) (cut : Bool) (text : List ℕ) : Type 0 where
  pub shape : Shape
  pub array : IsArray shape old
  pub final : S
  pub told : AnswersLines script (first shape (record { bytes = settled_data shape old.content.bytes; logs = λ t. None })) [] input ended cut text final
  pub now : (image : List ℕ) → MayLeave new.content image → (bytes : List ℕ) × Opens shape image bytes × MayStand (progress final) bytes
  pub since : AllOpen shape old.content → (image : List ℕ) → new.left_since old.moment image
      → OpensLike shape old.content image ⊎ ((bytes : List ℕ) × Opens shape image bytes × (MayStand (progress final) bytes ⊎ Contains (progress final).past bytes))
  pub left : ended ≡ All → HasNoVote shape new.content.bytes × (settled_data shape new.content.bytes ≡ (progress final).state.bytes)

-- The commands were answered by the model. If frames are asked for, those that each command sends stand before its reply: in sequence from
-- 1, and at each whole reply those so far, applied in order to the data that was opened, give the committed data. Or then memory ran out
-- before the first line.
abbrev pub ObeysAs : (frames : Bool) → View → List ℕ → Ended → View → Bool → List ℕ → Type 0
ObeysAs false old input ended new cut text = ObeysBy raw_script begun (λ progress. progress) old input ended new cut text
ObeysAs true old input ended new cut text = ObeysBy (framed (λ progress bytes. progress.state.bytes ≡ bytes) raw_script)
    (λ shape state. record { inner = begun shape state; shape = shape; opened = state.bytes; frames = [] })
    (λ last. last.inner) old input ended new cut text ⊎ ((ended ≡ NoMemory) × Idle true (HoldsArray old) ⊤ old new cut text)
