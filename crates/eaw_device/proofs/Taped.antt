-- A device over a medium that shows the same.
use Rattle.std.proofs.Common.{Bool, true, List, length, refl, sym, ◌∙◌, ap, subst}
use Rattle.pcm_media.specs.Images.{Content}
use Rattle.array_shape.specs.declared.shape.Shape.{Shape}
use Rattle.write_back.specs.declared.commits.LateData.{LateData}
use Rattle.tape_media.specs.Tape.{Tape, view_of}
use Rattle.tape_media.specs.Tape as tape
use Rattle.eaw_face.specs.Mirroring.{ShowsSame}
use Rattle.eaw_device.specs.declared.log.Log.{Log}
use Rattle.eaw_device.specs.Logs.{parts_logged}
use Rattle.eaw_device.specs.Sound.{IsSound, IsTold, shown}
use Rattle.eaw_face.specs.State.{State}
use Rattle.eaw_device.specs.Sound as device

module _ (old new : Tape) (same : tape.ShowsSame old new) (shape : Shape) (logs : List Log) (late : LateData) (is_dead : Bool) where
  pub sound_on : IsSound true (view_of old) shape logs late is_dead → IsSound true (view_of new) shape logs late is_dead
  sound_on sound = record {
    shaped = sound.shaped;
    sized = ap (λ (c : Content). length c.bytes) same.content ∙ sound.sized;
    many = sound.many;
    kept = sound.kept;
    ready = sound.ready;
    in_order = sound.in_order;
    told = λ told alive. subst (λ (c : Content). IsTold shape late c logs) (sym same.content) (sound.told told alive);
  }

  pub shows_on : ShowsSame (device.view_of (view_of old) shape logs late is_dead) (device.view_of (view_of new) shape logs late is_dead)
  shows_on = record {
    shape = refl;
    depth = refl;
    state = ap (λ (c : Content). let s : State = record { bytes = shown shape late is_dead c.bytes; logs = parts_logged shape c.bytes logs } in s) same.content;
    ranges = refl;
    is_dead = refl;
    faults = same.faults;
    moment = same.moment;
    left = same.left_since;
    sending = refl;
  }
