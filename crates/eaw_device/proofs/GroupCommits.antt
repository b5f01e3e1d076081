-- The commit of a group, from the commit of its logs and their clearing.
use Rattle.std.proofs.Common.{◌≡◌, ℕ, Bool, true, false, List, length, Result, Ok, Err, refl, sym, ◌∙◌, ap, subst}
use Rattle.std.specs.Prelude.{IsTrue, slice_get, None}
use Rattle.std.specs.Option.{ForSome}
use Rattle.mars_base.specs.Causes.{Rose}
use Rattle.pcm_media.specs.View.{View, LeavesOnly}
use Rattle.array_shape.specs.declared.shape.Shape.{Shape}
use Rattle.array_shape.specs.Places.{media_len}
use Rattle.array_shape.specs.Logged.{Part, applied}
use Rattle.array_image.specs.Standing.{IsEither, SameCells}
use Rattle.eaw_face.specs.State.{is_one_of, group_log}
use Rattle.eaw_face.specs.Command.{commit_group}
use Rattle.eaw_face.specs.Causes.{known}
use Rattle.eaw_face.specs.Does as face
use Rattle.eaw_face.specs.declared.fault.EawFault.{EawFault}
use Rattle.eaw_face.specs.declared.fault.EawFault.TheVariants.{Media}
use Rattle.eaw_device.specs.declared.log.Log.{Log}
use Rattle.write_back.specs.declared.commits.LateData.{LateData}
use Rattle.eaw_device.specs.Opens.{Opens}
use Rattle.eaw_device.specs.Logs.{IsKept, IsCleared, parts_logged}
use Rattle.write_back.specs.Steps.{WritesBehind}
use Rattle.write_back.specs.Entries.{AreHeld}
use Rattle.write_back.specs.Shown.{entries_of as kept_entries}
use Rattle.write_back.specs.Waiting.{AreWaiting, data_with}
use Rattle.write_back.specs.Tied.{IsReady}
use Rattle.eaw_device.specs.Laws.{alive_shown}
use Rattle.eaw_device.specs.Sound.{IsInOrder, IsSound, shown, view_of}
use Rattle.eaw_device.proofs.Clearing.{group_sound, group_ranges, group_parts_logged}
use Rattle.eaw_device.proofs.Doing.{done, failed}
use Rattle.eaw_device.proofs.Sure.{commit_time, commit_sure}

module _ (tells : Bool) (old new : View) (shape : Shape) (logs : List Log) (late : LateData) (is_dead : Bool) (sound : IsSound tells old shape logs late is_dead) (alive : is_dead ≡ false) (ts : List ℕ) (live : known (view_of old shape logs late is_dead) (commit_group ts) None)
    (late' : LateData) {E : Type 0} (r : Result (Unit {0}) E) (does : WritesBehind tells old new r) (depth : late'.queue.depth ≡ late.queue.depth) (long : IsTrue tells → length old.content.bytes ≡ media_len shape)
    (any_moment : IsTrue tells → (let d = data_with shape late.queue old.content.bytes in LeavesOnly (IsEither shape d (applied (group_log (parts_logged shape old.content.bytes logs) ts) d)) old new)) where
  abbrev before : List ℕ
  before = shown shape late is_dead old.content.bytes

  abbrev parts : List Part
  parts = group_log (parts_logged shape old.content.bytes logs) ts

  time : IsTrue tells → LeavesOnly (face.IsEither (Opens shape) before (applied parts before)) old new
  time told =
      let d = data_with shape late.queue old.content.bytes in
      subst (λ (d : List ℕ). LeavesOnly (face.IsEither (Opens shape) d (applied parts d)) old new) (sym (alive_shown shape late is_dead old.content.bytes alive))
      (commit_time tells shape late.queue old new r does told (long told) (sound.told told alive).sure d (applied parts d) (any_moment told))

  -- the medium failed
  pub group_failed : Rose old.faults new.faults → (let failed : Result (Unit {0}) EawFault = Err Media in face.Does tells (Opens shape) (commit_group ts) (view_of old shape logs late is_dead) (view_of new shape logs late' true) failed)
  group_failed rose = failed tells (Opens shape) (commit_group ts) (view_of old shape logs late is_dead) (view_of new shape logs late' true) refl depth does.does.device (refl, λ alive. refl) does.does.cause.later (λ told fine. time told) alive live tt rose refl (λ u other. refl)

  -- the parts are in the data, and the numbers are free
  module _ (ready : IsReady shape late') (waiting : IsTrue tells → AreWaiting shape late'.queue new.content) (shown' : IsTrue tells → AreHeld shape new.content.bytes (kept_entries late'.parts))
      (committed : IsTrue tells → data_with shape late'.queue new.content.bytes ≡ applied parts (data_with shape late.queue old.content.bytes)) (cells : IsTrue tells → SameCells shape old.content.bytes new.content.bytes)
      (now : List Log) (many : length now ≡ length logs) (kept : (t : ℕ) → ForSome (slice_get now t) (IsKept shape)) (freed : (t : ℕ) → is_one_of ts t ≡ true → ForSome (slice_get now t) IsCleared)
      (others : (t : ℕ) → is_one_of ts t ≡ false → slice_get now t ≡ slice_get logs t) where
    pub group_now_sound : IsInOrder shape late' now → IsSound tells new shape now late' is_dead
    group_now_sound in_order = group_sound tells old new shape logs now late late' is_dead sound ts does.does.size cells many kept freed others ready (λ fine. in_order) (λ told fine. commit_sure tells shape late.queue old new r does told (long told) (sound.told told alive).sure late'.queue (waiting told)) (λ told fine. shown' told)

    pub group_done : new.faults ≡ old.faults → (let done : Result (Unit {0}) EawFault = Ok tt in face.Does tells (Opens shape) (commit_group ts) (view_of old shape logs late is_dead) (view_of new shape now late' is_dead) done)
    group_done same = done tells (Opens shape) (commit_group ts) (view_of old shape logs late is_dead) (view_of new shape now late' is_dead) refl depth does.does.device (refl, λ alive. refl) does.does.cause.later (λ told fine. time told) tt same alive live tt
        (record {
          alive = alive;
          ranges = group_ranges tells old new shape logs now late late' is_dead sound ts does.does.size cells many kept freed others;
          state = λ told.
              let gone = group_parts_logged tells old new shape logs now late late' is_dead sound ts does.does.size cells many kept freed others told in
              let bytes = alive_shown shape late' is_dead new.content.bytes alive ∙ committed told ∙ ap (applied parts) (sym (alive_shown shape late is_dead old.content.bytes alive)) in
              λ i. record { bytes = bytes i; logs = gone i };
        })
