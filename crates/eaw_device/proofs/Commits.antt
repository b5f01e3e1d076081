-- Commands that cut a log: commit, abort, nested top action and partial abort.
use Rattle.std.proofs.Common.{◌≡◌, ℕ, Bool, true, false, List, length, take, drop, Result, Ok, Err, refl, sym, ◌∙◌, ap, subst, arith}
use Rattle.std.specs.Prelude.{IsTrue, slice_set}
use Rattle.std.specs.Option.{option_map}
use Rattle.mars_base.specs.Causes.{Rose}
use Rattle.mars_base.proofs.Going.{stays}
use Rattle.pcm_media.specs.View.{View, LeavesOnly}
use Rattle.array_shape.specs.declared.shape.Shape.{Shape}
use Rattle.array_shape.specs.Places.{media_len}
use Rattle.array_shape.specs.Logged.{Part, applied}
use Rattle.array_image.specs.Standing.{IsEither, SameCells}
use Rattle.eaw_face.specs.State.{listed}
use Rattle.eaw_face.specs.StoreView.{IsLive, log_len}
use Rattle.eaw_face.specs.Command.{commit, abort, nested_top, partial_abort}
use Rattle.eaw_face.specs.Does as face
use Rattle.eaw_face.specs.declared.fault.EawFault.{EawFault}
use Rattle.eaw_face.specs.declared.fault.EawFault.TheVariants.{Media}
use Rattle.eaw_device.specs.declared.log.Log.{Log}
use Rattle.write_back.specs.declared.commits.LateData.{LateData}
use Rattle.eaw_device.specs.Opens.{Opens}
use Rattle.eaw_device.specs.Logs.{IsKept, entries_at}
use Rattle.write_back.specs.Entries.{parts_in}
use Rattle.write_back.specs.Steps.{WritesBehind}
use Rattle.write_back.specs.Entries.{AreHeld}
use Rattle.write_back.specs.Shown.{entries_of as kept_entries}
use Rattle.write_back.specs.Waiting.{AreWaiting, data_with}
use Rattle.write_back.specs.Tied.{IsReady}
use Rattle.eaw_device.specs.Laws.{alive_shown}
use Rattle.eaw_device.specs.Sound.{IsInOrder, IsSound, shown, view_of}
use Rattle.eaw_device.proofs.Entries.{length-ranges_in}
use Rattle.eaw_device.proofs.Tables.{ranges_there, parts_there}
use Rattle.eaw_device.proofs.Doing.{Found, done, failed}
use Rattle.eaw_device.proofs.Cutting.{cut_sound, order_first, freed_ranges, freed_logs, cut_ranges, cut_logs}
use Rattle.eaw_device.proofs.Sure.{commit_time, commit_sure}

module _ (tells : Bool) (old new : View) (shape : Shape) (logs : List Log) (late : LateData) (is_dead : Bool) (sound : IsSound tells old shape logs late is_dead) (alive : is_dead ≡ false) (t : ℕ) (live : IsLive (view_of old shape logs late is_dead) t)
    (log : Log) (found : Found tells old shape logs late is_dead t log) where
  abbrev before : List ℕ
  before = shown shape late is_dead old.content.bytes

  abbrev parts : List Part
  parts = listed (option_map (parts_in shape old.content.bytes t) (entries_at logs t))

  its_parts : parts_in shape old.content.bytes t log.entries.items ≡ parts
  its_parts = sym (parts_there shape logs t log found.there found.kept old.content.bytes)

  pub its_len : log_len (view_of old shape logs late is_dead) t ≡ length log.entries.items
  its_len = ap length (ranges_there shape logs t log found.there found.kept) ∙ length-ranges_in log.entries.items

  module _ (late' : LateData) (n : ℕ) {E : Type 0} (r : Result (Unit {0}) E) (does : WritesBehind tells old new r) (depth : late'.queue.depth ≡ late.queue.depth) (long : IsTrue tells → length old.content.bytes ≡ media_len shape)
      (any_moment : IsTrue tells → (let d = data_with shape late.queue old.content.bytes in LeavesOnly (IsEither shape d (applied (drop n (parts_in shape old.content.bytes t log.entries.items)) d)) old new)) where
    time : IsTrue tells → LeavesOnly (face.IsEither (Opens shape) before (applied (drop n parts) before)) old new
    time told =
        let d = data_with shape late.queue old.content.bytes in
        subst (λ (p : List ℕ × List Part). LeavesOnly (face.IsEither (Opens shape) p.0 (applied (drop n p.1) p.0)) old new) (λ i. (sym (alive_shown shape late is_dead old.content.bytes alive) i, its_parts i))
        (commit_time tells shape late.queue old new r does told (long told) (found.told told).sure d (applied (drop n (parts_in shape old.content.bytes t log.entries.items)) d) (any_moment told))

    -- the medium failed
    module _ (rose : Rose old.faults new.faults) where
      pub commit_failed : n ≡ 0 → (let failed : Result (Unit {0}) EawFault = Err Media in face.Does tells (Opens shape) (commit t) (view_of old shape logs late is_dead) (view_of new shape logs late' true) failed)
      commit_failed none = failed tells (Opens shape) (commit t) (view_of old shape logs late is_dead) (view_of new shape logs late' true) refl depth does.does.device (refl, λ alive. refl) does.does.cause.later
          (λ told fine. subst (λ (k : ℕ). LeavesOnly (face.IsEither (Opens shape) before (applied (drop k parts) before)) old new) none (time told)) alive live tt rose refl (λ u other. refl)

      pub nested_failed : (offset : ℕ) → n ≡ offset → (let failed : Result (Unit {0}) EawFault = Err Media in face.Does tells (Opens shape) (nested_top t offset) (view_of old shape logs late is_dead) (view_of new shape logs late' true) failed)
      nested_failed offset is = failed tells (Opens shape) (nested_top t offset) (view_of old shape logs late is_dead) (view_of new shape logs late' true) refl depth does.does.device (refl, λ alive. refl) does.does.cause.later
          (λ told fine. subst (λ (k : ℕ). LeavesOnly (face.IsEither (Opens shape) before (applied (drop k parts) before)) old new) is (time told)) alive live tt rose refl (λ u other. refl)

    -- the parts are in the data, and the log is cut
    module _ (ready : IsReady shape late') (waiting : IsTrue tells → AreWaiting shape late'.queue new.content) (shown' : IsTrue tells → AreHeld shape new.content.bytes (kept_entries late'.parts))
        (committed : IsTrue tells → data_with shape late'.queue new.content.bytes ≡ applied (drop n (parts_in shape old.content.bytes t log.entries.items)) (data_with shape late.queue old.content.bytes))
        (cells : IsTrue tells → SameCells shape old.content.bytes new.content.bytes) (now : Log) (kept : IsKept shape now) (items : now.entries.items ≡ take n log.entries.items) (at : ℕ) (is : at ≡ t) where
      pub commit_sound : IsInOrder shape late' (slice_set logs t now) → IsSound tells new shape (slice_set logs at now) late' is_dead
      commit_sound in_order = subst (λ (k : ℕ). IsSound tells new shape (slice_set logs k now) late' is_dead) (sym is)
          (cut_sound tells old new shape logs late late' is_dead sound t log found does.does.size cells now kept n items ready (λ fine. in_order) (λ told fine. commit_sure tells shape late.queue old new r does told (long told) (found.told told).sure late'.queue (waiting told)) (λ told fine. shown' told))

      now_bytes : IsTrue tells → shown shape late' is_dead new.content.bytes ≡ applied (drop n parts) before
      now_bytes told = alive_shown shape late' is_dead new.content.bytes alive ∙ committed told ∙ (λ i. applied (drop n (its_parts i)) (sym (alive_shown shape late is_dead old.content.bytes alive) i))

      pub commit_done : new.faults ≡ old.faults → n ≡ 0 → now.is_live ≡ false → (let done : Result (Unit {0}) EawFault = Ok tt in face.Does tells (Opens shape) (commit t) (view_of old shape logs late is_dead) (view_of new shape (slice_set logs at now) late' is_dead) done)
      commit_done same none free = subst (λ (k : ℕ). let done : Result (Unit {0}) EawFault = Ok tt in face.Does tells (Opens shape) (commit t) (view_of old shape logs late is_dead) (view_of new shape (slice_set logs k now) late' is_dead) done) (sym is)
          (done tells (Opens shape) (commit t) (view_of old shape logs late is_dead) (view_of new shape (slice_set logs t now) late' is_dead) refl depth does.does.device (refl, λ alive. refl) does.does.cause.later
          (λ told fine. subst (λ (k : ℕ). LeavesOnly (face.IsEither (Opens shape) before (applied (drop k parts) before)) old new) none (time told)) tt same alive live tt
          (record {
            alive = alive;
            ranges = freed_ranges tells old new shape logs late late' is_dead sound t log found does.does.size cells now kept n items free;
            state = λ told.
                let bytes = now_bytes told ∙ ap (λ (k : ℕ). applied (drop k parts) before) none in
                let freed = freed_logs tells old new shape logs late late' is_dead sound t log found does.does.size cells now kept n items free told in
                λ i. record { bytes = bytes i; logs = freed i };
          }))

      pub nested_done : new.faults ≡ old.faults → (offset : ℕ) → n ≡ offset → now.is_live ≡ true → (let done : Result (Unit {0}) EawFault = Ok tt in face.Does tells (Opens shape) (nested_top t offset) (view_of old shape logs late is_dead) (view_of new shape (slice_set logs at now) late' is_dead) done)
      nested_done kept' offset same live' = subst (λ (k : ℕ). let done : Result (Unit {0}) EawFault = Ok tt in face.Does tells (Opens shape) (nested_top t k) (view_of old shape logs late is_dead) (view_of new shape (slice_set logs at now) late' is_dead) done) same
          (subst (λ (k : ℕ). let done : Result (Unit {0}) EawFault = Ok tt in face.Does tells (Opens shape) (nested_top t n) (view_of old shape logs late is_dead) (view_of new shape (slice_set logs k now) late' is_dead) done) (sym is)
          (done tells (Opens shape) (nested_top t n) (view_of old shape logs late is_dead) (view_of new shape (slice_set logs t now) late' is_dead) refl depth does.does.device (refl, λ alive. refl) does.does.cause.later
          (λ told fine. time told) tt kept' alive live tt
          (record {
            alive = alive;
            ranges = cut_ranges tells old new shape logs late late' is_dead sound t log found does.does.size cells now kept n items live';
            state = λ told.
                let bytes = now_bytes told in
                let cut = cut_logs tells old new shape logs late late' is_dead sound t log found does.does.size cells now kept n items live' told in
                λ i. record { bytes = bytes i; logs = cut i };
          })))

-- no call of the medium is made
module _ (tells : Bool) (media : View) (shape : Shape) (logs : List Log) (late : LateData) (is_dead : Bool) (sound : IsSound tells media shape logs late is_dead) (alive : is_dead ≡ false) (t : ℕ) (live : IsLive (view_of media shape logs late is_dead) t)
    (log : Log) (found : Found tells media shape logs late is_dead t log) (now : Log) (kept : IsKept shape now) (n : ℕ) (items : now.entries.items ≡ take n log.entries.items) (at : ℕ) (is : at ≡ t) where
  cells : IsTrue tells → SameCells shape media.content.bytes media.content.bytes
  cells told g u e lt below inside = refl

  pub abort_sound : IsSound tells media shape (slice_set logs at now) late is_dead
  abort_sound = subst (λ (k : ℕ). IsSound tells media shape (slice_set logs k now) late is_dead) (sym is)
      (cut_sound tells media media shape logs late late is_dead sound t log found refl cells now kept n items sound.ready (λ fine. order_first shape late logs t n log now found.there found.below found.kept kept items (sound.in_order fine)) (λ told fine. (found.told told).sure) (λ told fine. (found.told told).shown))

  pub abort_done : now.is_live ≡ false → (let done : Result (Unit {0}) EawFault = Ok tt in face.Does tells (Opens shape) (abort t) (view_of media shape logs late is_dead) (view_of media shape (slice_set logs at now) late is_dead) done)
  abort_done free = subst (λ (k : ℕ). let done : Result (Unit {0}) EawFault = Ok tt in face.Does tells (Opens shape) (abort t) (view_of media shape logs late is_dead) (view_of media shape (slice_set logs k now) late is_dead) done) (sym is)
      (done tells (Opens shape) (abort t) (view_of media shape logs late is_dead) (view_of media shape (slice_set logs t now) late is_dead) refl refl refl (refl, λ alive. refl) (omega arith)
      (λ told fine. stays media.moment media.left_since (face.IsEither (Opens shape) (shown shape late is_dead media.content.bytes) (shown shape late is_dead media.content.bytes))) tt refl alive live tt
      (record {
        alive = alive;
        ranges = freed_ranges tells media media shape logs late late is_dead sound t log found refl cells now kept n items free;
        state = λ told. let freed = freed_logs tells media media shape logs late late is_dead sound t log found refl cells now kept n items free told in
            λ i. record { bytes = shown shape late is_dead media.content.bytes; logs = freed i };
      }))

  pub partial_done : now.is_live ≡ true → (let done : Result (Unit {0}) EawFault = Ok tt in face.Does tells (Opens shape) (partial_abort t n) (view_of media shape logs late is_dead) (view_of media shape (slice_set logs at now) late is_dead) done)
  partial_done live' = subst (λ (k : ℕ). let done : Result (Unit {0}) EawFault = Ok tt in face.Does tells (Opens shape) (partial_abort t n) (view_of media shape logs late is_dead) (view_of media shape (slice_set logs k now) late is_dead) done) (sym is)
      (done tells (Opens shape) (partial_abort t n) (view_of media shape logs late is_dead) (view_of media shape (slice_set logs t now) late is_dead) refl refl refl (refl, λ alive. refl) (omega arith)
      (λ told fine. stays media.moment media.left_since (face.IsEither (Opens shape) (shown shape late is_dead media.content.bytes) (shown shape late is_dead media.content.bytes))) tt refl alive live tt
      (record {
        alive = alive;
        ranges = cut_ranges tells media media shape logs late late is_dead sound t log found refl cells now kept n items live';
        state = λ told. let cut = cut_logs tells media media shape logs late late is_dead sound t log found refl cells now kept n items live' told in
            λ i. record { bytes = shown shape late is_dead media.content.bytes; logs = cut i };
      }))
