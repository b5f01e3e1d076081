-- A device of which some commits that wait are written back, and a command after that.
use Rattle.std.proofs.Common.{◌≡◌, ℕ, ◌<◌, ◌≤◌, Bool, true, false, inl, inr, List, drop, length, Result, Ok, Err, refl, sym, ◌∙◌, ap, subst, arith}
use Rattle.std.specs.Prelude.{IfErr, IsTrue, OnOk, Option, Some, slice_get, slice_index, None}
use Rattle.std.proofs.lemmas.Bool.{cases_Bool, false≢true}
use Rattle.std.proofs.lemmas.Option.{slice_get_within}
use Rattle.std.proofs.lemmas.Result.{on_ok_weaker, on_err_weaker}
use Rattle.mars_base.specs.Causes.{Rose}
use Rattle.mars_base.specs.Check.{test}
use Rattle.mars_base.proofs.Going.{then, weaker}
use Rattle.pcm_media.specs.View.{View}
use Rattle.array_shape.specs.declared.shape.Shape.{Shape}
use Rattle.array_shape.specs.Logged.{ranges_of}
use Rattle.array_shape.specs.Parts.{parts_of_write}
use Rattle.array_shape.specs.Places.{media_len}
use Rattle.array_image.specs.Image.{cell_of}
use Rattle.row_bytes.specs.declared.ballot.Ballot.{Ballot}
use Rattle.write_back.specs.Turns.{has_some}
use Rattle.write_back.specs.Steps.{WritesBack}
use Rattle.write_back.specs.declared.commits.LateData.{LateData}
use Rattle.write_back.specs.Tied.{IsTied, Stays}
use Rattle.write_back.proofs.Tying.{lacks_drop}
use Rattle.eaw_face.specs.State.{Logs, State, listed}
use Rattle.eaw_face.specs.StoreView.{StoreView, LeavesOnly}
use Rattle.eaw_face.specs.Command.{Command, after, log_write, ranges_after}
use Rattle.eaw_face.specs.Causes.{Cause, IsAlive, fit, known, room_for}
use Rattle.eaw_face.specs.Does.{Does, IsEither}
use Rattle.eaw_face.specs.Sending.{Sending}
use Rattle.eaw_face.proofs.Mirroring.{none_sent, none_due, sent_then}
use Rattle.eaw_face.specs.declared.fault.EawFault.{EawFault}
use Rattle.eaw_face.specs.declared.fault.EawFault.TheVariants.{Dead, LogFull, Media, UnknownTid}
use Rattle.eaw_device.specs.declared.log.Log.{Log}
use Rattle.eaw_device.specs.Laws.{alive_shown}
use Rattle.eaw_device.specs.Opens.{Opens}
use Rattle.eaw_device.specs.Sound.{IsSound, shown, view_of}
use Rattle.eaw_device.specs.Steps.{IsQuiet}
use Rattle.coordinator.specs.declared.cells.Cells.{Cells}
use Rattle.coordinator.specs.Commits.{cells_in}
use Rattle.write_back.specs.Waiting.{AreWaiting, data_with}
use Rattle.eaw_device.proofs.Sure.{back_time, commit_sure}
use Rattle.eaw_device.proofs.Doing.{failed}
use Rattle.eaw_device.proofs.Tables.{held_kept, others_kept}

-- a command after a quiet step is that command, where its cause stood before the step too
pub quiet_then : {T : Type 0} (tells : Bool) (Opens : List ℕ → List ℕ → Type 0) (command : Command) (old mid new : StoreView) (x : Unit {0}) → IsAlive old → old.sending.mirrors ≡ false → (let ok : Result (Unit {0}) EawFault = Ok x in IsQuiet tells Opens old mid ok)
    → (r : Result T EawFault) → Cause old command new.faults r → Does tells Opens command mid new r → Does tells Opens command old new r
quiet_then tells Opens command old mid new x was_alive none quiet r cause does = record {
  shape = does.shape ∙ quiet.shape;
  depth = does.depth ∙ quiet.depth;
  later = omega (arith, quiet.later, does.later);
  cause = cause;
  done = on_ok_weaker r (λ becomes. record {
    alive = becomes.alive;
    ranges = becomes.ranges ∙ ap (ranges_after command) quiet.ranges;
    state = λ told. becomes.state told ∙ ap (after command) (quiet.state told);
  }) does.done;
  kept = on_ok_weaker r (λ same. same ∙ quiet.kept) does.kept;
  dies = does.dies;
  others = λ u other. does.others u other ∙ ap (λ ranges. ranges u) quiet.ranges;
  time = λ told alive.
      then (weaker (λ image opens. inl opens) (quiet.time told))
      (subst (λ (s : State). LeavesOnly (IsEither Opens s.bytes (after command s).bytes) mid new) (quiet.state told) (does.time told quiet.alive));
  mirrors = sent_then tells old mid new (none_sent tells old mid quiet.shape quiet.depth quiet.device quiet.sending (λ _. was_alive) (λ told mirrors alive. ap (λ (s : State). s.bytes) (quiet.state told))) does.mirrors;
  one = omega (arith, does.one, ap (λ (s : Sending). s.sent) quiet.sending);
  sends = none_due tells command _ old new r none;
  refused = on_err_weaker r (λ same. same ∙ quiet.sending) does.refused;
}

-- a command of which that step fails
pub quiet_fails : {T : Type 0} (tells : Bool) (Opens : List ℕ → List ℕ → Type 0) (command : Command) (old new : StoreView) (fault : EawFault) → (let bad : Result (Unit {0}) EawFault = Err fault in IsQuiet tells Opens old new bad)
    → IsAlive old → known old command None → room_for old command None → (let r : Result T EawFault = Err Media in Does tells Opens command old new r)
quiet_fails {T} tells Opens command old new fault quiet alive knows room = failed tells Opens command old new quiet.shape quiet.depth quiet.device (quiet.sending, λ fine. absurd (false≢true (sym fine ∙ quiet.failed.1))) quiet.later (λ told fine. weaker (λ image opens. inl opens) (quiet.time told)) {T = T}
    alive knows room quiet.failed.2 quiet.failed.1 (λ u other. ap (λ ranges. ranges u) quiet.ranges)

-- a write into a log after a quiet step is that write: what it asks for stood before the step too
pub quiet_write : {T : Type 0} (tells : Bool) (Opens : Shape → List ℕ → List ℕ → Type 0) (t addr : ℕ) (bytes : List ℕ) (old mid new : StoreView) → IsAlive old → old.sending.mirrors ≡ false → (x : Unit {0}) → (let ok : Result (Unit {0}) EawFault = Ok x in IsQuiet tells (Opens old.shape) old mid ok)
    → (r : Result T EawFault) → Does tells (Opens mid.shape) (log_write t addr bytes) mid new r → Does tells (Opens old.shape) (log_write t addr bytes) old new r
quiet_write {T} tells Opens t addr bytes old mid new alive none x quiet r does =
    quiet_then tells (Opens old.shape) (log_write t addr bytes) old mid new x alive none quiet r (cause_before r does.cause) (subst (λ (s : Shape). Does tells (Opens s) (log_write t addr bytes) mid new r) quiet.shape does)
  where
    known_before : (u : Option ℕ) → known mid (log_write t addr bytes) u → known old (log_write t addr bytes) u
    known_before u knows = subst (λ (s : Shape). test (t < s.numbers) t u) quiet.shape knows

    room_before : (full : Option (ℕ × ℕ × ℕ)) → room_for mid (log_write t addr bytes) full → room_for old (log_write t addr bytes) full
    room_before full room = subst (λ (p : Shape × Logs (ℕ × ℕ)). fit p.0 (listed (p.1 t)) (ranges_of (parts_of_write addr bytes)) full) (λ i. (quiet.shape i, quiet.ranges i)) room

    cause_before : (r : Result T EawFault) → Cause mid (log_write t addr bytes) new.faults r → Cause old (log_write t addr bytes) new.faults r
    cause_before (Ok y) cause = (alive, known_before None cause.1, room_before None cause.2)
    cause_before (Err (UnknownTid u)) cause = (alive, known_before (Some u) cause.1)
    cause_before (Err (LogFull g h n)) cause = (alive, known_before None cause.1, room_before (Some (g, h, n)) cause.2)
    cause_before (Err Media) cause = (alive, known_before None cause.1, room_before None cause.2, omega (arith, quiet.later, cause.3))
    cause_before (Err Dead) cause = absurd (false≢true (sym quiet.alive ∙ cause))

-- some commits are written back
module _ (tells : Bool) (old new : View) (shape : Shape) (logs : List Log) (late late' : LateData) (is_dead : Bool) (sound : IsSound tells old shape logs late is_dead) (alive : is_dead ≡ false) {T E : Type 0} (some : ℕ) (r : Result T E)
    (back : WritesBack tells shape some late.queue old late'.queue new r) (stays : Stays tells shape late old late' new) (long : IsTrue tells → length old.content.bytes ≡ media_len shape) where
  same : IsTrue tells → (u : ℕ) (l : Log) → slice_get logs u ≡ Some l → (g e : ℕ) → g < shape.loggers → e < slice_index l.held g → cell_of shape new.content.bytes g u e ≡ cell_of shape old.content.bytes g u e
  same told u l is g e lt below =
      let fits = (sound.kept u l is).fits g lt in
      let small = slice_get_within logs u l is in
      back.cells told g u e lt (omega (arith, sound.many)) (omega arith)

  moments : IsTrue tells → LeavesOnly (λ (image : List ℕ). Opens shape image (shown shape late is_dead old.content.bytes)) (view_of old shape logs late is_dead) (view_of new shape logs late' is_dead)
  moments told =
      subst (λ (d : List ℕ). LeavesOnly (λ (image : List ℕ). Opens shape image d) (view_of old shape logs late is_dead) (view_of new shape logs late' is_dead)) (sym (alive_shown shape late is_dead old.content.bytes alive))
      (back_time tells shape late.queue old new r back.does told (long told) (sound.told told alive).sure (data_with shape late.queue old.content.bytes) (back.any_moment told))

  pub back_sound : IsTied shape late' (λ t. false) → (IsTrue tells → AreWaiting shape late'.queue new.content) → late'.queue.ballots.items ≡ drop some late.queue.ballots.items → IsSound tells new shape logs late' is_dead
  back_sound tied waiting left = record {
    shaped = sound.shaped;
    sized = back.does.does.size ∙ sound.sized;
    many = sound.many;
    kept = sound.kept;
    ready = stays.ready;
    in_order = λ fine. record {
      tied = tied;
      before = λ t log got so g lt.
          let had : has_some late.queue.ballots.items t ≡ true = elim (cases_Bool (has_some late.queue.ballots.items t)) [
            | inl on ↦ on
            | inr off ↦ absurd (false≢true (sym (ap (λ (bs : List Ballot). has_some bs t) left ∙ lacks_drop some late.queue.ballots.items t off) ∙ so))
          ] in
          subst (λ (cells : List Cells). slice_index log.held g ≤ (cells_in cells g t).first) (sym back.table) ((sound.in_order fine).before t log got had g lt);
    };
    told = λ told fine. record {
      sure = commit_sure tells shape late.queue old new r back.does told (long told) (sound.told told alive).sure late'.queue (waiting told);
      shown = stays.held told (sound.told told fine).shown;
      held = λ u l got. held_kept shape old.content.bytes new.content.bytes u l (sound.kept u l got) (same told u l got) ((sound.told told fine).held u l got);
    };
  }

  quiet_so : (dead : Bool) (answer : Result (Unit {0}) EawFault) → OnOk answer (new.faults ≡ old.faults) → OnOk answer (dead ≡ false)
      → (IsTrue tells → OnOk answer ((view_of new shape logs late' dead).state ≡ (view_of old shape logs late is_dead).state))
      → IfErr answer (λ fault. (fault ≡ Media) × (dead ≡ true) × Rose old.faults new.faults)
      → IsQuiet tells (Opens shape) (view_of old shape logs late is_dead) (view_of new shape logs late' dead) answer
  quiet_so dead answer kept alive' state failed = record {
    shape = refl;
    depth = back.depth;
    device = back.does.does.device;
    ranges = refl;
    sending = refl;
    later = back.does.does.cause.later;
    kept = kept;
    alive = alive';
    state = state;
    failed = failed;
    time = moments;
  }

  pub quiet_done : new.faults ≡ old.faults → (IsTrue tells → data_with shape late'.queue new.content.bytes ≡ data_with shape late.queue old.content.bytes)
      → (let ok : Result (Unit {0}) EawFault = Ok tt in IsQuiet tells (Opens shape) (view_of old shape logs late is_dead) (view_of new shape logs late' is_dead) ok)
  quiet_done kept whole = quiet_so is_dead (Ok tt) kept alive (λ told.
      let bytes = alive_shown shape late' is_dead new.content.bytes alive ∙ whole told ∙ sym (alive_shown shape late is_dead old.content.bytes alive) in
      let logs_same = λ (u : ℕ). others_kept shape logs old.content.bytes new.content.bytes u (sound.kept u) (same told u) in
      λ i. record { bytes = bytes i; logs = λ u. logs_same u i }) tt

  pub quiet_failed : Rose old.faults new.faults → (let failed : Result (Unit {0}) EawFault = Err Media in IsQuiet tells (Opens shape) (view_of old shape logs late is_dead) (view_of new shape logs late' true) failed)
  quiet_failed rose = quiet_so true (Err Media) tt tt (λ told. tt) (refl, refl, rose)
