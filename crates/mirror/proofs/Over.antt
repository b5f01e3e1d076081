-- What a command does of a store, it does of the store that has sent something.
use Rattle.std.proofs.Common.{◌≡◌, ℕ, ◌+◌, ◌≤◌, inl, inr, Bool, true, List, [], ◌∷◌, Result, Ok, Err}
use Rattle.std.specs.Prelude.{Option, Some, None, OnOk, OnErr}
use Rattle.std.proofs.lemmas.Result.{on_ok_weaker}
use Rattle.mars_base.specs.Check.{test, each}
use Rattle.eaw_face.specs.Sending.{Sending}
use Rattle.eaw_face.specs.StoreView.{StoreView, IsLive}
use Rattle.eaw_face.specs.Command.{Command, log_write, log_edit, commit, commit_group, abort, nested_top, partial_abort, atomic_write, log_read, read}
use Rattle.eaw_face.specs.Causes.{Cause, known, room_for}
use Rattle.eaw_face.specs.Mirroring.{Mirrors}
use Rattle.eaw_face.specs.Due.{SendsDue}
use Rattle.eaw_face.specs.Does.{Does}
use Rattle.eaw_face.specs.declared.fault.EawFault.{EawFault}
use Rattle.eaw_face.specs.declared.fault.EawFault.TheVariants.{UnknownTid, LogFull, Media, Dead}
use Rattle.mirror.specs.Mirroring.{over}

module _ (store : StoreView) (sending : Sending) where
  pub live_over : (t : ℕ) → IsLive store t → IsLive (over store sending) t
  live_over t live = record { small = live.small; live = live.live }

  pub live_under : (t : ℕ) → IsLive (over store sending) t → IsLive store t
  live_under t live = record { small = live.small; live = live.live }

  test_over : (t : ℕ) (verdict : Option ℕ) → test (IsLive store t) t verdict → test (IsLive (over store sending) t) t verdict
  test_over t None live = live_over t live
  test_over t (Some u) not = (λ live. not.0 (live_under t live), not.1)

  each_over : (ts : List ℕ) (verdict : Option ℕ) → each (λ t. test (IsLive store t) t) ts verdict → each (λ t. test (IsLive (over store sending) t) t) ts verdict
  each_over [] verdict known = known
  each_over (t ∷ ts) None known = (test_over t None known.0, each_over ts None known.1)
  each_over (t ∷ ts) (Some u) (inl first) = inl (test_over t (Some u) first)
  each_over (t ∷ ts) (Some u) (inr later) = inr (test_over t None later.0, each_over ts (Some u) later.1)

  known_over : (command : Command) (verdict : Option ℕ) → known store command verdict → known (over store sending) command verdict
  known_over (log_write t addr bytes) verdict knows = knows
  known_over (log_edit t pos at bytes) verdict knows = test_over t verdict knows
  known_over (commit t) verdict knows = test_over t verdict knows
  known_over (commit_group ts) verdict knows = each_over ts verdict knows
  known_over (abort t) verdict knows = test_over t verdict knows
  known_over (nested_top t offset) verdict knows = test_over t verdict knows
  known_over (partial_abort t offset) verdict knows = test_over t verdict knows
  known_over (atomic_write t addr bytes) verdict knows = knows
  known_over (log_read t) verdict knows = test_over t verdict knows
  known_over (read addr len) verdict knows = knows

  room_over : (command : Command) (verdict : Option (ℕ × ℕ × ℕ)) → room_for store command verdict → room_for (over store sending) command verdict
  room_over (log_write t addr bytes) verdict room = room
  room_over (log_edit t pos at bytes) verdict room = room
  room_over (commit t) verdict room = room
  room_over (commit_group ts) verdict room = room
  room_over (abort t) verdict room = room
  room_over (nested_top t offset) verdict room = room
  room_over (partial_abort t offset) verdict room = room
  room_over (atomic_write t addr bytes) verdict room = room
  room_over (log_read t) verdict room = room
  room_over (read addr len) verdict room = room

  cause_over : {T : Type 0} (command : Command) (faults : ℕ) (r : Result T EawFault) → Cause store command faults r → Cause (over store sending) command faults r
  cause_over command faults (Ok x) cause = (cause.0, known_over command None cause.1, room_over command None cause.2)
  cause_over command faults (Err Dead) cause = cause
  cause_over command faults (Err (UnknownTid u)) cause = (cause.0, known_over command (Some u) cause.1)
  cause_over command faults (Err (LogFull g h n)) cause = (cause.0, known_over command None cause.1, room_over command (Some (g, h, n)) cause.2)
  cause_over command faults (Err Media) cause = (cause.0, known_over command None cause.1, room_over command None cause.2, cause.3)

-- a command of the store below is that command of a primary, if it sent what it wrote
pub does_over : {T : Type 0} (tells : Bool) (Opens : List ℕ → List ℕ → Type 0) (command : Command) (old new : StoreView) (before after : Sending) (r : Result T EawFault)
    → Does tells Opens command old new r → (m : Mirrors tells (over old before) (over new after)) → after.sent ≤ before.sent + 1
    → OnOk r (before.mirrors ≡ true → SendsDue tells command m.added (over old before) (over new after)) → OnErr r (after ≡ before) → Does tells Opens command (over old before) (over new after) r
does_over tells Opens command old new before after r does mirrors one sends refused = record {
  shape = does.shape;
  depth = does.depth;
  later = does.later;
  cause = cause_over old before command new.faults r does.cause;
  done = on_ok_weaker r (λ becomes. record { alive = becomes.alive; ranges = becomes.ranges; state = becomes.state }) does.done;
  kept = does.kept;
  dies = does.dies;
  others = does.others;
  time = does.time;
  mirrors = mirrors;
  one = one;
  sends = sends;
  refused = refused;
}
