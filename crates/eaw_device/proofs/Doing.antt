-- What a command does, from what its calls do.
use Rattle.std.proofs.Common.{◌≡◌, ℕ, ◌+◌, ◌<◌, ◌≤◌, Bool, true, false, List, length, get_or, Result, Ok, Err, refl, sym, ◌∙◌, ap, subst, arith}
use Rattle.std.specs.Prelude.{None, IsTrue, OnOk, OnErr, IsErrAnd, is_err, slice_get, Some}
use Rattle.std.proofs.lemmas.Bool.{false≢true}
use Rattle.mars_base.specs.Causes.{Rose}
use Rattle.pcm_media.specs.View.{View}
use Rattle.array_shape.specs.declared.shape.Shape.{Shape}
use Rattle.eaw_face.specs.State.{Logs}
use Rattle.eaw_face.specs.StoreView.{StoreView, IsLive, LeavesOnly}
use Rattle.eaw_face.specs.Command.{commit_group, Command, after}
use Rattle.eaw_face.specs.Causes.{IsAlive, known, IsNumberOf, room_for, Cause}
use Rattle.eaw_face.proofs.Others.{others_after}
use Rattle.eaw_face.proofs.Mirroring.{none_sent}
use Rattle.eaw_face.proofs.Refusing.{refused}
use Rattle.eaw_face.specs.Sending.{Sending}
use Rattle.eaw_face.specs.Mirroring.{Mirrors}
use Rattle.eaw_face.specs.Does.{Becomes, IsEither, Does}
use Rattle.eaw_face.specs.declared.fault.EawFault.{EawFault}
use Rattle.eaw_face.specs.declared.fault.EawFault.TheVariants.{UnknownTid, LogFull, Media, Dead}
use Rattle.eaw_device.specs.declared.log.Log.{Log}
use Rattle.write_back.specs.declared.commits.LateData.{LateData}
use Rattle.eaw_device.specs.Logs.{IsKept, IsHeld}
use Rattle.eaw_device.specs.Sound.{IsSound, IsTold, LacksLog, LacksGroup, view_of}
use Rattle.eaw_device.proofs.Tables.{found_log, live_there}

module _ (tells : Bool) (Opens : List ℕ → List ℕ → Type 0) (command : Command) (old new : StoreView) (shape : new.shape ≡ old.shape) (depth : new.depth ≡ old.depth) (device : new.device ≡ old.device) (still : (new.sending ≡ old.sending) × (new.is_dead ≡ false → old.sending.mirrors ≡ false)) (later : old.faults ≤ new.faults)
    (time : IsTrue tells → old.is_dead ≡ false → LeavesOnly (IsEither Opens old.state.bytes (after command old.state).bytes) old new) where
  -- nothing was sent
  mirrors : IsAlive old → Mirrors tells old new
  mirrors alive = none_sent tells old new shape depth device still.0 (λ _. alive) (λ told mirrors fine. absurd (false≢true (sym (still.1 fine) ∙ mirrors)))

  sent : new.sending.sent ≤ old.sending.sent + 1
  sent = omega (arith, ap (λ (s : Sending). s.sent) still.0)

  -- a command that is done
  pub done : {T : Type 0} (x : T) → new.faults ≡ old.faults → IsAlive old → known old command None → room_for old command None → Becomes tells command old new → (let r : Result T EawFault = Ok x in Does tells Opens command old new r)
  done x kept alive knows room becomes = record {
    shape = shape;
    depth = depth;
    later = later;
    cause = (alive, knows, room);
    done = becomes;
    kept = kept;
    dies = λ is. cc;
    others = λ u other. ap (λ (ranges : Logs (ℕ × ℕ)). ranges u) becomes.ranges ∙ others_after command old.ranges u other;
    time = time;
    mirrors = mirrors alive;
    one = sent;
    sends = λ mirrors. absurd (false≢true (sym (still.1 becomes.alive) ∙ mirrors));
    refused = tt;
  }

  -- a command in which the medium failed
  pub failed : {T : Type 0} → IsAlive old → known old command None → room_for old command None → Rose old.faults new.faults → new.is_dead ≡ true → ((u : ℕ) → (IsNumberOf command u → ⊥) → new.ranges u ≡ old.ranges u) → (let r : Result T EawFault = Err Media in Does tells Opens command old new r)
  failed alive knows room rose dead others = record {
    shape = shape;
    depth = depth;
    later = later;
    cause = (alive, knows, room, rose);
    done = tt;
    kept = tt;
    dies = λ is. dead;
    others = others;
    time = time;
    mirrors = mirrors alive;
    one = sent;
    sends = tt;
    refused = still.0;
  }

-- a command on a number that has no log
pub lacking : {T : Type 0} (tells : Bool) (Opens : List ℕ → List ℕ → Type 0) (command : Command) (store : StoreView) (t : ℕ) → ((u : ℕ) → (IsLive store t → ⊥) → u ≡ t → known store command (Some u))
    → (fault : EawFault) → LacksLog store t fault → (let r : Result T EawFault = Err fault in Does tells Opens command store store r)
lacking {T} tells Opens command store t unknown (UnknownTid u) lacks = refused {T = T} tells Opens command store (UnknownTid u) (lacks.0, unknown u lacks.1 lacks.2) (λ is. cc) (Err (UnknownTid u)) refl
lacking {T} tells Opens command store t unknown Dead lacks = refused {T = T} tells Opens command store Dead lacks (λ is. cc) (Err Dead) refl
lacking {T} tells Opens command store t unknown Media lacks = absurd lacks
lacking {T} tells Opens command store t unknown (LogFull g h n) lacks = absurd lacks

pub lacking_other : (store : StoreView) (t : ℕ) (fault : EawFault) → LacksLog store t fault → fault ≡ Media → ⊥
lacking_other store t (UnknownTid u) lacks is = cc
lacking_other store t Dead lacks is = cc
lacking_other store t Media lacks is = lacks
lacking_other store t (LogFull g h n) lacks is = lacks

pub when_ok : {T E P : Type 0} (r : Result T E) → is_err r ≡ false → OnOk r P → P
when_ok (Ok x) fine p = p
when_ok (Err e) fine p = absurd (false≢true (sym fine))

pub when_err : {T E P : Type 0} (r : Result T E) → is_err r ≡ true → OnErr r P → P
when_err (Ok x) broke p = absurd (false≢true broke)
when_err (Err e) broke p = p

-- the log of a live number, as it was found
pub record Found (tells : Bool) (media : View) (shape : Shape) (logs : List Log) (late : LateData) (is_dead : Bool) (t : ℕ) (log : Log) : Type 0 where
  pub small : t < shape.numbers
  pub below : t < length logs
  pub there : slice_get logs t ≡ Some log
  pub kept : IsKept shape log
  pub live : log.is_live ≡ true
  pub told : IsTrue tells → IsTold shape late media.content logs
  pub held : IsTrue tells → IsHeld shape media.content.bytes t log

pub found : (tells : Bool) (media : View) (shape : Shape) (logs : List Log) (late : LateData) (is_dead : Bool) → IsSound tells media shape logs late is_dead → is_dead ≡ false → (t at : ℕ) (log : Log) → at ≡ t → IsLive (view_of media shape logs late is_dead) t
    → log ≡ get_or logs at log → Found tells media shape logs late is_dead t log
found tells media shape logs late is_dead sound alive t at log is live got =
    let below : t < length logs = omega (arith, live.small, sound.many) in
    let there = found_log logs at t log is below got in
    record {
      small = live.small;
      below = below;
      there = there;
      kept = sound.kept t log there;
      live = live_there logs t log there live.live;
      told = λ told. sound.told told alive;
      held = λ told. (sound.told told alive).held t log there;
    }

-- two look-ups of a log give the same
pub one_log : (logs : List Log) (t : ℕ) (a b : Log) → slice_get logs t ≡ Some a → slice_get logs t ≡ Some b → a ≡ b
one_log logs t a b one two = by (sym one ∙ two)
  where
    by : Some a ≡ Some b → a ≡ b
    by is = cc

-- a commit of numbers of which one has no log
pub lacking_group : {T : Type 0} (tells : Bool) (Opens : List ℕ → List ℕ → Type 0) (store : StoreView) (ts : List ℕ) (fault : EawFault) → LacksGroup store ts fault → (let r : Result T EawFault = Err fault in Does tells Opens (commit_group ts) store store r)
lacking_group {T} tells Opens store ts (UnknownTid u) lacks = refused {T = T} tells Opens (commit_group ts) store (UnknownTid u) lacks (λ is. cc) (Err (UnknownTid u)) refl
lacking_group {T} tells Opens store ts Dead lacks = refused {T = T} tells Opens (commit_group ts) store Dead lacks (λ is. cc) (Err Dead) refl
lacking_group {T} tells Opens store ts Media lacks = absurd lacks
lacking_group {T} tells Opens store ts (LogFull g h n) lacks = absurd lacks

pub lacking_group_other : (store : StoreView) (ts : List ℕ) (fault : EawFault) → LacksGroup store ts fault → fault ≡ Media → ⊥
lacking_group_other store ts (UnknownTid u) lacks is = cc
lacking_group_other store ts Dead lacks is = cc
lacking_group_other store ts Media lacks is = lacks
lacking_group_other store ts (LogFull g h n) lacks is = lacks
