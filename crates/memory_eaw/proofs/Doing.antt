-- A command that is done: what it makes of data and logs is what the model says.
use Rattle.std.proofs.Common.{◌≡◌, ℕ, ◌+◌, ◌<◌, ◌≤◌, Bool, true, false, cond, List, [], ◌++◌, length, set, take, Result, Ok, Err, refl, sym, ◌∙◌, ap, arith}
use Rattle.std.specs.Prelude.{Option, Some, None}
use Rattle.std.specs.Option.{option_map}
use Rattle.array_shape.specs.Parts.{parts_of_write}
use Rattle.array_shape.specs.Logged.{Part, ranges_of}
use Rattle.eaw_face.specs.State.{Logs, State, listed, with_log, edited, range_at}
use Rattle.eaw_face.specs.StoreView.{StoreView, LeavesOnly, log_len}
use Rattle.eaw_face.specs.Command.{Command, log_write, log_edit, after, ranges_after}
use Rattle.eaw_face.specs.Causes.{IsAlive, known, room_for, Cause}
use Rattle.eaw_face.specs.Does.{Becomes, Does, IsEither}
use Rattle.eaw_face.specs.declared.fault.EawFault.{EawFault}
use Rattle.eaw_face.specs.declared.fault.EawFault.TheVariants.{Media}
use Rattle.eaw_face.proofs.Others.{others_after}
use Rattle.eaw_face.proofs.Mirroring.{none_sent}
use Rattle.std.proofs.lemmas.Bool.{false≢true}
use Rattle.mirror.specs.Log.{Log}
use Rattle.memory_eaw.specs.Log.{log_of, logged, outline}
use Rattle.memory_eaw.specs.Plain.{Plain, IsData, view_of, IsSound}
use Rattle.mirror.specs.Log.{log_at}
use Rattle.mirror.proofs.Parts.{length-ranges_of, ranges_of-append, ranges_of-take, ranges_of-edited}
use Rattle.memory_eaw.proofs.Views.{logged-at, logged-set, outline-with, with_log-same, listed-map, parts_are, ranges_are}

-- the answer to a command that was done
abbrev pub answer : {T : Type 0} → T → Result T EawFault
answer x = Ok x

abbrev pub done : Result (Unit {0}) EawFault
done = Ok tt

-- a command may be done
abbrev pub May : StoreView → Command → Type 0
May store command = IsAlive store × known store command None × room_for store command None

pub does_done : {T : Type 0} (x : T) (old new : Plain) (command : Command) → May (view_of old) command → new.shape ≡ old.shape → new.kept.faults ≡ old.kept.faults → Becomes true command (view_of old) (view_of new)
    → LeavesOnly (IsEither IsData old.bytes (after command (view_of old).state).bytes) (view_of old) (view_of new) → Does true IsData command (view_of old) (view_of new) (answer x)
does_done x old new command may shape faults becomes time = record {
  shape = shape;
  depth = refl;
  later = omega (arith, faults);
  cause = may;
  done = becomes;
  kept = faults;
  dies = λ is. absurd (cc is);
  others = λ u other. ap (λ (ranges : Logs (ℕ × ℕ)). ranges u) becomes.ranges ∙ others_after command (view_of old).ranges u other;
  time = λ told alive. time;
  mirrors = none_sent true (view_of old) (view_of new) shape refl refl refl (λ _. may.0) (λ told mirrors alive. absurd (false≢true mirrors));
  one = omega arith;
  sends = λ mirrors. absurd (false≢true mirrors);
  refused = tt;
}

-- data and logs are as they were
pub becomes_same : (old new : Plain) (command : Command) → new.is_dead ≡ false → new.bytes ≡ old.bytes → new.logs ≡ old.logs → ranges_after command (view_of old).ranges ≡ (view_of old).ranges → after command (view_of old).state ≡ (view_of old).state
    → Becomes true command (view_of old) (view_of new)
becomes_same old new command alive bytes logs ranges state = record {
  alive = alive;
  ranges = ap (λ (ls : List Log). outline (logged ls)) logs ∙ sym ranges;
  state = λ told. (λ i. record { bytes = bytes i; logs = logged (logs i) }) ∙ sym state;
}

module _ (old : Plain) (sound : IsSound old) (t : ℕ) (lt : t < old.shape.numbers) where
  within : t < length old.logs
  within = omega (arith, sound.numbers)

  -- what number t has logged
  pub parts_is : listed (logged old.logs t) ≡ (log_at old.logs t).parts
  parts_is = parts_are old.shape old.logs sound.logs t within

  pub ranges_is : listed (outline (logged old.logs) t) ≡ ranges_of (log_at old.logs t).parts
  ranges_is = ranges_are old.shape old.logs sound.logs t within

  pub log_len_is : log_len (view_of old) t ≡ length (log_at old.logs t).parts
  log_len_is = ap length ranges_is ∙ length-ranges_of (log_at old.logs t).parts

  -- the log of number t is another, and the data may be too
  module _ (new : Plain) (log : Log) (X : Option (List Part)) (alive : new.is_dead ≡ false) (logs : new.logs ≡ set old.logs t log) (is : log_of log ≡ X) where
    logged_is : logged new.logs ≡ with_log (logged old.logs) t X
    logged_is = ap logged logs ∙ logged-set old.logs t log within ∙ ap (with_log (logged old.logs) t) is

    pub becomes_with : (command : Command) → ranges_after command (view_of old).ranges ≡ with_log (view_of old).ranges t (option_map ranges_of X) → after command (view_of old).state ≡ record { bytes = new.bytes; logs = with_log (logged old.logs) t X }
        → Becomes true command (view_of old) (view_of new)
    becomes_with command ranges state = record {
      alive = alive;
      ranges = ap outline logged_is ∙ outline-with (logged old.logs) t X ∙ sym ranges;
      state = λ told. ap (λ (ls : Logs Part). let s : State = record { bytes = new.bytes; logs = ls } in s) logged_is ∙ sym state;
    }

  live_log : (is_live : Bool) (parts : List Part) → is_live ≡ true → (parts' : List Part) → parts ≡ parts' → (let log : Log = record { is_live = is_live; parts = parts; room = (log_at old.logs t).room } in log_of log) ≡ Some parts'
  live_log is_live parts live parts' is = ap (λ (b : Bool). cond b (Some parts) None) live ∙ ap Some is

  log_is_some : (log_at old.logs t).is_live ≡ true → logged old.logs t ≡ Some (log_at old.logs t).parts
  log_is_some live = logged-at old.logs t within ∙ ap (λ (b : Bool). cond b (Some (log_at old.logs t).parts) None) live

  module _ (new : Plain) (alive : new.is_dead ≡ false) where
    pub becomes_written : (addr : ℕ) (bytes : List ℕ) → new.bytes ≡ old.bytes → new.logs ≡ set old.logs t (record { is_live = true; parts = (log_at old.logs t).parts ++ parts_of_write addr bytes; room = (log_at old.logs t).room })
        → Becomes true (log_write t addr bytes) (view_of old) (view_of new)
    becomes_written addr bytes same logs =
        becomes_with new (record { is_live = true; parts = (log_at old.logs t).parts ++ parts_of_write addr bytes; room = (log_at old.logs t).room }) (Some (listed (logged old.logs t) ++ parts_of_write addr bytes)) alive logs
        (live_log true ((log_at old.logs t).parts ++ parts_of_write addr bytes) refl (listed (logged old.logs t) ++ parts_of_write addr bytes) (ap (λ (ps : List Part). ps ++ parts_of_write addr bytes) (sym parts_is)))
        (log_write t addr bytes)
        (ap (λ (rs : List (ℕ × ℕ)). with_log (view_of old).ranges t (Some rs))
        (ap (λ (rs : List (ℕ × ℕ)). rs ++ ranges_of (parts_of_write addr bytes)) (listed-map (logged old.logs t)) ∙ sym (ranges_of-append (listed (logged old.logs t)) (parts_of_write addr bytes))))
        (ap (λ (bs : List ℕ). let s : State = record { bytes = bs; logs = with_log (logged old.logs) t (Some (listed (logged old.logs t) ++ parts_of_write addr bytes)) } in s) (sym same))

    pub becomes_freed : (command : Command) → new.logs ≡ set old.logs t (record { is_live = false; parts = []; room = (log_at old.logs t).room })
        → ranges_after command (view_of old).ranges ≡ with_log (view_of old).ranges t None → after command (view_of old).state ≡ record { bytes = new.bytes; logs = with_log (logged old.logs) t None } → Becomes true command (view_of old) (view_of new)
    becomes_freed command logs ranges state = becomes_with new (record { is_live = false; parts = []; room = (log_at old.logs t).room }) None alive logs refl command ranges state

    module _ (live : (log_at old.logs t).is_live ≡ true) where
      pub becomes_edited : (pos at : ℕ) (bytes : List ℕ) → at + length bytes ≤ (range_at (ranges_of (log_at old.logs t).parts) pos).1 → new.bytes ≡ old.bytes
          → new.logs ≡ set old.logs t (record { is_live = (log_at old.logs t).is_live; parts = edited pos at bytes (log_at old.logs t).parts; room = (log_at old.logs t).room }) → Becomes true (log_edit t pos at bytes) (view_of old) (view_of new)
      becomes_edited pos at bytes fits same logs =
          becomes_with new (record { is_live = (log_at old.logs t).is_live; parts = edited pos at bytes (log_at old.logs t).parts; room = (log_at old.logs t).room }) (Some (edited pos at bytes (listed (logged old.logs t)))) alive logs
          (live_log (log_at old.logs t).is_live (edited pos at bytes (log_at old.logs t).parts) live (edited pos at bytes (listed (logged old.logs t))) (ap (edited pos at bytes) (sym parts_is)))
          (log_edit t pos at bytes)
          (sym (with_log-same (view_of old).ranges t (Some (ranges_of (edited pos at bytes (listed (logged old.logs t)))))
          (ap (λ (ps : List Part). Some (ranges_of (edited pos at bytes ps))) parts_is
          ∙ ap Some (ranges_of-edited (log_at old.logs t).parts pos at bytes fits)
          ∙ sym (ap (option_map ranges_of) (log_is_some live)))))
          (ap (λ (bs : List ℕ). let s : State = record { bytes = bs; logs = with_log (logged old.logs) t (Some (edited pos at bytes (listed (logged old.logs t)))) } in s) (sym same))

      pub becomes_cut : (command : Command) (offset : ℕ) → new.logs ≡ set old.logs t (record { is_live = (log_at old.logs t).is_live; parts = take offset (log_at old.logs t).parts; room = (log_at old.logs t).room })
          → ranges_after command (view_of old).ranges ≡ with_log (view_of old).ranges t (Some (take offset (listed ((view_of old).ranges t))))
          → after command (view_of old).state ≡ record { bytes = new.bytes; logs = with_log (logged old.logs) t (Some (take offset (listed (logged old.logs t)))) } → Becomes true command (view_of old) (view_of new)
      becomes_cut command offset logs ranges state =
          becomes_with new (record { is_live = (log_at old.logs t).is_live; parts = take offset (log_at old.logs t).parts; room = (log_at old.logs t).room }) (Some (take offset (listed (logged old.logs t)))) alive logs
          (live_log (log_at old.logs t).is_live (take offset (log_at old.logs t).parts) live (take offset (listed (logged old.logs t))) (ap (take offset) (sym parts_is)))
          command
          (ranges ∙ ap (λ (rs : List (ℕ × ℕ)). with_log (view_of old).ranges t (Some rs)) (ap (take offset) (listed-map (logged old.logs t)) ∙ sym (ranges_of-take offset (listed (logged old.logs t)))))
          state
