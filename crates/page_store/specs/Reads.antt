-- What reads do to a store, and what they cost.
use Rattle.std.specs.Prelude.{◌≡◌, ◌+◌, min, max, nat_lt, if◌then◌else◌, Bool, true, false, IsTrue, List, [], ◌∷◌, ℕ, Result, Ok, Err, OnOk, IsErrOf}
use Rattle.mars_base.specs.Causes.{Rose}
use Rattle.eaw_face.specs.Command.{Command, log_read, read}
use Rattle.eaw_face.specs.Mirroring.{Mirrors}
use Rattle.eaw_face.specs.StoreView.{StoreView, LeavesOnly}
use Rattle.eaw_face.specs.declared.fault.EawFault.{EawFault}
use Rattle.eaw_face.specs.declared.fault.EawFault.TheVariants.{Media, Dead}

-- data and logs are as they were, and the store is not dead
pub record IsRead (tells : Bool) (old new : StoreView) : Type 0 where
  pub alive : new.is_dead ≡ false
  pub ranges : new.ranges ≡ old.ranges
  pub state : IsTrue tells → new.state ≡ old.state

-- why a read gets this answer
abbrev pub ReadCause : {T : Type 0} → StoreView → ℕ → Result T EawFault → Type 0
ReadCause old faults (Ok x) = old.is_dead ≡ false
ReadCause old faults (Err Dead) = old.is_dead ≡ true
ReadCause old faults (Err Media) = (old.is_dead ≡ false) × Rose old.faults faults
ReadCause old faults _ = ⊥

-- Reads of data and of the log of number t: a loss of power leaves what it might have left before, or an image that opens with the data,
-- and nothing is sent.
pub record Reads {T : Type 0} (tells : Bool) (Opens : List ℕ → List ℕ → Type 0) (t : ℕ) (old new : StoreView) (result : Result T EawFault) : Type 0 where
  pub shape : new.shape ≡ old.shape
  pub depth : new.depth ≡ old.depth
  pub cause : ReadCause old new.faults result
  pub kept : OnOk result (new.faults ≡ old.faults)
  pub done : OnOk result (IsRead tells old new)
  pub dies : IsErrOf result Media → new.is_dead ≡ true
  pub others : (u : ℕ) → (u ≡ t → ⊥) → new.ranges u ≡ old.ranges u
  pub time : IsTrue tells → old.is_dead ≡ false → LeavesOnly (λ image. Opens image old.state.bytes) old new
  pub mirrors : Mirrors tells old new
  pub silent : old.sending.mirrors ≡ true → new.sending ≡ old.sending

-- whether two ranges share a byte
abbrev pub overlap : ℕ × ℕ → ℕ × ℕ → Bool
overlap r q = nat_lt (max q.0 r.0) (min (q.0 + q.1) (r.0 + r.1))

-- the calls of what is laid over a range: a read of the log for each part of number t that shares a byte with it
abbrev pub lay_cost : (Command → ℕ) → ℕ → ℕ × ℕ → ℕ × ℕ → ℕ
lay_cost calls t r part = if overlap r part then calls (log_read t) else 0

abbrev pub laid_cost : (Command → ℕ) → ℕ → ℕ × ℕ → List (ℕ × ℕ) → ℕ
laid_cost calls t r [] = 0
laid_cost calls t r (part ∷ parts) = lay_cost calls t r part + laid_cost calls t r parts

-- those of a read of a range as number t, which has logged these parts
abbrev pub seen_cost : (Command → ℕ) → ℕ → (addr len : ℕ) → List (ℕ × ℕ) → ℕ
seen_cost calls t addr len parts = calls (read addr len) + laid_cost calls t (addr, len) parts
