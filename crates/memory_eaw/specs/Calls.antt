-- Which calls are counted, which of them fail, and what is kept of them.
use Rattle.std.specs.Prelude.{None, ℕ, ◌≡◌, ◌-◌, ◌<◌, min, ◌↔◌, Bool, true, false, List, length, Result, Ok, Err, IsErrOf}
use Rattle.eaw_face.specs.State.{group_log}
use Rattle.eaw_face.specs.StoreView.{StoreView, log_len}
use Rattle.eaw_face.specs.Command.{Command, commit, commit_group, abort, nested_top, partial_abort, atomic_write}
use Rattle.eaw_face.specs.Causes.{IsAlive, known, room_for}
use Rattle.eaw_face.specs.declared.fault.EawFault.{EawFault}
use Rattle.eaw_face.specs.declared.fault.EawFault.TheVariants.{Media}
use Rattle.memory_eaw.specs.Kept.{Kept, MustFail, MustFailChange, failed, called, changed}

-- how many counted calls a command that is done makes: a commit one if it has parts to commit, an abort none, any other one
abbrev pub plain_calls : Command → StoreView → ℕ
plain_calls (commit t) store = min (log_len store t) 1
plain_calls (commit_group ts) store = min (length (group_log store.ranges ts)) 1
plain_calls (nested_top t offset) store = min (log_len store t - offset) 1
plain_calls (abort t) store = 0
plain_calls (partial_abort t offset) store = 0
plain_calls _ store = 1

-- the command has work to do
abbrev pub HasWork : StoreView → Command → Type 0
HasWork store (commit t) = 0 < log_len store t
HasWork store (commit_group ts) = 0 < length (group_log store.ranges ts)
HasWork store (nested_top t offset) = offset < log_len store t
HasWork store (abort t) = ⊥
HasWork store (partial_abort t offset) = ⊥
HasWork store _ = Unit {0}

-- A call of this command is counted: it is not refused, and there is work for it.
pub record IsCounted (store : StoreView) (command : Command) : Type 0 where
  pub alive : IsAlive store
  pub knows : known store command None
  pub room : room_for store command None
  pub work : HasWork store command

-- the commands that change the data
abbrev pub is_change : Command → Bool
is_change (commit t) = true
is_change (commit_group ts) = true
is_change (nested_top t offset) = true
is_change (atomic_write t addr bytes) = true
is_change _ = false

-- the next call fails, given whether it changes data
abbrev pub FailsAs : Bool → Kept → Type 0
FailsAs true kept = MustFailChange kept
FailsAs false kept = MustFail kept

-- what is kept after a counted call with this answer, if the data before it was `bytes`
abbrev pub kept_after : {T : Type 0} → Bool → Result T EawFault → List ℕ → Kept → Kept
kept_after true (Ok answer) bytes kept = changed bytes kept
kept_after false (Ok answer) bytes kept = called kept
kept_after true (Err fault) bytes kept = failed kept
kept_after false (Err fault) bytes kept = failed kept

-- A call of this command fails exactly when it is counted and is to fail. A counted call is kept, and any other leaves all as it was.
pub record Counts {T : Type 0} (command : Command) (store : StoreView) (old new : Kept) (result : Result T EawFault) : Type 0 where
  pub fails : IsErrOf result Media ↔ (IsCounted store command × FailsAs (is_change command) old)
  pub counted : IsCounted store command → new ≡ kept_after (is_change command) result store.state.bytes old
  pub uncounted : (IsCounted store command → ⊥) → new ≡ old
