-- When each answer of a command comes. The refusals are listed in their order: a later one comes only if no earlier one does.
use Rattle.std.specs.Prelude.{ℕ, ◌≡◌, ◌<◌, true, false, List, [], Some, None, Result, Ok, Err}
use Rattle.mars_base.specs.Causes.{Rose}
use Rattle.mars_base.specs.Check.{Check, pass, test, each}
use Rattle.mars_base.specs.Room.{room}
use Rattle.array_shape.specs.declared.shape.Shape.{Shape}
use Rattle.array_shape.specs.Parts.{parts_of_write}
use Rattle.array_shape.specs.Logged.{ranges_of}
use Rattle.eaw_face.specs.State.{listed, is_one_of, count_on}
use Rattle.eaw_face.specs.StoreView.{StoreView, IsLive}
use Rattle.eaw_face.specs.Command.{Command, log_write, log_edit, commit, commit_group, abort, nested_top, partial_abort, atomic_write, log_read, read}
use Rattle.eaw_face.specs.declared.fault.EawFault.{EawFault}
use Rattle.eaw_face.specs.declared.fault.EawFault.TheVariants.{UnknownTid, LogFull, Media, Dead}

-- the store has met no fault of the medium
abbrev pub IsAlive : StoreView → Type 0
IsAlive store = store.is_dead ≡ false

-- The test of the numbers that a command needs, whose failure names the first that fails: a write into a log needs a number of the
-- array; all other work on a log needs a live number.
abbrev pub known : StoreView → Command → Check ℕ
known store (log_write t addr bytes) = test (t < store.shape.numbers) t
known store (log_edit t pos at bytes) = test (IsLive store t) t
known store (commit t) = test (IsLive store t) t
known store (commit_group ts) = each (λ t. test (IsLive store t) t) ts
known store (abort t) = test (IsLive store t) t
known store (nested_top t offset) = test (IsLive store t) t
known store (partial_abort t offset) = test (IsLive store t) t
known store (atomic_write t addr bytes) = pass
known store (log_read t) = test (IsLive store t) t
known store (read addr len) = pass

-- u is a number that a command names to the store
abbrev pub IsNumberOf : Command → ℕ → Type 0
IsNumberOf (log_write t addr bytes) u = u ≡ t
IsNumberOf (log_edit t pos at bytes) u = u ≡ t
IsNumberOf (commit t) u = u ≡ t
IsNumberOf (commit_group ts) u = is_one_of ts u ≡ true
IsNumberOf (abort t) u = u ≡ t
IsNumberOf (nested_top t offset) u = u ≡ t
IsNumberOf (partial_abort t offset) u = u ≡ t
IsNumberOf (atomic_write t addr bytes) u = u ≡ t
IsNumberOf (log_read t) u = u ≡ t
IsNumberOf (read addr len) u = ⊥

-- the test for room at each logger, for its share of `needed` besides its share of `held`
abbrev pub fit : Shape → (held needed : List (ℕ × ℕ)) → Check (ℕ × ℕ × ℕ)
fit shape held needed = room {Bad = ℕ × ℕ × ℕ} (λ g h n. (g, h, n)) shape.loggers shape.entries (λ g. count_on shape g held) (λ g. count_on shape g needed)

-- the test for the room that a command needs: a write needs an entry for each of its parts
abbrev pub room_for : StoreView → Command → Check (ℕ × ℕ × ℕ)
room_for store (log_write t addr bytes) = fit store.shape (listed (store.ranges t)) (ranges_of (parts_of_write addr bytes))
room_for store (atomic_write t addr bytes) = fit store.shape [] (ranges_of (parts_of_write addr bytes))
room_for store _ = pass

-- why a command gets this answer, after which `faults` faults are counted
abbrev pub Cause : {T : Type 0} → StoreView → Command → ℕ → Result T EawFault → Type 0
Cause old command faults (Ok answer) = IsAlive old × known old command None × room_for old command None
Cause old command faults (Err Dead) = old.is_dead ≡ true
Cause old command faults (Err (UnknownTid u)) = IsAlive old × known old command (Some u)
Cause old command faults (Err (LogFull g h n)) = IsAlive old × known old command None × room_for old command (Some (g, h, n))
Cause old command faults (Err Media) = IsAlive old × known old command None × room_for old command None × Rose old.faults faults
