-- What a call of pages does, and when each answer comes.
use Rattle.std.specs.Prelude.{ℕ, ◌≡◌, ◌<◌, Bool, true, false, IsTrue, List, [], ◌∷◌, length, Option, Some, None, Result, Ok, Err, OnOk, OnErr, IsErrOf}
use Rattle.mars_base.specs.Causes.{Rose}
use Rattle.array_shape.specs.Parts.{parts_of_write}
use Rattle.array_shape.specs.Logged.{ranges_of}
use Rattle.eaw_face.specs.State.{listed}
use Rattle.eaw_face.specs.StoreView.{StoreView, LeavesOnly}
use Rattle.eaw_face.specs.Command.{Command}
use Rattle.eaw_face.specs.Frame.{Frame}
use Rattle.eaw_face.specs.Due.{SendsDue}
use Rattle.eaw_face.specs.Causes.{IsAlive, fit}
use Rattle.eaw_face.specs.Mirroring.{Mirrors}
use Rattle.eaw_face.specs.Does.{IsEither}
use Rattle.page_store.specs.Edit.{edit_pos}
use Rattle.page_store.specs.Device.{device}
use Rattle.page_store.specs.Outline.{outline_after, floor_in}
use Rattle.page_store.specs.Command.{PageCommand, write_as, save, atomic_write, read_as, after, WorksFor}
use Rattle.page_store.specs.Shown.{PagesView, outline_of, state_of}
use Rattle.page_store.specs.declared.fault.PageFault.{PageFault}
use Rattle.page_store.specs.declared.fault.PageFault.TheVariants.{LogFull, SavesFull, Media, Dead, Damaged}

-- the part that a write of this range edits
abbrev pub edits_at : PagesView → ℕ → ℕ → ℕ → Option ℕ
edits_at pages t addr len = edit_pos (floor_in (outline_of pages) t) (addr, len) (listed (pages.store.ranges t))

-- A write that edits no part needs room for one, a write that commits by itself room for its parts, and a save needs one of the 32 places.
abbrev pub HasRoom : PagesView → PageCommand → Type 0
HasRoom pages (write_as t addr bytes) = edits_at pages t addr (length bytes) ≡ None → fit pages.store.shape (listed (pages.store.ranges t)) ((addr, length bytes) ∷ []) None
HasRoom pages (save t) = length (pages.counts t) < 32
HasRoom pages (atomic_write t addr bytes) = fit pages.store.shape [] (ranges_of (parts_of_write addr bytes)) None
HasRoom pages _ = Unit {0}

-- a write edits no part, or commits by itself, and logger g has no room for it: it holds h, and n more are needed
abbrev pub IsFull : PagesView → PageCommand → ℕ → ℕ → ℕ → Type 0
IsFull pages (write_as t addr bytes) g h n = (edits_at pages t addr (length bytes) ≡ None) × fit pages.store.shape (listed (pages.store.ranges t)) ((addr, length bytes) ∷ []) (Some (g, h, n))
IsFull pages (atomic_write t addr bytes) g h n = fit pages.store.shape [] (ranges_of (parts_of_write addr bytes)) (Some (g, h, n))
IsFull pages _ g h n = ⊥

-- a number has saved as often as it may
abbrev pub IsSavedOut : PagesView → PageCommand → Type 0
IsSavedOut pages (save t) = length (pages.counts t) ≡ 32
IsSavedOut pages _ = ⊥

-- why a command gets this answer, after which `faults` faults are counted
abbrev pub Cause : {T : Type 0} → PagesView → PageCommand → ℕ → Result T PageFault → Type 0
Cause old command faults (Ok answer) = IsAlive old.store × HasRoom old command
Cause old command faults (Err Dead) = old.store.is_dead ≡ true
Cause old command faults (Err (LogFull g h n)) = IsAlive old.store × IsFull old command g h n
Cause old command faults (Err SavesFull) = IsAlive old.store × IsSavedOut old command
Cause old command faults (Err Media) = IsAlive old.store × HasRoom old command × Rose old.store.faults faults
Cause old command faults (Err (Damaged page)) = ⊥

-- The command is done: parts, saves and open top actions are as the model says, and the store is not dead.
pub record Becomes (tells : Bool) (command : PageCommand) (old new : PagesView) : Type 0 where
  pub alive : new.store.is_dead ≡ false
  pub outline : outline_of new ≡ outline_after command (outline_of old)
  pub state : IsTrue tells → state_of new ≡ after command (state_of old)

-- u is a number that a command names
abbrev pub Names : PageCommand → ℕ → Type 0
Names (read_as t) u = u ≡ t
Names command u = WorksFor command u

-- what is sent by a command of the store that is done, or by none
abbrev pub SendsAs : Bool → Option Command → List Frame → StoreView → StoreView → Type 0
SendsAs tells None added old new = new.sending ≡ old.sending
SendsAs tells (Some command) added old new = SendsDue tells command added old new

-- A call of pages over a store, where `Opens` says which data an image opens with. Each answer has its cause. An Ok is the model's
-- command, and hides no fault. A refusal leaves saves and open top actions. A fault of the medium leaves the store dead. Whatever the
-- answer, other numbers keep what they have logged, and a loss of power during a call on a store that was not dead leaves what it
-- might have left before, or an image that opens with the data before the command or after it. If it is done, what is sent is what the
-- store below sends of the command that it makes of it, and else nothing.
pub record Does {T : Type 0} (tells : Bool) (Opens : List ℕ → List ℕ → Type 0) (command : PageCommand) (old new : PagesView) (result : Result T PageFault) : Type 0 where
  pub shape : new.store.shape ≡ old.store.shape
  pub depth : new.store.depth ≡ old.store.depth
  pub cause : Cause old command new.store.faults result
  pub kept : OnOk result (new.store.faults ≡ old.store.faults)
  pub done : OnOk result (Becomes tells command old new)
  pub marks : OnErr result ((new.counts ≡ old.counts) × (new.top ≡ old.top))
  pub dies : IsErrOf result Media → new.store.is_dead ≡ true
  pub others : (u : ℕ) → (Names command u → ⊥) → new.store.ranges u ≡ old.store.ranges u
  pub time : IsTrue tells → old.store.is_dead ≡ false → LeavesOnly (IsEither Opens old.store.state.bytes (after command (state_of old)).store.bytes) old.store new.store
  pub mirrors : Mirrors tells old.store new.store
  pub sends : old.store.sending.mirrors ≡ true → OnOk result (SendsAs tells (device command (outline_of old)) mirrors.added old.store new.store)
  pub refused : old.store.sending.mirrors ≡ true → OnErr result (new.store.sending ≡ old.store.sending)
