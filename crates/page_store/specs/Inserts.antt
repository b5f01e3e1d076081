-- What an insertion does, and when each answer comes.
use Rattle.std.specs.Prelude.{ℕ, ◌≡◌, ◌≢◌, ◌-◌, ◌<◌, ◌≤◌, ◌⊎◌, Bool, true, false, IsTrue, IsFalse, List, [], ◌∷◌, length, Result, Ok, Err}
use Rattle.mars_base.specs.Causes.{Rose}
use Rattle.eaw_face.specs.State.{listed}
use Rattle.eaw_face.specs.StoreView.{StoreView, LeavesOnly}
use Rattle.eaw_face.specs.Mirroring.{Mirrors}
use Rattle.eaw_face.specs.Causes.{IsAlive}
use Rattle.array_shape.specs.declared.shape.Shape.{Shape}
use Rattle.record_slots.specs.Places.{used_slots, used_pages, slot_due}
use Rattle.page_store.specs.Fits.{FitAll, IsFirstLacking}
use Rattle.page_store.specs.Shown.{PagesView, state_of}
use Rattle.page_store.specs.State.{log_of}
use Rattle.page_store.specs.Index.{Action, Index, slots_of, index_pages_of, Grows, Rests, Gains}
use Rattle.page_store.specs.declared.index_fault.IndexFault.{IndexFault}
use Rattle.page_store.specs.declared.index_fault.IndexFault.TheVariants.{SlotsFull, PagesFull, LogFull, Media, Dead, Damaged}

-- `left` pages are enough for an action, and each of its parts has room in the log
abbrev pub ActionFits : StoreView → ℕ → ℕ → Action → Type 0
ActionFits store t left action = (action.takes ≤ left) × FitAll store t action.pages

-- all actions fit, one after another
abbrev pub AllFit : StoreView → ℕ → ℕ → List Action → Type 0
AllFit store t left [] = Unit {0}
AllFit store t left (action ∷ later) = ActionFits store t left action × AllFit store t (left - action.takes) later

-- the first action that does not fit finds too few pages
abbrev pub LackPages : StoreView → ℕ → ℕ → List Action → Type 0
LackPages store t left [] = ⊥
LackPages store t left (action ∷ later) = (left < action.takes) ⊎ (ActionFits store t left action × LackPages store t (left - action.takes) later)

-- the first action that does not fit finds its pages, and at logger g too little room: it holds h parts, and n more are needed
abbrev pub LackRoom : StoreView → ℕ → ℕ → ℕ → ℕ → ℕ → List Action → Type 0
LackRoom store t g h n left [] = ⊥
LackRoom store t g h n left (action ∷ later) =
    ((action.takes ≤ left) × IsFirstLacking store t action.pages g h n) ⊎ (ActionFits store t left action × LackRoom store t g h n (left - action.takes) later)

-- how many pages an array of this shape has left for its indexes
abbrev pub pages_left : Shape → List ℕ → ℕ
pages_left shape bytes = index_pages_of shape - used_pages bytes

-- How far an insertion comes over a store that tells its data: a slot is left, and then its actions follow one another.
abbrev pub ComesTo : Index → ℕ → ℕ → StoreView → (ℕ → List Action → Type 0) → Type 0
ComesTo index root key old Ends =
    (used_slots old.state.bytes < slots_of old.shape) × Ends (pages_left old.shape old.state.bytes) (index.actions old.state.bytes root key)

-- at logger g at most four parts find no room
abbrev pub IsLogFull : StoreView → ℕ → ℕ → ℕ → ℕ → Type 0
IsLogFull old t g h n = (pages : List ℕ) × (length pages ≤ 4) × IsFirstLacking old t pages g h n

-- why an insertion gets this answer; over a store that tells its data, each of the first four comes exactly then
abbrev pub InsertCause : Bool → Index → ℕ → ℕ → ℕ → StoreView → Result ℕ IndexFault → Type 0
InsertCause tells index t root key old (Ok slot) = IsAlive old × (slot < slots_of old.shape) × (IsTrue tells → ComesTo index root key old (AllFit old t))
InsertCause tells index t root key old (Err (SlotsFull n)) = IsAlive old × (n ≡ slots_of old.shape) × (IsTrue tells → used_slots old.state.bytes ≡ n)
InsertCause tells index t root key old (Err (PagesFull n)) =
    IsAlive old × (n ≡ index_pages_of old.shape - 1) × (IsTrue tells → ComesTo index root key old (LackPages old t))
InsertCause tells index t root key old (Err (LogFull g h n)) =
    IsAlive old × IsLogFull old t g h n × (IsTrue tells → ComesTo index root key old (LackRoom old t g h n))
InsertCause tells index t root key old (Err Media) = IsAlive old
InsertCause tells index t root key old (Err Dead) = old.is_dead ≡ true
InsertCause tells index t root key old (Err (Damaged page)) = IsAlive old × ¬ IsTrue tells

-- What it makes of the data of a store that tells it: one more pair of the table, with the slot that was due and that it answers, or none if
-- it was refused. If pages ran out, all but at most one are in use, or the index has as many levels as it may.
abbrev pub Made : Index → ℕ → ℕ → ℕ → List ℕ → List ℕ → Result ℕ IndexFault → Type 0
Made index root table key old new (Ok slot) = (slot ≡ slot_due old) × Grows index root old new × Gains index root table key old new
Made index root table key old new (Err Media) = Unit {0}
Made index root table key old new (Err (PagesFull n)) = Grows index root old new × Rests index root old new × ((n ≤ used_pages new) ⊎ (7 ≤ index.level new root))
Made index root table key old new (Err _) = Grows index root old new × Rests index root old new

-- whether the medium failed
abbrev pub is_insert_failed : Result ℕ IndexFault → Bool
is_insert_failed (Err Media) = true
is_insert_failed _ = false

-- whether all slots are in use
abbrev pub are_slots_full : Result ℕ IndexFault → Bool
are_slots_full (Err (SlotsFull n)) = true
are_slots_full _ = false

-- data that a loss of power during it may leave
abbrev pub MayBecome : Index → ℕ → ℕ → ℕ → List ℕ → List ℕ → Type 0
MayBecome index root table key old new = Grows index root old new × (Rests index root old new ⊎ Gains index root table key old new)

-- what numbers have logged is as it was
pub record KeepsLogs (tells : Bool) (old new : PagesView) : Type 0 where
  pub dead : new.store.is_dead ≡ old.store.is_dead
  pub faults : new.store.faults ≡ old.store.faults
  pub tops : new.top ≡ old.top
  pub ranges : (u : ℕ) → listed (new.store.ranges u) ≡ listed (old.store.ranges u)
  pub logs : IsTrue tells → (u : ℕ) → log_of (state_of new) u ≡ log_of (state_of old) u

-- An insertion of a key of a table into the index of its root, as number t. Saves stay, and other numbers keep what they have logged,
-- whatever the answer; so does t itself, except at a fault of the medium, which leaves the store dead. A loss of power during it, if the
-- store was not dead, leaves what it might have left before, or an image that opens with sound data that has the pairs before it or after it.
-- What the store sends is added at the end of what it has sent, and gives its data.
pub record Inserts (tells : Bool) (Opens : List ℕ → List ℕ → Type 0) (index : Index) (t root table key : ℕ) (old new : PagesView) (result : Result ℕ IndexFault) : Type 0 where
  pub shape : new.store.shape ≡ old.store.shape
  pub depth : new.store.depth ≡ old.store.depth
  pub cause : InsertCause tells index t root key old.store result
  pub saves : new.counts ≡ old.counts
  pub others : (u : ℕ) → u ≢ t → new.store.ranges u ≡ old.store.ranges u
  pub kept : IsFalse (is_insert_failed result) → KeepsLogs tells old new
  pub made : IsTrue tells → IsAlive old.store → Made index root table key old.store.state.bytes new.store.state.bytes result
  pub dies : IsTrue (is_insert_failed result) → (new.store.is_dead ≡ true) × Rose old.store.faults new.store.faults
  pub time : IsTrue tells → IsAlive old.store
      → LeavesOnly (λ image. (bytes : List ℕ) × Opens image bytes × MayBecome index root table key old.store.state.bytes bytes) old.store new.store
  pub mirrors : Mirrors tells old.store new.store
