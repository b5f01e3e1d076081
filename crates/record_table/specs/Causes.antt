-- When each answer comes. `Dead` goes first, then the refusals in their order.
use Rattle.std.specs.Prelude.{ℕ, ◌≡◌, ◌-◌, ◌<◌, ◌≤◌, ◌⊎◌, Bool, true, false, IsTrue, length, Option, Some, None, IsSome, Result, Ok, Err, List, []}
use Rattle.std.specs.FinMap.{get}
use Rattle.std.specs.Option.{option_map, unwrap_or}
use Rattle.mars_base.specs.Room.{HaveRoom, IsFirstFull}
use Rattle.eaw_face.specs.Causes.{IsAlive}
use Rattle.eaw_face.specs.StoreView.{StoreView}
use Rattle.record_slots.specs.Places.{used_slots, slot_due, root_of}
use Rattle.history.specs.declared.key.Key.{Key}
use Rattle.history.specs.Key.{of_table}
use Rattle.history.specs.Log.{is_rewritten}
use Rattle.history.specs.declared.call.Call.{Call}
use Rattle.history.specs.declared.call.Call.TheVariants.{Table as OnTable}
use Rattle.history.specs.declared.call.TableCall.TheVariants.{Get, Put, Del, Scan, Save}
use Rattle.page_store.specs.Index.{Action, Index, slots_of, index_pages_of}
use Rattle.page_store.specs.Inserts.{AllFit, LackPages, LackRoom, pages_left}
use Rattle.page_store.specs.Shown.{PagesView}
use Rattle.record_table.specs.State.{seen_by}
use Rattle.record_table.specs.Shown.{state_of, found_key, pairs_of, held_on, needed_on}
use Rattle.record_table.specs.declared.fault.TableFault.{TableFault}
use Rattle.record_table.specs.declared.fault.TableFault.TheVariants.{SlotsFull, PagesFull, SavesFull, LogFull, Media, Dead, Damaged, NoMemory}

-- the number has a write of the key since its last save, which another replaces
abbrev pub rewrites : Index → PagesView → ℕ → Key → Bool
rewrites index old t key = is_rewritten ((state_of index old).logs t) key

-- a write to this slot replaces one, or each logger has room for what it needs
abbrev pub HasRoom : Index → ℕ → PagesView → Key → ℕ → Type 0
HasRoom index t old key slot = rewrites index old t key ≡ false → HaveRoom old.store.shape.loggers old.store.shape.entries (held_on old t) (needed_on old.store.shape slot)

-- it replaces none, and logger g is the first without room: it holds h writes, and n more are needed
abbrev pub IsFull : Index → ℕ → PagesView → Key → ℕ → ℕ → ℕ → ℕ → Type 0
IsFull index t old key slot g h n = (rewrites index old t key ≡ false) × IsFirstFull old.store.shape.loggers old.store.shape.entries (held_on old t) (needed_on old.store.shape slot) g h n

-- the number sees a record of the key
abbrev pub IsSeen : Index → PagesView → ℕ → Key → Type 0
IsSeen index old t key = IsSome (get (seen_by (state_of index old) t) key)

-- the slot of a key, if an index has the key
abbrev pub slot_in : Index → PagesView → Key → Option ℕ
slot_in index old key = found_key (pairs_of index old.store.state.bytes) key

-- the actions of the insertion of a key into the index of its table; none if there is no such table
abbrev pub actions_in : Index → List ℕ → ℕ → ℕ → List Action
actions_in index bytes table key = unwrap_or (option_map (λ root. index.actions bytes root key) (root_of bytes table)) []

-- How far the insertion of a key of a table comes: a slot is left, and then the actions follow one another.
abbrev pub ComesTo : Index → ℕ → ℕ → StoreView → (ℕ → List Action → Type 0) → Type 0
ComesTo index table key old Ends =
    (used_slots old.state.bytes < slots_of old.shape) × Ends (pages_left old.shape old.state.bytes) (actions_in index old.state.bytes table key)

-- There is room for a value in the slot of its key. If the index lacks the key, there is room first for its insertion and then for the
-- value in the slot that is due.
abbrev pub PutFits : Index → ℕ → ℕ → Key → PagesView → Option ℕ → Type 0
PutFits index table t key old None = ComesTo index table key.key old.store (AllFit old.store t) × HasRoom index t old key (slot_due old.store.state.bytes)
PutFits index table t key old (Some slot) = HasRoom index t old key slot

abbrev pub PutLacks : Index → ℕ → ℕ → Key → PagesView → ℕ → ℕ → ℕ → Option ℕ → Type 0
PutLacks index table t key old g h n None = ComesTo index table key.key old.store (LackRoom old.store t g h n)
    ⊎ (ComesTo index table key.key old.store (AllFit old.store t) × IsFull index t old key (slot_due old.store.state.bytes) g h n)
PutLacks index table t key old g h n (Some slot) = IsFull index t old key slot g h n

-- a call that writes finds room
abbrev pub Fits : Index → ℕ → PagesView → ℕ → Call → Type 0
Fits index table old t (OnTable (Put name key value)) = PutFits index table t (of_table name key) old (slot_in index old (of_table name key))
Fits index table old t (OnTable (Del name key)) = IsSeen index old t (of_table name key) → (slot : ℕ) × (slot_in index old (of_table name key) ≡ Some slot) × HasRoom index t old (of_table name key) slot
Fits index table old t call = Unit {0}

-- a call that writes finds no room at logger g
abbrev pub Lacks : Index → ℕ → PagesView → ℕ → ℕ → ℕ → ℕ → Call → Type 0
Lacks index table old g h n t (OnTable (Put name key value)) = PutLacks index table t (of_table name key) old g h n (slot_in index old (of_table name key))
Lacks index table old g h n t (OnTable (Del name key)) = IsSeen index old t (of_table name key) × (slot : ℕ) × (slot_in index old (of_table name key) ≡ Some slot) × IsFull index t old (of_table name key) slot g h n
Lacks index table old g h n t call = ⊥

-- logger g is the first without room for what some write needs, at most four
abbrev pub IsShort : PagesView → ℕ → ℕ → ℕ → ℕ → Type 0
IsShort old t g h n = (n ≤ 4) × (needed : ℕ → ℕ) × IsFirstFull old.store.shape.loggers old.store.shape.entries (held_on old t) needed g h n

-- a write that finds no room, on any store
abbrev pub MayLack : PagesView → ℕ → ℕ → ℕ → ℕ → Call → Type 0
MayLack old g h n t (OnTable (Put name key value)) = IsShort old t g h n
MayLack old g h n t (OnTable (Del name key)) = IsShort old t g h n
MayLack old g h n t call = ⊥

-- an insertion is due, and all n slots are in use
abbrev pub LacksSlot : Index → PagesView → ℕ → Call → Type 0
LacksSlot index old n (OnTable (Put name key value)) = (slot_in index old (of_table name key) ≡ None) × (used_slots old.store.state.bytes ≡ n)
LacksSlot index old n call = ⊥

-- an insertion is due that splits a page for which no pages are left
abbrev pub LacksPage : Index → ℕ → PagesView → ℕ → Call → Type 0
LacksPage index table old t (OnTable (Put name key value)) = (slot_in index old (of_table name key) ≡ None) × ComesTo index table key old.store (LackPages old.store t)
LacksPage index table old t call = ⊥

abbrev pub IsPut : Call → Type 0
IsPut (OnTable (Put name key value)) = Unit {0}
IsPut call = ⊥

-- if the call is a save, the number has fewer than 32
abbrev pub MaySave : PagesView → ℕ → Call → Type 0
MaySave old t (OnTable Save) = length (old.counts t) < 32
MaySave old t call = Unit {0}

abbrev pub IsSavedOut : PagesView → ℕ → Call → Type 0
IsSavedOut old t (OnTable Save) = length (old.counts t) ≡ 32
IsSavedOut old t call = ⊥

-- a call that uses the index
abbrev pub IsSought : Call → Type 0
IsSought (OnTable (Get name key)) = Unit {0}
IsSought (OnTable (Put name key value)) = Unit {0}
IsSought (OnTable (Del name key)) = Unit {0}
IsSought (OnTable (Scan name low high)) = Unit {0}
IsSought call = ⊥

abbrev pub IsScan : Call → Type 0
IsScan (OnTable (Scan name low high)) = Unit {0}
IsScan call = ⊥

-- The cause of each answer. If the store tells its data, each comes exactly then, except for faults of the medium and a lack of memory.
abbrev pub Cause : {T : Type 0} → Bool → Index → ℕ → ℕ → Call → PagesView → Result T TableFault → Type 0
Cause tells index table t c old (Ok answer) = IsAlive old.store × MaySave old t c × (IsTrue tells → Fits index table old t c)
Cause tells index table t c old (Err Dead) = old.store.is_dead ≡ true
Cause tells index table t c old (Err (SlotsFull n)) = IsAlive old.store × IsPut c × (n ≡ slots_of old.store.shape) × (IsTrue tells → LacksSlot index old n c)
Cause tells index table t c old (Err (PagesFull n)) = IsAlive old.store × IsPut c × (n ≡ index_pages_of old.store.shape - 1) × (IsTrue tells → LacksPage index table old t c)
Cause tells index table t c old (Err (LogFull g h n)) = IsAlive old.store × MayLack old g h n t c × (IsTrue tells → Lacks index table old g h n t c)
Cause tells index table t c old (Err SavesFull) = IsAlive old.store × IsSavedOut old t c
Cause tells index table t c old (Err Media) = IsAlive old.store
Cause tells index table t c old (Err (Damaged page)) = IsAlive old.store × IsSought c × ¬ IsTrue tells
Cause tells index table t c old (Err NoMemory) = IsAlive old.store × IsScan c
