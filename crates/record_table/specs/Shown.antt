-- What pages show in terms of records.
use Rattle.std.specs.Prelude.{Bool, false, ℕ, ◌+◌, ◌*◌, nat_eq, if◌then◌else◌, List, [], ◌∷◌, map, Option, Some, None, IsSome}
use Rattle.std.specs.FinMap.{empty}
use Rattle.std.specs.List.{flat_map}
use Rattle.std.specs.Option.{option_map, unwrap_or}
use Rattle.array_shape.specs.declared.shape.Shape.{Shape}
use Rattle.array_shape.specs.Places.{logger_of}
use Rattle.array_shape.specs.Logged.{Part}
use Rattle.eaw_face.specs.State.{listed, count_on}
use Rattle.record_slots.specs.Slots.{slot_said}
use Rattle.record_slots.specs.Places.{slot_of, next_page, used_slots, used_pages, slot_due, tables_of, root_of}
use Rattle.record_slots.specs.declared.super_page.TableEntry.{TableEntry}
use Rattle.record_slots.specs.declared.slot.Slot.{Slot}
use Rattle.record_slots.specs.declared.slot.Slot.TheVariants.{Absent, Present}
use Rattle.history.specs.declared.key.Key.{Key}
use Rattle.history.specs.Key.{is_same_key, of_main, of_table}
use Rattle.history.specs.Writes.{Table, Write, write_into}
use Rattle.page_store.specs.Pairs.{Pair}
use Rattle.page_store.specs.Index.{Index, slots_of}
use Rattle.page_store.specs.Records.{value_of}
use Rattle.page_store.specs.Shown.{PagesView}
use Rattle.page_store.specs.Shown as pages
use Rattle.page_store.specs.State.{PagesState, log_of}
use Rattle.record_table.specs.Names.{key_in}
use Rattle.record_table.specs.State.{TableState, Keys}

-- the write that a slot of this data stands for
abbrev pub write_said : List ℕ → Option Slot → Write
write_said bytes None = (of_main 0, None)
write_said bytes (Some (Absent table key)) = (key_in bytes table key, None)
write_said bytes (Some (Present table key value)) = (key_in bytes table key, Some value)

-- the slot of a key among keys with their slots, if it is there
abbrev pub found_key : List (Key × ℕ) → Key → Option ℕ
found_key [] key = None
found_key (pair ∷ pairs) key = if is_same_key pair.0 key then Some pair.1 else found_key pairs key

-- the keys of all tables, each with its slot
unfoldable pub pairs_of : Index → List ℕ → List (Key × ℕ)
pairs_of index bytes = flat_map (λ (table : TableEntry). map (λ (pair : Pair). (of_table table.name pair.0, pair.1)) (index.pairs bytes table.root)) (tables_of bytes)

-- the same of a pair of the table of this name, and of these tables
abbrev pub in_table : List ℕ → Pair → Key × ℕ
in_table name pair = (of_table name pair.0, pair.1)

abbrev pub pairs_from : Index → List ℕ → List TableEntry → List (Key × ℕ)
pairs_from index bytes tables = flat_map (λ (table : TableEntry). map (in_table table.name) (index.pairs bytes table.root)) tables

-- the records of keys with their slots: each with the value in its slot
abbrev pub table_in : List ℕ → List (Key × ℕ) → Table
table_in bytes [] = empty
table_in bytes (pair ∷ pairs) = write_into (table_in bytes pairs) (pair.0, value_of (slot_said (slot_of bytes pair.1)))

-- the records of the data, those of all tables
unfoldable pub table_of : Index → List ℕ → Table
table_of index bytes = table_in bytes (pairs_of index bytes)

abbrev pub write_of : List ℕ → Part → Write
write_of bytes part = write_said bytes (slot_said part.1)

-- the writes that parts logged over this data stand for
abbrev pub writes_of : List ℕ → List Part → List Write
writes_of bytes log = map (write_of bytes) log

-- the table and the logs that a state of pages stands for
abbrev pub shown_by : Index → PagesState → TableState
shown_by index s = record { table = table_of index s.store.bytes; logs = λ t. record { writes = writes_of s.store.bytes (log_of s t); saved = map (writes_of s.store.bytes) (s.saved t) } }

abbrev pub state_of : Index → PagesView → TableState
state_of index view = shown_by index (pages.state_of view)

-- the indexes in the data; a table that there is not has no levels
abbrev pub keys_of : Index → List ℕ → Keys
keys_of index bytes = record {
  slot_of = found_key (pairs_of index bytes);
  due = slot_due bytes;
  used_slots = used_slots bytes;
  used_pages = used_pages bytes;
  next_page = next_page bytes;
  levels = λ table. unwrap_or (option_map (index.level bytes) (root_of bytes table)) 0;
}

-- the logger that holds the writes to a slot, and how many entries of a logger one such write needs
abbrev pub logger_of_slot : Shape → ℕ → ℕ
logger_of_slot shape slot = logger_of shape (64 * (slots_of shape + slot))

abbrev pub needed_on : Shape → ℕ → ℕ → ℕ
needed_on shape slot g = if nat_eq (logger_of_slot shape slot) g then 1 else 0

-- how many writes of a number this logger holds
abbrev pub held_on : PagesView → ℕ → ℕ → ℕ
held_on pages t g = count_on pages.store.shape g (listed (pages.store.ranges t))

-- a write to this slot goes to this logger
abbrev pub is_slot_on : Shape → ℕ → Option ℕ → Bool
is_slot_on shape g None = false
is_slot_on shape g (Some slot) = nat_eq (logger_of_slot shape slot) g

abbrev pub is_write_on : Shape → List (Key × ℕ) → ℕ → Write → Bool
is_write_on shape pairs g write = is_slot_on shape g (found_key pairs write.0)

-- the index has the key of each of these writes
abbrev pub AreNamed : List (Key × ℕ) → List Write → Type 0
AreNamed pairs [] = Unit {0}
AreNamed pairs (write ∷ writes) = IsSome (found_key pairs write.0) × AreNamed pairs writes
