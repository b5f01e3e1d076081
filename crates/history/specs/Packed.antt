-- How calls with their replies are kept in one run of bytes, one behind the other, and how they are read again.
use Rattle.std.specs.Prelude.{ℕ, suc, zero, ◌≡◌, ◌<◌, ◌≤◌, ◌+◌, ◌^◌, Bool, true, false, nat_eq, nat_lt, if◌then◌else◌, List, [], ◌∷◌, ◌++◌, length, take, drop, flat_map, All}
use Rattle.std.specs.Int.{w64, to_le_bytes, from_le_bytes}
use lib.Pointwise.{pointwise}
use Rattle.record_slots.specs.Text.{IsName, IsValue}
use Rattle.history.specs.Key.{main_name}
use Rattle.history.specs.Writes.{Row}
use Rattle.history.specs.declared.call.TableCall.{TableCall}
use Rattle.history.specs.declared.call.TableCall.TheVariants.{Get, Put, Del, Scan, Save, Back}
use Rattle.history.specs.declared.call.Reply.{Reply}
use Rattle.history.specs.declared.call.Reply.TheVariants.{Fine, Found, Absent, Listed, Saved, Committed, Purged, NoTransaction, NoTable, Already, NoSave, SavesFull, Busy, LogFull, SlotsFull, PagesFull, Media, Dead, NoMemory, Damaged}

-- a number as 8 bytes
abbrev pub word : ℕ → List ℕ
word n = to_le_bytes w64 n

-- the number at the front of bytes, and what is behind it
abbrev pub word_at : List ℕ → ℕ × List ℕ
word_at bytes = if nat_lt (length bytes) 8 then (0, bytes) else (from_le_bytes w64 (take 8 bytes), drop 8 bytes)

-- a text behind its length
abbrev pub texted : List ℕ → List ℕ
texted text = length text ∷ text

-- the text at the front of bytes, and what is behind it
abbrev pub text_at : List ℕ → List ℕ × List ℕ
text_at [] = ([], [])
text_at (n ∷ bytes) = (take n bytes, drop n bytes)

-- a table's name as it is kept: that of main is left out
abbrev pub kept_name : List ℕ → List ℕ
kept_name name = if pointwise nat_eq name main_name then [] else name

-- the name that is kept so
abbrev pub whole_name : List ℕ → List ℕ
whole_name [] = main_name
whole_name (letter ∷ letters) = letter ∷ letters

abbrev pub name_at : List ℕ → List ℕ × List ℕ
name_at bytes = (whole_name (text_at bytes).0, (text_at bytes).1)

-- a call as bytes: a byte for its kind, and then what it names
abbrev pub call_bytes : TableCall → List ℕ
call_bytes (Get table key) = 1 ∷ texted (kept_name table) ++ word key
call_bytes (Put table key value) = 2 ∷ texted (kept_name table) ++ word key ++ texted value
call_bytes (Del table key) = 3 ∷ texted (kept_name table) ++ word key
call_bytes (Scan table low high) = 4 ∷ texted (kept_name table) ++ word low ++ word high
call_bytes Save = 0 ∷ []
call_bytes (Back save) = 5 ∷ word save

-- the call at the front of bytes, and what is behind it, where its kind is read
abbrev pub get_at : List ℕ → TableCall × List ℕ
get_at bytes = let table = name_at bytes in let key = word_at table.1 in (Get table.0 key.0, key.1)

abbrev pub put_at : List ℕ → TableCall × List ℕ
put_at bytes = let table = name_at bytes in let key = word_at table.1 in let value = text_at key.1 in (Put table.0 key.0 value.0, value.1)

abbrev pub del_at : List ℕ → TableCall × List ℕ
del_at bytes = let table = name_at bytes in let key = word_at table.1 in (Del table.0 key.0, key.1)

abbrev pub scan_at : List ℕ → TableCall × List ℕ
scan_at bytes = let table = name_at bytes in let low = word_at table.1 in let high = word_at low.1 in (Scan table.0 low.0 high.0, high.1)

abbrev pub back_at : List ℕ → TableCall × List ℕ
back_at bytes = let save = word_at bytes in (Back save.0, save.1)

abbrev pub call_of : ℕ → List ℕ → TableCall × List ℕ
call_of kind bytes =
    if nat_eq kind 1 then get_at bytes else
    if nat_eq kind 2 then put_at bytes else
    if nat_eq kind 3 then del_at bytes else
    if nat_eq kind 4 then scan_at bytes else
    if nat_eq kind 5 then back_at bytes else
    (Save, bytes)

-- the call at the front of bytes, and what is behind it
abbrev pub call_at : List ℕ → TableCall × List ℕ
call_at [] = (Save, [])
call_at (kind ∷ bytes) = call_of kind bytes

-- what a caller can name in a call
abbrev pub CanCall : TableCall → Type 0
CanCall (Get table key) = IsName table × (key < 2 ^ 64)
CanCall (Put table key value) = IsName table × (key < 2 ^ 64) × IsValue value
CanCall (Del table key) = IsName table × (key < 2 ^ 64)
CanCall (Scan table low high) = IsName table × (low < 2 ^ 64) × (high < 2 ^ 64)
CanCall (Back save) = save < 2 ^ 32
CanCall call = Unit {0}

-- what a row can have
abbrev pub CanRow : Row → Type 0
CanRow row = (row.0 < 2 ^ 64) × IsValue row.1

-- a row as bytes, and the row at the front of bytes
abbrev pub row_bytes : Row → List ℕ
row_bytes row = word row.0 ++ texted row.1

abbrev pub row_at : List ℕ → Row × List ℕ
row_at bytes = let key = word_at bytes in let value = text_at key.1 in ((key.0, value.0), value.1)

-- so many rows at the front of bytes, and what is behind them
abbrev pub rows_at : ℕ → List ℕ → List Row × List ℕ
rows_at zero bytes = ([], bytes)
rows_at (suc n) bytes = let row = row_at bytes in let rows = rows_at n row.1 in (row.0 ∷ rows.0, rows.1)

-- a reply as bytes: a byte for its kind, and then what it tells
abbrev pub reply_bytes : Reply → List ℕ
reply_bytes Fine = 0 ∷ []
reply_bytes (Found value) = 1 ∷ texted value
reply_bytes Absent = 2 ∷ []
reply_bytes (Listed rows) = 3 ∷ word (length rows) ++ flat_map row_bytes rows
reply_bytes (Saved n) = 4 ∷ word n
reply_bytes (Committed n) = 5 ∷ word n
reply_bytes NoTransaction = 6 ∷ []
reply_bytes NoTable = 7 ∷ []
reply_bytes Already = 8 ∷ []
reply_bytes (NoSave save) = 9 ∷ word save
reply_bytes SavesFull = 10 ∷ []
reply_bytes (Busy holder) = 11 ∷ word holder
reply_bytes (LogFull logger held needed) = 12 ∷ word logger ++ word held ++ word needed
reply_bytes (SlotsFull slots) = 13 ∷ word slots
reply_bytes (PagesFull pages) = 14 ∷ word pages
reply_bytes Media = 15 ∷ []
reply_bytes Dead = 16 ∷ []
reply_bytes NoMemory = 17 ∷ []
reply_bytes (Damaged page) = 18 ∷ word page
reply_bytes (Purged n) = 19 ∷ word n

-- the reply with a number at the front of bytes, and what is behind it
abbrev pub number_at : (ℕ → Reply) → List ℕ → Reply × List ℕ
number_at reply bytes = (reply (word_at bytes).0, (word_at bytes).1)

-- the reply of this kind that tells one number
abbrev pub number_reply : ℕ → ℕ → Reply
number_reply kind n =
    if nat_eq kind 4 then Saved n else
    if nat_eq kind 5 then Committed n else
    if nat_eq kind 9 then NoSave n else
    if nat_eq kind 11 then Busy n else
    if nat_eq kind 13 then SlotsFull n else
    if nat_eq kind 14 then PagesFull n else
    if nat_eq kind 18 then Damaged n else
    Purged n

abbrev pub found_at : List ℕ → Reply × List ℕ
found_at bytes = (Found (text_at bytes).0, (text_at bytes).1)

abbrev pub listed_at : List ℕ → Reply × List ℕ
listed_at bytes = let count = word_at bytes in let rows = rows_at count.0 count.1 in (Listed rows.0, rows.1)

abbrev pub log_full_at : List ℕ → Reply × List ℕ
log_full_at bytes = let logger = word_at bytes in let held = word_at logger.1 in let needed = word_at held.1 in (LogFull logger.0 held.0 needed.0, needed.1)

abbrev pub reply_of : ℕ → List ℕ → Reply × List ℕ
reply_of kind bytes =
    if nat_eq kind 1 then found_at bytes else
    if nat_eq kind 2 then (Absent, bytes) else
    if nat_eq kind 3 then listed_at bytes else
    if nat_eq kind 4 then number_at Saved bytes else
    if nat_eq kind 5 then number_at Committed bytes else
    if nat_eq kind 6 then (NoTransaction, bytes) else
    if nat_eq kind 7 then (NoTable, bytes) else
    if nat_eq kind 8 then (Already, bytes) else
    if nat_eq kind 9 then number_at NoSave bytes else
    if nat_eq kind 10 then (SavesFull, bytes) else
    if nat_eq kind 11 then number_at Busy bytes else
    if nat_eq kind 12 then log_full_at bytes else
    if nat_eq kind 13 then number_at SlotsFull bytes else
    if nat_eq kind 14 then number_at PagesFull bytes else
    if nat_eq kind 15 then (Media, bytes) else
    if nat_eq kind 16 then (Dead, bytes) else
    if nat_eq kind 17 then (NoMemory, bytes) else
    if nat_eq kind 18 then number_at Damaged bytes else
    if nat_eq kind 19 then number_at Purged bytes else
    (Fine, bytes)

-- the reply at the front of bytes, and what is behind it
abbrev pub reply_at : List ℕ → Reply × List ℕ
reply_at [] = (Fine, [])
reply_at (kind ∷ bytes) = reply_of kind bytes

-- the reply lists rows
abbrev pub is_listed : Reply → Bool
is_listed (Listed rows) = true
is_listed reply = false

-- what a reply can tell
abbrev pub CanReply : Reply → Type 0
CanReply (Found value) = IsValue value
CanReply (Listed rows) = (length rows < 2 ^ 64) × All CanRow rows
CanReply (Saved n) = n < 2 ^ 32
CanReply (Committed n) = n < 2 ^ 64
CanReply (NoSave save) = save < 2 ^ 32
CanReply (Busy holder) = holder < 2 ^ 8
CanReply (LogFull logger held needed) = (logger < 2 ^ 8) × (held < 2 ^ 16) × (needed < 2 ^ 16)
CanReply (SlotsFull slots) = slots < 2 ^ 32
CanReply (PagesFull pages) = pages < 2 ^ 32
CanReply (Damaged page) = page < 2 ^ 32
CanReply (Purged n) = n < 2 ^ 32
CanReply reply = Unit {0}

-- a call with its reply as bytes
abbrev pub entry_bytes : TableCall × Reply → List ℕ
entry_bytes entry = call_bytes entry.0 ++ reply_bytes entry.1

abbrev pub CanEnter : TableCall × Reply → Type 0
CanEnter entry = CanCall entry.0 × CanReply entry.1

-- the calls with their replies in bytes, of which at most n are looked at
abbrev pub entries_within : ℕ → List ℕ → List (TableCall × Reply)
entries_within zero bytes = []
entries_within (suc n) [] = []
entries_within (suc n) (kind ∷ bytes) =
    let call = call_at (kind ∷ bytes) in let reply = reply_at call.1 in (call.0, reply.0) ∷ entries_within n reply.1

-- the calls with their replies in bytes
abbrev pub entries_in : List ℕ → List (TableCall × Reply)
entries_in bytes = entries_within (length bytes) bytes

-- The bytes are those of calls with their replies.
pub record ArePacked (bytes : List ℕ) : Type 0 where
  pub whole : bytes ≡ flat_map entry_bytes (entries_in bytes)
  pub able : All CanEnter (entries_in bytes)

-- They are, with room for one more.
pub record HasRoom (bytes : List ℕ) (capacity : ℕ) : Type 0 where
  pub packed : ArePacked bytes
  pub room : length bytes + 137 ≤ capacity
