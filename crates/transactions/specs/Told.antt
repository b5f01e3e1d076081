-- Which reply of a core the result of a call tells.
use Rattle.std.specs.Prelude.{ℕ, Bool, true, false, List, Option, Some, None, Result, Ok, Err}
use Rattle.history.specs.Writes.{Row}
use Rattle.history.specs.declared.call.Reply.{Reply}
use Rattle.history.specs.declared.call.Reply.TheVariants as reply
use Rattle.transactions.specs.declared.refusal.Refusal.{Refusal}
use Rattle.transactions.specs.declared.refusal.Refusal.TheVariants.{NoTransaction, NoTable, Already, NoSave, SavesFull, Busy, LogFull, SlotsFull, PagesFull, Media, Dead, NoMemory, Damaged, Strange}

-- the reply that a refusal tells
abbrev pub reply_of : Refusal → Reply
reply_of NoTransaction = reply.NoTransaction
reply_of NoTable = reply.NoTable
reply_of Already = reply.Already
reply_of (NoSave n) = reply.NoSave n
reply_of SavesFull = reply.SavesFull
reply_of (Busy holder) = reply.Busy holder
reply_of (LogFull logger held needed) = reply.LogFull logger held needed
reply_of (SlotsFull slots) = reply.SlotsFull slots
reply_of (PagesFull pages) = reply.PagesFull pages
reply_of Media = reply.Media
reply_of Dead = reply.Dead
reply_of NoMemory = reply.NoMemory
reply_of (Damaged page) = reply.Damaged page
reply_of (Strange other) = other

-- the refusal that a reply is told as, one for each reply that is no answer to any call
abbrev pub refusal_of : Reply → Refusal
refusal_of reply.NoTransaction = NoTransaction
refusal_of reply.NoTable = NoTable
refusal_of reply.Already = Already
refusal_of (reply.NoSave n) = NoSave n
refusal_of reply.SavesFull = SavesFull
refusal_of (reply.Busy holder) = Busy holder
refusal_of (reply.LogFull logger held needed) = LogFull logger held needed
refusal_of (reply.SlotsFull slots) = SlotsFull slots
refusal_of (reply.PagesFull pages) = PagesFull pages
refusal_of reply.Media = Media
refusal_of reply.Dead = Dead
refusal_of reply.NoMemory = NoMemory
refusal_of (reply.Damaged page) = Damaged page
refusal_of other = Strange other

-- of a call without an answer of its own
abbrev pub told_done : {A : Type 0} → Result A Refusal → Reply
told_done (Ok done) = reply.Fine
told_done (Err refusal) = reply_of refusal

-- of a get: the value, or that there is none
abbrev pub told_get : Result (Option (List ℕ)) Refusal → Reply
told_get (Ok (Some value)) = reply.Found value
told_get (Ok None) = reply.Absent
told_get (Err refusal) = reply_of refusal

-- of a removal: whether there was a record
abbrev pub told_del : Result Bool Refusal → Reply
told_del (Ok true) = reply.Fine
told_del (Ok false) = reply.Absent
told_del (Err refusal) = reply_of refusal

-- of a scan: the records
abbrev pub told_scan : Result (List Row) Refusal → Reply
told_scan (Ok rows) = reply.Listed rows
told_scan (Err refusal) = reply_of refusal

-- of a save: how many there are now
abbrev pub told_save : Result ℕ Refusal → Reply
told_save (Ok saves) = reply.Saved saves
told_save (Err refusal) = reply_of refusal

-- of a commit: the number of the transaction
abbrev pub told_commit : Result ℕ Refusal → Reply
told_commit (Ok at) = reply.Committed at
told_commit (Err refusal) = reply_of refusal
