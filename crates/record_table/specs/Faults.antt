-- Refusals of pages and of insertions in terms of records, and those of records as replies.
use Rattle.std.specs.Prelude.{Result, Ok, Err}
use Rattle.history.specs.declared.call.Reply.{Reply}
use Rattle.history.specs.declared.call.Reply.TheVariants as reply
use Rattle.page_store.specs.declared.fault.PageFault.{PageFault}
use Rattle.page_store.specs.declared.fault.PageFault.TheVariants as page
use Rattle.page_store.specs.declared.index_fault.IndexFault.{IndexFault}
use Rattle.page_store.specs.declared.index_fault.IndexFault.TheVariants as insert
use Rattle.record_table.specs.declared.fault.TableFault.{TableFault}
use Rattle.record_table.specs.declared.fault.TableFault.TheVariants.{SlotsFull, PagesFull, SavesFull, LogFull, Media, Dead, Damaged, NoMemory}

abbrev pub as_table : PageFault → TableFault
as_table (page.LogFull g h n) = LogFull g h n
as_table page.SavesFull = SavesFull
as_table page.Media = Media
as_table page.Dead = Dead
as_table (page.Damaged bad) = Damaged bad

-- an answer of pages, in terms of records
abbrev pub told_as : {T : Type 0} → Result T PageFault → Result T TableFault
told_as (Ok answer) = Ok answer
told_as (Err fault) = Err (as_table fault)

abbrev pub inserted_as : IndexFault → TableFault
inserted_as (insert.SlotsFull n) = SlotsFull n
inserted_as (insert.PagesFull n) = PagesFull n
inserted_as (insert.LogFull g h n) = LogFull g h n
inserted_as insert.Media = Media
inserted_as insert.Dead = Dead
inserted_as (insert.Damaged bad) = Damaged bad

-- a refusal of records as a reply
abbrev pub reply_to : TableFault → Reply
reply_to (SlotsFull n) = reply.SlotsFull n
reply_to (PagesFull n) = reply.PagesFull n
reply_to SavesFull = reply.SavesFull
reply_to (LogFull g h n) = reply.LogFull g h n
reply_to Media = reply.Media
reply_to Dead = reply.Dead
reply_to (Damaged page) = reply.Damaged page
reply_to NoMemory = reply.NoMemory
