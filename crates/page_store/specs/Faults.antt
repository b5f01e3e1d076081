-- A fault of pages, as an insertion gives it, and as a check does.
use Rattle.page_store.specs.declared.fault.PageFault.{PageFault}
use Rattle.page_store.specs.declared.fault.PageFault.TheVariants as page
use Rattle.page_store.specs.declared.index_fault.IndexFault.{IndexFault}
use Rattle.page_store.specs.declared.index_fault.IndexFault.TheVariants as index
use Rattle.page_store.specs.declared.index_fault.CheckFault.{CheckFault}
use Rattle.page_store.specs.declared.index_fault.CheckFault.TheVariants as check

-- an insertion makes no save
abbrev pub as_index : PageFault → IndexFault
as_index (page.LogFull g h n) = index.LogFull g h n
as_index page.SavesFull = index.Dead
as_index page.Media = index.Media
as_index page.Dead = index.Dead
as_index (page.Damaged bad) = index.Damaged bad

-- a check only reads
abbrev pub as_check : PageFault → CheckFault
as_check page.Media = check.Media
as_check (page.Damaged bad) = check.Damaged bad
as_check _ = check.Dead
