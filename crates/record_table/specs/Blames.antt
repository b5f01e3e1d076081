-- Which page an answer names as damaged, over any store.
use Rattle.std.specs.Prelude.{ℕ, ◌≡◌, ◌<◌, Result, Ok, Err}
use Rattle.array_shape.specs.Places.{page_count}
use Rattle.array_shape.specs.declared.shape.Shape.{Shape}
use Rattle.page_store.specs.declared.fault.PageFault.{PageFault}
use Rattle.page_store.specs.declared.fault.PageFault.TheVariants as page
use Rattle.record_table.specs.declared.fault.TableFault.{TableFault}
use Rattle.record_table.specs.declared.fault.TableFault.TheVariants.{Damaged}
use Rattle.record_table.specs.declared.making.MakeFault.{MakeFault}
use Rattle.record_table.specs.declared.making.MakeFault.TheVariants as make

-- it is one of the array
abbrev pub BlamesOne : {T : Type 0} → Shape → Result T TableFault → Type 0
BlamesOne shape (Err (Damaged page)) = page < page_count shape
BlamesOne shape _ = Unit {0}

-- it is the super page
abbrev pub BlamesFront : {T : Type 0} → Result T PageFault → Type 0
BlamesFront (Err (page.Damaged bad)) = bad ≡ 0
BlamesFront _ = Unit {0}

-- so of an upgrade
abbrev pub BlamesFrontHere : {T : Type 0} → Result T TableFault → Type 0
BlamesFrontHere (Err (Damaged page)) = page ≡ 0
BlamesFrontHere _ = Unit {0}

-- and of the making of a table
abbrev pub BlamesFrontMade : Result ℕ MakeFault → Type 0
BlamesFrontMade (Err (make.Damaged page)) = page ≡ 0
BlamesFrontMade _ = Unit {0}
