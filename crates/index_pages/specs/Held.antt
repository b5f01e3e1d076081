-- A page that is held.
use Rattle.std.specs.Prelude.{ℕ, ◌≡◌, List, Option, Some, None}
use Rattle.record_slots.specs.Places.{page_bytes}
use Rattle.index_pages.specs.declared.held.HeldPage.{HeldPage}

-- bytes that are held of a page, if any are, are that page's
abbrev pub AreOf : List ℕ → List ℕ → Option ℕ → Type 0
AreOf bytes buf None = Unit {0}
AreOf bytes buf (Some page) = buf ≡ page_bytes bytes page

-- what is held is as in the data
abbrev pub IsHeld : List ℕ → HeldPage → Type 0
IsHeld bytes held = AreOf bytes held.bytes held.page
