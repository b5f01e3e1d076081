-- Parts of a nested top action, as pages name them.
use Rattle.std.specs.Prelude.{ℕ, ◌<◌, List, [], ◌∷◌, length}
use Rattle.array_shape.specs.Logged.{Part}
use Rattle.eaw_face.specs.StoreView.{StoreView}
use Rattle.page_store.specs.Shown.{IsInPage, address}
use Rattle.index_pages.specs.declared.action.PagePart.{PagePart}

-- the pages that they lie in
abbrev pub pages_named : List PagePart → List ℕ
pages_named [] = []
pages_named (p ∷ ps) = p.page ∷ pages_named ps

-- the bytes at their addresses
abbrev pub parts_named : List PagePart → List Part
parts_named [] = []
parts_named (p ∷ ps) = (address p.page p.at, p.bytes.now) ∷ parts_named ps

-- each has at least one byte, and lies within its page
abbrev pub AreInPages : StoreView → List PagePart → Type 0
AreInPages store [] = Unit {0}
AreInPages store (p ∷ ps) = (0 < length p.bytes.now) × IsInPage store p.page p.at (length p.bytes.now) × AreInPages store ps
