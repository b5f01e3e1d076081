-- Commands one after another.
use Rattle.std.specs.Prelude.{ℕ, List, [], ◌∷◌, length, None}
use Rattle.array_shape.specs.declared.shape.Shape.{Shape}
use Rattle.array_shape.specs.Logged.{Part}
use Rattle.page_store.specs.State.{PagesState, log_of}
use Rattle.page_store.specs.Command.{PageCommand, write_as, top_begin, top_end, after}
use Rattle.page_store.specs.Outline.{outline}
use Rattle.page_store.specs.Kept.{IsAllowed, Spares}

-- over this data no number is live
abbrev pub fresh : List ℕ → PagesState
fresh bytes = record { store = record { bytes = bytes; logs = λ t. None }; saved = λ t. []; top = λ t. None }

-- the state after them
abbrev pub played : List PageCommand → PagesState → PagesState
played [] s = s
played (c ∷ cs) s = played cs (after c s)

-- each may be given in the state in which it comes
abbrev pub AreAllowed : Shape → List PageCommand → PagesState → Type 0
AreAllowed shape [] s = Unit {0}
AreAllowed shape (c ∷ cs) s = IsAllowed shape c (outline s) × AreAllowed shape cs (after c s)

-- each leaves save n of number t
abbrev pub AllSpare : List PageCommand → ℕ → ℕ → Type 0
AllSpare [] t n = Unit {0}
AllSpare (c ∷ cs) t n = Spares c t n × AllSpare cs t n

-- these parts written one after another as number t
abbrev pub writes_as : ℕ → List Part → List PageCommand
writes_as t [] = []
writes_as t (p ∷ ps) = write_as t p.0 p.1 ∷ writes_as t ps

-- the same within one top action
abbrev pub top_of : ℕ → List Part → PagesState → PagesState
top_of t parts s = after (top_end t (length (log_of s t))) (played (writes_as t parts) (after (top_begin t) s))
