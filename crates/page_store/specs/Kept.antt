-- What holds of pages between any two commands, and when a command may be given.
use Rattle.std.specs.Prelude.{ℕ, ◌≡◌, ◌<◌, ◌≤◌, true, false, List, [], length, take, slice_index_or, Option, Some, None}
use Rattle.std.specs.Option.{unwrap_or}
use Rattle.array_shape.specs.declared.shape.Shape.{Shape}
use Rattle.array_shape.specs.Places.{data_len, IsPlaced}
use Rattle.array_shape.specs.Logged.{Part, AllPlaced}
use Rattle.eaw_face.specs.State.{listed, is_one_of}
use Rattle.page_store.specs.Ready.{IsFreeWrite}
use Rattle.page_store.specs.State.{PagesState, log_of}
use Rattle.page_store.specs.Outline.{Outline}
use Rattle.page_store.specs.Command.{PageCommand, write_as, save, back, top_begin, top_end, end, end_group, atomic_write, read_as, read}

-- a list is the first parts of a log
abbrev pub IsFront : List Part → List Part → Type 0
IsFront front log = take (length front) log ≡ front

-- Of one number: each saved list is the first parts of the list now, and none is shorter than an earlier one; an open top action
-- began at no more parts than there are now, and at no fewer than a saved list has; each part is nonempty, within one page.
pub record IsKeptOf (shape : Shape) (saved : List (List Part)) (top : Option ℕ) (log : List Part) : Type 0 where
  pub fronts : (i : ℕ) → i < length saved → IsFront (slice_index_or saved i []) log
  pub rising : (i j : ℕ) → i ≤ j → j < length saved → length (slice_index_or saved i []) ≤ length (slice_index_or saved j [])
  pub mark : unwrap_or top 0 ≤ length log
  pub before : (i : ℕ) → i < length saved → length (slice_index_or saved i []) ≤ unwrap_or top (length log)
  pub placed : AllPlaced shape log

-- so for each number, and the data has the length that the shape says
pub record IsKept (shape : Shape) (s : PagesState) : Type 0 where
  pub long : length s.store.bytes ≡ data_len shape
  pub each : (t : ℕ) → IsKeptOf shape (s.saved t) (s.top t) (log_of s t)

-- The same of counts alone, which is what is known of any store: no save has more parts than a later one, than there were when an
-- open top action began, or than there are now, and that action began at no more than there are now.
pub record IsOrderedOf (counts : List ℕ) (top : Option ℕ) (now : ℕ) : Type 0 where
  pub rising : (i j : ℕ) → i ≤ j → j < length counts → slice_index_or counts i 0 ≤ slice_index_or counts j 0
  pub mark : unwrap_or top 0 ≤ now
  pub before : (i : ℕ) → i < length counts → slice_index_or counts i 0 ≤ unwrap_or top now

abbrev pub IsOrdered : Outline → Type 0
IsOrdered o = (t : ℕ) → IsOrderedOf (o.counts t) (o.top t) (length (listed (o.ranges t)))

-- What a caller owes: a nonempty range within a page; a save that exists; one top action at a time, with no save, way back
-- or end inside it; a write that commits by itself anywhere in the data, by a number that is not live.
abbrev pub IsAllowed : Shape → PageCommand → Outline → Type 0
IsAllowed shape (write_as t addr bytes) o = IsPlaced shape addr (length bytes)
IsAllowed shape (save t) o = o.top t ≡ None
IsAllowed shape (back t n) o = (0 < n) × (n ≤ length (o.counts t)) × (o.top t ≡ None)
IsAllowed shape (top_begin t) o = o.top t ≡ None
IsAllowed shape (top_end t mark) o = o.top t ≡ Some mark
IsAllowed shape (end t commits) o = o.top t ≡ None
IsAllowed shape (end_group ts) o = (t : ℕ) → is_one_of ts t ≡ true → o.top t ≡ None
IsAllowed shape (atomic_write t addr bytes) o = IsFreeWrite shape o.ranges t addr (length bytes)
IsAllowed shape (read_as t) o = Unit {0}
IsAllowed shape read o = Unit {0}

-- a command leaves save n of number t: it is not a way back to an earlier save of t, and not the end of t
abbrev pub Spares : PageCommand → ℕ → ℕ → Type 0
Spares (write_as u addr bytes) t n = Unit {0}
Spares (save u) t n = Unit {0}
Spares (back u m) t n = u ≡ t → n ≤ m
Spares (top_begin u) t n = Unit {0}
Spares (top_end u mark) t n = Unit {0}
Spares (end u commits) t n = u ≡ t → ⊥
Spares (end_group us) t n = is_one_of us t ≡ false
Spares (atomic_write u addr bytes) t n = Unit {0}
Spares (read_as u) t n = Unit {0}
Spares read t n = Unit {0}
