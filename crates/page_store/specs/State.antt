-- The model of pages: data and logs of a store, the saves of each number, and the open top actions.
use Rattle.std.specs.Prelude.{ℕ, ◌-◌, max, nat_eq, if◌then◌else◌, List, [], length, slice_index_or, Option}
use Rattle.std.specs.Option.{unwrap_or}
use Rattle.array_shape.specs.Logged.{Part, applied}
use Rattle.eaw_face.specs.State.{State, listed}

-- Data and logs; for each number its parts as they were at each of its saves, the first save first; for each number with an
-- open top action how many parts it had when that began.
pub record PagesState : Type 0 where
  pub store : State
  pub saved : ℕ → List (List Part)
  pub top : ℕ → Option ℕ

-- the parts of a number: none if it is not live
abbrev pub log_of : PagesState → ℕ → List Part
log_of s t = listed (s.store.logs t)

-- what a number sees: the data with its parts written
abbrev pub view_of : ℕ → PagesState → List ℕ
view_of t s = applied (log_of s t) s.store.bytes

-- this for number t, and what it was for the others
abbrev pub with_one : {A : Type 0} → (ℕ → A) → ℕ → A → ℕ → A
with_one f t x u = if nat_eq u t then x else f u

-- the parts at save n, counted from 1; none if there is no such save
abbrev pub save_at : List (List Part) → ℕ → List Part
save_at saved n = slice_index_or saved (n - 1) []

-- the floor: how many parts of a number no write edits, those of its last save and those from before an open top action
abbrev pub floor_of : PagesState → ℕ → ℕ
floor_of s t = max (length (save_at (s.saved t) (length (s.saved t)))) (unwrap_or (s.top t) 0)
