-- How a look goes from page to page of an index.
use Rattle.std.specs.Prelude.{ℕ, ◌≡◌, ◌<◌, List, [], ◌∷◌, Option, Some}
use Rattle.std.specs.List.{AllByRecursion}
use Rattle.array_shape.specs.declared.shape.Shape.{Shape}
use Rattle.record_slots.specs.Places.{page_bytes}
use Rattle.page_store.specs.Pairs.{Pair}

-- a page that was read, and what it said then
abbrev pub Reading : Type 0
Reading = ℕ × List ℕ

-- A look that goes from page to page, told by what it has read so far, the last page first: which page it reads next, and which answer it
-- has. At most so many pages are read in an array of a shape.
pub record Course (A : Type 0) : Type 0 where
  pub goes : List Reading → Option ℕ
  pub answer : List Reading → Option A
  pub most : Shape → ℕ

-- each of these pages is the one that was to be read next
abbrev pub IsWay : (List Reading → Option ℕ) → List Reading → Type 0
IsWay goes [] = Unit {0}
IsWay goes (r ∷ rs) = (goes rs ≡ Some r.0) × IsWay goes rs

-- these are pages of an array of so many
abbrev pub AreThere : ℕ → List Reading → Type 0
AreThere count = AllByRecursion (λ r. r.0 < count)

-- they said what the data has there
abbrev pub AreSaid : List ℕ → List Reading → Type 0
AreSaid bytes = AllByRecursion (λ r. r.1 ≡ page_bytes bytes r.0)

-- a page of level 0 with its link and its pairs
pub record LeafSaid : Type 0 where
  pub page : ℕ
  pub link : ℕ
  pub pairs : List Pair
