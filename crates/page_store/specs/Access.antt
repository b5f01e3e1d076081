-- How what an index has is looked up and tested.
use Rattle.std.specs.Prelude.{ℕ, List, Option}
use Rattle.array_shape.specs.declared.shape.Shape.{Shape}
use Rattle.page_store.specs.Course.{Reading, Course, LeafSaid}
use Rattle.page_store.specs.Pairs.{Pair}
use Rattle.page_store.specs.Tested.{Plan}

-- How an index is read. Of the index of one table, told by its root: whether a page of level 0 with this link and these pairs is the one that a
-- key goes into, and no page on the way there is full; how a look goes that finds the slot of a key, and one that finds the pairs that come next
-- from a key on. Further, which page a key goes into that is not there, as the pages say that a look for it read; and how the test of the
-- indexes of all tables goes in an array of a shape.
pub record Access : Type 1 where
  pub fits : List ℕ → (root key page link : ℕ) → List Pair → Type 0
  pub finding : ℕ → ℕ → Course (Option ℕ)
  pub nexting : ℕ → ℕ → Course (List Pair)
  pub placing : ℕ → List Reading → Option LeafSaid
  pub testing : Shape → Plan
