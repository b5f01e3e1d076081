-- What pages keep true.
use Rattle.std.specs.Prelude.{◌≡◌, false, List, length}
use Rattle.eaw_face.specs.StoreView.{StoreView}
use Rattle.page_store.specs.Kept.{IsOrdered}
use Rattle.page_store.specs.Marked.{Marked}
use Rattle.page_store.specs.Outline.{Outline}
use Rattle.page_store.specs.Shown.{counts_in, top_in}

abbrev pub outline_in : StoreView → List Marked → Outline
outline_in store marks = record { ranges = store.ranges; counts = counts_in marks; top = top_in marks }

-- There are marks for each number. While the store is not dead, no save has more parts than a later one, than there were when an open
-- top action began, or than there are now.
pub record IsSound (store : StoreView) (marks : List Marked) : Type 0 where
  pub many : length marks ≡ store.shape.numbers
  pub ordered : store.is_dead ≡ false → IsOrdered (outline_in store marks)
