-- What pages show.
use Rattle.std.specs.Prelude.{ℕ, ◌+◌, ◌*◌, ◌<◌, ◌≤◌, List, [], map, take, slice_get, Option, None, ◌≡◌}
use Rattle.std.specs.Option.{option_map, option_and_then, unwrap_or}
use Rattle.array_shape.specs.Places.{page_count}
use Rattle.array_shape.specs.Logged.{Part}
use Rattle.eaw_face.specs.State.{listed}
use Rattle.eaw_face.specs.StoreView.{StoreView}
use Rattle.page_store.specs.State.{PagesState}
use Rattle.page_store.specs.Marked.{Marked}
use Rattle.page_store.specs.Outline.{Outline}

-- the store below, and what is kept of each number
pub record Shown (S : Type 0) : Type 0 where
  pub store : S
  pub marks : List Marked

-- how many parts each number had at each save, and when an open top action began; a number beyond the array's has neither
abbrev pub counts_in : List Marked → ℕ → List ℕ
counts_in marks t = unwrap_or (option_map (λ m. m.counts) (slice_get marks t)) []

abbrev pub top_in : List Marked → ℕ → Option ℕ
top_in marks t = option_and_then (λ m. m.top) (slice_get marks t)

-- no number has saved, and no top action is open
abbrev pub IsUnmarked : List Marked → Type 0
IsUnmarked marks = (t : ℕ) → (counts_in marks t ≡ []) × (top_in marks t ≡ None)

-- what the store shows; for each number how many parts it had at each of its saves, and how many when an open top action began
pub record PagesView : Type 1 where
  pub store : StoreView
  pub counts : ℕ → List ℕ
  pub top : ℕ → Option ℕ

abbrev pub pages_of : {S : Type 0} → StoreView → Shown S → PagesView
pages_of store shown = record { store = store; counts = counts_in shown.marks; top = top_in shown.marks }

-- where its parts lie, and how many there were at each save
abbrev pub outline_of : PagesView → Outline
outline_of pages = record { ranges = pages.store.ranges; counts = pages.counts; top = pages.top }

-- The model's state. A number's list at a save is the first parts of its list now, since no call disturbs these.
abbrev pub saved_of : List Part → List ℕ → List (List Part)
saved_of log counts = map (λ count. take count log) counts

abbrev pub state_of : PagesView → PagesState
state_of pages = record { store = pages.store.state; saved = λ t. saved_of (listed (pages.store.state.logs t)) (pages.counts t); top = pages.top }

-- the address of a place in a page
abbrev pub address : ℕ → ℕ → ℕ
address page at = 512 * page + at

-- a range within a page of the data
pub record IsInPage (store : StoreView) (page at len : ℕ) : Type 0 where
  pub there : page < page_count store.shape
  pub within : at + len ≤ 512
