-- An index for the rest of an insertion, once it is known how many pages that may have given out.
use Rattle.std.specs.Prelude.{ℕ, ◌≤◌, List}
use Rattle.record_slots.specs.Places.{next_page}
use Rattle.page_store.specs.Index.{Action, Index}

-- sound data has at most this many pages given out, and these actions are left
abbrev pub within : Index → ℕ → (List ℕ → ℕ → ℕ → List Action) → Index
within index most actions = record index { sound = λ bytes. index.sound bytes × (next_page bytes ≤ most); actions = actions }
