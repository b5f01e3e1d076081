-- What is seen of deferred parts.
use Rattle.std.specs.Prelude.{ℕ, ◌≡◌, ◌≢◌, ◌+◌, ◌*◌, List, length, sum_by, vec_capacity}
use Rattle.array_shape.specs.declared.shape.Shape.{Shape}
use Rattle.array_shape.specs.Places.{page_count}
use Rattle.write_back.specs.declared.entry.Entry.{Entry}
use Rattle.write_back.specs.declared.deferred.DeferredParts.{DeferredParts}
use Rattle.write_back.specs.Kept.{entries_at}

-- the shape of their array
abbrev pub shape_of : DeferredParts → Shape
shape_of parts = parts.shape

-- the entries of each number's deferred commit, in the order in which they are applied; none if it has no such commit
abbrev pub entries_of : DeferredParts → ℕ → List Entry
entries_of parts t = entries_at parts.table.items t

-- there is a place for each number
abbrev pub HasPlaces : DeferredParts → Type 0
HasPlaces parts = length parts.table.items ≡ parts.shape.numbers

-- the bytes of memory that are taken: of the table, of the entries, of the masks
abbrev pub memory_of : DeferredParts → ℕ
memory_of parts = 24 * vec_capacity parts.table + 16 * sum_by (λ n. vec_capacity n.entries) parts.table.items + 8 * vec_capacity parts.masks

-- how many an array of a shape needs
abbrev pub memory_for : Shape → ℕ
memory_for shape = 24 * shape.numbers + 16 * (shape.numbers * (shape.loggers * shape.entries)) + 8 * page_count shape

-- number t has these entries now, and all else is as it was
pub record Sets (old new : DeferredParts) (t : ℕ) (es : List Entry) : Type 0 where
  pub shape : shape_of new ≡ shape_of old
  pub places : HasPlaces old → HasPlaces new
  pub here : entries_of new t ≡ es
  pub others : (u : ℕ) → u ≢ t → entries_of new u ≡ entries_of old u
