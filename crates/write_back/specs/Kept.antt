-- What is kept in memory of deferred parts: the entries of each number, and for each page the numbers that have a part on it.
use Rattle.std.specs.Prelude.{ℕ, zero, suc, ◌≡◌, ◌*◌, ◌/◌, ◌<◌, ◌≤◌, Bool, nat_eq, List, [], ◌∷◌, length, slice_get, slice_index, vec_capacity, All}
use Rattle.std.specs.List.{list_any}
use Rattle.std.specs.Option.{ForSome}
use Rattle.array_shape.specs.declared.shape.Shape.{Shape}
use Rattle.array_shape.specs.Places.{page_count}
use Rattle.array_shape.specs.NumberSet.{has}
use Rattle.write_back.specs.declared.entry.Entry.{Entry}
use Rattle.write_back.specs.declared.deferred.NumberParts.{NumberParts}
use Rattle.write_back.specs.Entries.{IsEntry}

-- the entries of number t; none where the table has no place for it
abbrev pub entries_at : List NumberParts → ℕ → List Entry
entries_at [] t = []
entries_at (n ∷ ns) zero = n.entries.items
entries_at (n ∷ ns) (suc t) = entries_at ns t

-- one of the entries lies on page p
abbrev pub lies_on : ℕ → List Entry → Bool
lies_on p es = list_any (λ e. nat_eq (e.addr / 512) p) es

-- a place of the table has memory for all entries of a number
abbrev pub HasMemory : Shape → NumberParts → Type 0
HasMemory shape n = shape.loggers * shape.entries ≤ vec_capacity n.entries

-- Each part lies in one page, and the mask of each page has just the numbers with a part on it. Where the table has a place for a number
-- there is memory for its entries, and a mask for each page.
pub record IsKept (shape : Shape) (table : List NumberParts) (masks : List ℕ) : Type 0 where
  pub entries : (t : ℕ) → All (IsEntry shape) (entries_at table t)
  pub marked : (p t : ℕ) → t < 64 → has (slice_index masks p) t ≡ lies_on p (entries_at table t)
  pub memory : (t : ℕ) → ForSome (slice_get table t) (HasMemory shape)
  pub pages : 0 < length table → length masks ≡ page_count shape

-- a place without entries, with just this memory
pub record IsFree (shape : Shape) (n : NumberParts) : Type 0 where
  pub none : n.entries.items ≡ []
  pub exact : vec_capacity n.entries ≡ shape.loggers * shape.entries
