-- What the tests of a tree have come to.
use Rattle.std.specs.Prelude.{ℕ, suc, ◌≡◌, List, Option, Some, None}
use Rattle.record_slots.specs.Places.{next_slot, next_page}
use Rattle.record_slots.specs.declared.super_page.Super.{Super}
use Rattle.index_pages.specs.Keys.{key_end}

-- an upper bound; none means the bound above all keys
abbrev pub high_of : Option ℕ → ℕ
high_of None = key_end
high_of (Some high) = high

-- the least key that may follow a last one, or the lower bound if there is none
abbrev pub least_of : ℕ → Option ℕ → ℕ
least_of low None = low
least_of low (Some last) = suc last

-- the counts are those of the data
pub record IsFrontOf (bytes : List ℕ) (front : Super) : Type 0 where
  pub slots : front.next_slot ≡ next_slot bytes
  pub pages : front.next_page ≡ next_page bytes
