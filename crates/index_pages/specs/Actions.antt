-- What an index of either form writes to insert and to remove a pair.
use Rattle.std.specs.Prelude.{ℕ, nat_lt, if◌then◌else◌, List, [], ◌∷◌, slice_index_or}
use Rattle.record_slots.specs.Places.{slot_page, slot_due}
use Rattle.page_store.specs.Index.{Action}
use Rattle.page_store.specs.Pairs.{Pair}

-- adding a pair: the slot that is due, the page that the pair goes into, the super page
abbrev pub adding : List ℕ → ℕ → Action
adding bytes page = record { pages = slot_page bytes (slot_due bytes) ∷ page ∷ 0 ∷ []; takes = 0 }

-- losing a pair: its slot, its page, the super page
abbrev pub losing : List ℕ → ℕ → ℕ → List ℕ
losing bytes slot page = slot_page bytes slot ∷ page ∷ 0 ∷ []

-- what a key gets of two when 30 pairs are cut: what stays with the lower 15, or what goes with the upper 15
abbrev pub half_for : {T : Type 0} → List Pair → T → T → ℕ → T
half_for pairs lower upper key = if nat_lt key (slice_index_or pairs 15 (0, 0)).0 then lower else upper
