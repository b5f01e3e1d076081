-- The check of a slot.
use Rattle.std.proofs.Common.{ℕ, ◌<◌, List}
use Rattle.mars_base.specs.Check.{test, IsSingle}
use Rattle.mars_base.proofs.Checks.{test_single, both_single}
use Rattle.record_slots.specs.Places.{next_slot, Carries, slot_page}
use Rattle.page_store.specs.Pairs.{Pair}
use Rattle.index_pages.specs.Slots.{slot_check}

pub slot_single : (bytes : List ℕ) (table page : ℕ) (pair : Pair) → IsSingle (slot_check bytes table page pair)
slot_single bytes table page pair =
    both_single (test (pair.1 < next_slot bytes) page) (test (Carries bytes table pair) (slot_page bytes pair.1)) (test_single (pair.1 < next_slot bytes) page) (test_single (Carries bytes table pair) (slot_page bytes pair.1))
