-- Slots that stay given.
use Rattle.std.proofs.Common.{ℕ, List, [], ◌∷◌, arith}
use Rattle.index_pages.specs.Ways.{Keeps}
use Rattle.page_store.specs.Pairs.{Pair}
use Rattle.record_slots.specs.Places.{AreGiven}

module _ (old new : List ℕ) (keeps : Keeps old new) where
  pub given_kept : (table : ℕ) (ps : List Pair) → AreGiven old table ps → AreGiven new table ps
  given_kept table [] g = tt
  given_kept table (p ∷ ps) g = (omega (arith, g.0, keeps.slots), keeps.carried table p g.0 g.1, given_kept table ps g.2)
