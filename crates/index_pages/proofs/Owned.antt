-- A slot is of one table.
use Rattle.std.proofs.Common.{◌≡◌, ℕ, ◌≤◌, List, [], ◌∷◌, length, Option, Some, None, sym, ◌∙◌, arith}
use Rattle.record_slots.specs.declared.slot.Slot.{Slot}
use Rattle.record_slots.specs.declared.slot.Slot.TheVariants.{Absent, Present}
use Rattle.record_slots.specs.Places.{slot_of, IsOfKey, Carries, AreGiven}
use Rattle.record_slots.specs.Slots.{slot_said}
use Rattle.page_store.specs.Pairs.{Pair}

-- a slot is of one table
one_table : (slot : Option Slot) (j k a b : ℕ) → IsOfKey j a slot → IsOfKey k b slot → j ≡ k
one_table None j k a b x y = absurd x
one_table (Some (Absent t c)) j k a b x y = sym x.0 ∙ y.0
one_table (Some (Present t c value)) j k a b x y = sym x.0 ∙ y.0

pub carries_table : (bytes : List ℕ) (j k a b slot : ℕ) → Carries bytes j (a, slot) → Carries bytes k (b, slot) → j ≡ k
unfolding Carries
carries_table bytes j k a b slot x y = one_table (slot_said (slot_of bytes slot)) j k a b x y

pub given_once : (bytes : List ℕ) (j k : ℕ) (ps : List Pair) → 1 ≤ length ps → AreGiven bytes j ps → AreGiven bytes k ps → j ≡ k
given_once bytes j k [] some g h = absurd (omega arith)
given_once bytes j k (p ∷ ps) some g h = carries_table bytes j k p.0 p.0 p.1 g.1 h.1
