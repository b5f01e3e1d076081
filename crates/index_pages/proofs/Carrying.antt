-- What a slot says of a pair.
use Rattle.std.proofs.Common.{◌≡◌, ℕ, ◌^◌, ◌<◌, List, Option, Some, None, refl, sym, ◌∙◌, ap, subst}
use Rattle.record_slots.specs.Slots.{slot_said, slot_bytes}
use Rattle.record_slots.specs.Places.{slot_of, free_slot_of, IsOfKey, Carries}
use Rattle.record_slots.specs.declared.free.Free.{Free}
use Rattle.record_slots.specs.declared.slot.Slot.{Slot}
use Rattle.record_slots.specs.declared.slot.Slot.TheVariants.{Absent}
use Rattle.record_slots.proofs.SlotLemmas.{slot_said-slot_bytes, free_says_none}
use Rattle.page_store.specs.Pairs.{Pair}

pub carries_said : (bytes : List ℕ) (table key slot : ℕ) (said : Option Slot) → said ≡ slot_said (slot_of bytes slot) → IsOfKey table key said → Carries bytes table (key, slot)
unfolding Carries
carries_said bytes table key slot said is of_key = subst (λ (o : Option Slot). IsOfKey table key o) is of_key

pub carries_not : (bytes : List ℕ) (table key slot : ℕ) (said : Option Slot) → said ≡ slot_said (slot_of bytes slot) → (IsOfKey table key said → ⊥) → ¬ Carries bytes table (key, slot)
unfolding Carries
carries_not bytes table key slot said is other carries = other (subst (λ (o : Option Slot). IsOfKey table key o) (sym is) carries)

-- it carries its key if it is as it was
pub carries_on : (old new : List ℕ) (table : ℕ) (p : Pair) → slot_of new p.1 ≡ slot_of old p.1 → Carries old table p → Carries new table p
unfolding Carries
carries_on old new table p same carries = subst (λ (b : List ℕ). IsOfKey table p.0 (slot_said b)) (sym same) carries

-- a fresh slot carries its key
pub carries_absent : (new : List ℕ) (table key slot : ℕ) → table < 8 → key < 2 ^ 64 → slot_of new slot ≡ slot_bytes (Absent table key) → Carries new table (key, slot)
unfolding Carries
carries_absent new table key slot small fits is = subst (λ (o : Option Slot). IsOfKey table key o) (sym (ap slot_said is ∙ slot_said-slot_bytes (Absent table key) (small, fits))) (refl, refl)

-- a slot that says nothing carries no key
pub none_carries : (bytes : List ℕ) (table : ℕ) (p : Pair) → slot_said (slot_of bytes p.1) ≡ None → ¬ Carries bytes table p
unfolding Carries
none_carries bytes table p none carries = subst (λ (o : Option Slot). IsOfKey table p.0 o) none carries

-- a free slot carries no key
pub free_carries : (bytes : List ℕ) (table : ℕ) (p : Pair) (free : Free) → free_slot_of bytes p.1 ≡ Some free → ¬ Carries bytes table p
free_carries bytes table p free is = none_carries bytes table p (free_says_none (slot_of bytes p.1) free is)
