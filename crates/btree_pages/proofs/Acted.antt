-- The parts of the actions lie in their pages, one in each.
use Rattle.std.proofs.Common.{◌≡◌, ℕ, suc, nat_lt, true, false, ◌⊎◌, inl, inr, List, refl, ◌∙◌, arith}
use Rattle.std.specs.List.{AllZip}
use Rattle.std.proofs.lemmas.Bool.Decides.{leb_tells}
use Rattle.record_slots.specs.declared.super_page.Super.{Super}
use Rattle.page_store.specs.Pairs.{Pair}
use Rattle.page_store.specs.Works.{LiesIn, IsAmong}
use Rattle.index_pages.specs.Keys.{key_at}
use Rattle.index_pages.specs.Actions.{half_for}
use Rattle.btree_pages.specs.Writes.{cutting_pages, cutting_parts, growing_pages, growing_parts}

pub cutting_in : (after : Super) (page level : ℕ) (pairs : List Pair) (key taken parent : ℕ) (above : List Pair) → AllZip LiesIn (cutting_pages page taken parent) (cutting_parts after page level pairs key taken parent above)
cutting_in after page level pairs key taken parent above = ((0, omega arith, refl), ((0, omega arith, refl), ((0, omega arith, refl), ((8, omega arith, refl), tt))))

pub growing_in : (after : Super) (left right root level : ℕ) (pairs : List Pair) (key : ℕ) → AllZip LiesIn (growing_pages left right root) (growing_parts after left right root level pairs key)
growing_in after left right root level pairs key = ((0, omega arith, refl), ((0, omega arith, refl), ((0, omega arith, refl), ((8, omega arith, refl), tt))))

-- the half that has the key is one of the pages that the split writes
pub half_one : (pairs : List Pair) (left right key half : ℕ) → half ≡ half_for pairs left right key → (half ≡ left) ⊎ (half ≡ right)
half_one pairs left right key half is = elim (leb_tells (suc key) (key_at pairs 15)) [
  | inl h ↦ let b : nat_lt key (key_at pairs 15) ≡ true = h.0 in inl (is ∙ (rw b refl))
  | inr h ↦ let b : nat_lt key (key_at pairs 15) ≡ false = h.0 in inr (is ∙ (rw b refl))
]

pub half_among : (child taken parent key half : ℕ) (pairs : List Pair) → half ≡ half_for pairs child taken key → IsAmong half (cutting_pages child taken parent)
half_among child taken parent key half pairs is = elim (half_one pairs child taken key half is) [ inl e ↦ inl e | inr e ↦ inr (inl e) ]

pub root_half_among : (left right root key half : ℕ) (pairs : List Pair) → half ≡ half_for pairs left right key → IsAmong half (growing_pages left right root)
root_half_among left right root key half pairs is = elim (half_one pairs left right key half is) [ inl e ↦ inl e | inr e ↦ inr (inl e) ]
