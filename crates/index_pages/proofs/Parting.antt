-- The parts of an action lie within their pages.
use Rattle.std.proofs.Common.{◌≡◌, ℕ, ◌+◌, ◌*◌, ◌/◌, ◌%◌, ◌-◌, ◌<◌, ◌≤◌, List, [], ◌∷◌, length, take, drop, sym, ap, ◌∙◌, subst, arith}
use Rattle.std.proofs.lemmas.List.{take_all, length-drop}
use Rattle.array_shape.specs.declared.shape.Shape.{Shape}
use Rattle.array_shape.specs.Logged.{Part}
use Rattle.array_shape.specs.Places.{page_count}
use Rattle.eaw_face.specs.StoreView.{StoreView}
use Rattle.page_store.specs.Index.{slots_of, index_pages_of}
use Rattle.page_store.specs.Pairs.{Pair}
use Rattle.page_store.specs.Shown.{IsInPage, address}
use Rattle.record_slots.specs.declared.super_page.Super.{Super}
use Rattle.index_pages.specs.Fetched.{IsFront}

pub page_there : (shape : Shape) (page : ℕ) → page < index_pages_of shape → page < page_count shape
page_there shape page inside = omega arith

pub super_there : (shape : Shape) (front : Super) → IsFront shape front → 0 < page_count shape
super_there shape front is = omega (arith, is.some, is.pages)

pub slot_there : (shape : Shape) (half slot : ℕ) → half + half ≡ page_count shape → slot < slots_of shape → half + slot / 8 < page_count shape
slot_there shape half slot all less = omega arith

pub slot_within : (slot : ℕ) → slot % 8 * 64 + 64 ≤ 512
slot_within slot = omega arith

pub next_less : (n all : ℕ) → n + 1 < all → n < all
next_less n all less = omega arith

-- bytes of a known length at a place of a page
pub part_in : (store : StoreView) (page at len : ℕ) (bytes : List ℕ) (page' at' : ℕ) (bytes' : List ℕ) → page' ≡ page → at' ≡ at → bytes' ≡ bytes → length bytes ≡ len → 0 < len → at + len ≤ 512 → page < page_count store.shape
    → (0 < length bytes') × IsInPage store page' at' (length bytes')
part_in store page at len bytes page' at' bytes' page_is at_is bytes_are long some within there =
    let long' : length bytes' ≡ len = ap (λ (b : List ℕ). length b) bytes_are ∙ long in
    (subst (λ (n : ℕ). 0 < n) (sym long') some, record { there = subst (λ (n : ℕ). n < page_count store.shape) (sym page_is) there; within = omega (arith, at_is, long') })

-- everything after the first n pairs
pub all_behind : (ps : List Pair) (n : ℕ) → take (length ps - n) (drop n ps) ≡ drop n ps
all_behind ps n = take_all (length ps - n) (drop n ps) (omega (arith, length-drop n ps))

pub same_part : (p p' at at' : ℕ) (b b' : List ℕ) → p ≡ p' → at ≡ at' → b ≡ b' → ◌≡◌ {A = Part} (address p at, b) (address p' at', b')
same_part p p' at at' b b' e f h = cc

pub same_four : {A : Type 0} (a a' b b' c c' d d' : A) → a ≡ a' → b ≡ b' → c ≡ c' → d ≡ d' → (a ∷ b ∷ c ∷ d ∷ []) ≡ (a' ∷ b' ∷ c' ∷ d' ∷ [])
same_four a a' b b' c c' d d' e f h k = cc
