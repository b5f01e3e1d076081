-- What the page of a key leads it to, and the page as a place.
use Rattle.std.proofs.Common.{◌≡◌, ◌≢◌, ℕ, ◌<◌, ◌≤◌, true, false, nat_eq, nat_lt, List, [], ◌∷◌, length, Option, Some, None, inl, inr, refl, sym, ◌∙◌, ap, subst, arith}
use Rattle.std.proofs.lemmas.Bool.Decides.{nat_tests, eqb_tells}
use Rattle.array_shape.specs.declared.shape.Shape.{Shape}
use Rattle.std.specs.Option.{option_map}
use Rattle.page_store.specs.Course.{Reading, LeafSaid}
use Rattle.page_store.specs.Index.{index_pages_of}
use Rattle.page_store.specs.Pairs.{Pair, Rise, found, next}
use Rattle.page_store.specs.Placed.{IsPlaceSaid, IsSoughtFor, IsSoughtIn, slot_sought}
use Rattle.page_store.specs.declared.leaf_page.Sought.{Sought}
use Rattle.page_store.specs.declared.leaf_page.Sought.TheVariants.{Slot, Place, Split}
use Rattle.record_slots.specs.Places.{page_bytes, next_slot}
use Rattle.index_pages.specs.Keys.{key_end}
use Rattle.index_pages.specs.Page.{count_said, link_said, pairs_said, count_of, link_of, page_pairs}
use Rattle.key_list.specs.Along.{chain_placing, leaf_said, led_to, stay}
use Rattle.key_list.specs.Chain.{chain_check, pairs_of_chain, page_of_key}
use Rattle.key_list.specs.Index.{chain, chain_access, chain_actions}
use Rattle.key_list.specs.Located.{IsRoomIn}
use Rattle.key_list.specs.declared.look.KeyPage.{KeyPage}
use Rattle.key_list.proofs.Ends.{led_here, led_past}
use Rattle.key_list.proofs.ChainActions.{chain_of_table_finds}
use Rattle.key_list.proofs.Walking.{found_next, found_none, found_other, given_next, key_page}

-- a place is no slot
pub room_none : (at : KeyPage) (said : List ℕ) (s : Sought) → IsRoomIn at said s → slot_sought s ≡ None
room_none at said (Slot slot) is = absurd is
room_none at said (Place leaf) is = refl
room_none at said Split is = refl

pub room_inside : (shape : Shape) (at : KeyPage) (said : List ℕ) (s : Sought) → IsRoomIn at said s → 1 ≤ at.page → at.page < index_pages_of shape → IsSoughtIn shape s
room_inside shape at said (Slot slot) is some inside = absurd is
room_inside shape at said (Place leaf) is some inside = record { some = omega (arith, is.0, some); inside = omega (arith, is.0, inside); room = is.3; small = is.4 }
room_inside shape at said Split is some inside = tt

-- so is it in what was read
pub room_said : (key : ℕ) (at : KeyPage) (said : List ℕ) (s : Sought) (read : List Reading) → IsRoomIn at said s → at.head.link ≡ link_said said → stay key read ≡ Some (at.page, said) → IsPlaceSaid (chain_placing key read) s
room_said key at said (Slot slot) read is link there = tt
room_said key at said (Place leaf) read is link there =
    ap (λ (o : Option Reading). option_map leaf_said o) there
    ∙ (λ i. Some (record { page = sym is.0 i; link = sym (is.1 ∙ link) i; pairs = sym is.2 i }))
room_said key at said Split read is link there = tt

-- the page of the key is its place in the data
pub room_place : (bytes : List ℕ) (root key : ℕ) (at : KeyPage) (said : List ℕ) (s : Sought) → IsRoomIn at said s → at.page ≡ page_of_key bytes root key → said ≡ page_bytes bytes at.page → at.head.link ≡ link_said said → IsSoughtFor chain chain_access bytes root key s
room_place bytes root key at said (Slot slot) is page said_is link = tt
room_place bytes root key at said (Place leaf) is page said_is link = record {
  page_is = is.0 ∙ page;
  link_is = is.1 ∙ link ∙ ap link_said said_is ∙ ap (λ (x : ℕ). link_of bytes x) (sym is.0);
  pairs_are = is.2 ∙ ap pairs_said said_is ∙ ap (λ (x : ℕ). page_pairs bytes x) (sym is.0);
}
room_place bytes root key at said Split is page said_is link =
    let many : 30 ≤ count_of bytes (page_of_key bytes root key) = subst (λ (x : ℕ). 30 ≤ count_of bytes x) page (subst (λ (b : List ℕ). 30 ≤ count_said b) said_is is) in
    let b : nat_lt (count_of bytes (page_of_key bytes root key)) 30 ≡ false = grind (arith, nat_tests, many) in
    let two : 2 ≤ length (chain_actions bytes root key) = (rw b (omega arith)) in
    two

-- what pairs that rise lead a key to is what they have for it
led_is_found : (low high key : ℕ) (ps : List Pair) → Rise low high ps → led_to key (next ps key) ≡ found ps key
led_is_found low high key ps rises = here (next ps key) refl
  where
    here : (o : Option Pair) → next ps key ≡ o → led_to key o ≡ found ps key
    here None is = sym (found_none ps key is)
    here (Some p) is = elim (eqb_tells p.0 key) [
      | inl same ↦ led_here key p same.1 ∙ sym (found_next ps key p is same.1)
      | inr other ↦ led_past key p other.1 ∙ sym (found_other low high ps key p rises is other.1)
    ]

-- what the page of a key leads it to is what the chain has for it
pub led_in_chain : (bytes : List ℕ) (root table key page : ℕ) (said : List ℕ) → chain_check bytes root table None → page ≡ page_of_key bytes root key → said ≡ page_bytes bytes page
    → led_to key (next (pairs_said said) key) ≡ found (pairs_of_chain bytes root) key
led_in_chain bytes root table key page said sound page_is said_is =
    let at = key_page bytes root table key sound in
    let here : said ≡ page_bytes bytes (page_of_key bytes root key) = said_is ∙ ap (λ (x : ℕ). page_bytes bytes x) page_is in
    ap (λ (b : List ℕ). led_to key (next (pairs_said b) key)) here ∙ led_is_found at.0 key_end key (page_pairs bytes (page_of_key bytes root key)) at.1.rises ∙ sym (chain_of_table_finds bytes root table key sound)

-- a slot that a key is led to is that of the first pair from the key on
pub led_some : (key slot : ℕ) (o : Option Pair) → led_to key o ≡ Some slot → (p : Pair) × (o ≡ Some p) × (p.1 ≡ slot)
led_some key slot None is = absurd (cc)
led_some key slot (Some p) is = elim (eqb_tells p.0 key) [
  | inl same ↦ let b : nat_eq p.0 key ≡ true = same.0 in let e : Some p.1 ≡ Some slot = (rw b at is) in (p, refl, cc)
  | inr other ↦ let b : nat_eq p.0 key ≡ false = other.0 in let e : None ≡ Some slot = (rw b at is) in absurd (cc)
]

-- what the page of a key leads it to was given out
pub led_given : (bytes : List ℕ) (root table key page slot : ℕ) (said : List ℕ) → chain_check bytes root table None → page ≡ page_of_key bytes root key → said ≡ page_bytes bytes page
    → led_to key (next (pairs_said said) key) ≡ Some slot → slot < next_slot bytes
led_given bytes root table key page slot said sound page_is said_is led =
    let at = key_page bytes root table key sound in
    let here : said ≡ page_bytes bytes (page_of_key bytes root key) = said_is ∙ ap (λ (x : ℕ). page_bytes bytes x) page_is in
    let p = led_some key slot (next (page_pairs bytes (page_of_key bytes root key)) key) (sym (ap (λ (b : List ℕ). led_to key (next (pairs_said b) key)) here) ∙ led) in
    let given = given_next bytes table key p.0 (page_pairs bytes (page_of_key bytes root key)) at.1.given p.1 in
    omega (arith, given, p.2)
