-- The page that has a key is the page of the key.
use Rattle.std.proofs.Common.{◌≡◌, ℕ, zero, suc, ◌<◌, ◌≤◌, ◌⊎◌, Bool, true, false, nat_eq, nat_lt, inl, inr, List, [], ◌∷◌, Option, None, refl, sym, subst, arith}
use Rattle.std.specs.Prelude.{IsSome, not, ◌&&◌}
use Rattle.std.proofs.lemmas.Bool.{and_parts, and_from, ne_eqb, false≢true}
use Rattle.std.proofs.lemmas.Bool.Decides.{eqb_tells, leb_tells, nat_tests}
use Rattle.record_slots.specs.Places.{next_page}
use Rattle.page_store.specs.Pairs.{Pair, Rise, found, removed}
use Rattle.index_pages.specs.Keys.{key_end}
use Rattle.index_pages.specs.Page.{link_of, count_of, page_pairs}
use Rattle.index_pages.specs.Ways.{IsOwn}
use Rattle.key_list.specs.Chain.{behind, first_key, chain_check, chain_page_for, page_of_key, pairs_of_chain}
use Rattle.key_list.specs.ChainFacts.{rise_behind}
use Rattle.key_list.specs.Index.{IsOnChain, IsPageOfChain, keeps_last, chain_removal}
use Rattle.key_list.specs.Seen.{IsChain, pages_of_sound}
use Rattle.key_list.proofs.ChainActions.{chain_of_table_finds, first_below, linked_some, next_first}
use Rattle.key_list.proofs.Chains.{key_page_own}

-- a key that is found lies between the bounds, and not before the first
found_in : (low high key : ℕ) (ps : List Pair) → Rise low high ps → IsSome (found ps key) → (first_key ps ≤ key) × (low ≤ key) × (key < high)
found_in low high key [] r some = absurd (false≢true some)
found_in low high key (p ∷ ps) r some = elim (eqb_tells p.0 key) [
  | inl here ↦ (omega (arith, here.1), omega (arith, here.1, r.0), (let up = bound (suc p.0) high ps r.1 in omega (arith, here.1, up)))
  | inr other ↦
      let b : nat_eq p.0 key ≡ false = other.0 in
      let rest = found_in (suc p.0) high key ps r.1 (rw b at some) in
      (omega (arith, rest.1), omega (arith, rest.1, r.0), rest.2)
]
  where
    bound : (low high : ℕ) (ps : List Pair) → Rise low high ps → low ≤ high
    bound low high [] r = r
    bound low high (p ∷ ps) r = let h = bound (suc p.0) high ps r.1 in omega (arith, h, r.0)

module _ (table : ℕ) (bytes : List ℕ) (x key : ℕ) (some : IsSome (found (page_pairs bytes x) key)) where
  -- such a page lies at or behind where the key's range begins
  found_after : (n page low : ℕ) → IsChain table n bytes page low → IsOnChain n bytes page x → first_key (page_pairs bytes page) ≤ key
  found_after zero page low c on = absurd on
  found_after (suc n) page low c (inl is) =
      (found_in low key_end key (page_pairs bytes page) c.0.rises (subst (λ (p : ℕ). IsSome (found (page_pairs bytes p) key)) is some)).0
  found_after (suc n) page low c (inr on) =
      let rest = found_after n (link_of bytes page) (behind low (page_pairs bytes page)) (c.1 on.0) on.1 in
      let first = next_first table bytes n page low c on.0 in
      let near = first_below low key_end (page_pairs bytes page) (linked_some table bytes page low on.0 c.0) c.0.rises in
      omega (arith, rest, first.0, near)

  found_page : (n page low : ℕ) → IsChain table n bytes page low → IsOnChain n bytes page x → chain_page_for n bytes page key ≡ x
  found_page zero page low c on = absurd on
  found_page (suc n) page low c (inl is) = elim (eqb_tells (link_of bytes page) 0) [
    | inl last ↦ let b : nat_eq (link_of bytes page) 0 ≡ true = last.0 in rw b (sym is)
    | inr more ↦
        let b : nat_eq (link_of bytes page) 0 ≡ false = more.0 in
        let first = next_first table bytes n page low c more.1 in
        let here = rise_behind low key_end (first_key (page_pairs bytes (link_of bytes page))) (page_pairs bytes page) c.0.rises first.0 in
        let below = (found_in low (first_key (page_pairs bytes (link_of bytes page))) key (page_pairs bytes page) here (subst (λ (p : ℕ). IsSome (found (page_pairs bytes p) key)) is some)).2 in
        let b' : nat_lt key (first_key (page_pairs bytes (link_of bytes page))) ≡ true = grind (arith, nat_tests, below) in
        rw b (rw b' (sym is))
  ]
  found_page (suc n) page low c (inr on) =
      let b : nat_eq (link_of bytes page) 0 ≡ false = ne_eqb (link_of bytes page) 0 on.0 in
      let after = found_after n (link_of bytes page) (behind low (page_pairs bytes page)) (c.1 on.0) on.1 in
      let b' : nat_lt key (first_key (page_pairs bytes (link_of bytes page))) ≡ false = grind (arith, nat_tests, after) in
      rw b (rw b' (found_page n (link_of bytes page) (behind low (page_pairs bytes page)) (c.1 on.0) on.1))

  pub page_holds : (root : ℕ) → chain_check bytes root table None → IsPageOfChain bytes root x → page_of_key bytes root key ≡ x
  page_holds root sound on = found_page (next_page bytes) root 0 (pages_of_sound bytes root table sound) on

-- a page that would lose its pair has others, or is the root and has no link
pub more_of : (root page link count : ℕ) → keeps_last root page link count ≡ false → (2 ≤ count) ⊎ ((page ≡ root) × (link ≡ 0))
more_of root page link count gives = elim (leb_tells (suc count) 2) [
  | inr two ↦ inl (omega (arith, two.1))
  | inl few ↦
      let a : nat_lt count 2 ≡ true = few.0 in
      elim (eqb_tells page root) [
        | inl same ↦
            let b : nat_eq page root ≡ true = same.0 in
            elim (eqb_tells link 0) [
              | inl last ↦ inr (same.1, last.1)
              | inr linked ↦ let d : nat_eq link 0 ≡ false = linked.0 in let bad : true ≡ false = rw (a, b, d) at gives in absurd (false≢true (sym bad))
            ]
        | inr other ↦ let b : nat_eq page root ≡ false = other.0 in let bad : true ≡ false = rw (a, b) at gives in absurd (false≢true (sym bad))
      ]
]

-- one that keeps its last pair still does with no more of them
pub keeps_still : (root page link count count' : ℕ) → count' ≤ count → keeps_last root page link count ≡ true → keeps_last root page link count' ≡ true
keeps_still root page link count count' le keeps =
    let parts = and_parts (nat_lt count 2) (not (nat_eq page root && nat_eq link 0)) keeps in
    let few : nat_lt count' 2 ≡ true = grind (arith, nat_tests, parts.0, le) in
    and_from (nat_lt count' 2) (not (nat_eq page root && nat_eq link 0)) few parts.1

-- the removal of a key whose page keeps its last pair
module _ (bytes : List ℕ) (root key : ℕ) where
  pub kept_none : keeps_last root (page_of_key bytes root key) (link_of bytes (page_of_key bytes root key)) (count_of bytes (page_of_key bytes root key)) ≡ true → chain_removal bytes root key ≡ None
  kept_none keeps = rw keeps refl

  pub none_kept : chain_removal bytes root key ≡ None → keeps_last root (page_of_key bytes root key) (link_of bytes (page_of_key bytes root key)) (count_of bytes (page_of_key bytes root key)) ≡ true
  none_kept none = here (keeps_last root (page_of_key bytes root key) (link_of bytes (page_of_key bytes root key)) (count_of bytes (page_of_key bytes root key))) refl
    where
      here : (b : Bool) → keeps_last root (page_of_key bytes root key) (link_of bytes (page_of_key bytes root key)) (count_of bytes (page_of_key bytes root key)) ≡ b
          → keeps_last root (page_of_key bytes root key) (link_of bytes (page_of_key bytes root key)) (count_of bytes (page_of_key bytes root key)) ≡ true
      here true is = is
      here false is = (let bad = rw is at none in absurd (cc))

-- What keeps its last pair still does, where each page of the chain then was one of it, has the link that it had, and no other pair.
module _ (old new : List ℕ) (root table key : ℕ) (own : IsOwn new root) (was : chain_check old root table None) (is : chain_check new root table None)
    (named : (x : ℕ) → IsPageOfChain new root x → IsPageOfChain old root x) (links : (x : ℕ) → IsPageOfChain new root x → link_of new x ≡ link_of old x)
    (fewer : (x : ℕ) → IsPageOfChain new root x → IsSome (found (page_pairs new x) key) → (count_of new x ≤ count_of old x) × IsSome (found (page_pairs old x) key)) where
  pub last_stays : IsSome (found (pairs_of_chain new root) key) → chain_removal old root key ≡ None → chain_removal new root key ≡ None
  last_stays some none =
      let on = (key_page_own table new root key own is).1 in
      let here : IsSome (found (page_pairs new (page_of_key new root key)) key) = subst (λ (o : Option ℕ). IsSome o) (chain_of_table_finds new root table key is) some in
      let few = fewer (page_of_key new root key) on here in
      let same : page_of_key old root key ≡ page_of_key new root key = page_holds table old (page_of_key new root key) key few.1 root was (named (page_of_key new root key) on) in
      let kept : keeps_last root (page_of_key new root key) (link_of old (page_of_key new root key)) (count_of old (page_of_key new root key)) ≡ true =
      subst (λ (x : ℕ). keeps_last root x (link_of old x) (count_of old x) ≡ true) same (none_kept old root key none) in
      kept_none new root key (keeps_still root (page_of_key new root key) (link_of new (page_of_key new root key)) (count_of old (page_of_key new root key)) (count_of new (page_of_key new root key)) few.0
      (subst (λ (l : ℕ). keeps_last root (page_of_key new root key) l (count_of old (page_of_key new root key)) ≡ true) (sym (links (page_of_key new root key) on)) kept))

-- a key that is left was there
pub found_before : (ps : List Pair) (key one : ℕ) → IsSome (found (removed ps key) one) → IsSome (found ps one)
found_before [] key one some = some
found_before (p ∷ ps) key one some = elim (eqb_tells p.0 one) [
  | inl here ↦ let b : nat_eq p.0 one ≡ true = here.0 in rw b refl
  | inr other ↦
      let b : nat_eq p.0 one ≡ false = other.0 in
      elim (eqb_tells p.0 key) [
        | inl gone ↦ let d : nat_eq p.0 key ≡ true = gone.0 in rw b (rw d at some)
        | inr left ↦ let d : nat_eq p.0 key ≡ false = left.0 in let some' : IsSome (found (p ∷ removed ps key) one) = rw d at some in rw b (found_before ps key one (rw b at some'))
      ]
]
