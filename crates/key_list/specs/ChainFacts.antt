-- What a sound chain's pairs are.
use Rattle.std.proofs.Common.{◌≡◌, ℕ, zero, suc, ◌<◌, ◌≤◌, true, false, nat_eq, inl, inr, List, [], ◌∷◌, None, length, refl, subst, arith}
use Rattle.std.proofs.lemmas.Bool.Decides.{eqb_tells}
use Rattle.index_pages.proofs.Tiling.{joined_rises}
use Rattle.index_pages.proofs.PageFacts.{length-page_pairs, rise_wide}
use Rattle.index_pages.specs.Keys.{key_end}
use Rattle.key_list.specs.Chain.{behind, first_key, chain_pieces, chain_check, pieces_of_chain, pairs_of_chain}
use Rattle.key_list.specs.Seen.{IsChainPage, IsChain, pages_of_sound, pieces_have}
use Rattle.index_pages.specs.Page.{count_of, link_of, page_pairs}
use Rattle.index_pages.specs.Pieces.{low_of, Tile}
use Rattle.page_store.specs.Pairs.{Pair, Rise}
use Rattle.record_slots.specs.Places.{next_page}

pub rise_behind : (low high mid : ℕ) (ps : List Pair) → Rise low high ps → behind low ps ≤ mid → Rise low mid ps
rise_behind low high mid [] r le = le
rise_behind low high mid (p ∷ ps) r le = (r.0, rise_behind (suc p.0) high mid ps r.1 le)

rise_behind_bound : (low high : ℕ) (ps : List Pair) → Rise low high ps → low ≤ behind low ps
rise_behind_bound low high [] r = omega arith
rise_behind_bound low high (p ∷ ps) r = let h = rise_behind_bound (suc p.0) high ps r.1 in omega arith

pub first_from : (low high : ℕ) (ps : List Pair) → 1 ≤ length ps → Rise low high ps → (low ≤ first_key ps) × Rise (first_key ps) high ps
first_from low high [] some r = absurd (omega arith)
first_from low high (p ∷ ps) some r = (r.0, (omega arith, r.1))

behind_from : (low from high : ℕ) (ps : List Pair) → 1 ≤ length ps → Rise low high ps → behind from ps ≡ behind low ps
behind_from low from high [] some r = absurd (omega arith)
behind_from low from high (p ∷ ps) some r = refl

pub wide_behind : (low high : ℕ) (ps : List Pair) → 1 ≤ length ps → Rise low high ps → low < behind low ps
wide_behind low high [] some r = absurd (omega arith)
wide_behind low high (p ∷ ps) some r = let h = rise_behind_bound (suc p.0) high ps r.1 in omega arith

pub some_of : (n : ℕ) (A : Type 0) → (n ≡ 0 → A) → (A → ⊥) → 1 ≤ n
some_of zero A f never = absurd (never (f refl))
some_of (suc n) A f never = omega arith

module _ (table : ℕ) where
  low_of-chain : (n : ℕ) (bytes : List ℕ) (page low from : ℕ) → IsChain table n bytes page low → low_of (chain_pieces n bytes page from) key_end ≡ from
  low_of-chain zero bytes page low from c = absurd c
  low_of-chain (suc n) bytes page low from c = refl

  pub chain_head : (n : ℕ) (bytes : List ℕ) (page low : ℕ) → IsChain table n bytes page low → IsChainPage table bytes page low
  chain_head zero bytes page low c = absurd c
  chain_head (suc n) bytes page low c = c.0

  -- the pages of a chain tile all keys from where the first begins
  pub chain_tiles : (n : ℕ) (bytes : List ℕ) (page low from : ℕ) → IsChain table n bytes page low → Rise from key_end (page_pairs bytes page) → from < key_end → Tile from key_end (chain_pieces n bytes page from)
  chain_tiles zero bytes page low from c r wide = absurd c
  chain_tiles (suc n) bytes page low from c r wide =
      elim (eqb_tells (link_of bytes page) 0) [
        | inl last ↦
            let e : nat_eq (link_of bytes page) 0 ≡ true = last.0 in
            rw e (refl, wide, r, refl)
        | inr more ↦
            let e : nat_eq (link_of bytes page) 0 ≡ false = more.0 in
            let len = length-page_pairs bytes page in
            let len' = length-page_pairs bytes (link_of bytes page) in
            let some : 1 ≤ length (page_pairs bytes page) = omega (arith, some_of (count_of bytes page) ((low ≡ 0) × (link_of bytes page ≡ 0)) c.0.some (λ h. more.1 h.1)) in
            let rest = c.1 more.1 in
            let linked = c.0.link more.1 in
            let head = chain_head n bytes (link_of bytes page) (behind low (page_pairs bytes page)) rest in
            let up0 = wide_behind low key_end (page_pairs bytes page) some c.0.rises in
            let some' : 1 ≤ length (page_pairs bytes (link_of bytes page)) = omega (arith, some_of (count_of bytes (link_of bytes page)) ((behind low (page_pairs bytes page) ≡ 0) × (link_of bytes (link_of bytes page) ≡ 0)) head.some (λ h. omega (arith, h.0, up0))) in
            let first = first_from (behind low (page_pairs bytes page)) key_end (page_pairs bytes (link_of bytes page)) some' head.rises in
            let up = rise_wide (first_key (page_pairs bytes (link_of bytes page))) key_end (page_pairs bytes (link_of bytes page)) some' first.1 in
            let same = behind_from low from key_end (page_pairs bytes page) some c.0.rises in
            let here = rise_behind from key_end (first_key (page_pairs bytes (link_of bytes page))) (page_pairs bytes page) r (omega arith) in
            let wide' = rise_wide from (first_key (page_pairs bytes (link_of bytes page))) (page_pairs bytes page) some here in
            let tail = chain_tiles n bytes (link_of bytes page) (behind low (page_pairs bytes page)) (first_key (page_pairs bytes (link_of bytes page))) rest first.1 up in
            rw e (rw (low_of-chain n bytes (link_of bytes page) (behind low (page_pairs bytes page)) (first_key (page_pairs bytes (link_of bytes page))) rest) (refl, wide', here, tail))
      ]

pub sound_chain_tiles : (bytes : List ℕ) (root table : ℕ) → chain_check bytes root table None → Tile 0 key_end (pieces_of_chain bytes root)
sound_chain_tiles bytes root table sound =
    let head = chain_head table (next_page bytes) bytes root 0 (pages_of_sound bytes root table sound) in
    chain_tiles table (next_page bytes) bytes root 0 0 (pages_of_sound bytes root table sound) head.rises (omega arith)

pub sound_chain_rises : (bytes : List ℕ) (root table : ℕ) → chain_check bytes root table None → Rise 0 key_end (pairs_of_chain bytes root)
sound_chain_rises bytes root table sound =
    subst (λ (ps : List Pair). Rise 0 key_end ps) (pieces_have bytes root) (joined_rises 0 key_end (pieces_of_chain bytes root) (sound_chain_tiles bytes root table sound))
