-- A chain that passes its check, page by page, as the lemmas of the chain speak of it.
use Rattle.std.proofs.Common.{◌≡◌, ◌≢◌, ℕ, zero, suc, ◌<◌, ◌≤◌, true, false, nat_eq, inl, inr, List, [], ◌∷◌, None, ◌++◌, refl, ap}
use Rattle.std.proofs.lemmas.Bool.Decides.{eqb_tells}
use Rattle.mars_base.specs.Check.{Check, test, both, unless, IsSingle}
use Rattle.mars_base.proofs.Checks.{test_single, both_single, unless_single, excludes, one_bad}
use Rattle.record_slots.specs.Places.{page_bytes, next_page, AreGiven}
use Rattle.page_store.specs.Pairs.{Pair, Rise}
use Rattle.index_pages.specs.Keys.{key_end}
use Rattle.index_pages.specs.Page.{kind_of, level_of, count_of, link_of, page_pairs}
use Rattle.index_pages.specs.Pieces.{joined}
use Rattle.index_pages.specs.Slots.{slot_check, index_check}
use Rattle.index_pages.proofs.Slotted.{slot_single}
use Rattle.index_pages.proofs.Tabled.{index_single}
use Rattle.key_list.specs.Chain.{behind, IsChainHead, pair_check, pairs_check, chain_from, chain_check, IsSoundChain, IsFirstDamagedOfChain, chain_pairs, pairs_of_chain, first_key, chain_pieces, pieces_of_chain}

module _ (table : ℕ) where
  -- a page of a chain, when all keys before it are below the lower bound
  pub record IsChainPage (bytes : List ℕ) (page low : ℕ) : Type 0 where
    pub kind : kind_of bytes page ≡ 1
    pub level : level_of bytes page ≡ 0
    pub most : count_of bytes page ≤ 30
    pub some : count_of bytes page ≡ 0 → (low ≡ 0) × (link_of bytes page ≡ 0)
    pub rises : Rise low key_end (page_pairs bytes page)
    pub given : AreGiven bytes table (page_pairs bytes page)
    pub link : link_of bytes page ≢ 0 → (2 ≤ link_of bytes page) × (link_of bytes page < next_page bytes)

  -- a chain of at most n pages from this one on
  abbrev pub IsChain : ℕ → List ℕ → ℕ → ℕ → Type 0
  IsChain zero bytes page low = ⊥
  IsChain (suc n) bytes page low =
      IsChainPage bytes page low × (link_of bytes page ≢ 0 → IsChain n bytes (link_of bytes page) (behind low (page_pairs bytes page)))

  pub pairs_seen : (bytes : List ℕ) (page low : ℕ) (ps : List Pair) → pairs_check bytes table page low ps None → Rise low key_end ps × AreGiven bytes table ps
  pairs_seen bytes page low [] c = (c, tt)
  pairs_seen bytes page low (p ∷ ps) c = let rest = pairs_seen bytes page (suc p.0) ps c.1 in ((c.0.0, rest.0), (c.0.1.0, c.0.1.1, rest.1))

  pairs_pass : (bytes : List ℕ) (page low : ℕ) (ps : List Pair) → Rise low key_end ps → AreGiven bytes table ps → pairs_check bytes table page low ps None
  pairs_pass bytes page low [] rises given = rises
  pairs_pass bytes page low (p ∷ ps) rises given = ((rises.0, (given.0, given.1)), pairs_pass bytes page (suc p.0) ps rises.1 given.2)

  -- the check of what a link that is not 0 leads to
  abbrev pub linked : ℕ → List ℕ → ℕ → ℕ → Check ℕ
  linked n bytes page low =
      both (test ((2 ≤ link_of bytes page) × (link_of bytes page < next_page bytes)) page)
      (chain_from n bytes table (link_of bytes page) (behind low (page_pairs bytes page)))

  chain_seen : (n : ℕ) (bytes : List ℕ) (page low : ℕ) → chain_from n bytes table page low None → IsChain n bytes page low
  chain_seen zero bytes page low c = c
  chain_seen (suc n) bytes page low c =
      let pairs = pairs_seen bytes page low (page_pairs bytes page) c.1.0 in
      elim (eqb_tells (link_of bytes page) 0) [
        | inl last ↦ (
          record { kind = c.0.kind; level = c.0.level; most = c.0.most; some = c.0.some; rises = pairs.0; given = pairs.1; link = λ other. absurd (other last.1) },
          λ other. absurd (other last.1),
        )
        | inr more ↦
            let b : nat_eq (link_of bytes page) 0 ≡ false = more.0 in
            let rest : unless (nat_eq (link_of bytes page) 0) (linked n bytes page low) None = c.1.1 in
            let on : linked n bytes page low None = rw b at rest in (
              record { kind = c.0.kind; level = c.0.level; most = c.0.most; some = c.0.some; rises = pairs.0; given = pairs.1; link = λ other. on.0 },
              λ other. chain_seen n bytes (link_of bytes page) (behind low (page_pairs bytes page)) on.1,
            )
      ]

  chain_passes : (n : ℕ) (bytes : List ℕ) (page low : ℕ) → IsChain n bytes page low → chain_from n bytes table page low None
  chain_passes zero bytes page low c = c
  chain_passes (suc n) bytes page low c =
      let t = c.0 in
      let rest : unless (nat_eq (link_of bytes page) 0) (linked n bytes page low) None =
      elim (eqb_tells (link_of bytes page) 0) [
        | inl last ↦ let b : nat_eq (link_of bytes page) 0 ≡ true = last.0 in rw b tt
        | inr more ↦
            let b : nat_eq (link_of bytes page) 0 ≡ false = more.0 in
            rw b (t.link more.1, chain_passes n bytes (link_of bytes page) (behind low (page_pairs bytes page)) (c.1 more.1))
      ] in
      (record { kind = t.kind; level = t.level; most = t.most; some = t.some }, (pairs_pass bytes page low (page_pairs bytes page) t.rises t.given, rest))

  pairs_single : (bytes : List ℕ) (page low : ℕ) (ps : List Pair) → IsSingle (pairs_check bytes table page low ps)
  pairs_single bytes page low [] = test_single (low ≤ key_end) page
  pairs_single bytes page low (p ∷ ps) =
      both_single (pair_check bytes table page low p) (pairs_check bytes table page (suc p.0) ps)
      (both_single (test (low ≤ p.0) page) (slot_check bytes table page p) (test_single (low ≤ p.0) page) (slot_single bytes table page p)) (pairs_single bytes page (suc p.0) ps)

  from_single : (n : ℕ) (bytes : List ℕ) (page low : ℕ) → IsSingle (chain_from n bytes table page low)
  from_single zero bytes page low = test_single ⊥ page
  from_single (suc n) bytes page low =
      let pairs = pairs_check bytes table page low (page_pairs bytes page) in
      let rest = unless (nat_eq (link_of bytes page) 0) (linked n bytes page low) in
      let Linked = (2 ≤ link_of bytes page) × (link_of bytes page < next_page bytes) in
      let on = chain_from n bytes table (link_of bytes page) (behind low (page_pairs bytes page)) in
      both_single (test (IsChainHead low (page_bytes bytes page)) page) (both pairs rest) (test_single (IsChainHead low (page_bytes bytes page)) page)
      (both_single pairs rest (pairs_single bytes page low (page_pairs bytes page)) (unless_single (nat_eq (link_of bytes page) 0) (linked n bytes page low)
      (both_single (test Linked page) on (test_single Linked page) (from_single n bytes (link_of bytes page) (behind low (page_pairs bytes page))))))

joined_pieces : (n : ℕ) (bytes : List ℕ) (page low : ℕ) → joined (chain_pieces n bytes page low) ≡ chain_pairs n bytes page
joined_pieces zero bytes page low = refl
joined_pieces (suc n) bytes page low =
    elim (eqb_tells (link_of bytes page) 0) [
      | inl last ↦ let b : nat_eq (link_of bytes page) 0 ≡ true = last.0 in rw b refl
      | inr more ↦
          let b : nat_eq (link_of bytes page) 0 ≡ false = more.0 in
          rw b (ap (λ (ps : List Pair). page_pairs bytes page ++ ps) (joined_pieces n bytes (link_of bytes page) (first_key (page_pairs bytes (link_of bytes page)))))
    ]

-- the pieces have the pairs
pub pieces_have : (bytes : List ℕ) (root : ℕ) → joined (pieces_of_chain bytes root) ≡ pairs_of_chain bytes root
unfolding pairs_of_chain
pieces_have bytes root = joined_pieces (next_page bytes) bytes root 0

chain_single : (bytes : List ℕ) → IsSingle (index_check 0 chain_check bytes)
chain_single bytes = index_single 0 chain_check bytes (λ root table. from_single table (next_page bytes) bytes root 0)

-- the chain of a table of sound data, page by page; and back
pub pages_of_sound : (bytes : List ℕ) (root table : ℕ) → chain_check bytes root table None → IsChain table (next_page bytes) bytes root 0
pages_of_sound bytes root table sound = chain_seen table (next_page bytes) bytes root 0 sound

pub sound_by_pages : (bytes : List ℕ) (root table : ℕ) → IsChain table (next_page bytes) bytes root 0 → chain_check bytes root table None
sound_by_pages bytes root table pages = chain_passes table (next_page bytes) bytes root 0 pages

-- a check has at most one verdict: no page of sound chains fails, and at most one is the first that does
pub chain_excludes : (bytes : List ℕ) (bad : ℕ) → IsFirstDamagedOfChain bytes bad → IsSoundChain bytes → ⊥
chain_excludes bytes bad fails sound = excludes (index_check 0 chain_check bytes) (chain_single bytes) bad fails sound

pub chain_first : (bytes : List ℕ) (bad other : ℕ) → IsFirstDamagedOfChain bytes bad → IsFirstDamagedOfChain bytes other → bad ≡ other
chain_first bytes bad other fails fails' = one_bad (index_check 0 chain_check bytes) (chain_single bytes) bad other fails fails'
