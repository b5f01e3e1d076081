-- Chains of further tables: those that were there are as they were.
use Rattle.std.proofs.Common.{◌≡◌, ℕ, zero, suc, ◌≤◌, true, false, nat_eq, inl, inr, List, [], ◌++◌, None, refl, sym, ◌∙◌, ap, arith}
use Rattle.std.proofs.lemmas.Bool.Decides.{eqb_tells}
use Rattle.record_slots.specs.Places.{page_bytes, next_page}
use Rattle.page_store.specs.Index.{IsTable, IsEmptyRoot, Extends}
use Rattle.page_store.specs.Pairs.{Pair}
use Rattle.index_pages.specs.Page.{page_pairs, link_of}
use Rattle.index_pages.specs.Pieces.{joined}
use Rattle.index_pages.proofs.Extending.{empty_root, front_extends}
use Rattle.index_pages.proofs.Tabled.{whole_seen, whole_passes, table_own}
use Rattle.key_list.specs.Chain.{behind, chain_pieces, first_key, chain_check, IsSoundChain, pairs_of_chain}
use Rattle.key_list.specs.Fresh.{fresh_chain}
use Rattle.key_list.specs.Resting.{chain_rests}
use Rattle.key_list.specs.Seen.{IsChain, pages_of_sound, sound_by_pages, pieces_have}

-- a chain may have more pages than it has
chain_longer : (table n m : ℕ) (bytes : List ℕ) (page low : ℕ) → n ≤ m → IsChain table n bytes page low
    → IsChain table m bytes page low × ((from : ℕ) → joined (chain_pieces m bytes page from) ≡ joined (chain_pieces n bytes page from))
chain_longer table zero m bytes page low le c = absurd c
chain_longer table (suc n) zero bytes page low le c = absurd (omega arith)
chain_longer table (suc n) (suc m) bytes page low le c = elim (eqb_tells (link_of bytes page) 0) [
  | inl last ↦
      let b : nat_eq (link_of bytes page) 0 ≡ true = last.0 in
      ((c.0, λ other. absurd (other last.1)), λ from. rw b refl)
  | inr more ↦
      let b : nat_eq (link_of bytes page) 0 ≡ false = more.0 in
      let rest = chain_longer table n m bytes (link_of bytes page) (behind low (page_pairs bytes page)) (omega arith) (c.1 more.1) in
      ((c.0, λ other. rest.0), λ from. rw b (ap (λ (ps : List Pair). page_pairs bytes page ++ ps) (rest.1 (first_key (page_pairs bytes (link_of bytes page))))))
]

module _ (old new : List ℕ) (sound : IsSoundChain old) (x : Extends old new) where
  -- the chain of a table that was there
  kept_chain : (table root : ℕ) → IsTable old table root → chain_check new root table None × (pairs_of_chain new root ≡ pairs_of_chain old root)
  kept_chain table root is =
      let w = whole_seen 0 chain_check old sound in
      let f = front_extends 0 chain_check old new w x in
      let r = chain_rests table old new f.keeps x.pages (next_page old) root 0 (table_own 0 old table root w.front is) (pages_of_sound old root table (w.tables table root is)) in
      let l = chain_longer table (next_page old) (next_page new) new root 0 x.later r.0 in
      (sound_by_pages new root table l.0, sym (pieces_have new root) ∙ l.1 0 ∙ r.1 0 ∙ pieces_have old root)

  -- and that of a table with an empty root
  empty_chain : (table root : ℕ) → IsEmptyRoot (page_bytes new root) → chain_check new root table None × (pairs_of_chain new root ≡ [])
  empty_chain table root is =
      let w = whole_seen 0 chain_check old sound in
      let said = empty_root (page_bytes new root) is in
      fresh_chain new root table (omega (arith, w.front.some_pages, x.later)) said.0 said.1 said.2 said.3

  pub sound_chains_extend : IsSoundChain new × ((table root : ℕ) → IsTable old table root → (pairs_of_chain new root ≡ pairs_of_chain old root))
      × ((table root : ℕ) → IsTable new table root → next_page old ≤ root → IsEmptyRoot (page_bytes new root) → pairs_of_chain new root ≡ [])
  sound_chains_extend =
      let w = whole_seen 0 chain_check old sound in
      let f = front_extends 0 chain_check old new w x in (
        whole_passes 0 chain_check new (record {
          front = f.front;
          slots = f.slots;
          pages = f.pages;
          tables = λ table root is. elim (x.named table root is) [ inl was ↦ (kept_chain table root was).0 | inr fresh ↦ (empty_chain table root fresh.1).0 ];
        }),
        λ table root is. (kept_chain table root is).1,
        λ table root is later empty. (empty_chain table root empty).1,
      )
