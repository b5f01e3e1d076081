-- A pair that is taken out of a chain.
use Rattle.std.proofs.Common.{◌≡◌, ◌≢◌, ℕ, zero, suc, ◌<◌, ◌≤◌, ◌⊎◌, true, false, nat_eq, inl, inr, List, length, Some, None, refl, sym, ◌∙◌, ap, subst, arith}
use Rattle.std.proofs.lemmas.Bool.Decides.{eqb_tells}
use Rattle.record_slots.specs.Places.{page_bytes, next_slot, next_page, Carries, AreGiven}
use Rattle.page_store.specs.Index.{HasCounts}
use Rattle.page_store.specs.Pairs.{Pair, Rise, found, removed}
use Rattle.index_pages.specs.Keys.{key_end}
use Rattle.index_pages.specs.Page.{kind_said, level_said, link_said, pairs_said, kind_of, count_of, link_of, page_pairs}
use Rattle.index_pages.specs.Pieces.{joined}
use Rattle.index_pages.specs.Ways.{Keeps, KeepsBut, IsOwn, above}
use Rattle.index_pages.proofs.Freeing.{found_given, given_others, with_slot, with_page, with_next, with_keeps}
use Rattle.index_pages.proofs.Given.{above_zero}
use Rattle.index_pages.proofs.Kept.{given_kept}
use Rattle.index_pages.proofs.PageFacts.{length-page_pairs}
use Rattle.index_pages.proofs.Removing.{length-removed, removed-rises, removed-left, given_removed, removed_local, found-removed}
use Rattle.key_list.specs.Chain.{first_key, chain_pieces, chain_check, pairs_of_chain, page_of_key}
use Rattle.key_list.specs.ChainFacts.{sound_chain_rises}
use Rattle.key_list.specs.Changes.{LosesPairInChain}
use Rattle.key_list.specs.Resting.{sound_chain_given}
use Rattle.key_list.specs.Seen.{IsChainPage, IsChain, pages_of_sound, sound_by_pages, pieces_have}
use Rattle.key_list.proofs.ChainActions.{chain_graft, page_changes}
use Rattle.key_list.proofs.Chains.{key_page_own}
use Rattle.key_list.proofs.Resting.{on_seen, chain_stays}

module _ (table : ℕ) (old new : List ℕ) (keeps : Keeps old new) (root q key : ℕ) (loses : LosesPairInChain old new root q key)
    (kept : (x : ℕ) → 1 ≤ x → x < next_page old → kind_of old x ≡ 1 → x ≢ q → page_bytes new x ≡ page_bytes old x) where
  -- the page keeps other pairs, or nothing comes before it and after it
  page_loses : (n low : ℕ) → (2 ≤ count_of old q) ⊎ ((low ≡ 0) × (link_of old q ≡ 0)) → IsChain table (suc n) old q low → (link_of old q ≢ 0 → key < first_key (page_pairs old (link_of old q)))
      → IsChain table (above (suc n) 0) new q low × ((from : ℕ) → joined (chain_pieces (above (suc n) 0) new q from) ≡ removed (joined (chain_pieces (suc n) old q from)) key)
  page_loses n low more c far =
      let count : count_of new q ≡ length (removed (page_pairs old q) key) = sym (length-page_pairs new q) ∙ ap (λ (ps : List Pair). length ps) loses.pairs in
      let sizes = length-removed key (page_pairs old q) in
      let before = length-page_pairs old q in
      let here : IsChainPage table new q low = record {
        kind = loses.kind;
        level = loses.level;
        most = omega (arith, c.0.most, sizes.1, count, before);
        some = λ none. elim more [ inl two ↦ absurd (omega (arith, two, sizes.0, count, before, none)) | inr alone ↦ (alone.0, loses.link ∙ alone.1) ];
        rises = subst (λ (ps : List Pair). Rise low key_end ps) (sym loses.pairs) (removed-rises low key_end key (page_pairs old q) c.0.rises);
        given = subst (λ (ps : List Pair). AreGiven new table ps) (sym loses.pairs)
            (given_removed new table key (page_pairs old q) (given_kept old new keeps table (page_pairs old q) c.0.given));
        link = λ other. let l = c.0.link (λ e. other (loses.link ∙ e)) in (omega (arith, l.0, loses.link), omega (arith, l.1, loses.link, keeps.pages));
      } in
      page_changes table old new keeps (λ ps. removed ps key) q loses.link loses.pairs kept n low c here
      (λ linked rise. removed-rises low (first_key (page_pairs old (link_of old q))) key (page_pairs old q) rise)
      (λ linked rest rises. removed-left (first_key (page_pairs old (link_of old q))) key_end key (page_pairs old q) rest rises (far linked))

  -- the root alone
  root_loses : (n : ℕ) → q ≡ root → link_of old q ≡ 0 → IsChain table n old root 0
      → IsChain table (above n 0) new root 0 × ((from : ℕ) → joined (chain_pieces (above n 0) new root from) ≡ removed (joined (chain_pieces n old root from)) key)
  root_loses zero is last c = absurd c
  root_loses (suc n) is last c =
      subst (λ (x : ℕ). IsChain table (above (suc n) 0) new x 0 × ((from : ℕ) → joined (chain_pieces (above (suc n) 0) new x from) ≡ removed (joined (chain_pieces (suc n) old x from)) key)) is
      (page_loses n 0 (inr (refl, last)) (subst (λ (x : ℕ). IsChain table (suc n) old x 0) (sym is) c) (λ other. absurd (other last)))

  chain_loses : IsOwn old root → q ≡ page_of_key old root key → IsChain table (next_page old) old root 0
      → IsChain table (above (next_page old) 0) new root 0 × ((from : ℕ) → joined (chain_pieces (above (next_page old) 0) new root from) ≡ removed (joined (chain_pieces (next_page old) old root from)) key)
  chain_loses own is c = elim loses.more [
    | inl two ↦ chain_graft table old new keeps (λ ps. removed ps key) key (removed_local key) q 0 (λ n low le c' far. page_loses n low (inl two) c' far) kept (next_page old) root 0 own c (omega arith) is
    | inr alone ↦ root_loses (next_page old) alone.0 alone.1 c
  ]

-- the chain of a table whose page of the key loses its pair
pub chain_of_table_loses : (old new : List ℕ) (root table key : ℕ) → IsOwn old root → chain_check old root table None → Keeps old new → next_page new ≡ next_page old
    → LosesPairInChain old new root (page_of_key old root key) key
    → ((x : ℕ) → 1 ≤ x → x < next_page old → kind_of old x ≡ 1 → x ≢ page_of_key old root key → page_bytes new x ≡ page_bytes old x)
    → chain_check new root table None × (pairs_of_chain new root ≡ removed (pairs_of_chain old root) key)
chain_of_table_loses old new root table key own sound keeps same loses kept =
    let r = chain_loses table old new keeps root (page_of_key old root key) key loses kept own refl (pages_of_sound old root table sound) in
    let e : above (next_page old) 0 ≡ next_page new = above_zero (next_page old) ∙ sym same in (
      sound_by_pages new root table (subst (λ (n : ℕ). IsChain table n new root 0) e r.0),
      sym (pieces_have new root) ∙ ap (λ (n : ℕ). joined (chain_pieces n new root 0)) (sym e) ∙ r.1 0 ∙ ap (λ (ps : List Pair). removed ps key) (pieces_have old root),
    )

gone_then : (bytes : List ℕ) (root table key : ℕ) → chain_check bytes root table None → found (removed (pairs_of_chain bytes root) key) key ≡ None
gone_then bytes root table key sound =
    let h = found-removed 0 key_end key key (pairs_of_chain bytes root) (sound_chain_rises bytes root table sound) in
    elim (eqb_tells key key) [
      | inl same ↦ let e : nat_eq key key ≡ true = same.0 in rw e at h
      | inr other ↦ absurd (other.1 refl)
    ]

-- The same if the slot of the pair may say anything then: at first it says what it said, and then no pair names it.
module _ (old new : List ℕ) (root table key slot : ℕ) (own : IsOwn old root) (sound : chain_check old root table None) (keeps : KeepsBut slot old new) (counts : HasCounts old)
    (is : found (pairs_of_chain old root) key ≡ Some slot) where
  slot_given : (slot < next_slot old) × Carries old table (key, slot)
  slot_given = found_given old table key slot (pairs_of_chain old root) is (sound_chain_given old root table sound)

  mid : List ℕ
  mid = with_slot slot old new keeps counts slot_given.0

  mid_page : (x : ℕ) → x < next_page old → page_bytes mid x ≡ page_bytes new x
  unfolding mid
  mid_page x lt = with_page slot old new keeps counts slot_given.0 x (omega (arith, lt, counts.pages))

  mid_next : next_page mid ≡ next_page new
  unfolding mid
  mid_next = with_next slot old new keeps counts slot_given.0

  mid_keeps : Keeps old mid
  unfolding mid
  mid_keeps = with_keeps slot old new keeps counts slot_given.0

  pub freed_chain_loses : next_page new ≡ next_page old → LosesPairInChain old new root (page_of_key old root key) key
      → ((x : ℕ) → 1 ≤ x → x < next_page old → kind_of old x ≡ 1 → x ≢ page_of_key old root key → page_bytes new x ≡ page_bytes old x)
      → chain_check new root table None × (pairs_of_chain new root ≡ removed (pairs_of_chain old root) key)
  freed_chain_loses next loses kept =
      let page = (key_page_own table old root key own sound).0 in
      let same : page_bytes mid (page_of_key old root key) ≡ page_bytes new (page_of_key old root key) = mid_page (page_of_key old root key) page.1 in
      let loses' : LosesPairInChain old mid root (page_of_key old root key) key = record {
        more = loses.more;
        kind = ap kind_said same ∙ loses.kind;
        level = ap level_said same ∙ loses.level;
        link = ap link_said same ∙ loses.link;
        pairs = ap pairs_said same ∙ loses.pairs;
      } in
      let r = chain_of_table_loses old mid root table key own sound mid_keeps (mid_next ∙ next) loses' (λ x some less kind other. mid_page x less ∙ kept x some less kind other) in
      let own' : IsOwn mid root = (own.0, omega (arith, own.1, mid_next, next)) in
      let moved = chain_stays mid new table root own' r.0 (omega (arith, mid_next))
      (subst (λ (ps : List Pair). AreGiven new table ps) (sym r.1)
      (given_others slot old new keeps table key (removed (pairs_of_chain old root) key) slot_given.1 (gone_then old root table key sound)
      (given_removed old table key (pairs_of_chain old root) (sound_chain_given old root table sound))))
      (λ x on.
      let m = on_seen table (next_page mid) mid root 0 x own' (pages_of_sound mid root table r.0) on in
      sym (mid_page x (omega (arith, m.own.1, mid_next, next)))) in
      (moved.0, moved.1 ∙ r.1)
