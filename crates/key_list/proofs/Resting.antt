-- A chain on data of which its own pages are as they were.
use Rattle.std.proofs.Common.{◌≡◌, ◌≢◌, ℕ, zero, suc, ◌<◌, ◌≤◌, ◌⊎◌, false, nat_eq, inl, inr, List, length, None, refl, sym, ◌∙◌, ap, subst, arith}
use Rattle.std.proofs.lemmas.Bool.{ne_eqb}
use Rattle.record_slots.specs.Places.{page_bytes, next_page, AreGiven}
use Rattle.page_store.specs.Pairs.{Pair, Rise}
use Rattle.index_pages.specs.Keys.{key_end}
use Rattle.index_pages.specs.Page.{kind_of, kind_said, level_said, count_said, link_of, link_said, page_pairs, pairs_said}
use Rattle.index_pages.specs.Pieces.{joined}
use Rattle.index_pages.specs.Ways.{IsOwn}
use Rattle.index_pages.proofs.Removing.{given_left}
use Rattle.key_list.specs.Chain.{behind, first_key, chain_pieces, chain_check, pairs_of_chain}
use Rattle.key_list.specs.ChainFacts.{chain_head}
use Rattle.key_list.specs.Index.{IsOnChain, IsPageOfChain}
use Rattle.key_list.specs.Resting.{joined_from, step_kept}
use Rattle.key_list.specs.Seen.{IsChainPage, IsChain, pages_of_sound, sound_by_pages, pieces_have}
use Rattle.key_list.proofs.ChainActions.{first_below, linked_some, later_some, chain_fits}
use Rattle.key_list.proofs.Chains.{on_within}

-- A page of a chain is given, of the first kind, and its slots are of the table. It has pairs unless it is the first.
pub record IsMember (table : ℕ) (bytes : List ℕ) (first x : ℕ) : Type 0 where
  pub kind : kind_of bytes x ≡ 1
  pub own : IsOwn bytes x
  pub given : AreGiven bytes table (page_pairs bytes x)
  pub some : (x ≡ first) ⊎ (1 ≤ length (page_pairs bytes x))

module _ (table : ℕ) where
  pub on_seen : (n : ℕ) (bytes : List ℕ) (page low x : ℕ) → IsOwn bytes page → IsChain table n bytes page low → IsOnChain n bytes page x → IsMember table bytes page x
  on_seen zero bytes page low x own c on = absurd on
  on_seen (suc n) bytes page low x own c (inl is) =
      subst (λ (y : ℕ). IsMember table bytes page y) (sym is) (record { kind = c.0.kind; own = own; given = c.0.given; some = inl refl })
  on_seen (suc n) bytes page low x own c (inr on) =
      let to = c.0.link on.0 in
      let near = first_below low key_end (page_pairs bytes page) (linked_some table bytes page low on.0 c.0) c.0.rises in
      let head = chain_head table n bytes (link_of bytes page) (behind low (page_pairs bytes page)) (c.1 on.0) in
      let m = on_seen n bytes (link_of bytes page) (behind low (page_pairs bytes page)) x (omega (arith, to.0), to.1) (c.1 on.0) on.1 in
      let many : 1 ≤ length (page_pairs bytes (link_of bytes page)) = later_some table bytes (link_of bytes page) (behind low (page_pairs bytes page)) (omega (arith, near)) head in
      record {
        kind = m.kind;
        own = m.own;
        given = m.given;
        some = elim m.some [ inl is ↦ inr (subst (λ (y : ℕ). 1 ≤ length (page_pairs bytes y)) (sym is) many) | inr some ↦ inr some ];
      }

  page_moved : (old new : List ℕ) → next_page old ≤ next_page new → (page low : ℕ) → page_bytes new page ≡ page_bytes old page → AreGiven new table (page_pairs old page) → IsChainPage table old page low
      → IsChainPage table new page low
  page_moved old new later page low e given t = record {
    kind = ap kind_said e ∙ t.kind;
    level = ap level_said e ∙ t.level;
    most = subst (λ (b : List ℕ). count_said b ≤ 30) (sym e) t.most;
    some = subst (λ (b : List ℕ). count_said b ≡ 0 → (low ≡ 0) × (link_said b ≡ 0)) (sym e) t.some;
    rises = subst (λ (b : List ℕ). Rise low key_end (pairs_said b)) (sym e) t.rises;
    given = subst (λ (b : List ℕ). AreGiven new table (pairs_said b)) (sym e) given;
    link = subst (λ (b : List ℕ). link_said b ≢ 0 → (2 ≤ link_said b) × (link_said b < next_page new)) (sym e) (λ h. let l = t.link h in (l.0, omega (arith, l.1, later)));
  }

  -- its own pages are as they were, and the slots of its pairs carry their keys
  on_rests : (old new : List ℕ) → next_page old ≤ next_page new → (n page low : ℕ) → IsChain table n old page low → ((x : ℕ) → IsOnChain n old page x → page_bytes new x ≡ page_bytes old x)
      → AreGiven new table (joined (chain_pieces n old page 0)) → IsChain table n new page low × ((from : ℕ) → joined (chain_pieces n new page from) ≡ joined (chain_pieces n old page from))
  on_rests old new later zero page low c same given = absurd c
  on_rests old new later (suc n) page low c same given =
      let e : page_bytes new page ≡ page_bytes old page = same page (inl refl) in
      let g = given_left new table (page_pairs old page) _ given in
      step_kept table old new n page low (ap link_said e) (ap pairs_said e) (page_moved old new later page low e g.0 c.0)
      (λ more.
      let b : nat_eq (link_of old page) 0 ≡ false = ne_eqb (link_of old page) 0 more in
      let rest : AreGiven new table (joined (chain_pieces n old (link_of old page) (first_key (page_pairs old (link_of old page))))) = rw b at g.1 in
      on_rests old new later n (link_of old page) (behind low (page_pairs old page)) (c.1 more) (λ x on. same x (inr (more, on)))
      (subst (λ (ps : List Pair). AreGiven new table ps) (joined_from n old (link_of old page) (first_key (page_pairs old (link_of old page))) 0) rest))

on_still : (old new : List ℕ) (n page x : ℕ) → ((y : ℕ) → IsOnChain n old page y → page_bytes new y ≡ page_bytes old y) → IsOnChain n old page x → IsOnChain n new page x
on_still old new zero page x same on = on
on_still old new (suc n) page x same (inl is) = inl is
on_still old new (suc n) page x same (inr on) =
    let e : link_of new page ≡ link_of old page = ap link_said (same page (inl refl)) in
    inr (
      λ none. on.0 (sym e ∙ none),
      subst (λ (p : ℕ). IsOnChain n new p x) (sym e) (on_still old new n (link_of old page) x (λ y on'. same y (inr (on.0, on'))) on.1),
    )

-- the chain of a table whose pages are as they were
module _ (old new : List ℕ) (table root : ℕ) (own : IsOwn old root) (check : chain_check old root table None) (later : next_page old ≤ next_page new)
    (given : AreGiven new table (pairs_of_chain old root)) (same : (x : ℕ) → IsPageOfChain old root x → page_bytes new x ≡ page_bytes old x) where
  still : IsChain table (next_page old) new root 0 × ((from : ℕ) → joined (chain_pieces (next_page old) new root from) ≡ joined (chain_pieces (next_page old) old root from))
  still = on_rests table old new later (next_page old) root 0 (pages_of_sound old root table check) same (subst (λ (ps : List Pair). AreGiven new table ps) (sym (pieces_have old root)) given)

  fitted : IsChain table (next_page new) new root 0 × ((from : ℕ) → joined (chain_pieces (next_page new) new root from) ≡ joined (chain_pieces (next_page old) new root from))
  fitted = chain_fits table (next_page old) new root 0 (omega (arith, own.1, later)) still.0

  pub chain_stays : chain_check new root table None × (pairs_of_chain new root ≡ pairs_of_chain old root)
  chain_stays = (
    sound_by_pages new root table fitted.0,
    sym (pieces_have new root) ∙ fitted.1 0 ∙ still.1 0 ∙ pieces_have old root,
  )

  pub pages_stay : (x : ℕ) → IsPageOfChain old root x → IsPageOfChain new root x × (page_bytes new x ≡ page_bytes old x)
  pages_stay x on = (on_within table (next_page old) (next_page new) new root 0 x fitted.0 (on_still old new (next_page old) root x same on), same x on)
