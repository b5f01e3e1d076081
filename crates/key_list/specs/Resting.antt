-- A chain whose pages are as they were, and whose slots still carry their keys.
use Rattle.std.proofs.Common.{◌≡◌, ◌≢◌, ℕ, zero, suc, ◌<◌, ◌≤◌, true, false, nat_eq, inl, inr, List, [], ◌++◌, Some, None, refl, sym, ◌∙◌, ap, subst, arith}
use Rattle.std.proofs.lemmas.Bool.Decides.{eqb_tells}
use Rattle.record_slots.specs.Places.{page_bytes, next_page, AreGiven}
use Rattle.std.specs.Prelude.{slice_get}
use Rattle.std.specs.Option.{option_map}
use Rattle.record_slots.specs.Super.{next_said}
use Rattle.record_slots.specs.declared.super_page.TableEntry.{TableEntry}
use Rattle.page_store.specs.Index.{KeepsIndex, HasCounts, IsTable}
use Rattle.page_store.specs.Pairs.{Pair, Rise}
use Rattle.index_pages.proofs.Tabled.{whole_seen, whole_passes, whole_counts, front_rests, table_own}
use Rattle.index_pages.specs.Keys.{key_end}
use Rattle.index_pages.specs.Page.{page_pairs, pairs_said, kind_said, level_said, count_said, link_said, link_of}
use Rattle.index_pages.specs.Pieces.{joined}
use Rattle.key_list.specs.Chain.{behind, chain_pieces, first_key, chain_check, IsSoundChain, pairs_of_chain}
use Rattle.key_list.specs.Seen.{IsChainPage, IsChain, pages_of_sound, sound_by_pages, pieces_have}
use Rattle.index_pages.specs.Ways.{Keeps, IsOwn}
use Rattle.index_pages.proofs.Kept.{given_kept}
use Rattle.index_pages.proofs.Halves.{given_append}

pub joined_from : (n : ℕ) (bytes : List ℕ) (page a b : ℕ) → joined (chain_pieces n bytes page a) ≡ joined (chain_pieces n bytes page b)
joined_from zero bytes page a b = refl
joined_from (suc n) bytes page a b = refl

module _ (table : ℕ) where
  module _ (old new : List ℕ) (keeps : Keeps old new) where
    -- a page that is as it was, after other keys
    pub page_kept : (page low low' : ℕ) → (low ≡ 0 → low' ≡ 0) → page_bytes new page ≡ page_bytes old page → IsChainPage table old page low → Rise low' key_end (page_pairs old page) → IsChainPage table new page low'
    page_kept page low low' first e t r = record {
      kind = ap kind_said e ∙ t.kind;
      level = ap level_said e ∙ t.level;
      most = subst (λ (b : List ℕ). count_said b ≤ 30) (sym e) t.most;
      some = subst (λ (b : List ℕ). count_said b ≡ 0 → (low' ≡ 0) × (link_said b ≡ 0)) (sym e) (λ none. let h = t.some none in (first h.0, h.1));
      rises = subst (λ (b : List ℕ). Rise low' key_end (pairs_said b)) (sym e) r;
      given = subst (λ (b : List ℕ). AreGiven new table (pairs_said b)) (sym e) (given_kept old new keeps table (page_pairs old page) t.given);
      link = subst (λ (b : List ℕ). link_said b ≢ 0 → (2 ≤ link_said b) × (link_said b < next_page new)) (sym e) (λ h. let l = t.link h in (l.0, omega (arith, l.1, keeps.pages)));
    }

  -- a page that says the same, before pages that do
  pub step_kept : (old new : List ℕ) (n page low : ℕ) → link_of new page ≡ link_of old page → page_pairs new page ≡ page_pairs old page → IsChainPage table new page low
      → (link_of old page ≢ 0 → IsChain table n new (link_of old page) (behind low (page_pairs old page))
      × ((from : ℕ) → joined (chain_pieces n new (link_of old page) from) ≡ joined (chain_pieces n old (link_of old page) from)))
      → IsChain table (suc n) new page low × ((from : ℕ) → joined (chain_pieces (suc n) new page from) ≡ joined (chain_pieces (suc n) old page from))
  step_kept old new n page low link pairs here later =
      elim (eqb_tells (link_of old page) 0) [
        | inl last ↦
            let b : nat_eq (link_of old page) 0 ≡ true = last.0 in
            let b' : nat_eq (link_of new page) 0 ≡ true = ap (λ (x : ℕ). nat_eq x 0) link ∙ b in (
              (here, λ other. absurd (other (link ∙ last.1))),
              λ from. rw (b, b') (ap (λ (ps : List Pair). ps ++ []) pairs),
            )
        | inr more ↦
            let b : nat_eq (link_of old page) 0 ≡ false = more.0 in
            let b' : nat_eq (link_of new page) 0 ≡ false = ap (λ (x : ℕ). nat_eq x 0) link ∙ b in
            let rest = later more.1 in (
              (here, λ other. rw (link, pairs) rest.0),
              λ from. rw (b, b') (rw (link, pairs) (ap (λ (ps : List Pair). page_pairs old page ++ ps)
                  (joined_from n new (link_of old page) (first_key (page_pairs new (link_of old page))) 0 ∙ rest.1 0 ∙ joined_from n old (link_of old page) 0 (first_key (page_pairs old (link_of old page)))))),
            )
      ]

  module _ (old new : List ℕ) (keeps : Keeps old new) (same : (x : ℕ) → 1 ≤ x → x < next_page old → page_bytes new x ≡ page_bytes old x) where
    pub chain_rests : (n page low : ℕ) → IsOwn old page → IsChain table n old page low
        → IsChain table n new page low × ((from : ℕ) → joined (chain_pieces n new page from) ≡ joined (chain_pieces n old page from))
    chain_rests zero page low own c = absurd c
    chain_rests (suc n) page low own c =
        let e : page_bytes new page ≡ page_bytes old page = same page own.0 own.1 in
        step_kept old new n page low (ap link_said e) (ap pairs_said e) (page_kept old new keeps page low low (λ z. z) e c.0 c.0.rises)
        (λ more. let to = c.0.link more in chain_rests n (link_of old page) (behind low (page_pairs old page)) (omega (arith, to.0), to.1) (c.1 more))

  chain_given : (n : ℕ) (bytes : List ℕ) (page low from : ℕ) → IsChain table n bytes page low → AreGiven bytes table (joined (chain_pieces n bytes page from))
  chain_given zero bytes page low from c = absurd c
  chain_given (suc n) bytes page low from c =
      elim (eqb_tells (link_of bytes page) 0) [
        | inl last ↦ let b : nat_eq (link_of bytes page) 0 ≡ true = last.0 in rw b (given_append bytes table (page_pairs bytes page) [] c.0.given tt)
        | inr more ↦
            let b : nat_eq (link_of bytes page) 0 ≡ false = more.0 in
            rw b (given_append bytes table (page_pairs bytes page) (joined (chain_pieces n bytes (link_of bytes page) (first_key (page_pairs bytes (link_of bytes page))))) c.0.given
            (chain_given n bytes (link_of bytes page) (behind low (page_pairs bytes page)) (first_key (page_pairs bytes (link_of bytes page))) (c.1 more.1)))
      ]

-- writes into slots leave the chain of a table as it is
pub chain_of_table_rests : (old new : List ℕ) (root table : ℕ) → (1 ≤ root) × (root < next_page old) → chain_check old root table None → Keeps old new → next_page new ≡ next_page old
    → ((x : ℕ) → 1 ≤ x → x < next_page old → page_bytes new x ≡ page_bytes old x) → chain_check new root table None × (pairs_of_chain new root ≡ pairs_of_chain old root)
chain_of_table_rests old new root table own sound keeps same pages =
    let r = chain_rests table old new keeps pages (next_page old) root 0 own (pages_of_sound old root table sound) in (
      sound_by_pages new root table (subst (λ (n : ℕ). IsChain table n new root 0) (sym same) r.0),
      sym (pieces_have new root) ∙ ap (λ (n : ℕ). joined (chain_pieces n new root 0)) same ∙ r.1 0 ∙ pieces_have old root,
    )

-- the chain of each table of sound data is sound
pub sound_table : (bytes : List ℕ) (table root : ℕ) → IsSoundChain bytes → IsTable bytes table root → chain_check bytes root table None
sound_table bytes table root sound is = (whole_seen 0 chain_check bytes sound).tables table root is

pub sound_chain_counts : (bytes : List ℕ) → IsSoundChain bytes → HasCounts bytes
sound_chain_counts bytes sound = whole_counts 0 chain_check bytes (whole_seen 0 chain_check bytes sound)

-- and those of all tables
pub sound_chains_rest : (old new : List ℕ) → IsSoundChain old → KeepsIndex old new → IsSoundChain new × ((table root : ℕ) → IsTable old table root → pairs_of_chain new root ≡ pairs_of_chain old root)
sound_chains_rest old new sound keeps =
    let w = whole_seen 0 chain_check old sound in
    let f = front_rests 0 chain_check old new w keeps in
    let same : next_page new ≡ next_page old = ap (next_said 12) (keeps.pages 0 (omega (arith, w.front.some_pages, w.front.pages))) in
    let each : (table root : ℕ) → IsTable old table root → chain_check new root table None × (pairs_of_chain new root ≡ pairs_of_chain old root) =
    λ table root is. chain_of_table_rests old new root table (table_own 0 old table root w.front is) (w.tables table root is) f.keeps same (λ x some lt. keeps.pages x (omega (arith, lt, w.front.pages))) in (
      whole_passes 0 chain_check new (record {
        front = f.front;
        slots = f.slots;
        pages = f.pages;
        tables = λ table root is. (each table root (subst (λ (ts : List TableEntry). option_map (λ entry. entry.root) (slice_get ts table) ≡ Some root) f.tables is)).0;
      }),
      λ table root is. (each table root is).1,
    )

pub sound_chain_given : (bytes : List ℕ) (root table : ℕ) → chain_check bytes root table None → AreGiven bytes table (pairs_of_chain bytes root)
sound_chain_given bytes root table sound =
    subst (λ (ps : List Pair). AreGiven bytes table ps) (pieces_have bytes root) (chain_given table (next_page bytes) bytes root 0 0 (pages_of_sound bytes root table sound))
