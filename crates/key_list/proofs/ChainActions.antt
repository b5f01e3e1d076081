-- What an insertion and a split make of a chain.
use Rattle.std.proofs.Common.{◌≡◌, ◌≢◌, ℕ, zero, suc, ◌+◌, ◌-◌, ◌<◌, ◌≤◌, true, false, nat_eq, nat_lt, inl, inr, List, [], ◌∷◌, ◌++◌, length, take, drop, None, refl, sym, ◌∙◌, ap, subst, arith}
use Rattle.std.specs.Prelude.{if◌then◌else◌}
use Rattle.std.specs.List.{AllByRecursion, IsDistinct, list_any}
use Rattle.std.proofs.lemmas.Bool.{cases_Bool}
use Rattle.std.proofs.lemmas.Map.Steps.{length-le_from_distinct_below}
use Rattle.std.proofs.lemmas.Bool.Decides.{nat_tests, leb_tells, eqb_tells}
use Rattle.std.proofs.lemmas.List.{append-nil, take-append-drop, length-drop, length-take-le}
use Rattle.index_pages.proofs.Rising.{rise_from_less, rise_to_more, take_rises, drop_rises, key_at-bounds, inserted-rises, inserted-left, length-inserted, found-left, found-right}
use Rattle.index_pages.proofs.Tiling.{joined_rises}
use Rattle.index_pages.proofs.Kept.{given_kept}
use Rattle.index_pages.proofs.PageFacts.{length-page_pairs, rise_wide}
use Rattle.key_list.specs.ChainFacts.{chain_tiles, rise_behind, first_from, some_of, chain_head, wide_behind}
use Rattle.index_pages.proofs.Given.{given_inserted, inserted_local, same_local, above_zero}
use Rattle.index_pages.proofs.Halves.{given_take, joined_two}
use Rattle.key_list.specs.Chain.{behind, first_key, chain_pieces, chain_check, pairs_of_chain, chain_page_for, page_of_key}
use Rattle.key_list.specs.Seen.{IsChainPage, IsChain, pages_of_sound, sound_by_pages, pieces_have}
use Rattle.key_list.specs.Resting.{page_kept, step_kept, joined_from}
use Rattle.key_list.specs.Changes.{TakesPairInChain, SplitsPage}
use Rattle.index_pages.specs.Keys.{key_at, key_end}
use Rattle.index_pages.specs.Page.{kind_of, link_said, pairs_said, count_of, link_of, page_pairs}
use Rattle.index_pages.specs.Pieces.{joined}
use Rattle.index_pages.specs.Ways.{Keeps, IsLocal, IsOwn, above}
use Rattle.page_store.specs.Pairs.{Pair, Rise, found, inserted}
use Rattle.record_slots.specs.Places.{page_bytes, next_page, AreGiven}

pub behind_bound : (low high : ℕ) (ps : List Pair) → Rise low high ps → behind low ps ≤ high
behind_bound low high [] r = r
behind_bound low high (p ∷ ps) r = behind_bound (suc p.0) high ps r.1

pub rise_from : (low high : ℕ) (ps : List Pair) → Rise low high ps → low ≤ behind low ps
rise_from low high [] r = omega arith
rise_from low high (p ∷ ps) r = let h = rise_from (suc p.0) high ps r.1 in omega arith

behind_same : (low from high : ℕ) (ps : List Pair) → 1 ≤ length ps → Rise low high ps → behind from ps ≡ behind low ps
behind_same low from high [] some r = absurd (omega arith)
behind_same low from high (p ∷ ps) some r = refl

pub first_below : (low high : ℕ) (ps : List Pair) → 1 ≤ length ps → Rise low high ps → first_key ps < behind low ps
first_below low high [] some r = absurd (omega arith)
first_below low high (p ∷ ps) some r = let h = rise_from (suc p.0) high ps r.1 in omega arith

module _ (table : ℕ) where
  -- a page that another page of the chain names has pairs
  pub later_some : (bytes : List ℕ) (page low : ℕ) → 1 ≤ low → IsChainPage table bytes page low → 1 ≤ length (page_pairs bytes page)
  later_some bytes page low two t = omega (arith, length-page_pairs bytes page, some_of (count_of bytes page) ((low ≡ 0) × (link_of bytes page ≡ 0)) t.some (λ h. omega (arith, h.0, two)))

  pub linked_some : (bytes : List ℕ) (page low : ℕ) → link_of bytes page ≢ 0 → IsChainPage table bytes page low → 1 ≤ length (page_pairs bytes page)
  linked_some bytes page low linked t = omega (arith, length-page_pairs bytes page, some_of (count_of bytes page) ((low ≡ 0) × (link_of bytes page ≡ 0)) t.some (λ h. linked h.1))

  module _ (old new : List ℕ) (keeps : Keeps old new) where
    -- a chain whose pages are as they were, except that those with a first key below some key may have changed
    pub chain_kept : (n page low low' q : ℕ) → IsOwn old page → 1 ≤ low → IsChain table n old page low → low' ≤ first_key (page_pairs old page) → first_key (page_pairs old q) < low
        → ((x : ℕ) → 1 ≤ x → x < next_page old → kind_of old x ≡ 1 → x ≢ q → page_bytes new x ≡ page_bytes old x)
        → IsChain table n new page low' × ((from : ℕ) → joined (chain_pieces n new page from) ≡ joined (chain_pieces n old page from))
    chain_kept zero page low low' q own two c le below kept = absurd c
    chain_kept (suc n) page low low' q own two c le below kept =
        let some = later_some old page low two c.0 in
        let first = first_from low key_end (page_pairs old page) some c.0.rises in
        let e : page_bytes new page ≡ page_bytes old page = kept page own.0 own.1 c.0.kind (λ same. omega (arith, ap (λ (x : ℕ). first_key (page_pairs old x)) same, first.0)) in
        let link : link_of new page ≡ link_of old page = ap link_said e in
        let pairs : page_pairs new page ≡ page_pairs old page = ap pairs_said e in
        let r : Rise low' key_end (page_pairs old page) = rise_from_less (first_key (page_pairs old page)) low' key_end (page_pairs old page) le first.1 in
        step_kept table old new n page low' link pairs (page_kept table old new keeps page low low' (λ z. absurd (omega (arith, z, two))) e c.0 r)
        (λ more.
        let to = c.0.link more in
        let head = chain_head table n old (link_of old page) (behind low (page_pairs old page)) (c.1 more) in
        let up = wide_behind low key_end (page_pairs old page) some c.0.rises in
        let some' = later_some old (link_of old page) (behind low (page_pairs old page)) (omega (arith, up)) head in
        let first' = first_from (behind low (page_pairs old page)) key_end (page_pairs old (link_of old page)) some' head.rises in
        let same = behind_same low low' key_end (page_pairs old page) some c.0.rises in
        chain_kept n (link_of old page) (behind low (page_pairs old page)) (behind low' (page_pairs old page)) q (omega (arith, to.0), to.1) (omega (arith, up)) (c.1 more) (omega (arith, first'.0)) (omega arith) kept)

  -- a chain of at most n pages is one of at most more
  pub chain_more : (n e : ℕ) (bytes : List ℕ) (page low : ℕ) → IsChain table n bytes page low
      → IsChain table (above n e) bytes page low × ((from : ℕ) → joined (chain_pieces (above n e) bytes page from) ≡ joined (chain_pieces n bytes page from))
  chain_more zero e bytes page low c = absurd c
  chain_more (suc n) e bytes page low c =
      elim (eqb_tells (link_of bytes page) 0) [
        | inl last ↦
            let b : nat_eq (link_of bytes page) 0 ≡ true = last.0 in
            ((c.0, λ other. absurd (other last.1)), λ from. rw b refl)
        | inr more ↦
            let b : nat_eq (link_of bytes page) 0 ≡ false = more.0 in
            let rest = chain_more n e bytes (link_of bytes page) (behind low (page_pairs bytes page)) (c.1 more.1) in
            ((c.0, λ other. rest.0), λ from. rw b (ap (λ (ps : List Pair). page_pairs bytes page ++ ps) (rest.1 (first_key (page_pairs bytes (link_of bytes page))))))
      ]

  above_one : (n : ℕ) → above n 1 ≡ suc n
  above_one zero = refl
  above_one (suc n) = ap suc (above_one n)

  -- the first key of a chain's page comes after all pages before it
  pub far_first : (n : ℕ) (bytes : List ℕ) (page low key : ℕ) → 1 ≤ low → IsChain table n bytes page low → low ≤ first_key (page_pairs bytes (chain_page_for n bytes page key))
  far_first zero bytes page low key two c = absurd c
  far_first (suc n) bytes page low key two c =
      let some = later_some bytes page low two c.0 in
      let first = first_from low key_end (page_pairs bytes page) some c.0.rises in
      elim (eqb_tells (link_of bytes page) 0) [
        | inl last ↦ let b : nat_eq (link_of bytes page) 0 ≡ true = last.0 in rw b first.0
        | inr more ↦
            let b : nat_eq (link_of bytes page) 0 ≡ false = more.0 in
            elim (leb_tells (suc key) (first_key (page_pairs bytes (link_of bytes page)))) [
              | inl h ↦ let b' : nat_lt key (first_key (page_pairs bytes (link_of bytes page))) ≡ true = h.0 in rw b (rw b' first.0)
              | inr h ↦
                  let b' : nat_lt key (first_key (page_pairs bytes (link_of bytes page))) ≡ false = h.0 in
                  let up = wide_behind low key_end (page_pairs bytes page) some c.0.rises in
                  let rest = far_first n bytes (link_of bytes page) (behind low (page_pairs bytes page)) key (omega (arith, up)) (c.1 more.1) in
                  rw b (rw b' (omega (arith, rest)))
            ]
      ]

  module _ (old new : List ℕ) (keeps : Keeps old new) (change : List Pair → List Pair) (key : ℕ) (local : IsLocal key change) (q e : ℕ) where
    -- what is done to the rest of a chain from the key's page on is done to the whole
    pub chain_graft : ((n low : ℕ) → low ≤ key → IsChain table (suc n) old q low → (link_of old q ≢ 0 → key < first_key (page_pairs old (link_of old q)))
        → IsChain table (above (suc n) e) new q low × ((from : ℕ) → joined (chain_pieces (above (suc n) e) new q from) ≡ change (joined (chain_pieces (suc n) old q from))))
        → ((x : ℕ) → 1 ≤ x → x < next_page old → kind_of old x ≡ 1 → x ≢ q → page_bytes new x ≡ page_bytes old x)
        → (n page low : ℕ) → IsOwn old page → IsChain table n old page low → low ≤ key → q ≡ chain_page_for n old page key
        → IsChain table (above n e) new page low × ((from : ℕ) → joined (chain_pieces (above n e) new page from) ≡ change (joined (chain_pieces n old page from)))
    chain_graft changed kept zero page low own c le is = absurd c
    chain_graft changed kept (suc n) page low own c le is =
        elim (eqb_tells (link_of old page) 0) [
          | inl last ↦
              let b : nat_eq (link_of old page) 0 ≡ true = last.0 in
              let is' : q ≡ page = is ∙ (rw b refl) in
              subst (λ (x : ℕ). IsChain table (above (suc n) e) new x low × ((from : ℕ) → joined (chain_pieces (above (suc n) e) new x from) ≡ change (joined (chain_pieces (suc n) old x from)))) is'
              (changed n low le (subst (λ (x : ℕ). IsChain table (suc n) old x low) (sym is') c) (λ other. absurd (other (ap (λ (x : ℕ). link_of old x) is' ∙ last.1))))
          | inr more ↦
              let b : nat_eq (link_of old page) 0 ≡ false = more.0 in
              elim (leb_tells (suc key) (first_key (page_pairs old (link_of old page)))) [
                | inl h ↦
                    let b' : nat_lt key (first_key (page_pairs old (link_of old page))) ≡ true = h.0 in
                    let is' : q ≡ page = is ∙ (rw b (rw b' refl)) in
                    subst (λ (x : ℕ). IsChain table (above (suc n) e) new x low × ((from : ℕ) → joined (chain_pieces (above (suc n) e) new x from) ≡ change (joined (chain_pieces (suc n) old x from)))) is'
                    (changed n low le (subst (λ (x : ℕ). IsChain table (suc n) old x low) (sym is') c)
                    (λ other. subst (λ (x : ℕ). key < first_key (page_pairs old (link_of old x))) (sym is') h.1))
                | inr h ↦
                    let b' : nat_lt key (first_key (page_pairs old (link_of old page))) ≡ false = h.0 in
                    let is' : q ≡ chain_page_for n old (link_of old page) key = is ∙ (rw b (rw b' refl)) in
                    let to = c.0.link more.1 in
                    let some = linked_some old page low more.1 c.0 in
                    let head = chain_head table n old (link_of old page) (behind low (page_pairs old page)) (c.1 more.1) in
                    let near = first_below low key_end (page_pairs old page) some c.0.rises in
                    let some' = later_some old (link_of old page) (behind low (page_pairs old page)) (omega (arith, near)) head in
                    let first' = first_from (behind low (page_pairs old page)) key_end (page_pairs old (link_of old page)) some' head.rises in
                    let far = far_first n old (link_of old page) (behind low (page_pairs old page)) key (omega (arith, near)) (c.1 more.1) in
                    let same : page_bytes new page ≡ page_bytes old page = kept page own.0 own.1 c.0.kind (λ e'. omega (arith, ap (λ (x : ℕ). first_key (page_pairs old x)) (e' ∙ is'), far, near)) in
                    let link : link_of new page ≡ link_of old page = ap link_said same in
                    let pairs : page_pairs new page ≡ page_pairs old page = ap pairs_said same in
                    let b'' : nat_eq (link_of new page) 0 ≡ false = ap (λ (x : ℕ). nat_eq x 0) link ∙ b in
                    let rest = chain_graft changed kept n (link_of old page) (behind low (page_pairs old page)) (omega (arith, to.0), to.1) (c.1 more.1) (omega (arith, first'.0, h.1)) is' in
                    let here = rise_behind low key_end (behind low (page_pairs old page)) (page_pairs old page) c.0.rises (omega arith) in (
                      (page_kept table old new keeps page low low (λ z. z) same c.0 c.0.rises, λ other. rw (link, pairs) rest.0),
                      λ from. rw (b, b'') (rw (link, pairs)
                          (ap (λ (ps : List Pair). page_pairs old page ++ ps)
                          (joined_from (above n e) new (link_of old page) (first_key (page_pairs new (link_of old page))) 0 ∙ rest.1 0
                          ∙ ap change (joined_from n old (link_of old page) 0 (first_key (page_pairs old (link_of old page)))))
                          ∙ sym (local.right low (behind low (page_pairs old page)) (page_pairs old page)
                          (joined (chain_pieces n old (link_of old page) (first_key (page_pairs old (link_of old page))))) here (omega (arith, first'.0, h.1))))),
                    )
              ]
        ]

  -- the pages after one, when those up to it may have changed
  pub rest_kept : (old new : List ℕ) → Keeps old new → (n q low low' : ℕ) → IsChain table (suc n) old q low → link_of old q ≢ 0 → low' ≤ first_key (page_pairs old (link_of old q))
      → ((x : ℕ) → 1 ≤ x → x < next_page old → kind_of old x ≡ 1 → x ≢ q → page_bytes new x ≡ page_bytes old x)
      → IsChain table n new (link_of old q) low' × ((from : ℕ) → joined (chain_pieces n new (link_of old q) from) ≡ joined (chain_pieces n old (link_of old q) from))
  rest_kept old new keeps n q low low' c linked le kept =
      let to = c.0.link linked in
      chain_kept old new keeps n (link_of old q) (behind low (page_pairs old q)) low' q (omega (arith, to.0), to.1) (let near = first_below low key_end (page_pairs old q) (linked_some old q low linked c.0) c.0.rises in omega (arith, near)) (c.1 linked) le
      (first_below low key_end (page_pairs old q) (linked_some old q low linked c.0) c.0.rises) kept

  -- the first key of the page after one comes after all its keys
  pub next_first : (bytes : List ℕ) (n q low : ℕ) → IsChain table (suc n) bytes q low → link_of bytes q ≢ 0
      → (behind low (page_pairs bytes q) ≤ first_key (page_pairs bytes (link_of bytes q))) × Rise (first_key (page_pairs bytes (link_of bytes q))) key_end (page_pairs bytes (link_of bytes q))
      × (first_key (page_pairs bytes (link_of bytes q)) < key_end)
  next_first bytes n q low c linked =
      let to = c.0.link linked in
      let head = chain_head table n bytes (link_of bytes q) (behind low (page_pairs bytes q)) (c.1 linked) in
      let near = first_below low key_end (page_pairs bytes q) (linked_some bytes q low linked c.0) c.0.rises in
      let some = later_some bytes (link_of bytes q) (behind low (page_pairs bytes q)) (omega (arith, near)) head in
      let first = first_from (behind low (page_pairs bytes q)) key_end (page_pairs bytes (link_of bytes q)) some head.rises in
      (first.0, first.1, rise_wide (first_key (page_pairs bytes (link_of bytes q))) key_end (page_pairs bytes (link_of bytes q)) some first.1)

  -- a page that keeps its link has other pairs, which still lie before those of the page behind it
  pub page_changes : (old new : List ℕ) → Keeps old new → (change : List Pair → List Pair) (q : ℕ) → link_of new q ≡ link_of old q → page_pairs new q ≡ change (page_pairs old q)
      → ((x : ℕ) → 1 ≤ x → x < next_page old → kind_of old x ≡ 1 → x ≢ q → page_bytes new x ≡ page_bytes old x)
      → (n low : ℕ) → IsChain table (suc n) old q low → IsChainPage table new q low
      → (link_of old q ≢ 0 → Rise low (first_key (page_pairs old (link_of old q))) (page_pairs old q) → Rise low (first_key (page_pairs old (link_of old q))) (change (page_pairs old q)))
      → (link_of old q ≢ 0 → (rest : List Pair) → Rise (first_key (page_pairs old (link_of old q))) key_end rest → change (page_pairs old q ++ rest) ≡ change (page_pairs old q) ++ rest)
      → IsChain table (above (suc n) 0) new q low × ((from : ℕ) → joined (chain_pieces (above (suc n) 0) new q from) ≡ change (joined (chain_pieces (suc n) old q from)))
  page_changes old new keeps change q link pairs kept n low c here still left =
      let z = above_zero n in
      elim (eqb_tells (link_of old q) 0) [
        | inl last ↦
            let b : nat_eq (link_of old q) 0 ≡ true = last.0 in
            let b' : nat_eq (link_of new q) 0 ≡ true = ap (λ (x : ℕ). nat_eq x 0) link ∙ b in (
              (here, λ other. absurd (other (link ∙ last.1))),
              λ from. rw (b, b') (append-nil (page_pairs new q) ∙ pairs ∙ ap (λ (ps : List Pair). change ps) (sym (append-nil (page_pairs old q)))),
            )
        | inr linked ↦
            let b : nat_eq (link_of old q) 0 ≡ false = linked.0 in
            let b' : nat_eq (link_of new q) 0 ≡ false = ap (λ (x : ℕ). nat_eq x 0) link ∙ b in
            let first = next_first old n q low c linked.1 in
            let up = still linked.1 (rise_behind low key_end (first_key (page_pairs old (link_of old q))) (page_pairs old q) c.0.rises first.0) in
            let rest = rest_kept old new keeps n q low (behind low (change (page_pairs old q))) c linked.1
            (behind_bound low (first_key (page_pairs old (link_of old q))) (change (page_pairs old q)) up) kept in
            let tile = chain_tiles table n old (link_of old q) (behind low (page_pairs old q)) (first_key (page_pairs old (link_of old q))) (c.1 linked.1) first.1 first.2 in
            let rises = joined_rises (first_key (page_pairs old (link_of old q))) key_end (chain_pieces n old (link_of old q) (first_key (page_pairs old (link_of old q)))) tile in (
              (here, λ other. rw (z, link, pairs) rest.0),
              λ from. rw (b, b') (rw (z, link, pairs)
                  (ap (λ (ps : List Pair). change (page_pairs old q) ++ ps)
                  (joined_from n new (link_of old q) (first_key (page_pairs new (link_of old q))) 0 ∙ rest.1 0 ∙ joined_from n old (link_of old q) 0 (first_key (page_pairs old (link_of old q))))
                  ∙ sym (left linked.1 (joined (chain_pieces n old (link_of old q) (first_key (page_pairs old (link_of old q))))) rises))),
            )
      ]

  module _ (old new : List ℕ) (keeps : Keeps old new) (q key to : ℕ) (lt : key < key_end) where
    page_takes : TakesPairInChain old new table q key to → found (page_pairs old q) key ≡ None
        → ((x : ℕ) → 1 ≤ x → x < next_page old → kind_of old x ≡ 1 → x ≢ q → page_bytes new x ≡ page_bytes old x)
        → (n low : ℕ) → low ≤ key → IsChain table (suc n) old q low → (link_of old q ≢ 0 → key < first_key (page_pairs old (link_of old q)))
        → IsChain table (above (suc n) 0) new q low × ((from : ℕ) → joined (chain_pieces (above (suc n) 0) new q from) ≡ inserted (joined (chain_pieces (suc n) old q from)) key to)
    page_takes takes none kept n low le c far =
        let count : count_of new q ≡ suc (count_of old q) =
        sym (length-page_pairs new q) ∙ ap (λ (ps : List Pair). length ps) takes.pairs ∙ length-inserted key to (page_pairs old q) ∙ ap suc (length-page_pairs old q) in
        let here : IsChainPage table new q low = record {
          kind = takes.kind;
          level = takes.level;
          most = omega (arith, takes.room);
          some = λ zero_is. absurd (omega arith);
          rises = subst (λ (ps : List Pair). Rise low key_end ps) (sym takes.pairs) (inserted-rises low key_end key to (page_pairs old q) c.0.rises le lt none);
          given = subst (λ (ps : List Pair). AreGiven new table ps) (sym takes.pairs)
              (given_inserted new table key to (page_pairs old q) takes.given takes.carries (given_kept old new keeps table (page_pairs old q) c.0.given));
          link = λ other. let l = c.0.link (λ e. other (takes.link ∙ e)) in (omega (arith, l.0, takes.link), omega (arith, l.1, takes.link, keeps.pages));
        } in
        page_changes old new keeps (λ ps. inserted ps key to) q takes.link takes.pairs kept n low c here
        (λ linked rise. inserted-rises low (first_key (page_pairs old (link_of old q))) key to (page_pairs old q) rise le (far linked) none)
        (λ linked rest rises. inserted-left (first_key (page_pairs old (link_of old q))) key_end key to (page_pairs old q) rest rises (far linked))

  -- a lookup goes to the key's page
  pub chain_finds : (n : ℕ) (bytes : List ℕ) (page low from key : ℕ) → IsChain table n bytes page low → low ≤ key
      → found (joined (chain_pieces n bytes page from)) key ≡ found (page_pairs bytes (chain_page_for n bytes page key)) key
  chain_finds zero bytes page low from key c le = absurd c
  chain_finds (suc n) bytes page low from key c le =
      elim (eqb_tells (link_of bytes page) 0) [
        | inl last ↦ let b : nat_eq (link_of bytes page) 0 ≡ true = last.0 in rw b (ap (λ (ps : List Pair). found ps key) (append-nil (page_pairs bytes page)))
        | inr more ↦
            let b : nat_eq (link_of bytes page) 0 ≡ false = more.0 in
            let first = next_first bytes n page low c more.1 in
            let here = rise_behind low key_end (first_key (page_pairs bytes (link_of bytes page))) (page_pairs bytes page) c.0.rises first.0 in
            let tile = chain_tiles table n bytes (link_of bytes page) (behind low (page_pairs bytes page)) (first_key (page_pairs bytes (link_of bytes page))) (c.1 more.1) first.1 first.2 in
            let rises = joined_rises (first_key (page_pairs bytes (link_of bytes page))) key_end (chain_pieces n bytes (link_of bytes page) (first_key (page_pairs bytes (link_of bytes page)))) tile in
            elim (leb_tells (suc key) (first_key (page_pairs bytes (link_of bytes page)))) [
              | inl h ↦
                  let b' : nat_lt key (first_key (page_pairs bytes (link_of bytes page))) ≡ true = h.0 in
                  rw b (rw b' (found-left low (first_key (page_pairs bytes (link_of bytes page))) key_end key (page_pairs bytes page)
                  (joined (chain_pieces n bytes (link_of bytes page) (first_key (page_pairs bytes (link_of bytes page))))) here rises h.1))
              | inr h ↦
                  let b' : nat_lt key (first_key (page_pairs bytes (link_of bytes page))) ≡ false = h.0 in
                  rw b (rw b' (found-right low (first_key (page_pairs bytes (link_of bytes page))) key (page_pairs bytes page)
                  (joined (chain_pieces n bytes (link_of bytes page) (first_key (page_pairs bytes (link_of bytes page))))) here (omega (arith, h.1))
                  ∙ chain_finds n bytes (link_of bytes page) (behind low (page_pairs bytes page)) (first_key (page_pairs bytes (link_of bytes page))) key (c.1 more.1) (omega (arith, first.0, h.1))))
            ]
      ]

  module _ (old new : List ℕ) (keeps : Keeps old new) (q fresh key : ℕ) (lt : key < key_end) where
    page_splits : SplitsPage old new q fresh
        → ((x : ℕ) → 1 ≤ x → x < next_page old → kind_of old x ≡ 1 → x ≢ q → page_bytes new x ≡ page_bytes old x)
        → (n low : ℕ) → low ≤ key → IsChain table (suc n) old q low → (link_of old q ≢ 0 → key < first_key (page_pairs old (link_of old q)))
        → IsChain table (above (suc n) 1) new q low × ((from : ℕ) → joined (chain_pieces (above (suc n) 1) new q from) ≡ joined (chain_pieces (suc n) old q from))
    page_splits splits kept n low le c far =
        let full = splits.full in
        let ps : List Pair = page_pairs old q in
        let mid : ℕ = key_at (page_pairs old q) 15 in
        let long : length (take 15 (page_pairs old q)) ≡ 15 = length-take-le 15 (page_pairs old q) (omega arith) in
        let long' : length (drop 15 (page_pairs old q)) ≡ 15 = omega (arith, length-drop 15 (page_pairs old q)) in
        let count : count_of new q ≡ 15 = sym (length-page_pairs new q) ∙ ap (λ (l : List Pair). length l) splits.pairs ∙ long in
        let count' : count_of new fresh ≡ 15 = sym (length-page_pairs new fresh) ∙ ap (λ (l : List Pair). length l) splits.pairs' ∙ long' in
        let g = given_take new table 15 (page_pairs old q) (given_kept old new keeps table (page_pairs old q) c.0.given) in
        let left = take_rises 15 low key_end (page_pairs old q) (omega arith) c.0.rises in
        let right = drop_rises 15 low key_end (page_pairs old q) (omega arith) c.0.rises in
        let b = key_at-bounds 15 low key_end (page_pairs old q) (omega arith) c.0.rises in
        let end : ℕ = behind low (take 15 (page_pairs old q)) in
        let near : behind low (take 15 (page_pairs old q)) ≤ key_at (page_pairs old q) 15 = behind_bound low (key_at (page_pairs old q) 15) (take 15 (page_pairs old q)) left in
        let right' : Rise (behind low (take 15 (page_pairs old q))) key_end (drop 15 (page_pairs old q)) =
        rise_from_less (key_at (page_pairs old q) 15) (behind low (take 15 (page_pairs old q))) key_end (drop 15 (page_pairs old q)) near right in
        let here : IsChainPage table new q low = record {
          kind = splits.kind;
          level = splits.level;
          most = omega arith;
          some = λ none. absurd (omega arith);
          rises = subst (λ (l : List Pair). Rise low key_end l) (sym splits.pairs) (rise_to_more low (key_at (page_pairs old q) 15) key_end (take 15 (page_pairs old q)) (omega (arith, b.1)) left);
          given = subst (λ (l : List Pair). AreGiven new table l) (sym splits.pairs) g.0;
          link = λ other. (omega (arith, splits.link, splits.two), omega (arith, splits.link, splits.given));
        } in
        let there : IsChainPage table new fresh (behind low (take 15 (page_pairs old q))) = record {
          kind = splits.kind';
          level = splits.level';
          most = omega arith;
          some = λ none. absurd (omega arith);
          rises = subst (λ (l : List Pair). Rise (behind low (take 15 (page_pairs old q))) key_end l) (sym splits.pairs') right';
          given = subst (λ (l : List Pair). AreGiven new table l) (sym splits.pairs') g.1;
          link = λ other. let l = c.0.link (λ e. other (splits.link' ∙ e)) in (omega (arith, l.0, splits.link'), omega (arith, l.1, splits.link', keeps.pages));
        } in
        let z = above_one n in
        let r' : nat_eq fresh 0 ≡ false = grind (arith, nat_tests, splits.two) in
        let r : nat_eq (link_of new q) 0 ≡ false = ap (λ (x : ℕ). nat_eq x 0) splits.link ∙ r' in
        let tail : IsChain table (suc n) new fresh (behind low (take 15 (page_pairs old q)))
        × (joined (chain_pieces (suc n) new fresh 0) ≡ drop 15 (page_pairs old q)
        ++ joined (if nat_eq (link_of old q) 0 then [] else chain_pieces n old (link_of old q) (first_key (page_pairs old (link_of old q))))) =
        elim (eqb_tells (link_of old q) 0) [
          | inl last ↦
              let x : nat_eq (link_of old q) 0 ≡ true = last.0 in
              let x' : nat_eq (link_of new fresh) 0 ≡ true = ap (λ (y : ℕ). nat_eq y 0) splits.link' ∙ x in (
                (there, λ other. absurd (other (splits.link' ∙ last.1))),
                rw (x, x') (ap (λ (l : List Pair). l ++ []) splits.pairs'),
              )
          | inr more ↦
              let x : nat_eq (link_of old q) 0 ≡ false = more.0 in
              let x' : nat_eq (link_of new fresh) 0 ≡ false = ap (λ (y : ℕ). nat_eq y 0) splits.link' ∙ x in
              let first = next_first old n q low c more.1 in
              let f : ℕ = first_key (page_pairs old (link_of old q)) in
              let whole = rise_behind low key_end (first_key (page_pairs old (link_of old q))) (page_pairs old q) c.0.rises first.0 in
              let half = drop_rises 15 low (first_key (page_pairs old (link_of old q))) (page_pairs old q) (omega arith) whole in
              let half' = rise_from_less (key_at (page_pairs old q) 15) (behind low (take 15 (page_pairs old q))) (first_key (page_pairs old (link_of old q))) (drop 15 (page_pairs old q)) near half in
              let rest = rest_kept old new keeps n q low (behind (behind low (take 15 (page_pairs old q))) (drop 15 (page_pairs old q))) c more.1
              (behind_bound (behind low (take 15 (page_pairs old q))) (first_key (page_pairs old (link_of old q))) (drop 15 (page_pairs old q)) half') kept in (
                (there, λ other. rw (splits.link', splits.pairs') rest.0),
                rw (x, x') (rw (splits.link', splits.pairs') (ap (λ (l : List Pair). drop 15 (page_pairs old q) ++ l)
                    (joined_from n new (link_of old q) (first_key (page_pairs new (link_of old q))) 0 ∙ rest.1 0 ∙ joined_from n old (link_of old q) 0 (first_key (page_pairs old (link_of old q)))))),
              )
        ] in (
          (here, λ other. subst (λ (m : ℕ). IsChain table m new (link_of new q) (behind low (page_pairs new q))) (sym z) (rw (splits.link, splits.pairs) tail.0)),
          λ from. rw r (rw (splits.link, splits.pairs) (
              ap (λ (m : ℕ). take 15 (page_pairs old q) ++ joined (chain_pieces m new fresh (first_key (page_pairs new fresh)))) z
              ∙ ap (λ (l : List Pair). take 15 (page_pairs old q) ++ l) (joined_from (suc n) new fresh (first_key (page_pairs new fresh)) 0 ∙ tail.1)
              ∙ joined_two (take 15 (page_pairs old q)) (drop 15 (page_pairs old q)) (joined (if nat_eq (link_of old q) 0 then [] else chain_pieces n old (link_of old q) (first_key (page_pairs old (link_of old q)))))
              (page_pairs old q) (take-append-drop 15 (page_pairs old q)))),
        )

-- the pages of a chain from this one on, at most n
abbrev chain_list : ℕ → List ℕ → ℕ → List ℕ
chain_list zero bytes page = []
chain_list (suc n) bytes page = page ∷ (if nat_eq (link_of bytes page) 0 then [] else chain_list n bytes (link_of bytes page))

above_adds : (n e : ℕ) → above n e ≡ n + e
above_adds zero e = omega arith
above_adds (suc n) e = let h = above_adds n e in omega (arith, h)

module _ (table : ℕ) where
  -- a chain of at most n pages is one of as many as it has
  chain_short : (n : ℕ) (bytes : List ℕ) (page low : ℕ) → IsChain table n bytes page low
      → IsChain table (length (chain_list n bytes page)) bytes page low × ((from : ℕ) → joined (chain_pieces (length (chain_list n bytes page)) bytes page from) ≡ joined (chain_pieces n bytes page from))
  chain_short zero bytes page low c = absurd c
  chain_short (suc n) bytes page low c =
      elim (eqb_tells (link_of bytes page) 0) [
        | inl last ↦
            let b : nat_eq (link_of bytes page) 0 ≡ true = last.0 in
            rw b ((c.0, λ other. absurd (other last.1)), λ from. refl)
        | inr more ↦
            let b : nat_eq (link_of bytes page) 0 ≡ false = more.0 in
            let rest = chain_short n bytes (link_of bytes page) (behind low (page_pairs bytes page)) (c.1 more.1) in
            rw b ((c.0, λ other. rest.0), λ from. ap (λ (ps : List Pair). page_pairs bytes page ++ ps) (rest.1 (first_key (page_pairs bytes (link_of bytes page)))))
      ]

  -- the pages after some keys begin with later ones
  all_later : (n : ℕ) (bytes : List ℕ) (page low p : ℕ) → 1 ≤ low → IsChain table n bytes page low → first_key (page_pairs bytes p) < low → AllByRecursion (λ y. nat_eq p y ≡ false) (chain_list n bytes page)
  all_later zero bytes page low p one c below = tt
  all_later (suc n) bytes page low p one c below =
      let some = later_some table bytes page low one c.0 in
      let first = first_from low key_end (page_pairs bytes page) some c.0.rises in
      let up = wide_behind low key_end (page_pairs bytes page) some c.0.rises in
      let other : p ≢ page = λ e. (let z : first_key (page_pairs bytes p) ≡ first_key (page_pairs bytes page) = ap (λ (x : ℕ). first_key (page_pairs bytes x)) e in omega (arith, z, first.0, below)) in
      let differ : nat_eq p page ≡ false = grind (arith, nat_tests, other) in
      elim (eqb_tells (link_of bytes page) 0) [
        | inl last ↦ let b : nat_eq (link_of bytes page) 0 ≡ true = last.0 in rw b (differ, tt)
        | inr more ↦ let b : nat_eq (link_of bytes page) 0 ≡ false = more.0 in rw b (differ, all_later n bytes (link_of bytes page) (behind low (page_pairs bytes page)) p (omega (arith, up)) (c.1 more.1) (omega (arith, up, below)))
      ]

  chain_distinct : (n : ℕ) (bytes : List ℕ) (page low : ℕ) → IsChain table n bytes page low → IsDistinct nat_eq (chain_list n bytes page)
  unfolding IsDistinct
  chain_distinct zero bytes page low c = tt
  chain_distinct (suc n) bytes page low c =
      elim (eqb_tells (link_of bytes page) 0) [
        | inl last ↦ let b : nat_eq (link_of bytes page) 0 ≡ true = last.0 in rw b (tt, tt)
        | inr more ↦
            let b : nat_eq (link_of bytes page) 0 ≡ false = more.0 in
            let near = first_below low key_end (page_pairs bytes page) (linked_some table bytes page low more.1 c.0) c.0.rises in
            rw b (
              all_later n bytes (link_of bytes page) (behind low (page_pairs bytes page)) page (omega (arith, near)) (c.1 more.1) near,
              chain_distinct n bytes (link_of bytes page) (behind low (page_pairs bytes page)) (c.1 more.1),
            )
      ]

  chain_inside : (n : ℕ) (bytes : List ℕ) (page low q : ℕ) → page < next_page bytes → IsChain table n bytes page low → list_any (nat_eq q) (chain_list n bytes page) ≡ true → q < next_page bytes
  chain_inside zero bytes page low q own c has = absurd (cc)
  chain_inside (suc n) bytes page low q own c has = elim (cases_Bool (nat_eq q page)) [
    | inl here ↦ (let e : q ≡ page = grind (arith, nat_tests) in omega (arith, e, own))
    | inr there ↦ elim (eqb_tells (link_of bytes page) 0) [
      | inl last ↦ (let b : nat_eq (link_of bytes page) 0 ≡ true = last.0 in let has' : list_any (nat_eq q) [] ≡ true = rw (there, b) at has in absurd (cc))
      | inr more ↦ (let b : nat_eq (link_of bytes page) 0 ≡ false = more.0 in chain_inside n bytes (link_of bytes page) (behind low (page_pairs bytes page)) q (c.0.link more.1).1 (c.1 more.1) (rw (there, b) at has))
    ]
  ]

  -- no chain has more pages than are given
  pub chain_fits : (n : ℕ) (bytes : List ℕ) (page low : ℕ) → page < next_page bytes → IsChain table n bytes page low
      → IsChain table (next_page bytes) bytes page low × ((from : ℕ) → joined (chain_pieces (next_page bytes) bytes page from) ≡ joined (chain_pieces n bytes page from))
  chain_fits n bytes page low own c =
      let few = length-le_from_distinct_below (chain_list n bytes page) (next_page bytes) (chain_distinct n bytes page low c) (λ q has. chain_inside n bytes page low q own c has) in
      let short = chain_short n bytes page low c in
      let more = chain_more table (length (chain_list n bytes page)) (next_page bytes - length (chain_list n bytes page)) bytes page low short.0 in
      let e : above (length (chain_list n bytes page)) (next_page bytes - length (chain_list n bytes page)) ≡ next_page bytes =
      above_adds (length (chain_list n bytes page)) (next_page bytes - length (chain_list n bytes page)) ∙ (let z : length (chain_list n bytes page) + (next_page bytes - length (chain_list n bytes page)) ≡ next_page bytes = omega (arith, few) in z) in (
        subst (λ (m : ℕ). IsChain table m bytes page low) e more.0,
        λ from. ap (λ (m : ℕ). joined (chain_pieces m bytes page from)) (sym e) ∙ more.1 from ∙ short.1 from,
      )

-- the chain of a table whose page of the key takes a pair
pub chain_of_table_takes : (old new : List ℕ) (root table key to : ℕ) → IsOwn old root → chain_check old root table None → Keeps old new → next_page new ≡ next_page old → key < key_end
    → found (pairs_of_chain old root) key ≡ None → TakesPairInChain old new table (page_of_key old root key) key to
    → ((x : ℕ) → 1 ≤ x → x < next_page old → kind_of old x ≡ 1 → x ≢ page_of_key old root key → page_bytes new x ≡ page_bytes old x)
    → chain_check new root table None × (pairs_of_chain new root ≡ inserted (pairs_of_chain old root) key to)
chain_of_table_takes old new root table key to own sound keeps same lt none takes kept =
    let pages = pages_of_sound old root table sound in
    let none' = sym (chain_finds table (next_page old) old root 0 0 key pages (omega arith)) ∙ ap (λ (ps : List Pair). found ps key) (pieces_have old root) ∙ none in
    let r = chain_graft table old new keeps (λ ps. inserted ps key to) key (inserted_local key to) (page_of_key old root key) 0
    (page_takes table old new keeps (page_of_key old root key) key to lt takes none' kept) kept
    (next_page old) root 0 own pages (omega arith) refl in
    let e : above (next_page old) 0 ≡ next_page new = above_zero (next_page old) ∙ sym same in (
      sound_by_pages new root table (subst (λ (n : ℕ). IsChain table n new root 0) e r.0),
      sym (pieces_have new root) ∙ ap (λ (n : ℕ). joined (chain_pieces n new root 0)) (sym e) ∙ r.1 0 ∙ ap (λ (ps : List Pair). inserted ps key to) (pieces_have old root),
    )

-- the chain of a table whose page of the key is split
pub chain_of_table_splits : (old new : List ℕ) (root table fresh key : ℕ) → IsOwn old root → chain_check old root table None → Keeps old new → key < key_end
    → SplitsPage old new (page_of_key old root key) fresh
    → ((x : ℕ) → 1 ≤ x → x < next_page old → kind_of old x ≡ 1 → x ≢ page_of_key old root key → page_bytes new x ≡ page_bytes old x)
    → chain_check new root table None × (pairs_of_chain new root ≡ pairs_of_chain old root)
chain_of_table_splits old new root table fresh key own sound keeps lt splits kept =
    let pages = pages_of_sound old root table sound in
    let r = chain_graft table old new keeps (λ ps. ps) key (same_local key) (page_of_key old root key) 1
    (page_splits table old new keeps (page_of_key old root key) fresh key lt splits kept) kept
    (next_page old) root 0 own pages (omega arith) refl in
    let f = chain_fits table (above (next_page old) 1) new root 0 (omega (arith, own.1, keeps.pages)) r.0 in (
      sound_by_pages new root table f.0,
      sym (pieces_have new root) ∙ f.1 0 ∙ r.1 0 ∙ pieces_have old root,
    )

-- its pages are at most one more
pub chain_of_table_more : (old new : List ℕ) (root table fresh key : ℕ) → IsOwn old root → chain_check old root table None → Keeps old new → key < key_end
    → SplitsPage old new (page_of_key old root key) fresh
    → ((x : ℕ) → 1 ≤ x → x < next_page old → kind_of old x ≡ 1 → x ≢ page_of_key old root key → page_bytes new x ≡ page_bytes old x)
    → IsChain table (suc (next_page old)) new root 0
chain_of_table_more old new root table fresh key own sound keeps lt splits kept =
    let r = chain_graft table old new keeps (λ ps. ps) key (same_local key) (page_of_key old root key) 1
    (page_splits table old new keeps (page_of_key old root key) fresh key lt splits kept) kept
    (next_page old) root 0 own (pages_of_sound old root table sound) (omega arith) refl in
    subst (λ (n : ℕ). IsChain table n new root 0) (above_one table (next_page old)) r.0

pub chain_of_table_finds : (bytes : List ℕ) (root table key : ℕ) → chain_check bytes root table None → found (pairs_of_chain bytes root) key ≡ found (page_pairs bytes (page_of_key bytes root key)) key
chain_of_table_finds bytes root table key sound =
    ap (λ (ps : List Pair). found ps key) (sym (pieces_have bytes root)) ∙ chain_finds table (next_page bytes) bytes root 0 0 key (pages_of_sound bytes root table sound) (omega arith)
