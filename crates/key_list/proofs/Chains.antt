-- The pages of a chain after an insertion and after a cut.
use Rattle.std.proofs.Common.{◌≡◌, ◌≢◌, ℕ, zero, suc, ◌<◌, ◌≤◌, true, false, nat_eq, nat_lt, inl, inr, List, [], ◌∷◌, None, take, drop, refl, sym, ◌∙◌, ap, subst, arith}
use Rattle.std.specs.Prelude.{if◌then◌else◌}
use Rattle.std.proofs.lemmas.Bool.Decides.{eqb_tells, leb_tells}
use Rattle.record_slots.specs.Places.{page_bytes, next_page}
use Rattle.page_store.specs.Pairs.{Pair}
use Rattle.key_list.specs.Chain.{behind, first_key, chain_check, chain_page_for, page_of_key}
use Rattle.key_list.specs.Seen.{IsChain, pages_of_sound}
use Rattle.key_list.specs.Changes.{SplitsPage}
use Rattle.index_pages.specs.Keys.{key_at, key_end}
use Rattle.index_pages.specs.Page.{kind_of, page_pairs, pairs_said, link_said, link_of}
use Rattle.index_pages.specs.Ways.{IsOwn}
use Rattle.key_list.proofs.ChainActions.{first_below, later_some, linked_some, far_first}
use Rattle.key_list.specs.ChainFacts.{first_from, wide_behind, chain_head}
use Rattle.key_list.specs.Index.{IsOnChain, IsPageOfChain}

module _ (table : ℕ) where
  -- the page of a key is given, and is one of the chain
  own_for : (n : ℕ) (bytes : List ℕ) (page low key : ℕ) → IsOwn bytes page → IsChain table n bytes page low → IsOwn bytes (chain_page_for n bytes page key) × IsOnChain n bytes page (chain_page_for n bytes page key)
  own_for zero bytes page low key own chain = absurd chain
  own_for (suc n) bytes page low key own chain =
      elim (eqb_tells (link_of bytes page) 0) [
        | inl last ↦ let b : nat_eq (link_of bytes page) 0 ≡ true = last.0 in rw b (own, inl refl)
        | inr more ↦
            let b : nat_eq (link_of bytes page) 0 ≡ false = more.0 in
            elim (leb_tells (suc key) (first_key (page_pairs bytes (link_of bytes page)))) [
              | inl h ↦ let b' : nat_lt key (first_key (page_pairs bytes (link_of bytes page))) ≡ true = h.0 in rw b (rw b' (own, inl refl))
              | inr h ↦
                  let b' : nat_lt key (first_key (page_pairs bytes (link_of bytes page))) ≡ false = h.0 in
                  let to = chain.0.link more.1 in
                  let rest = own_for n bytes (link_of bytes page) (behind low (page_pairs bytes page)) key (omega (arith, to.0), to.1) (chain.1 more.1) in
                  rw b (rw b' (rest.0, inr (more.1, rest.1)))
            ]
      ]

  pub key_page_own : (bytes : List ℕ) (root key : ℕ) → IsOwn bytes root → chain_check bytes root table None → IsOwn bytes (page_of_key bytes root key) × IsPageOfChain bytes root (page_of_key bytes root key)
  key_page_own bytes root key own sound = own_for (next_page bytes) bytes root 0 key own (pages_of_sound bytes root table sound)

  -- what is told of a chain with more pages than it has
  pub on_within : (k n : ℕ) (bytes : List ℕ) (page low other : ℕ) → IsChain table n bytes page low → IsOnChain k bytes page other → IsOnChain n bytes page other
  on_within zero n bytes page low other chain on = absurd on
  on_within (suc k) zero bytes page low other chain on = absurd chain
  on_within (suc k) (suc n) bytes page low other chain (inl is) = inl is
  on_within (suc k) (suc n) bytes page low other chain (inr on) = inr (on.0, on_within k n bytes (link_of bytes page) (behind low (page_pairs bytes page)) other (chain.1 on.0) on.1)

  pub for_within : (k n : ℕ) (bytes : List ℕ) (page low key : ℕ) → IsChain table k bytes page low → IsChain table n bytes page low → chain_page_for k bytes page key ≡ chain_page_for n bytes page key
  for_within zero n bytes page low key short chain = absurd short
  for_within (suc k) zero bytes page low key short chain = absurd chain
  for_within (suc k) (suc n) bytes page low key short chain =
      elim (eqb_tells (link_of bytes page) 0) [
        | inl last ↦ let b : nat_eq (link_of bytes page) 0 ≡ true = last.0 in rw b refl
        | inr more ↦
            let b : nat_eq (link_of bytes page) 0 ≡ false = more.0 in
            elim (leb_tells (suc key) (first_key (page_pairs bytes (link_of bytes page)))) [
              | inl h ↦ let b' : nat_lt key (first_key (page_pairs bytes (link_of bytes page))) ≡ true = h.0 in rw b (rw b' refl)
              | inr h ↦
                  let b' : nat_lt key (first_key (page_pairs bytes (link_of bytes page))) ≡ false = h.0 in
                  rw b (rw b' (for_within k n bytes (link_of bytes page) (behind low (page_pairs bytes page)) key (short.1 more.1) (chain.1 more.1)))
            ]
      ]

  -- if all links are as they were, so are the pages
  on_same : (old new : List ℕ) → ((p : ℕ) → 1 ≤ p → p < next_page old → kind_of old p ≡ 1 → link_of new p ≡ link_of old p)
      → (n page low other : ℕ) → IsOwn old page → IsChain table n old page low → IsOnChain n old page other → IsOnChain n new page other
  on_same old new same zero page low other own chain on = on
  on_same old new same (suc n) page low other own chain (inl is) = inl is
  on_same old new same (suc n) page low other own chain (inr on) =
      let to = chain.0.link on.0 in
      let e = same page own.0 own.1 chain.0.kind in
      inr (
        λ none. on.0 (sym e ∙ none),
        subst (λ (x : ℕ). IsOnChain n new x other) (sym e)
            (on_same old new same n (link_of old page) (behind low (page_pairs old page)) other (omega (arith, to.0), to.1) (chain.1 on.0) on.1),
      )

  pub pages_same : (old new : List ℕ) (root : ℕ) → IsOwn old root → chain_check old root table None → next_page new ≡ next_page old → ((p : ℕ) → 1 ≤ p → p < next_page old → kind_of old p ≡ 1 → link_of new p ≡ link_of old p)
      → (other : ℕ) → IsPageOfChain old root other → IsPageOfChain new root other
  pages_same old new root own sound count same other on =
      subst (λ (n : ℕ). IsOnChain n new root other) (sym count) (on_same old new same (next_page old) root 0 other own (pages_of_sound old root table sound) on)

  module _ (old new : List ℕ) (q fresh : ℕ) (cut : SplitsPage old new q fresh) (kept : (x : ℕ) → 1 ≤ x → x < next_page old → kind_of old x ≡ 1 → x ≢ q → page_bytes new x ≡ page_bytes old x) where
    link_same : (p : ℕ) → IsOwn old p → kind_of old p ≡ 1 → p ≢ q → link_of new p ≡ link_of old p
    link_same p own kind other = ap link_said (kept p own.0 own.1 kind other)

    next_some : fresh ≢ 0
    next_some none = omega (arith, none, cut.two)

    cut_link : (p : ℕ) → p ≡ q → link_of new p ≡ fresh
    cut_link p is = ap (λ (x : ℕ). link_of new x) is ∙ cut.link

    -- the cut page leads to the new one
    reaches : (n page low : ℕ) → IsOwn old page → IsChain table n old page low → IsOnChain n old page q → IsOnChain (suc n) new page (fresh)
    reaches zero page low own chain on = absurd on
    reaches (suc n) page low own chain (inl is) = let e = cut_link page (sym is) in inr (λ none. next_some (sym e ∙ none), inl (sym e))
    reaches (suc n) page low own chain (inr on) = elim (eqb_tells page q) [
      | inl same ↦ let e = cut_link page same.1 in inr (λ none. next_some (sym e ∙ none), inl (sym e))
      | inr other ↦
          let to = chain.0.link on.0 in
          let e = link_same page own chain.0.kind other.1 in
          inr (
            λ none. on.0 (sym e ∙ none),
            subst (λ (x : ℕ). IsOnChain (suc n) new x (fresh)) (sym e)
                (reaches n (link_of old page) (behind low (page_pairs old page)) (omega (arith, to.0), to.1) (chain.1 on.0) on.1),
          )
    ]

    -- the pages after the cut one stay
    beyond : (n page low other : ℕ) → IsOwn old page → 1 ≤ low → IsChain table n old page low → first_key (page_pairs old q) < low → IsOnChain n old page other → IsOnChain n new page other
    beyond zero page low other own far chain below on = on
    beyond (suc n) page low other own far chain below (inl is) = inl is
    beyond (suc n) page low other own far chain below (inr on) =
        let some = later_some table old page low far chain.0 in
        let first = first_from low key_end (page_pairs old page) some chain.0.rises in
        let e = link_same page own chain.0.kind (λ same. omega (arith, ap (λ (x : ℕ). first_key (page_pairs old x)) same, first.0)) in
        let to = chain.0.link on.0 in
        let up = wide_behind low key_end (page_pairs old page) some chain.0.rises in
        inr (
          λ none. on.0 (sym e ∙ none),
          subst (λ (x : ℕ). IsOnChain n new x other) (sym e)
              (beyond n (link_of old page) (behind low (page_pairs old page)) other (omega (arith, to.0), to.1) (omega (arith, up)) (chain.1 on.0) (omega arith) on.1),
        )

    stays : (n page low other : ℕ) → IsOwn old page → IsChain table n old page low → IsOnChain n old page other → IsOnChain (suc n) new page other
    stays zero page low other own chain on = absurd on
    stays (suc n) page low other own chain (inl is) = inl is
    stays (suc n) page low other own chain (inr on) =
        let to = chain.0.link on.0 in
        elim (eqb_tells page q) [
          | inl same ↦
              let e = cut_link page same.1 in
              let e' : link_of new (fresh) ≡ link_of old page = cut.link' ∙ ap (λ (x : ℕ). link_of old x) (sym same.1) in
              let some = linked_some table old page low on.0 chain.0 in
              let near = first_below low key_end (page_pairs old page) some chain.0.rises in
              let rest = beyond n (link_of old page) (behind low (page_pairs old page)) other (omega (arith, to.0), to.1) (omega (arith, near)) (chain.1 on.0) (omega (arith, near, ap (λ (x : ℕ). first_key (page_pairs old x)) same.1)) on.1 in
              inr (
                λ none. next_some (sym e ∙ none),
                subst (λ (x : ℕ). IsOnChain (suc n) new x other) (sym e)
                    (inr (λ none. on.0 (sym e' ∙ none), subst (λ (x : ℕ). IsOnChain n new x other) (sym e') rest)),
              )
          | inr other' ↦
              let e = link_same page own chain.0.kind other'.1 in
              inr (
                λ none. on.0 (sym e ∙ none),
                subst (λ (x : ℕ). IsOnChain (suc n) new x other) (sym e)
                    (stays n (link_of old page) (behind low (page_pairs old page)) other (omega (arith, to.0), to.1) (chain.1 on.0) on.1),
              )
        ]

    module _ (root : ℕ) (own : IsOwn old root) (sound : chain_check old root table None) (still : chain_check new root table None) where
      pub cut_keeps : (other : ℕ) → IsPageOfChain old root other → IsPageOfChain new root other
      cut_keeps other on = on_within (suc (next_page old)) (next_page new) new root 0 other (pages_of_sound new root table still) (stays (next_page old) root 0 other own (pages_of_sound old root table sound) on)

      pub cut_names : IsPageOfChain old root q → IsPageOfChain new root fresh
      cut_names on = on_within (suc (next_page old)) (next_page new) new root 0 fresh (pages_of_sound new root table still) (reaches (next_page old) root 0 own (pages_of_sound old root table sound) on)

    module _ (key : ℕ) where
      abbrev pub half : ℕ
      half = if nat_lt key (key_at (page_pairs old q) 15) then q else fresh

      first_drop : (m : ℕ) (ps : List Pair) → first_key (drop m ps) ≡ key_at ps m
      first_drop zero [] = refl
      first_drop zero (p ∷ ps) = refl
      first_drop (suc m) [] = refl
      first_drop (suc m) (p ∷ ps) = first_drop m ps

      first_new : first_key (page_pairs new (fresh)) ≡ key_at (page_pairs old q) 15
      first_new = ap (λ (ps : List Pair). first_key ps) cut.pairs' ∙ first_drop 15 (page_pairs old q)

      -- at the cut page the key's half is found
      at_cut : (n : ℕ) → chain_page_for (suc n) new (fresh) key ≡ fresh → chain_page_for (suc (suc n)) new q key ≡ half
      at_cut n here =
          let b : nat_eq (link_of new q) 0 ≡ false = (elim (eqb_tells (link_of new q) 0) [ inl x ↦ absurd (next_some (sym cut.link ∙ x.1)) | inr x ↦ x.0 ]) in
          elim (leb_tells (suc key) (key_at (page_pairs old q) 15)) [
            | inl h ↦
                let low : nat_lt key (key_at (page_pairs old q) 15) ≡ true = h.0 in
                let low' : nat_lt key (first_key (page_pairs new (link_of new q))) ≡ true = ap (λ (x : ℕ). nat_lt key (first_key (page_pairs new x))) cut.link ∙ ap (nat_lt key) first_new ∙ low in
                rw low (rw b (rw low' refl))
            | inr h ↦
                let low : nat_lt key (key_at (page_pairs old q) 15) ≡ false = h.0 in
                let low' : nat_lt key (first_key (page_pairs new (link_of new q))) ≡ false = ap (λ (x : ℕ). nat_lt key (first_key (page_pairs new x))) cut.link ∙ ap (nat_lt key) first_new ∙ low in
                rw low (rw b (rw low' (ap (λ (x : ℕ). chain_page_for (suc n) new x key) cut.link ∙ here)))
          ]

      first_take : (ps : List Pair) → first_key (take 15 ps) ≡ first_key ps
      first_take [] = refl
      first_take (p ∷ ps) = refl

      -- the first keys of the old pages stay
      first_stays : (p : ℕ) → IsOwn old p → kind_of old p ≡ 1 → first_key (page_pairs new p) ≡ first_key (page_pairs old p)
      first_stays p own kind = elim (eqb_tells p q) [
        | inl same ↦ ap (λ (x : ℕ). first_key (page_pairs new x)) same.1 ∙ ap (λ (ps : List Pair). first_key ps) cut.pairs ∙ first_take (page_pairs old q) ∙ ap (λ (x : ℕ). first_key (page_pairs old x)) (sym same.1)
        | inr other ↦ ap (λ (b : List ℕ). first_key (pairs_said b)) (kept p own.0 own.1 kind other.1)
      ]

      -- the way to the key's page ends in its half
      half_on_way : (n page low : ℕ) → IsOwn old page → IsChain table n old page low → q ≡ chain_page_for n old page key → chain_page_for (suc n) new page key ≡ half
      half_on_way zero page low own chain is = absurd chain
      half_on_way (suc n) page low own chain is =
          elim (eqb_tells (link_of old page) 0) [
            | inl last ↦
                let b : nat_eq (link_of old page) 0 ≡ true = last.0 in
                let is' : q ≡ page = is ∙ (rw b refl) in
                let none : link_of new (fresh) ≡ 0 = cut.link' ∙ ap (λ (x : ℕ). link_of old x) is' ∙ last.1 in
                let b' : nat_eq (link_of new (fresh)) 0 ≡ true = ap (λ (x : ℕ). nat_eq x 0) none in
                ap (λ (x : ℕ). chain_page_for (suc (suc n)) new x key) (sym is') ∙ at_cut n (rw b' refl)
            | inr more ↦
                let b : nat_eq (link_of old page) 0 ≡ false = more.0 in
                let to = chain.0.link more.1 in
                let own' : IsOwn old (link_of old page) = (omega (arith, to.0), to.1) in
                let some = linked_some table old page low more.1 chain.0 in
                let near = first_below low key_end (page_pairs old page) some chain.0.rises in
                elim (leb_tells (suc key) (first_key (page_pairs old (link_of old page)))) [
                  | inl h ↦
                      let b' : nat_lt key (first_key (page_pairs old (link_of old page))) ≡ true = h.0 in
                      let is' : q ≡ page = is ∙ (rw b (rw b' refl)) in
                      let link : link_of new (fresh) ≡ link_of old page = cut.link' ∙ ap (λ (x : ℕ). link_of old x) is' in
                      let c : nat_eq (link_of new (fresh)) 0 ≡ false = ap (λ (x : ℕ). nat_eq x 0) link ∙ b in
                      let c' : nat_lt key (first_key (page_pairs new (link_of new (fresh)))) ≡ true =
                      ap (λ (x : ℕ). nat_lt key (first_key (page_pairs new x))) link ∙ ap (nat_lt key) (first_stays (link_of old page) own' (chain_head table n old (link_of old page) (behind low (page_pairs old page)) (chain.1 more.1)).kind) ∙ b' in
                      ap (λ (x : ℕ). chain_page_for (suc (suc n)) new x key) (sym is') ∙ at_cut n (rw c (rw c' refl))
                  | inr h ↦
                      let b' : nat_lt key (first_key (page_pairs old (link_of old page))) ≡ false = h.0 in
                      let is' : q ≡ chain_page_for n old (link_of old page) key = is ∙ (rw b (rw b' refl)) in
                      let far = far_first table n old (link_of old page) (behind low (page_pairs old page)) key (omega (arith, near)) (chain.1 more.1) in
                      let other : page ≢ q = λ e. omega (arith, ap (λ (x : ℕ). first_key (page_pairs old x)) (e ∙ is'), far, near) in
                      let link = link_same page own chain.0.kind other in
                      let c : nat_eq (link_of new page) 0 ≡ false = ap (λ (x : ℕ). nat_eq x 0) link ∙ b in
                      let c' : nat_lt key (first_key (page_pairs new (link_of new page))) ≡ false =
                      ap (λ (x : ℕ). nat_lt key (first_key (page_pairs new x))) link ∙ ap (nat_lt key) (first_stays (link_of old page) own' (chain_head table n old (link_of old page) (behind low (page_pairs old page)) (chain.1 more.1)).kind) ∙ b' in
                      rw c (rw c' (ap (λ (x : ℕ). chain_page_for (suc n) new x key) link ∙ half_on_way n (link_of old page) (behind low (page_pairs old page)) own' (chain.1 more.1) is'))
                ]
          ]

      pub half_after : (root : ℕ) → IsOwn old root → chain_check old root table None → IsChain table (suc (next_page old)) new root 0 → chain_check new root table None → q ≡ page_of_key old root key
          → page_of_key new root key ≡ half
      half_after root own sound long still is =
          sym (for_within (suc (next_page old)) (next_page new) new root 0 key long (pages_of_sound new root table still)) ∙ half_on_way (next_page old) root 0 own (pages_of_sound old root table sound) is
