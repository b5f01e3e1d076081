-- The records of a chain, gathered page by page.
use Rattle.std.proofs.Common.{◌≡◌, ◌≢◌, ℕ, suc, true, false, cond, nat_eq, Bool, List, [], ◌++◌, sym, ◌∙◌, ap, subst, arith}
use Rattle.std.proofs.lemmas.Bool.Decides.{nat_tests}
use Rattle.record_slots.specs.Places.{page_bytes}
use Rattle.page_store.specs.Pairs.{Pair}
use Rattle.page_store.specs.Records.{rows_of}
use Rattle.index_pages.specs.Page.{page_pairs, pairs_said, link_of, link_said}
use Rattle.index_pages.proofs.Gathered.{RowsLeft, left_more, left_none}
use Rattle.key_list.specs.Chain.{chain_pairs}

module _ (bytes buf : List ℕ) (old : List (ℕ × List ℕ)) (all : List Pair) (rows new : List (ℕ × List ℕ)) (page n : ℕ) (is : buf ≡ page_bytes bytes page) (left : RowsLeft bytes old all rows (chain_pairs (suc n) bytes page)) (more : new ≡ rows ++ rows_of bytes (pairs_said buf)) where
  behind_page : RowsLeft bytes old all new (cond (nat_eq (link_of bytes page) 0) [] (chain_pairs n bytes (link_of bytes page)))
  behind_page = left_more bytes old all rows new (page_pairs bytes page) (cond (nat_eq (link_of bytes page) 0) [] (chain_pairs n bytes (link_of bytes page))) left (more ∙ ap (λ (b : List ℕ). rows ++ rows_of bytes (pairs_said b)) is)

  -- the last page
  pub rows_end : link_said buf ≡ 0 → new ≡ old ++ rows_of bytes all
  rows_end none =
      let none' : link_of bytes page ≡ 0 = ap link_said (sym is) ∙ none in
      let b : nat_eq (link_of bytes page) 0 ≡ true = grind (arith, nat_tests) in
      left_none bytes old all new (subst (λ (x : Bool). RowsLeft bytes old all new (cond x [] (chain_pairs n bytes (link_of bytes page)))) b behind_page)

  -- one that others follow
  pub rows_on : link_said buf ≢ 0 → RowsLeft bytes old all new (chain_pairs n bytes (link_said buf))
  rows_on some =
      let same : link_said buf ≡ link_of bytes page = ap link_said is in
      let some' : link_of bytes page ≢ 0 = λ e. some (same ∙ e) in
      let b : nat_eq (link_of bytes page) 0 ≡ false = grind (arith, nat_tests) in
      subst (λ (k : ℕ). RowsLeft bytes old all new (chain_pairs n bytes k)) (sym same)
      (subst (λ (x : Bool). RowsLeft bytes old all new (cond x [] (chain_pairs n bytes (link_of bytes page)))) b behind_page)
