-- An index of no pairs.
use Rattle.std.proofs.Common.{◌≡◌, ℕ, zero, suc, ◌≤◌, true, nat_eq, List, [], ◌++◌, None, refl, sym, ◌∙◌, ap, subst, arith}
use Rattle.std.proofs.lemmas.Bool.Decides.{nat_tests}
use Rattle.index_pages.proofs.PageFacts.{no_pairs}
use Rattle.index_pages.specs.Keys.{key_end}
use Rattle.key_list.specs.Seen.{IsChainPage, IsChain, sound_by_pages, pieces_have}
use Rattle.key_list.specs.Chain.{chain_pieces, chain_check, pairs_of_chain}
use Rattle.index_pages.specs.Page.{kind_of, level_of, count_of, link_of, page_pairs}
use Rattle.index_pages.specs.Pieces.{joined}
use Rattle.page_store.specs.Pairs.{Pair, Rise}
use Rattle.record_slots.specs.Places.{next_page, AreGiven}

chain_of_one : (n : ℕ) (bytes : List ℕ) (table root : ℕ) → 1 ≤ n → IsChainPage table bytes root 0 → link_of bytes root ≡ 0 → page_pairs bytes root ≡ []
    → IsChain table n bytes root 0 × (joined (chain_pieces n bytes root 0) ≡ [])
chain_of_one zero bytes table root some page link no_ones = absurd (omega arith)
chain_of_one (suc n) bytes table root some page link no_ones =
    let b : nat_eq (link_of bytes root) 0 ≡ true = grind (arith, nat_tests) in
    ((page, λ other. absurd (other link)), rw b (ap (λ (ps : List Pair). ps ++ []) no_ones))

pub fresh_chain : (bytes : List ℕ) (root table : ℕ) → 1 ≤ next_page bytes → kind_of bytes root ≡ 1 → level_of bytes root ≡ 0 → link_of bytes root ≡ 0 → count_of bytes root ≡ 0
    → chain_check bytes root table None × (pairs_of_chain bytes root ≡ [])
fresh_chain bytes root table some kind level link none =
    let none_there = no_pairs bytes root none in
    let page : IsChainPage table bytes root 0 = record {
      kind = kind;
      level = level;
      most = omega arith;
      some = λ zero_is. (refl, link);
      rises = subst (λ (ps : List Pair). Rise 0 key_end ps) (sym none_there) (omega arith);
      given = subst (λ (ps : List Pair). AreGiven bytes table ps) (sym none_there) tt;
      link = λ other. absurd (other link);
    } in
    let c = chain_of_one (next_page bytes) bytes table root some page link none_there in
    (sound_by_pages bytes root table c.0, sym (pieces_have bytes root) ∙ c.1)
