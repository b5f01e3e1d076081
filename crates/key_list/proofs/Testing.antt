-- Tests of a chain, step by step.
use Rattle.std.proofs.Common.{◌≡◌, ◌≢◌, ℕ, suc, ◌<◌, ◌≤◌, true, false, nat_eq, inl, inr, List, ◌∷◌, Option, Some, None, Result, Ok, Err, refl, sym, ◌∙◌, ap, subst, arith}
use Rattle.std.proofs.lemmas.Bool.Decides.{nat_tests}
use Rattle.mars_base.specs.Check.{unless}
use Rattle.mars_base.proofs.Checks.{both_on}
use Rattle.record_slots.specs.Places.{next_page, page_bytes}
use Rattle.page_store.specs.Pairs.{Pair}
use Rattle.page_store.specs.declared.index_fault.CheckFault.{CheckFault}
use Rattle.page_store.specs.declared.index_fault.CheckFault.TheVariants.{Damaged, Media, Dead, NoMemory}
use Rattle.index_pages.specs.Page.{page_pairs, pairs_said, link_of, link_said}
use Rattle.index_pages.specs.Slots.{slot_check, IsVerdict}
use Rattle.key_list.specs.Chain.{behind, IsChainHead, pair_check, pairs_check, chain_from, chain_check}
use Rattle.key_list.specs.Checked.{low_of}
use Rattle.key_list.specs.Seen.{linked}

-- the check of a pair's slot as that of the pair, whose key may follow
pub pair_told : (bytes : List ℕ) (table page low : ℕ) (pair : Pair) → low ≤ pair.0 → (r : Result (Unit {0}) CheckFault) → IsVerdict (slot_check bytes table page pair) r → IsVerdict (pair_check bytes table page low pair) r
pair_told bytes table page low pair le (Ok tt) cause = (le, cause)
pair_told bytes table page low pair le (Err (Damaged bad)) cause = inr (le, cause)
pair_told bytes table page low pair le (Err Media) cause = tt
pair_told bytes table page low pair le (Err Dead) cause = tt
pair_told bytes table page low pair le (Err NoMemory) cause = tt

-- Of all pairs after a lower bound these are left after another: their verdict is that of all.
abbrev pub PairsLeft : List ℕ → ℕ → ℕ → ℕ → List Pair → ℕ → List Pair → Type 0
PairsLeft bytes table page low pairs low' left = (verdict : Option ℕ) → pairs_check bytes table page low' left verdict → pairs_check bytes table page low pairs verdict

module _ (bytes : List ℕ) (table page low : ℕ) (pairs : List Pair) (low' : ℕ) (p : Pair) (rest : List Pair) (left : PairsLeft bytes table page low pairs low' (p ∷ rest)) where
  pub left_step : (let r : Result (Unit {0}) CheckFault = Ok tt in IsVerdict (pair_check bytes table page low' p) r) → PairsLeft bytes table page low pairs (suc p.0) rest
  left_step well = λ verdict told. left verdict (both_on (pair_check bytes table page low' p) (pairs_check bytes table page (suc p.0) rest) well verdict told)

  pub left_fails : (fault : CheckFault) → (let r : Result (Unit {0}) CheckFault = Err fault in IsVerdict (pair_check bytes table page low' p) r) → (let s : Result (Option ℕ) CheckFault = Err fault in IsVerdict (pairs_check bytes table page low pairs) s)
  left_fails (Damaged bad) f = left (Some bad) (inl f)
  left_fails Media f = tt
  left_fails Dead f = tt
  left_fails NoMemory f = tt

-- Of a chain at most n pages are left from this one on, after keys below a lower bound: their verdict is that of the whole chain.
abbrev pub ChainLeft : List ℕ → ℕ → ℕ → ℕ → ℕ → ℕ → Type 0
ChainLeft bytes root table page low n = (verdict : Option ℕ) → chain_from n bytes table page low verdict → chain_check bytes root table verdict

pub chain_none : (bytes : List ℕ) (root table page low n : ℕ) → n ≡ 0 → ChainLeft bytes root table page low n → chain_check bytes root table (Some page)
chain_none bytes root table page low n none left = left (Some page) (subst (λ (m : ℕ). chain_from m bytes table page low (Some page)) (sym none) ((λ never. never), refl))

module _ (bytes buf : List ℕ) (root table page low n : ℕ) (is : buf ≡ page_bytes bytes page) (left : ChainLeft bytes root table page low (suc n)) where
  pub head_fails : ¬ IsChainHead low buf → chain_check bytes root table (Some page)
  head_fails other = left (Some page) (inl ((λ head. other (subst (λ (b : List ℕ). IsChainHead low b) (sym is) head)), refl))

  module _ (head : IsChainHead low buf) where
    head_there : IsChainHead low (page_bytes bytes page)
    head_there = subst (λ (b : List ℕ). IsChainHead low b) is head

    pub pairs_fail : (fault : CheckFault) (bad : ℕ) → fault ≡ Damaged bad → (let s : Result (Option ℕ) CheckFault = Err fault in IsVerdict (pairs_check bytes table page low (pairs_said buf)) s) → chain_check bytes root table (Some bad)
    pairs_fail (Damaged bad') bad e f =
        let same : bad' ≡ bad = cc in
        let there = subst (λ (b : List ℕ). pairs_check bytes table page low (pairs_said b) (Some bad')) is f in
        subst (λ (b : ℕ). chain_check bytes root table (Some b)) same (left (Some bad') (inr (head_there, inl there)))
    pairs_fail Media bad e f = absurd (cc)
    pairs_fail Dead bad e f = absurd (cc)
    pairs_fail NoMemory bad e f = absurd (cc)

    module _ (well : pairs_check bytes table page low (pairs_said buf) None) where
      pairs_there : pairs_check bytes table page low (page_pairs bytes page) None
      pairs_there = subst (λ (b : List ℕ). pairs_check bytes table page low (pairs_said b) None) is well

      -- what comes after the pairs decides
      rest_tells : (verdict : Option ℕ) → unless (nat_eq (link_of bytes page) 0) (linked table n bytes page low) verdict → chain_check bytes root table verdict
      rest_tells None told = left None (head_there, (pairs_there, told))
      rest_tells (Some bad) told = left (Some bad) (inr (head_there, inr (pairs_there, told)))

      pub link_ends : link_said buf ≡ 0 → chain_check bytes root table None
      link_ends none =
          let none' : link_of bytes page ≡ 0 = ap link_said (sym is) ∙ none in
          let b : nat_eq (link_of bytes page) 0 ≡ true = grind (arith, nat_tests) in
          let ends : unless (nat_eq (link_of bytes page) 0) (linked table n bytes page low) None = rw b tt in
          rest_tells None ends

      module _ (some : link_said buf ≢ 0) where
        same_link : link_said buf ≡ link_of bytes page
        same_link = ap link_said is

        linked_tells : (verdict : Option ℕ) → linked table n bytes page low verdict → chain_check bytes root table verdict
        linked_tells verdict told =
            let some' : link_of bytes page ≢ 0 = λ e. some (same_link ∙ e) in
            let b : nat_eq (link_of bytes page) 0 ≡ false = grind (arith, nat_tests) in
            let on : unless (nat_eq (link_of bytes page) 0) (linked table n bytes page low) verdict = rw b told in
            rest_tells verdict on

        pub link_fails : ¬ ((2 ≤ link_said buf) × (link_said buf < next_page bytes)) → chain_check bytes root table (Some page)
        link_fails other = linked_tells (Some page) (inl ((λ to. other (subst (λ (x : ℕ). (2 ≤ x) × (x < next_page bytes)) (sym same_link) to)), refl))

        pub link_on : (last : Option ℕ) → low_of last ≡ behind low (pairs_said buf) → (2 ≤ link_said buf) × (link_said buf < next_page bytes) → ChainLeft bytes root table (link_said buf) (low_of last) n
        link_on last ends to =
            let to' = subst (λ (x : ℕ). (2 ≤ x) × (x < next_page bytes)) same_link to in
            let ends' : low_of last ≡ behind low (page_pairs bytes page) = ends ∙ ap (λ (b : List ℕ). behind low (pairs_said b)) is in
            subst (λ (x : ℕ). ChainLeft bytes root table x (low_of last) n) (sym same_link) (subst (λ (x : ℕ). ChainLeft bytes root table (link_of bytes page) x n) (sym ends') (on to'))
          where
            on : (2 ≤ link_of bytes page) × (link_of bytes page < next_page bytes) → ChainLeft bytes root table (link_of bytes page) (behind low (page_pairs bytes page)) n
            on to None told = linked_tells None (to, told)
            on to (Some bad) told = linked_tells (Some bad) (inr (to, told))

-- a test that failed
pub table_err : (bytes : List ℕ) (root table : ℕ) (fault : CheckFault) → ((bad : ℕ) → fault ≡ Damaged bad → chain_check bytes root table (Some bad))
    → (let s : Result (Unit {0}) CheckFault = Err fault in IsVerdict (chain_check bytes root table) s)
table_err bytes root table Media fails = tt
table_err bytes root table Dead fails = tt
table_err bytes root table NoMemory fails = tt
table_err bytes root table (Damaged bad) fails = fails bad refl
