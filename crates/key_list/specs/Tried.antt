-- How the test of chains goes from page to page, over any store.
use Rattle.std.specs.Prelude.{ℕ, zero, suc, ◌≡◌, ◌<◌, ◌≤◌, nat_eq, List, [], ◌∷◌, Option, None}
use Rattle.array_shape.specs.declared.shape.Shape.{Shape}
use Rattle.record_slots.specs.declared.super_page.Super.{Super}
use Rattle.page_store.specs.Course.{Reading}
use Rattle.page_store.specs.Index.{index_pages_of}
use Rattle.page_store.specs.Pairs.{Pair}
use Rattle.page_store.specs.Tested.{Plan, at_end, holding, reading, in_turn}
use Rattle.index_pages.specs.Page.{link_said, pairs_said}
use Rattle.index_pages.specs.Plans.{whether, slot_plan, index_plan}
use Rattle.key_list.specs.Chain.{behind, IsChainHead}

-- the pairs of a page, one after another: the key of each is above those before it, and its slot is sound
abbrev pub pairs_plan : (half slots table page low : ℕ) → Option Reading → List Pair → Plan
pairs_plan half slots table page low held [] = at_end
pairs_plan half slots table page low held (p ∷ ps) = holding (low ≤ p.0) page (slot_plan half slots table page held p (λ now. pairs_plan half slots table page (suc p.0) now ps))

-- the pages of a chain of a table from this one on, of which there are at most n: the head of each, its pairs, and where its link leads
abbrev pub chain_plan_from : Shape → Super → (table n page low : ℕ) → Plan
chain_plan_from shape front table zero page low = reading page 0 512 (λ said. holding ⊥ page at_end)
chain_plan_from shape front table (suc n) page low =
    reading page 0 512 (λ said. holding (IsChainHead low said) page
    (in_turn (pairs_plan (index_pages_of shape) front.next_slot table page low None (pairs_said said))
    (whether (nat_eq (link_said said) 0) at_end
    (holding ((2 ≤ link_said said) × (link_said said < front.next_page)) page (chain_plan_from shape front table n (link_said said) (behind low (pairs_said said)))))))

-- the chain of a table: from its root on at most as many pages as are given
abbrev pub chain_plan : Shape → Super → (root table : ℕ) → Plan
chain_plan shape front root table = chain_plan_from shape front table front.next_page root 0

-- the chains of all tables
abbrev pub chain_testing : Shape → Plan
chain_testing = index_plan 0 chain_plan
