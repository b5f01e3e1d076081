-- The chain as an index: its pages, and what an insertion and a removal make.
use Rattle.std.specs.Prelude.{ℕ, zero, suc, ◌≡◌, ◌≢◌, ◌⊎◌, Bool, not, ◌&&◌, nat_eq, nat_lt, if◌then◌else◌, List, [], ◌∷◌, Option, Some, None}
use Rattle.std.specs.List.{find}
use Rattle.std.specs.Option.{unwrap_or}
use Rattle.record_slots.specs.Places.{next_page, slot_page, slot_due, page_due}
use Rattle.page_store.specs.Access.{Access}
use Rattle.page_store.specs.Index.{Action, Index}
use Rattle.page_store.specs.Pairs.{Pair}
use Rattle.key_list.specs.Tried.{chain_testing}
use Rattle.key_list.specs.Along.{chain_finding, chain_nexting, chain_placing}
use Rattle.key_list.specs.Chain.{chain_check, pairs_of_chain, chain_page_for, page_of_key}
use Rattle.index_pages.specs.Actions.{adding, half_for}
use Rattle.index_pages.specs.Page.{count_of, link_of, page_pairs}
use Rattle.index_pages.specs.Slots.{index_check}
use Rattle.index_pages.specs.Within.{within}

-- among the first n pages of the chain from this one on
abbrev pub IsOnChain : ℕ → List ℕ → ℕ → ℕ → Type 0
IsOnChain zero bytes page other = ⊥
IsOnChain (suc n) bytes page other = (other ≡ page) ⊎ ((link_of bytes page ≢ 0) × IsOnChain n bytes (link_of bytes page) other)

abbrev pub IsPageOfChain : List ℕ → ℕ → ℕ → Type 0
IsPageOfChain bytes root page = IsOnChain (next_page bytes) bytes root page

-- what cuts a full page: the page, the page that is due, which takes the upper half, the super page
abbrev pub cutting : List ℕ → ℕ → Action
cutting bytes page = record { pages = page ∷ page_due bytes 0 ∷ 0 ∷ []; takes = 1 }

-- an insertion: the page of the key takes the pair, or is cut first, if it is full
abbrev pub chain_actions : List ℕ → ℕ → ℕ → List Action
chain_actions bytes root key =
    let page = chain_page_for (next_page bytes) bytes root key in let upper = page_due bytes 0 in
    if nat_lt (count_of bytes page) 30 then adding bytes page ∷ []
    else record { pages = page ∷ upper ∷ 0 ∷ []; takes = 1 } ∷ adding bytes (half_for (page_pairs bytes page) page upper key) ∷ []

-- a page of so many pairs keeps its last one, unless it is the root and has no link
abbrev pub keeps_last : ℕ → ℕ → ℕ → ℕ → Bool
keeps_last root page link count = nat_lt count 2 && not (nat_eq page root && nat_eq link 0)

-- a removal: the slot, the page of the key, the super page; but a page keeps its last pair, unless it is the root and has no link
abbrev pub chain_removal : List ℕ → ℕ → ℕ → Option (List ℕ)
chain_removal bytes root key =
    let page = chain_page_for (next_page bytes) bytes root key in
    let slot = (unwrap_or (find (λ pair. nat_eq pair.0 key) (pairs_of_chain bytes root)) (0, 0)).1 in
    if nat_lt (count_of bytes page) 2 && not (nat_eq page root && nat_eq (link_of bytes page) 0) then None
    else Some (slot_page bytes slot ∷ page ∷ 0 ∷ [])

-- a page is that of the key, with this link and these pairs
pub record IsPlaceOf (bytes : List ℕ) (root key page link : ℕ) (pairs : List Pair) : Type 0 where
  pub page_is : page ≡ page_of_key bytes root key
  pub link_is : link ≡ link_of bytes page
  pub pairs_are : pairs ≡ page_pairs bytes page

-- chains as indexes; they have no inner pages
abbrev pub chain : Index
chain = record {
  sound = λ bytes. index_check 0 chain_check bytes None;
  fails = λ bytes page. index_check 0 chain_check bytes (Some page);
  pairs = pairs_of_chain;
  level = λ bytes root. 0;
  has_page = IsPageOfChain;
  actions = chain_actions;
  removal = chain_removal;
}

-- how chains are read
abbrev pub chain_access : Access
chain_access = record {
  fits = IsPlaceOf;
  finding = chain_finding;
  nexting = chain_nexting;
  placing = chain_placing;
  testing = chain_testing;
}

-- what is left of an insertion once the page of the key has room, or is cut: so many pages are given out at most
abbrev pub chain_within : ℕ → Index
chain_within most = within chain most chain_actions
