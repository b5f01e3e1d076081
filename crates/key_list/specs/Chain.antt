-- The chains of tables: each begins in its root and follows the links. Link 0 ends it.
use Rattle.std.specs.Prelude.{ℕ, zero, suc, ◌≡◌, ◌<◌, ◌≤◌, nat_eq, nat_lt, if◌then◌else◌, List, [], ◌∷◌, ◌++◌, slice_index_or, Some, None}
use Rattle.std.specs.List.{fold}
use Rattle.mars_base.specs.Check.{Check, test, both, unless}
use Rattle.record_slots.specs.Places.{page_bytes, next_page}
use Rattle.page_store.specs.Pairs.{Pair}
use Rattle.index_pages.specs.Keys.{key_end}
use Rattle.index_pages.specs.Page.{kind_said, level_said, count_said, link_said, link_of, page_pairs}
use Rattle.index_pages.specs.Pieces.{Piece}
use Rattle.index_pages.specs.Slots.{slot_check, index_check}

-- the least key that may come after these pairs
abbrev pub behind : ℕ → List Pair → ℕ
behind low pairs = fold (λ from pair. suc pair.0) low pairs

-- the bytes of a page begin as a page of a chain does: it may be without pairs only if no key is before it, and then it is the last one too
pub record IsChainHead (low : ℕ) (said : List ℕ) : Type 0 where
  pub kind : kind_said said ≡ 1
  pub level : level_said said ≡ 0
  pub most : count_said said ≤ 30
  pub some : count_said said ≡ 0 → (low ≡ 0) × (link_said said ≡ 0)

-- a pair of a page of a table: its key is above those before it, and its slot is sound
abbrev pub pair_check : List ℕ → ℕ → ℕ → ℕ → Pair → Check ℕ
pair_check bytes table page low pair = both (test (low ≤ pair.0) page) (slot_check bytes table page pair)

-- the pairs of a page, one after another, whose keys are numbers of 64 bits
abbrev pub pairs_check : List ℕ → ℕ → ℕ → ℕ → List Pair → Check ℕ
pairs_check bytes table page low [] = test (low ≤ key_end) page
pairs_check bytes table page low (p ∷ ps) = both (both (test (low ≤ p.0) page) (slot_check bytes table page p)) (pairs_check bytes table page (suc p.0) ps)

-- the pages of a chain of a table from this one on, of which there are at most n: the head of each, its pairs, and where its link leads
abbrev pub chain_from : ℕ → List ℕ → ℕ → ℕ → ℕ → Check ℕ
chain_from zero bytes table page low = test ⊥ page
chain_from (suc n) bytes table page low =
    let link = link_of bytes page in let pairs = page_pairs bytes page in
    both (test (IsChainHead low (page_bytes bytes page)) page) (both (pairs_check bytes table page low pairs) (unless (nat_eq link 0)
    (both (test ((2 ≤ link) × (link < next_page bytes)) page) (chain_from n bytes table link (fold (λ from pair. suc pair.0) low pairs)))))

-- the chain of a table: from its root on at most as many pages as are given, since none comes twice
abbrev pub chain_check : List ℕ → ℕ → ℕ → Check ℕ
chain_check bytes root table = chain_from (next_page bytes) bytes table root 0

-- data where the chains of all tables are sound; and the page that fails first
abbrev pub IsSoundChain : List ℕ → Type 0
IsSoundChain bytes = index_check 0 chain_check bytes None

abbrev pub IsFirstDamagedOfChain : List ℕ → ℕ → Type 0
IsFirstDamagedOfChain bytes page = index_check 0 chain_check bytes (Some page)

-- the pairs of the first n pages of a chain from this one on
abbrev pub chain_pairs : ℕ → List ℕ → ℕ → List Pair
chain_pairs zero bytes page = []
chain_pairs (suc n) bytes page = page_pairs bytes page ++ (if nat_eq (link_of bytes page) 0 then [] else chain_pairs n bytes (link_of bytes page))

-- those of the chain with this root
unfoldable pub pairs_of_chain : List ℕ → ℕ → List Pair
pairs_of_chain bytes root = chain_pairs (next_page bytes) bytes root

-- the key of the first pair
abbrev pub first_key : List Pair → ℕ
first_key pairs = (slice_index_or pairs 0 (0, 0)).0

-- the pages of a chain as pieces: each begins at its first key, the first one at the lower bound
abbrev pub chain_pieces : ℕ → List ℕ → ℕ → ℕ → List Piece
chain_pieces zero bytes page low = []
chain_pieces (suc n) bytes page low =
    (low, page_pairs bytes page)
    ∷ (if nat_eq (link_of bytes page) 0 then [] else chain_pieces n bytes (link_of bytes page) (first_key (page_pairs bytes (link_of bytes page))))

abbrev pub pieces_of_chain : List ℕ → ℕ → List Piece
pieces_of_chain bytes root = chain_pieces (next_page bytes) bytes root 0

-- the last page of a chain whose first key is not above the key, or its first page if there is none
abbrev pub chain_page_for : ℕ → List ℕ → ℕ → ℕ → ℕ
chain_page_for zero bytes page key = page
chain_page_for (suc n) bytes page key =
    let link = link_of bytes page in
    if nat_eq link 0 then page else if nat_lt key (slice_index_or (page_pairs bytes link) 0 (0, 0)).0 then page else chain_page_for n bytes link key

abbrev pub page_of_key : List ℕ → ℕ → ℕ → ℕ
page_of_key bytes root key = chain_page_for (next_page bytes) bytes root key
