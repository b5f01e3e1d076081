-- How look-ups go along a chain.
use Rattle.std.specs.Prelude.{ℕ, ◌≡◌, ◌≢◌, ◌||◌, ◌⊎◌, Bool, true, false, is_some, nat_eq, nat_lt, if◌then◌else◌, List, [], ◌∷◌, Option, Some, None, IfSome}
use Rattle.std.specs.Option.{option_map}
use Rattle.page_store.specs.Course.{Reading, Course, LeafSaid}
use Rattle.page_store.specs.Follows.{IsLast}
use Rattle.page_store.specs.Index.{index_pages_of}
use Rattle.page_store.specs.Pairs.{Pair, next}
use Rattle.index_pages.specs.Keys.{from_on}
use Rattle.index_pages.specs.Page.{link_said, pairs_said}
use Rattle.key_list.specs.declared.look.Reached.{Reached}
use Rattle.key_list.specs.declared.look.KeyPage.{KeyPage}

-- a page has a pair from the key on, or none comes after it
abbrev pub ends_at : ℕ → List ℕ → Bool
ends_at from said = is_some (next (pairs_said said) from) || nat_eq (link_said said) 0

-- from the root on along the links, up to a page where the way ends
abbrev pub along : ℕ → ℕ → List Reading → Option ℕ
along root from [] = Some root
along root from (r ∷ rs) = if ends_at from r.1 then None else Some (link_said r.1)

-- what the pairs of that page say
abbrev pub answered : {A : Type 0} → (List Pair → A) → ℕ → List Reading → Option A
answered says from [] = None
answered says from (r ∷ rs) = if ends_at from r.1 then Some (says (pairs_said r.1)) else None

-- what a key leads to, if this is the first pair from it on
abbrev pub led_to : ℕ → Option Pair → Option ℕ
led_to key None = None
led_to key (Some p) = if nat_eq p.0 key then Some p.1 else None

abbrev pub chain_finding : ℕ → ℕ → Course (Option ℕ)
chain_finding root key = record { goes = along root key; answer = answered (λ pairs. led_to key (next pairs key)) key; most = index_pages_of }

abbrev pub chain_nexting : ℕ → ℕ → Course (List Pair)
chain_nexting root from = record { goes = along root from; answer = answered (λ pairs. from_on pairs from) from; most = index_pages_of }

-- pairs begin above a key
abbrev pub is_past : ℕ → List Pair → Bool
is_past key [] = false
is_past key (p ∷ ps) = nat_lt key p.0

-- the page that a key is in or goes into: the one that was read last, or the one before it, if the last one begins above the key
abbrev pub stay : ℕ → List Reading → Option Reading
stay key [] = None
stay key (r ∷ []) = Some r
stay key (r ∷ q ∷ rs) = if is_past key (pairs_said r.1) then Some q else Some r

abbrev pub leaf_said : Reading → LeafSaid
leaf_said r = record { page = r.0; link = link_said r.1; pairs = pairs_said r.1 }

abbrev pub chain_placing : ℕ → List Reading → Option LeafSaid
chain_placing key read = option_map leaf_said (stay key read)

-- the page that was read last said this, and the way ends there
abbrev pub Ended : ℕ → List ℕ → List Reading → Type 0
Ended from said [] = ⊥
Ended from said (r ∷ rs) = (r.1 ≡ said) × (ends_at from said ≡ true)

-- so, and if it has a pair, it is the one that was reached
abbrev pub Arrives : ℕ → List ℕ → Option Reached → List Reading → Type 0
Arrives from said at read = Ended from said read × IfSome at (λ at. IsLast read at.page)

-- the page was read
abbrev pub WasRead : ℕ → List Reading → Type 0
WasRead page [] = ⊥
WasRead page (r ∷ rs) = (page ≡ r.0) ⊎ WasRead page rs

-- The page that the key is in or goes into was read, and said this: what its pairs say is the answer, and if one of them is from the key on, it was
-- read last.
pub record Stays (key : ℕ) (said : List ℕ) (at : KeyPage) (read : List Reading) : Type 0 where
  pub answer : answered (λ pairs. led_to key (next pairs key)) key read ≡ Some (led_to key (next (pairs_said said) key))
  pub last : next (pairs_said said) key ≢ None → IsLast read at.page
  pub met : WasRead at.page read
  pub place : stay key read ≡ Some (at.page, said)
