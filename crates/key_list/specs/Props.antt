-- That a chain is sound is a proposition: a struct can keep it.
use Rattle.std.specs.Prelude.{ℕ, zero, suc, Bool, true, false, nat_eq, List, [], ◌∷◌, None}
use Rattle.std.specs.Coded.{×_prop, Unit-prop, le_prop}
use Rattle.std.proofs.Props.{props}
use Rattle.mars_base.specs.Check.{Check, unless}
use Rattle.record_slots.specs.Places.{page_bytes, next_page}
use Rattle.page_store.specs.Pairs.{Pair}
use Rattle.index_pages.specs.Page.{link_of, page_pairs}
use Rattle.index_pages.specs.Props.{slot-prop, index-prop}
use Rattle.key_list.specs.Chain.{behind, IsChainHead, pairs_check, chain_from, chain_check, IsSoundChain}
use Rattle.key_list.specs.Seen.{linked}

pairs-prop : (bytes : List ℕ) (table page low : ℕ) (ps : List Pair) → IsProp (pairs_check bytes table page low ps None)
pairs-prop bytes table page low [] = le_prop
pairs-prop bytes table page low (p ∷ ps) = ×_prop (×_prop le_prop (slot-prop bytes table page p)) (pairs-prop bytes table page (suc p.0) ps)

head-prop : (low : ℕ) (said : List ℕ) → IsProp (IsChainHead low said)
head-prop low said = Prim.hlevel props

unless-prop : (out : Bool) (check : Check ℕ) → IsProp (check None) → IsProp (unless out check None)
unless-prop true check prop = Unit-prop
unless-prop false check prop = prop

from-prop : (n : ℕ) (bytes : List ℕ) (table page low : ℕ) → IsProp (chain_from n bytes table page low None)
from-prop zero bytes table page low = Prim.hlevel props
from-prop (suc n) bytes table page low =
    ×_prop (head-prop low (page_bytes bytes page)) (×_prop (pairs-prop bytes table page low (page_pairs bytes page)) (unless-prop (nat_eq (link_of bytes page) 0) (linked table n bytes page low)
    (×_prop (Prim.hlevel props) (from-prop n bytes table (link_of bytes page) (behind low (page_pairs bytes page))))))

pub IsSoundChain-prop : (bytes : List ℕ) → IsProp (IsSoundChain bytes)
IsSoundChain-prop bytes = index-prop 0 chain_check bytes (λ root table. from-prop (next_page bytes) bytes table root 0)
