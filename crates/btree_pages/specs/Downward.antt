-- How look-ups go down a tree.
use Rattle.std.specs.Prelude.{ℕ, ◌≡◌, Bool, true, nat_eq, if◌then◌else◌, List, [], ◌∷◌, Option, Some, None}
use Rattle.std.specs.Option.{option_map, option_or}
use Rattle.page_store.specs.Course.{Reading, Course, LeafSaid}
use Rattle.page_store.specs.Pairs.{Pair, found}
use Rattle.index_pages.specs.Keys.{from_on}
use Rattle.index_pages.specs.Page.{level_said, pairs_said}
use Rattle.btree_laws.specs.Descent.{child_for}
use Rattle.btree_pages.specs.Leaf.{behind_in}
use Rattle.btree_pages.specs.Start.{entry_of}
use Rattle.btree_pages.specs.declared.look.Leaf.{Leaf}
use Rattle.btree_pages.specs.declared.look.Reached.{Reached}

-- a page of level 0
abbrev pub is_leaf : List ℕ → Bool
is_leaf said = nat_eq (level_said said) 0

-- from the root down, from each page to its child for the key, as far as a leaf
abbrev pub down : ℕ → ℕ → List Reading → Option ℕ
down root key [] = Some root
down root key (r ∷ rs) = if is_leaf r.1 then None else Some (child_for (pairs_said r.1) key)

-- the same from a page of this level with these pairs on, which was read before
abbrev pub below : ℕ → ℕ → List Pair → List Reading → Option ℕ
below key level pairs [] = if nat_eq level 0 then None else Some (child_for pairs key)
below key level pairs (r ∷ rs) = if is_leaf r.1 then None else Some (child_for (pairs_said r.1) key)

-- what the leaf says of the key
abbrev pub slot_at : ℕ → List Reading → Option (Option ℕ)
slot_at key [] = None
slot_at key (r ∷ rs) = if is_leaf r.1 then Some (found (pairs_said r.1) key) else None

abbrev pub tree_finding : ℕ → ℕ → Course (Option ℕ)
tree_finding root key = record { goes = down root key; answer = slot_at key; most = λ shape. 8 }

-- a key that is not there goes into the leaf, which has no link
abbrev pub tree_placing : ℕ → List Reading → Option LeafSaid
tree_placing key [] = None
tree_placing key (r ∷ rs) = Some (record { page = r.0; link = 0; pairs = pairs_said r.1 })

-- the entry behind a key's way, as the pages on it say: the next leaf is the first under its child
abbrev pub behind_along : ℕ → List Reading → Option Pair
behind_along key [] = None
behind_along key (r ∷ rs) = option_or (behind_in (pairs_said r.1) key) (behind_along key rs)

-- the entry at which a look goes on that found these pairs in a leaf, before this entry
abbrev pub entry_after : List Pair → Option Pair → Option Pair
entry_after [] behind = behind
entry_after (p ∷ ps) behind = None

-- the entry at which a look for the next pairs goes on, if it was in a leaf that has none from the key on, and a leaf comes after that
abbrev pub entry_from : ℕ → List Reading → Option Pair
entry_from from [] = None
entry_from from (r ∷ rs) = option_or (entry_from from rs) (if is_leaf r.1 then entry_after (from_on (pairs_said r.1) from) (behind_along from rs) else None)

-- the page that such a look reads next: it goes down to the key's leaf, and from there, if it goes on, to the child of that entry, and down to
-- the leaf of the entry's low key
abbrev pub led_on : ℕ → Option Pair → Reading → List Reading → Option ℕ
led_on from (Some entry) r rs = down entry.1 entry.0 (r ∷ rs)
led_on from None r rs = if is_leaf r.1 then option_map (λ entry. entry.1) (entry_after (from_on (pairs_said r.1) from) (behind_along from rs)) else Some (child_for (pairs_said r.1) from)

abbrev pub down_and_on : ℕ → ℕ → List Reading → Option ℕ
down_and_on root from [] = Some root
down_and_on root from (r ∷ rs) = led_on from (entry_from from rs) r rs

-- The pairs of the next leaf are the answer, if it has some: a leaf that is gone on to must have one.
abbrev pub begun : List Pair → Option (List Pair)
begun [] = None
begun (p ∷ ps) = Some (p ∷ ps)

-- those of the key's leaf are, if it has some or no leaf comes after it
abbrev pub rested : List Pair → Option Pair → Option (List Pair)
rested [] None = Some []
rested [] (Some entry) = None
rested (p ∷ ps) behind = Some (p ∷ ps)

abbrev pub pairs_with : ℕ → Option Pair → Reading → List Reading → Option (List Pair)
pairs_with from (Some entry) r rs = begun (from_on (pairs_said r.1) entry.0)
pairs_with from None r rs = rested (from_on (pairs_said r.1) from) (behind_along from rs)

abbrev pub pairs_at : ℕ → List Reading → Option (List Pair)
pairs_at from [] = None
pairs_at from (r ∷ rs) = if is_leaf r.1 then pairs_with from (entry_from from rs) r rs else None

abbrev pub tree_nexting : ℕ → ℕ → Course (List Pair)
tree_nexting root from = record { goes = down_and_on root from; answer = pairs_at from; most = λ shape. 15 }

-- the page that was read last is this leaf, with these bytes, and the entry behind is that of the pages above it
abbrev pub Descended : ℕ → List ℕ → Leaf → List Reading → Type 0
Descended key said leaf [] = ⊥
Descended key said leaf (r ∷ rs) = (r.0 ≡ leaf.page) × (r.1 ≡ said) × (is_leaf said ≡ true) × (entry_of leaf.behind ≡ behind_along key rs)

-- the same with the pairs of the leaf from the key on
abbrev pub Gathered : ℕ → Reached → List Reading → Type 0
Gathered from at [] = ⊥
Gathered from at (r ∷ rs) = (r.0 ≡ at.page) × (is_leaf r.1 ≡ true) × (at.some.items ≡ from_on (pairs_said r.1) from) × (entry_of at.behind ≡ behind_along from rs)
