-- Lists of pairs, each of a key and what the key leads to, in the order of the keys.
use Rattle.std.specs.Prelude.{ℕ, suc, ◌≡◌, ◌^◌, ◌<◌, ◌≤◌, nat_eq, nat_lt, nat_le, if◌then◌else◌, List, [], ◌∷◌, Option, Some, None}

abbrev pub Pair : Type 0
Pair = ℕ × ℕ

-- the keys rise strictly, from the lower bound on and below the upper one
abbrev pub Rise : ℕ → ℕ → List Pair → Type 0
Rise low high [] = low ≤ high
Rise low high (p ∷ ps) = (low ≤ p.0) × Rise (suc p.0) high ps

-- what a key leads to, if it is there
abbrev pub found : List Pair → ℕ → Option ℕ
found [] key = None
found (p ∷ ps) key = if nat_eq p.0 key then Some p.1 else found ps key

-- the pair with the least key from this one on, if there is one
abbrev pub next : List Pair → ℕ → Option Pair
next [] from = None
next (p ∷ ps) from = if nat_le from p.0 then Some p else next ps from

-- these come one after another from this key on: each is the next behind the one before it
abbrev pub InTurn : List Pair → ℕ → List Pair → Type 0
InTurn pairs from [] = Unit {0}
InTurn pairs from (p ∷ ps) = (next pairs from ≡ Some p) × InTurn pairs (suc p.0) ps

-- so, and there are some if there is a next one
abbrev pub AreNext : List Pair → ℕ → List Pair → Type 0
AreNext pairs from [] = next pairs from ≡ None
AreNext pairs from (p ∷ ps) = InTurn pairs from (p ∷ ps)

-- the keys rise strictly from this one on, and each leads to a number below the bound
abbrev pub AreInside : ℕ → ℕ → List Pair → Type 0
AreInside from bound [] = Unit {0}
AreInside from bound (p ∷ ps) = (from ≤ p.0) × (p.1 < bound) × AreInside (suc p.0) bound ps

-- keys, and what they lead to, are numbers of 64 bits
abbrev pub AreSmall : List Pair → Type 0
AreSmall [] = Unit {0}
AreSmall (p ∷ ps) = (p.0 < 2 ^ 64) × (p.1 < 2 ^ 64) × AreSmall ps

-- the pairs with one more, in its place
abbrev pub inserted : List Pair → ℕ → ℕ → List Pair
inserted [] key to = (key, to) ∷ []
inserted (p ∷ ps) key to = if nat_lt key p.0 then (key, to) ∷ p ∷ ps else p ∷ inserted ps key to

-- the pairs without that of this key
abbrev pub removed : List Pair → ℕ → List Pair
removed [] key = []
removed (p ∷ ps) key = if nat_eq p.0 key then ps else p ∷ removed ps key
