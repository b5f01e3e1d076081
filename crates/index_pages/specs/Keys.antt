-- Places in a list of pairs.
use Rattle.std.specs.Prelude.{ℕ, suc, ◌^◌, nat_le, if◌then◌else◌, List, [], ◌∷◌, slice_index_or, Option, Some, None}
use Rattle.page_store.specs.Pairs.{Pair}

-- the key of pair n
abbrev pub key_at : List Pair → ℕ → ℕ
key_at pairs n = (slice_index_or pairs n (0, 0)).0

-- the first of two answers, if there is one, else the second
abbrev pub or_else : Option Pair → Option Pair → Option Pair
or_else None other = other
or_else (Some p) other = Some p

abbrev pub head : List Pair → Option Pair
head [] = None
head (p ∷ ps) = Some p

-- the pairs from the first on whose key is not below this one
abbrev pub from_on : List Pair → ℕ → List Pair
from_on [] from = []
from_on (p ∷ ps) from = if nat_le from p.0 then p ∷ ps else from_on ps from

-- the least key that may follow the last one, or be the first from a key on
abbrev pub low_for : ℕ → Option ℕ → ℕ
low_for from None = from
low_for from (Some last) = suc last

-- above all keys
abbrev pub key_end : ℕ
key_end = 2 ^ 64
