-- Which commits are written back before another, and what order number that one takes.
use Rattle.std.specs.Prelude.{ℕ, suc, ◌≡◌, ◌+◌, ◌-◌, ◌^◌, Bool, false, ◌||◌, not, All, nat_eq, nat_lt, if◌then◌else◌, List, [], ◌∷◌, ◌++◌, length, drop, take}
use Rattle.std.specs.Int.RustNames.{bit_and}
use Rattle.row_bytes.specs.declared.ballot.Ballot.{Ballot}
use Rattle.array_shape.specs.NumberSet.{has}
use Rattle.row_bytes.specs.Ballots.{has_row}

-- a commit has one of the numbers of a group
abbrev pub shares : ℕ → Ballot → Bool
shares group ballot = not (nat_eq (bit_and ballot.group group) 0)

-- none of these commits has number t
abbrev pub IsFree : ℕ → List Ballot → Type 0
IsFree t bs = All (λ (b : Ballot). has b.group t ≡ false) bs

-- how many wait up to the last one that has a number of the group, with it
abbrev pub due_for : ℕ → List Ballot → ℕ
due_for group [] = 0
due_for group (b ∷ bs) = if shares group b || nat_lt 0 (due_for group bs) then suc (due_for group bs) else 0

-- the order number of the last one; 0 where none waits
abbrev pub last_order : List Ballot → ℕ
last_order [] = 0
last_order (b ∷ []) = b.order
last_order (b ∷ c ∷ bs) = last_order (c ∷ bs)

-- How many make place for one more: all, if it would pass the last order number; else the oldest, if as many wait as may.
abbrev pub due_for_place : ℕ → List Ballot → ℕ
due_for_place depth bs = if nat_eq (last_order bs) (2 ^ 16 - 1) then length bs else (if nat_eq (length bs) depth then 1 else 0)

-- the ballot of a commit that comes behind these: 1 is the order number of the first
abbrev pub behind : List Ballot → Ballot → Ballot
behind bs ballot = record { mask = ballot.mask; group = ballot.group; order = last_order bs + 1 }

-- that of a commit that does not wait
abbrev pub unordered : Ballot → Ballot
unordered ballot = record { mask = ballot.mask; group = ballot.group; order = 0 }

-- which ones make place for one more, the ballot that it is voted with, and what waits after it: nothing more if none may wait
abbrev pub placing : ℕ → List Ballot → List Ballot
placing depth bs = if nat_eq depth 0 then [] else take (due_for_place depth bs) bs

abbrev pub voted_with : ℕ → List Ballot → Ballot → Ballot
voted_with depth bs ballot = if nat_eq depth 0 then unordered ballot else behind (drop (due_for_place depth bs) bs) ballot

abbrev pub with_one_more : ℕ → List Ballot → Ballot → List Ballot
with_one_more depth bs ballot = if nat_eq depth 0 then bs else (let left = drop (due_for_place depth bs) bs in left ++ behind left ballot ∷ [])

-- some of these commits has the row of number t at logger g
abbrev pub some_row : List Ballot → ℕ → ℕ → Bool
some_row [] g t = false
some_row (b ∷ bs) g t = has_row b g t || some_row bs g t
