-- The order in which the entries of a queue of ballots are applied. A number has the entries of one ballot at most.
use Rattle.std.specs.Prelude.{ℕ, ◌<◌, ◌≡◌, true, false, ◌||◌, Bool, if◌then◌else◌, List, [], ◌∷◌, ◌++◌}
use Rattle.std.specs.List.{range_with_len}
use Rattle.array_shape.specs.declared.shape.Shape.{Shape}
use Rattle.array_shape.specs.Logged.{Part}
use Rattle.row_bytes.specs.declared.ballot.Ballot.{Ballot}
use Rattle.array_shape.specs.NumberSet.{has}
use Rattle.row_bytes.specs.Ballots.{has_row}
use Rattle.array_image.specs.Joined.{joined}
use Rattle.commit_queue.specs.Queue.{Commit}
use Rattle.write_back.specs.declared.entry.Entry.{Entry}
use Rattle.write_back.specs.Entries.{parts_in, cells_on}

-- the lists of the numbers of a group, by rising number
abbrev pub of_group : {A : Type 0} → Shape → (ℕ → List A) → ℕ → List A
of_group shape lists group = joined (λ t. if has group t then lists t else []) 0 shape.numbers

-- those of each ballot of a queue, the oldest first
abbrev pub in_turn : {A : Type 0} → Shape → (ℕ → List A) → List Ballot → List A
in_turn shape lists [] = []
in_turn shape lists (ballot ∷ queue) = of_group shape lists ballot.group ++ in_turn shape lists queue

-- the parts of one group, and those of a whole queue, as they are applied
abbrev pub group_parts : Shape → List ℕ → (ℕ → List Entry) → ℕ → List Part
group_parts shape image entries group = of_group shape (λ t. parts_in shape image t (entries t)) group

abbrev pub parts_in_turn : Shape → List ℕ → (ℕ → List Entry) → List Ballot → List Part
parts_in_turn shape image entries queue = in_turn shape (λ t. parts_in shape image t (entries t)) queue

-- some ballot of the queue has the number
abbrev pub has_some : List Ballot → ℕ → Bool
has_some [] t = false
has_some (ballot ∷ queue) t = has ballot.group t || has_some queue t

-- the numbers of the queue's ballots have the same entries
abbrev pub SameFor : Shape → List Ballot → (ℕ → List Entry) → (ℕ → List Entry) → Type 0
SameFor shape queue old new = (t : ℕ) → t < shape.numbers → has_some queue t ≡ true → new t ≡ old t

-- at each logger the entries of the commit's numbers have just the cells that its rows name, in their order
abbrev pub HaveCells : Shape → (ℕ → List Entry) → Commit → Type 0
HaveCells shape entries c = (g t : ℕ) → g < shape.loggers → t < shape.numbers → has c.ballot.group t ≡ true
    → cells_on shape g (entries t) ≡ (if has_row c.ballot g t then range_with_len (c.first g t) (c.count g t) else [])
