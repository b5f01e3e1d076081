-- What is told of a reply, where the caller has room for it.
use Rattle.std.specs.Prelude.{ℕ, ℤ, List, length, Option, Some, None}
use Rattle.history.specs.declared.call.Reply.{Reply}
use Rattle.history.specs.declared.call.Reply.TheVariants.{Found, Listed, Saved, Committed, Purged}
use Rattle.taped_records.specs.Status.{status_of, bad_caller}

-- the status of a reply; there is none where there is no such caller
abbrev pub status_in : Option Reply → ℤ
status_in (Some reply) = status_of reply
status_in None = bad_caller

-- the number in a reply, if there is one; else what was there
abbrev pub number_in : ℕ → Option Reply → ℕ
number_in was (Some (Saved saves)) = saves
number_in was (Some (Committed number)) = number
number_in was (Some (Purged keys)) = keys
number_in was _ = was

-- how many rows it has, if it has rows; else what was there
abbrev pub count_in : ℕ → Option Reply → ℕ
count_in was (Some (Listed rows)) = length rows
count_in was _ = was

-- the value that was found, if one was
abbrev pub value_in : Option Reply → Option (List ℕ)
value_in (Some (Found value)) = Some value
value_in _ = None

-- the rows that are kept after a scan: its own, or those that there were
abbrev pub rows_in : List (ℕ × List ℕ) → Reply → List (ℕ × List ℕ)
rows_in were (Listed rows) = rows
rows_in were _ = were

-- after another call they are those that there were
abbrev pub same_rows : List (ℕ × List ℕ) → Reply → List (ℕ × List ℕ)
same_rows were reply = were

-- nothing more is told
abbrev pub Nothing : Option Reply → Type 0
Nothing told = Unit {0}
