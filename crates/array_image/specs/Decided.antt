-- Which rows of an image are decided, and the data that it settles to.
use Rattle.std.specs.Prelude.{ℕ, ◌^◌, Bool, not, ◌&&◌, ◌||◌, nat_eq, nat_lt, if◌then◌else◌, List, []}
use Rattle.std.specs.List.{flat_map, list_all, range_with_len}
use Rattle.array_shape.specs.declared.shape.Shape.{Shape}
use Rattle.array_shape.specs.Logged.{Part, applied}
use Rattle.row_bytes.specs.declared.ballot.Ballot.{Ballot}
use Rattle.row_bytes.specs.declared.row.Row.{Row}
use Rattle.row_bytes.specs.Ballots.{ballot_of, has_row, same_ballot}
use Rattle.array_image.specs.Joined.{joined}
use Rattle.array_image.specs.Image.{data_of, row_of, row_parts}

-- A ballot is carried: it has only loggers and numbers of the array, and the rows of all its numbers at all its loggers are voted
-- with that same ballot.
unfoldable pub carried : ℕ → ℕ → (ℕ → ℕ → Row) → Ballot → Bool
carried loggers numbers rows ballot = nat_lt ballot.mask (2 ^ loggers) && nat_lt ballot.group (2 ^ numbers)
    && list_all (λ t. list_all (λ g. not (has_row ballot g t) || ((rows g t).voted && same_ballot (ballot_of t (rows g t)) ballot))
    (range_with_len 0 loggers)) (range_with_len 0 numbers)

-- The row of number t at logger g is decided: its ballot has it, and is carried. (So the row is voted.)
abbrev pub decided : Shape → List ℕ → ℕ → ℕ → Bool
decided shape image g t = has_row (ballot_of t (row_of shape image g t)) g t
    && carried shape.loggers shape.numbers (row_of shape image) (ballot_of t (row_of shape image g t))

-- it is, with this order number
abbrev pub decided_as : Shape → List ℕ → ℕ → ℕ → ℕ → Bool
decided_as shape image o g t = decided shape image g t && nat_eq (row_of shape image g t).order o

-- the parts of all decided rows with one order number, by rising number, then logger and cell
abbrev pub order_parts : Shape → List ℕ → ℕ → List Part
order_parts shape image o = flat_map (λ t. flat_map (λ g. if decided_as shape image o g t then row_parts shape image g t else [])
    (range_with_len 0 shape.loggers)) (range_with_len 0 shape.numbers)

-- how many order numbers there are
unfoldable pub orders : ℕ
orders = 2 ^ 16

-- the data once the parts of all decided rows are written into it, by rising order number
abbrev pub settled_data : Shape → List ℕ → List ℕ
settled_data shape image = applied (flat_map (order_parts shape image) (range_with_len 0 orders)) (data_of shape image)

-- The same in smaller steps, as functions go through it: a test holds for each number below n;
abbrev pub all_below : ℕ → (ℕ → Bool) → Bool
all_below n p = list_all p (range_with_len 0 n)

-- the row is none of the commit's, or it is voted with its ballot;
abbrev pub agrees : Ballot → (ℕ → ℕ → Row) → ℕ → ℕ → Bool
agrees ballot rows g t = not (has_row ballot g t) || ((rows g t).voted && same_ballot (ballot_of t (rows g t)) ballot)

-- it is decided, of any rows;
abbrev pub decides : ℕ → ℕ → (ℕ → ℕ → Row) → ℕ → ℕ → Bool
decides loggers numbers rows g t = has_row (ballot_of t (rows g t)) g t && carried loggers numbers rows (ballot_of t (rows g t))

-- its parts if it is decided with this order number, else none;
abbrev pub decided_parts : Shape → List ℕ → ℕ → ℕ → ℕ → List Part
decided_parts shape image o t g = if decided_as shape image o g t then row_parts shape image g t else []

-- the parts of all decided rows
abbrev pub all_decided : Shape → List ℕ → List Part
all_decided shape image = joined (order_parts shape image) 0 orders
