-- What recovery finds, says and writes.
use Rattle.std.specs.Prelude.{ℕ, ◌≡◌, ◌+◌, ◌*◌, ◌/◌, ◌%◌, ◌<◌, ◌⊎◌, Bool, true, false, not, nat_eq, if◌then◌else◌, List, [], ◌∷◌, ◌++◌, length, map, sum, slice_index}
use Rattle.std.specs.List.{flat_map, range_with_len}
use Rattle.mars_base.specs.Bytes.{range}
use Rattle.mars_base.specs.Check.{Check, test, unless, each}
use Rattle.pcm_media.specs.Images.{Content, MayLeave}
use Rattle.array_shape.specs.declared.shape.Shape.{Shape}
use Rattle.array_shape.specs.Places.{row_at}
use Rattle.array_image.specs.Joined.{joined}
use Rattle.array_shape.specs.Logged.{places_of}
use Rattle.array_image.specs.Image.{row_of}
use Rattle.array_image.specs.Decided.{decided, decided_as, all_decided, orders, settled_data}
use Rattle.row_bytes.specs.declared.row.Row.{Row}
use Rattle.array_image.specs.Standing.{IsGoodRow, IsLawful, StandsFor}
use Rattle.array_image.specs.Votes.{dropped, votes_of}
use Rattle.device_recovery.specs.declared.report.Report.{Report}
use Rattle.device_recovery.specs.declared.report.RecoverFault.{RecoverFault}
use Rattle.device_recovery.specs.declared.report.RecoverFault.TheVariants.{Media}

-- Each decided row is good, or this is the first that is not: its logger and number. They go by rising number, then rising logger.
abbrev pub rows_good : Shape → List ℕ → Check (ℕ × ℕ)
rows_good shape image = each (λ (row : ℕ × ℕ). unless (not (decided shape image row.0 row.1)) (test (IsGoodRow shape image row.0 row.1) row))
    (flat_map (λ t. flat_map (λ g. (g, t) ∷ []) (range_with_len 0 shape.loggers)) (range_with_len 0 shape.numbers))

-- a row, as its logger and number
abbrev pub row_name : ℕ → ℕ → ℕ × ℕ
row_name g t = (g, t)

-- what `beside` gives for the rows that pass a test, by rising number, then rising logger
abbrev pub at_number : {A : Type 0} → Shape → (ℕ → ℕ → Bool) → (ℕ → ℕ → A) → ℕ → List A
at_number shape test beside t = joined (λ g. if test g t then beside g t ∷ [] else []) 0 shape.loggers

abbrev pub at_rows : {A : Type 0} → Shape → (ℕ → ℕ → Bool) → (ℕ → ℕ → A) → List A
at_rows shape test beside = joined (λ t. at_number shape test beside t) 0 shape.numbers

-- the voted rows that are decided, and those that are not, each as its logger and number
abbrev pub decided_rows : Shape → List ℕ → List (ℕ × ℕ)
decided_rows shape image = at_rows shape (λ g t. decided shape image g t) row_name

abbrev pub dropped_rows : Shape → List ℕ → List (ℕ × ℕ)
dropped_rows shape image = at_rows shape (dropped shape image) row_name

-- no row is voted
abbrev pub HasNoVote : Shape → List ℕ → Type 0
HasNoVote shape image = (g t : ℕ) → g < shape.loggers → t < shape.numbers → (row_of shape image g t).voted ≡ false

-- the vote byte of each row is as it was, or 0
abbrev pub OnlyCleared : Shape → List ℕ → List ℕ → Type 0
OnlyCleared shape old new = (g t : ℕ) → g < shape.loggers → t < shape.numbers → (slice_index new (row_at shape g t) ≡ slice_index old (row_at shape g t)) ⊎ (slice_index new (row_at shape g t) ≡ 0)

-- how many calls of the medium recovery makes if no row is voted: a barrier, and a read of each row
abbrev pub quiet_calls : Shape → ℕ
quiet_calls shape = 1 + shape.loggers * shape.numbers

-- how many calls clear so many votes: one for each, and a barrier; none where there is none
abbrev pub clear_calls : ℕ → ℕ
clear_calls votes = if nat_eq votes 0 then 0 else votes + 1

-- the sum of what a function gives for the numbers below n
abbrev pub total : (ℕ → ℕ) → ℕ → ℕ
total f n = sum (map f (range_with_len 0 n))

-- for all rows: row n is that of number n / loggers at logger n % loggers
abbrev pub row_sum : Shape → (ℕ → ℕ → ℕ) → ℕ
row_sum shape f = total (λ n. f (n % shape.loggers) (n / shape.loggers)) (shape.loggers * shape.numbers)

-- how many cells a row names, if it passes a test
abbrev pub cells_if : (ℕ → ℕ → Bool) → (ℕ → ℕ → Row) → ℕ → ℕ → ℕ
cells_if test rows g t = if test g t then (rows g t).count else 0

-- how many calls it makes for the data, if so many rows are decided and they name so many cells: for each cell a read and a write, and a
-- barrier; none if no row is decided
abbrev pub apply_calls : ℕ → ℕ → ℕ
apply_calls rows cells = if nat_eq rows 0 then 0 else 2 * cells + 1

-- how many cells the decided rows name, and those with one order number; how many rows have that
abbrev pub cells_named : Shape → List ℕ → ℕ
cells_named shape image = row_sum shape (cells_if (decided shape image) (row_of shape image))

abbrev pub cells_as : Shape → List ℕ → ℕ → ℕ
cells_as shape image o = row_sum shape (cells_if (decided_as shape image o) (row_of shape image))

abbrev pub rows_as : Shape → List ℕ → ℕ → ℕ
rows_as shape image o = length (at_rows shape (decided_as shape image o) row_name)

-- How many calls recovery makes: a barrier and a read of each row; a read of the head of each cell that a decided row names; those for the
-- data; the votes of rows that are not decided, and a barrier if there are any; and so for each order number of decided rows.
abbrev pub recovery_calls : Shape → List ℕ → ℕ
recovery_calls shape image = quiet_calls shape + cells_named shape image + apply_calls (length (decided_rows shape image)) (total (cells_as shape image) orders)
    + clear_calls (length (dropped_rows shape image)) + total (λ o. clear_calls (rows_as shape image o)) orders

-- the report says how many of each there are
pub record Counts (shape : Shape) (image : List ℕ) (report : Report) : Type 0 where
  pub decided : report.decided ≡ length (decided_rows shape image)
  pub dropped : report.dropped ≡ length (dropped_rows shape image)

-- where recovery writes: the votes of voted rows, and the parts of decided ones
abbrev pub voted_places : Shape → List ℕ → List (ℕ × ℕ)
voted_places shape image = votes_of shape (λ g t. (row_of shape image g t).voted)

abbrev pub recovered_places : Shape → List ℕ → List (ℕ × ℕ)
recovered_places shape image = places_of shape (all_decided shape image) ++ voted_places shape image

-- lawful, with the header of another image, and it settles to what that image does
pub record SettlesLike (shape : Shape) (other image : List ℕ) : Type 0 where
  pub lawful : IsLawful shape image
  pub header : range image 0 512 ≡ range other 0 512
  pub same : settled_data shape image ≡ settled_data shape other

-- lawful, with this header, and settles to this data
pub record SettlesTo (shape : Shape) (bytes header image : List ℕ) : Type 0 where
  pub stands : StandsFor shape image bytes
  pub header_is : range image 0 512 ≡ header

-- it settles like some image that could be left at first
pub record KeepsSense (shape : Shape) (content : Content) (image : List ℕ) : Type 0 where
  pub earlier : List ℕ
  pub left : MayLeave content earlier
  pub like : SettlesLike shape earlier image

-- whether the medium failed
abbrev pub is_of_media : RecoverFault → Bool
is_of_media Media = true
is_of_media _ = false
