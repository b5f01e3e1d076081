-- Which shape an array of records gets.
use Rattle.std.specs.Prelude.{ℕ, ◌≡◌, ◌*◌, ◌≤◌, ◌<◌, ◌⊎◌, nat_le, if◌then◌else◌, Option, Some, None}
use Rattle.array_shape.specs.declared.shape.Shape.{Shape}
use Rattle.array_shape.specs.declared.bad_shape.ShapeNumber.{ShapeNumber}
use Rattle.array_shape.specs.declared.bad_shape.ShapeNumber.TheVariants.{Loggers, Numbers, Entries, Pages, MediaLength}
use Rattle.array_shape.specs.declared.bad_shape.BadShape.{BadShape}
use Rattle.array_shape.specs.Numbers.{IsFirstBad}
use Rattle.array_shape.specs.Places.{HasNumbers}
use Rattle.command_words.specs.declared.restore_numbers.RestoreNumbers.{RestoreNumbers}

-- The fewest pages for an index, and as many for slots, of eight each: there are as many as the index needs, and twice as many slots as records.
pub record IsHalf (index records half : ℕ) : Type 0 where
  pub room : index ≤ half
  pub free : 2 * records ≤ 8 * half
  pub fewest : (fewer : ℕ) → fewer < half → (fewer < index) ⊎ (8 * fewer < 2 * records)

-- The fewest pages of each logger, an even number from 4 to 4,096, of which half together are so many; or 4,096 where no number suffices.
pub record IsFewest (loggers half pages : ℕ) : Type 0 where
  pub per : ℕ
  pub even : pages ≡ 2 * per
  pub least : 2 ≤ per
  pub most : per ≤ 2048
  pub enough : (half ≤ loggers * per) ⊎ (per ≡ 2048)
  pub fewest : (fewer : ℕ) → 2 ≤ fewer → fewer < per → loggers * fewer < half

-- four loggers, or eight where these have too few pages
abbrev pub loggers_for : ℕ → ℕ
loggers_for half = if nat_le half 8192 then 4 else 8

-- the loggers that are asked for, or those for so many pages
abbrev pub given_loggers : Option ℕ → ℕ → ℕ
given_loggers (Some loggers) half = loggers
given_loggers None half = loggers_for half

-- the pages that are asked for, or the fewest
abbrev pub AreGivenPages : Option ℕ → ℕ → ℕ → ℕ → Type 0
AreGivenPages (Some asked) loggers half pages = pages ≡ asked
AreGivenPages None loggers half pages = IsFewest loggers half pages

-- the shape of an array that is asked for, and that has so many pages for its index if its pages are not said
abbrev pub IsShapeFor : RestoreNumbers → ℕ → Shape → Type 0
IsShapeFor asked half shape =
    (pages : ℕ) × AreGivenPages asked.pages (given_loggers asked.loggers half) half pages × HasNumbers (given_loggers asked.loggers half) asked.numbers asked.entries pages shape

-- this number is the first of them that is out of range
abbrev pub IsBadFor : RestoreNumbers → ℕ → BadShape → Type 0
IsBadFor asked half bad =
    (pages : ℕ) × AreGivenPages asked.pages (given_loggers asked.loggers half) half pages × IsFirstBad (given_loggers asked.loggers half) asked.numbers asked.entries pages bad.which bad.given

-- the value that was asked for if the shape has this number in a byte, else the given one
abbrev pub asked_for : ℕ → ℕ → ShapeNumber → ℕ → ℕ
asked_for loggers numbers Loggers given = loggers
asked_for loggers numbers Numbers given = numbers
asked_for loggers numbers Entries given = given
asked_for loggers numbers Pages given = given
asked_for loggers numbers MediaLength given = given
