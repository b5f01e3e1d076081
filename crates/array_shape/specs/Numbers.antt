-- The ranges of the numbers of an array.
use Rattle.std.specs.Prelude.{ℕ, ◌≡◌, ◌≤◌, ◌%◌}
use Rattle.array_shape.specs.declared.bad_shape.ShapeNumber.{ShapeNumber}
use Rattle.array_shape.specs.declared.bad_shape.ShapeNumber.TheVariants.{Loggers, Numbers, Entries, Pages, MediaLength}

pub record AreInRange (loggers numbers entries pages : ℕ) : Type 0 where
  pub some_loggers : 1 ≤ loggers
  pub most_loggers : loggers ≤ 8
  pub some_numbers : 1 ≤ numbers
  pub most_numbers : numbers ≤ 64
  pub some_entries : 8 ≤ entries
  pub most_entries : entries ≤ 64
  pub some_pages : 4 ≤ pages
  pub most_pages : pages ≤ 4096
  pub even_pages : pages % 2 ≡ 0

-- each number's own range
abbrev pub AreLoggers : ℕ → Type 0
AreLoggers n = (1 ≤ n) × (n ≤ 8)

abbrev pub AreNumbers : ℕ → Type 0
AreNumbers n = (1 ≤ n) × (n ≤ 64)

abbrev pub AreEntries : ℕ → Type 0
AreEntries n = (8 ≤ n) × (n ≤ 64)

abbrev pub ArePages : ℕ → Type 0
ArePages n = (4 ≤ n) × (n ≤ 4096) × (n % 2 ≡ 0)

-- Of these four numbers the named one is the first that is out of range, and this is its value.
abbrev pub IsFirstBad : ℕ → ℕ → ℕ → ℕ → ShapeNumber → ℕ → Type 0
IsFirstBad loggers numbers entries pages Loggers given = ¬ AreLoggers loggers × (given ≡ loggers)
IsFirstBad loggers numbers entries pages Numbers given = AreLoggers loggers × ¬ AreNumbers numbers × (given ≡ numbers)
IsFirstBad loggers numbers entries pages Entries given = AreLoggers loggers × AreNumbers numbers × ¬ AreEntries entries × (given ≡ entries)
IsFirstBad loggers numbers entries pages Pages given = AreLoggers loggers × AreNumbers numbers × AreEntries entries × ¬ ArePages pages × (given ≡ pages)
IsFirstBad loggers numbers entries pages MediaLength given = ⊥

-- the place of a number among those that are tested
abbrev pub number_of : ShapeNumber → ℕ
number_of Loggers = 1
number_of Numbers = 2
number_of Entries = 3
number_of Pages = 4
number_of MediaLength = 5
