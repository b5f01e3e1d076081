-- Usual ways to write what is asked for.
use Rattle.std.specs.Prelude.{ℕ, ◌≡◌, ◌<◌, ◌≤◌, ◌^◌, [], ◌∷◌, ◌++◌, List, codes}
use Rattle.std.specs.Fmt.{decimal}
use Rattle.clap.specs.Words.{Text}
use Rattle.command_words.specs.declared.words.CallersNumbers.{CallersNumbers}
use Rattle.command_words.specs.declared.words.DrillNumbers.{DrillNumbers}
use Rattle.command_words.specs.declared.words.FormatNumbers.{FormatNumbers}
use Rattle.command_words.specs.declared.words.Writing.TheVariants.{AtOnce}

-- `run` with its option
abbrev pub late_words : ℕ → List Text
late_words depth = codes "run" ∷ codes "--late" ∷ decimal depth ∷ []

-- `format` with each of its options as two words
abbrev pub format_words : FormatNumbers → List Text
format_words numbers = codes "format" ∷ codes "--loggers" ∷ decimal numbers.loggers ∷ codes "--numbers" ∷ decimal numbers.numbers
    ∷ codes "--entries" ∷ decimal numbers.entries ∷ codes "--pages" ∷ decimal numbers.pages ∷ []

-- the same with each option as one word, in another order
abbrev pub joined_words : FormatNumbers → List Text
joined_words numbers = codes "format" ∷ (codes "--pages=" ++ decimal numbers.pages) ∷ (codes "--numbers=" ++ decimal numbers.numbers)
    ∷ (codes "--loggers=" ++ decimal numbers.loggers) ∷ (codes "--entries=" ++ decimal numbers.entries) ∷ []

-- the numbers fit their type
pub record AreSmall (numbers : FormatNumbers) : Type 0 where
  pub small_loggers : numbers.loggers < 2 ^ 16
  pub small_numbers : numbers.numbers < 2 ^ 16
  pub small_entries : numbers.entries < 2 ^ 16
  pub small_pages : numbers.pages < 2 ^ 16

-- `drill` with its two values
abbrev pub drill_words : DrillNumbers → List Text
drill_words numbers = codes "drill" ∷ decimal numbers.seed ∷ decimal numbers.count ∷ []

-- the values are within their ranges, and data is written at once
pub record AreOfDrill (numbers : DrillNumbers) : Type 0 where
  pub seed : numbers.seed ≤ 2147483647
  pub some : 1 ≤ numbers.count
  pub few : numbers.count ≤ 100000
  pub writing : numbers.writing ≡ AtOnce

-- `callers` with its value only
abbrev pub callers_words : CallersNumbers → List Text
callers_words numbers = codes "callers" ∷ decimal numbers.callers ∷ []

-- the same followed by its option
abbrev pub tries_words : CallersNumbers → List Text
tries_words numbers = codes "callers" ∷ decimal numbers.callers ∷ codes "--tries" ∷ decimal numbers.tries ∷ []

-- `callers` with its value followed by the option of readers
abbrev pub readers_words : CallersNumbers → List Text
readers_words numbers = codes "callers" ∷ decimal numbers.callers ∷ codes "--readers" ∷ decimal numbers.readers ∷ []

-- the numbers are within their ranges, data is written at once, and there are no readers
pub record AreOfCallers (numbers : CallersNumbers) : Type 0 where
  pub some : 1 ≤ numbers.callers
  pub few : numbers.callers ≤ 32
  pub once : 1 ≤ numbers.tries
  pub bounded : numbers.tries ≤ 1000000
  pub writing : numbers.writing ≡ AtOnce
  pub readers : numbers.readers ≡ 0

-- the numbers are within their ranges, data is written at once, and there are readers
pub record AreOfReaders (numbers : CallersNumbers) : Type 0 where
  pub some : 1 ≤ numbers.callers
  pub few : numbers.callers ≤ 31
  pub tries : numbers.tries ≡ 100
  pub writing : numbers.writing ≡ AtOnce
  pub some_readers : 1 ≤ numbers.readers
  pub few_readers : numbers.readers ≤ 8
