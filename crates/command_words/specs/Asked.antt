-- What words ask for.
use Rattle.std.specs.Prelude.{ℕ, ◌≡◌, ◌≤◌, ◌<◌, List, [], Option, Some, None, Bool, false, codes}
use Rattle.std.specs.Option.{option_map, unwrap_or}
use Rattle.std.specs.Fmt.{decimal}
use Rattle.std.specs.Str.{bytes_eq}
use Rattle.clap.specs.Words.{Text, Row, fault_of, subcommand_of, first_of}
use Rattle.record_slots.specs.Text.{IsName}
use Rattle.command_words.specs.CommandLine.{command_line}
use Rattle.command_words.specs.declared.words.FormatNumbers.{FormatNumbers}
use Rattle.command_words.specs.declared.words.Writing.{Writing}
use Rattle.command_words.specs.declared.words.Writing.TheVariants.{AtOnce, Late}
use Rattle.command_words.specs.declared.words.CallersNumbers.{CallersNumbers}
use Rattle.command_words.specs.declared.words.Words.{Words}
use Rattle.command_words.specs.declared.words.Words.TheVariants.{Run, Callers, Eaw, Dump, Drill, Format, Make, Purge, Follow}

-- the number from `least` to `most` that a value spells in decimal; if the value is missing, the default, if there is one
abbrev pub IsNumber : ℕ → ℕ → Option ℕ → Option Text → ℕ → Type 0
IsNumber least most default None number = default ≡ Some number
IsNumber least most default (Some value) number = (least ≤ number) × (number ≤ most) × (value ≡ decimal number)

-- what the value of the option `late` says of when data is written: late if it spells a number from 1 to 64, at once if it is missing
abbrev pub GivesWriting : Option Text → Writing → Type 0
GivesWriting first AtOnce = first ≡ None
GivesWriting first (Late depth) = IsNumber 1 64 None first depth

-- whether an option without a value is given: that it is, is the value that is told of it
abbrev pub is_given : Option Text → Bool
is_given first = unwrap_or (option_map (λ value. bytes_eq value (codes "true")) first) false

-- the numbers that the options of `format` give, and those of the default array for the options that are missing
pub record GivesNumbers (options : List Row) (given : FormatNumbers) : Type 0 where
  pub loggers : IsNumber 0 65535 (Some 4) (first_of (codes "loggers") options) given.loggers
  pub numbers : IsNumber 0 65535 (Some 8) (first_of (codes "numbers") options) given.numbers
  pub entries : IsNumber 0 65535 (Some 16) (first_of (codes "entries") options) given.entries
  pub pages : IsNumber 0 65535 (Some 64) (first_of (codes "pages") options) given.pages

-- what the value and the options of `callers` give; beside readers there are at most 31 callers
pub record GivesCallers (options : List Row) (given : CallersNumbers) : Type 0 where
  pub callers : IsNumber 1 32 None (first_of (codes "callers") options) given.callers
  pub tries : IsNumber 1 1000000 (Some 100) (first_of (codes "tries") options) given.tries
  pub writing : GivesWriting (first_of (codes "late") options) given.writing
  pub readers : IsNumber 1 8 (Some 0) (first_of (codes "readers") options) given.readers
  pub room : 0 < given.readers → given.callers ≤ 31

-- the subcommand with this name and these options asks for this
abbrev pub SubcommandAsks : Text → List Row → Words → Type 0
SubcommandAsks name options (Run given) = (name ≡ codes "run") × GivesWriting (first_of (codes "late") options) given.writing × (given.frames ≡ is_given (first_of (codes "frames") options))
SubcommandAsks name options (Callers numbers) = (name ≡ codes "callers") × GivesCallers options numbers
SubcommandAsks name options (Eaw given) = (name ≡ codes "eaw") × (given.frames ≡ is_given (first_of (codes "frames") options))
SubcommandAsks name options Dump = name ≡ codes "dump"
SubcommandAsks name options (Drill numbers) = (name ≡ codes "drill") × IsNumber 0 2147483647 None (first_of (codes "seed") options) numbers.seed
    × IsNumber 1 100000 None (first_of (codes "count") options) numbers.count × GivesWriting (first_of (codes "late") options) numbers.writing
SubcommandAsks name options (Format numbers) = (name ≡ codes "format") × GivesNumbers options numbers
SubcommandAsks name options (Make table) = (name ≡ codes "make") × (first_of (codes "name") options ≡ Some table) × IsName table
SubcommandAsks name options Purge = name ≡ codes "purge"
SubcommandAsks name options Follow = name ≡ codes "follow"

-- clap accepts the words, and the subcommand that it finds in them asks for this
abbrev pub AsksFor : List Text → Words → Type 0
AsksFor words asked = (fault_of command_line words ≡ [])
    × (name : Text) × (options : List Row) × (subcommand_of command_line words ≡ Some (name, options)) × SubcommandAsks name options asked

abbrev pub AskForNothing : List Text → Type 0
AskForNothing words = (asked : Words) → AsksFor words asked → ⊥
