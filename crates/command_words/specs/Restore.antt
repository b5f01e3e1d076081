-- The words of the program that restores.
use Rattle.std.specs.Prelude.{ℕ, ◌≡◌, ◌≤◌, List, [], ◌∷◌, Option, Some, None, Bool, true, codes}
use Rattle.std.specs.Fmt.{decimal}
use Rattle.clap.specs.Words.{Text, Row, Rule, App, new_app, new_rule, fault_of, matches_of, first_of}
use Rattle.command_words.specs.CommandLine.{option_of, flag_of}
use Rattle.command_words.specs.Asked.{IsNumber, is_given}
use Rattle.command_words.specs.declared.restore_numbers.RestoreNumbers.{RestoreNumbers}

-- the program before it has words
abbrev pub bare_line : App
bare_line = let app = new_app (codes "restore") in record app { top = record app.top { no_binary_name = true; disable_help_flag = true } }

-- one word, which names the image, and options; there is no help
abbrev pub restore_rules : List Rule
restore_rules = new_rule (codes "image") ∷ option_of (codes "loggers") ∷ option_of (codes "numbers") ∷ option_of (codes "entries") ∷ option_of (codes "pages") ∷ option_of (codes "fill") ∷ flag_of (codes "replace") ∷ []

abbrev pub restore_line : App
restore_line = record bare_line { top = record bare_line.top { rules = restore_rules } }

-- the number of 16 bits that a value spells in decimal; none if the value is missing
abbrev pub IsSaid : Option Text → Option ℕ → Type 0
IsSaid None None = Unit {0}
IsSaid (Some value) (Some n) = (n ≤ 65535) × (value ≡ decimal n)
IsSaid _ _ = ⊥

-- The numbers that the options give. Loggers and pages may be left open; the others have those of the default array, and 24 pairs in a page.
pub record GivesNumbersTo (options : List Row) (given : RestoreNumbers) : Type 0 where
  pub loggers : IsSaid (first_of (codes "loggers") options) given.loggers
  pub numbers : IsNumber 0 65535 (Some 8) (first_of (codes "numbers") options) given.numbers
  pub entries : IsNumber 0 65535 (Some 16) (first_of (codes "entries") options) given.entries
  pub pages : IsSaid (first_of (codes "pages") options) given.pages
  pub fill : IsNumber 15 30 (Some 24) (first_of (codes "fill") options) given.fill

-- an image, these numbers, and whether an array may be replaced
pub record GivesRestore (options : List Row) (image : Text) (given : RestoreNumbers) (replace : Bool) : Type 0 where
  pub image_is : first_of (codes "image") options ≡ Some image
  pub numbers : GivesNumbersTo options given
  pub replaces : replace ≡ is_given (first_of (codes "replace") options)

-- clap accepts the words, and what it finds in them says this
abbrev pub AsksToRestore : List Text → Text → RestoreNumbers → Bool → Type 0
AsksToRestore words image numbers replace = (fault_of restore_line words ≡ []) × GivesRestore (matches_of restore_line words) image numbers replace
