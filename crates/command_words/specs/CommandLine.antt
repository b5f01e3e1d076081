-- The command line of the program after the image, in clap's terms.
use Rattle.std.specs.Prelude.{List, [], ◌∷◌, Some, true, false, map, codes}
use Rattle.clap.specs.Words.{Text, Rule, Shape, App, new_app, new_rule}
use Rattle.clap.specs.Simple.{new_shape}
use Rattle.clap.specs.declared.builder.action.ArgAction.TheVariants.{SetTrue}

-- an option with one value: `--name value`, or `--name=value`
abbrev pub option_of : Text → Rule
option_of name = record (new_rule name) { long = Some name }

-- an option without a value: `--name`
abbrev pub flag_of : Text → Rule
flag_of name = record (option_of name) { action = Some SetTrue }

-- a subcommand with these positional words and options
abbrev pub subcommand : Text → List Rule → Shape
subcommand name rules = record (new_shape name) { rules = rules }

-- the program before it has commands
abbrev pub no_commands : App
no_commands = let app = new_app (codes "mars") in record app { top = record app.top { no_binary_name = true; disable_help_flag = true; disable_help_subcommand = true; subcommand_required = true } }

-- the subcommand is one of nine, and there is no help
abbrev pub command_line : App
command_line = record {
  top = record (new_shape (codes "mars")) { is_leaf = false; no_binary_name = true; subcommand_required = true; disable_help_flag = true; disable_help_subcommand = true };
  subs = subcommand (codes "run") (option_of (codes "late") ∷ flag_of (codes "frames") ∷ [])
      ∷ subcommand (codes "eaw") (flag_of (codes "frames") ∷ [])
      ∷ subcommand (codes "dump") []
      ∷ subcommand (codes "format") (map option_of (codes "loggers" ∷ codes "numbers" ∷ codes "entries" ∷ codes "pages" ∷ []))
      ∷ subcommand (codes "drill") (new_rule (codes "seed") ∷ new_rule (codes "count") ∷ option_of (codes "late") ∷ [])
      ∷ subcommand (codes "callers") (new_rule (codes "callers") ∷ option_of (codes "tries") ∷ option_of (codes "late") ∷ option_of (codes "readers") ∷ [])
      ∷ subcommand (codes "make") (new_rule (codes "name") ∷ [])
      ∷ subcommand (codes "purge") []
      ∷ subcommand (codes "follow") []
      ∷ [];
}
