-- The subcommands that have words or options, by their names.
use Rattle.std.specs.Prelude.{[], ◌∷◌, map, codes}
use Rattle.clap.specs.Words.{Shape, new_rule}
use Rattle.command_words.specs.CommandLine.{option_of, flag_of, subcommand}

abbrev pub run_shape : Shape
run_shape = subcommand (codes "run") (option_of (codes "late") ∷ flag_of (codes "frames") ∷ [])

abbrev pub eaw_shape : Shape
eaw_shape = subcommand (codes "eaw") (flag_of (codes "frames") ∷ [])

abbrev pub format_shape : Shape
format_shape = subcommand (codes "format") (map option_of (codes "loggers" ∷ codes "numbers" ∷ codes "entries" ∷ codes "pages" ∷ []))

abbrev pub drill_shape : Shape
drill_shape = subcommand (codes "drill") (new_rule (codes "seed") ∷ new_rule (codes "count") ∷ option_of (codes "late") ∷ [])

abbrev pub callers_shape : Shape
callers_shape = subcommand (codes "callers") (new_rule (codes "callers") ∷ option_of (codes "tries") ∷ option_of (codes "late") ∷ option_of (codes "readers") ∷ [])

abbrev pub make_shape : Shape
make_shape = subcommand (codes "make") (new_rule (codes "name") ∷ [])
