use Rattle.std.specs.Array.Iter.{array_into_iter_items}
use Rattle.clap.specs.Words.{app_of}
use Rattle.command_words.specs.CommandLine.{command_line}
use Rattle.command_words.proofs.InTurn.{IsWholeWith}
use Rattle.command_words.proofs.command_line.command_line.Given as goal

abbrev pub invariant-loop-command : goal.invariant-loop-command
invariant-loop-command l = IsWholeWith command_line (array_into_iter_items l.command-iterator) (app_of l.line)
