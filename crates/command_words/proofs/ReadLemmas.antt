-- What the command line answers to words.
use Rattle.std.proofs.Common.{◌≡◌, List, [], true, refl}
use Rattle.clap.specs.Words.{App, Text, HasMatchesOf, subcommand_of, subcommand_rows_of, is_simple, is_simple_and_free, fault_of}
use Rattle.clap.specs.declared.parser.ArgMatches.{ArgMatches}
use Rattle.command_words.specs.CommandLine.{command_line}
use Rattle.command_words.specs.Asked.{AskForNothing}

simple : is_simple command_line ≡ true
simple = refl

simple_and_free : is_simple_and_free command_line ≡ true
simple_and_free = refl

-- the words are accepted, and the subcommand in them is the one that was found
pub accepted : (app : App) (words : List Text) (m : ArgMatches) → app ≡ command_line → HasMatchesOf app words m → (is_simple_and_free app ≡ true → fault_of app words ≡ [])
    → (fault_of command_line words ≡ []) × (subcommand_rows_of m ≡ subcommand_of command_line words)
accepted app words m is matches faults =
    let at_line : HasMatchesOf command_line words m = rw is at matches in
    let none : is_simple_and_free command_line ≡ true → fault_of command_line words ≡ [] = rw is at faults in
    (none simple_and_free, (at_line simple).1)

-- the words are refused
pub refused : (app : App) (words : List Text) → app ≡ command_line → (is_simple_and_free app ≡ true → fault_of app words ≡ [] → ⊥) → AskForNothing words
refused app words is faults asked asks =
    let at_line : is_simple_and_free command_line ≡ true → fault_of command_line words ≡ [] → ⊥ = rw is at faults in
    at_line simple_and_free asks.0
