-- Words ask for at most one thing.
use Rattle.std.proofs.Common.{◌≡◌, List}
use Rattle.clap.specs.Words.{Text, subcommand_of}
use Rattle.command_words.specs.CommandLine.{command_line}
use Rattle.command_words.specs.Asked.{AsksFor, SubcommandAsks}
use Rattle.command_words.specs.declared.words.Words.{Words}
use Rattle.command_words.proofs.AskedLemmas.{one_met, one_asked}

pub one_command : (words : List Text) (asked other : Words) → AsksFor words asked → AsksFor words other → asked ≡ other
one_command words asked other asks also =
    let same = one_met (subcommand_of command_line words) also.1 asks.1 also.2 asks.2 also.3 asks.3 in
    let says : SubcommandAsks also.1 also.2 asked = rw (same.0, same.1) at asks.4 in
    one_asked also.1 also.2 asked other says also.4
