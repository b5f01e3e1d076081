use Rattle.command_words.proofs.words.read_numbers.Goals as goal

pub returns : goal.returns
returns c =
    let default = c.default-default.ensures in
    record {
      loggers = rw (c.from.ensures, default.loggers_are) at c.in_ok-loggers.ensures;
      numbers = rw (c.from-2.ensures, default.numbers_are) at c.in_ok-numbers.ensures;
      entries = rw default.entries_are at c.in_ok-entries.ensures;
      pages = rw default.pages_are at c.in_ok-pages.ensures;
    }
