use Rattle.snapshot_readers.specs.Feeds.{fed_book}
use Rattle.reader_work.proofs.beside.run_beside.Given as goal

-- the feed is of this core and of the list of its readers, and reads by the last pass
abbrev pub ghosts-all_work : goal.ghosts-all_work
ghosts-all_work g a = record { table = a.mars.now.table; book = fed_book a.feed.now; number = a.pass.known.number }
