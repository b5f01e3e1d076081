use Rattle.std.proofs.Common.{◌≡◌, ℕ}
use Rattle.snapshot_readers.specs.Feeds.{fed_book}
use Rattle.reader_work.specs.News.{IsBehind, IsOnlooker}
use Rattle.reader_work.proofs.Publishing.{IsInVain}
use Rattle.reader_work.proofs.news.publish.Given as goal

-- a try without a turn feeds nothing
abbrev pub invariant-loop : goal.invariant-loop
invariant-loop g l = record {
  table : l.pass.table ≡ l.fn.pass.table;
  list : fed_book l.feed ≡ fed_book l.fn.feed;
  behind : IsBehind l.feed l.pass.known;
  onlooker : (number : ℕ) → IsOnlooker number l.fn.pass.known → IsOnlooker number l.pass.known;
  waited : IsInVain l.fn.pass.known l.pass.known;
}
