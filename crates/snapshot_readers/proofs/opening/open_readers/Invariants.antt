use Rattle.std.proofs.Common.{◌≡◌, length}
use Rattle.std.specs.Prelude.{All}
use Rattle.left_right.specs.Sides.{view}
use Rattle.history.specs.Rows.{table_of}
use Rattle.snapshot_readers.specs.Feeds.{IsFresh, HasReadNone}
use Rattle.snapshot_readers.proofs.opening.open_readers.Given as goal

abbrev pub invariant-loop : goal.invariant-loop
invariant-loop g l = record {
  knows : view l.writer.desk.place ≡ view l.initial.writer.desk.place;
  shown : l.writer.desk.shown ≡ l.initial.writer.desk.shown;
  log : l.writer.log ≡ l.initial.writer.log;
  behind : l.writer.behind ≡ l.initial.writer.behind;
  count : length l.opened ≡ l.counter;
  fresh : All (IsFresh l.list.seen.book (table_of l.base)) l.opened;
  lists : All HasReadNone l.opened;
}
