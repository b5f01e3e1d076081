use Rattle.std.proofs.Common.{◌≡◌, ◌+◌, ◌++◌, All, length}
use Rattle.std.specs.Vec.{vec_capacity}
use Rattle.logbook.specs.Pages.{Book}
use Rattle.history.specs.Writes.{Table}
use Rattle.snapshot_readers.specs.Feeds.{IsFresh}
use Rattle.reader_work.specs.Readership.{keys_of, IsReady}
use Rattle.reader_work.proofs.readership.hire_readers.Given as goal

-- the workers so far, and the readers for the keys that are left
abbrev pub invariant-loop-keys : goal.invariant-loop-keys
invariant-loop-keys l = record {
  keys : keys_of l.workers.items ++ l.keys-iterator.rest.items ≡ l.fn.asks.items;
  count : length l.readers ≡ length l.keys-iterator.rest.items;
  room : vec_capacity l.workers ≡ length l.fn.asks.items;
  many : length l.workers.items + length l.keys-iterator.rest.items ≡ length l.fn.asks.items;
  fresh : (book : Book) (base : Table) → All (IsFresh book base) l.fn.readers → All (IsFresh book base) l.readers;
  ready : (book : Book) (base : Table) → All (IsFresh book base) l.fn.readers → All (IsReady l.names book base) l.workers.items;
}
