use Rattle.std.proofs.Common.{◌≡◌, ◌++◌, List, All, length}
use Rattle.std.specs.Vec.{vec_capacity}
use mathlib.Core.List.{IsPrefix}
use Rattle.snapshot_readers.specs.Feeds.{fed, fed_book, heard, read, read_book}
use Rattle.reader_work.specs.Readership.{answers_of}
use Rattle.reader_work.specs.declared.reading.ReadWorker.{ReadWorker}
use Rattle.reader_work.proofs.beside.tie.Given as goal

-- the first readers were learnt, and their answers gathered
abbrev pub invariant-loop-worker : goal.invariant-loop-worker
invariant-loop-worker g l = record {
  learnt : (first : List ReadWorker) × (first ++ l.worker-iterator.rest.items ≡ l.fn.readers.items) × (l.told.items ≡ answers_of first)
      × All (λ (worker : ReadWorker). IsPrefix (read worker.reader) (heard l.feed)) first;
  books : All (λ (worker : ReadWorker). read_book worker.reader ≡ fed_book l.feed) l.worker-iterator.rest.items;
  fed_is : fed l.feed ≡ fed l.fn.feed;
  room : vec_capacity l.told ≡ length l.fn.readers.items;
}
