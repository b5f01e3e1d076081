use Rattle.std.proofs.Common.{◌≡◌, ◌++◌, length, take}
use Rattle.std.specs.Vec.{vec_capacity}
use Rattle.snapshot_readers.specs.Batches.{joined}
use Rattle.snapshot_readers.specs.Feeds.{read, read_book, read_base}
use Rattle.history.specs.Answers.{AreAnswers}
use Rattle.reader_work.specs.Reading.{read_places}
use Rattle.reader_work.proofs.reading.read_keys.Given as goal

-- the keys so far have their answers
abbrev pub invariant-loop-nth : goal.invariant-loop-nth
invariant-loop-nth g l = record {
  number : l.worker.number ≡ l.fn.worker.number;
  told : l.worker.told.said ≡ l.fn.worker.told.said ++ read_places l.fn.worker.number 1 (take l.nth l.fn.worker.keys);
  keys : l.worker.keys ≡ l.fn.worker.keys;
  names : l.worker.names ≡ l.fn.worker.names;
  room : vec_capacity l.worker.answers ≡ vec_capacity l.fn.worker.answers;
  count : length l.worker.answers.items ≡ l.nth;
  book : read_book l.worker.reader ≡ read_book l.fn.worker.reader;
  base : read_base l.worker.reader ≡ read_base l.fn.worker.reader;
  answers : AreAnswers l.fn.worker.names (read_base l.fn.worker.reader) (joined (read l.worker.reader)) 0 (take l.nth l.fn.worker.keys) l.worker.answers.items;
}
