-- What contracts see of a feed, of a receipt and of a reader.
use Rattle.std.specs.Prelude.{◌≡◌, List, [], ◌∷◌}
use Rattle.left_right.specs.Sides.{view}
use Rattle.logbook.specs.Pages.{Book}
use Rattle.history.specs.Writes.{Table}
use Rattle.snapshot_readers.specs.Batches.{Batch}
use Rattle.snapshot_readers.specs.Shown.{list_of, base_known, lists_known}
use Rattle.snapshot_readers.specs.declared.feed.Feed.{Feed}
use Rattle.snapshot_readers.specs.declared.feed.Receipt.{Receipt}
use Rattle.snapshot_readers.specs.declared.reader.Reader.{Reader}

-- the batches after which readers take the records now
abbrev pub published : Feed → List Batch
published feed = list_of feed.writer.desk.shown.value

-- all that it has published, one list after another, the empty one of the opening first
abbrev pub lists_published : Feed → List (List Batch)
lists_published feed = lists_known (view feed.writer.desk.place)

-- what was fed, published or pending
abbrev pub fed : Feed → List Batch
fed feed = feed.fed.seen.log

-- what each later receipt begins with
abbrev pub heard : Feed → List Batch
heard feed = feed.heard.seen.log

-- which list it is, one for each `open_readers`
abbrev pub fed_book : Feed → Book
fed_book feed = feed.fed.seen.book

-- all that was published when the receipt was given
abbrev pub told : Receipt → List Batch
told receipt = receipt.told.seen.log

abbrev pub told_book : Receipt → Book
told_book receipt = receipt.told.seen.book

-- all that a reader saw or learnt; after a get, the list after which it read
abbrev pub read : Reader → List Batch
read reader = reader.read.seen.log

abbrev pub read_book : Reader → Book
read_book reader = reader.read.seen.book

-- The lists that a reader knows to have been published, one after another: the first ones of those that its feed has published, by the rule of
-- what is published (`AllStand`).
abbrev pub lists_read : Reader → List (List Batch)
lists_read reader = lists_known (view reader.inner.place)

-- the records at the start of the list
abbrev pub read_base : Reader → Table
read_base reader = base_known (view reader.inner.place)

-- a reader that knows of the empty list of the opening alone
abbrev pub HasReadNone : Reader → Type 0
HasReadNone reader = lists_read reader ≡ [] ∷ []

-- a reader that saw nothing, of this list and these records
abbrev pub IsFresh : Book → Table → Reader → Type 0
IsFresh book base reader = (read reader ≡ []) × (read_book reader ≡ book) × (read_base reader ≡ base)
