-- What is published: what a change does to it, and its rule.
use Rattle.std.specs.Prelude.{ℕ, ◌≡◌, List, [], ◌∷◌, ◌++◌, length, drop, fold, Option, None, Some}
use mathlib.Core.List.{IsPrefix}
use mathlib.Core.Option.{some}
use lib.ListN.{get_elem?}
use Rattle.std.specs.FinMap.{entries, empty}
use Rattle.logbook.specs.Pages.{Book}
use Rattle.history.specs.Writes.{Table, all_written}
use Rattle.snapshot_readers.specs.Batches.{Batch, IsLast, records_after}
use Rattle.snapshot_readers.specs.declared.prefix.Prefix.{Prefix}
use Rattle.snapshot_readers.specs.declared.snapshot.Snapshot.{Snapshot}
use Rattle.snapshot_readers.specs.declared.snapshot.Change.{Change}
use Rattle.snapshot_readers.specs.declared.snapshot.Change.TheVariants.{Write, Tell}
use Rattle.snapshot_readers.specs.declared.snapshot.Known.{Known}

abbrev pub changed : Snapshot → Change → Snapshot
changed shown (Write writes) = record shown { records = all_written shown.records writes.items }
changed shown (Tell list count) = record shown { list = list; count = count }

-- the list that it stands for
abbrev pub list_of : Snapshot → List Batch
list_of shown = shown.list.seen.log

-- what a seat knows at the start of a list, which was published
abbrev pub known_of : Snapshot → Known
known_of shown = record { seen = shown.list.seen; base = shown.records; lists = list_of shown ∷ [] }

-- the list that a seat knows
abbrev pub book_known : Option Known → Option Book
book_known None = None
book_known (Some known) = Some known.seen.book

-- the records at the start of the list that a seat knows
abbrev pub base_known : Option Known → Table
base_known None = empty
base_known (Some known) = known.base

-- all lists that a seat knows to have been published, in their order
abbrev pub lists_known : Option Known → List (List Batch)
lists_known None = []
lists_known (Some known) = known.lists

-- It is of the list that the seat knows, and its records are those after its list.
abbrev pub Tied : Option Known → Snapshot → Type 0
Tied v shown = (book : Book) → book_known v ≡ Some book → (shown.list.seen.book ≡ book) × (shown.records ≡ records_after (base_known v) (list_of shown))

-- What is shown stands on the last list that was published, after so many of them, and fits what each seat knows, which are the first of them.
pub record AllStand (shown : Snapshot) (views : List (Option Known)) : Type 0 where
  pub lists : List (List Batch)
  pub last : IsLast (list_of shown) lists
  pub count : length lists ≡ shown.count
  pub each : (seat : ℕ) (v : Option Known) → get_elem? views seat ≡ some v → Tied v shown × IsPrefix (lists_known v) lists

-- What a seat that looks comes to know: what is shown fits it, and stands on the last list that it then knows.
pub record IsSeen (v : Option Known) (shown : Snapshot) (w : Option Known) : Type 0 where
  pub tied : Tied v shown
  pub book : book_known w ≡ book_known v
  pub base : base_known w ≡ base_known v
  pub more : IsPrefix (lists_known v) (lists_known w)
  pub last : (book : Book) → book_known v ≡ Some book → IsLast (list_of shown) (lists_known w)

-- what the writer's seat comes to know: one list more, which is shown now
pub record IsTold (v : Option Known) (shown : Snapshot) (w : Option Known) : Type 0 where
  pub book : book_known w ≡ book_known v
  pub lists : (book : Book) → book_known v ≡ Some book → lists_known w ≡ lists_known v ++ list_of shown ∷ []

-- What waits, done to what is shown, gives the records after all of the list.
abbrev pub Leads : Snapshot → List Change → Prefix → Type 0
Leads shown changes list = (shown.list.seen.book ≡ list.seen.book)
    × (list_of shown ++ drop (length (list_of shown)) list.seen.log ≡ list.seen.log)
    × (entries (fold changed shown changes).records ≡ entries (records_after shown.records (drop (length (list_of shown)) list.seen.log)))
