-- The readers of a script before their work.
use Rattle.std.specs.Prelude.{ℕ, zero, suc, ◌≡◌, ◌+◌, ◌<◌, List, [], All, map, length, Option, None, Some}
use Rattle.logbook.specs.Pages.{Book}
use Rattle.history.specs.declared.key.Key.{Key}
use Rattle.history.specs.Writes.{Table}
use Rattle.caller_plans.specs.declared.plan.Plan.{Plan}
use Rattle.caller_work.specs.declared.crew.Job.{Job}
use Rattle.snapshot_readers.specs.Feeds.{fed, fed_book, IsFresh}
use Rattle.reader_work.specs.Reading.{CanRead}
use Rattle.history.specs.declared.answer.Answer.{Answer}
use Rattle.reader_work.specs.declared.reading.ReadWorker.{ReadWorker}
use Rattle.reader_work.specs.declared.readership.Readership.{Readership}

-- the keys that each reader asks for
abbrev pub keys_of : List ReadWorker → List (List Key)
keys_of workers = map (λ (worker : ReadWorker). worker.keys) workers

-- what each reader was answered
abbrev pub answers_of : List ReadWorker → List (List Answer)
answers_of workers = map (λ (worker : ReadWorker). worker.answers.items) workers

-- what each caller plans
abbrev pub plans_of : List Job → List (List Plan)
plans_of jobs = map (λ (job : Job). job.plans) jobs

-- a reader that has seen nothing of this list and these records, knows the names of the tables, and can ask
pub record IsReady (names : List (List ℕ)) (book : Book) (base : Table) (worker : ReadWorker) : Type 0 where
  pub fresh : IsFresh book base worker.reader
  pub named : worker.names ≡ names
  pub can : CanRead worker

-- nothing was fed, and there are readers over these records of tables of these names, each of them ready
pub record IsOpen (names : List (List ℕ)) (base : Table) (readership : Readership) : Type 0 where
  pub none : fed readership.feed ≡ []
  pub ready : All (IsReady names (fed_book readership.feed) base) readership.workers.items
  pub some : 0 < length readership.workers.items

-- so it is, if there are readers
abbrev pub IsOpenWith : List (List ℕ) → Table → Option Readership → Type 0
IsOpenWith names base None = Unit {0}
IsOpenWith names base (Some readership) = IsOpen names base readership

-- what is asked for, nothing without readers
abbrev pub asks_with : Option Readership → List (List Key)
asks_with None = []
asks_with (Some readership) = keys_of readership.workers.items

-- how many passes so many callers and readers need: all readers together have one
abbrev pub passes_for : (callers readers : ℕ) → ℕ
passes_for callers zero = callers
passes_for callers (suc readers) = callers + 1
