-- Which page the calls below name as damaged.
use Rattle.std.proofs.Common.{◌≡◌, ℕ, ◌<◌, Bool, inl, inr, List, Result, Ok, Err, refl}
use Rattle.std.specs.Prelude.{Option, IfSome}
use Rattle.array_shape.specs.Places.{page_count}
use Rattle.array_shape.specs.declared.shape.Shape.{Shape}
use Rattle.eaw_face.specs.Command.{Command}
use Rattle.eaw_face.specs.StoreView.{StoreView}
use Rattle.index_pages.specs.Acts.{Acts}
use Rattle.page_store.specs.Command.{PageCommand}
use Rattle.page_store.specs.Course.{Reading}
use Rattle.page_store.specs.Does.{Does}
use Rattle.page_store.specs.Faults.{as_check}
use Rattle.page_store.specs.Follows.{Walks}
use Rattle.page_store.specs.Shown.{PagesView}
use Rattle.page_store.specs.Works.{blamed, blamed_index}
use Rattle.page_store.specs.declared.fault.PageFault.{PageFault}
use Rattle.page_store.specs.declared.fault.PageFault.TheVariants.{LogFull, SavesFull, Media, Dead, Damaged}
use Rattle.page_store.specs.declared.index_fault.IndexFault.{IndexFault}
use Rattle.page_store.specs.declared.index_fault.IndexFault.TheVariants as insert
use Rattle.page_store.specs.Access.{Access}
use Rattle.page_store.specs.Index.{Index}
use Rattle.page_store.specs.Tested.{Tests}
use Rattle.page_store.specs.declared.index_fault.CheckFault.{CheckFault}
use Rattle.page_store.specs.declared.index_fault.CheckFault.TheVariants as check
use Rattle.record_table.specs.Attached.{BlamesTested}
use Rattle.record_table.specs.Blames.{BlamesOne, BlamesFront, BlamesFrontHere, BlamesFrontMade}
use Rattle.record_table.specs.Faults.{as_table, inserted_as, told_as}
use Rattle.record_table.specs.Making.{as_make}
use Rattle.record_table.specs.declared.fault.TableFault.{TableFault}
use Rattle.record_table.proofs.Hearing.{last_there}

-- a look by an index
module _ (T U : Type 0) {goes : List Reading → Option ℕ} {most : ℕ} {Ends : T → List Reading → Type 0} (tells : Bool) (calls calls_now : Command → ℕ) (old new : StoreView) where
  pub found_blames : (fault : PageFault) → (let r : Result T PageFault = Err fault in Walks tells calls calls_now goes most Ends old new r) → (let r : Result U TableFault = Err (as_table fault) in BlamesOne old.shape r)
  found_blames Media walks = tt
  found_blames Dead walks = tt
  found_blames SavesFull walks = tt
  found_blames (LogFull g h n) walks = tt
  found_blames (Damaged bad) walks = last_there (page_count old.shape) bad walks.read walks.reads.there walks.blames

-- an insertion
pub inserted_blames : (T U : Type 0) (shape : Shape) (Met : ℕ → Type 0) (fault : IndexFault) → (let r : Result T IndexFault = Err fault in IfSome (blamed_index r) (λ page. (page < page_count shape) × Met page))
    → (let r : Result U TableFault = Err (inserted_as fault) in BlamesOne shape r)
inserted_blames T U shape Met insert.Media blames = tt
inserted_blames T U shape Met insert.Dead blames = tt
inserted_blames T U shape Met (insert.SlotsFull n) blames = tt
inserted_blames T U shape Met (insert.PagesFull n) blames = tt
inserted_blames T U shape Met (insert.LogFull g h n) blames = tt
inserted_blames T U shape Met (insert.Damaged bad) blames = blames.0

-- a removal
pub removed_blames : {T : Type 0} (shape : Shape) (Met : ℕ → Type 0) (r : Result T PageFault) → IfSome (blamed r) (λ page. (page < page_count shape) × Met page) → BlamesOne shape (told_as r)
removed_blames shape Met (Ok answer) blames = tt
removed_blames shape Met (Err Media) blames = tt
removed_blames shape Met (Err Dead) blames = tt
removed_blames shape Met (Err SavesFull) blames = tt
removed_blames shape Met (Err (LogFull g h n)) blames = tt
removed_blames shape Met (Err (Damaged bad)) blames = blames.0

-- a call of pages names none
module _ {T : Type 0} (tells : Bool) (Opens : List ℕ → List ℕ → Type 0) (pc : PageCommand) (old new : PagesView) where
  pub done_blames : (shape : Shape) (r : Result T PageFault) → Does tells Opens pc old new r → BlamesOne shape (told_as r)
  done_blames shape (Ok answer) does = tt
  done_blames shape (Err Media) does = tt
  done_blames shape (Err Dead) does = tt
  done_blames shape (Err SavesFull) does = tt
  done_blames shape (Err (LogFull g h n)) does = tt
  done_blames shape (Err (Damaged bad)) does = absurd does.cause

-- nor does an action
pub acted_front : (tells : Bool) (Opens : List ℕ → List ℕ → Type 0) (pages : List ℕ) (parts : List (ℕ × List ℕ)) (old new : PagesView) (fault : PageFault) → (let r : Result (Unit {0}) PageFault = Err fault in Acts tells Opens 0 pages parts old new r)
    → (let r : Result (Unit {0}) PageFault = Err fault in BlamesFront r)
acted_front tells Opens pages parts old new Media acts = tt
acted_front tells Opens pages parts old new Dead acts = tt
acted_front tells Opens pages parts old new SavesFull acts = tt
acted_front tells Opens pages parts old new (LogFull g h n) acts = tt
acted_front tells Opens pages parts old new (Damaged bad) acts = absurd acts.cause

-- the same in terms of records, and of a table that is made
pub front_here : {T : Type 0} (r : Result T PageFault) → BlamesFront r → BlamesFrontHere (told_as r)
front_here (Ok answer) blames = tt
front_here (Err Media) blames = tt
front_here (Err Dead) blames = tt
front_here (Err SavesFull) blames = tt
front_here (Err (LogFull g h n)) blames = tt
front_here (Err (Damaged bad)) blames = blames

pub front_made : (T : Type 0) (fault : PageFault) → (let r : Result T PageFault = Err fault in BlamesFront r) → BlamesFrontMade (Err (as_make fault))
front_made T Media blames = tt
front_made T Dead blames = tt
front_made T SavesFull blames = tt
front_made T (LogFull g h n) blames = tt
front_made T (Damaged bad) blames = blames

-- the test of the index at an attaching, and the read of the super page behind it
module _ (tells : Bool) (calls calls_now : Command → ℕ) (access : Access) (old new : StoreView) where
  pub tested_blames : (fault : CheckFault) → (let r : Result (Unit {0}) CheckFault = Err fault in Tests tells calls calls_now (access.testing old.shape) old new r) → BlamesTested tells calls access old fault
  tested_blames (check.Damaged page) tests = inr (
    calls_now,
    new.moment,
    Err (check.Damaged page),
    refl,
    record {
      read = tests.read;
      reads = record { there = tests.reads.there; said = tests.reads.said; most = tests.reads.most; exact = tests.reads.exact; steady = tests.reads.steady };
      brings = tests.brings;
      blames = tests.blames;
    },
  )
  tested_blames check.Media tests = tt
  tested_blames check.Dead tests = tt
  tested_blames check.NoMemory tests = tt

pub front_tested : (T : Type 0) (tells : Bool) (calls : Command → ℕ) (access : Access) (old : StoreView) (fault : PageFault) → (let r : Result T PageFault = Err fault in BlamesFront r) → BlamesTested tells calls access old (as_check fault)
front_tested T tells calls access old Media blames = tt
front_tested T tells calls access old Dead blames = tt
front_tested T tells calls access old SavesFull blames = tt
front_tested T tells calls access old (LogFull g h n) blames = tt
front_tested T tells calls access old (Damaged page) blames = inl blames
