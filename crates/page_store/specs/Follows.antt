-- What a look reads and what it costs. All of it is known of any store, also of one that does not tell its data.
use Rattle.std.specs.Prelude.{ℕ, ◌≡◌, ◌+◌, ◌≤◌, Bool, IsTrue, IsFalse, List, [], ◌∷◌, length, Option, Some, Result, Err, IfOk}
use Rattle.array_shape.specs.Places.{page_count}
use Rattle.eaw_face.specs.Command.{Command}
use Rattle.eaw_face.specs.Command as store
use Rattle.eaw_face.specs.StoreView.{StoreView}
use Rattle.page_store.specs.Course.{Reading, Course, IsWay, AreThere, AreSaid}
use Rattle.page_store.specs.Looks.{is_failed}
use Rattle.page_store.specs.Shown.{address}
use Rattle.page_store.specs.declared.fault.PageFault.{PageFault}
use Rattle.page_store.specs.declared.fault.PageFault.TheVariants.{Media, Dead, Damaged}

-- the calls that these reads make, if each command makes so many
abbrev pub reads_cost : (Command → ℕ) → List Reading → ℕ
reads_cost calls [] = 0
reads_cost calls (r ∷ rs) = calls (store.read (address r.0 0) 512) + reads_cost calls rs

-- the page that was read last
abbrev pub IsLast : List Reading → ℕ → Type 0
IsLast [] page = ⊥
IsLast (r ∷ rs) page = r.0 ≡ page

-- These pages were read, one after another, and nothing else was done: the calls are theirs, and every command costs what it did. If the
-- medium failed, it did so at the last of them.
pub record HasRead (tells failed : Bool) (calls calls_now : Command → ℕ) (old new : StoreView) (read : List Reading) : Type 0 where
  pub there : AreThere (page_count old.shape) read
  pub said : IsTrue tells → AreSaid old.state.bytes read
  pub most : new.moment ≤ old.moment + reads_cost calls read
  pub exact : IsFalse failed → new.moment ≡ old.moment + reads_cost calls read
  pub steady : IsFalse failed → (command : Command) → calls_now command ≡ calls command

-- what a read of one page read: what it said, or what the data has there if the medium failed; nothing if the store was dead
abbrev pub one_reading : {T : Type 0} → ℕ → (said there : List ℕ) → Result T PageFault → List Reading
one_reading page said there (Err Dead) = []
one_reading page said there (Err Media) = (page, there) ∷ []
one_reading page said there _ = (page, said) ∷ []

-- a page that is answered as damaged was read last
abbrev pub BlamesLast : {T : Type 0} → List Reading → Result T PageFault → Type 0
BlamesLast read (Err (Damaged page)) = IsLast read page
BlamesLast read _ = Unit {0}

-- A look from page to page read these, over any store: each was the one to be read next, and there were at most so many. An answer is what
-- `Ends` says of it and of what was read, and `Damaged` names the last page.
pub record Walks {T : Type 0} (tells : Bool) (calls calls_now : Command → ℕ) (goes : List Reading → Option ℕ) (most : ℕ) (Ends : T → List Reading → Type 0) (old new : StoreView) (result : Result T PageFault) : Type 0 where
  pub read : List Reading
  pub reads : HasRead tells (is_failed result) calls calls_now old new read
  pub way : IsWay goes read
  pub few : length read ≤ most
  pub ends : IfOk result (λ x. Ends x read)
  pub blames : BlamesLast read result

-- a look of a course, whose answer is that of the pages that it read
abbrev pub Follows : {T A : Type 0} → Bool → (calls calls_now : Command → ℕ) → Course A → (T → A) → (old new : StoreView) → Result T PageFault → Type 0
Follows tells calls calls_now course shown old new result = Walks tells calls calls_now course.goes (course.most old.shape) (λ x read. course.answer read ≡ Some (shown x)) old new result
