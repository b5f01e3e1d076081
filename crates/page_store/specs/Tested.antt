-- What the test of an index reads, and what it comes to. All of it is known of any store, also of one that does not tell its data.
use Rattle.std.specs.Prelude.{ℕ, ◌≡◌, ◌≢◌, ◌+◌, ◌<◌, ◌≤◌, ◌⊎◌, Bool, true, false, IsTrue, IsFalse, List, [], ◌∷◌, ◌++◌, Option, Some, None, IfSome, Result, Ok, Err}
use Rattle.std.specs.List.{AllByRecursion}
use Rattle.mars_base.specs.Bytes.{range}
use Rattle.array_shape.specs.Places.{page_count}
use Rattle.eaw_face.specs.Command.{Command}
use Rattle.eaw_face.specs.Command as store
use Rattle.eaw_face.specs.StoreView.{StoreView}
use Rattle.page_store.specs.Shown.{address}
use Rattle.page_store.specs.declared.index_fault.CheckFault.{CheckFault}
use Rattle.page_store.specs.declared.index_fault.CheckFault.TheVariants.{Damaged, Media}

-- bytes of a page that were read: where they stand, how many they are, and what they said then
pub record Excerpt : Type 0 where
  pub page : ℕ
  pub at : ℕ
  pub len : ℕ
  pub said : List ℕ

-- what a test comes to: no page is damaged; this page is the first that is; or it stops on its way, at a fault or for want of memory
pub data Outcome : Type 0 where
  passes : Outcome
  fails : (page : ℕ) → Outcome
  stops : Outcome

-- How a test goes. Nothing is left to be tested; this is to hold, or that page is damaged, and then the test goes on; these bytes are read, and it
-- goes on as they say; or one test, and if it passes another.
pub data Plan : Type 1 where
  at_end : Plan
  holding : (Holds : Type 0) (page : ℕ) (rest : Plan) → Plan
  reading : (page at len : ℕ) (next : List ℕ → Plan) → Plan
  in_turn : (one other : Plan) → Plan

-- Where a test ends before this was seen to hold: it does not, so that page is damaged; or the test stops.
abbrev pub GivesUp : Type 0 → ℕ → Outcome → Type 0
GivesUp Holds page passes = ⊥
GivesUp Holds page (fails bad) = (Holds → ⊥) × (bad ≡ page)
GivesUp Holds page stops = Unit {0}

-- These reads, the first one first, bring a test to this outcome. If it stops, they are the first of those that it makes.
abbrev pub Brings : Plan → List Excerpt → Outcome → Type 0
Brings at_end read outcome = (read ≡ []) × ((outcome ≡ passes) ⊎ (outcome ≡ stops))
Brings (holding Holds page rest) read outcome = (Holds × Brings rest read outcome) ⊎ ((read ≡ []) × GivesUp Holds page outcome)
Brings (reading page at len next) [] outcome = outcome ≡ stops
Brings (reading page at len next) (e ∷ es) outcome = (e.page ≡ page) × (e.at ≡ at) × (e.len ≡ len) × (Brings (next e.said) es outcome ⊎ ((es ≡ []) × (outcome ≡ stops)))
Brings (in_turn one other) read outcome =
    ((first : List Excerpt) × (later : List Excerpt) × (read ≡ first ++ later) × Brings one first passes × Brings other later outcome) ⊎ ((outcome ≢ passes) × Brings one read outcome)

-- the calls that these reads make, if each command makes so many
abbrev pub excerpts_cost : (Command → ℕ) → List Excerpt → ℕ
excerpts_cost calls [] = 0
excerpts_cost calls (e ∷ es) = calls (store.read (address e.page e.at) e.len) + excerpts_cost calls es

-- they are of pages of an array of so many
abbrev pub AreOfArray : ℕ → List Excerpt → Type 0
AreOfArray count = AllByRecursion (λ e. e.page < count)

-- they said what the data has there
abbrev pub AreOfData : List ℕ → List Excerpt → Type 0
AreOfData bytes = AllByRecursion (λ e. e.said ≡ range bytes (address e.page e.at) e.len)

-- one of them is of this page
abbrev pub IsReadFrom : ℕ → List Excerpt → Type 0
IsReadFrom page [] = ⊥
IsReadFrom page (e ∷ es) = (page ≡ e.page) ⊎ IsReadFrom page es

-- These bytes were read, one after another, and nothing else was done: the calls are those of these reads, and every command costs what it did.
-- If the medium failed, it did so at the last of them.
pub record HasReadBytes (tells failed : Bool) (calls calls_now : Command → ℕ) (old new : StoreView) (read : List Excerpt) : Type 0 where
  pub there : AreOfArray (page_count old.shape) read
  pub said : IsTrue tells → AreOfData old.state.bytes read
  pub most : new.moment ≤ old.moment + excerpts_cost calls read
  pub exact : IsFalse failed → new.moment ≡ old.moment + excerpts_cost calls read
  pub steady : IsFalse failed → (command : Command) → calls_now command ≡ calls command

-- whether the medium failed in a test
abbrev pub is_test_failed : {T : Type 0} → Result T CheckFault → Bool
is_test_failed (Err Media) = true
is_test_failed _ = false

-- what an answer says of the pages
abbrev pub outcome_of : {T : Type 0} → Result T CheckFault → Outcome
outcome_of (Ok x) = passes
outcome_of (Err (Damaged page)) = fails page
outcome_of (Err _) = stops

-- the page that an answer names as damaged
abbrev pub blamed_check : {T : Type 0} → Result T CheckFault → Option ℕ
blamed_check (Err (Damaged page)) = Some page
blamed_check _ = None

-- A test made these reads, over any store, and they bring it to its answer: it is passed only when the last one is made. A page that is answered as
-- damaged is one of the array that was read in it.
pub record Tests {T : Type 0} (tells : Bool) (calls calls_now : Command → ℕ) (plan : Plan) (old new : StoreView) (result : Result T CheckFault) : Type 0 where
  pub read : List Excerpt
  pub reads : HasReadBytes tells (is_test_failed result) calls calls_now old new read
  pub brings : Brings plan read (outcome_of result)
  pub blames : IfSome (blamed_check result) (λ page. (page < page_count old.shape) × IsReadFrom page read)
