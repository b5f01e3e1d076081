-- What an insertion or a removal reads, which nested top actions it makes, and what that costs.
use Rattle.std.specs.Prelude.{ℕ, suc, ◌≡◌, ◌+◌, ◌<◌, ◌≤◌, ◌⊎◌, Bool, true, false, IsTrue, List, [], ◌∷◌, ◌++◌, length, sum, Option, Some, None, IfSome, Result, Ok, Err}
use Rattle.std.specs.List.{AllZip}
use Rattle.array_shape.specs.Places.{page_count}
use Rattle.array_shape.specs.declared.shape.Shape.{Shape}
use Rattle.array_shape.specs.Logged.{Part}
use Rattle.eaw_face.specs.Command as store
use Rattle.eaw_face.specs.StoreView.{StoreView}
use Rattle.page_store.specs.Command.{PageCommand}
use Rattle.page_store.specs.Course.{Reading, Course, IsWay}
use Rattle.page_store.specs.Index.{Action}
use Rattle.page_store.specs.Runs.{IsCost, acting_of}
use Rattle.page_store.specs.Shown.{address}
use Rattle.page_store.specs.declared.fault.PageFault.{PageFault}
use Rattle.page_store.specs.declared.fault.PageFault.TheVariants as page
use Rattle.page_store.specs.declared.index_fault.IndexFault.{IndexFault}
use Rattle.page_store.specs.declared.index_fault.IndexFault.TheVariants as index

-- A step: a read of the super page; a read of the page that comes next on a way; a read aside, of bytes at a place of a page: of what is the
-- first of a list of what is free, or of a page beside the way; a nested top action, by these commands.
pub data Step : Type 0 where
  front : Step
  onward : (r : Reading) → Step
  aside : (page at len : ℕ) → Step
  acts : (action : Action) (commands : List PageCommand) → Step

-- a step makes so many calls: a read those of its command, in the state in which it is made, and an action those of its commands
abbrev pub IsStepCost : {S : Type 0} → (S → StoreView) → (S → store.Command → ℕ) → Step → ℕ → Type 0
IsStepCost {S} view calls front n = (made : S) × (n ≡ calls made (store.read (address 0 0) 512))
IsStepCost {S} view calls (onward r) n = (made : S) × (n ≡ calls made (store.read (address r.0 0) 512))
IsStepCost {S} view calls (aside page at len) n = (made : S) × (n ≡ calls made (store.read (address page at) len))
IsStepCost view calls (acts action commands) n = (costs : List ℕ) × AllZip (IsCost view calls) commands costs × (n ≡ sum costs)

-- These steps were made, the last one first, or the last one in part, and nothing else was done: at most their calls were made, and just these if
-- it went well and the store tells.
pub record Spends {S : Type 0} (tells well : Bool) (view : S → StoreView) (calls : S → store.Command → ℕ) (steps : List Step) (old new : StoreView) : Type 0 where
  pub costs : List ℕ
  pub each : AllZip (IsStepCost view calls) steps costs
  pub most : new.moment ≤ old.moment + sum costs
  pub exact : IsTrue tells → IsTrue well → new.moment ≡ old.moment + sum costs

-- how often the super page is read
abbrev pub fronts_of : List Step → ℕ
fronts_of [] = 0
fronts_of (front ∷ ss) = suc (fronts_of ss)
fronts_of (_ ∷ ss) = fronts_of ss

-- the pages of the way, the last one first
abbrev pub way_of : List Step → List Reading
way_of [] = []
way_of (onward r ∷ ss) = r ∷ way_of ss
way_of (_ ∷ ss) = way_of ss

-- how many reads are made aside
abbrev pub asides_of : List Step → ℕ
asides_of [] = 0
asides_of (aside page at len ∷ ss) = suc (asides_of ss)
asides_of (_ ∷ ss) = asides_of ss

-- the actions, the first one first
abbrev pub actions_of : List Step → List Action
actions_of [] = []
actions_of (acts action commands ∷ ss) = actions_of ss ++ action ∷ []
actions_of (_ ∷ ss) = actions_of ss

-- a part lies in a page
abbrev pub LiesIn : ℕ → Part → Type 0
LiesIn page part = (at : ℕ) × (at < 512) × (part.0 ≡ address page at)

-- the commands of an action of number t: the write of a part in each of its pages, and its end
abbrev pub ActsBy : ℕ → Action → List PageCommand → Type 0
ActsBy t action commands = (mark : ℕ) × (parts : List Part) × (commands ≡ acting_of t mark parts) × AllZip LiesIn action.pages parts

-- so of each action
abbrev pub AreActs : ℕ → List Step → Type 0
AreActs t [] = Unit {0}
AreActs t (acts action commands ∷ ss) = ActsBy t action commands × AreActs t ss
AreActs t (_ ∷ ss) = AreActs t ss

-- one of them is this page
abbrev pub IsAmong : ℕ → List ℕ → Type 0
IsAmong page [] = ⊥
IsAmong page (p ∷ ps) = (page ≡ p) ⊎ IsAmong page ps

-- the page was read, or written
abbrev pub IsMet : ℕ → List Step → Type 0
IsMet page [] = ⊥
IsMet page (front ∷ ss) = (page ≡ 0) ⊎ IsMet page ss
IsMet page (onward r ∷ ss) = (page ≡ r.0) ⊎ IsMet page ss
IsMet page (aside p at len ∷ ss) = (page ≡ p) ⊎ IsMet page ss
IsMet page (acts action commands ∷ ss) = IsAmong page action.pages ⊎ IsMet page ss

-- how often the super page may be read, how many pages of the way there may be, reads aside, and actions
pub record Limits : Type 0 where
  pub fronts : ℕ
  pub way : ℕ
  pub asides : ℕ
  pub actions : ℕ

-- how many pages actions take
abbrev pub takes_of : List Action → ℕ
takes_of [] = 0
takes_of (action ∷ later) = action.takes + takes_of later

-- whether a call was done
abbrev pub is_done : {T F : Type 0} → Result T F → Bool
is_done (Ok x) = true
is_done (Err fault) = false

-- the page that an answer names as damaged
abbrev pub blamed : {T : Type 0} → Result T PageFault → Option ℕ
blamed (Err (page.Damaged bad)) = Some bad
blamed _ = None

abbrev pub blamed_index : {T : Type 0} → Result T IndexFault → Option ℕ
blamed_index (Err (index.Damaged bad)) = Some bad
blamed_index _ = None

-- Steps of an insertion or a removal as number t, of which these actions are due, and which was done or not. They make all its calls. Over any
-- store there are no more steps of a kind than may be, and each page of the way is the one that was to be read next, if `sure` holds. A page that is
-- answered as damaged is one of the array that was met, by a step or before. Over a store that tells its data the actions made are the first of those due, and
-- all of them if it was done; a read aside is made at most for each page that these take, and for the slot or one page beside.
pub record WorksFrom {S : Type 0} (known : List ℕ) (sure : Type 0) (tells done : Bool) (view : S → StoreView) (calls : S → store.Command → ℕ) (t : ℕ) (goes : List Reading → Option ℕ) (limits : Limits) (due : List Action) (bad : Option ℕ) (old new : StoreView) : Type 0 where
  pub steps : List Step
  pub spends : Spends tells done view calls steps old new
  pub fronts : fronts_of steps ≤ limits.fronts
  pub way : sure → IsWay goes (way_of steps)
  pub few : length (way_of steps) ≤ limits.way
  pub asides : asides_of steps ≤ limits.asides
  pub actions : length (actions_of steps) ≤ limits.actions
  pub acted : AreActs t steps
  pub blames : IfSome bad (λ page. (page < page_count old.shape) × (IsAmong page known ⊎ IsMet page steps))
  pub left : List Action
  pub just : IsTrue tells → actions_of steps ++ left ≡ due
  pub all : IsTrue tells → IsTrue done → left ≡ []
  pub taken : IsTrue tells → asides_of steps ≤ takes_of due + 1

-- the whole of it, before which no page was met
abbrev pub Works : {S : Type 0} → Type 0 → Bool → Bool → (S → StoreView) → (S → store.Command → ℕ) → ℕ → (List Reading → Option ℕ) → Limits → List Action → Option ℕ → (old new : StoreView) → Type 0
Works = WorksFrom []

-- At most so many steps of an insertion without a place, or with one, which reads no page of the way; and of a removal.
abbrev pub insertion_limits : {A : Type 0} → Bool → Course A → Shape → Limits
insertion_limits true course shape = record { fronts = 1; way = 0; asides = 1; actions = 1 }
insertion_limits false course shape = record { fronts = 1; way = course.most shape; asides = course.most shape + 2; actions = course.most shape + 1 }

-- where all slots are in use, nothing is read aside, and no action is made
abbrev pub unless_full : Bool → Limits → Limits
unless_full true limits = record limits { asides = 0; actions = 0 }
unless_full false limits = limits

abbrev pub removal_limits : {A : Type 0} → Course A → Shape → Limits
removal_limits course shape = record { fronts = 1; way = course.most shape; asides = 1; actions = 1 }

-- the action of a removal, with a part in each of these pages
abbrev pub removal_actions : Option (List ℕ) → List Action
removal_actions None = []
removal_actions (Some pages) = record { pages = pages; takes = 0 } ∷ []
