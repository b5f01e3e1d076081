-- Room for one part in each of some pages.
use Rattle.std.specs.Prelude.{ℕ, ◌≡◌, ◌%◌, true, nat_eq, Bool, List, length, filter}
use Rattle.mars_base.specs.Room.{HaveRoom, IsFirstFull}
use Rattle.eaw_face.specs.State.{listed, count_on}
use Rattle.eaw_face.specs.StoreView.{StoreView}
use Rattle.eaw_face.specs.Causes.{IsAlive}
use Rattle.page_store.specs.declared.fault.PageFault.{PageFault}
use Rattle.page_store.specs.declared.fault.PageFault.TheVariants.{LogFull, Dead}

-- logger g has this page: they are dealt to the loggers by turns
abbrev pub is_page_on : ℕ → ℕ → ℕ → Bool
is_page_on loggers g page = nat_eq (page % loggers) g

-- how many parts of number t logger g holds, and how many more one part in each of the pages makes there
abbrev pub held_on : StoreView → ℕ → ℕ → ℕ
held_on store t g = count_on store.shape g (listed (store.ranges t))

abbrev pub needed_on : StoreView → List ℕ → ℕ → ℕ
needed_on store pages g = length (filter (is_page_on store.shape.loggers g) pages)

-- they fit at each logger, or logger g is the first without room: it holds h parts, and n more are needed
abbrev pub FitAll : StoreView → ℕ → List ℕ → Type 0
FitAll store t pages = HaveRoom store.shape.loggers store.shape.entries (held_on store t) (needed_on store pages)

abbrev pub IsFirstLacking : StoreView → ℕ → List ℕ → ℕ → ℕ → ℕ → Type 0
IsFirstLacking store t pages g h n = IsFirstFull store.shape.loggers store.shape.entries (held_on store t) (needed_on store pages) g h n

-- why they do not fit
abbrev pub LacksRoom : StoreView → ℕ → List ℕ → PageFault → Type 0
LacksRoom store t pages Dead = store.is_dead ≡ true
LacksRoom store t pages (LogFull g h n) = IsAlive store × IsFirstLacking store t pages g h n
LacksRoom store t pages _ = ⊥
