-- Commands of pages one after another, and what they cost.
use Rattle.std.specs.Prelude.{ℕ, ◌≡◌, ◌+◌, ◌≤◌, Bool, IsTrue, List, [], ◌∷◌, ◌++◌, sum, Result, OnOk}
use Rattle.std.specs.List.{AllZip}
use Rattle.eaw_face.specs.Command as store
use Rattle.eaw_face.specs.StoreView.{StoreView}
use Rattle.array_shape.specs.Logged.{Part}
use Rattle.page_store.specs.Command.{PageCommand, write_as, top_end}
use Rattle.page_store.specs.Device.{device, device_cost}
use Rattle.page_store.specs.Shown.{Shown, outline_of, pages_of}
use Rattle.page_store.specs.declared.fault.PageFault.{PageFault}

-- a command makes so many calls, where it is given in some state of the pages
abbrev pub IsCost : {S : Type 0} → (S → StoreView) → (S → store.Command → ℕ) → PageCommand → ℕ → Type 0
IsCost {S} view calls command n = (at : Shown S) × (n ≡ device_cost (calls at.store) (device command (outline_of (pages_of (view at.store) at))))

-- These commands were made, one after another, or the first of them, up to one that failed, and nothing else was done: at most their calls
-- were made, and just these at Ok, if the store tells.
pub record Runs {S T : Type 0} (tells : Bool) (view : S → StoreView) (calls : S → store.Command → ℕ) (commands : List PageCommand) (old new : StoreView) (result : Result T PageFault) : Type 0 where
  pub made : List PageCommand
  pub left : List PageCommand
  pub costs : List ℕ
  pub these : made ++ left ≡ commands
  pub each : AllZip (IsCost view calls) made costs
  pub all : OnOk result (left ≡ [])
  pub most : new.moment ≤ old.moment + sum costs
  pub exact : IsTrue tells → OnOk result (new.moment ≡ old.moment + sum costs)

-- the writes of these parts as number t
abbrev pub writes_of : ℕ → List Part → List PageCommand
writes_of t [] = []
writes_of t (part ∷ parts) = write_as t part.0 part.1 ∷ writes_of t parts

-- a nested top action of number t that begins at this mark: its writes, and its end
abbrev pub acting_of : ℕ → ℕ → List Part → List PageCommand
acting_of t mark parts = writes_of t parts ++ top_end t mark ∷ []
