-- A refusal of the store, as pages give it.
use Rattle.std.specs.Prelude.{ℕ, ◌≡◌, Bool, List, Option, Some, None, Result, Ok, Err, IsOk}
use Rattle.eaw_face.specs.StoreView.{StoreView}
use Rattle.eaw_face.specs.Command.{Command}
use Rattle.eaw_face.specs.Does.{Does}
use Rattle.eaw_face.specs.declared.fault.EawFault.{EawFault}
use Rattle.eaw_face.specs.declared.fault.EawFault.TheVariants as store
use Rattle.page_store.specs.declared.fault.PageFault.{PageFault}
use Rattle.page_store.specs.declared.fault.PageFault.TheVariants.{LogFull, Media, Dead}

-- it is not the refusal of an unknown number
abbrev pub IsKnown : EawFault → Type 0
IsKnown (store.UnknownTid t) = ⊥
IsKnown _ = Unit {0}

abbrev pub told_as : EawFault → PageFault
told_as (store.UnknownTid t) = Dead
told_as (store.LogFull g h n) = LogFull g h n
told_as store.Media = Media
told_as store.Dead = Dead

-- an answer of the store, as pages give it
abbrev pub TellsAs : {T U : Type 0} → Result T EawFault → Result U PageFault → Type 0
TellsAs (Ok x) (Ok y) = Unit {0}
TellsAs (Err f) (Err p) = IsKnown f × (p ≡ told_as f)
TellsAs _ _ = ⊥

-- A command of the store that is made if the number is live, that is, has a list of ranges; otherwise nothing is done.
abbrev pub DoesWhereLive : Option (List (ℕ × ℕ)) → Type 0 → Bool → (List ℕ → List ℕ → Type 0) → Command → StoreView → StoreView → Result (Unit {0}) PageFault → Type 0
DoesWhereLive None same tells Opens command old new result = same × IsOk result
DoesWhereLive (Some ranges) same tells Opens command old new result = (answer : Result (Unit {0}) EawFault) × TellsAs answer result × Does tells Opens command old new answer
