-- What a call does to what a library keeps of an array, open or closed.
use Rattle.std.specs.Prelude.{◌≡◌, Option, Some, None}

-- nothing changes, and this is told of an open array, or this of a closed one
abbrev pub Looks : {A : Type 0} → (A → Type 0) → Type 0 → Option A → Option A → Type 0
Looks {A} Tells Closed None new = (new ≡ None) × Closed
Looks {A} Tells Closed (Some array) new = (new ≡ Some array) × Tells array

-- an open array stays open, and this is done to it; a closed one stays closed
abbrev pub Changes : {A : Type 0} → (A → A → Type 0) → Type 0 → Option A → Option A → Type 0
Changes {A} Does Closed None new = (new ≡ None) × Closed
Changes {A} Does Closed (Some old) (Some new) = Does old new
Changes {A} Does Closed (Some old) None = ⊥
