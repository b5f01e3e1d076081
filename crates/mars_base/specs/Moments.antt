-- What a loss of power at some moment might have left, for any kind of thing: images of a medium, data of a store.
use Rattle.std.specs.Prelude.{ℕ, ◌≡◌, ◌+◌, ◌-◌, ◌^◌, ◌<◌, ◌≤◌, ◌⊎◌, min, Result, OnOk}

-- A call raises the moment by one. At its last value the moment stays, and the call fails.
pub record Ticks {T E : Type 0} (before now : ℕ) (result : Result T E) : Type 0 where
  pub next : now ≡ min (before + 1) (2 ^ 64 - 1)
  pub last : OnOk result (before < 2 ^ 64 - 1)

-- From one moment to a later one, nothing that might have been left is forgotten, and whatever is new has P.
pub record Elapses {C : Type 0} (before now : ℕ) (past since : ℕ → C → Type 0) (P : C → Type 0) : Type 0 where
  pub later : before ≤ now
  pub keeps : (t : ℕ) (c : C) → t ≤ before → past t c → since t c
  pub only : (t : ℕ) (c : C) → t ≤ before → since t c → past t c ⊎ P c

-- this might have been left, told in things of another kind: one of them that might have been left stands for it by R
abbrev pub Through : {B C : Type 0} → (B → C → Type 0) → (ℕ → B → Type 0) → ℕ → C → Type 0
Through {B} {C} R since t c = (b : B) × since t b × R b c
