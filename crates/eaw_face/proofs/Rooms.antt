-- The first logger without room for ranges.
use Rattle.std.proofs.Common.{ℕ, List, Some}
use Rattle.mars_base.specs.Room.{IsFirstFull}
use Rattle.mars_base.proofs.Rooms.{first_full, full_told}
use Rattle.array_shape.specs.declared.shape.Shape.{Shape}
use Rattle.eaw_face.specs.State.{count_on}
use Rattle.eaw_face.specs.Causes.{fit}

-- logger g is the first without room for its share of `needed` besides its share of `held`
abbrev pub IsFirstUnfit : Shape → (held needed : List (ℕ × ℕ)) → (g h n : ℕ) → Type 0
IsFirstUnfit shape held needed = IsFirstFull shape.loggers shape.entries (λ k. count_on shape k held) (λ k. count_on shape k needed)

module _ (shape : Shape) (held needed : List (ℕ × ℕ)) (g h n : ℕ) where
  pub first_unfit : fit shape held needed (Some (g, h, n)) → IsFirstUnfit shape held needed g h n
  first_unfit told = first_full shape.loggers shape.entries (λ k. count_on shape k held) (λ k. count_on shape k needed) g h n told

  pub unfit_told : IsFirstUnfit shape held needed g h n → fit shape held needed (Some (g, h, n))
  unfit_told full = full_told shape.loggers shape.entries (λ k. count_on shape k held) (λ k. count_on shape k needed) (λ a b c. (a, b, c)) g h n full
