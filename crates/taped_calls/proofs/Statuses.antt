-- Why no array is made, as it is told.
use Rattle.std.proofs.Common.{◌≡◌, ℕ, inl, inr, sym, subst, ℤ, to_z, of_z, w32}
use Rattle.array_shape.specs.declared.shape.Shape.{Shape}
use Rattle.array_shape.specs.Places.{HasNumbers}
use Rattle.taped_calls.specs.Formats.{IsUnmade, IsUnformatted}

-- a status fits the type in which it is told
abbrev pub IsTold : ℤ → Type 0
IsTold status = to_z w32 (of_z w32 status) ≡ status

module _ (bad_shape no_memory : ℤ) (bad : IsTold bad_shape) (none : IsTold no_memory) where
  unmade_told : (shape : Shape) (size : ℕ) (status : ℤ) → IsUnmade bad_shape no_memory shape size status → IsTold status
  unmade_told shape size status (inl long) = subst IsTold (sym long.0) bad
  unmade_told shape size status (inr out) = subst IsTold (sym out.0) none

  pub unformatted : (loggers numbers entries pages size : ℕ) (shape : Shape) (status : ℤ) → HasNumbers loggers numbers entries pages shape → IsUnmade bad_shape no_memory shape size status
      → IsUnformatted bad_shape no_memory loggers numbers entries pages size (to_z w32 (of_z w32 status))
  unformatted loggers numbers entries pages size shape status are why =
      inr (shape, are, subst (IsUnmade bad_shape no_memory shape size) (sym (unmade_told shape size status why)) why)
