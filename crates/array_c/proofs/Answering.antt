-- What became of an opening.
use Rattle.std.proofs.Common.{◌≡◌, ℕ, inl, inr, List, refl, sym, subst, Option, Some, None, ℤ, to_z, of_z, w32}
use Rattle.std.specs.Prelude.{pos}
use Rattle.taped_array.specs.declared.open_array.OpenArray.{OpenArray}
use Rattle.taped_array.specs.Opens.{IsOpened, IsUnopened}
use Rattle.taped_array.proofs.Outcomes.{unopened_told}
use Rattle.array_c.specs.Opens.{Opens}

-- a closed array was opened
pub opened : (depth : ℕ) (bytes : List ℕ) (old new : Option OpenArray) (array : OpenArray) → old ≡ None → new ≡ Some array → IsOpened depth bytes array → Opens depth bytes old new (pos 0)
opened depth bytes old new array closed is opens = subst (λ (was : Option OpenArray). Opens depth bytes was new (pos 0)) (sym closed) (inl (array, is, refl, opens))

-- or stays closed
pub unopened : (depth : ℕ) (bytes : List ℕ) (old new : Option OpenArray) (status : ℤ) → old ≡ None → new ≡ None → IsUnopened depth bytes status
    → Opens depth bytes old new (to_z w32 (of_z w32 status))
unopened depth bytes old new status closed is why =
    subst (λ (was : Option OpenArray). Opens depth bytes was new (to_z w32 (of_z w32 status))) (sym closed)
    (inr (is, subst (IsUnopened depth bytes) (sym (unopened_told depth bytes status why)) why))
