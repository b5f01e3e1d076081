-- A table was made.
use Rattle.std.proofs.Common.{◌≡◌, ℕ, inl, List, refl, sym, subst, Option, Some}
use Rattle.std.specs.Prelude.{pos}
use Rattle.taped_records.specs.declared.records.TapedRecords.{TapedRecords}
use Rattle.taped_records.specs.Making.{MakesTable}
use Rattle.mars_c.specs.Making.{Makes}

-- an open array was taken out, a table was made in it, and it was put back
pub made : (name : List ℕ) (was at : ℕ) (old new : Option TapedRecords) (array now : TapedRecords) → old ≡ Some array → new ≡ Some now → MakesTable name at array now → Makes name was at old new (pos 0)
made name was at old new array now is becomes makes = subst (λ (o : Option TapedRecords). Makes name was at o new (pos 0)) (sym is) (inl (now, becomes, refl, makes))
