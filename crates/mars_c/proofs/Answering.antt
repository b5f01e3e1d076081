-- What was done to an array.
use Rattle.std.proofs.Common.{◌≡◌, ℕ, ℤ, inl, List, refl, sym, subst, Option, Some, None}
use Rattle.std.specs.Prelude.{pos}
use Rattle.page_store.specs.Index.{Index}
use Rattle.taped_records.specs.declared.records.TapedRecords.{TapedRecords}
use Rattle.taped_records.specs.Opens.{IsOpened}
use Rattle.taped_calls.specs.Asked.{Changes}
use Rattle.mars_c.specs.Opens.{Opens}

-- a closed array was opened
pub opened : (index : Index) (callers depth : ℕ) (bytes : List ℕ) (old new : Option TapedRecords) (array : TapedRecords) → old ≡ None → new ≡ Some array → IsOpened index callers depth bytes array → Opens index callers depth bytes old new (pos 0)
opened index callers depth bytes old new array closed is opens = subst (λ (was : Option TapedRecords). Opens index callers depth bytes was new (pos 0)) (sym closed) (inl (array, is, refl, opens))

-- an open array was taken out, this was done to it, and it was put back
pub done_to : (Does : TapedRecords → TapedRecords → ℤ → Type 0) (Closed : Type 0) (old new : Option TapedRecords) (was now : TapedRecords) (status told : ℤ) → old ≡ Some was → new ≡ Some now → told ≡ status → Does was now status
    → Changes (λ (a b : TapedRecords). Does a b told) Closed old new
done_to Does Closed old new was now status told is becomes same does =
    subst (λ (o : Option TapedRecords). Changes (λ (a b : TapedRecords). Does a b told) Closed o new) (sym is)
    (subst (λ (o : Option TapedRecords). Changes (λ (a b : TapedRecords). Does a b told) Closed (Some was) o) (sym becomes) (subst (λ (z : ℤ). Does was now z) (sym same) does))
