-- Why an array is not opened, and how it is told.
use Rattle.std.proofs.Common.{ℕ, inl, inr, List, refl, sym, subst, ℤ}
use Rattle.std.specs.Prelude.{true}
use Rattle.tape_media.specs.Tape.{view_of}
use Rattle.eaw_device.specs.Opens.{AttachCause}
use Rattle.eaw_device.specs.declared.fault.AttachFault.{AttachFault}
use Rattle.eaw_device.specs.declared.fault.AttachFault.TheVariants.{NotMars, BadShape, BadRow, Media, NoMemory}
use Rattle.taped_calls.specs.Formats.{fresh}
use Rattle.taped_calls.proofs.Statuses.{IsTold}
use Rattle.taped_array.specs.Status.{status_of_opening}
use Rattle.taped_array.specs.Opens.{IsUnopened}

pub fault_told : (fault : AttachFault) → IsTold (status_of_opening fault)
fault_told NotMars = refl
fault_told (BadShape bad) = refl
fault_told (BadRow logger row) = refl
fault_told Media = refl
fault_told NoMemory = refl

-- why nothing was opened, told by its status
pub why_unopened : (depth faults : ℕ) (bytes : List ℕ) (fault : AttachFault) → AttachCause true (view_of (fresh bytes)) faults fault
    → IsUnopened depth bytes (status_of_opening fault)
why_unopened depth faults bytes NotMars cause = inr (inr (NotMars, refl, cause))
why_unopened depth faults bytes (BadShape bad) cause = inr (inr (BadShape bad, refl, cause))
why_unopened depth faults bytes (BadRow logger row) cause = inr (inr (BadRow logger row, refl, cause))
why_unopened depth faults bytes Media cause = inr (inl refl)
why_unopened depth faults bytes NoMemory cause = inr (inl refl)

pub unopened_told : (depth : ℕ) (bytes : List ℕ) (status : ℤ) → IsUnopened depth bytes status → IsTold status
unopened_told depth bytes status (inl deep) = subst IsTold (sym deep.0) refl
unopened_told depth bytes status (inr (inl none)) = subst IsTold (sym none) refl
unopened_told depth bytes status (inr (inr why)) = subst IsTold (sym why.1) (fault_told why.0)
