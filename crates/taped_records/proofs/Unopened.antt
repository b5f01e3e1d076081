-- Why nothing was opened, as it is told.
use Rattle.std.proofs.Common.{ℕ, true, refl}
use Rattle.std.specs.Prelude.{IsFalse}
use Rattle.pcm_media.specs.View.{View}
use Rattle.eaw_device.specs.declared.fault.AttachFault.TheVariants as array
use Rattle.page_store.specs.Index.{Index}
use Rattle.mars_core.specs.declared.fault.CoreFault.TheVariants as core
use Rattle.open_records.specs.Opens.{IsUnopened, is_media}
use Rattle.open_records.specs.declared.opening.OpenFault.{OpenFault}
use Rattle.open_records.specs.declared.opening.OpenFault.TheVariants as unopened
use Rattle.taped_records.specs.Opens.{in_memory}

-- the cause of another fault does not speak of the medium's faults
pub told : (index : Index) (callers : ℕ) (media : View) (faults : ℕ) (fault : OpenFault) → IsUnopened true index callers media faults fault
    → IsUnopened true index callers media 0 (in_memory fault) × IsFalse (is_media (in_memory fault))
told index callers media faults (unopened.Array array.Media) cause = (tt, refl)
told index callers media faults (unopened.Records core.Media) cause = (tt, refl)
told index callers media faults (unopened.Array array.NotMars) cause = (cause, refl)
told index callers media faults (unopened.Array (array.BadShape bad)) cause = (cause, refl)
told index callers media faults (unopened.Array (array.BadRow logger row)) cause = (cause, refl)
told index callers media faults (unopened.Array array.NoMemory) cause = (cause, refl)
told index callers media faults (unopened.Records core.NoMemory) cause = (cause, refl)
told index callers media faults (unopened.Records (core.Damaged page)) cause = (cause, refl)
told index callers media faults (unopened.Callers numbers) cause = (cause, refl)
told index callers media faults unopened.NoMemory cause = (cause, refl)
