-- Answers of page tests, as answers of look-ups.
use Rattle.std.proofs.Common.{ℕ, Bool, Result, Err, refl, sym, ◌∙◌}
use Rattle.std.specs.Prelude.{IsTrue}
use Rattle.eaw_face.specs.StoreView.{StoreView}
use Rattle.eaw_face.specs.Causes.{IsAlive}
use Rattle.page_store.specs.Looks.{IsStill, LookCause}
use Rattle.index_pages.specs.Fetched.{TestCause}
use Rattle.page_store.specs.declared.fault.PageFault.{PageFault}
use Rattle.page_store.specs.declared.fault.PageFault.TheVariants.{LogFull, SavesFull, Media, Dead, Damaged}

-- in sound data whose bytes are known no page is damaged
pub look_cause : (T U : Type 0) (tells : Bool) (old mid : StoreView) (Good : Type 0) (page : ℕ) (fault : PageFault) → IsStill tells old mid → (IsTrue tells → IsAlive old → Good)
    → (let r : Result T PageFault = Err fault in TestCause tells Good page mid r) → (let s : Result U PageFault = Err fault in LookCause tells old s)
look_cause T U tells old mid Good page Media still good cause = sym still.dead ∙ cause
look_cause T U tells old mid Good page Dead still good cause = sym still.dead ∙ cause
look_cause T U tells old mid Good page (Damaged bad) still good cause = let alive : IsAlive old = sym still.dead ∙ cause.0 in (alive, λ told. cause.2 told (good told alive))
look_cause T U tells old mid Good page (LogFull g h n) still good cause = absurd cause
look_cause T U tells old mid Good page SavesFull still good cause = absurd cause

pub still_same : (tells : Bool) (old : StoreView) → IsStill tells old old
still_same tells old = record { dead = refl; faults = refl; state = λ told. refl }
