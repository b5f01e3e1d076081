-- A command that is refused changes nothing.
use Rattle.std.proofs.Common.{◌≡◌, ℕ, Bool, List, Result, Ok, Err, refl, sym, ◌∙◌, subst, arith}
use Rattle.std.specs.Prelude.{IsErrAnd}
use Rattle.mars_base.proofs.Going.{stays}
use Rattle.eaw_face.specs.StoreView.{StoreView}
use Rattle.eaw_face.specs.Command.{Command, after}
use Rattle.eaw_face.specs.Causes.{Cause}
use Rattle.eaw_face.specs.Does.{Does, IsEither}
use Rattle.eaw_face.specs.declared.fault.EawFault.{EawFault}
use Rattle.eaw_face.specs.declared.fault.EawFault.TheVariants.{Media}
use Rattle.eaw_face.proofs.Mirroring.{none_sent}

-- a command that is refused, by a fault other than the medium's
pub refused : {T : Type 0} (tells : Bool) (Opens : List ℕ → List ℕ → Type 0) (command : Command) (store : StoreView) (fault : EawFault) → (let r : Result T EawFault = Err fault in Cause store command store.faults r) → (fault ≡ Media → ⊥)
    → (r : Result T EawFault) → IsErrAnd r (λ e. e ≡ fault) → Does tells Opens command store store r
refused {T} tells Opens command store fault cause other (Ok x) is = absurd is
refused {T} tells Opens command store fault cause other (Err e) is = record {
  shape = refl;
  depth = refl;
  later = omega arith;
  cause = subst (λ (f : EawFault). let r : Result T EawFault = Err f in Cause store command store.faults r) (sym is) cause;
  done = tt;
  kept = tt;
  dies = λ dead. absurd (other (sym is ∙ same dead));
  others = λ u apart. refl;
  time = λ told fine. stays store.moment store.left_since (IsEither Opens store.state.bytes (after command store.state).bytes);
  mirrors = none_sent tells store store refl refl refl refl (λ alive. alive) (λ told mirrors alive. refl);
  one = omega arith;
  sends = tt;
  refused = refl;
}
  where
    same : (let r : Result T EawFault = Err e in let s : Result T EawFault = Err Media in r ≡ s) → e ≡ Media
    same dead = cc
