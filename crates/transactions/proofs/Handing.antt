-- What holds of an outcome if there is an answer or a fault, and of a fault that a `?` hands on.
use Rattle.std.proofs.Common.{◌≡◌, sym, subst, Result, Ok, Err}
use Rattle.std.specs.Prelude.{IfOk, IfErr, IsErr, IsErrAnd}
use Rattle.std.proofs.lemmas.Bool.{false≢true}

pub if_ok : {T E : Type 0} (P Q : T → Type 0) (outcome : Result T E) → ((answer : T) → P answer → Q answer) → IfOk outcome P → IfOk outcome Q
if_ok P Q (Ok answer) f p = f answer p
if_ok P Q (Err fault) f p = tt

pub if_err : {T E : Type 0} (P Q : E → Type 0) (outcome : Result T E) → ((fault : E) → P fault → Q fault) → IfErr outcome P → IfErr outcome Q
if_err P Q (Ok answer) f p = tt
if_err P Q (Err fault) f p = f fault p

module _ {T E : Type 0} (outcome : Result T E) (fault : E) (both : IsErr outcome × IsErrAnd outcome (λ (other : E). other ≡ fault)) where
  pub handed_on : (P : E → Type 0) → P fault → IfErr outcome P
  handed_on P p = by outcome both
    where
      by : (r : Result T E) → IsErr r × IsErrAnd r (λ (other : E). other ≡ fault) → IfErr r P
      by (Ok answer) both = tt
      by (Err other) both = subst P (sym both.1) p

  pub none_handed_on : (P : T → Type 0) → IfOk outcome P
  none_handed_on P = by outcome both
    where
      by : (r : Result T E) → IsErr r × IsErrAnd r (λ (other : E). other ≡ fault) → IfOk r P
      by (Ok answer) both = absurd (false≢true both.0)
      by (Err other) both = tt
