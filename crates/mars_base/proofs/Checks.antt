-- A check has at most one verdict, if each of its parts has.
use Rattle.std.specs.Prelude.{Bool, true, false, ◌≡◌, List, [], ◌∷◌, Option, Some, None, refl}
use Rattle.std.proofs.Common.{inl, inr}
use Rattle.mars_base.specs.Check.{Check, pass, test, both, unless, each, IsSingle}

some_is_none : {A X : Type 0} (a : A) → Some a ≡ None → X
some_is_none a e = absurd (cc)

pub pass_single : {Bad : Type 0} → IsSingle (pass {Bad = Bad})
pass_single None None p q = refl
pass_single None (Some b) p q = absurd q
pass_single (Some a) other p q = absurd p

pub test_single : {Bad : Type 0} (Holds : Type 0) (told : Bad) → IsSingle (test Holds told)
test_single Holds told None None p q = refl
test_single Holds told None (Some b) p q = absurd (q.0 p)
test_single Holds told (Some a) None p q = absurd (p.0 q)
test_single Holds told (Some a) (Some b) p q = cc

pub both_single : {Bad : Type 0} (one other : Check Bad) → IsSingle one → IsSingle other → IsSingle (both one other)
both_single one other s t None None p q = refl
both_single one other s t None (Some b) p (inl f) = s None (Some b) p.0 f
both_single one other s t None (Some b) p (inr f) = t None (Some b) p.1 f.1
both_single one other s t (Some a) None (inl f) q = s (Some a) None f q.0
both_single one other s t (Some a) None (inr f) q = t (Some a) None f.1 q.1
both_single one other s t (Some a) (Some b) (inl f) (inl g) = s (Some a) (Some b) f g
both_single one other s t (Some a) (Some b) (inl f) (inr g) = some_is_none a (s (Some a) None f g.0)
both_single one other s t (Some a) (Some b) (inr f) (inl g) = some_is_none b (s (Some b) None g f.0)
both_single one other s t (Some a) (Some b) (inr f) (inr g) = t (Some a) (Some b) f.1 g.1

pub unless_single : {Bad : Type 0} (out : Bool) (check : Check Bad) → IsSingle check → IsSingle (unless out check)
unless_single true check s = pass_single
unless_single false check s = s

pub each_single : {A Bad : Type 0} (check : A → Check Bad) (xs : List A) → ((x : A) → IsSingle (check x)) → IsSingle (each check xs)
each_single check [] s = pass_single
each_single check (x ∷ xs) s = both_single (check x) (each check xs) (s x) (each_single check xs s)

-- with at most one verdict none is bad only where nothing is told
pub excludes : {Bad : Type 0} (check : Check Bad) → IsSingle check → (bad : Bad) → check (Some bad) → check None → ⊥
excludes check single bad fails passes = some_is_none bad (single (Some bad) None fails passes)

-- and one thing is told
pub one_bad : {Bad : Type 0} (check : Check Bad) → IsSingle check → (bad other : Bad) → check (Some bad) → check (Some other) → bad ≡ other
one_bad check single bad other fails fails' = let e = single (Some bad) (Some other) fails fails' in cc

-- what comes after a check that passes decides
pub both_on : {Bad : Type 0} (one other : Check Bad) → one None → (verdict : Option Bad) → other verdict → both one other verdict
both_on one other passes None rest = (passes, rest)
both_on one other passes (Some bad) rest = inr (passes, rest)

pub each_on : {A Bad : Type 0} (check : A → Check Bad) (x : A) (xs : List A) → check x None → (verdict : Option Bad) → each check xs verdict → each check (x ∷ xs) verdict
each_on check x xs passes verdict rest = both_on (check x) (each check xs) passes verdict rest
