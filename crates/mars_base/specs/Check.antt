-- Tests in their order, of which the first that fails says what is bad.
use Rattle.std.specs.Prelude.{Bool, true, false, ◌≡◌, ◌⊎◌, List, [], ◌∷◌, Option, Some, None}

-- which verdicts are true: none is bad, or this is the first that is
abbrev pub Check : Type 0 → Type 1
Check Bad = Option Bad → Type 0

-- nothing to test
abbrev pub pass : {Bad : Type 0} → Check Bad
pass None = Unit {0}
pass (Some bad) = ⊥

-- one test, whose failure is told as this
abbrev pub test : {Bad : Type 0} → Type 0 → Bad → Check Bad
test Holds told None = Holds
test Holds told (Some bad) = (Holds → ⊥) × (bad ≡ told)

-- one check, and then another
abbrev pub both : {Bad : Type 0} → Check Bad → Check Bad → Check Bad
both one other None = one None × other None
both one other (Some bad) = one (Some bad) ⊎ (one None × other (Some bad))

-- a check that is left out if so
abbrev pub unless : {Bad : Type 0} → Bool → Check Bad → Check Bad
unless true check = pass
unless false check = check

-- a check of each, one after another
abbrev pub each : {A Bad : Type 0} → (A → Check Bad) → List A → Check Bad
each check [] = pass
each check (x ∷ xs) = both (check x) (each check xs)

-- at most one verdict is true
abbrev pub IsSingle : {Bad : Type 0} → Check Bad → Type 0
IsSingle {Bad} check = (one other : Option Bad) → check one → check other → one ≡ other
