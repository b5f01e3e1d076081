-- What a read and a write do to the bytes of an object that tells them.
use Rattle.std.specs.Prelude.{ℕ, ◌≡◌, ◌<◌, ◌≤◌, List, [], ◌++◌, length, take, Result, MatchResult, IfOk}

-- A read takes from the front what it gives, and gives a nonempty buffer nothing only at the end. A failed read takes nothing.
abbrev pub Takes : {E : Type 0} → List ℕ → List ℕ → Result ℕ E → List ℕ → Type 0
Takes old new result buf = MatchResult result (λ n. (old ≡ take n buf ++ new) × (n ≡ 0 → 0 < length buf → new ≡ [])) (λ _. new ≡ old)

-- A write appends a prefix of the piece to what was there. A failed write appends nothing.
abbrev pub Puts : {E : Type 0} → List ℕ → List ℕ → Result ℕ E → List ℕ → Type 0
Puts old new result piece = MatchResult result (λ n. new ≡ old ++ take n piece) (λ _. new ≡ old)

-- how much of a piece a write takes: at most all of it, and at least one byte if it is not empty
abbrev pub TakesPart : {E : Type 0} → Result ℕ E → List ℕ → Type 0
TakesPart result piece = IfOk result (λ n. (n ≤ length piece) × (0 < length piece → 0 < n))
