-- What is written at the end, on standard error.
use Rattle.std.specs.Prelude.{ℕ, List, [], ◌∷◌, ◌++◌, codes}
use Rattle.array_runs.specs.Fault.{status_text}
use Rattle.array_runs.specs.declared.status.Status.{Status}
use Rattle.array_runs.specs.declared.status.Status.TheVariants.{Usage, MediaFault, NoMemory}

abbrev pub line_of : List ℕ → List ℕ
line_of [] = []
line_of (byte ∷ bytes) = codes "mars: " ++ (byte ∷ bytes ++ 10 ∷ [])

-- one line, or none for a good run
abbrev pub error_line : Status → List ℕ
error_line status = line_of (status_text status)

-- why there may be no run: the words ask for nothing, the image cannot be opened, or memory runs out
abbrev pub IsUnbegun : Status → Type 0
IsUnbegun Usage = Unit {0}
IsUnbegun MediaFault = Unit {0}
IsUnbegun NoMemory = Unit {0}
IsUnbegun _ = ⊥
