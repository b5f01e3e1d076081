-- What a reader of a text guarantees.
use Rattle.std.specs.Prelude.{ℕ, ◌≡◌, List, Option, Some, None}

-- Things of a kind have texts. What is read is of the kind and has the bytes as its text. If nothing is read, the bytes are the text of no
-- such thing.
abbrev pub Reads : {X : Type 0} → (X → Type 0) → (X → List ℕ) → List ℕ → Option X → Type 0
Reads {X} IsOne text bytes None = (x : X) → IsOne x → bytes ≡ text x → ⊥
Reads {X} IsOne text bytes (Some x) = IsOne x × (bytes ≡ text x)
