-- What a reader of a text guarantees if a thing may have several texts.
use Rattle.std.specs.Prelude.{ℕ, ◌≡◌, List, [], ◌∷◌, Option, Some, None}
use Rattle.std.specs.Borrow.{Bor}

-- What is read has the bytes as its text. If nothing is read, the bytes are the text of nothing of the kind.
abbrev pub ReadsText : {X : Type 0} → (X → List ℕ → Type 0) → List ℕ → Option X → Type 0
ReadsText {X} IsText bytes None = (x : X) → IsText x bytes → ⊥
ReadsText {X} IsText bytes (Some x) = IsText x bytes

-- The same, if what is read shows a thing of the kind.
abbrev pub ReadsShown : {X Y : Type 0} → (X → Y → Type 0) → (Y → List ℕ → Type 0) → List ℕ → Option X → Type 0
ReadsShown {X} {Y} Shows IsText bytes None = (y : Y) → IsText y bytes → ⊥
ReadsShown {X} {Y} Shows IsText bytes (Some x) = (y : Y) × Shows x y × IsText y bytes

-- bytes without a space
abbrev pub IsWord : List ℕ → Type 0
IsWord [] = Unit {0}
IsWord (byte ∷ bytes) = (byte ≡ 32 → ⊥) × IsWord bytes

-- a number and the bytes that are lent with it
abbrev pub place_and_bytes : ℕ × Bor (List ℕ) → ℕ × List ℕ
place_and_bytes p = (p.0, p.1.now)

-- two numbers and the bytes that are lent with them
abbrev pub edit_and_bytes : ℕ × ℕ × Bor (List ℕ) → ℕ × ℕ × List ℕ
edit_and_bytes p = (p.0, p.1, p.2.now)
