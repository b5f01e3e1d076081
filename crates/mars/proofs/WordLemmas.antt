-- The words of a command line.
use Rattle.std.proofs.Common.{◌≡◌, ℕ, ◌≤◌, ◌-◌, List, [], ◌∷◌, length, take, drop, get_or, sym, ap, ap₂, ◌∙◌, arith}
use Rattle.std.proofs.Math.Seq.{take-length}
use Rattle.mars.specs.Choice.{IsCommand}
use Rattle.command_words.specs.Asked.{AskForNothing}

-- two words and those after them
pub split_two : {X : Type 0} (xs : List X) (second : X) → 2 ≤ length xs → second ≡ get_or xs 1 second
    → (first : X) × (xs ≡ first ∷ second ∷ take (length xs - 2) (drop 2 xs))
split_two [] second long is = absurd (omega (arith, long))
split_two (x ∷ []) second long is = absurd (omega (arith, long))
split_two (x ∷ y ∷ ys) second long is =
    let count : length (x ∷ y ∷ ys) - 2 ≡ length ys = omega arith in
    let rest : take (length (x ∷ y ∷ ys) - 2) ys ≡ ys = ap (λ n. take n ys) count ∙ take-length ys in
    (x, ap₂ (λ next others. x ∷ next ∷ others) (sym is) (sym rest))

inner : {first second third fourth : List ℕ} {rest behind : List (List ℕ)} → first ∷ second ∷ rest ≡ third ∷ fourth ∷ behind → rest ≡ behind
inner same = cc same

-- a line whose words after the image ask for nothing is no command
pub no_command : (line : List (List ℕ)) (first second : List ℕ) (rest : List (List ℕ)) → line ≡ first ∷ second ∷ rest → AskForNothing rest
    → (name : List ℕ) (words : List (List ℕ)) → IsCommand line name words → ⊥
no_command line first second rest is nothing name words command =
    let same : words ≡ rest = inner (sym command.says ∙ is) in
    let asks = command.asks in
    nothing command.asked (rw same at asks)
