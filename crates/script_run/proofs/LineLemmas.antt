-- The first line of an input.
use Rattle.std.proofs.Common.{◌≡◌, ℕ, ◌+◌, ◌-◌, ◌<◌, List, [], ◌∷◌, ◌++◌, length, take, drop, get_or, refl, sym, ap, ◌∙◌, cond, arith}
use Rattle.std.proofs.lemmas.List.{take_rest, take-append-drop, drop_more, length-drop}
use Rattle.std.proofs.lemmas.Bool.{ne_eqb}
use Rattle.std.specs.List.{onto_first}
use Rattle.script_run.specs.Lines.{lines_of, IsOneLine}

pub IsOneLine-push : (line : List ℕ) (b : ℕ) → IsOneLine line → (b ≡ 10 → ⊥) → IsOneLine (line ++ b ∷ [])
IsOneLine-push [] b is other = (other, tt)
IsOneLine-push (x ∷ line) b is other = (is.0, IsOneLine-push line b is.1 other)

-- a line, a newline, and the rest
pub first_line : (line rest : List ℕ) → IsOneLine line → lines_of (line ++ 10 ∷ rest) ≡ line ∷ lines_of rest
first_line [] rest is = refl
first_line (x ∷ line) rest is =
    ap (λ t. cond t ([] ∷ lines_of (line ++ 10 ∷ rest)) (onto_first x (lines_of (line ++ 10 ∷ rest)))) (ne_eqb x 10 is.0)
    ∙ ap (onto_first x) (first_line line rest is.1)

-- a last line without a newline
pub last_line : (x : ℕ) (line : List ℕ) → IsOneLine (x ∷ line) → lines_of (x ∷ line) ≡ (x ∷ line) ∷ []
last_line x [] is = ap (λ t. cond t ([] ∷ []) ((x ∷ []) ∷ [])) (ne_eqb x 10 is.0)
last_line x (y ∷ line) is =
    ap (λ t. cond t ([] ∷ lines_of (y ∷ line)) (onto_first x (lines_of (y ∷ line)))) (ne_eqb x 10 is.0)
    ∙ ap (onto_first x) (last_line y line is.1)

-- a newline at a place, and none before it
pub found_line : (bytes : List ℕ) (i : ℕ) → i < length bytes → IsOneLine (take i bytes) → get_or bytes i 0 ≡ 10
    → (lines_of bytes ≡ take i bytes ∷ lines_of (take (length bytes - (i + 1)) (drop (i + 1) bytes))) × (length (take (length bytes - (i + 1)) (drop (i + 1) bytes)) < length bytes)
found_line bytes i lt is newline =
    let whole : take (length bytes - (i + 1)) (drop (i + 1) bytes) ≡ drop (i + 1) bytes = take_rest bytes (i + 1) in
    let split : bytes ≡ take i bytes ++ 10 ∷ drop (i + 1) bytes =
    sym (take-append-drop i bytes) ∙ ap (λ x. take i bytes ++ x) (drop_more bytes i 0 lt ∙ ap (λ b. b ∷ drop (i + 1) bytes) newline) in (
      ap lines_of split ∙ first_line (take i bytes) (drop (i + 1) bytes) is ∙ ap (λ x. take i bytes ∷ lines_of x) (sym whole),
      omega (arith, ap length whole, length-drop (i + 1) bytes),
    )

-- no newline, and not empty
pub only_line : (bytes : List ℕ) → 0 < length bytes → IsOneLine bytes → lines_of bytes ≡ bytes ∷ []
only_line [] some is = absurd (omega arith)
only_line (x ∷ bytes) some is = last_line x bytes is
