-- Readers of the parts of calls and raw commands.
use Rattle.std.proofs.Common.{◌≡◌, ℕ, ◌^◌, ◌<◌, List, ◌∷◌, ◌++◌, Option, Some, None, sym, ap, ◌∙◌, arith}
use Rattle.std.specs.Fmt.{decimal}
use Rattle.std.proofs.lemmas.Fmt.{decimal_injective}
use Rattle.std.proofs.lemmas.List.{append_cancel_left}
use Rattle.texts.specs.Reads.{Reads}
use Rattle.script_text.proofs.Words.{first_space}
use Rattle.script_text.proofs.Numbers.{decimal_is_word}

-- what comes after a front
pub behind : (front bytes rest tail : List ℕ) → bytes ≡ front ++ rest → bytes ≡ front ++ tail → rest ≡ tail
behind front bytes rest tail split other = append_cancel_left front rest tail (sym split ∙ other)

-- a reader of what comes after a front reads the whole
pub reads_behind : {X : Type 0} (IsOne : X → Type 0) (text : X → List ℕ) (front bytes rest : List ℕ) (result : Option X) → bytes ≡ front ++ rest
    → Reads IsOne text rest result → Reads IsOne (λ x. front ++ text x) bytes result
reads_behind IsOne text front bytes rest None split says = λ x is e. says x is (behind front bytes rest (text x) split e)
reads_behind IsOne text front bytes rest (Some x) split says = (says.0, split ∙ ap (λ r. front ++ r) says.1)

-- a number, a space and a rest are determined by their text
pub same_long_fields : (bytes rest tail : List ℕ) (m n : ℕ) → m < 2 ^ 64 → n < 2 ^ 64 → bytes ≡ decimal m ++ 32 ∷ rest → bytes ≡ decimal n ++ 32 ∷ tail → (m ≡ n) × (rest ≡ tail)
same_long_fields bytes rest tail m n mf nf is other =
    let both = first_space (decimal m) (decimal n) rest tail (decimal_is_word m mf) (decimal_is_word n nf) (sym is ∙ other) in
    (decimal_injective m n mf nf both.0, both.1)

-- the same for numbers of 32 bits
pub same_fields : (bytes rest tail : List ℕ) (m n : ℕ) → m < 2 ^ 32 → n < 2 ^ 32 → bytes ≡ decimal m ++ 32 ∷ rest → bytes ≡ decimal n ++ 32 ∷ tail → (m ≡ n) × (rest ≡ tail)
same_fields bytes rest tail m n mf nf is other = same_long_fields bytes rest tail m n (omega arith) (omega arith) is other

-- a number's text, a space and the rest
pub line_told : (line word rest : List ℕ) (t : ℕ) → line ≡ word ++ 32 ∷ rest → word ≡ decimal t → line ≡ decimal t ++ 32 ∷ rest
line_told line word rest t split first = split ∙ ap (λ (w : List ℕ). w ++ 32 ∷ rest) first
