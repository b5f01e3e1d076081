-- Words, and the first space after one.
use Rattle.std.proofs.Common.{◌≡◌, ℕ, List, [], ◌∷◌, ◌++◌, refl}
use Rattle.script_text.specs.Reads.{IsWord}

-- a word stays one with a further byte that is not a space
pub IsWord-push : (word : List ℕ) (byte : ℕ) → IsWord word → (byte ≡ 32 → ⊥) → IsWord (word ++ byte ∷ [])
IsWord-push [] byte is other = (other, tt)
IsWord-push (x ∷ word) byte is other = (is.0, IsWord-push word byte is.1 other)

-- there is no space in a word
pub no_space : (word front rest : List ℕ) → IsWord word → word ≡ front ++ 32 ∷ rest → ⊥
no_space [] [] rest is e = cc
no_space [] (y ∷ front) rest is e = cc
no_space (x ∷ word) [] rest is e = is.0 cc
no_space (x ∷ word) (y ∷ front) rest is e = no_space word front rest is.1 cc

-- the first space is determined
pub first_space : (a b r s : List ℕ) → IsWord a → IsWord b → a ++ 32 ∷ r ≡ b ++ 32 ∷ s → (a ≡ b) × (r ≡ s)
first_space [] [] r s wa wb e = (refl, cc)
first_space [] (y ∷ b) r s wa wb e = absurd (wb.0 cc)
first_space (x ∷ a) [] r s wa wb e = absurd (wa.0 cc)
first_space (x ∷ a) (y ∷ b) r s wa wb e =
    let head : x ≡ y = cc in
    let tail : a ++ 32 ∷ r ≡ b ++ 32 ∷ s = cc in
    let both = first_space a b r s wa.1 wb.1 tail in
    (cc (both.0), both.1)
