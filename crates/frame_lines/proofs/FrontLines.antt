-- Where lines of frames end before an answer is determined, if that does not begin as they do.
use Rattle.std.proofs.Common.{◌≡◌, ℕ, zero, suc, ◌/◌, ◌%◌, List, [], ◌∷◌, ◌++◌, append_assoc, sym, ap, ◌∙◌, arith}
use Rattle.std.specs.Prelude.{slice_index}
use Rattle.hex.specs.Hex.{lower_digits, encode_with}
use Rattle.eaw_face.specs.Frame.{Frame, frame_bytes}
use Rattle.script_text.specs.HexText.{hex_of}
use Rattle.frame_lines.specs.Framed.{lines_of_frames}
use Rattle.frame_lines.specs.Lines.{frame_word}

-- how a text begins
abbrev pub head : List ℕ → ℕ
head text = slice_index text 0

-- no line ends within a text
abbrev IsOneLine : List ℕ → Type 0
IsOneLine [] = Unit {0}
IsOneLine (x ∷ text) = (x ≡ 10 → ⊥) × IsOneLine text

-- what is behind the first end of a line is determined
first_end : (a b r s : List ℕ) → IsOneLine a → IsOneLine b → a ++ 10 ∷ r ≡ b ++ 10 ∷ s → r ≡ s
first_end [] [] r s one other e = cc
first_end [] (y ∷ b) r s one other e = absurd (other.0 cc)
first_end (x ∷ a) [] r s one other e = absurd (one.0 cc)
first_end (x ∷ a) (y ∷ b) r s one other e = let tail : a ++ 10 ∷ r ≡ b ++ 10 ∷ s = cc in first_end a b r s one.1 other.1 tail

-- a hexadecimal digit ends no line, and nor does what is read behind the last one
no_end : (v : ℕ) → slice_index lower_digits v ≡ 10 → ⊥
no_end zero is = omega (arith, is)
no_end (suc zero) is = omega (arith, is)
no_end (suc (suc zero)) is = omega (arith, is)
no_end (suc (suc (suc zero))) is = omega (arith, is)
no_end (suc (suc (suc (suc zero)))) is = omega (arith, is)
no_end (suc (suc (suc (suc (suc zero))))) is = omega (arith, is)
no_end (suc (suc (suc (suc (suc (suc zero)))))) is = omega (arith, is)
no_end (suc (suc (suc (suc (suc (suc (suc zero))))))) is = omega (arith, is)
no_end (suc (suc (suc (suc (suc (suc (suc (suc zero)))))))) is = omega (arith, is)
no_end (suc (suc (suc (suc (suc (suc (suc (suc (suc zero))))))))) is = omega (arith, is)
no_end (suc (suc (suc (suc (suc (suc (suc (suc (suc (suc zero)))))))))) is = omega (arith, is)
no_end (suc (suc (suc (suc (suc (suc (suc (suc (suc (suc (suc zero))))))))))) is = omega (arith, is)
no_end (suc (suc (suc (suc (suc (suc (suc (suc (suc (suc (suc (suc zero)))))))))))) is = omega (arith, is)
no_end (suc (suc (suc (suc (suc (suc (suc (suc (suc (suc (suc (suc (suc zero))))))))))))) is = omega (arith, is)
no_end (suc (suc (suc (suc (suc (suc (suc (suc (suc (suc (suc (suc (suc (suc zero)))))))))))))) is = omega (arith, is)
no_end (suc (suc (suc (suc (suc (suc (suc (suc (suc (suc (suc (suc (suc (suc (suc zero))))))))))))))) is = omega (arith, is)
no_end (suc (suc (suc (suc (suc (suc (suc (suc (suc (suc (suc (suc (suc (suc (suc (suc v)))))))))))))))) is = omega (arith, is)

hex_one_line : (bytes : List ℕ) → IsOneLine (hex_of bytes)
unfolding encode_with
hex_one_line [] = tt
hex_one_line (b ∷ bytes) = (no_end (b / 16), (no_end (b % 16), hex_one_line bytes))

-- the line of a frame, up to its end
front_one_line : (bytes : List ℕ) → IsOneLine (frame_word ++ hex_of bytes)
front_one_line bytes = (λ e. omega (arith, e), (λ e. omega (arith, e), (λ e. omega (arith, e), (λ e. omega (arith, e), (λ e. omega (arith, e), (λ e. omega (arith, e), hex_one_line bytes))))))

cut : (front rest answer : List ℕ) → ((front ++ 10 ∷ []) ++ rest) ++ answer ≡ front ++ 10 ∷ (rest ++ answer)
cut front rest answer = append_assoc (front ++ 10 ∷ []) rest answer ∙ append_assoc front (10 ∷ []) (rest ++ answer)

pub determined : (sent frames : List Frame) (one other : List ℕ) → (head one ≡ 102 → ⊥) → (head other ≡ 102 → ⊥) → lines_of_frames sent ++ one ≡ lines_of_frames frames ++ other → one ≡ other
determined [] [] one other this that is = is
determined [] (f ∷ frames) one other this that is = absurd (this (ap head is))
determined (s ∷ sent) [] one other this that is = absurd (that (sym (ap head is)))
determined (s ∷ sent) (f ∷ frames) one other this that is =
    determined sent frames one other this that
    (first_end (frame_word ++ hex_of (frame_bytes s)) (frame_word ++ hex_of (frame_bytes f)) (lines_of_frames sent ++ one) (lines_of_frames frames ++ other) (front_one_line (frame_bytes s)) (front_one_line (frame_bytes f))
    (sym (cut (frame_word ++ hex_of (frame_bytes s)) (lines_of_frames sent) one) ∙ is ∙ cut (frame_word ++ hex_of (frame_bytes f)) (lines_of_frames frames) other))
