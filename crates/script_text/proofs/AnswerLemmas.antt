-- Pieces that make up the line of an answer.
use Rattle.std.proofs.Common.{◌≡◌, ℕ, List, [], ◌∷◌, ◌++◌, refl, sym, ◌∙◌, ap, subst, append_assoc}
use Rattle.std.specs.Prelude.{codes, Result, OnOk}
use Rattle.std.specs.Fmt.{decimal}
use Rattle.script_text.specs.HexText.{hex_of}
use Rattle.script_text.specs.AnswerLines.{answer_text}
use Rattle.script_text.specs.Replies.{told_line}
use Rattle.script_text.specs.declared.answer.Answer.{Answer}
use Rattle.script_text.specs.declared.answer.Answer.TheVariants.{Part, Data}

-- the number and what comes after it
answer_is : (number : ℕ) (answer : Answer) (text rest : List ℕ) → text ≡ decimal number → rest ≡ 32 ∷ (answer_text number answer ++ 10 ∷ []) → text ++ rest ≡ told_line number (answer_text number answer)
answer_is number answer text rest first behind = rw (first, behind) (sym (append_assoc (decimal number) (32 ∷ answer_text number answer) (10 ∷ [])))

-- what was appended is the line
pub answer_appended : {T E : Type 0} (number : ℕ) (now answer : Answer) (text rest old new : List ℕ) (result : Result T E)
    → text ≡ decimal number → now ≡ answer → rest ≡ 32 ∷ (answer_text number answer ++ 10 ∷ []) → OnOk result (new ≡ old ++ (text ++ rest)) → OnOk result (new ≡ old ++ told_line number (answer_text number now))
answer_appended number now answer text rest old new result first is behind ok =
    subst (λ (line : List ℕ). OnOk result (new ≡ old ++ line)) (answer_is number answer text rest first behind ∙ ap (λ (a : Answer). told_line number (answer_text number a)) (sym is)) ok

pub part_text : (number addr : ℕ) (bytes : List ℕ) → codes " part " ++ (decimal addr ++ 32 ∷ (hex_of bytes ++ 10 ∷ [])) ≡ 32 ∷ (answer_text number (Part addr bytes) ++ 10 ∷ [])
part_text number addr bytes = simp append_assoc

-- a part after the number, its word and the address
pub part_appended : {T E : Type 0} (number : ℕ) (now : Answer) (addr : ℕ) (part bytes text old new : List ℕ) (result : Result T E) → text ≡ decimal number → bytes ≡ part → now ≡ Part addr part
    → OnOk result (new ≡ old ++ ((text ++ (codes " part " ++ (decimal addr ++ 32 ∷ []))) ++ (hex_of bytes ++ 10 ∷ []))) → OnOk result (new ≡ old ++ told_line number (answer_text number now))
part_appended number now addr part bytes text old new result first same is ok =
    let behind = codes " part " ++ (decimal addr ++ 32 ∷ (hex_of bytes ++ 10 ∷ [])) in
    let together : (text ++ (codes " part " ++ (decimal addr ++ 32 ∷ []))) ++ (hex_of bytes ++ 10 ∷ []) ≡ text ++ behind = simp append_assoc in
    answer_appended number now (Part addr bytes) text behind old new result first (is ∙ ap (Part addr) (sym same)) (part_text number addr bytes)
    (subst (λ (line : List ℕ). OnOk result (new ≡ old ++ line)) together ok)

-- committed data after the number and its word
pub data_appended : {T E : Type 0} (number : ℕ) (now : Answer) (bytes text old new : List ℕ) (result : Result T E) → text ≡ decimal number → now ≡ Data bytes
    → OnOk result (new ≡ old ++ ((text ++ codes " data ") ++ (hex_of bytes ++ 10 ∷ []))) → OnOk result (new ≡ old ++ told_line number (answer_text number now))
data_appended number now bytes text old new result first is ok =
    answer_appended number now (Data bytes) text (codes " data " ++ (hex_of bytes ++ 10 ∷ [])) old new result first is refl
    (subst (λ (line : List ℕ). OnOk result (new ≡ old ++ line)) (append_assoc text (codes " data ") (hex_of bytes ++ 10 ∷ [])) ok)
