-- Pieces that make up the line of a reply.
use Rattle.std.proofs.Common.{◌≡◌, ℕ, List, [], ◌∷◌, ◌++◌, refl, ap, ◌∙◌, append_assoc}
use Rattle.std.specs.Prelude.{codes}
use Rattle.std.specs.Fmt.{decimal}
use Rattle.std.proofs.lemmas.List.{append-nil}
use Rattle.history.specs.declared.call.Reply.{Reply}
use Rattle.history.specs.declared.call.Reply.TheVariants.{Listed, LogFull, Media}
use Rattle.texts.specs.MediaFault.{numbered_media_line}
use Rattle.script_text.specs.Replies.{reply_text, told_line, row_lines, reply_line, bad_line}

-- the number, a space, the words and the newline
pub told_pieces : (caller : ℕ) (words number : List ℕ) → number ≡ decimal caller → number ++ (32 ∷ (words ++ 10 ∷ [])) ≡ told_line caller words
told_pieces caller words number is = rw is (simp append_assoc)

-- the line of a row
abbrev pub row_line : ℕ → ℕ × List ℕ → List ℕ
row_line caller row = told_line caller (codes "row " ++ decimal row.0 ++ 32 ∷ row.1)

pub row_pieces : (caller at : ℕ) (value number key text : List ℕ) → number ≡ decimal caller → key ≡ decimal at → text ≡ value
    → number ++ (codes " row " ++ (key ++ 32 ∷ (text ++ 10 ∷ []))) ≡ row_line caller (at, value)
row_pieces caller at value number key text first second third = rw (first, second, third) (simp append_assoc)

-- the words of a full log
pub log_full_pieces : (logger held needed : ℕ) (first second third : List ℕ) → first ≡ decimal logger → second ≡ decimal held → third ≡ decimal needed
    → codes "log full " ++ (first ++ 32 ∷ (second ++ 32 ∷ (third ++ []))) ≡ reply_text (LogFull logger held needed)
log_full_pieces logger held needed first second third one two three = rw (one, two, three) (simp (append_assoc, append-nil))

-- the line of a reply and those of its rows
pub reply_lines : (caller : ℕ) (reply : Reply) (rows : List ℕ) → rows ≡ row_lines caller reply → told_line caller (reply_text reply) ++ rows ≡ reply_line caller reply
unfolding reply_line
reply_lines caller reply rows is = ap (λ (lines : List ℕ). told_line caller (reply_text reply) ++ lines) is

-- a reply that lists nothing has no lines of rows
pub no_rows : (caller : ℕ) (reply : Reply) → ((rows : List (ℕ × List ℕ)) → reply ≡ Listed rows → ⊥) → row_lines caller reply ≡ []
no_rows caller (Listed rows) other = absurd (other rows refl)
no_rows caller reply other = refl

-- the three numbers of a full log
pub log_full_text : (logger held needed : ℕ)
    → codes " log full " ++ (decimal logger ++ 32 ∷ (decimal held ++ 32 ∷ (decimal needed ++ 10 ∷ []))) ≡ 32 ∷ (reply_text (LogFull logger held needed) ++ 10 ∷ [])
log_full_text logger held needed = simp append_assoc

-- the answer to a bad line
pub bad_line_is : (n : ℕ) → codes "bad line " ++ (decimal n ++ 10 ∷ []) ≡ bad_line n
unfolding bad_line
bad_line_is n = simp append_assoc

-- the line of a fault of the medium
pub media_line_is : (caller : ℕ) → reply_line caller Media ≡ numbered_media_line caller
unfolding reply_line
media_line_is caller = append-nil (told_line caller (codes "media fault")) ∙ append_assoc (decimal caller) (32 ∷ codes "media fault") (10 ∷ [])

-- the line that counts rows
pub rows_pieces : (caller count : ℕ) (number many : List ℕ) → number ≡ decimal caller → many ≡ decimal count
    → number ++ (codes " rows " ++ (many ++ 10 ∷ [])) ≡ told_line caller (codes "rows " ++ decimal count)
rows_pieces caller count number many first second = rw (first, second) (simp append_assoc)
