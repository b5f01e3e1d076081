-- The lines of a transaction, put together from their pieces.
use Rattle.std.proofs.Common.{◌≡◌, ℕ, List, [], ◌∷◌, ◌++◌, append_assoc}
use Rattle.std.specs.Prelude.{codes}
use Rattle.std.specs.Fmt.{decimal}
use Rattle.history.specs.declared.call.TableCall.{TableCall}
use Rattle.history.specs.declared.call.Reply.{Reply}
use Rattle.script_text.specs.Replies.{reply_line}

-- the line with the number and the caller
pub head_pieces : (at caller : ℕ) (number who : List ℕ) → number ≡ decimal at → who ≡ decimal caller
    → codes "txn " ++ (number ++ (codes " caller " ++ (who ++ 10 ∷ []))) ≡ codes "txn " ++ decimal at ++ codes " caller " ++ decimal caller ++ 10 ∷ []
head_pieces at caller number who first second = rw (first, second) (simp append_assoc)

-- that line and those of the replies
pub done_pieces : (at caller : ℕ) (replies : List ℕ)
    → (codes "txn " ++ decimal at ++ codes " caller " ++ decimal caller ++ 10 ∷ []) ++ replies ≡ codes "txn " ++ decimal at ++ codes " caller " ++ decimal caller ++ 10 ∷ replies
done_pieces at caller replies = simp append_assoc

-- the lines of the reply to a call
abbrev pub kept_lines : ℕ → TableCall × Reply → List ℕ
kept_lines caller entry = reply_line caller entry.1
