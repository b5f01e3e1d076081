-- What lines come to one after another.
use Rattle.std.proofs.Common.{Bool, false, ◌≡◌, ℕ, ◌+◌, List, [], ◌∷◌, ◌++◌, refl, sym, ap, subst, ◌∙◌}
use Rattle.std.specs.List.{concat}
use Rattle.std.proofs.lemmas.List.{append_assoc, append-nil}
use Rattle.script_run.specs.Counts.{Counts}
use Rattle.script_run.specs.Script.{Script}
use Rattle.script_run.specs.Transcript.{Ends, Answered}
use Rattle.script_run.specs.declared.ended.Ended.{Ended}
use Rattle.script_run.specs.declared.ended.Ended.TheVariants.{All}

-- one answer more
pub concat-push : (answers : List (List ℕ)) (answer : List ℕ) → concat (answers ++ answer ∷ []) ≡ concat answers ++ answer
concat-push [] answer = append-nil answer
concat-push (first ∷ answers) answer = ap (λ x. first ++ x) (concat-push answers answer) ∙ sym (append_assoc first (concat answers) answer)

-- counts that were still as at first
pub counts_on : (ended : Ended) (first sink sink' first' media media' : ℕ) → sink ≡ first → media ≡ first' → Counts ended sink sink' media media' → Counts ended first sink' first' media'
counts_on ended first sink sink' first' media media' is is' counts =
    subst (λ (n : ℕ). Counts ended n sink' first' media') is (subst (λ (m : ℕ). Counts ended sink sink' m media') is' counts)

module _ {State : Type 0} (script : Script State) where
  pub Answered-end : (old : State) (n : ℕ) (all : List (List ℕ)) (line : List ℕ) (lines : List (List ℕ)) (ended : Ended) (cut : Bool) (rest : List ℕ) (new : State)
      → all ≡ line ∷ lines → Ends script old n line ended cut rest new → Answered script old n all ended cut [] rest new
  Answered-end old n all line lines ended cut rest new is ends = subst (λ ls. Answered script old n ls ended cut [] rest new) (sym is) ends

  pub Answered-more : (old : State) (n : ℕ) (all : List (List ℕ)) (line : List ℕ) (lines : List (List ℕ)) (answer : List ℕ) (mid : State) (ended : Ended) (cut : Bool) (answers : List (List ℕ)) (rest : List ℕ) (new : State)
      → all ≡ line ∷ lines → script.gives old n line answer mid → Answered script mid (n + 1) lines ended cut answers rest new → Answered script old n all ended cut (answer ∷ answers) rest new
  Answered-more old n all line lines answer mid ended cut answers rest new is gives more =
      subst (λ ls. Answered script old n ls ended cut (answer ∷ answers) rest new) (sym is) (mid, gives, more)

  pub Answered-all : (old : State) (n : ℕ) (all : List (List ℕ)) → all ≡ [] → Answered script old n all All false [] [] old
  Answered-all old n all is = subst (λ ls. Answered script old n ls All false [] [] old) (sym is) (refl, refl, refl, refl)
