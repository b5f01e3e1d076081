-- What a script writes line by line, and the state that it leaves.
use Rattle.std.specs.Prelude.{ℕ, ◌≡◌, ◌+◌, List, [], ◌∷◌, ◌++◌, Bool, true, false}
use Rattle.std.specs.Fmt.{decimal}
use Rattle.std.specs.List.{concat}
use Rattle.texts.specs.MediaFault.{media_line}
use Rattle.texts.specs.Written.{IsWritten}
use Rattle.script_run.specs.Script.{Script}
use Rattle.script_run.specs.declared.ended.Ended.{Ended}
use Rattle.script_run.specs.declared.ended.Ended.TheVariants.{All, WriteFault, MediaFault, NoMemory}

-- The script ends at the n-th line in this way: whether the sink cut an answer short, what of the answer is still written, and the state
-- that is left.
abbrev pub Ends : {State : Type 0} → Script State → State → ℕ → List ℕ → Ended → Bool → List ℕ → State → Type 0
-- the answer is cut short, but what the line asks for has been done
Ends script old n line WriteFault cut rest new = (cut ≡ true) × (answer : List ℕ) × script.gives old n line answer new × IsWritten true rest answer
-- the medium failed, and the answer says so; it too may be cut short
Ends script old n line MediaFault cut rest new = (number : ℕ) × script.breaks old line number new × IsWritten cut rest (decimal number ++ 32 ∷ media_line)
-- nothing of an answer is written
Ends script old n line NoMemory cut rest new = (cut ≡ false) × (rest ≡ []) × script.stops old n line new
Ends script old n line All cut rest new = ⊥

-- The lines, numbered from n, are answered one after another by these answers, until all are answered or the script ends at one.
abbrev pub Answered : {State : Type 0} → Script State → State → ℕ → List (List ℕ) → Ended → Bool → List (List ℕ) → List ℕ → State → Type 0
Answered script old n [] ended cut [] rest new = (ended ≡ All) × (cut ≡ false) × (rest ≡ []) × (new ≡ old)
Answered script old n [] ended cut (answer ∷ answers) rest new = ⊥
Answered script old n (line ∷ lines) ended cut [] rest new = Ends script old n line ended cut rest new
Answered {State} script old n (line ∷ lines) ended cut (answer ∷ answers) rest new =
    (mid : State) × script.gives old n line answer mid × Answered script mid (n + 1) lines ended cut answers rest new

-- The lines of a script were answered from a first state on. What was written is the whole answers, followed by what was still written of
-- the one at which the script ended. A final state is come to, and if all lines were answered it is the state at the end.
pub record Ran {State : Type 0} (script : Script State) (Stands Comes : State → Type 0) (first : State) (lines : List (List ℕ))
    (ended : Ended) (cut : Bool) (text : List ℕ) : Type 0 where
  pub answers : List (List ℕ)
  pub rest : List ℕ
  pub text_is : text ≡ concat answers ++ rest
  pub final : State
  pub answered : Answered script first 1 lines ended cut answers rest final
  pub stands : ended ≡ All → Stands final
  pub comes : Comes final
