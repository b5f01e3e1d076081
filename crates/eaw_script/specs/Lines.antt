-- How the lines of a script of raw commands act.
use Rattle.std.specs.Prelude.{ℕ, ◌≡◌, ◌⊎◌, List, [], ◌∷◌, ◌++◌, Some, None, option_map}
use Rattle.array_shape.specs.Logged.{ranges_of}
use Rattle.script_text.specs.Line.{IsPassedOver, IsLineOf}
use Rattle.script_text.specs.Eaw.{Raw, IsTextOf}
use Rattle.script_text.specs.AnswerLines.{answer_text}
use Rattle.script_text.specs.Replies.{told_line, bad_line}
use Rattle.script_text.specs.declared.answer.Answer.{Answer}
use Rattle.script_run.specs.Script.{Script}
use Rattle.eaw_script.specs.Tests.{Tests, asks, checks}
use Rattle.eaw_script.specs.Answers.{AnswersWith, state_after}
use Rattle.eaw_script.specs.Progress.{Progress}

-- The n-th line is answered by this text and leaves this progress: it is passed over, or a command of one of the shape's numbers, or bad.
abbrev pub RawLineGives : Progress → ℕ → List ℕ → List ℕ → Progress → Type 0
RawLineGives old n line text new = (IsPassedOver line × (text ≡ []) × (new ≡ old)) ⊎ (((t : ℕ) × (raw : Raw) × (answer : Answer)
    × IsLineOf (IsTextOf t raw) old.shape.numbers t line × (new ≡ record old { state = new.state; past = old.past ++ old.state.bytes ∷ [] })
    × AnswersWith old.shape (option_map ranges_of (old.state.logs t)) old.state t raw answer new.state × (text ≡ told_line t (answer_text t answer)))
    ⊎ ((IsPassedOver line → ⊥) × ((t : ℕ) (raw : Raw) → IsLineOf (IsTextOf t raw) old.shape.numbers t line → ⊥) × (text ≡ bad_line n) × (new ≡ old)))

-- the medium fails in number t's command, which passes each test and uses the medium, so the data that it was to make is in doubt
abbrev pub LineBreaks : Progress → List ℕ → ℕ → Progress → Type 0
LineBreaks old line t new = (raw : Raw) × IsLineOf (IsTextOf t raw) old.shape.numbers t line
    × (let asked : Tests = asks old.shape (option_map ranges_of (old.state.logs t)) raw in checks old.shape asked None × asked.media)
    × (new ≡ record old { doubt = Some (state_after raw old.state).bytes })

-- if memory runs out, it is for the answer of a line that was done
abbrev pub raw_script : Script Progress
raw_script = record { gives = RawLineGives; breaks = LineBreaks; stops = λ old n line new. (text : List ℕ) × RawLineGives old n line text new }
