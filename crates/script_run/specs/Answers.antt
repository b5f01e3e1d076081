-- What comes of one line.
use Rattle.std.specs.Prelude.{ℕ, ◌≡◌, List, Bool, false, Result, Ok, Err}
use Rattle.mars_base.specs.Causes.{Rose}
use Rattle.script_run.specs.Script.{Script}
use Rattle.script_run.specs.Transcript.{Ends}
use Rattle.script_run.specs.declared.ended.Ended.{Ended}
use Rattle.script_run.specs.declared.ended.Ended.TheVariants.{All}
use Rattle.script_run.specs.declared.responder.Stop.{Stop}
use Rattle.script_run.specs.declared.responder.Stop.TheVariants.{Media, NoMemory}

-- It is answered by this text, or the medium failed, or memory ran out. In each case some state is come to, and after an answer that is the
-- state.
abbrev pub Answers : {State T : Type 0} → Script State → (State → Type 0) → (State → Type 0) → State → ℕ → List ℕ → List ℕ → Result T Stop → Type 0
Answers {State} script Stands Comes old n line text (Ok x) = (new : State) × script.gives old n line text new × Stands new × Comes new
Answers {State} script Stands Comes old n line text (Err (Media number)) = (new : State) × script.breaks old line number new × Comes new
Answers {State} script Stands Comes old n line text (Err NoMemory) = (new : State) × script.stops old n line new × Comes new

-- the medium's count of faults: it rose if the medium failed, and else is as it was
abbrev pub HasStopCause : {T : Type 0} → ℕ → ℕ → Result T Stop → Type 0
HasStopCause old new (Err (Media number)) = Rose old new
HasStopCause old new _ = new ≡ old

-- the same for a line whose answer was written, or that ended the script
abbrev pub LineRan : {State T : Type 0} → Script State → (State → Type 0) → (State → Type 0) → State → ℕ → List ℕ → Result T Ended → Bool → List ℕ → Type 0
LineRan {State} script Stands Comes old n line (Ok x) cut text = (cut ≡ false) × (new : State) × script.gives old n line text new × Stands new × Comes new
LineRan {State} script Stands Comes old n line (Err ended) cut text = (new : State) × Ends script old n line ended cut text new × Comes new

-- how the script has ended if no further line follows
abbrev pub ending : {T : Type 0} → Result T Ended → Ended
ending (Ok x) = All
ending (Err ended) = ended
