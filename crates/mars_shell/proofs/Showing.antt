-- Lines that are answered by a core whose data shows its state.
use Rattle.std.proofs.Common.{ℕ, List, Result, Ok, Err}
use Rattle.script_run.specs.Answers.{Answers}
use Rattle.script_run.specs.Script.{Script}
use Rattle.script_run.specs.declared.responder.Stop.{Stop}
use Rattle.script_run.specs.declared.responder.Stop.TheVariants.{Media, NoMemory}

-- what is known of a responder whatever its state comes to the states in which it stands after an answer
pub answers_shown : {State T : Type 0} (script : Script State) (Stands Comes : State → Type 0) (Shown : Type 0) (old : State) (n : ℕ) (line text : List ℕ) (result : Result T Stop)
    → Shown → Answers script Stands Comes old n line text result → Answers script (λ (s : State). Stands s × Shown) Comes old n line text result
answers_shown script Stands Comes Shown old n line text (Ok x) shown done = (done.0, done.1, (done.2, shown), done.3)
answers_shown script Stands Comes Shown old n line text (Err (Media number)) shown done = done
answers_shown script Stands Comes Shown old n line text (Err NoMemory) shown done = done
