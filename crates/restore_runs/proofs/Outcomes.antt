-- What is made of tables is made of the text that is their dump.
use Rattle.std.proofs.Common.{◌≡◌, ◌<◌, ℕ, List, length, Result, Ok, Err, refl, sym, subst}
use Rattle.history.specs.Rows.{NamedRows}
use Rattle.command_words.specs.declared.restore_numbers.RestoreNumbers.{RestoreNumbers}
use Rattle.script_run.specs.Input.{input_limit}
use Rattle.script_run.specs.declared.input.InputFault.{InputFault}
use Rattle.script_run.specs.declared.input.InputFault.TheVariants as input
use Rattle.dump_text.specs.Dump.{IsDumpOf}
use Rattle.restore_runs.specs.Making.{Makes, MakesFrom}
use Rattle.restore_runs.specs.Stops.{input_stop}
use Rattle.restore_runs.specs.declared.making.Made.{Made}
use Rattle.restore_runs.specs.declared.stop.Stop.{Stop}
use Rattle.restore_runs.specs.declared.stop.Stop.TheVariants.{TooLong, ReadFault, NoMemory, Dump, Shape as ShapeStop, Tables}

pub made_of_text : (asked : RestoreNumbers) (text : List ℕ) (tables : List NamedRows) (result : Result Made Stop) → IsDumpOf text tables → MakesFrom asked tables result → Makes asked text result
made_of_text asked text tables (Ok made) dump from = (tables, dump, from)
made_of_text asked text tables (Err TooLong) dump from = absurd from
made_of_text asked text tables (Err ReadFault) dump from = tt
made_of_text asked text tables (Err NoMemory) dump from = tt
made_of_text asked text tables (Err (Dump fault)) dump from = absurd from
made_of_text asked text tables (Err (ShapeStop bad)) dump from = (tables, dump, from)
made_of_text asked text tables (Err (Tables fault)) dump from = (tables, dump, from)

-- an input that was not read
pub not_read : (Told : Type 0) (left : List ℕ) (asked : RestoreNumbers) (fault : InputFault) (stop : Stop) → stop ≡ input_stop fault
    → (fault ≡ input.TooLong → (text : List ℕ) × (input_limit < length text) × (Told → left ≡ text)) → (text : List ℕ) × (Told → left ≡ text) × Makes asked text (Err stop)
not_read Told left asked fault stop is long =
    subst (λ (s : Stop). (text : List ℕ) × (Told → left ≡ text) × Makes asked text (Err s)) (sym is) (go fault long)
  where
    go : (f : InputFault) → (f ≡ input.TooLong → (text : List ℕ) × (input_limit < length text) × (Told → left ≡ text)) → (text : List ℕ) × (Told → left ≡ text) × Makes asked text (Err (input_stop f))
    go input.TooLong long = let text = long refl in (text.0, text.2, text.1)
    go input.Failed long = (left, (λ told. refl), tt)
    go input.NoMemory long = (left, (λ told. refl), tt)

-- an input is told as not read only where a read failed
pub read_failed : (fault : InputFault) → input_stop fault ≡ ReadFault → fault ≡ input.Failed
read_failed input.TooLong is = absurd (let no : ⊥ = cc is in no)
read_failed input.Failed is = refl
read_failed input.NoMemory is = absurd (let no : ⊥ = cc is in no)
