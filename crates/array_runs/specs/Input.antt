-- What a status says of the input.
use Rattle.std.specs.Prelude.{ℕ, ◌≡◌, ◌<◌, ◌≤◌, List, [], length}
use Rattle.script_run.specs.Input.{input_limit}
use Rattle.array_runs.specs.declared.status.Status.{Status}
use Rattle.array_runs.specs.declared.status.Status.TheVariants.{TooLong, ReadFault, NoMemory}

-- From what there was to be read and what is left of it: `TooLong` comes exactly when there was more than the limit, and else the input was
-- read to its end. If the source failed or memory ran out, nothing is said of it.
abbrev pub InputSays : Status → List ℕ → List ℕ → Type 0
InputSays TooLong given left = input_limit < length given
InputSays ReadFault given left = Unit {0}
InputSays NoMemory given left = Unit {0}
InputSays _ given left = (length given ≤ input_limit) × (left ≡ [])
