-- What readers of a script ask for.
use Rattle.std.specs.Prelude.{ℕ, ◌+◌, nat_eq, if◌then◌else◌, List, [], ◌∷◌, ◌++◌, map}
use Rattle.std.specs.List.{range_with_len}
use Rattle.history.specs.declared.key.Key.{Key}
use Rattle.script_text.specs.declared.joint_line.JointLine.{JointLine}
use Rattle.script_text.specs.declared.joint_line.JointLine.TheVariants.{Read}

-- the keys that a reader asks for, in order
abbrev pub keys_by : ℕ → List JointLine → List Key
keys_by reader [] = []
keys_by reader (Read other key ∷ lines) = if nat_eq other reader then key ∷ keys_by reader lines else keys_by reader lines
keys_by reader (line ∷ lines) = keys_by reader lines

-- what each of n readers asks for, from this one on
abbrev pub keys_from : ℕ → ℕ → List JointLine → List (List Key)
keys_from reader n lines = map (λ (one : ℕ). keys_by one lines) (range_with_len reader n)

-- all that the readers from this one on ask for, if these lines are the rest
abbrev pub all_asked : ℕ → List (List Key) → List JointLine → List (List Key)
all_asked reader [] lines = []
all_asked reader (keys ∷ asks) lines = (keys ++ keys_by reader lines) ∷ all_asked (reader + 1) asks lines
