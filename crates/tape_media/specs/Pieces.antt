-- Pieces as steps.
use Rattle.std.specs.Prelude.{List, [], ◌∷◌}
use Rattle.tape_media.specs.declared.piece.Piece.{Piece}
use Rattle.tape_media.specs.declared.piece.Piece.TheVariants.{Write, Barrier}
use Rattle.tape_media.specs.declared.piece.Entry.{Entry}
use Rattle.tape_media.specs.Steps.{Step, Made, writes, barrier}

-- what a piece does
abbrev pub step_of : Piece → Step
step_of (Write at bytes) = writes at bytes.items
step_of Barrier = barrier

-- a piece of the tape, with its moment
abbrev pub made_of : Entry → Made
made_of entry = record { moment = entry.moment; step = step_of entry.piece }

-- those of the whole tape
abbrev pub made_in : List Entry → List Made
made_in [] = []
made_in (entry ∷ later) = made_of entry ∷ made_in later
