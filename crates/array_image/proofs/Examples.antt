-- Small cases, computed.
use Rattle.std.proofs.Common.{◌≡◌, ℕ, zero, suc, Bool, true, false, List, [], ◌∷◌, refl}
use Rattle.array_shape.specs.Logged.{Part, applied}
use Rattle.row_bytes.specs.declared.row.Row.{Row}
use Rattle.row_bytes.specs.Said.{row_said}
use Rattle.array_image.specs.Decided.{carried, decides}

-- the 16 bytes of a row that was committed alone with order number 1
alone : row_said (195 ∷ 1 ∷ 0 ∷ 0 ∷ 1 ∷ 0 ∷ 0 ∷ 0 ∷ 0 ∷ 0 ∷ 0 ∷ 0 ∷ 0 ∷ 0 ∷ 1 ∷ 0 ∷ []) ≡ record { voted = true; mask = 1; first = 0; count = 1; group = 0; order = 1 }
unfolding row_said
alone = refl

-- and of one in the group of the numbers 0 and 1, not voted
grouped : row_said (0 ∷ 1 ∷ 0 ∷ 0 ∷ 1 ∷ 0 ∷ 3 ∷ 0 ∷ 0 ∷ 0 ∷ 0 ∷ 0 ∷ 0 ∷ 0 ∷ 0 ∷ 2 ∷ []) ≡ record { voted = false; mask = 1; first = 0; count = 1; group = 3; order = 512 }
unfolding row_said
grouped = refl

-- numbers 0 and 1 in one group at two loggers, each row voted, but for the last one if it is not; number 2 alone at logger 1
some_rows : Bool → ℕ → ℕ → Row
some_rows last zero zero = record { voted = true; mask = 3; first = 0; count = 1; group = 3; order = 1 }
some_rows last zero (suc zero) = record { voted = true; mask = 3; first = 0; count = 0; group = 3; order = 1 }
some_rows last (suc zero) zero = record { voted = true; mask = 3; first = 0; count = 2; group = 3; order = 1 }
some_rows last (suc zero) (suc zero) = record { voted = last; mask = 3; first = 0; count = 1; group = 3; order = 1 }
some_rows last (suc zero) (suc (suc zero)) = record { voted = true; mask = 2; first = 0; count = 1; group = 0; order = 2 }
some_rows last g t = record { voted = false; mask = 0; first = 0; count = 0; group = 0; order = 0 }

all_voted : decides 2 3 (some_rows true) 0 1 ≡ true
unfolding some_rows carried
all_voted = refl

one_missing : decides 2 3 (some_rows false) 0 0 ≡ false
unfolding some_rows carried
one_missing = refl

other_stays : decides 2 3 (some_rows false) 1 2 ≡ true
unfolding some_rows carried
other_stays = refl

no_such_row : decides 2 3 (some_rows true) 0 2 ≡ false
unfolding some_rows carried
no_such_row = refl

-- a logger that the array does not have
too_few : decides 1 3 (some_rows true) 0 0 ≡ false
unfolding some_rows carried
too_few = refl

-- Why the lowest order number goes first: the parts of the older of two commits alone, replayed over both, change the data.
older : List Part
older = (0, 1 ∷ []) ∷ []

newer : List Part
newer = (0, 2 ∷ []) ∷ []

replayed_newer : applied newer (applied newer (applied older (0 ∷ []))) ≡ applied newer (applied older (0 ∷ []))
unfolding older newer
replayed_newer = refl

replayed_older : applied older (applied newer (applied older (0 ∷ []))) ≡ 1 ∷ []
unfolding older newer
replayed_older = refl
