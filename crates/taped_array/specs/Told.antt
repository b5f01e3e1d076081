-- What is told of a result, where the caller has room for it.
use Rattle.std.specs.Prelude.{ℕ, ◌≡◌, List, length, Some, None, Result, Ok, Err}
use Rattle.mars_base.specs.Bytes.{range}
use Rattle.eaw_face.specs.State.{listed, range_at, part_at}
use Rattle.eaw_face.specs.declared.fault.EawFault.{EawFault}
use Rattle.eaw_face.specs.declared.fault.EawFault.TheVariants.{Media}
use Rattle.taped_calls.specs.Told.{IsPutOut}
use Rattle.taped_array.specs.declared.open_array.OpenArray.{OpenArray}
use Rattle.taped_array.specs.Shown.{store_in}

-- how many parts the number has logged, if the write was done; else what was there
abbrev pub count_in : ℕ → Result ℕ EawFault → ℕ
count_in was (Ok count) = count
count_in was (Err fault) = was

-- The room holds the data from this address on. It is what it was after a refusal, and anything after a fault of the medium.
abbrev pub IsRead : (at : ℕ) → (was now : List ℕ) → OpenArray → Result (Unit {0}) EawFault → Type 0
IsRead at was now array (Ok done) = now ≡ range (store_in array).state.bytes at (length was)
IsRead at was now array (Err Media) = length now ≡ length was
IsRead at was now array (Err fault) = now ≡ was

-- the part at this position is told: its address, and its bytes; or nothing is
abbrev pub IsPart : (t pos : ℕ) → (at_was at : ℕ) → (was now : List ℕ) → (len_was len : ℕ) → OpenArray → Result (ℕ × ℕ) EawFault → Type 0
IsPart t pos at_was at was now len_was len array (Ok part) =
    let logged = part_at (listed ((store_in array).state.logs t)) pos in
    (at ≡ (range_at (listed ((store_in array).ranges t)) pos).0) × IsPutOut (Some logged.1) was now len_was len
IsPart t pos at_was at was now len_was len array (Err fault) = (at ≡ at_was) × IsPutOut None was now len_was len
