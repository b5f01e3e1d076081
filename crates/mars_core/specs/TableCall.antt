-- The tables that calls ask for.
use Rattle.std.specs.Prelude.{ℕ, List, Option, Some}
use Rattle.record_slots.specs.Names.{number_of}
use Rattle.history.specs.declared.call.TableCall.{TableCall}
use Rattle.history.specs.declared.call.TableCall.TheVariants.{Get, Put, Del, Scan}

-- the number of the table that a call asks for, if there is one of that name; 0 if it asks for none
abbrev pub number_for : List (List ℕ) → TableCall → Option ℕ
number_for names (Get name key) = number_of names name
number_for names (Put name key value) = number_of names name
number_for names (Del name key) = number_of names name
number_for names (Scan name low high) = number_of names name
number_for names _ = Some 0
