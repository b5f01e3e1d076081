-- What the medium answered in a call that has faults of other kinds too.
use Rattle.std.specs.Prelude.{Bool, if◌then◌else◌, Result, Ok, Err}
use Rattle.mars_base.specs.declared.Failed.{Failed}

-- the medium's answer, when `is_media` tells its faults from the others: at each of the others it refused nothing
abbrev pub media_answer : {T E : Type 0} → (E → Bool) → Result T E → Result (Unit {0}) Failed
media_answer is_media (Ok done) = Ok tt
media_answer is_media (Err fault) = if is_media fault then Err record {} else Ok tt
