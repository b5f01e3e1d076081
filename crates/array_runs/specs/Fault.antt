-- How a status is reported.
use Rattle.std.specs.Prelude.{ℕ, List, [], ◌∷◌, ◌++◌, codes}
use Rattle.std.specs.Fmt.{decimal}
use Rattle.array_shape.specs.Numbers.{number_of}
use Rattle.array_runs.specs.declared.status.Refusal.{Refusal}
use Rattle.array_runs.specs.declared.status.Refusal.TheVariants.{Exists, TablesFull, PagesFull}
use Rattle.array_runs.specs.declared.status.Status.{Status}
use Rattle.array_runs.specs.declared.status.Status.TheVariants.{Good, Usage, TooLong, ReadFault, WriteFault, MediaFault, NoMemory, Damaged, BadRow, NotMars, BadShape, Refused, BadFrame, Gap}

-- why a table was not made
abbrev pub refusal_text : Refusal → List ℕ
refusal_text (Exists name) = codes "exists " ++ name
refusal_text TablesFull = codes "tables full 8"
refusal_text (PagesFull n) = codes "pages full " ++ decimal n

-- the text after `mars: ` on standard error
abbrev pub status_text : Status → List ℕ
status_text Good = []
status_text Usage = codes "usage"
status_text TooLong = codes "too long"
status_text ReadFault = codes "read fault"
status_text WriteFault = codes "write fault"
status_text MediaFault = codes "media fault"
status_text NoMemory = codes "no memory"
status_text (Damaged page) = codes "damaged " ++ decimal page
status_text (BadRow logger tid) = codes "bad row " ++ (decimal logger ++ 32 ∷ decimal tid)
status_text NotMars = codes "not mars"
status_text (BadShape which given) = codes "bad shape " ++ (decimal (number_of which) ++ 32 ∷ decimal given)
status_text (Refused refusal) = refusal_text refusal
status_text (BadFrame n) = codes "bad frame " ++ decimal n
status_text (Gap expected got) = codes "gap " ++ (decimal expected ++ 32 ∷ decimal got)

-- the status of the process
abbrev pub status_number : Status → ℕ
status_number Good = 0
status_number Usage = 2
status_number TooLong = 3
status_number ReadFault = 4
status_number WriteFault = 5
status_number MediaFault = 6
status_number NoMemory = 7
status_number (Damaged page) = 8
status_number (BadRow logger tid) = 8
status_number NotMars = 9
status_number (BadShape which given) = 9
status_number (Refused refusal) = 10
status_number (BadFrame n) = 11
status_number (Gap expected got) = 12
