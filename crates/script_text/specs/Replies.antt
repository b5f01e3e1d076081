-- How replies are written.
use Rattle.std.specs.Prelude.{ℕ, List, [], ◌∷◌, ◌++◌, length, codes}
use Rattle.std.specs.List.{flat_map}
use Rattle.std.specs.Fmt.{decimal}
use Rattle.history.specs.declared.call.Reply.{Reply}
use Rattle.history.specs.declared.call.Reply.TheVariants.{Fine, Found, Absent, Listed, Saved, Committed, Purged, NoTransaction, NoTable, Already, NoSave, SavesFull, Busy, LogFull, SlotsFull, PagesFull, Media, Dead, NoMemory, Damaged}

-- the words of a reply
abbrev pub reply_text : Reply → List ℕ
reply_text Fine = codes "ok"
reply_text (Found value) = codes "val " ++ value
reply_text Absent = codes "none"
reply_text (Listed rows) = codes "rows " ++ decimal (length rows)
reply_text (Saved n) = codes "saved " ++ decimal n
reply_text (Committed n) = codes "committed " ++ decimal n
reply_text (Purged n) = codes "purged " ++ decimal n
reply_text NoTransaction = codes "no transaction"
reply_text NoTable = codes "no table"
reply_text Already = codes "already"
reply_text (NoSave n) = codes "no save " ++ decimal n
reply_text SavesFull = codes "saves full 32"
reply_text (Busy holder) = codes "busy " ++ decimal holder
reply_text (LogFull logger held needed) = codes "log full " ++ decimal logger ++ 32 ∷ decimal held ++ 32 ∷ decimal needed
reply_text (SlotsFull n) = codes "slots full " ++ decimal n
reply_text (PagesFull n) = codes "pages full " ++ decimal n
reply_text Media = codes "media fault"
reply_text Dead = codes "dead"
reply_text NoMemory = codes "no memory"
reply_text (Damaged page) = codes "damaged " ++ decimal page

-- a caller's line: the number, a space, the words, a newline
abbrev pub told_line : ℕ → List ℕ → List ℕ
told_line caller words = decimal caller ++ 32 ∷ words ++ 10 ∷ []

-- the lines of the rows, each with its key and its value, after a reply that lists them
abbrev pub row_lines : ℕ → Reply → List ℕ
row_lines caller (Listed rows) = flat_map (λ row. told_line caller (codes "row " ++ decimal row.0 ++ 32 ∷ row.1)) rows
row_lines caller _ = []

-- the line of a reply and those of its rows
unfoldable pub reply_line : ℕ → Reply → List ℕ
reply_line caller reply = told_line caller (reply_text reply) ++ row_lines caller reply

-- the answer to a bad line
unfoldable pub bad_line : ℕ → List ℕ
bad_line n = codes "bad line " ++ decimal n ++ 10 ∷ []
