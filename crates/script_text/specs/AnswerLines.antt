-- How the answers to raw commands are written.
use Rattle.std.specs.Prelude.{ℕ, List, ◌∷◌, ◌++◌, codes}
use Rattle.std.specs.Fmt.{decimal}
use Rattle.hex.specs.Hex.{encode_lower as hex_of}
use Rattle.script_text.specs.declared.answer.Answer.{Answer}
use Rattle.script_text.specs.declared.answer.Answer.TheVariants.{Logged, Fine, Part, Data, Len, Held, Unknown, BadRange, Live, LogFull}

-- the words of an answer to a number's command
abbrev pub answer_text : ℕ → Answer → List ℕ
answer_text number (Logged len) = codes "logged " ++ decimal len
answer_text number Fine = codes "ok"
answer_text number (Part addr bytes) = codes "part " ++ decimal addr ++ 32 ∷ hex_of bytes
answer_text number (Data bytes) = codes "data " ++ hex_of bytes
answer_text number (Len len) = codes "len " ++ decimal len
answer_text number (Held count) = codes "held " ++ decimal count
answer_text number Unknown = codes "unknown " ++ decimal number
answer_text number BadRange = codes "bad range"
answer_text number Live = codes "live"
answer_text number (LogFull logger held needed) = codes "log full " ++ decimal logger ++ 32 ∷ decimal held ++ 32 ∷ decimal needed
