-- The text of callers' work: the lines that were passed over, the history, what became of the other transactions, the records, and what
-- readers were answered.
use Rattle.std.specs.Prelude.{ℕ, nat_eq, if◌then◌else◌, List, [], ◌∷◌, ◌++◌, codes}
use lib.Pointwise.{pointwise}
use Rattle.std.specs.List.{flat_map, enumerate_from}
use Rattle.std.specs.Fmt.{decimal}
use Rattle.history.specs.Key.{main_name}
use Rattle.history.specs.Table.{found}
use Rattle.history.specs.declared.key.Key.{Key}
use Rattle.history.specs.declared.transaction.Done.{Done}
use Rattle.script_text.specs.Replies.{reply_text, reply_line, told_line, bad_line}
use Rattle.caller_plans.specs.declared.fate.Fate.{Fate}
use Rattle.caller_plans.specs.declared.fate.Fate.TheVariants.{Committed, Aborted, Refused}
use Rattle.caller_plans.specs.declared.fate.LineFault.{LineFault}
use Rattle.caller_plans.specs.declared.fate.LineFault.TheVariants.{Bad, Stray}
use Rattle.history.specs.declared.answer.Answer.{Answer}
use Rattle.history.specs.declared.answer.Answer.TheVariants.{Value, NoTable}

abbrev pub fault_line : LineFault → List ℕ
fault_line (Bad n) = bad_line n
fault_line (Stray n) = codes "stray line " ++ decimal n ++ 10 ∷ []

-- the lines of a transaction of the history: its number and caller, and then the replies to its calls
abbrev pub done_lines : Done → List ℕ
done_lines done = codes "txn " ++ decimal done.at ++ codes " caller " ++ decimal done.caller ++ 10 ∷ flat_map (λ (entry : _). reply_line done.caller entry.1) done.calls

-- the line of a caller's n-th plan, unless it is in the history
abbrev pub fate_line : ℕ → ℕ → Fate → List ℕ
fate_line caller n (Committed at) = []
fate_line caller n Aborted = told_line caller (codes "aborted " ++ decimal n)
fate_line caller n (Refused reply) = told_line caller (codes "refused " ++ decimal n ++ 32 ∷ reply_text reply)

-- what is written of the elements of a list one after another, numbered from n on
abbrev pub numbered : {A : Type 0} → (ℕ → A → List ℕ) → ℕ → List A → List ℕ
numbered {A} line n xs = flat_map (λ (entry : ℕ × A). line entry.0 entry.1) (enumerate_from n xs)

-- the number of a key, and before it the name of its table, unless that is `main`
abbrev pub key_text : Key → List ℕ
key_text key = if pointwise nat_eq key.table main_name then decimal key.key else 64 ∷ (key.table ++ 32 ∷ decimal key.key)

-- the line of a record
abbrev pub record_line : Key × List ℕ → List ℕ
record_line entry = codes "rec " ++ (key_text entry.0 ++ 32 ∷ (entry.1 ++ 10 ∷ []))

-- a line of a word and a number
abbrev pub number_line : List ℕ → ℕ → List ℕ
number_line word n = word ++ 32 ∷ (decimal n ++ 10 ∷ [])

-- what a reader was answered: the key, after how many transactions, and its value then; or that there is no such table
abbrev pub answer_text : Answer → List ℕ
answer_text (Value key at value) = key_text key ++ (codes " at " ++ (decimal at ++ 32 ∷ reply_text (found value)))
answer_text NoTable = codes "no table"

-- the line of it, with the reader's number
abbrev pub answer_line : ℕ → Answer → List ℕ
answer_line reader answer = codes "read " ++ (decimal reader ++ 32 ∷ (answer_text answer ++ 10 ∷ []))

-- the text of work that came to its end: the callers are numbered from 0, and the plans of each from 1; behind it is what each reader was
-- answered, and the readers are numbered from 0
abbrev pub work_text : List LineFault → List Done → List (List Fate) → List (Key × List ℕ) → List (List Answer) → List ℕ
work_text faults history fates records told = flat_map fault_line faults ++ flat_map done_lines history
    ++ numbered (λ caller. numbered (fate_line caller) 1) 0 fates ++ flat_map record_line records ++ numbered (λ reader. flat_map (answer_line reader)) 0 told
