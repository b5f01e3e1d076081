-- What readers are answered.
use Rattle.std.specs.Prelude.{ℕ, ◌≡◌, ◌≤◌, List, [], ◌∷◌, length, take, IsTrue, IsFalse}
use Rattle.std.specs.FinMap.{get}
use Rattle.history.specs.declared.key.Key.{Key}
use Rattle.history.specs.Legal.{records}
use Rattle.history.specs.Locks.{has_table}
use Rattle.history.specs.Writes.{Table}
use Rattle.history.specs.declared.call.TableCall.TheVariants.{Get}
use Rattle.history.specs.declared.transaction.Done.{Done}
use Rattle.history.specs.declared.answer.Answer.{Answer}
use Rattle.history.specs.declared.answer.Answer.TheVariants.{Value, NoTable}

-- The answer for a key, where the tables have these names: its value after the first `at` transactions of the list, no fewer than `least`, or that
-- there is no table of its name, which is said exactly if there is none.
abbrev pub IsAnswer : List (List ℕ) → Table → List Done → ℕ → Key → Answer → Type 0
IsAnswer names base list least key (Value asked at value) = IsTrue (has_table names (Get key.table key.key)) × (asked ≡ key) × (least ≤ at) × (at ≤ length list)
    × (value ≡ get (records base (take at list)) key)
IsAnswer names base list least key NoTable = IsFalse (has_table names (Get key.table key.key))

-- how many transactions its reader has come to behind an answer
abbrev pub come_to : ℕ → Answer → ℕ
come_to least (Value key at value) = at
come_to least NoTable = least

-- The answers for these keys, in order: each value after no fewer transactions than the one before, and the first after at least so many.
abbrev pub AreAnswers : List (List ℕ) → Table → List Done → ℕ → List Key → List Answer → Type 0
AreAnswers names base list least [] [] = Unit {0}
AreAnswers names base list least (key ∷ keys) (answer ∷ answers) = IsAnswer names base list least key answer × AreAnswers names base list (come_to least answer) keys answers
AreAnswers names base list least _ _ = ⊥

-- the answers of each reader, for what each asked
abbrev pub AllAnswer : List (List ℕ) → Table → List Done → List (List Key) → List (List Answer) → Type 0
AllAnswer names base list [] [] = Unit {0}
AllAnswer names base list (keys ∷ asks) (answers ∷ others) = AreAnswers names base list 0 keys answers × AllAnswer names base list asks others
AllAnswer names base list _ _ = ⊥
