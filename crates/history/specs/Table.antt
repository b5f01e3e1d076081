-- The one-thread table: its replies, and what calls leave of it.
use Rattle.std.specs.Prelude.{ℕ, ◌≡◌, ◌+◌, ◌-◌, Bool, ◌&&◌, nat_lt, nat_le, if◌then◌else◌, IsTrue, List, [], ◌∷◌, ◌++◌, length, take, slice_index_or, Option, option_map, unwrap_or}
use Rattle.std.specs.List.{fold}
use Rattle.std.specs.FinMap.{get, insert, remove}
use Rattle.history.specs.Key.{of_table}
use Rattle.history.specs.Writes.{Table, rows_within}
use Rattle.history.specs.declared.call.TableCall.{TableCall}
use Rattle.history.specs.declared.call.TableCall.TheVariants.{Get, Put, Del, Scan, Save, Back}
use Rattle.history.specs.declared.call.Reply.{Reply}
use Rattle.history.specs.declared.call.Reply.TheVariants.{Fine, Found, Absent, Listed, Saved}

-- granted calls, each with its reply
abbrev pub Granted : Type 0
Granted = List (TableCall × Reply)

-- a table as a transaction sees it, and its tables at the saves, the first save first
pub record Work : Type 0 where
  pub table : Table
  pub saves : List Table

abbrev pub begun : Table → Work
begun table = record { table = table; saves = [] }

-- the reply to a get that finds this
abbrev pub found : Option (List ℕ) → Reply
found value = unwrap_or (option_map Found value) Absent

-- the reply to a removal that finds this
abbrev pub removed : Option (List ℕ) → Reply
removed value = unwrap_or (option_map (λ was. Fine) value) Absent

-- there is such a save, counted from 1
abbrev pub has_save : {A : Type 0} → List A → ℕ → Bool
has_save saves n = nat_lt 0 n && nat_le n (length saves)

-- the reply is the table's to this call
abbrev pub Answers : Work → TableCall → Reply → Type 0
Answers work (Get name key) reply = reply ≡ found (get work.table (of_table name key))
Answers work (Put name key value) reply = reply ≡ Fine
Answers work (Del name key) reply = reply ≡ unwrap_or (option_map (λ was. Fine) (get work.table (of_table name key))) Absent
Answers work (Scan name low high) reply = reply ≡ Listed (rows_within name low high work.table)
Answers work Save reply = reply ≡ Saved (length work.saves + 1)
Answers work (Back n) reply = IsTrue (has_save work.saves n) × (reply ≡ Fine)

-- the table after a call; a way back restores the table of that save and forgets the later saves
abbrev pub after : Work → TableCall → Work
after work (Put name key value) = record { table = insert work.table (of_table name key) value; saves = work.saves }
after work (Del name key) = record { table = remove work.table (of_table name key); saves = work.saves }
after work Save = record { table = work.table; saves = work.saves ++ work.table ∷ [] }
after work (Back n) = if has_save work.saves n then record { table = slice_index_or work.saves (n - 1) work.table; saves = take n work.saves } else work
after work _ = work

-- what granted calls leave
abbrev pub worked : Work → Granted → Work
worked work calls = fold (λ was entry. after was entry.0) work calls

-- these calls get these replies, one after another
abbrev pub IsRightFrom : Work → Granted → Type 0
IsRightFrom work [] = Unit {0}
IsRightFrom work (entry ∷ entries) = Answers work entry.0 entry.1 × IsRightFrom (after work entry.0) entries

-- the replies are right: a transaction that begins on the table gets them
abbrev pub IsRight : Table → Granted → Type 0
IsRight table calls = IsRightFrom (begun table) calls

-- the table that a transaction leaves
abbrev pub left_by : Table → Granted → Table
left_by table calls = (worked (begun table) calls).table
