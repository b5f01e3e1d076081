-- The model of records: a table, and what numbers have logged over it.
use Rattle.std.specs.Prelude.{ℕ, map}
use Rattle.history.specs.Writes.{Table, all_written}
use Rattle.history.specs.Table.{Work}
use Rattle.history.specs.Log.{Log}
use Rattle.index_keys.specs.Keys as indexes

-- the records of all tables in the data, and for each number the log of what it has not committed
pub record TableState : Type 0 where
  pub table : Table
  pub logs : ℕ → Log

-- what a number sees
abbrev pub seen_by : TableState → ℕ → Table
seen_by s t = all_written s.table (s.logs t).writes

-- the same with its saves, which are over the table as it is now
abbrev pub work_of : TableState → ℕ → Work
work_of s t = record { table = seen_by s t; saves = map (all_written s.table) (s.logs t).saved }

-- the indexes of all tables, by the numbers of the tables
abbrev pub Keys : Type 0
Keys = indexes.Keys ℕ
