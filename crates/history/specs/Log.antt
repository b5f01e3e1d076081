-- What a transaction has written so far, as a list that a way back truncates.
use Rattle.std.specs.Prelude.{ℕ, ◌-◌, Bool, if◌then◌else◌, List, [], ◌∷◌, ◌++◌, length, take, drop, slice_index_or, Some, None}
use Rattle.std.specs.List.{fold, list_any}
use Rattle.history.specs.Key.{Key, of_table}
use Rattle.history.specs.Writes.{Write, is_of, with_write}
use Rattle.history.specs.Table.{Granted, has_save}
use Rattle.history.specs.declared.call.TableCall.{TableCall}
use Rattle.history.specs.declared.call.TableCall.TheVariants.{Put, Del, Save, Back}
use Rattle.history.specs.declared.call.Reply.{Reply}
use Rattle.history.specs.declared.call.Reply.TheVariants.{Fine}

-- the writes now, and those at each save, the first save first
pub record Log : Type 0 where
  pub writes : List Write
  pub saved : List (List Write)

-- the writes at save n, counted from 1, or none if there is no such save
abbrev pub save_at : List (List Write) → ℕ → List Write
save_at saved n = slice_index_or saved (n - 1) []

-- how many writes can no longer be replaced: those of the last save
abbrev pub floor_of : Log → ℕ
floor_of log = length (slice_index_or log.saved (length log.saved - 1) [])

-- the key was written since the last save
abbrev pub is_rewritten : Log → Key → Bool
is_rewritten log key = list_any (is_of key) (drop (floor_of log) log.writes)

-- The log after a granted call. A write replaces one of its key since the last save, and removing a record that is not there writes nothing.
abbrev pub log_after : Log → TableCall → Reply → Log
log_after log (Put name key value) reply = record log { writes = with_write (floor_of log) (of_table name key, Some value) log.writes }
log_after log (Del name key) Fine = record log { writes = with_write (floor_of log) (of_table name key, None) log.writes }
log_after log Save reply = record log { saved = log.saved ++ log.writes ∷ [] }
log_after log (Back n) reply = if has_save log.saved n then record { writes = slice_index_or log.saved (n - 1) []; saved = take n log.saved } else log
log_after log _ reply = log

-- the log of granted calls
abbrev pub log_of : Granted → Log
log_of calls = fold (λ was entry. log_after was entry.0 entry.1) (record { writes = []; saved = [] }) calls
