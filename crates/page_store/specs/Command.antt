-- The commands of pages, and what each makes of the state.
use Rattle.std.specs.Prelude.{ℕ, ◌≡◌, Bool, true, false, if◌then◌else◌, List, [], ◌∷◌, ◌++◌, length, take, drop, Some, None}
use Rattle.std.specs.Option.{option_map}
use Rattle.mars_base.specs.Bytes.{put}
use Rattle.array_shape.specs.Logged.{applied}
use Rattle.eaw_face.specs.State.{with_log, with_each, is_one_of, group_log}
use Rattle.page_store.specs.Edit.{with_write}
use Rattle.page_store.specs.State.{PagesState, log_of, with_one, save_at, floor_of}

-- A write as a number; a save; the way back to save n; the begin and the end of a top action; the end of a number, by a commit
-- or an abort; the end of several numbers by one commit; a write that commits by itself; a read as a number; and a read of the data.
pub data PageCommand : Type 0 where
  write_as : (t addr : ℕ) (bytes : List ℕ) → PageCommand
  save : (t : ℕ) → PageCommand
  back : (t n : ℕ) → PageCommand
  top_begin : (t : ℕ) → PageCommand
  top_end : (t mark : ℕ) → PageCommand
  end : (t : ℕ) (commits : Bool) → PageCommand
  end_group : (ts : List ℕ) → PageCommand
  atomic_write : (t addr : ℕ) (bytes : List ℕ) → PageCommand
  read_as : (t : ℕ) → PageCommand
  read : PageCommand

-- the state after a command that is done
abbrev pub after : PageCommand → PagesState → PagesState
after (write_as t addr bytes) s = record s { store = record s.store { logs = with_log s.store.logs t (Some (with_write (floor_of s t) addr bytes (log_of s t))) } }
after (save t) s = record s { saved = with_one s.saved t (s.saved t ++ log_of s t ∷ []) }
after (back t n) s = record s { store = record s.store { logs = with_log s.store.logs t (option_map (λ log. save_at (s.saved t) n) (s.store.logs t)) }; saved = with_one s.saved t (take n (s.saved t)) }
after (top_begin t) s = record s { top = with_one s.top t (Some (length (log_of s t))) }
after (top_end t mark) s = record s { store = record { bytes = applied (drop mark (log_of s t)) s.store.bytes; logs = with_log s.store.logs t (option_map (take mark) (s.store.logs t)) }; top = with_one s.top t None }
after (end t commits) s = record s { store = record { bytes = if commits then applied (log_of s t) s.store.bytes else s.store.bytes; logs = with_log s.store.logs t None }; saved = with_one s.saved t [] }
after (end_group ts) s = record s { store = record { bytes = applied (group_log s.store.logs ts) s.store.bytes; logs = with_each s.store.logs ts None }; saved = with_each s.saved ts [] }
after (atomic_write t addr bytes) s = record s { store = record s.store { bytes = put s.store.bytes addr bytes } }
after (read_as t) s = s
after read s = s

-- u is a number that a command works for
abbrev pub WorksFor : PageCommand → ℕ → Type 0
WorksFor (write_as t addr bytes) u = u ≡ t
WorksFor (save t) u = u ≡ t
WorksFor (back t n) u = u ≡ t
WorksFor (top_begin t) u = u ≡ t
WorksFor (top_end t mark) u = u ≡ t
WorksFor (end t commits) u = u ≡ t
WorksFor (end_group ts) u = is_one_of ts u ≡ true
WorksFor (atomic_write t addr bytes) u = u ≡ t
WorksFor (read_as t) u = ⊥
WorksFor read u = ⊥

-- it writes no data, which only the end of a top action, a commit and a write that commits by itself do
abbrev pub IsQuiet : PageCommand → Type 0
IsQuiet (write_as t addr bytes) = Unit {0}
IsQuiet (save t) = Unit {0}
IsQuiet (back t n) = Unit {0}
IsQuiet (top_begin t) = Unit {0}
IsQuiet (top_end t mark) = ⊥
IsQuiet (end t commits) = commits ≡ false
IsQuiet (end_group ts) = ⊥
IsQuiet (atomic_write t addr bytes) = ⊥
IsQuiet (read_as t) = Unit {0}
IsQuiet read = Unit {0}
