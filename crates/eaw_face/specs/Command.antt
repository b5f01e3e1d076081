-- The commands, and what each makes of the data and of the logs.
use Rattle.std.specs.Prelude.{ℕ, nat_eq, if◌then◌else◌, List, [], ◌++◌, take, drop, flat_map, Some, None, unwrap_or}
use Rattle.std.specs.List.{list_any}
use Rattle.mars_base.specs.Bytes.{put}
use Rattle.array_shape.specs.Parts.{parts_of_write}
use Rattle.array_shape.specs.Logged.{applied, ranges_of}
use Rattle.eaw_face.specs.State.{Logs, State, listed, with_log, with_each, edited}

-- A write into a log; an edit of a logged part; commit and abort of a log; a commit of several logs at once; a nested top action,
-- which commits a log from an offset on; a partial abort, which drops it from there on; a write that commits by itself; a read of a
-- log; a read of the data.
pub data Command : Type 0 where
  log_write : (t addr : ℕ) (bytes : List ℕ) → Command
  log_edit : (t pos at : ℕ) (bytes : List ℕ) → Command
  commit : (t : ℕ) → Command
  commit_group : (ts : List ℕ) → Command
  abort : (t : ℕ) → Command
  nested_top : (t offset : ℕ) → Command
  partial_abort : (t offset : ℕ) → Command
  atomic_write : (t addr : ℕ) (bytes : List ℕ) → Command
  log_read : (t : ℕ) → Command
  read : (addr len : ℕ) → Command

-- the data and the logs after a command that is done
abbrev pub after : Command → State → State
after (log_write t addr bytes) s = record { bytes = s.bytes; logs = with_log s.logs t (Some (unwrap_or (s.logs t) [] ++ parts_of_write addr bytes)) }
after (log_edit t pos at bytes) s = record { bytes = s.bytes; logs = with_log s.logs t (Some (edited pos at bytes (unwrap_or (s.logs t) []))) }
after (commit t) s = record { bytes = applied (unwrap_or (s.logs t) []) s.bytes; logs = with_log s.logs t None }
after (commit_group ts) s =
    record { bytes = applied (flat_map (λ t. unwrap_or (s.logs t) []) ts) s.bytes; logs = λ t. if list_any (nat_eq t) ts then None else s.logs t }
after (abort t) s = record { bytes = s.bytes; logs = with_log s.logs t None }
after (nested_top t n) s = record { bytes = applied (drop n (unwrap_or (s.logs t) [])) s.bytes; logs = with_log s.logs t (Some (take n (unwrap_or (s.logs t) []))) }
after (partial_abort t n) s = record { bytes = s.bytes; logs = with_log s.logs t (Some (take n (unwrap_or (s.logs t) []))) }
after (atomic_write t addr bytes) s = record { bytes = put s.bytes addr bytes; logs = s.logs }
after _ s = s

-- where the logged parts lie after it, which is known even of a store that does not tell its data
abbrev pub ranges_after : Command → Logs (ℕ × ℕ) → Logs (ℕ × ℕ)
ranges_after (log_write t addr bytes) ranges = with_log ranges t (Some (listed (ranges t) ++ ranges_of (parts_of_write addr bytes)))
ranges_after (log_edit t pos at bytes) ranges = ranges
ranges_after (commit t) ranges = with_log ranges t None
ranges_after (commit_group ts) ranges = with_each ranges ts None
ranges_after (abort t) ranges = with_log ranges t None
ranges_after (nested_top t offset) ranges = with_log ranges t (Some (take offset (listed (ranges t))))
ranges_after (partial_abort t offset) ranges = with_log ranges t (Some (take offset (listed (ranges t))))
ranges_after (atomic_write t addr bytes) ranges = ranges
ranges_after (log_read t) ranges = ranges
ranges_after (read addr len) ranges = ranges
