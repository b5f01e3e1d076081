-- The command of the store that a command of pages makes, if it makes one. Apart from reads, none makes two. It follows from
-- where parts lie and how many were saved.
use Rattle.std.specs.Prelude.{ℕ, if◌then◌else◌, List, length, filter, is_some, Option, Some, None}
use Rattle.std.specs.Option.{option_map}
use Rattle.eaw_face.specs.State.{Logs, State, listed}
use Rattle.eaw_face.specs.Command.{Command, log_write, log_edit, commit, commit_group, abort, nested_top, partial_abort, after, ranges_after}
use Rattle.eaw_face.specs.Command as store
use Rattle.page_store.specs.Edit.{edit_pos}
use Rattle.page_store.specs.Command.{PageCommand, write_as, save, back, top_begin, top_end, end, end_group, atomic_write, read_as, read}
use Rattle.page_store.specs.Outline.{Outline, count_at, floor_in}

-- an edit of the part at this position, or a write
abbrev pub write_of : ℕ → ℕ → List ℕ → Option ℕ → Command
write_of t addr bytes None = log_write t addr bytes
write_of t addr bytes (Some pos) = log_edit t pos 0 bytes

-- this command, if the number is live
abbrev pub if_live : Outline → ℕ → Command → Option Command
if_live o t command = option_map (λ ranges. command) (o.ranges t)

abbrev pub device : PageCommand → Outline → Option Command
device (write_as t addr bytes) o = Some (write_of t addr bytes (edit_pos (floor_in o t) (addr, length bytes) (listed (o.ranges t))))
device (save t) o = None
device (back t n) o = if_live o t (partial_abort t (count_at (o.counts t) n))
device (top_begin t) o = None
device (top_end t mark) o = if_live o t (nested_top t mark)
device (end t commits) o = if_live o t (if commits then commit t else abort t)
device (end_group ts) o = Some (commit_group (filter (λ t. is_some (o.ranges t)) ts))
device (atomic_write t addr bytes) o = Some (store.atomic_write t addr bytes)
device (read_as t) o = None
device read o = None

-- the store after such a command, and where the parts then lie
abbrev pub done : Option Command → State → State
done None store = store
done (Some command) store = after command store

abbrev pub ranges_done : Option Command → Logs (ℕ × ℕ) → Logs (ℕ × ℕ)
ranges_done None ranges = ranges
ranges_done (Some command) ranges = ranges_after command ranges

-- the calls of such a command, if each makes so many
abbrev pub device_cost : (Command → ℕ) → Option Command → ℕ
device_cost calls None = 0
device_cost calls (Some command) = calls command
