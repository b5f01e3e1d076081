-- The same state without bytes: where parts lie, and how many there were at each save. This much is known of any store.
use Rattle.std.specs.Prelude.{ℕ, ◌-◌, max, List, [], ◌∷◌, ◌++◌, length, take, map, slice_index_or, Option, Some, None}
use Rattle.std.specs.Option.{option_map, unwrap_or}
use Rattle.array_shape.specs.Logged.{ranges_of}
use Rattle.eaw_face.specs.State.{Logs, listed, with_log, with_each}
use Rattle.page_store.specs.Edit.{with_range}
use Rattle.page_store.specs.State.{PagesState, with_one}
use Rattle.page_store.specs.Command.{PageCommand, write_as, save, back, top_begin, top_end, end, end_group, atomic_write, read_as, read}

-- for each live number the ranges of its parts; how many it had at each of its saves, and when an open top action began
pub record Outline : Type 0 where
  pub ranges : Logs (ℕ × ℕ)
  pub counts : ℕ → List ℕ
  pub top : ℕ → Option ℕ

abbrev pub outline : PagesState → Outline
outline s = record { ranges = λ t. option_map ranges_of (s.store.logs t); counts = λ t. map length (s.saved t); top = s.top }

-- how many parts there were at save n
abbrev pub count_at : List ℕ → ℕ → ℕ
count_at counts n = slice_index_or counts (n - 1) 0

abbrev pub floor_in : Outline → ℕ → ℕ
floor_in o t = max (count_at (o.counts t) (length (o.counts t))) (unwrap_or (o.top t) 0)

abbrev pub outline_after : PageCommand → Outline → Outline
outline_after (write_as t addr bytes) o = record o { ranges = with_log o.ranges t (Some (with_range (floor_in o t) (addr, length bytes) (listed (o.ranges t)))) }
outline_after (save t) o = record o { counts = with_one o.counts t (o.counts t ++ length (listed (o.ranges t)) ∷ []) }
outline_after (back t n) o = record o { ranges = with_log o.ranges t (option_map (take (count_at (o.counts t) n)) (o.ranges t)); counts = with_one o.counts t (take n (o.counts t)) }
outline_after (top_begin t) o = record o { top = with_one o.top t (Some (length (listed (o.ranges t)))) }
outline_after (top_end t mark) o = record o { ranges = with_log o.ranges t (option_map (take mark) (o.ranges t)); top = with_one o.top t None }
outline_after (end t commits) o = record o { ranges = with_log o.ranges t None; counts = with_one o.counts t [] }
outline_after (end_group ts) o = record o { ranges = with_each o.ranges ts None; counts = with_each o.counts ts [] }
outline_after (atomic_write t addr bytes) o = o
outline_after (read_as t) o = o
outline_after read o = o
