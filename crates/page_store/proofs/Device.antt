-- Each command of pages makes of the store what one command of the store makes, or nothing.
use Rattle.std.proofs.Common.{◌≡◌, ℕ, ◌-◌, Bool, true, false, cond, List, [], ◌∷◌, ◌++◌, length, take, drop, refl, sym, ◌∙◌, ap, arith}
use Rattle.std.specs.Prelude.{map, is_some, filter, Option, Some, None}
use Rattle.std.specs.Option.{option_map}
use Rattle.array_shape.specs.declared.shape.Shape.{Shape}
use Rattle.array_shape.specs.Places.{IsPlaced}
use Rattle.array_shape.specs.Logged.{Part, applied, ranges_of}
use Rattle.array_shape.proofs.WriteParts.{one_write_part}
use Rattle.eaw_face.specs.State.{Logs, State, listed, with_log}
use Rattle.eaw_face.specs.Command as store
use Rattle.eaw_face.specs.Command.{Command, commit, commit_group, abort, nested_top, partial_abort, ranges_after}
use Rattle.eaw_face.proofs.Groups.{group_live, each_live}
use Rattle.page_store.specs.Edit.{edit_pos, written_at}
use Rattle.page_store.specs.State.{PagesState, log_of, save_at, floor_of}
use Rattle.page_store.specs.Command.{PageCommand, write_as, save, back, top_begin, top_end, end, end_group, atomic_write, read_as, read, after}
use Rattle.page_store.specs.Device.{write_of, device, done, ranges_done}
use Rattle.page_store.specs.Outline.{Outline, outline, count_at, floor_in, outline_after}
use Rattle.page_store.proofs.Outline.{floors, counted, listed-ranges, length-lengths}
use Rattle.page_store.specs.Kept.{IsFront, IsKept, IsAllowed}
use Rattle.page_store.proofs.Numbers.{with_same}
use Rattle.page_store.proofs.Writes.{drop-none}

-- the command by the state
device_in : PageCommand → PagesState → Option Command
device_in (write_as t addr bytes) s = Some (write_of t addr bytes (edit_pos (floor_of s t) (addr, length bytes) (ranges_of (log_of s t))))
device_in (save t) s = None
device_in (back t n) s = option_map (λ log. partial_abort t (length (save_at (s.saved t) n))) (s.store.logs t)
device_in (top_begin t) s = None
device_in (top_end t mark) s = option_map (λ log. nested_top t mark) (s.store.logs t)
device_in (end t commits) s = option_map (λ log. cond commits (commit t) (abort t)) (s.store.logs t)
device_in (end_group ts) s = Some (commit_group (filter (λ t. is_some (s.store.logs t)) ts))
device_in (atomic_write t addr bytes) s = Some (store.atomic_write t addr bytes)
device_in (read_as t) s = None
device_in read s = None

-- a store with these logs
with_logs : State → Logs Part → State
with_logs store logs = record store { logs = logs }

module _ (store : State) (t : ℕ) where
  write_done : (shape : Shape) (addr : ℕ) (bytes : List ℕ) (o : Option ℕ) → IsPlaced shape addr (length bytes)
      → with_logs store (with_log store.logs t (Some (written_at o addr bytes (listed (store.logs t))))) ≡ done (Some (write_of t addr bytes o)) store
  unfolding with_logs
  write_done shape addr bytes None placed = ap (λ (ps : List Part). with_logs store (with_log store.logs t (Some (listed (store.logs t) ++ ps)))) (sym (one_write_part addr bytes placed.some placed.page))
  write_done shape addr bytes (Some pos) placed = refl

  -- the three that do nothing for a number that is not live
  back_done : (front : List Part) (o : Option (List Part)) → store.logs t ≡ o → IsFront front (listed o)
      → with_logs store (with_log store.logs t (option_map (λ log. front) o)) ≡ done (option_map (λ log. partial_abort t (length front)) o) store
  unfolding with_logs
  back_done front None is fits = ap (with_logs store) (with_same store.logs t None (sym is))
  back_done front (Some log) is fits = ap (λ (l : List Part). with_logs store (with_log store.logs t (Some l))) (sym fits ∙ ap (λ (p : Option (List Part)). take (length front) (listed p)) (sym is))

  top_done : (mark : ℕ) (o : Option (List Part)) → store.logs t ≡ o
      → record { bytes = applied (drop mark (listed o)) store.bytes; logs = with_log store.logs t (option_map (take mark) o) } ≡ done (option_map (λ log. nested_top t mark) o) store
  top_done mark None is = λ i. record { bytes = applied (drop-none mark i) store.bytes; logs = with_same store.logs t None (sym is) i }
  top_done mark (Some log) is = ap (λ (p : Option (List Part)). record { bytes = applied (drop mark (listed p)) store.bytes; logs = with_log store.logs t (Some (take mark (listed p))) }) (sym is)

  end_done : (commits : Bool) (o : Option (List Part)) → store.logs t ≡ o
      → record { bytes = cond commits (applied (listed o) store.bytes) store.bytes; logs = with_log store.logs t None } ≡ done (option_map (λ log. cond commits (commit t) (abort t)) o) store
  end_done true None is = ap (λ (logs : Logs Part). record { bytes = store.bytes; logs = logs }) (with_same store.logs t None (sym is))
  end_done false None is = ap (λ (logs : Logs Part). record { bytes = store.bytes; logs = logs }) (with_same store.logs t None (sym is))
  end_done true (Some log) is = ap (λ (p : Option (List Part)). record { bytes = applied (listed p) store.bytes; logs = with_log store.logs t None }) (sym is)
  end_done false (Some log) is = refl

does : (shape : Shape) (c : PageCommand) (s : PagesState) → IsKept shape s → IsAllowed shape c (outline s) → (after c s).store ≡ done (device_in c s) s.store
unfolding with_logs device_in
does shape (write_as t addr bytes) s kept placed = write_done s.store t shape addr bytes (edit_pos (floor_of s t) (addr, length bytes) (ranges_of (log_of s t))) placed
does shape (save t) s kept allowed = refl
does shape (back t n) s kept allowed = back_done s.store t (save_at (s.saved t) n) (s.store.logs t) refl ((kept.each t).fronts (n - 1) (omega (arith, allowed.0, allowed.1, length-lengths (s.saved t))))
does shape (top_begin t) s kept allowed = refl
does shape (top_end t mark) s kept allowed = top_done s.store t mark (s.store.logs t) refl
does shape (end t commits) s kept allowed = end_done s.store t commits (s.store.logs t) refl
does shape (end_group ts) s kept allowed = λ i. record { bytes = applied (sym (group_live s.store.logs ts) i) s.store.bytes; logs = sym (each_live s.store.logs ts) i }
does shape (atomic_write t addr bytes) s kept allowed = refl
does shape (read_as t) s kept allowed = refl
does shape read s kept allowed = refl

-- whether a number is live is seen in the outline
seen_live : (o : Option (List Part)) (command : Command) → option_map (λ ranges. command) (option_map ranges_of o) ≡ option_map (λ log. command) o
seen_live None command = refl
seen_live (Some log) command = refl

is_some_map : (o : Option (List Part)) → is_some (option_map ranges_of o) ≡ is_some o
is_some_map None = refl
is_some_map (Some log) = refl

-- what the outline makes of a command is what the state makes of it
device_seen : (c : PageCommand) (s : PagesState) → device c (outline s) ≡ device_in c s
unfolding device_in
device_seen (write_as t addr bytes) s = (λ i. Some (write_of t addr bytes (edit_pos (floors s t i) (addr, length bytes) (listed-ranges (s.store.logs t) i))))
device_seen (save t) s = refl
device_seen (back t n) s = seen_live (s.store.logs t) (partial_abort t (count_at (map length (s.saved t)) n)) ∙ ap (λ (k : ℕ). option_map (λ log. partial_abort t k) (s.store.logs t)) (counted (s.saved t) n)
device_seen (top_begin t) s = refl
device_seen (top_end t mark) s = seen_live (s.store.logs t) (nested_top t mark)
device_seen (end t commits) s = seen_live (s.store.logs t) (cond commits (commit t) (abort t))
device_seen (end_group ts) s = ap (λ (p : ℕ → Bool). Some (commit_group (filter p ts))) (λ i t. is_some_map (s.store.logs t) i)
device_seen (atomic_write t addr bytes) s = refl
device_seen (read_as t) s = refl
device_seen read s = refl

pub device_does : (shape : Shape) (c : PageCommand) (s : PagesState) → IsKept shape s → IsAllowed shape c (outline s) → (after c s).store ≡ done (device c (outline s)) s.store
device_does shape c s kept allowed = does shape c s kept allowed ∙ ap (λ (o : Option Command). done o s.store) (sym (device_seen c s))

-- The same of the ranges alone, of any outline.
module _ (ranges : Logs (ℕ × ℕ)) (t : ℕ) where
  ranges_write : (shape : Shape) (floor addr : ℕ) (bytes : List ℕ) → IsPlaced shape addr (length bytes) → (o : Option (List (ℕ × ℕ))) → ranges t ≡ o → (p : Option ℕ) → edit_pos floor (addr, length bytes) (listed o) ≡ p
      → with_log ranges t (Some (cond (is_some p) (listed o) (listed o ++ (addr, length bytes) ∷ []))) ≡ ranges_done (Some (write_of t addr bytes p)) ranges
  ranges_write shape floor addr bytes placed o is None at = λ i. with_log ranges t (Some (listed (sym is i) ++ ranges_of (sym (one_write_part addr bytes placed.some placed.page) i)))
  ranges_write shape floor addr bytes placed None is (Some pos) at = cc
  ranges_write shape floor addr bytes placed (Some rs) is (Some pos) at = with_same ranges t (Some rs) (sym is)

  ranges_map : (f : List (ℕ × ℕ) → List (ℕ × ℕ)) (command : Command) → ranges_after command ranges ≡ with_log ranges t (Some (f (listed (ranges t)))) → (o : Option (List (ℕ × ℕ))) → ranges t ≡ o
      → with_log ranges t (option_map f o) ≡ ranges_done (option_map (λ rs. command) o) ranges
  ranges_map f command is None none = with_same ranges t None (sym none)
  ranges_map f command is (Some rs) some = ap (λ (p : Option (List (ℕ × ℕ))). with_log ranges t (Some (f (listed p)))) (sym some) ∙ sym is

  ranges_end : (command : Command) → ranges_after command ranges ≡ with_log ranges t None → (o : Option (List (ℕ × ℕ))) → ranges t ≡ o → with_log ranges t None ≡ ranges_done (option_map (λ rs. command) o) ranges
  ranges_end command is None none = with_same ranges t None (sym none)
  ranges_end command is (Some rs) some = sym is

pub device_does_ranges : (shape : Shape) (c : PageCommand) (o : Outline) → IsAllowed shape c o → (outline_after c o).ranges ≡ ranges_done (device c o) o.ranges
device_does_ranges shape (write_as t addr bytes) o placed = ranges_write o.ranges t shape (floor_in o t) addr bytes placed (o.ranges t) refl (edit_pos (floor_in o t) (addr, length bytes) (listed (o.ranges t))) refl
device_does_ranges shape (save t) o allowed = refl
device_does_ranges shape (back t n) o allowed = ranges_map o.ranges t (take (count_at (o.counts t) n)) (partial_abort t (count_at (o.counts t) n)) refl (o.ranges t) refl
device_does_ranges shape (top_begin t) o allowed = refl
device_does_ranges shape (top_end t mark) o allowed = ranges_map o.ranges t (take mark) (nested_top t mark) refl (o.ranges t) refl
device_does_ranges shape (end t true) o allowed = ranges_end o.ranges t (commit t) refl (o.ranges t) refl
device_does_ranges shape (end t false) o allowed = ranges_end o.ranges t (abort t) refl (o.ranges t) refl
device_does_ranges shape (end_group ts) o allowed = sym (each_live o.ranges ts)
device_does_ranges shape (atomic_write t addr bytes) o allowed = refl
device_does_ranges shape (read_as t) o allowed = refl
device_does_ranges shape read o allowed = refl
