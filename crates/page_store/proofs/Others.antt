-- What a command leaves alone.
use Rattle.std.proofs.Common.{◌≡◌, ℕ, true, false, [], ◌∷◌, ◌++◌, length, take, refl, ap}
use Rattle.std.specs.Prelude.{Some, None}
use Rattle.std.specs.Option.{option_map}
use Rattle.eaw_face.specs.State.{listed}
use Rattle.page_store.specs.Edit.{with_write}
use Rattle.page_store.specs.State.{PagesState, log_of, with_one, save_at, floor_of}
use Rattle.page_store.specs.Command.{PageCommand, write_as, save, back, top_begin, top_end, end, end_group, atomic_write, read_as, read, after, WorksFor, IsQuiet}
use Rattle.eaw_face.proofs.Others.{with_each_other}
use Rattle.page_store.proofs.Numbers.{with_there}

pub data_stays : (c : PageCommand) (s : PagesState) → IsQuiet c → (after c s).store.bytes ≡ s.store.bytes
data_stays (write_as t addr bytes) s quiet = refl
data_stays (save t) s quiet = refl
data_stays (back t n) s quiet = refl
data_stays (top_begin t) s quiet = refl
data_stays (top_end t mark) s quiet = absurd quiet
data_stays (end t true) s quiet = cc
data_stays (end t false) s quiet = refl
data_stays (end_group ts) s quiet = absurd quiet
data_stays (atomic_write t addr bytes) s quiet = absurd quiet
data_stays (read_as t) s quiet = refl
data_stays read s quiet = refl

-- the parts, the saves and the mark of another number
module _ (s : PagesState) (u : ℕ) where
  there : {A : Type 0} (f : ℕ → A) (t : ℕ) (x : A) → (u ≡ t → ⊥) → with_one f t x u ≡ f u
  there f t x other = with_there f t x u other

  pub others_parts : (c : PageCommand) → (WorksFor c u → ⊥) → log_of (after c s) u ≡ log_of s u
  others_parts (write_as t addr bytes) other = ap listed (there s.store.logs t (Some (with_write (floor_of s t) addr bytes (log_of s t))) other)
  others_parts (save t) other = refl
  others_parts (back t n) other = ap listed (there s.store.logs t (option_map (λ log. save_at (s.saved t) n) (s.store.logs t)) other)
  others_parts (top_begin t) other = refl
  others_parts (top_end t mark) other = ap listed (there s.store.logs t (option_map (take mark) (s.store.logs t)) other)
  others_parts (end t commits) other = ap listed (there s.store.logs t None other)
  others_parts (end_group ts) other = ap listed (with_each_other s.store.logs ts None u other)
  others_parts (atomic_write t addr bytes) other = refl
  others_parts (read_as t) other = refl
  others_parts read other = refl

  pub others_saves : (c : PageCommand) → (WorksFor c u → ⊥) → (after c s).saved u ≡ s.saved u
  others_saves (write_as t addr bytes) other = refl
  others_saves (save t) other = there s.saved t (s.saved t ++ log_of s t ∷ []) other
  others_saves (back t n) other = there s.saved t (take n (s.saved t)) other
  others_saves (top_begin t) other = refl
  others_saves (top_end t mark) other = refl
  others_saves (end t commits) other = there s.saved t [] other
  others_saves (end_group ts) other = with_each_other s.saved ts [] u other
  others_saves (atomic_write t addr bytes) other = refl
  others_saves (read_as t) other = refl
  others_saves read other = refl

  pub others_tops : (c : PageCommand) → (WorksFor c u → ⊥) → (after c s).top u ≡ s.top u
  others_tops (write_as t addr bytes) other = refl
  others_tops (save t) other = refl
  others_tops (back t n) other = refl
  others_tops (top_begin t) other = there s.top t (Some (length (log_of s t))) other
  others_tops (top_end t mark) other = there s.top t None other
  others_tops (end t commits) other = refl
  others_tops (end_group ts) other = refl
  others_tops (atomic_write t addr bytes) other = refl
  others_tops (read_as t) other = refl
  others_tops read other = refl
