-- A way back to a save gives the parts as they were at that save, whatever was done between.
use Rattle.std.proofs.Common.{◌≡◌, ℕ, ◌+◌, ◌<◌, ◌≤◌, Bool, cond, inl, inr, List, [], ◌∷◌, ◌++◌, length, take, refl, sym, ◌∙◌, ap, arith}
use Rattle.std.specs.Prelude.{None}
use Rattle.std.proofs.lemmas.Bool.{cases_eq}
use Rattle.std.proofs.lemmas.List.{length-append, length-take}
use Rattle.array_shape.specs.declared.shape.Shape.{Shape}
use Rattle.array_shape.specs.Places.{data_len}
use Rattle.array_shape.specs.Logged.{Part, applied}
use Rattle.page_store.specs.State.{PagesState, log_of, view_of, with_one, save_at}
use Rattle.page_store.specs.Command.{PageCommand, write_as, save, back, top_begin, top_end, end, end_group, atomic_write, read_as, read, after}
use Rattle.page_store.specs.Kept.{IsKept, Spares}
use Rattle.page_store.specs.Played.{fresh, played, AreAllowed, AllSpare}
use Rattle.page_store.proofs.Numbers.{with_here, with_there}
use Rattle.page_store.proofs.Views.{saves_stay, save_count, save_list, back_list}
use Rattle.page_store.proofs.Keeping.{kept_after, kept_none}

pub kept_fresh : (shape : Shape) (bytes : List ℕ) → length bytes ≡ data_len shape → IsKept shape (fresh bytes)
kept_fresh shape bytes long = record { long = long; each = λ t. kept_none shape None refl }

pub kept_played : (shape : Shape) (cs : List PageCommand) (s : PagesState) → IsKept shape s → AreAllowed shape cs s → IsKept shape (played cs s)
kept_played shape [] s kept allowed = kept
kept_played shape (c ∷ cs) s kept allowed = kept_played shape cs (after c s) (kept_after shape s kept c allowed.0) allowed.1

same_count : (s : PagesState) (u t n : ℕ) (saved : List (List Part)) → (u ≡ t → n ≤ length saved) → n ≤ length (s.saved t) → n ≤ length (with_one s.saved u saved t)
same_count s u t n saved here le = elim (cases_eq t u) [
  | inl is ↦ omega (arith, here (sym is), ap length (ap (with_one s.saved u saved) is ∙ with_here s.saved u saved))
  | inr ne ↦ omega (arith, le, ap length (with_there s.saved u saved t ne))
]

-- the save is still there
pub saves_enough : (c : PageCommand) (s : PagesState) (t n : ℕ) → n ≤ length (s.saved t) → Spares c t n → n ≤ length ((after c s).saved t)
saves_enough (write_as u addr bytes) s t n le spares = le
saves_enough (save u) s t n le spares = same_count s u t n (s.saved u ++ log_of s u ∷ []) (λ is. omega (arith, length-append (s.saved u) (log_of s u ∷ []), ap (λ (k : ℕ). length (s.saved k)) is)) le
saves_enough (back u m) s t n le spares = same_count s u t n (take m (s.saved u)) (λ is. let early : n ≤ m = spares is in omega (arith, length-take m (s.saved u), ap (λ (k : ℕ). length (s.saved k)) is)) le
saves_enough (top_begin u) s t n le spares = le
saves_enough (top_end u mark) s t n le spares = le
saves_enough (end u commits) s t n le spares = same_count s u t n [] (λ is. absurd (spares is)) le
saves_enough (end_group us) s t n le spares = omega (arith, le, ap (λ (b : Bool). length (cond b [] (s.saved t))) spares)
saves_enough (atomic_write u addr bytes) s t n le spares = le
saves_enough (read_as u) s t n le spares = le
saves_enough read s t n le spares = le

pub all_saves_enough : (cs : List PageCommand) (s : PagesState) (t n : ℕ) → n ≤ length (s.saved t) → AllSpare cs t n → n ≤ length ((played cs s).saved t)
all_saves_enough [] s t n le spare = le
all_saves_enough (c ∷ cs) s t n le spare = all_saves_enough cs (after c s) t n (saves_enough c s t n le spare.0) spare.1

pub all_saves_stay : (cs : List PageCommand) (s : PagesState) (t n : ℕ) → 0 < n → n ≤ length (s.saved t) → AllSpare cs t n → save_at ((played cs s).saved t) n ≡ save_at (s.saved t) n
all_saves_stay [] s t n some le spare = refl
all_saves_stay (c ∷ cs) s t n some le spare = all_saves_stay cs (after c s) t n some (saves_enough c s t n le spare.0) spare.1 ∙ saves_stay c s t n some le spare.0

-- a save, commands that leave it, and the way back to it
module _ (shape : Shape) (s : PagesState) (kept : IsKept shape s) (t : ℕ) (cs : List PageCommand) (allowed : AreAllowed shape (save t ∷ cs) s) (spare : AllSpare cs t (length (s.saved t) + 1)) where
  there : length (s.saved t) + 1 ≤ length ((played (save t ∷ cs) s).saved t)
  there = all_saves_enough cs (after (save t) s) t (length (s.saved t) + 1) (omega (arith, save_count s t)) spare

  pub back_restores_list : log_of (after (back t (length (s.saved t) + 1)) (played (save t ∷ cs) s)) t ≡ log_of s t
  back_restores_list =
      back_list shape (played (save t ∷ cs) s) (kept_played shape (save t ∷ cs) s kept allowed) t (length (s.saved t) + 1) (omega arith) there
      ∙ all_saves_stay cs (after (save t) s) t (length (s.saved t) + 1) (omega arith) (omega (arith, save_count s t)) spare
      ∙ save_list s t

  pub back_restores_view : view_of t (after (back t (length (s.saved t) + 1)) (played (save t ∷ cs) s)) ≡ applied (log_of s t) (played (save t ∷ cs) s).store.bytes
  back_restores_view = ap (λ (l : List Part). applied l (played (save t ∷ cs) s).store.bytes) back_restores_list
