-- A store in memory keeps the laws of a store.
use Rattle.std.specs.Prelude.{ℕ, zero, suc, ◌≡◌, ◌≤◌, Bool, true, false, if◌then◌else◌, List, [], ◌∷◌, length, Some, None, All, refl}
use Rattle.std.specs.Option.{option_map}
use Rattle.std.proofs.Common.{inl, inr, ⊎_elim, ap, arith}
use Rattle.std.proofs.lemmas.List.Elements.{All-head, All-tail}
use Rattle.array_shape.specs.declared.shape.Shape.{Shape}
use Rattle.array_shape.specs.Logged.{Part, ranges_of}
use Rattle.eaw_face.specs.State.{listed}
use Rattle.eaw_face.specs.StoreView.{ArePlaced, LeavesSome}
use Rattle.memory_eaw.specs.Kept.{Version}
use Rattle.mirror.specs.Log.{Log, IsWritePart}
use Rattle.memory_eaw.specs.Log.{IsSoundLog, logged, outline}
use Rattle.memory_eaw.specs.Plain.{Plain, WasBefore, LeftSince, IsData, view_of, IsSound}

logged-past : (logs : List Log) (t : ℕ) → length logs ≤ t → logged logs t ≡ None
logged-past [] t le = refl
logged-past (log ∷ logs) zero le = absurd (omega arith)
logged-past (log ∷ logs) (suc t) le = logged-past logs t (omega arith)

are_placed : (shape : Shape) (parts : List Part) → All (IsWritePart shape) parts → ArePlaced shape (ranges_of parts)
are_placed shape [] placed = tt
are_placed shape (p ∷ parts) placed = (All-head (IsWritePart shape) p parts placed, are_placed shape parts (All-tail (IsWritePart shape) p parts placed))

log_placed : (shape : Shape) (is_live : Bool) (parts : List Part) → All (IsWritePart shape) parts → ArePlaced shape (listed (option_map ranges_of (if is_live then Some parts else None)))
log_placed shape true parts placed = are_placed shape parts placed
log_placed shape false parts placed = tt

logs_placed : (shape : Shape) (logs : List Log) (t : ℕ) → All (IsSoundLog shape) logs → ArePlaced shape (listed (outline (logged logs) t))
logs_placed shape [] t all = tt
logs_placed shape (log ∷ logs) zero all = log_placed shape log.is_live log.parts (All-head (IsSoundLog shape) log logs all).placed
logs_placed shape (log ∷ logs) (suc t) all = logs_placed shape logs t (All-tail (IsSoundLog shape) log logs all)

was_earlier : (past : List Version) (t now : ℕ) (image : List ℕ) → t ≤ now → WasBefore past now image → WasBefore past t image
was_earlier [] t now image le was = was
was_earlier (v ∷ past) t now image le was = ⊎_elim (λ here. inl (omega (arith, here.0), here.1)) (λ later. inr (was_earlier past t now image le later)) was

was_none : (past : List Version) (now : ℕ) (image : List ℕ) → All (λ v. v.until ≤ now) past → WasBefore past now image → ⊥
was_none [] now image stamped was = was
was_none (v ∷ past) now image stamped was = ⊎_elim
    (λ here. omega (arith, here.0, All-head (λ w. w.until ≤ now) v past stamped))
    (λ later. was_none past now image (All-tail (λ w. w.until ≤ now) v past stamped) later)
    was

-- the data as it is may be left now
pub some_now : (plain : Plain) → LeavesSome (view_of plain)
some_now plain = record { image = plain.bytes; left = inl refl }

module _ (plain : Plain) (sound : IsSound plain) where
  -- each part lies within one page, and no number beyond the array's is live
  pub placed_in : (t : ℕ) → ArePlaced plain.shape (listed (outline (logged plain.logs) t))
  placed_in t = logs_placed plain.shape plain.logs t sound.logs

  pub beyond_in : (t : ℕ) → plain.shape.numbers ≤ t → outline (logged plain.logs) t ≡ None
  beyond_in t le = ap (option_map ranges_of) (logged-past plain.logs t (omega (arith, sound.numbers)))

  -- what may be left now counts as left since each moment up to now, and it is the data
  pub counts_now : (t : ℕ) (image : List ℕ) → t ≤ plain.kept.moment → LeftSince plain.bytes plain.kept.past plain.kept.moment image → LeftSince plain.bytes plain.kept.past t image
  counts_now t image le left = ⊎_elim (λ now. inl now) (λ was. inr (was_earlier plain.kept.past t plain.kept.moment image le was)) left

  pub only_now : (image : List ℕ) → LeftSince plain.bytes plain.kept.past plain.kept.moment image → IsData image plain.bytes
  only_now image left = ⊎_elim (λ now. now) (λ was. absurd (was_none plain.kept.past plain.kept.moment image sound.stamped was)) left
