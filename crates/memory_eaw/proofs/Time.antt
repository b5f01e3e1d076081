-- What might have been left of a store in memory, as time goes on.
use Rattle.std.proofs.Common.{◌≡◌, ℕ, ◌+◌, ◌<◌, ◌≤◌, ◌⊎◌, inl, inr, ⊎_elim, List, [], ◌∷◌, ◌++◌, refl, sym, ◌∙◌, ap, subst, arith}
use Rattle.array_shape.specs.Logged.{Part, applied}
use Rattle.eaw_face.specs.StoreView.{LeavesOnly}
use Rattle.eaw_face.specs.Does.{IsEither}
use Rattle.memory_eaw.specs.Kept.{Version, Kept}
use Rattle.memory_eaw.specs.Plain.{Plain, WasBefore, LeftSince, IsData, view_of}
use Rattle.memory_eaw.specs.Steps.{committed}

was_push : (past : List Version) (v : Version) (t : ℕ) (image : List ℕ) → WasBefore past t image → WasBefore (past ++ v ∷ []) t image
was_push [] v t image was = absurd was
was_push (u ∷ past) v t image was = ⊎_elim (λ here. inl here) (λ later. inr (was_push past v t image later)) was

was_last : (past : List Version) (v : Version) (t : ℕ) (image : List ℕ) → t < v.until → image ≡ v.bytes → WasBefore (past ++ v ∷ []) t image
was_last [] v t image lt is = inl (lt, is)
was_last (u ∷ past) v t image lt is = inr (was_last past v t image lt is)

was_only : (past : List Version) (v : Version) (t : ℕ) (image : List ℕ) → WasBefore (past ++ v ∷ []) t image → WasBefore past t image ⊎ (image ≡ v.bytes)
was_only [] v t image was = ⊎_elim (λ here. inr here.1) (λ none. absurd none) was
was_only (u ∷ past) v t image was = ⊎_elim (λ here. inl (inl here)) (λ later. ⊎_elim (λ before. inl (inr before)) (λ last. inr last) (was_only past v t image later)) was

module _ (old new : Plain) (P : List ℕ → Type 0) where
  -- the data is the same
  pub time_same : new.bytes ≡ old.bytes → new.kept.past ≡ old.kept.past → old.kept.moment ≤ new.kept.moment → LeavesOnly P (view_of old) (view_of new)
  time_same bytes past le = record {
    later = le;
    keeps = λ t image at left. subst (λ (bs : List ℕ). LeftSince bs new.kept.past t image) (sym bytes) (subst (λ (vs : List Version). LeftSince old.bytes vs t image) (sym past) left);
    only = λ t image at left. inl (subst (λ (vs : List Version). LeftSince old.bytes vs t image) past (subst (λ (bs : List ℕ). LeftSince bs new.kept.past t image) bytes left));
  }

  -- it was changed, and what it was is kept
  pub time_changed : new.kept.moment ≡ old.kept.moment + 1 → new.kept.past ≡ old.kept.past ++ record { until = old.kept.moment + 1; bytes = old.bytes } ∷ [] → P new.bytes → LeavesOnly P (view_of old) (view_of new)
  time_changed next past is = record {
    later = omega arith;
    keeps = λ t image at left. inr (subst (λ (vs : List Version). WasBefore vs t image) (sym past)
        (⊎_elim (λ now. was_last old.kept.past (record { until = old.kept.moment + 1; bytes = old.bytes }) t image (omega arith) now)
        (λ was. was_push old.kept.past (record { until = old.kept.moment + 1; bytes = old.bytes }) t image was) left));
    only = λ t image at left. ⊎_elim
        (λ now. inr (subst P (sym now) is))
        (λ was. inl (⊎_elim (λ before. inr before) (λ last. inl last)
        (was_only old.kept.past (record { until = old.kept.moment + 1; bytes = old.bytes }) t image (subst (λ (vs : List Version). WasBefore vs t image) past was))))
        left;
  }

-- parts were committed
pub time_committed : (ps : List Part) (old new : Plain) (bytes : List ℕ) → new.bytes ≡ (committed ps old).bytes → new.kept ≡ (committed ps old).kept → applied ps old.bytes ≡ bytes
    → LeavesOnly (IsEither IsData old.bytes bytes) (view_of old) (view_of new)
time_committed [] old new bytes same kept is = time_same old new (IsEither IsData old.bytes bytes) same (ap (λ (k : Kept). k.past) kept) (omega (arith, ap (λ (k : Kept). k.moment) kept))
time_committed (p ∷ ps) old new bytes same kept is =
    time_changed old new (IsEither IsData old.bytes bytes) (ap (λ (k : Kept). k.moment) kept) (ap (λ (k : Kept). k.past) kept) (inr (same ∙ is))

pub bytes-committed : (ps : List Part) (old : Plain) → (committed ps old).bytes ≡ applied ps old.bytes
bytes-committed [] old = refl
bytes-committed (p ∷ ps) old = refl

pub logs-committed : (ps : List Part) (old : Plain) → (committed ps old).logs ≡ old.logs
logs-committed [] old = refl
logs-committed (p ∷ ps) old = refl
