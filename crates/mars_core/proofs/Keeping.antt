-- What a core keeps true after a call.
use Rattle.std.proofs.Common.{◌≡◌, ◌≢◌, ℕ, Bool, true, nat_eq, List, [], length, IsTrue, Option, None, sym, ap, ◌∙◌}
use Rattle.std.specs.Map.{update}
use Rattle.std.proofs.lemmas.Bool.{false≢true}
use Rattle.array_shape.specs.declared.shape.Shape.{Shape}
use Rattle.eaw_face.specs.Causes.{IsAlive}
use Rattle.eaw_face.specs.State.{listed}
use Rattle.page_store.specs.Index.{Index}
use Rattle.page_store.specs.Shown.{PagesView}
use Rattle.history.specs.Rows.{NamedRows}
use Rattle.caller_steps.specs.State.{State}
use Rattle.caller_steps.specs.Core.{IsSafe}
use Rattle.mars_core.specs.Held.{core_over}
use Rattle.mars_core.specs.Kept.{HaveSaves, IsTied, IsKept}
use Rattle.mars_core.proofs.Idle.{idle_after}
use Rattle.mars_core.proofs.Saving.{saves_one}

module _ (tells : Bool) (Opens : Shape → List ℕ → List ℕ → Type 0) (index : Index) (p q : PagesView) (s new : State) (count count' : ℕ) (same_count : count' ≡ count) (rows : List NamedRows) (kept : IsKept tells Opens index p count rows s)
    (shape : q.store.shape ≡ p.store.shape) (safe : IsTrue tells → IsSafe (core_over Opens index q.store new) q.store.moment (length new.history)) where
  -- the store works on
  pub still_keeps : ((t : ℕ) → new.live t ≡ None → listed (q.store.ranges t) ≡ []) → HaveSaves q.counts new → (IsTrue tells → IsTied index q new) → IsKept tells Opens index q count' rows new
  still_keeps idle saves tied = record {
    seats = same_count ∙ kept.seats ∙ sym (ap (λ (h : Shape). h.numbers) shape);
    in_order = kept.in_order;
    idle = λ _. idle;
    saves = λ _. saves;
    tied = λ told _. tied told;
    safe = safe;
  }

  -- the store works on, and one caller's transaction has ended
  pub ended_keeps : IsAlive p.store → (t : ℕ) → new.live ≡ update nat_eq s.live t None → ((u : ℕ) → u ≢ t → (q.store.ranges u ≡ p.store.ranges u) × (q.counts u ≡ p.counts u)) → length (q.counts t) ≡ 0
      → q.store.ranges t ≡ None → (IsTrue tells → IsTied index q new) → IsKept tells Opens index q count' rows new
  ended_keeps alive t live others saves free tied = still_keeps
      (idle_after p.store.ranges q.store.ranges s.live new.live t (λ u ne. (others u ne).0) (kept.idle alive) None live (λ _. ap (λ (o : Option (List (ℕ × ℕ))). listed o) free))
      (saves_one p.counts q.counts s new t None (λ u ne. (others u ne).1) live (λ table. saves) (kept.saves alive)) tied

  -- the store is dead
  pub dead_keeps : q.store.is_dead ≡ true → IsKept tells Opens index q count' rows new
  dead_keeps dead = record {
    seats = same_count ∙ kept.seats ∙ sym (ap (λ (h : Shape). h.numbers) shape);
    in_order = kept.in_order;
    idle = λ living. absurd (false≢true (sym living ∙ dead));
    saves = λ living. absurd (false≢true (sym living ∙ dead));
    tied = λ told living. absurd (false≢true (sym living ∙ dead));
    safe = safe;
  }
