-- What a core shows of its store, and what is logged there for callers, as what they see.
use Rattle.std.proofs.Common.{◌≡◌, ℕ, Bool, List, refl, sym}
use Rattle.array_shape.specs.declared.shape.Shape.{Shape}
use Rattle.page_store.specs.Index.{Index}
use Rattle.page_store.specs.Shown.{PagesView}
use Rattle.history.specs.Rows.{NamedRows}
use Rattle.record_table.specs.Shown.{state_of}
use Rattle.caller_steps.specs.State.{State}
use Rattle.mars_core.specs.Held.{core_over}
use Rattle.mars_core.specs.Kept.{IsTied, IsKept}
use Rattle.mars_core.specs.Over.{LeavesView, IsOver, index_of}
use Rattle.mars_core.proofs.Mirroring.{seen_is}

pub views_are : (index : Index) (p : PagesView) (state : State) → IsTied index p state → (caller : ℕ) → LeavesView index p.store state caller
views_are index p state tied caller = seen_is (state_of index p) state tied.mirrors caller (tied.sound.right caller)

pub over_is : (tells : Bool) (Opens : Shape → List ℕ → List ℕ → Type 0) (index : Index) (p : PagesView) (count : ℕ) (rows : List NamedRows) (state : State) → IsKept tells Opens index p count rows state
    → state.is_dead ≡ p.store.is_dead → state.index ≡ index_of index p.store.state.bytes → IsOver tells (Opens p.store.shape) index p.store (core_over Opens index p.store state)
over_is tells Opens index p count rows state kept dead indexed = record {
  limits = refl;
  faults = refl;
  moment = refl;
  left = λ since image. (λ left. left, λ left. left);
  opens_to = λ image table. (λ opens. opens, λ opens. opens);
  dead = dead;
  keys = λ told. indexed;
  sound = λ told alive. (kept.tied told alive).index_sound;
  names = λ told alive. sym (kept.tied told alive).named;
  table = λ told alive. (kept.tied told alive).mirrors.table;
  views = λ told alive caller. views_are index p state (kept.tied told alive) caller;
}
