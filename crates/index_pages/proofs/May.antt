-- That a change may be made.
use Rattle.std.proofs.Common.{◌≡◌, ◌<◌, ℕ, Bool, false, List, Option, None, IsTrue, refl, sym, ◌∙◌, ap, subst}
use Rattle.array_shape.specs.declared.shape.Shape.{Shape}
use Rattle.eaw_face.specs.Causes.{IsAlive}
use Rattle.eaw_face.specs.State.{State}
use Rattle.page_store.specs.Index.{Index, IsTable}
use Rattle.page_store.specs.Looks.{Looks}
use Rattle.page_store.specs.Shown.{PagesView}
use Rattle.index_pages.specs.May.{MayAct}

-- from what is known of a store only where it is alive, once it is known to be
pub may_then : (tells : Bool) (index : Index) (tid table root : ℕ) (pages : PagesView) → tid < pages.store.shape.numbers → table < 8 → (IsAlive pages.store → pages.top tid ≡ None) → IsAlive pages.store
    → (IsTrue tells → IsAlive pages.store → index.sound pages.store.state.bytes) → (IsTrue tells → IsAlive pages.store → IsTable pages.store.state.bytes table root) → MayAct tells index tid table root pages
may_then tells index tid table root pages number one_of closed alive sound named =
    record { number = number; one_of = one_of; closed = closed alive; alive = alive; sound = λ told. sound told alive; named = λ told. named told alive }

-- after pages were looked at
pub may_yet : (tells : Bool) (Opens : List ℕ → List ℕ → Type 0) (index : Index) (tid table root : ℕ) (old new : PagesView) → Looks tells Opens false old new → MayAct tells index tid table root old → MayAct tells index tid table root new
may_yet tells Opens index tid table root old new looks may =
    let still = looks.still refl in
    record {
      number = subst (λ (sh : Shape). tid < sh.numbers) (sym looks.shape) may.number;
      one_of = may.one_of;
      closed = ap (λ (f : ℕ → Option ℕ). f tid) looks.tops ∙ may.closed;
      alive = still.dead ∙ may.alive;
      sound = λ told. subst (λ (s : State). index.sound s.bytes) (sym (still.state told)) (may.sound told);
      named = λ told. subst (λ (s : State). IsTable s.bytes table root) (sym (still.state told)) (may.named told);
    }
