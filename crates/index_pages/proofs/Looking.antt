-- Looks at pages: one read, none, and one after another.
use Rattle.std.proofs.Common.{◌≡◌, ◌≢◌, ℕ, Bool, false, inl, inr, List, Result, Ok, Err, refl, sym, ◌∙◌, ap, subst}
use Rattle.std.proofs.lemmas.Bool.{false≢true}
use Rattle.mars_base.specs.Causes.{Rose}
use Rattle.mars_base.proofs.Going.{stays, then, weaker}
use Rattle.array_shape.specs.declared.shape.Shape.{Shape}
use Rattle.eaw_face.specs.State.{State}
use Rattle.eaw_face.proofs.Mirroring.{none_sent, sent_then}
use Rattle.page_store.specs.State.{PagesState}
use Rattle.page_store.specs.Command.{read}
use Rattle.page_store.specs.Does.{Does}
use Rattle.page_store.specs.Outline.{Outline}
use Rattle.page_store.specs.Shown.{PagesView}
use Rattle.page_store.specs.Looks.{Looks, is_failed, LookCause}
use Rattle.page_store.specs.declared.fault.PageFault.{PageFault}
use Rattle.page_store.specs.declared.fault.PageFault.TheVariants.{LogFull, SavesFull, Media, Dead, Damaged}

module _ (tells : Bool) (Opens : List ℕ → List ℕ → Type 0) where
  -- no look
  pub looks_none : (old : PagesView) → Looks tells Opens false old old
  looks_none old = record {
    shape = refl;
    depth = refl;
    mirrors = none_sent tells old.store old.store refl refl refl refl (λ fine. fine) (λ told mirrors fine. refl);
    ranges = refl;
    saves = refl;
    tops = refl;
    still = λ well. record { dead = refl; faults = refl; state = λ told. refl };
    dies = λ failed. absurd (false≢true failed);
    time = λ told alive. stays old.store.moment old.store.left_since (λ image. Opens image old.store.state.bytes);
  }

  -- the same views
  pub looks_same : (old new : PagesView) → new ≡ old → Looks tells Opens false old new
  looks_same old new same = subst (λ (v : PagesView). Looks tells Opens false old v) (sym same) (looks_none old)

  -- one that succeeded, and another
  pub looks_then : (failed : Bool) (old mid new : PagesView) → Looks tells Opens false old mid → Looks tells Opens failed mid new → Looks tells Opens failed old new
  looks_then failed old mid new first second =
      let still = first.still refl in
      record {
        shape = second.shape ∙ first.shape;
        depth = second.depth ∙ first.depth;
        mirrors = sent_then tells old.store mid.store new.store first.mirrors second.mirrors;
        ranges = second.ranges ∙ first.ranges;
        saves = second.saves ∙ first.saves;
        tops = second.tops ∙ first.tops;
        still = λ well. let later = second.still well in record { dead = later.dead ∙ still.dead; faults = later.faults ∙ still.faults; state = λ told. later.state told ∙ still.state told };
        dies = λ bad. let later = second.dies bad in (later.0, subst (λ (n : ℕ). Rose n new.store.faults) still.faults later.1);
        time = λ told alive.
            then (first.time told alive)
            (weaker (λ image. λ opens. subst (λ (s : State). Opens image s.bytes) (still.state told) opens) (second.time told (still.dead ∙ alive)));
      }

  -- a read of pages
  pub looks_read : {T : Type 0} (old new : PagesView) (r : Result T PageFault) → Does tells Opens read old new r → ((p : PageFault) → r ≡ Err p → p ≢ Media → new ≡ old)
      → Looks tells Opens (is_failed r) old new × LookCause tells old.store r
  looks_read old new (Ok answer) does same =
      let out = does.done.outline in (
        record {
          shape = does.shape;
          depth = does.depth;
          mirrors = does.mirrors;
          ranges = ap (λ (o : Outline). o.ranges) out;
          saves = ap (λ (o : Outline). o.counts) out;
          tops = ap (λ (o : Outline). o.top) out;
          still = λ well. record { dead = does.done.alive ∙ sym does.cause.0; faults = does.kept; state = λ told. ap (λ (s : PagesState). s.store) (does.done.state told) };
          dies = λ failed. absurd (false≢true failed);
          time = λ told alive. weaker (λ image either. elim either [ inl before ↦ before | inr behind ↦ behind ]) (does.time told alive);
        },
        does.cause.0,
      )
  looks_read old new (Err Media) does same = (
    record {
      shape = does.shape;
      depth = does.depth;
      mirrors = does.mirrors;
      ranges = λ i u. does.others u (λ e. e) i;
      saves = does.marks.0;
      tops = does.marks.1;
      still = λ well. absurd (false≢true (sym well));
      dies = λ failed. (does.dies refl, does.cause.2);
      time = λ told alive. weaker (λ image either. elim either [ inl before ↦ before | inr behind ↦ behind ]) (does.time told alive);
    },
    does.cause.0,
  )
  looks_read old new (Err Dead) does same = (looks_same old new (same Dead refl (λ e. cc)), does.cause)
  looks_read old new (Err (LogFull g h n)) does same = absurd does.cause.1
  looks_read old new (Err SavesFull) does same = absurd does.cause.1
  looks_read old new (Err (Damaged page)) does same = absurd does.cause

-- the same if the second begins with the shape of its own store
pub looks_next : (tells : Bool) (Opens : Shape → List ℕ → List ℕ → Type 0) (failed : Bool) (old mid new : PagesView) → Looks tells (Opens old.store.shape) false old mid
    → Looks tells (Opens mid.store.shape) failed mid new → Looks tells (Opens old.store.shape) failed old new
looks_next tells Opens failed old mid new first second =
    looks_then tells (Opens old.store.shape) failed old mid new first (subst (λ (s : Shape). Looks tells (Opens s) failed mid new) first.shape second)
