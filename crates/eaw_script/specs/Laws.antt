-- Laws of what a loss of power leaves of a script: over no line, and over one line after another.
use Rattle.std.proofs.Common.{ℕ, List, inl, refl, sym, subst, ◌∙◌, arith}
use Rattle.mars_base.proofs.Going as going
use Rattle.array_shape.specs.declared.shape.Shape.{Shape}
use Rattle.eaw_face.specs.StoreView.{StoreView, LeavesOnly}
use Rattle.eaw_script.specs.Progress.{Progress, MayStand, IsMade, OpensWith, Shows, Comes}

module _ (Opens : Shape → List ℕ → List ℕ → Type 0) where
  pub comes_none : (store : StoreView) (progress : Progress) → Shows store progress → ((image : List ℕ) → store.left_since store.moment image → Opens store.shape image store.state.bytes)
      → Comes Opens store progress store progress
  comes_none store progress shows only = record {
    shape = refl;
    grows = λ bytes made. made;
    since = record { later = omega arith; keeps = λ t image le was. was; only = λ t image le left. inl left };
    now = λ image left. (
      store.state.bytes,
      subst (λ (s : Shape). Opens s image store.state.bytes) (sym shows.shape) (only image left),
      inl (λ i. (sym shows.state i).bytes),
    );
  }

  pub comes_on : (first mid last : StoreView) (s t u : Progress) → Comes Opens first s mid t → Comes Opens mid t last u → Comes Opens first s last u
  comes_on first mid last s t u before behind =
      let since : LeavesOnly (OpensWith (Opens s.shape) (IsMade u)) mid last = subst (λ (shape : Shape). LeavesOnly (OpensWith (Opens shape) (IsMade u)) mid last) before.shape behind.since in
      record {
        shape = behind.shape ∙ before.shape;
        grows = λ bytes made. behind.grows bytes (before.grows bytes made);
        since = going.then (going.weaker (λ image opens. (opens.0, opens.1, behind.grows opens.0 opens.2)) before.since) since;
        now = λ image left. subst (λ (shape : Shape). OpensWith (Opens shape) (MayStand u) image) before.shape (behind.now image left);
      }
