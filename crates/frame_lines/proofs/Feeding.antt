-- A follower that keeps nothing is fed one whole frame.
use Rattle.std.proofs.Common.{◌≡◌, ℕ, ◌+◌, ◌⊎◌, inl, inr, ⊎_elim, Bool, List, [], ◌∷◌, ◌++◌, length, refl, sym, ◌∙◌, ap, subst, arith, append_assoc}
use Rattle.std.specs.Prelude.{flat_map}
use Rattle.std.proofs.lemmas.List.{append-nil, length-append}
use Rattle.std.proofs.lemmas.List.Elements.{All-head}
use Rattle.array_shape.specs.declared.shape.Shape.{Shape}
use Rattle.array_shape.specs.Logged.{applied}
use Rattle.eaw_face.specs.StoreView.{StoreView}
use Rattle.eaw_face.specs.Frame.{Frame, frame_bytes, written_by, mark, IsFrameIn, AreFrame, group_bytes}
use Rattle.eaw_face.specs.Mirroring.{followed}
use Rattle.byteorder.specs.Endian.{little_bytes}
use Rattle.mirror.specs.Following.{Stand, Cuts, Follows, HasFollowed, StopsBroken, StopsAtGap, LeavesFirst, IsGap}
use Rattle.mirror.proofs.Cuts.{frame_cut}
use Rattle.frame_lines.specs.Taken.{GoesOn}

-- a frame has bytes
some_bytes : (f : Frame) (more : List ℕ) → frame_bytes f ++ more ≡ [] → ⊥
some_bytes f more none =
    let long : length (frame_bytes f ++ more) ≡ 0 = ap (λ (l : List ℕ). length l) none in
    let both = length-append (frame_bytes f) more in
    let four = length-append mark (little_bytes 8 f.sequence ++ (little_bytes 2 (length f.groups) ++ flat_map group_bytes f.groups)) in
    let same : length (frame_bytes f) ≡ length (mark ++ (little_bytes 8 f.sequence ++ (little_bytes 2 (length f.groups) ++ flat_map group_bytes f.groups))) =
    ap (λ (l : List ℕ). length l) (append_assoc (mark ++ little_bytes 8 f.sequence) (little_bytes 2 (length f.groups)) (flat_map group_bytes f.groups) ∙ append_assoc mark (little_bytes 8 f.sequence) (little_bytes 2 (length f.groups) ++ flat_map group_bytes f.groups)) in
    omega (arith, long, both, four, same)

none_left : (xs ys : List ℕ) → [] ≡ xs ++ ys → (xs ≡ []) × (ys ≡ [])
none_left [] ys same = (refl, sym same)
none_left (x ∷ xs) ys same = cc

no_frames : (gs : List Frame) (left : List ℕ) → [] ≡ flat_map frame_bytes gs ++ left → (gs ≡ []) × (left ≡ [])
no_frames [] left same = (refl, sym same)
no_frames (g ∷ gs) left same = absurd (some_bytes g (flat_map frame_bytes gs ++ left) (sym (append_assoc (frame_bytes g) (flat_map frame_bytes gs) left) ∙ sym same))

module _ (tells : Bool) (old : Stand) (f : Frame) (good : IsFrameIn old.store.shape f) (none : old.rest ≡ []) (piece : List ℕ) (is : piece ≡ frame_bytes f) where
  -- none is applied and its bytes are left, or it alone is
  cut_one : (frames : List Frame) (left : List ℕ) → Cuts old piece frames left → ((frames ≡ []) × (left ≡ frame_bytes f)) ⊎ ((frames ≡ f ∷ []) × (left ≡ []))
  cut_one [] left cuts = inl (refl, sym cuts.joined ∙ ap (λ (l : List ℕ). l ++ piece) none ∙ is)
  cut_one (g ∷ gs) left cuts =
      let whole : frame_bytes f ++ [] ≡ frame_bytes g ++ (flat_map frame_bytes gs ++ left) =
      append-nil (frame_bytes f) ∙ sym is ∙ sym (ap (λ (l : List ℕ). l ++ piece) none) ∙ cuts.joined ∙ append_assoc (frame_bytes g) (flat_map frame_bytes gs) left in
      let both = frame_cut f g [] (flat_map frame_bytes gs ++ left) good.is (All-head (IsFrameIn old.store.shape) g gs cuts.good).is whole in
      let rest = no_frames gs left both.1 in
      inr ((λ i. sym both.0 i ∷ rest.0 i), rest.1)

  frame_is : (shape : Shape) → shape ≡ old.store.shape → (bytes : List ℕ) → bytes ≡ frame_bytes f → AreFrame shape bytes
  frame_is shape same bytes are = record { frame = f; good = subst (λ (s : Shape). IsFrameIn s f) (sym same) good; is = sym are }

  -- it was applied
  pub fed : (new : Stand) → Follows tells old new piece → (new.rest ≡ []) × (new.applied ≡ old.applied + 1) × (f.sequence ≡ old.applied + 1) × GoesOn tells (f ∷ []) old.store new.store
  fed new follows = ⊎_elim
      (λ not. absurd (follows.ready.none new.rest [] (sym (append-nil new.rest)) (frame_is new.store.shape follows.data_is.shape new.rest not.1)))
      (λ one. (
        one.1,
        follows.count ∙ ap (λ (fs : List Frame). old.applied + length fs) one.0,
        (let alone : Cuts old piece (f ∷ []) new.rest = subst (λ (fs : List Frame). Cuts old piece fs new.rest) one.0 follows.cuts in alone.sequence.0),
        record { data_is = subst (λ (fs : List Frame). HasFollowed tells fs old.store new.store) one.0 follows.data_is; faults = follows.faults; alive = follows.ready.alive },
      ))
      (cut_one follows.frames new.rest follows.cuts)

  -- it is no bad one
  pub not_bad : (new : StoreView) → StopsBroken tells old new piece → ⊥
  not_bad new stops = ⊎_elim
      (λ not. stops.is_broken stops.later (frame_is old.store.shape refl (stops.broken ++ stops.later) not.1))
      (λ one. stops.is_broken (frame_bytes f) (frame_is old.store.shape refl (stops.broken ++ frame_bytes f) (ap (λ (l : List ℕ). l ++ frame_bytes f) (none_left stops.broken stops.later (sym one.1)).0)))
      (cut_one stops.frames (stops.broken ++ stops.later) stops.stops.cuts)

  -- it is not the next one
  pub gap : (new : StoreView) (expected got : ℕ) → StopsAtGap tells old new piece expected got → (got ≡ f.sequence) × IsGap old.applied expected got × GoesOn tells [] old.store new
  gap new expected got stops = ⊎_elim
      (λ not.
      let both = frame_cut stops.next f stops.later [] stops.good.is good.is (not.1 ∙ sym (append-nil (frame_bytes f))) in (
        stops.got_is ∙ ap (λ (g : Frame). g.sequence) both.0,
        subst (λ (n : ℕ). IsGap n expected got) (let same : old.applied + 0 ≡ old.applied = omega arith in same) (subst (λ (fs : List Frame). IsGap (old.applied + length fs) expected got) not.0 stops.gap),
        record { data_is = subst (λ (fs : List Frame). HasFollowed tells fs old.store new) not.0 stops.stops.data_is; faults = stops.stops.faults; alive = stops.stops.alive },
      ))
      (λ one. absurd (some_bytes stops.next stops.later one.1))
      (cut_one stops.frames (frame_bytes stops.next ++ stops.later) stops.stops.cuts)

  abbrev LeavesWith : (Shape → List ℕ → List ℕ → Type 0) → List ℕ → List Frame → Type 0
  LeavesWith Opens image fs = Opens old.store.shape image (followed fs old.store.state.bytes)

  -- what is left is the data before, or with it applied
  pub left_fed : (Opens : Shape → List ℕ → List ℕ → Type 0) (image : List ℕ) → LeavesFirst Opens old piece image
      → Opens old.store.shape image old.store.state.bytes ⊎ ((f.sequence ≡ old.applied + 1) × Opens old.store.shape image (applied (written_by f) old.store.state.bytes))
  left_fed Opens image left = ⊎_elim
      (λ not. inl (subst (λ (fs : List Frame). LeavesWith Opens image fs) not.0 left.opens))
      (λ one. inr (
        (let alone : Cuts old piece (f ∷ []) left.left = subst (λ (fs : List Frame). Cuts old piece fs left.left) one.0 left.cuts in alone.sequence.0),
        subst (λ (fs : List Frame). LeavesWith Opens image fs) one.0 left.opens,
      ))
      (cut_one left.frames left.left left.cuts)
