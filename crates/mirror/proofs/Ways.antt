-- A stream of frames is followed in one way.
use Rattle.std.proofs.Common.{◌≡◌, ℕ, ◌+◌, ⊎_elim, Bool, List, [], ◌∷◌, ◌++◌, length, refl, sym, ◌∙◌, ap, subst, arith, append_assoc}
use Rattle.std.specs.Prelude.{All, flat_map}
use Rattle.std.proofs.lemmas.List.{append-nil}
use Rattle.std.proofs.lemmas.List.Elements.{All-head, All-tail}
use Rattle.array_shape.specs.declared.shape.Shape.{Shape}
use Rattle.eaw_face.specs.StoreView.{StoreView}
use Rattle.eaw_face.specs.Frame.{Frame, frame_bytes, IsFrameIn}
use Rattle.eaw_face.specs.Mirroring.{AreInSequence, followed}
use Rattle.mirror.specs.Following.{HasNoFrame, Stand, Follows, IsGap, StopsAtGap, StandsAs}
use Rattle.mirror.proofs.Cuts.{frame_cut}
use Rattle.mirror.proofs.Streams.{none_at_first}

module _ (shape : Shape) where
  -- bytes that begin with no frame begin with no frame
  no_front : (f : Frame) (more bytes : List ℕ) → IsFrameIn shape f → HasNoFrame shape bytes → bytes ≡ frame_bytes f ++ more → ⊥
  no_front f more bytes good none same = none (frame_bytes f) more same (record { frame = f; good = good; is = refl })

  -- the bytes behind the first of some frames
  behind : (f : Frame) (fs : List Frame) (left : List ℕ) → flat_map frame_bytes (f ∷ fs) ++ left ≡ frame_bytes f ++ (flat_map frame_bytes fs ++ left)
  behind f fs left = append_assoc (frame_bytes f) (flat_map frame_bytes fs) left

  -- the first frame is told by the bytes
  first_cut : (f g : Frame) (fs gs : List Frame) (x y : List ℕ) → IsFrameIn shape f → IsFrameIn shape g → flat_map frame_bytes (f ∷ fs) ++ x ≡ flat_map frame_bytes (g ∷ gs) ++ y
      → (f ≡ g) × (flat_map frame_bytes fs ++ x ≡ flat_map frame_bytes gs ++ y)
  first_cut f g fs gs x y is also same = frame_cut f g (flat_map frame_bytes fs ++ x) (flat_map frame_bytes gs ++ y) is.is also.is (sym (behind f fs x) ∙ same ∙ behind g gs y)

  pub one_way : (fs gs : List Frame) (x y : List ℕ) → All (IsFrameIn shape) fs → All (IsFrameIn shape) gs → HasNoFrame shape x → HasNoFrame shape y
      → flat_map frame_bytes fs ++ x ≡ flat_map frame_bytes gs ++ y → (fs ≡ gs) × (x ≡ y)
  one_way [] [] x y is also none nor same = (refl, same)
  one_way [] (g ∷ gs) x y is also none nor same = absurd (no_front g (flat_map frame_bytes gs ++ y) x (All-head (IsFrameIn shape) g gs also) none (same ∙ behind g gs y))
  one_way (f ∷ fs) [] x y is also none nor same = absurd (no_front f (flat_map frame_bytes fs ++ x) y (All-head (IsFrameIn shape) f fs is) nor (sym same ∙ behind f fs x))
  one_way (f ∷ fs) (g ∷ gs) x y is also none nor same =
      let first = first_cut f g fs gs x y (All-head (IsFrameIn shape) f fs is) (All-head (IsFrameIn shape) g gs also) same in
      let rest = one_way fs gs x y (All-tail (IsFrameIn shape) f fs is) (All-tail (IsFrameIn shape) g gs also) none nor first.1 in
      ((λ i. first.0 i ∷ rest.0 i), rest.1)

  -- frames whose bytes begin the bytes of others are the first of them
  pub first_frames : (fs gs : List Frame) (x : List ℕ) → All (IsFrameIn shape) fs → All (IsFrameIn shape) gs → flat_map frame_bytes fs ++ x ≡ flat_map frame_bytes gs
      → (later : List Frame) × (gs ≡ fs ++ later) × (x ≡ flat_map frame_bytes later) × All (IsFrameIn shape) later
  first_frames [] gs x is also same = (gs, refl, same, also)
  first_frames (f ∷ fs) [] x is also same = absurd (no_front f (flat_map frame_bytes fs ++ x) [] (All-head (IsFrameIn shape) f fs is) (none_at_first shape) (sym same ∙ behind f fs x))
  first_frames (f ∷ fs) (g ∷ gs) x is also same =
      let first = first_cut f g fs gs x [] (All-head (IsFrameIn shape) f fs is) (All-head (IsFrameIn shape) g gs also) (same ∙ sym (append-nil (flat_map frame_bytes (g ∷ gs)))) in
      let rest = first_frames fs gs x (All-tail (IsFrameIn shape) f fs is) (All-tail (IsFrameIn shape) g gs also) (first.1 ∙ append-nil (flat_map frame_bytes gs)) in
      (rest.0, (λ i. sym first.0 i ∷ rest.1 i), rest.2, rest.3)

  -- bytes that begin with no frame are those of no frames
  pub no_frames : (fs : List Frame) (x : List ℕ) → All (IsFrameIn shape) fs → HasNoFrame shape x → x ≡ flat_map frame_bytes fs → fs ≡ []
  no_frames [] x is none same = refl
  no_frames (f ∷ fs) x is none same = absurd (no_front f (flat_map frame_bytes fs) x (All-head (IsFrameIn shape) f fs is) none same)

  -- a frame that is the next one is no gap
  not_next : (next : Frame) (applied expected got : ℕ) → IsFrameIn shape next → got ≡ next.sequence → next.sequence ≡ applied + 1 → IsGap applied expected got → ⊥
  not_next next applied expected got good is in_sequence gap = ⊎_elim
      (λ within. within.2 (is ∙ in_sequence ∙ sym within.0))
      (λ past. omega (arith, past.0, good.is.0, in_sequence))
      gap.other

  -- frames in sequence do not pass over a gap
  pub no_gap : (fs gs : List Frame) (next : Frame) (later x : List ℕ) (applied expected got : ℕ) → All (IsFrameIn shape) fs → All (IsFrameIn shape) gs → IsFrameIn shape next → got ≡ next.sequence
      → IsGap (applied + length gs) expected got → AreInSequence (applied + 1) fs → HasNoFrame shape x → flat_map frame_bytes fs ++ x ≡ flat_map frame_bytes gs ++ (frame_bytes next ++ later) → ⊥
  no_gap [] [] next later x applied expected got is also good got_is gap in_sequence none same = no_front next later x good none same
  no_gap [] (g ∷ gs) next later x applied expected got is also good got_is gap in_sequence none same =
      no_front g (flat_map frame_bytes gs ++ (frame_bytes next ++ later)) x (All-head (IsFrameIn shape) g gs also) none (same ∙ behind g gs (frame_bytes next ++ later))
  no_gap (f ∷ fs) [] next later x applied expected got is also good got_is gap in_sequence none same =
      let first = frame_cut f next (flat_map frame_bytes fs ++ x) later (All-head (IsFrameIn shape) f fs is).is good.is (sym (behind f fs x) ∙ same) in
      not_next next applied expected got good got_is (ap (λ (h : Frame). h.sequence) (sym first.0) ∙ in_sequence.0)
      (subst (λ (n : ℕ). IsGap n expected got) (let none : applied + 0 ≡ applied = omega arith in none) gap)
  no_gap (f ∷ fs) (g ∷ gs) next later x applied expected got is also good got_is gap in_sequence none same =
      let first = first_cut f g fs gs x (frame_bytes next ++ later) (All-head (IsFrameIn shape) f fs is) (All-head (IsFrameIn shape) g gs also) same in
      let one : applied + length (g ∷ gs) ≡ applied + 1 + length gs = omega arith in
      no_gap fs gs next later x (applied + 1) expected got (All-tail (IsFrameIn shape) f fs is) (All-tail (IsFrameIn shape) g gs also) good got_is
      (subst (λ (n : ℕ). IsGap n expected got) one gap) in_sequence.1 none first.1

pub stands_alone : (tells : Bool) (old one other : Stand) (piece : List ℕ) → Follows tells old one piece → Follows tells old other piece → StandsAs tells one other
stands_alone tells old one other piece a b =
    let shape = old.store.shape in
    let same = one_way shape a.frames b.frames one.rest other.rest a.cuts.good b.cuts.good
    (subst (λ (s : Shape). HasNoFrame s one.rest) a.data_is.shape a.ready.none) (subst (λ (s : Shape). HasNoFrame s other.rest) b.data_is.shape b.ready.none)
    (sym a.cuts.joined ∙ b.cuts.joined) in
    record {
      applied = a.count ∙ ap (λ (fs : List Frame). old.applied + length fs) same.0 ∙ sym b.count;
      rest = same.1;
      data_is = λ told. a.data_is.data_is told ∙ ap (λ (fs : List Frame). followed fs old.store.state.bytes) same.0 ∙ sym (b.data_is.data_is told);
    }

pub gap_stops : (tells : Bool) (old new : Stand) (store : StoreView) (piece : List ℕ) (expected got : ℕ) → Follows tells old new piece → StopsAtGap tells old store piece expected got → ⊥
gap_stops tells old new store piece expected got a s =
    no_gap old.store.shape a.frames s.frames s.next s.later new.rest old.applied expected got a.cuts.good s.stops.cuts.good s.good s.got_is s.gap a.cuts.sequence
    (subst (λ (shape : Shape). HasNoFrame shape new.rest) a.data_is.shape a.ready.none)
    (sym a.cuts.joined ∙ s.stops.cuts.joined)
