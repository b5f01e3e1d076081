-- A stream of frames that is followed, byte by byte.
use Rattle.std.proofs.Common.{◌≡◌, ℕ, ◌+◌, ◌≤◌, ◌⊎◌, inl, inr, ⊎_elim, List, [], ◌∷◌, ◌++◌, length, take, drop, refl, sym, ◌∙◌, ap, subst, arith, append_assoc}
use Rattle.std.specs.Prelude.{flat_map, Bool}
use Rattle.std.proofs.lemmas.List.{append-nil, length-append, take_at, take-append-le, take-append-drop}
use Rattle.std.proofs.lemmas.List.Elements.{All-nil, All-cons}
use Rattle.mars_base.proofs.Going.{weaker}
use Rattle.byteorder.specs.Endian.{little_number, little_bytes}
use Rattle.byteorder.specs.Numbers.{little_number-reads_back}
use Rattle.array_shape.specs.declared.shape.Shape.{Shape}
use Rattle.eaw_face.specs.StoreView.{StoreView, LeavesOnly}
use Rattle.mirror.specs.declared.follow_fault.FollowFault.{FollowFault}
use Rattle.mirror.specs.declared.follow_fault.FollowFault.TheVariants.{BadFrame, Gap, Media, Dead, NoMemory}
use Rattle.eaw_face.specs.Frame.{mark, frame_bytes, group_bytes, IsFrameIn, AreFrame}
use Rattle.mirror.specs.Applying.{Applied, OpensEither}
use Rattle.mirror.specs.Following.{HasNoFrame, IsBroken, CanGoOn, Stand, IsReady, Cuts, HasFollowed, Follows, LeavesFirst, IsGap, StopCause, AppliesNext, NotApplied, OpensNext}
use Rattle.mirror.proofs.Grouping.{head_long}

-- the sequence that a frame's bytes say
pub sequence_said : (shape : Shape) (bytes : List ℕ) (f : AreFrame shape bytes) → little_number 8 (drop 4 bytes) ≡ f.frame.sequence
sequence_said shape bytes f =
    let s = little_bytes 8 f.frame.sequence in
    let n = little_bytes 2 (length f.frame.groups) in
    let gs = flat_map group_bytes f.frame.groups in
    ap (λ (l : List ℕ). little_number 8 (drop 4 l)) (sym f.is ∙ append_assoc (mark ++ s) n gs ∙ append_assoc mark s (n ++ gs))
    ∙ little_number-reads_back 8 f.frame.sequence (n ++ gs) f.good.is.0

-- a frame was applied whose sequence was read
pub applied_next : (tells : Bool) (count : ℕ) (read bytes : List ℕ) (old new : StoreView) → read ≡ bytes → little_number 8 (drop 4 bytes) ≡ count + 1 → Applied tells read old new → AppliesNext tells count bytes old new
applied_next tells count read bytes old new same next a = record {
  applied = record { frame = record { frame = a.frame.frame; good = a.frame.good; is = a.frame.is ∙ same }; shape = a.shape; depth = a.depth; alive = a.alive; faults = a.faults; free = a.free; data_is = a.data_is };
  next = sym (sequence_said old.shape read a.frame) ∙ ap (λ (l : List ℕ). little_number 8 (drop 4 l)) same ∙ next;
}

pub next_moments : (Opens : Shape → List ℕ → List ℕ → Type 0) (count : ℕ) (read bytes : List ℕ) (old new : StoreView) → read ≡ bytes → little_number 8 (drop 4 bytes) ≡ count + 1
    → LeavesOnly (OpensEither Opens read old) old new → LeavesOnly (OpensNext Opens count bytes old) old new
next_moments Opens count read bytes old new same next e = weaker (λ image either. ⊎_elim
    (λ opens. inl opens)
    (λ f. inr (record { frame = f.0.frame; good = f.0.good; is = f.0.is ∙ same }, sym (sequence_said old.shape read f.0) ∙ ap (λ (l : List ℕ). little_number 8 (drop 4 l)) same ∙ next, f.1))
    either) e

-- one byte more
no_frame_more : (shape : Shape) (bytes : List ℕ) (byte : ℕ) → HasNoFrame shape bytes → (AreFrame shape (bytes ++ byte ∷ []) → ⊥) → HasNoFrame shape (bytes ++ byte ∷ [])
no_frame_more shape bytes byte none not front [] same f = not (subst (AreFrame shape) (sym (same ∙ append-nil front)) f)
no_frame_more shape bytes byte none not front (r ∷ rest) same f =
    let long = ap (λ (l : List ℕ). length l) same in
    let one = length-append bytes (byte ∷ []) in
    let two = length-append front (r ∷ rest) in
    let less : length front ≤ length bytes = omega (arith, long, one, two) in
    let is : take (length front) bytes ≡ front =
    sym (take-append-le (length front) bytes (byte ∷ []) less) ∙ ap (λ (l : List ℕ). take (length front) l) same ∙ take_at front (r ∷ rest) (length front) refl in
    none front (drop (length front) bytes) (sym (take-append-drop (length front) bytes) ∙ ap (λ (l : List ℕ). l ++ drop (length front) bytes) is) f

-- no bytes are no frame
pub none_at_first : (shape : Shape) → HasNoFrame shape []
none_at_first shape front rest same f =
    let long = ap (λ (l : List ℕ). length l) same in
    let all = length-append front rest in
    omega (arith, long, all, head_long shape front f)

module _ (tells : Bool) (Opens : Shape → List ℕ → List ℕ → Type 0) (old : Stand) (byte : ℕ) (ready : IsReady old) where
  abbrev rest : List ℕ
  rest = old.rest ++ byte ∷ []

  no_cut : Cuts old (byte ∷ []) [] rest
  no_cut = record { good = All-nil (IsFrameIn old.store.shape); sequence = tt; joined = refl }

  one_cut : (f : AreFrame old.store.shape rest) → f.frame.sequence ≡ old.applied + 1 → Cuts old (byte ∷ []) (f.frame ∷ []) []
  one_cut f next = record {
    good = All-cons (IsFrameIn old.store.shape) f.frame [] f.good (All-nil (IsFrameIn old.store.shape));
    sequence = (next, tt);
    joined = sym f.is ∙ sym (append-nil (frame_bytes f.frame)) ∙ sym (append-nil (frame_bytes f.frame ++ []));
  }

  same_data : HasFollowed tells [] old.store old.store
  same_data = record { shape = refl; depth = refl; data_is = λ told. refl }

  -- the frame is not whole
  pub byte_kept : (new : List ℕ) → new ≡ rest → (AreFrame old.store.shape rest → ⊥) → CanGoOn old.store.shape new → Follows tells old (record { store = old.store; applied = old.applied; rest = new }) (byte ∷ [])
  byte_kept new is not goes_on = record {
    frames = [];
    cuts = record { good = All-nil (IsFrameIn old.store.shape); sequence = tt; joined = sym is };
    count = omega arith;
    faults = refl;
    data_is = same_data;
    ready = record { alive = ready.alive; free = ready.free; none = subst (HasNoFrame old.store.shape) (sym is) (no_frame_more old.store.shape old.rest byte ready.none not); goes_on = goes_on };
  }

  -- it cannot become one, or memory ran out
  pub byte_refused : (fault : FollowFault) → ((fault ≡ NoMemory) ⊎ ((fault ≡ BadFrame) × IsBroken old.store.shape rest)) → StopCause tells old old.store (byte ∷ []) fault
  byte_refused fault is = ⊎_elim
      (λ no. subst (λ (f : FollowFault). StopCause tells old old.store (byte ∷ []) f) (sym no) (record { frames = []; left = rest; stops = record { cuts = no_cut; data_is = same_data; faults = refl; alive = ready.alive } }))
      (λ bad. subst (λ (f : FollowFault). StopCause tells old old.store (byte ∷ []) f) (sym bad.0) (record {
        frames = [];
        broken = rest;
        later = [];
        stops = record { cuts = record { good = All-nil (IsFrameIn old.store.shape); sequence = tt; joined = sym (append-nil rest) }; data_is = same_data; faults = refl; alive = ready.alive };
        none = no_frame_more old.store.shape old.rest byte ready.none (λ f. bad.1 [] (subst (AreFrame old.store.shape) (sym (append-nil rest)) f));
        is_broken = bad.1;
      }))
      is

  -- the frame is whole, and not applied
  pub frame_refused : (bytes : List ℕ) → bytes ≡ rest → AreFrame old.store.shape rest → (new : StoreView) (fault : FollowFault) → NotApplied old.applied bytes old.store new fault → StopCause tells old new (byte ∷ []) fault
  frame_refused bytes is f new (Gap expected got) cause = record {
    frames = [];
    next = f.frame;
    later = [];
    stops = record {
      cuts = record { good = All-nil (IsFrameIn old.store.shape); sequence = tt; joined = sym f.is ∙ sym (append-nil (frame_bytes f.frame)) };
      data_is = record { shape = cause.0; depth = cause.1; data_is = λ told. cause.2 };
      faults = cause.3;
      alive = cause.4 ∙ ready.alive;
    };
    good = f.good;
    got_is = sym (cause.5 (subst (AreFrame old.store.shape) (sym is) f));
    gap = subst (λ (n : ℕ). IsGap n expected got) (let same : old.applied ≡ old.applied + 0 = omega arith in same) cause.6;
  }
  frame_refused bytes is f new Media cause = cause
  frame_refused bytes is f new BadFrame cause = absurd cause
  frame_refused bytes is f new Dead cause = absurd cause
  frame_refused bytes is f new NoMemory cause = absurd cause

  -- what might have been left meanwhile
  pub byte_moments : (bytes : List ℕ) → bytes ≡ rest → (new : StoreView) → LeavesOnly (OpensNext Opens old.applied bytes old.store) old.store new → LeavesOnly (LeavesFirst Opens old (byte ∷ [])) old.store new
  byte_moments bytes is new e = weaker (λ image either. ⊎_elim
      (λ opens. record { frames = []; left = rest; cuts = no_cut; opens = opens })
      (λ next. record {
        frames = next.0.frame ∷ [];
        left = [];
        cuts = one_cut (record { frame = next.0.frame; good = next.0.good; is = next.0.is ∙ is }) next.1;
        opens = next.2;
      })
      either) e

  -- the frame is whole, and applied
  pub frame_applied : (bytes : List ℕ) → bytes ≡ rest → (new : StoreView) (count : ℕ) → count ≡ old.applied + 1 → (left : List ℕ) → left ≡ [] → CanGoOn old.store.shape left → AppliesNext tells old.applied bytes old.store new
      → Follows tells old (record { store = new; applied = count; rest = left }) (byte ∷ [])
  frame_applied bytes is new count count_is left none goes_on next =
      let a = next.applied in
      record {
        frames = a.frame.frame ∷ [];
        cuts = subst (λ (l : List ℕ). Cuts old (byte ∷ []) (a.frame.frame ∷ []) l) (sym none) (one_cut (record { frame = a.frame.frame; good = a.frame.good; is = a.frame.is ∙ is }) next.next);
        count = omega (arith, count_is);
        faults = a.faults;
        data_is = record { shape = a.shape; depth = a.depth; data_is = a.data_is };
        ready = record { alive = a.alive; free = a.free; none = subst (HasNoFrame new.shape) (sym none) (none_at_first new.shape); goes_on = subst (λ (s : Shape). CanGoOn s left) (sym a.shape) goes_on };
      }
