-- Lines that are followed one after another.
use Rattle.std.proofs.Common.{◌≡◌, ℕ, suc, ◌+◌, ◌≤◌, ◌⊎◌, inl, inr, ⊎_elim, Bool, true, false, List, [], ◌∷◌, ◌++◌, length, Result, Err, refl, sym, ◌∙◌, ap, subst, arith, append_assoc}
use Rattle.std.specs.Prelude.{IsTrue, take, drop, flat_map}
use Rattle.std.specs.List.{range_with_len}
use Rattle.std.proofs.lemmas.List.{append-nil, length-append, take_at, drop_at}
use Rattle.array_shape.specs.declared.shape.Shape.{Shape}
use Rattle.array_shape.specs.Logged.{applied}
use Rattle.eaw_face.specs.StoreView.{StoreView, LeavesOnly}
use Rattle.eaw_face.specs.Frame.{Frame, written_by}
use Rattle.eaw_face.specs.Mirroring.{AreInSequence, followed}
use Rattle.eaw_face.proofs.Mirroring.{sequence_append, followed_append}
use Rattle.mirror.specs.Following.{HasFollowed, IsGap}
use Rattle.mirror.specs.FollowerView.{FollowerView}
use Rattle.texts.specs.Written.{IsWritten}
use Rattle.frame_lines.specs.Lines.{IsMeant, Says, AllSay, applied_line}
use Rattle.frame_lines.specs.Taken.{IsBetween, GoesOn, Applied, OpensTaken, FollowedLine}
use Rattle.frame_lines.specs.Followed.{StopsAt, LeavesNear, LeavesJust, LeavesStore, TellsApplied, FollowedLines, OpensFirst}
use Rattle.frame_lines.specs.declared.ended.FollowEnd.{FollowEnd}
use Rattle.frame_lines.specs.declared.ended.FollowEnd.TheVariants.{All as AllFollowed, BadFrame, Gap, WriteFault, MediaFault, NoMemory}

front_of : (lines front rest : List (List ℕ)) → lines ≡ front ++ rest → take (length front) lines ≡ front
front_of lines front rest are = ap (λ (l : List (List ℕ)). take (length front) l) are ∙ take_at front rest (length front) refl

passed_over : (shape : Shape) (line : List ℕ) (front : List (List ℕ)) (frames : List Frame) → (IsMeant line → ⊥) → AllSay shape front frames → AllSay shape (front ++ line ∷ []) frames
passed_over shape line [] frames not said = subst (λ (fs : List Frame). AllSay shape (line ∷ []) fs) (sym said) (not, refl)
passed_over shape line (l ∷ ls) [] not said = (said.0, passed_over shape line ls [] not said.1)
passed_over shape line (l ∷ ls) (f ∷ fs) not (inl said) = inl (said.0, passed_over shape line ls (f ∷ fs) not said.1)
passed_over shape line (l ∷ ls) (f ∷ fs) not (inr said) = inr (said.0, passed_over shape line ls fs not said.1)

said_too : (shape : Shape) (line : List ℕ) (f : Frame) (front : List (List ℕ)) (frames : List Frame) → Says shape f line → AllSay shape front frames → AllSay shape (front ++ line ∷ []) (frames ++ f ∷ [])
said_too shape line f [] frames says said = subst (λ (fs : List Frame). AllSay shape (line ∷ []) (fs ++ f ∷ [])) (sym said) (inr (says, refl))
said_too shape line f (l ∷ ls) [] says said = inl (said.0, said_too shape line f ls [] says said.1)
said_too shape line f (l ∷ ls) (g ∷ gs) says (inl said) = inl (said.0, said_too shape line f ls (g ∷ gs) says said.1)
said_too shape line f (l ∷ ls) (g ∷ gs) says (inr said) = inr (said.0, said_too shape line f ls gs says said.1)

-- what is written of several, of which the first is the next after so many
abbrev applied_lines : ℕ → List Frame → List ℕ
applied_lines count frames = flat_map applied_line (range_with_len (count + 1) (length frames))

told_too : (count : ℕ) (frames : List Frame) (f : Frame) → applied_lines count (frames ++ f ∷ []) ≡ applied_lines count frames ++ applied_line (count + length frames + 1)
told_too count [] f = append-nil (applied_line (count + 1)) ∙ ap applied_line (let same : count + 1 ≡ count + 0 + 1 = omega arith in same)
told_too count (g ∷ gs) f =
    ap (λ (t : List ℕ). applied_line (count + 1) ++ t) (told_too (count + 1) gs f ∙ ap (λ (n : ℕ). applied_lines (count + 1) gs ++ applied_line n) (let same : count + 1 + length gs + 1 ≡ count + suc (length gs) + 1 = omega arith in same))
    ∙ sym (append_assoc (applied_line (count + 1)) (applied_lines (count + 1) gs) (applied_line (count + suc (length gs) + 1)))

-- lines were followed as far as the front
followed_to : (shape : Shape) (Leaves : List Frame → List (List ℕ) → Type 0) (lines front rest : List (List ℕ)) (ended : FollowEnd) (cut : Bool) (text : List ℕ) (frames : List Frame)
    → lines ≡ front ++ rest → AllSay shape front frames → AreInSequence 1 frames → TellsApplied ended cut text frames → Leaves frames rest
    → StopsAt shape (length front) (length frames) rest ended → FollowedLines shape Leaves lines ended cut text
followed_to shape Leaves lines front rest ended cut text frames are said sequence told leaves stops =
    let behind : drop (length front) lines ≡ rest = ap (λ (l : List (List ℕ)). drop (length front) l) are ∙ drop_at front rest (length front) refl in
    record {
      frames = frames;
      count = length front;
      said = subst (λ (l : List (List ℕ)). AllSay shape l frames) (sym (front_of lines front rest are)) said;
      sequence = sequence;
      told = told;
      leaves = subst (λ (l : List (List ℕ)). Leaves frames l) (sym behind) leaves;
      stops = subst (λ (l : List (List ℕ)). StopsAt shape (length front) (length frames) l ended) (sym behind) stops;
    }

-- the first lines were followed, so many less one, and these are left
pub record SoFar {S : Type 0} (tells : Bool) (view : S → StoreView) (first now : FollowerView S) (lines rest : List (List ℕ)) (n : ℕ) (text : List ℕ) : Type 0 where
  pub frames : List Frame
  pub front : List (List ℕ)
  pub lines_are : lines ≡ front ++ rest
  pub number : n ≡ length front + 1
  pub said : AllSay (view first.store).shape front frames
  pub sequence : AreInSequence 1 frames
  pub told : text ≡ applied_lines 0 frames
  pub count : now.applied ≡ length frames
  pub goes_on : GoesOn tells frames (view first.store) (view now.store)
  pub between : IsBetween now

module _ {S : Type 0} (tells : Bool) (view : S → StoreView) (first : FollowerView S) (lines : List (List ℕ)) where
  pub begins : IsBetween first → first.applied ≡ 0 → (view first.store).is_dead ≡ false → SoFar tells view first first lines lines 1 []
  begins between none alive = record {
    frames = [];
    front = [];
    lines_are = refl;
    number = refl;
    said = refl;
    sequence = tt;
    told = refl;
    count = none;
    goes_on = record { data_is = record { shape = refl; depth = refl; data_is = λ told. refl }; faults = refl; alive = alive };
    between = between;
  }

  data_more : (frames more : List Frame) (mid new : StoreView) → HasFollowed tells frames (view first.store) mid → HasFollowed tells more mid new → HasFollowed tells (frames ++ more) (view first.store) new
  data_more frames more mid new one two = record {
    shape = two.shape ∙ one.shape;
    depth = two.depth ∙ one.depth;
    data_is = λ told. two.data_is told ∙ ap (followed more) (one.data_is told) ∙ sym (followed_append frames more (view first.store).state.bytes);
  }

  -- what a store leaves that goes on, of which whatever may be left opens with its data
  just : (Opens : Shape → List ℕ → List ℕ → Type 0) (frames : List Frame) (new : StoreView)
      → ((image : List ℕ) → IsTrue tells → new.is_dead ≡ false → new.left_since new.moment image → Opens new.shape image new.state.bytes)
      → GoesOn tells frames (view first.store) new → GoesOn tells frames (view first.store) new × LeavesJust tells Opens (view first.store) new frames
  just Opens frames new only on = (
    on,
    λ told image left. subst (λ (p : Shape × List ℕ). Opens p.0 image p.1) (λ i. (on.data_is.shape i, on.data_is.data_is told i)) (only image told on.alive left),
  )

  -- all lines were followed
  pub ended_all : (Opens : Shape → List ℕ → List ℕ → Type 0) (now : FollowerView S) (rest : List (List ℕ)) (n : ℕ) (text : List ℕ)
      → ((image : List ℕ) → IsTrue tells → (view now.store).is_dead ≡ false → (view now.store).left_since (view now.store).moment image → Opens (view now.store).shape image (view now.store).state.bytes)
      → rest ≡ [] → SoFar tells view first now lines rest n text
      → FollowedLines (view first.store).shape (LeavesStore tells Opens (view first.store) (view now.store) AllFollowed) lines AllFollowed false text
  ended_all Opens now rest n text only none far = followed_to (view first.store).shape (LeavesStore tells Opens (view first.store) (view now.store) AllFollowed) lines far.front rest AllFollowed false text far.frames
      far.lines_are far.said far.sequence (refl, far.told) (just Opens far.frames (view now.store) only far.goes_on) none

  module _ (shape : Shape) (shape_is : (view first.store).shape ≡ shape) (now new : FollowerView S) (line : List ℕ) (rest : List (List ℕ)) (n : ℕ) (text : List ℕ) (far : SoFar tells view first now lines (line ∷ rest) n text) where
    here : (f : Frame) → Says shape f line → Says (view first.store).shape f line
    here f says = subst (λ (s : Shape). Says s f line) (sym shape_is) says

    in_sequence : (f : Frame) → f.sequence ≡ now.applied + 1 → AreInSequence 1 (far.frames ++ f ∷ [])
    in_sequence f next = sequence_append 1 far.frames (f ∷ []) far.sequence (let same : f.sequence ≡ 1 + length far.frames = omega (arith, next, far.count) in same, tt)

    one_more : lines ≡ (far.front ++ line ∷ []) ++ rest
    one_more = far.lines_are ∙ sym (append_assoc far.front (line ∷ []) rest)

    pub passes : (IsMeant line → ⊥) → new ≡ now → SoFar tells view first new lines rest (n + 1) text
    passes not same = subst (λ (f : FollowerView S). SoFar tells view first f lines rest (n + 1) text) (sym same) (record {
      frames = far.frames;
      front = far.front ++ line ∷ [];
      lines_are = one_more;
      number = let long = length-append far.front (line ∷ []) in omega (arith, far.number, long);
      said = passed_over (view first.store).shape line far.front far.frames not far.said;
      sequence = far.sequence;
      told = far.told;
      count = far.count;
      goes_on = far.goes_on;
      between = far.between;
    })

    more_applied : (more : List Frame) → GoesOn tells more (view now.store) (view new.store) → GoesOn tells (far.frames ++ more) (view first.store) (view new.store)
    more_applied more on = record {
      data_is = data_more far.frames more (view now.store) (view new.store) far.goes_on.data_is on.data_is;
      faults = on.faults ∙ far.goes_on.faults;
      alive = on.alive;
    }

    -- what is told once one more is applied
    told_more : (f : Frame) → applied_lines 0 (far.frames ++ f ∷ []) ≡ text ++ applied_line (now.applied + 1)
    told_more f = told_too 0 far.frames f ∙ (λ i. sym far.told i ++ applied_line (let same : 0 + length far.frames + 1 ≡ now.applied + 1 = omega (arith, far.count) in same i))

    pub applies : (f : Frame) → Says shape f line → Applied tells view f (now.applied + 1) now new → SoFar tells view first new lines rest (n + 1) (text ++ applied_line (now.applied + 1))
    applies f says applied = record {
      frames = far.frames ++ f ∷ [];
      front = far.front ++ line ∷ [];
      lines_are = one_more;
      number = let long = length-append far.front (line ∷ []) in omega (arith, far.number, long);
      said = said_too (view first.store).shape line f far.front far.frames (here f says) far.said;
      sequence = in_sequence f applied.next;
      told = sym (told_more f);
      count = let long = length-append far.frames (f ∷ []) in omega (arith, applied.applied, far.count, long);
      goes_on = more_applied (f ∷ []) applied.goes_on;
      between = applied.between;
    }

    pub goes_on : (more : List ℕ) → (((IsMeant line → ⊥) × (new ≡ now) × (more ≡ [])) ⊎ ((f : Frame) × Says shape f line × Applied tells view f (now.applied + 1) now new × (more ≡ applied_line (now.applied + 1))))
        → SoFar tells view first new lines rest (n + 1) (text ++ more)
    goes_on more (inl passed) = subst (λ (t : List ℕ). SoFar tells view first new lines rest (n + 1) t) (sym (append-nil text) ∙ ap (λ (t : List ℕ). text ++ t) (sym passed.2)) (passes passed.0 passed.1)
    goes_on more (inr took) = subst (λ (t : List ℕ). SoFar tells view first new lines rest (n + 1) (text ++ t)) (sym took.3) (applies took.0 took.1 took.2)

    -- nothing more was written
    no_more : (more : List ℕ) → more ≡ [] → text ++ more ≡ applied_lines 0 far.frames
    no_more more none = ap (λ (m : List ℕ). text ++ m) none ∙ append-nil text ∙ far.told

    -- the run ends at this line
    stopped : (Opens : Shape → List ℕ → List ℕ → Type 0) (ended : FollowEnd) (cut : Bool) (more : List ℕ) → TellsApplied ended cut (text ++ more) far.frames → LeavesStore tells Opens (view first.store) (view new.store) ended far.frames (line ∷ rest) → StopsAt (view first.store).shape (length far.front) (length far.frames) (line ∷ rest) ended
        → FollowedLines (view first.store).shape (LeavesStore tells Opens (view first.store) (view new.store) ended) lines ended cut (text ++ more)
    stopped Opens ended cut more told leaves stops = followed_to (view first.store).shape (LeavesStore tells Opens (view first.store) (view new.store) ended) lines far.front (line ∷ rest) ended cut (text ++ more) far.frames
        far.lines_are far.said far.sequence told leaves stops

    still : GoesOn tells [] (view now.store) (view new.store) → GoesOn tells far.frames (view first.store) (view new.store)
    still same = subst (λ (fs : List Frame). GoesOn tells fs (view first.store) (view new.store)) (append-nil far.frames) (more_applied [] same)

    pub ended_at : (Opens : Shape → List ℕ → List ℕ → Type 0)
        → ((image : List ℕ) → IsTrue tells → (view new.store).is_dead ≡ false → (view new.store).left_since (view new.store).moment image → Opens (view new.store).shape image (view new.store).state.bytes)
        → LeavesNear tells Opens (view first.store) (view new.store) far.frames (line ∷ rest) → (T : Type 0) (ended : FollowEnd) (cut : Bool) (more : List ℕ) → (let r : Result T FollowEnd = Err ended in FollowedLine tells view shape n line now new r cut more)
        → FollowedLines (view first.store).shape (LeavesStore tells Opens (view first.store) (view new.store) ended) lines ended cut (text ++ more)
    unfolding applies
    ended_at Opens only near T AllFollowed cut more ended = absurd ended.2.2
    ended_at Opens only near T (BadFrame m) cut more ended = stopped Opens (BadFrame m) cut more (ended.0, no_more more ended.1)
        (just Opens far.frames (view new.store) only (subst (λ (f : FollowerView S). GoesOn tells far.frames (view first.store) (view f.store)) (sym ended.2.3) far.goes_on))
        (omega (arith, ended.2.0, far.number), line, rest, refl, ended.2.1, λ f says. ended.2.2 f (subst (λ (s : Shape). Says s f line) shape_is says))
    ended_at Opens only near T (Gap expected got) cut more ended = stopped Opens (Gap expected got) cut more (ended.0, no_more more ended.1) (just Opens far.frames (view new.store) only (still ended.2.2.2))
        (line, rest, refl, ended.2.0, here ended.2.0 ended.2.1, ended.2.2.0, subst (λ (k : ℕ). IsGap k expected got) far.count ended.2.2.1)
    ended_at Opens only near T WriteFault cut more ended =
        let f = ended.1 in
        let next = applies f ended.2 ended.3 in
        let long = length-append far.frames (f ∷ []) in
        let applied_more : length (far.frames ++ f ∷ []) ≡ now.applied + 1 = omega (arith, far.count, long) in
        followed_to (view first.store).shape (LeavesStore tells Opens (view first.store) (view new.store) WriteFault) lines next.front rest WriteFault cut (text ++ more) next.frames
        next.lines_are next.said next.sequence
        (ended.0, far.frames, f, more, refl, subst (λ (n : ℕ). IsWritten true more (applied_line n)) (sym applied_more) ended.4, ap (λ (t : List ℕ). t ++ more) far.told)
        (just Opens next.frames (view new.store) only next.goes_on) tt
    ended_at Opens only near T MediaFault cut more ended = stopped Opens MediaFault cut more (ended.0, no_more more ended.1) near tt
    ended_at Opens only near T NoMemory cut more ended = stopped Opens NoMemory cut more (ended.0, no_more more ended.1) near tt

    -- what a loss of power leaves behind this line
    pub near : (Opens : Shape → List ℕ → List ℕ → Type 0) → ((t : ℕ) (image : List ℕ) → IsTrue tells → t ≤ (view new.store).moment → (view new.store).left_since (view new.store).moment image → (view new.store).left_since t image)
        → ((image : List ℕ) → IsTrue tells → (view now.store).left_since (view now.store).moment image → Opens (view now.store).shape image (view now.store).state.bytes)
        → (IsTrue tells → LeavesOnly (OpensTaken view Opens shape line now) (view now.store) (view new.store)) → LeavesNear tells Opens (view first.store) (view new.store) far.frames (line ∷ rest)
    near Opens counts only time told image left = ⊎_elim
        (λ was. inl (here_before (only image told was)))
        (λ taken. ⊎_elim
        (λ before. inl (here_before before))
        (λ next. inr (
          line,
          rest,
          next.0,
          refl,
          here next.0 next.1,
          subst (λ (p : Shape × List ℕ). Opens p.0 image p.1)
              (λ i. (far.goes_on.data_is.shape i, (ap (λ (b : List ℕ). applied (written_by next.0) b) (far.goes_on.data_is.data_is told) ∙ sym (followed_append far.frames (next.0 ∷ []) (view first.store).state.bytes)) i)) next.3,
        ))
        taken)
        (e.only (view now.store).moment image (omega arith) (counts (view now.store).moment image told e.later left))
      where
        e : LeavesOnly (OpensTaken view Opens shape line now) (view now.store) (view new.store)
        e = time told

        here_before : Opens (view now.store).shape image (view now.store).state.bytes → Opens (view first.store).shape image (followed far.frames (view first.store).state.bytes)
        here_before before = subst (λ (p : Shape × List ℕ). Opens p.0 image p.1) (λ i. (far.goes_on.data_is.shape i, far.goes_on.data_is.data_is told i)) before

    -- what a loss of power leaves of this line
    pub opens_first : (Opens : Shape → List ℕ → List ℕ → Type 0) (image : List ℕ) → IsTrue tells → OpensTaken view Opens shape line now image → OpensFirst Opens (view first.store).shape (view first.store).state.bytes lines image
    opens_first Opens image told (inl before) = (
      length far.front,
      far.frames,
      subst (λ (l : List (List ℕ)). AllSay (view first.store).shape l far.frames) (sym (front_of lines far.front (line ∷ rest) far.lines_are)) far.said,
      far.sequence,
      subst (λ (p : Shape × List ℕ). Opens p.0 image p.1) (λ i. (far.goes_on.data_is.shape i, far.goes_on.data_is.data_is told i)) before,
    )
    opens_first Opens image told (inr next) = (
      length (far.front ++ line ∷ []),
      far.frames ++ next.0 ∷ [],
      subst (λ (l : List (List ℕ)). AllSay (view first.store).shape l (far.frames ++ next.0 ∷ [])) (sym (front_of lines (far.front ++ line ∷ []) rest one_more))
          (said_too (view first.store).shape line next.0 far.front far.frames (here next.0 next.1) far.said),
      in_sequence next.0 next.2,
      subst (λ (p : Shape × List ℕ). Opens p.0 image p.1)
          (λ i. (far.goes_on.data_is.shape i, (ap (λ (b : List ℕ). applied (written_by next.0) b) (far.goes_on.data_is.data_is told) ∙ sym (followed_append far.frames (next.0 ∷ []) (view first.store).state.bytes)) i)) next.3,
    )

-- nothing was followed, since there was no memory for a follower
pub none_followed : (tells : Bool) (Opens : Shape → List ℕ → List ℕ → Type 0) (store : StoreView) (lines : List (List ℕ)) → ((image : List ℕ) → IsTrue tells → store.left_since store.moment image → Opens store.shape image store.state.bytes)
    → FollowedLines store.shape (LeavesStore tells Opens store store NoMemory) lines NoMemory false []
none_followed tells Opens store lines only = record {
  frames = [];
  count = 0;
  said = refl;
  sequence = tt;
  told = (refl, refl);
  leaves = λ told image left. inl (only image told left);
  stops = tt;
}
