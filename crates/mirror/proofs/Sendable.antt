-- What a number has logged makes a frame.
use Rattle.std.proofs.Common.{◌≡◌, ℕ, zero, suc, ◌+◌, ◌*◌, ◌^◌, ◌<◌, ◌≤◌, ◌⊎◌, inl, inr, ⊎_elim, Bool, true, false, List, [], ◌∷◌, ◌++◌, length, take, drop, refl, sym, ◌∙◌, ap, subst, arith}
use Rattle.std.specs.Prelude.{All, IsTrue, None}
use Rattle.std.proofs.Math.Nat.{mul-le-mul_left, mul-le-mul_right}
use Rattle.std.proofs.lemmas.List.{take-append-drop, drop_all}
use Rattle.std.proofs.lemmas.List.Elements.{All-nil, All-cons, All-head, All-tail}
use Rattle.array_shape.specs.declared.shape.Shape.{Shape}
use Rattle.array_shape.specs.Places.{IsShape, data_len}
use Rattle.array_shape.specs.Logged.{Part, ranges_of, AllPlaced}
use Rattle.eaw_face.specs.State.{count_on}
use Rattle.eaw_face.specs.Causes.{fit}
use Rattle.mirror.proofs.Parts.{length-ranges_of, ranges_of-append}
use Rattle.eaw_face.specs.Frame.{Group, Frame, frame_bytes, IsPart, IsGroup, IsInside, IsGroupIn, IsFrameIn}
use Rattle.mars_base.specs.Causes.{Rose}
use Rattle.eaw_face.specs.Sending.{Sending}
use Rattle.mirror.specs.Sending.{IsSendable, HasBytes, AreShort, group_of, SenderView, sending_of, NotSent, Sends}
use Rattle.mirror.proofs.Holding.{fit_most, count_append}

module _ (shape : Shape) where
  placed_drop : (n : ℕ) (ps : List Part) → AllPlaced shape ps → AllPlaced shape (drop n ps)
  placed_drop zero ps all = all
  placed_drop (suc n) [] all = tt
  placed_drop (suc n) (p ∷ ps) all = placed_drop n ps all.1

  room_drop : (n : ℕ) (ps : List Part) → fit shape [] (ranges_of ps) None → fit shape [] (ranges_of (drop n ps)) None
  room_drop n ps fits g lt =
      let whole = fits g lt in
      let split : count_on shape g (ranges_of ps) ≡ count_on shape g (ranges_of (take n ps)) + count_on shape g (ranges_of (drop n ps)) =
      ap (λ (qs : List Part). count_on shape g (ranges_of qs)) (sym (take-append-drop n ps))
      ∙ ap (count_on shape g) (ranges_of-append (take n ps) (drop n ps))
      ∙ count_append shape g (ranges_of (take n ps)) (ranges_of (drop n ps)) in
      omega (arith, whole, split)

  -- what is sendable stays so without its front
  pub sendable_drop : (n : ℕ) (ps : List Part) → IsSendable shape ps → IsSendable shape (drop n ps)
  sendable_drop n ps s = record { placed = placed_drop n ps s.placed; room = room_drop n ps s.room }

  pub short_parts : (ps : List Part) → AllPlaced shape ps → AreShort ps
  short_parts [] all pos lt = absurd (omega (arith, lt))
  short_parts (p ∷ ps) all zero lt = omega (arith, all.0.page)
  short_parts (p ∷ ps) all (suc pos) lt = short_parts ps all.1 pos (omega (arith, lt))

  module _ (in_range : IsShape shape) where
    small_data : data_len shape ≤ 512 * (8 * 4096)
    small_data =
        let one = mul-le-mul_right shape.pages in_range.most_loggers in
        let two = mul-le-mul_left 8 in_range.most_pages in
        omega (arith, one, two)

    few_entries : shape.loggers * shape.entries ≤ 512
    few_entries =
        let one = mul-le-mul_right shape.entries in_range.most_loggers in
        let two = mul-le-mul_left 8 in_range.most_entries in
        omega (arith, one, two)

    pub few_parts : (ps : List Part) → IsSendable shape ps → length ps ≤ shape.loggers * shape.entries
    few_parts ps s = let most = fit_most shape in_range.some_loggers (ranges_of ps) s.room in omega (arith, most, length-ranges_of ps)

    pub parts_fit : (ps : List Part) → IsSendable shape ps → length ps ≤ 512
    parts_fit ps s = omega (arith, few_parts ps s, few_entries)

    are_parts : (ps : List Part) → AllPlaced shape ps → All HasBytes ps → All IsPart ps
    are_parts [] placed bytes = All-nil IsPart
    are_parts (p ∷ ps) placed bytes =
        let here = placed.0 in
        All-cons IsPart p ps
        (omega (arith, here.inside, small_data), here.some, here.page, All-head HasBytes p ps bytes)
        (are_parts ps placed.1 (All-tail HasBytes p ps bytes))

    are_inside : (ps : List Part) → AllPlaced shape ps → All (IsInside shape) ps
    are_inside [] placed = All-nil (IsInside shape)
    are_inside (p ∷ ps) placed = All-cons (IsInside shape) p ps placed.0.inside (are_inside ps placed.1)

    module _ (number : ℕ) (lt : number < shape.numbers) where
      pub good_group : (p : Part) (ps : List Part) → IsSendable shape (p ∷ ps) → All HasBytes (p ∷ ps) → (let g : Group = record { number = number; parts = p ∷ ps } in IsGroup g × IsGroupIn shape g)
      good_group p ps s bytes = (
        (omega (arith, lt, in_range.most_numbers), omega arith, omega (arith, parts_fit (p ∷ ps) s), are_parts (p ∷ ps) s.placed bytes),
        (lt, are_inside (p ∷ ps) s.placed, s.room),
      )

      -- a frame of this one group
      pub good_frame : (sequence : ℕ) (ps : List Part) → 0 < length ps → sequence < 2 ^ 64 → IsSendable shape ps → All HasBytes ps → (let f : Frame = record { sequence = sequence; groups = group_of number ps } in IsFrameIn shape f)
      good_frame sequence [] some small s bytes = absurd (omega (arith, some))
      good_frame sequence (p ∷ ps) some small s bytes =
          let good = good_group p ps s bytes in
          let g : Group = record { number = number; parts = p ∷ ps } in
          record { is = (small, omega arith, omega arith, (omega arith, tt), All-cons IsGroup g [] good.0 (All-nil IsGroup)); groups = All-cons (IsGroupIn shape) g [] good.1 (All-nil (IsGroupIn shape)) }

pub some_group : (number : ℕ) (ps : List Part) → 0 < length ps → 0 < length (group_of number ps)
some_group number [] some = absurd (omega (arith, some))
some_group number (p ∷ ps) some = omega arith

pub none_sent : (tells : Bool) (shape : Shape) (number offset : ℕ) (ps : List Part) → length ps ≡ offset → (old new : Sending) → new ≡ old → Sends tells shape (group_of number (drop offset ps)) old new
none_sent tells shape number offset ps is old new same = subst (λ (qs : List Part). Sends tells shape (group_of number qs) old new) (sym (drop_all offset ps (omega (arith, is)))) same

-- two views of a sender that are the same
module _ {L : Type 0} {a b : SenderView L} (same : a ≡ b) where
  pub shape_same : a.shape ≡ b.shape
  shape_same = ap (λ (s : SenderView L). s.shape) same

  pub sent_same : a.sent ≡ b.sent
  sent_same = ap (λ (s : SenderView L). s.sent) same

  pub down_same : a.is_down ≡ b.is_down
  down_same = ap (λ (s : SenderView L). s.is_down) same

-- What was committed of some groups was due, from one view of a sender to a later one, and the next sequence was taken.
module _ {L : Type 0} (frames : L → List (List ℕ)) (faults : L → ℕ) (tells : Bool) (shape : Shape) (gs : List Group) (some : 0 < length gs) (old mid : SenderView L) where
  not_due : (new : Sending) → NotSent tells (sending_of tells frames faults old) new → Sends tells shape gs (sending_of tells frames faults old) new
  not_due new not = go gs some
    where
      go : (gs : List Group) → 0 < length gs → Sends tells shape gs (sending_of tells frames faults old) new
      go [] some = absurd (omega (arith, some))
      go (g ∷ gs) some = inr not

  -- the sending had ended, or ends behind the last sequence
  pub none_left : mid ≡ record old { is_down = true } → ((old.is_down ≡ true) ⊎ (2 ^ 64 ≤ old.sent + 1)) → Sends tells shape gs (sending_of tells frames faults old) (sending_of tells frames faults mid)
  none_left is cause = not_due (sending_of tells frames faults mid) (record {
    ended = ap (λ (s : SenderView L). s.is_down) is;
    later = let e : faults mid.link ≡ faults old.link = ap (λ (s : SenderView L). faults s.link) is in omega (arith, e);
    frames = λ told. ap (λ (s : SenderView L). frames s.link) is;
    count = ap (λ (s : SenderView L). s.sent) is;
    cause = ⊎_elim (λ down. inl (down, ap (λ (s : SenderView L). faults s.link) is)) (λ last. inr (inl (last, ap (λ (s : SenderView L). faults s.link) is))) cause;
  })

  module _ (same : mid ≡ old) (link : L) where
    -- the frame was sent
    pub frame_sent : mid.is_down ≡ false → (let f : Frame = record { sequence = mid.sent + 1; groups = gs } in IsFrameIn shape f) → (bytes : List ℕ)
        → (let f : Frame = record { sequence = mid.sent + 1; groups = gs } in bytes ≡ frame_bytes f) → (IsTrue tells → frames link ≡ frames mid.link ++ bytes ∷ []) → faults link ≡ faults mid.link
        → Sends tells shape gs (sending_of tells frames faults old) (record { mirrors = true; told = tells; frames = frames link; faults = faults link; sent = mid.sent + 1; is_down = mid.is_down })
    frame_sent up good bytes is sent fault =
        subst (λ (o : SenderView L). Sends tells shape gs (sending_of tells frames faults o) (record { mirrors = true; told = tells; frames = frames link; faults = faults link; sent = mid.sent + 1; is_down = mid.is_down })) same (go gs some good is)
      where
        go : (gs : List Group) → 0 < length gs → (let f : Frame = record { sequence = mid.sent + 1; groups = gs } in IsFrameIn shape f) → (let f : Frame = record { sequence = mid.sent + 1; groups = gs } in bytes ≡ frame_bytes f)
            → Sends tells shape gs (sending_of tells frames faults mid) (record { mirrors = true; told = tells; frames = frames link; faults = faults link; sent = mid.sent + 1; is_down = mid.is_down })
        go [] some good is = absurd (omega (arith, some))
        go (g ∷ gs) some good is = inl (record {
          went_on = up;
          goes_on = up;
          good = good;
          frames = λ told. sent told ∙ ap (λ (l : List ℕ). frames mid.link ++ l ∷ []) is;
          count = refl;
          faults = fault;
        })

    -- the send has failed
    pub frame_failed : (IsTrue tells → frames link ≡ frames mid.link) → Rose (faults mid.link) (faults link) → faults mid.link ≤ faults link
        → Sends tells shape gs (sending_of tells frames faults old) (record { mirrors = true; told = tells; frames = frames link; faults = faults link; sent = mid.sent; is_down = true })
    frame_failed kept rose later = not_due (record { mirrors = true; told = tells; frames = frames link; faults = faults link; sent = mid.sent; is_down = true }) (record {
      ended = refl;
      later = let e : faults mid.link ≡ faults old.link = ap (λ (s : SenderView L). faults s.link) same in omega (arith, e, later);
      frames = λ told. kept told ∙ ap (λ (s : SenderView L). frames s.link) same;
      count = ap (λ (s : SenderView L). s.sent) same;
      cause = inr (inr (subst (λ (s : SenderView L). Rose (faults s.link) (faults link)) same rose));
    })
