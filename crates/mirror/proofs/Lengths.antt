-- How long the frames of a shape are, and what a follower keeps of one.
use Rattle.std.proofs.Common.{◌≡◌, ℕ, ◌+◌, ◌*◌, ◌≤◌, ◌<◌, ⊎_elim, Bool, List, [], ◌∷◌, ◌++◌, length, take, drop, refl, sym, ◌∙◌, ap, subst, arith, append_assoc}
use Rattle.std.specs.Prelude.{All, flat_map}
use Rattle.std.proofs.Math.Nat.{mul-le-mul_right}
use Rattle.std.proofs.lemmas.Bool.{cases_lt}
use Rattle.std.proofs.lemmas.List.{length-append, take_at, take-append-le, take-append-drop}
use Rattle.std.proofs.lemmas.List.Elements.{All-head, All-tail}
use Rattle.byteorder.specs.Endian.{little_bytes}
use Rattle.byteorder.specs.Numbers.{length-bytes_low_first}
use Rattle.array_shape.specs.declared.shape.Shape.{Shape}
use Rattle.array_shape.specs.Places.{IsShape}
use Rattle.array_shape.specs.Logged.{Part, ranges_of}
use Rattle.eaw_face.specs.StoreView.{StoreView}
use Rattle.eaw_face.specs.Frame.{Group, Frame, mark, part_bytes, group_bytes, frame_bytes, IsPart, IsGroup, IsGroupIn, IsFrameIn, AreFrame}
use Rattle.mirror.proofs.Parts.{length-ranges_of}
use Rattle.mirror.specs.Following.{HasNoFrame, IsBroken, CanGoOn, Stand, Follows, StopsBroken}
use Rattle.mirror.specs.Sending.{frame_most}
use Rattle.mirror.proofs.Holding.{fit_most}
use Rattle.mirror.proofs.Parting.{rise_most}
use Rattle.mirror.proofs.Writing.{part_long}
use Rattle.mirror.proofs.Ways.{one_way}

parts_long : (ps : List Part) → All IsPart ps → length (flat_map part_bytes ps) ≤ 522 * length ps
parts_long [] are = omega arith
parts_long (p ∷ ps) are =
    let rest = parts_long ps (All-tail IsPart p ps are) in
    let both = length-append (part_bytes p) (flat_map part_bytes ps) in
    let here = part_long p in
    let stripe = (All-head IsPart p ps are).2 in
    omega (arith, rest, both, here, stripe)

module _ (shape : Shape) (in_range : IsShape shape) where
  group_long : (g : Group) → IsGroup g → IsGroupIn shape g → length (group_bytes g) ≤ 3 + 522 * (shape.loggers * shape.entries)
  group_long g is good =
      let all = parts_long g.parts is.3 in
      let most = fit_most shape in_range.some_loggers (ranges_of g.parts) good.2 in
      let many = length-ranges_of g.parts in
      let both = length-append (little_bytes 2 (length g.parts)) (flat_map part_bytes g.parts) in
      let two = length-bytes_low_first 0 2 (length g.parts) in
      omega (arith, all, most, many, both, two)

  groups_long : (gs : List Group) → All IsGroup gs → All (IsGroupIn shape) gs → length (flat_map group_bytes gs) ≤ length gs * (3 + 522 * (shape.loggers * shape.entries))
  groups_long [] are good = omega arith
  groups_long (g ∷ gs) are good =
      let rest = groups_long gs (All-tail IsGroup g gs are) (All-tail (IsGroupIn shape) g gs good) in
      let both = length-append (group_bytes g) (flat_map group_bytes gs) in
      let here = group_long g (All-head IsGroup g gs are) (All-head (IsGroupIn shape) g gs good) in
      omega (arith, rest, both, here)

  frame_long : (f : Frame) → IsFrameIn shape f → length (frame_bytes f) ≤ frame_most shape
  frame_long f good =
      let all = groups_long f.groups good.is.4 good.groups in
      let few = rise_most shape 0 f.groups (omega arith) good.is.3 good.groups in
      let product = mul-le-mul_right (3 + 522 * (shape.loggers * shape.entries)) (let least : length f.groups ≤ shape.numbers = omega (arith, few) in least) in
      let a = length-append (mark ++ little_bytes 8 f.sequence ++ little_bytes 2 (length f.groups)) (flat_map group_bytes f.groups) in
      let b = length-append (mark ++ little_bytes 8 f.sequence) (little_bytes 2 (length f.groups)) in
      let c = length-append mark (little_bytes 8 f.sequence) in
      let d = length-bytes_low_first 0 8 f.sequence in
      let e = length-bytes_low_first 0 2 (length f.groups) in
      omega (arith, all, product, a, b, c, d, e)

  -- bytes that can go on are no longer than the longest frame and seven
  kept_short : (bytes : List ℕ) → CanGoOn shape bytes → length bytes ≤ frame_most shape + 7
  kept_short bytes c =
      let most = frame_long c.frame.frame c.frame.good in
      let whole = ap (λ (l : List ℕ). length l) c.frame.is in
      let front = length-append c.whole c.rest in
      let all = ap (λ (l : List ℕ). length l) c.are in
      let both = length-append c.whole c.part in
      omega (arith, most, whole, front, all, both, c.short)

pub rest_short : (tells : Bool) (old new : Stand) (piece : List ℕ) → Follows tells old new piece → length new.rest ≤ frame_most new.store.shape + 7
rest_short tells old new piece a = kept_short new.store.shape new.store.shape.in_range new.rest a.ready.goes_on

-- of two bytes that begin the same, the longer begins with the shorter
longer : (xs ys us vs : List ℕ) → xs ++ ys ≡ us ++ vs → length us ≤ length xs → xs ≡ us ++ drop (length us) xs
longer xs ys us vs same le =
    let is : take (length us) xs ≡ us = sym (take-append-le (length us) xs ys le) ∙ ap (λ (l : List ℕ). take (length us) l) same ∙ take_at us vs (length us) refl in
    sym (take-append-drop (length us) xs) ∙ ap (λ (l : List ℕ). l ++ drop (length us) xs) is

module _ (shape : Shape) (broken later : List ℕ) (none : HasNoFrame shape broken) (is_broken : IsBroken shape broken) where
  -- nothing that begins with broken bytes is a frame
  no_longer : (front more : List ℕ) → front ≡ broken ++ more → AreFrame shape front → ⊥
  no_longer front more is f = is_broken more (subst (AreFrame shape) is f)

  none_behind : HasNoFrame shape (broken ++ later)
  none_behind front rest same f = ⊎_elim
      (λ less. none front (drop (length front) broken) (longer broken later front rest same (omega (arith, less))) f)
      (λ more. no_longer front (drop (length broken) front) (longer front rest broken later (sym same) more) f)
      (cases_lt (length front) (length broken))

  few_later : (rest : List ℕ) → rest ≡ broken ++ later → CanGoOn shape rest → length later ≤ 6
  few_later rest is c = ⊎_elim
      (λ few. omega (arith, few))
      (λ many.
      let all = ap (λ (l : List ℕ). length l) (sym c.are ∙ is) in
      let one = length-append c.whole c.part in
      let two = length-append broken later in
      let front = longer c.whole c.part broken later (sym c.are ∙ is) (omega (arith, all, one, two, many, c.short)) in
      absurd (no_longer (c.whole ++ c.rest) (drop (length broken) c.whole ++ c.rest) (ap (λ (l : List ℕ). l ++ c.rest) front ∙ append_assoc broken (drop (length broken) c.whole) c.rest) c.frame))
      (cases_lt (length later) 7)

pub broken_told : (tells : Bool) (old new : Stand) (store : StoreView) (piece : List ℕ) → Follows tells old new piece → (b : StopsBroken tells old store piece) → length b.later ≤ 6
broken_told tells old new store piece a b =
    let shape = old.store.shape in
    let same = one_way shape a.frames b.frames new.rest (b.broken ++ b.later) a.cuts.good b.stops.cuts.good
    (subst (λ (s : Shape). HasNoFrame s new.rest) a.data_is.shape a.ready.none) (none_behind shape b.broken b.later b.none b.is_broken) (sym a.cuts.joined ∙ b.stops.cuts.joined) in
    few_later shape b.broken b.later b.none b.is_broken new.rest same.1 (subst (λ (s : Shape). CanGoOn s new.rest) a.data_is.shape a.ready.goes_on)
