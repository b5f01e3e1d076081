-- What several numbers have logged, group by group.
use Rattle.std.proofs.Common.{◌≡◌, ℕ, zero, suc, ◌+◌, ◌-◌, ◌*◌, ◌^◌, ◌<◌, ◌≤◌, Bool, true, false, cond, List, [], ◌∷◌, ◌++◌, length, refl, sym, ◌∙◌, ap, subst, arith, append_assoc}
use Rattle.std.specs.Prelude.{All, flat_map, filter}
use Rattle.std.specs.List.{range_with_len}
use Rattle.std.proofs.lemmas.List.{append-nil, length-append}
use Rattle.std.proofs.Math.Nat.{mul-le-mul_right}
use Rattle.std.proofs.lemmas.List.Elements.{All-nil, All-cons, All-head, All-tail, All-append, All-weaker}
use Rattle.std.proofs.lemmas.List.Concat.{flat_map-append}
use Rattle.byteorder.specs.Endian.{little_bytes}
use Rattle.byteorder.specs.Numbers.{length-bytes_low_first}
use Rattle.array_shape.specs.declared.shape.Shape.{Shape}
use Rattle.array_shape.specs.Places.{IsShape}
use Rattle.array_shape.specs.NumberSet.{has, numbers_from, numbers_in}
use Rattle.array_shape.specs.Logged.{Part, AllPlaced}
use Rattle.mirror.specs.Log.{Log}
use Rattle.mirror.specs.Log.{log_at}
use Rattle.eaw_face.specs.Frame.{Group, Frame, part_bytes, group_bytes, Rise, IsGroup, IsGroupIn, IsFrameIn}
use Rattle.mirror.specs.Sending.{IsSendable, HasBytes, group_of, frame_most}
use Rattle.mirror.specs.Groups.{IsSendableAt, AreSendable, IsListed, HasByteLog, groups_of}
use Rattle.mirror.proofs.Sendable.{good_group, few_parts, parts_fit, short_parts}

-- Where a loop stands that writes groups: those of the numbers before `left` are written behind `old`.
pub record GroupsOn (logs : List Log) (all left : List ℕ) (old now : List ℕ) : Type 0 where
  pub said : now ++ flat_map group_bytes (groups_of logs left) ≡ old ++ flat_map group_bytes (groups_of logs all)
  pub bytes : All (HasByteLog logs) left → All (HasByteLog logs) all

pub groups_start : (logs : List Log) (all : List ℕ) (old : List ℕ) → GroupsOn logs all all old old
groups_start logs all old = record { said = refl; bytes = λ are. are }

module _ (logs : List Log) (all left : List ℕ) (old now : List ℕ) (on : GroupsOn logs all left old now) where
  split : (t : ℕ) (rest : List ℕ) → flat_map group_bytes (groups_of logs (t ∷ rest)) ≡ flat_map group_bytes (group_of t (log_at logs t).parts) ++ flat_map group_bytes (groups_of logs rest)
  split t rest = flat_map-append group_bytes (group_of t (log_at logs t).parts) (groups_of logs rest)

  pub groups_more : (t : ℕ) (rest new : List ℕ) → left ≡ t ∷ rest → new ≡ now ++ flat_map group_bytes (group_of t (log_at logs t).parts) → HasByteLog logs t → GroupsOn logs all rest old new
  groups_more t rest new is wrote bytes = record {
    said =
        ap (λ (l : List ℕ). l ++ flat_map group_bytes (groups_of logs rest)) wrote
        ∙ append_assoc now (flat_map group_bytes (group_of t (log_at logs t).parts)) (flat_map group_bytes (groups_of logs rest))
        ∙ ap (λ (l : List ℕ). now ++ l) (sym (split t rest))
        ∙ ap (λ (ts : List ℕ). now ++ flat_map group_bytes (groups_of logs ts)) (sym is)
        ∙ on.said;
    bytes = λ are. on.bytes (subst (All (HasByteLog logs)) (sym is) (All-cons (HasByteLog logs) t rest bytes are));
  }

  pub groups_end : left ≡ [] → (now ≡ old ++ flat_map group_bytes (groups_of logs all)) × All (HasByteLog logs) all
  groups_end is = (
    sym (append-nil now) ∙ ap (λ (ts : List ℕ). now ++ flat_map group_bytes (groups_of logs ts)) (sym is) ∙ on.said,
    on.bytes (subst (All (HasByteLog logs)) (sym is) (All-nil (HasByteLog logs))),
  )

  -- there is room for the next
  pub group_room : (t : ℕ) (rest : List ℕ) (capacity : ℕ) → left ≡ t ∷ rest → length old + length (flat_map group_bytes (groups_of logs all)) ≤ capacity
      → length now + length (flat_map group_bytes (group_of t (log_at logs t).parts)) ≤ capacity
  group_room t rest capacity is room =
      let same = ap (λ (l : List ℕ). length l) on.said in
      let one = length-append now (flat_map group_bytes (groups_of logs left)) in
      let two = length-append old (flat_map group_bytes (groups_of logs all)) in
      let here : length (flat_map group_bytes (groups_of logs left)) ≡ length (flat_map group_bytes (group_of t (log_at logs t).parts) ++ flat_map group_bytes (groups_of logs rest)) =
      ap (λ (ts : List ℕ). length (flat_map group_bytes (groups_of logs ts))) is ∙ ap (λ (l : List ℕ). length l) (split t rest) in
      let three = length-append (flat_map group_bytes (group_of t (log_at logs t).parts)) (flat_map group_bytes (groups_of logs rest)) in
      omega (arith, same, one, two, here, three, room)

-- the numbers of a set rise
module _ (p : ℕ → Bool) where
  few_of : (t n most : ℕ) → All (λ u. u < most) (filter p (range_with_len t n)) → length (filter p (range_with_len t n)) ≤ most - t
  few_of t zero most all = omega arith
  few_of t (suc n) most all = go (p t) (few_of (t + 1) n most) all
    where
      go : (b : Bool) → (All (λ u. u < most) (filter p (range_with_len (t + 1) n)) → length (filter p (range_with_len (t + 1) n)) ≤ most - (t + 1))
          → All (λ u. u < most) (cond b (t ∷ filter p (range_with_len (t + 1) n)) (filter p (range_with_len (t + 1) n)))
          → length (cond b (t ∷ filter p (range_with_len (t + 1) n)) (filter p (range_with_len (t + 1) n))) ≤ most - t
      go true later all =
          let here = All-head (λ u. u < most) t (filter p (range_with_len (t + 1) n)) all in
          let rest = later (All-tail (λ u. u < most) t (filter p (range_with_len (t + 1) n)) all) in
          omega (arith, here, rest)
      go false later all = let rest = later all in omega (arith, rest)

lower : (low least : ℕ) (gs : List Group) → least ≤ low → Rise low gs → Rise least gs
lower low least [] le rise = tt
lower low least (g ∷ gs) le rise = (omega (arith, le, rise.0), rise.1)

module _ (logs : List Log) (p : ℕ → Bool) where
  one_rises : (t : ℕ) (ps : List Part) (gs : List Group) → Rise (t + 1) gs → Rise t (group_of t ps ++ gs)
  one_rises t [] gs rise = lower (t + 1) t gs (omega arith) rise
  one_rises t (q ∷ ps) gs rise = (omega arith, rise)

  groups_rise : (t n : ℕ) → Rise t (groups_of logs (filter p (range_with_len t n)))
  groups_rise t zero = tt
  groups_rise t (suc n) = go (p t) (groups_rise (t + 1) n)
    where
      go : (b : Bool) → Rise (t + 1) (groups_of logs (filter p (range_with_len (t + 1) n))) → Rise t (groups_of logs (cond b (t ∷ filter p (range_with_len (t + 1) n)) (filter p (range_with_len (t + 1) n))))
      go true rise = one_rises t (log_at logs t).parts (groups_of logs (filter p (range_with_len (t + 1) n))) rise
      go false rise = lower (t + 1) t (groups_of logs (filter p (range_with_len (t + 1) n))) (omega arith) rise

pub members_rise : (logs : List Log) (bits : ℕ) → Rise 0 (groups_of logs (numbers_in bits))
unfolding numbers_from
members_rise logs bits = groups_rise logs (has bits) 0 64

pub members_few : (bits most : ℕ) → All (λ u. u < most) (numbers_in bits) → length (numbers_in bits) ≤ most
unfolding numbers_from
members_few bits most all = let few = few_of (has bits) 0 64 most all in omega (arith, few)

-- at most a group for each number
pub groups_few : (logs : List Log) (ts : List ℕ) → length (groups_of logs ts) ≤ length ts
groups_few logs [] = omega arith
groups_few logs (t ∷ ts) =
    let rest = groups_few logs ts in
    let both = length-append (group_of t (log_at logs t).parts) (groups_of logs ts) in
    omega (arith, rest, both, one (log_at logs t).parts)
  where
    one : (ps : List Part) → length (group_of t ps) ≤ 1
    one [] = omega arith
    one (p ∷ ps) = omega arith

-- one more that has logged something, or nothing
module _ (logs : List Log) (left : List ℕ) (t : ℕ) (rest : List ℕ) (is : left ≡ t ∷ rest) (log : Log) (log_is : log ≡ log_at logs t) where
  counted : length (groups_of logs left) ≡ length (group_of t log.parts) + length (groups_of logs rest)
  counted =
      ap (λ (ts : List ℕ). length (groups_of logs ts)) is
      ∙ length-append (group_of t (log_at logs t).parts) (groups_of logs rest)
      ∙ ap (λ (l : Log). length (group_of t l.parts) + length (groups_of logs rest)) (sym log_is)

  one_group : (ps : List Part) → 0 < length ps → length (group_of t ps) ≡ 1
  one_group [] some = absurd (omega (arith, some))
  one_group (p ∷ ps) some = refl

  no_group : (ps : List Part) → length ps ≡ 0 → length (group_of t ps) ≡ 0
  no_group [] none = refl
  no_group (p ∷ ps) none = absurd (omega (arith, none))

  pub counts_one : 0 < length log.parts → length (groups_of logs left) ≡ 1 + length (groups_of logs rest)
  counts_one some = omega (arith, counted, one_group log.parts some)

  pub counts_none : length log.parts ≡ 0 → length (groups_of logs left) ≡ length (groups_of logs rest)
  counts_none none = omega (arith, counted, no_group log.parts none)

-- how long they are
module _ (shape : Shape) where
  parts_long : (ps : List Part) → AllPlaced shape ps → length (flat_map part_bytes ps) ≤ 522 * length ps
  parts_long [] placed = omega arith
  parts_long (p ∷ ps) placed =
      let rest = parts_long ps placed.1 in
      let a = length-append (part_bytes p) (flat_map part_bytes ps) in
      let b = length-append (little_bytes 8 p.0 ++ little_bytes 2 (length p.1)) p.1 in
      let c = length-append (little_bytes 8 p.0) (little_bytes 2 (length p.1)) in
      let d = length-bytes_low_first 0 8 p.0 in
      let e = length-bytes_low_first 0 2 (length p.1) in
      omega (arith, rest, a, b, c, d, e, placed.0.page)

  pub group_long : (t : ℕ) (ps : List Part) → AllPlaced shape ps → length (flat_map group_bytes (group_of t ps)) ≤ 3 + 522 * length ps
  group_long t [] placed = omega arith
  group_long t (p ∷ ps) placed =
      let g : Group = record { number = t; parts = p ∷ ps } in
      let all = parts_long (p ∷ ps) placed in
      let whole = ap (λ (l : List ℕ). length l) (append-nil (group_bytes g)) in
      let a = length-append (little_bytes 2 (length (p ∷ ps))) (flat_map part_bytes (p ∷ ps)) in
      let b = length-bytes_low_first 0 2 (length (p ∷ ps)) in
      omega (arith, all, whole, a, b)

  module _ (in_range : IsShape shape) (logs : List Log) where
    pub groups_long : (ts : List ℕ) → AreSendable shape logs ts → length (flat_map group_bytes (groups_of logs ts)) ≤ length ts * (3 + 522 * (shape.loggers * shape.entries))
    groups_long [] are = omega arith
    groups_long (t ∷ ts) are =
        let here = All-head (IsSendableAt shape logs) t ts are in
        let rest = groups_long ts (All-tail (IsSendableAt shape logs) t ts are) in
        let split = ap (λ (l : List ℕ). length l) (flat_map-append group_bytes (group_of t (log_at logs t).parts) (groups_of logs ts)) in
        let both = length-append (flat_map group_bytes (group_of t (log_at logs t).parts)) (flat_map group_bytes (groups_of logs ts)) in
        let one = group_long t (log_at logs t).parts here.log.placed in
        let few = few_parts shape in_range (log_at logs t).parts here.log in
        omega (arith, rest, split, both, one, few)

    good_one : (t : ℕ) → IsSendableAt shape logs t → (ps : List Part) → IsSendable shape ps → All HasBytes ps → All IsGroup (group_of t ps) × All (IsGroupIn shape) (group_of t ps)
    good_one t here [] s bytes = (All-nil IsGroup, All-nil (IsGroupIn shape))
    good_one t here (p ∷ ps) s bytes =
        let good = good_group shape in_range t here.number p ps s bytes in
        let g : Group = record { number = t; parts = p ∷ ps } in
        (All-cons IsGroup g [] good.0 (All-nil IsGroup), All-cons (IsGroupIn shape) g [] good.1 (All-nil (IsGroupIn shape)))

    pub groups_good : (ts : List ℕ) → AreSendable shape logs ts → All (HasByteLog logs) ts → All IsGroup (groups_of logs ts) × All (IsGroupIn shape) (groups_of logs ts)
    groups_good [] are bytes = (All-nil IsGroup, All-nil (IsGroupIn shape))
    groups_good (t ∷ ts) are bytes =
        let here = All-head (IsSendableAt shape logs) t ts are in
        let one = good_one t here (log_at logs t).parts here.log (All-head (HasByteLog logs) t ts bytes) in
        let rest = groups_good ts (All-tail (IsSendableAt shape logs) t ts are) (All-tail (HasByteLog logs) t ts bytes) in
        (All-append IsGroup (group_of t (log_at logs t).parts) (groups_of logs ts) one.0 rest.0, All-append (IsGroupIn shape) (group_of t (log_at logs t).parts) (groups_of logs ts) one.1 rest.1)

    -- there is room for them in the longest frame
    pub groups_fit : (bits n capacity : ℕ) → AreSendable shape logs (numbers_in bits) → n ≡ 14 → frame_most shape ≤ capacity → n + length (flat_map group_bytes (groups_of logs (numbers_in bits))) ≤ capacity
    groups_fit bits n capacity are is most =
        let few = members_few bits shape.numbers (All-weaker (IsSendableAt shape logs) (λ t. t < shape.numbers) (λ t at. at.number) (numbers_in bits) are) in
        let long = groups_long (numbers_in bits) are in
        let product = mul-le-mul_right (3 + 522 * (shape.loggers * shape.entries)) few in
        omega (arith, is, most, long, product)

    pub groups_frame : (bits sequence : ℕ) → AreSendable shape logs (numbers_in bits) → All (HasByteLog logs) (numbers_in bits) → 0 < length (groups_of logs (numbers_in bits)) → sequence < 2 ^ 64
        → (let f : Frame = record { sequence = sequence; groups = groups_of logs (numbers_in bits) } in IsFrameIn shape f)
    groups_frame bits sequence are bytes some small =
        let good = groups_good (numbers_in bits) are bytes in
        let few = members_few bits shape.numbers (All-weaker (IsSendableAt shape logs) (λ t. t < shape.numbers) (λ t at. at.number) (numbers_in bits) are) in
        let least = groups_few logs (numbers_in bits) in
        record { is = (small, some, omega (arith, few, least, in_range.most_numbers), members_rise logs bits, good.0); groups = good.1 }

    -- each is listed
    pub are_listed : (ts : List ℕ) → AreSendable shape logs ts → All (IsListed logs) ts
    are_listed ts are = All-weaker (IsSendableAt shape logs) (IsListed logs) (λ t at. record {
      here = at.here;
      short = short_parts shape (log_at logs t).parts at.log.placed;
      few = let fit = parts_fit shape in_range (log_at logs t).parts at.log in omega (arith, fit);
    }) ts are

    pub few_groups : (bits : ℕ) → AreSendable shape logs (numbers_in bits) → length (groups_of logs (numbers_in bits)) ≤ 64
    few_groups bits are =
        let few = members_few bits shape.numbers (All-weaker (IsSendableAt shape logs) (λ t. t < shape.numbers) (λ t at. at.number) (numbers_in bits) are) in
        omega (arith, few, groups_few logs (numbers_in bits), in_range.most_numbers)

  -- there is room for one in the longest frame
  pub group_fits : IsShape shape → (number : ℕ) (ps : List Part) (n capacity : ℕ) → IsSendable shape ps → n ≡ 14 → frame_most shape ≤ capacity → n + length (flat_map group_bytes (group_of number ps)) ≤ capacity
  group_fits in_range number ps n capacity s is most =
      let long = group_long number ps s.placed in
      let few = few_parts shape in_range ps s in
      let product = mul-le-mul_right (3 + 522 * (shape.loggers * shape.entries)) in_range.some_numbers in
      omega (arith, is, most, long, few, product)
