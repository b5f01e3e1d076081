-- The bytes of parts, one behind the other.
use Rattle.std.proofs.Common.{◌≡◌, ℕ, ◌+◌, ◌<◌, ◌≤◌, List, [], ◌∷◌, ◌++◌, length, drop, refl, sym, ◌∙◌, ap, subst, arith, append_assoc}
use Rattle.std.specs.Prelude.{All, flat_map}
use Rattle.std.proofs.lemmas.List.{append-nil, drop_more, drop_all, length-append}
use Rattle.std.proofs.lemmas.List.Elements.{All-nil, All-cons}
use Rattle.array_shape.specs.Logged.{Part}
use Rattle.eaw_face.specs.State.{part_at}
use Rattle.byteorder.specs.Endian.{little_bytes}
use Rattle.byteorder.specs.Numbers.{length-bytes_low_first}
use Rattle.eaw_face.specs.Frame.{mark, part_bytes, group_bytes}
use Rattle.mirror.specs.Sending.{HasBytes, group_of}

-- how long a part is
pub part_long : (p : Part) → length (part_bytes p) ≡ 10 + length p.1
part_long p =
    let b = length-append (little_bytes 8 p.0 ++ little_bytes 2 (length p.1)) p.1 in
    let c = length-append (little_bytes 8 p.0) (little_bytes 2 (length p.1)) in
    let d = length-bytes_low_first 0 8 p.0 in
    let e = length-bytes_low_first 0 2 (length p.1) in
    omega (arith, b, c, d, e)

-- a group that was written
pub group_said : (number : ℕ) (ps : List Part) (count : ℕ) (old begun new : List ℕ) → 0 < length ps → count ≡ length ps → begun ≡ old ++ number ∷ little_bytes 2 count → new ≡ begun ++ flat_map part_bytes ps
    → new ≡ old ++ flat_map group_bytes (group_of number ps)
group_said number [] count old begun new some is first rest = absurd (omega (arith, some))
group_said number (p ∷ ps) count old begun new some is first rest =
    rest
    ∙ ap (λ (l : List ℕ). l ++ flat_map part_bytes (p ∷ ps)) (first ∙ ap (λ (n : ℕ). old ++ number ∷ little_bytes 2 n) is)
    ∙ append_assoc old (number ∷ little_bytes 2 (length (p ∷ ps))) (flat_map part_bytes (p ∷ ps))
    ∙ ap (λ (l : List ℕ). old ++ l) (sym (append-nil (number ∷ (little_bytes 2 (length (p ∷ ps)) ++ flat_map part_bytes (p ∷ ps)))))

-- the bytes in front of the groups
pub head_long : (sequence count : ℕ) → length (mark ++ little_bytes 8 sequence ++ little_bytes 2 count) ≡ 14
head_long sequence count =
    let a = length-append (mark ++ little_bytes 8 sequence) (little_bytes 2 count) in
    let b = length-append mark (little_bytes 8 sequence) in
    let c = length-bytes_low_first 0 8 sequence in
    let d = length-bytes_low_first 0 2 count in
    let four : length mark ≡ 4 = refl in
    omega (arith, a, b, c, d, four)

-- one group is counted as one
pub one_group_said : (number : ℕ) (ps : List Part) → 0 < length ps → (sequence : ℕ) → (mark ++ little_bytes 8 sequence ++ little_bytes 2 1) ++ flat_map group_bytes (group_of number ps)
    ≡ mark ++ little_bytes 8 sequence ++ little_bytes 2 (length (group_of number ps)) ++ flat_map group_bytes (group_of number ps)
one_group_said number [] some sequence = absurd (omega (arith, some))
one_group_said number (p ∷ ps) some sequence = refl

-- Where a loop stands that writes the parts from `offset` on: those up to `pos` are written behind `old`.
pub record WritesOn (parts : List Part) (offset pos : ℕ) (old now : List ℕ) : Type 0 where
  pub said : now ++ flat_map part_bytes (drop pos parts) ≡ old ++ flat_map part_bytes (drop offset parts)
  pub bytes : All HasBytes (drop pos parts) → All HasBytes (drop offset parts)

pub writes_first : (parts : List Part) (offset : ℕ) (old : List ℕ) → WritesOn parts offset offset old old
writes_first parts offset old = record { said = refl; bytes = λ all. all }

module _ (parts : List Part) (offset pos : ℕ) (old now : List ℕ) (on : WritesOn parts offset pos old now) where
  pub writes_next : (new : List ℕ) (part : Part) → pos < length parts → part ≡ part_at parts pos → HasBytes part → new ≡ now ++ part_bytes part → WritesOn parts offset (pos + 1) old new
  writes_next new part lt is bytes wrote =
      let split : drop pos parts ≡ part ∷ drop (pos + 1) parts = drop_more parts pos (0, []) lt ∙ ap (λ (p : Part). p ∷ drop (pos + 1) parts) (sym is) in
      record {
        said =
            ap (λ (l : List ℕ). l ++ flat_map part_bytes (drop (pos + 1) parts)) wrote
            ∙ append_assoc now (part_bytes part) (flat_map part_bytes (drop (pos + 1) parts))
            ∙ ap (λ (ps : List Part). now ++ flat_map part_bytes ps) (sym split)
            ∙ on.said;
        bytes = λ all. on.bytes (subst (All HasBytes) (sym split) (All-cons HasBytes part (drop (pos + 1) parts) bytes all));
      }

  -- there is room for the next
  pub part_room : (capacity : ℕ) → pos < length parts → length old + length (flat_map part_bytes (drop offset parts)) ≤ capacity → length now + (10 + length (part_at parts pos).1) ≤ capacity
  part_room capacity lt room =
      let p = part_at parts pos in
      let same = ap (λ (l : List ℕ). length l) on.said in
      let one = length-append now (flat_map part_bytes (drop pos parts)) in
      let two = length-append old (flat_map part_bytes (drop offset parts)) in
      let split : length (flat_map part_bytes (drop pos parts)) ≡ length (part_bytes p ++ flat_map part_bytes (drop (pos + 1) parts)) =
      ap (λ (ps : List Part). length (flat_map part_bytes ps)) (drop_more parts pos (0, []) lt) in
      let three = length-append (part_bytes p) (flat_map part_bytes (drop (pos + 1) parts)) in
      omega (arith, same, one, two, split, three, part_long p, room)

  pub writes_last : length parts ≤ pos → now ≡ old ++ flat_map part_bytes (drop offset parts)
  writes_last le = sym (append-nil now) ∙ ap (λ (ps : List Part). now ++ flat_map part_bytes ps) (sym (drop_all pos parts le)) ∙ on.said

  pub bytes_last : length parts ≤ pos → All HasBytes (drop offset parts)
  bytes_last le = on.bytes (subst (All HasBytes) (sym (drop_all pos parts le)) (All-nil HasBytes))
