-- A whole frame, and the places of its bytes.
use Rattle.std.proofs.Common.{◌≡◌, ℕ, suc, ◌^◌, ◌<◌, List, [], ◌++◌, length, drop, refl, sym, ◌∙◌, ap, subst, arith, append_assoc}
use Rattle.std.specs.Prelude.{◌↔◌, flat_map}
use Rattle.std.proofs.lemmas.List.{length-append, length-drop}
use Rattle.byteorder.specs.Endian.{little_bytes}
use Rattle.array_shape.specs.declared.shape.Shape.{Shape}
use Rattle.eaw_face.specs.Frame.{mark, group_bytes, AreFrame}
use Rattle.mirror.specs.Rest.{Rest, IsOpen, MarkRest, AfterSequence, AfterGroupCount, AfterPartCount, AfterAddress, AfterLength, IsPartsRest}
use Rattle.mirror.specs.declared.place.Place.{Place}
use Rattle.mirror.specs.declared.place.Place.TheVariants.{Mark, Sequence, GroupCount, Number, PartCount, Address, Length, Bytes, End}
use Rattle.mirror.proofs.Numbers.{number_first, number_whole, number_needs, bytes_need}

four : (a b c d : List ℕ) → ((a ++ b) ++ c) ++ d ≡ a ++ (b ++ (c ++ d))
four a b c d = append_assoc (a ++ b) c d ∙ append_assoc a b (c ++ d)

pub starts : (shape : Shape) (bytes : List ℕ) → AreFrame shape bytes ↔ MarkRest shape 0 bytes
starts shape bytes = (
  (λ f.
      let s = little_bytes 8 f.frame.sequence in
      let n = little_bytes 2 (length f.frame.groups) in
      let gs = flat_map group_bytes f.frame.groups in
      record {
        rest = s ++ (n ++ gs);
        is = sym f.is ∙ four mark s n gs;
        after = number_first (AfterSequence shape) 8 (s ++ (n ++ gs)) f.frame.sequence (n ++ gs) f.good.is.0 refl
            (number_first (AfterGroupCount shape) 2 (n ++ gs) (length f.frame.groups) gs f.good.is.2 refl
            (f.good.is.1, record { list = f.frame.groups; count = refl; rise = f.good.is.3; are = f.good.is.4; good = f.good.groups; is = refl }));
      }),
  (λ r.
      let counted = number_whole (AfterSequence shape) 8 r.rest r.after in
      let all = number_whole (AfterGroupCount shape) 2 r.after.rest counted in
      let g = all.1 in
      record {
        frame = record { sequence = r.after.high; groups = g.list };
        good = record { is = (r.after.fits, omega (arith, all.0, g.count), subst (λ (n : ℕ). n < 256 ^ 2) (sym g.count) counted.fits, g.rise, g.are); groups = g.good };
        is =
            four mark (little_bytes 8 r.after.high) (little_bytes 2 (length g.list)) (flat_map group_bytes g.list)
            ∙ sym (r.is ∙ ap (λ (l : List ℕ). mark ++ l)
            (r.after.is ∙ ap (λ (l : List ℕ). little_bytes 8 r.after.high ++ l)
            (counted.is ∙ (λ i. little_bytes 2 (sym g.count i) ++ g.is i))));
      }),
)

-- at an open place at least one byte is to come
pub open_needs : (shape : Shape) (place : Place) → IsOpen shape place → (place ≡ End → ⊥) → Rest shape place [] → ⊥
open_needs shape (Mark taken) ready not r =
    let all = length-append (drop taken mark) r.rest in
    let front = length-drop taken mark in
    let none : 0 ≡ length (drop taken mark ++ r.rest) = ap (λ (l : List ℕ). length l) r.is in
    omega (arith, all, front, none, ready)
open_needs shape (Sequence n) ready not r = number_needs (AfterSequence shape) n.left n.value n.weight ready r
open_needs shape (GroupCount n) ready not r = number_needs (AfterGroupCount shape) n.left n.value n.weight ready r
open_needs shape (Number groups) ready not r = let none : 0 ≡ suc (length r.rest) = ap (λ (l : List ℕ). length l) r.is in omega (arith, none)
open_needs shape (PartCount n groups) ready not r = number_needs (AfterPartCount shape groups) n.left n.value n.weight ready.0 r
open_needs shape (Address n parts) ready not r = number_needs (AfterAddress shape parts) n.left n.value n.weight ready.0 r
open_needs shape (Length n addr parts) ready not r = number_needs (AfterLength shape addr parts.count parts.held parts.behind) n.left n.value n.weight ready.0 r
open_needs shape (Bytes left parts) ready not r = bytes_need (IsPartsRest shape parts) left ready.0 r
open_needs shape End ready not r = not refl
