-- The bytes of a frame say where it ends.
use Rattle.std.proofs.Common.{◌≡◌, ℕ, ◌^◌, ◌<◌, List, [], ◌∷◌, ◌++◌, length, take, drop, refl, sym, ◌∙◌, ap, arith, append_assoc}
use Rattle.std.specs.Prelude.{All, flat_map}
use Rattle.std.proofs.lemmas.List.{append-nil, take_at, drop_at}
use Rattle.std.proofs.lemmas.List.Elements.{All-head, All-tail}
use Rattle.byteorder.specs.Endian.{little_bytes, little_number}
use Rattle.byteorder.specs.Numbers.{little_number-reads_back, length-bytes_low_first}
use Rattle.array_shape.specs.Logged.{Part}
use Rattle.eaw_face.specs.Frame.{Group, Frame, mark, part_bytes, group_bytes, frame_bytes, IsPart, IsGroup, IsFrame}
use Rattle.mirror.proofs.Numbers.{first_same, rest_same}

-- the first of two things that are written one behind the other is told by the bytes
abbrev pub IsCut : {A : Type 0} → (A → List ℕ) → (A → Type 0) → Type 0
IsCut {A} bytes_of Is = (a b : A) (x y : List ℕ) → Is a → Is b → bytes_of a ++ x ≡ bytes_of b ++ y → (a ≡ b) × (x ≡ y)

front_same : (k : ℕ) (a b x y : List ℕ) → length a ≡ k → length b ≡ k → a ++ x ≡ b ++ y → (a ≡ b) × (x ≡ y)
front_same k a b x y one two same = (
  sym (take_at a x k one) ∙ ap (λ (l : List ℕ). take k l) same ∙ take_at b y k two,
  sym (drop_at a x k one) ∙ ap (λ (l : List ℕ). drop k l) same ∙ drop_at b y k two,
)

number_cut : (k a b : ℕ) (x y : List ℕ) → a < 256 ^ k → b < 256 ^ k → little_bytes k a ++ x ≡ little_bytes k b ++ y → (a ≡ b) × (x ≡ y)
number_cut k a b x y small less same = (
  sym (little_number-reads_back k a x small) ∙ ap (λ (l : List ℕ). little_number k l) same ∙ little_number-reads_back k b y less,
  (front_same k (little_bytes k a) (little_bytes k b) x y (length-bytes_low_first 0 k a) (length-bytes_low_first 0 k b) same).1,
)

pub part_cut : IsCut part_bytes IsPart
part_cut a b x y is also same =
    let three = λ (p : Part) (z : List ℕ). append_assoc (little_bytes 8 p.0 ++ little_bytes 2 (length p.1)) p.1 z ∙ append_assoc (little_bytes 8 p.0) (little_bytes 2 (length p.1)) (p.1 ++ z) in
    let addr = number_cut 8 a.0 b.0 (little_bytes 2 (length a.1) ++ (a.1 ++ x)) (little_bytes 2 (length b.1) ++ (b.1 ++ y)) is.0 also.0 (sym (three a x) ∙ same ∙ three b y) in
    let len = number_cut 2 (length a.1) (length b.1) (a.1 ++ x) (b.1 ++ y) (omega (arith, is.2)) (omega (arith, also.2)) addr.1 in
    let bytes = front_same (length a.1) a.1 b.1 x y refl (sym len.0) len.1 in
    ((λ i. (addr.0 i, bytes.0 i)), bytes.1)

-- as many things one behind the other
pub list_cut : {A : Type 0} (bytes_of : A → List ℕ) (Is : A → Type 0) → IsCut bytes_of Is → (as1 bs : List A) (x y : List ℕ) → length as1 ≡ length bs → All Is as1 → All Is bs → flat_map bytes_of as1 ++ x ≡ flat_map bytes_of bs ++ y → (as1 ≡ bs) × (x ≡ y)
list_cut bytes_of Is cut [] [] x y count is also same = (refl, same)
list_cut bytes_of Is cut [] (b ∷ bs) x y count is also same = absurd (omega (arith, count))
list_cut bytes_of Is cut (a ∷ as1) [] x y count is also same = absurd (omega (arith, count))
list_cut bytes_of Is cut (a ∷ as1) (b ∷ bs) x y count is also same =
    let first = cut a b (flat_map bytes_of as1 ++ x) (flat_map bytes_of bs ++ y) (All-head Is a as1 is) (All-head Is b bs also)
    (sym (append_assoc (bytes_of a) (flat_map bytes_of as1) x) ∙ same ∙ append_assoc (bytes_of b) (flat_map bytes_of bs) y) in
    let rest = list_cut bytes_of Is cut as1 bs x y (omega (arith, count)) (All-tail Is a as1 is) (All-tail Is b bs also) first.1 in
    ((λ i. first.0 i ∷ rest.0 i), rest.1)

pub group_cut : IsCut group_bytes IsGroup
group_cut a b x y is also same =
    let n = λ (g : Group). little_bytes 2 (length g.parts) in
    let ps = λ (g : Group). flat_map part_bytes g.parts in
    let behind = rest_same a.number b.number ((n a ++ ps a) ++ x) ((n b ++ ps b) ++ y) same in
    let count = number_cut 2 (length a.parts) (length b.parts) (ps a ++ x) (ps b ++ y) is.2 also.2 (sym (append_assoc (n a) (ps a) x) ∙ behind ∙ append_assoc (n b) (ps b) y) in
    let parts = list_cut part_bytes IsPart part_cut a.parts b.parts x y count.0 is.3 also.3 count.1 in
    let number = first_same a.number b.number ((n a ++ ps a) ++ x) ((n b ++ ps b) ++ y) same in
    ((λ i. record { number = number i; parts = parts.0 i }), parts.1)

pub frame_cut : IsCut frame_bytes IsFrame
frame_cut a b x y is also same =
    let s = λ (f : Frame). little_bytes 8 f.sequence in
    let n = λ (f : Frame). little_bytes 2 (length f.groups) in
    let gs = λ (f : Frame). flat_map group_bytes f.groups in
    let four = λ (f : Frame) (z : List ℕ). append_assoc ((mark ++ s f) ++ n f) (gs f) z ∙ append_assoc (mark ++ s f) (n f) (gs f ++ z) ∙ append_assoc mark (s f) (n f ++ (gs f ++ z)) in
    let behind = (front_same 4 mark mark (s a ++ (n a ++ (gs a ++ x))) (s b ++ (n b ++ (gs b ++ y))) refl refl (sym (four a x) ∙ same ∙ four b y)).1 in
    let sequence = number_cut 8 a.sequence b.sequence (n a ++ (gs a ++ x)) (n b ++ (gs b ++ y)) is.0 also.0 behind in
    let count = number_cut 2 (length a.groups) (length b.groups) (gs a ++ x) (gs b ++ y) is.2 also.2 sequence.1 in
    let groups = list_cut group_bytes IsGroup group_cut a.groups b.groups x y count.0 is.4 also.4 count.1 in
    ((λ i. record { sequence = sequence.0 i; groups = groups.0 i }), groups.1)

-- what is written is read back
pub frame_once : (a b : Frame) → IsFrame a → IsFrame b → frame_bytes a ≡ frame_bytes b → a ≡ b
frame_once a b is also same = (frame_cut a b [] [] is also (ap (λ (l : List ℕ). l ++ []) same)).0

-- a frame's bytes begin with no other frame's bytes
pub frame_alone : (a b : Frame) (more : List ℕ) → IsFrame a → IsFrame b → frame_bytes a ≡ frame_bytes b ++ more → more ≡ []
frame_alone a b more is also same = sym (frame_cut a b [] more is also (append-nil (frame_bytes a) ∙ same)).1
