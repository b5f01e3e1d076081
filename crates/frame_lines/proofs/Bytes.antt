-- A frame is written in bytes, and a line says it by their text.
use Rattle.std.proofs.Common.{ℕ, zero, suc, ◌<◌, List, [], ◌∷◌, ◌++◌, ◌≡◌, length, drop, sym, ◌∙◌, ap, arith}
use Rattle.std.specs.Prelude.{All, flat_map}
use Rattle.std.specs.Int.{byte_at, bytes_low_first}
use Rattle.std.proofs.lemmas.List.Elements.{All-head, All-tail}
use Rattle.hex.specs.Hex.{IsBytes}
use Rattle.byteorder.specs.Endian.{little_bytes}
use Rattle.array_shape.specs.Logged.{Part}
use Rattle.frame_lines.specs.Lines.{frame_word}
use Rattle.eaw_face.specs.Frame.{Group, Frame, mark, part_bytes, group_bytes, frame_bytes, IsByte, IsPart, IsGroup, IsFrame}

bytes_none : IsBytes []
bytes_none i = omega arith

bytes_cons : (x : ℕ) (xs : List ℕ) → x < 256 → IsBytes xs → IsBytes (x ∷ xs)
bytes_cons x xs small are zero = small
bytes_cons x xs small are (suc i) = are i

bytes_append : (xs ys : List ℕ) → IsBytes xs → IsBytes ys → IsBytes (xs ++ ys)
bytes_append [] ys one two = two
bytes_append (x ∷ xs) ys one two = bytes_cons x (xs ++ ys) (one zero) (bytes_append xs ys (λ i. one (suc i)) two)

byte_small : (i x : ℕ) → byte_at i x < 256
byte_small zero x = omega arith
byte_small (suc i) x = omega arith

bytes_low : (i n x : ℕ) → IsBytes (bytes_low_first i n x)
bytes_low i zero x = bytes_none
bytes_low i (suc n) x = bytes_cons _ (bytes_low_first (suc i) n x) (byte_small i x) (bytes_low (suc i) n x)

bytes_all : (xs : List ℕ) → All IsByte xs → IsBytes xs
bytes_all [] all = bytes_none
bytes_all (x ∷ xs) all = bytes_cons x xs (All-head IsByte x xs all) (bytes_all xs (All-tail IsByte x xs all))

bytes_each : {A : Type 0} (bytes_of : A → List ℕ) (Is : A → Type 0) → ((a : A) → Is a → IsBytes (bytes_of a)) → (xs : List A) → All Is xs → IsBytes (flat_map bytes_of xs)
bytes_each bytes_of Is each [] all = bytes_none
bytes_each bytes_of Is each (x ∷ xs) all = bytes_append (bytes_of x) (flat_map bytes_of xs) (each x (All-head Is x xs all)) (bytes_each bytes_of Is each xs (All-tail Is x xs all))

bytes_of_part : (p : Part) → IsPart p → IsBytes (part_bytes p)
bytes_of_part p is = bytes_append (little_bytes 8 p.0 ++ little_bytes 2 (length p.1)) p.1 (bytes_append (little_bytes 8 p.0) (little_bytes 2 (length p.1)) (bytes_low 0 8 p.0) (bytes_low 0 2 (length p.1))) (bytes_all p.1 is.3)

bytes_of_group : (g : Group) → IsGroup g → IsBytes (group_bytes g)
bytes_of_group g is = bytes_cons g.number (little_bytes 2 (length g.parts) ++ flat_map part_bytes g.parts) is.0
    (bytes_append (little_bytes 2 (length g.parts)) (flat_map part_bytes g.parts) (bytes_low 0 2 (length g.parts)) (bytes_each part_bytes IsPart bytes_of_part g.parts is.3))

bytes_of_mark : IsBytes mark
bytes_of_mark = bytes_cons 77 (70 ∷ 82 ∷ 49 ∷ []) (omega arith) (bytes_cons 70 (82 ∷ 49 ∷ []) (omega arith) (bytes_cons 82 (49 ∷ []) (omega arith) (bytes_cons 49 [] (omega arith) bytes_none)))

pub bytes_of_frame : (f : Frame) → IsFrame f → IsBytes (frame_bytes f)
bytes_of_frame f is =
    let s = little_bytes 8 f.sequence in
    let n = little_bytes 2 (length f.groups) in
    bytes_append ((mark ++ s) ++ n) (flat_map group_bytes f.groups)
    (bytes_append (mark ++ s) n (bytes_append mark s bytes_of_mark (bytes_low 0 8 f.sequence)) (bytes_low 0 2 (length f.groups)))
    (bytes_each group_bytes IsGroup bytes_of_group f.groups is.4)

-- what comes behind the word of a frame is told by the line
pub hex_is : (line text other : List ℕ) → line ≡ frame_word ++ text → line ≡ frame_word ++ other → text ≡ other
hex_is line text other one two = ap (λ (l : List ℕ). drop 6 l) (sym one ∙ two)
