-- Numbers of a super page, read and written.
use Rattle.std.proofs.Common.{◌≡◌, ℕ, ◌+◌, ◌≤◌, List, [], ◌++◌, length, take, drop, refl, sym, ◌∙◌, ap, append_assoc, arith}
use Rattle.std.proofs.lemmas.List.{take_at, drop_at, drop_all, append-nil, length-append, length-drop, length-take, length-take-le}
use Rattle.byteorder.specs.Endian.{little_from, little_bytes}
use Rattle.byteorder.specs.Numbers.{little_from-take, length-bytes_low_first}
use Rattle.record_slots.proofs.SlotLemmas.{little_shift}
use Rattle.record_slots.specs.Super.{part_bytes}
use Rattle.record_slots.specs.declared.super_page.Super.{Super}

-- a number of n bytes at the front of a piece
pub number_read : (i n m : ℕ) (bytes : List ℕ) → n ≤ m → little_from 0 n (take m (drop i bytes)) ≡ little_from i n bytes
number_read i n m bytes le =
    let e : i + 0 ≡ i = omega arith in
    little_from-take 0 n m (drop i bytes) (omega arith) ∙ little_shift 0 i n bytes ∙ ap (λ (j : ℕ). little_from j n bytes) e

-- a number of four bytes at a place of the page
pub four_read : (i n : ℕ) (bytes : List ℕ) → 4 ≤ n → little_from 0 4 (take n (drop i bytes)) ≡ little_from i 4 bytes
four_read i n bytes le = number_read i 4 n bytes le

-- nothing stands behind the first four of four
no_rest : (xs : List ℕ) → drop 4 (take 4 xs) ≡ []
no_rest xs = drop_all 4 (take 4 xs) (omega (arith, length-take 4 xs))

-- a number that was written into four bytes
pub number_put : (n : ℕ) (buf old : List ℕ) → buf ≡ little_bytes 4 n ++ drop 4 (take 4 old) → buf ≡ little_bytes 4 n
number_put n buf old is = is ∙ (rw (no_rest old) (append-nil (little_bytes 4 n)))

-- a piece that is written behind what was written
next_put : (front rest piece : List ℕ) (i n : ℕ) → length front ≡ i → take i (front ++ rest) ++ (piece ++ drop n (drop i (front ++ rest))) ≡ (front ++ piece) ++ drop n rest
next_put front rest piece i n long = rw (take_at front rest i long, drop_at front rest i long) (sym (append_assoc front piece (drop n rest)))

-- what the writer's steps leave are the bytes of the part
module _ (front : Super) (out one two es three four five six : List ℕ) (long : length out ≡ 280) (entries : es ≡ front.entries) (told : length es ≡ length (take 256 (drop 8 (take 4 (one ++ drop 4 out) ++ (two ++ drop 4 (drop 4 (one ++ drop 4 out)))))))
    (r1 r2 r3 r4 r5 r6 : List ℕ) (is1 : one ≡ little_bytes 4 front.next_slot ++ drop 4 (take 4 r1)) (is2 : two ≡ little_bytes 4 front.next_page ++ drop 4 (take 4 r2))
    (is3 : three ≡ little_bytes 4 front.free_slot ++ drop 4 (take 4 r3)) (is4 : four ≡ little_bytes 4 front.free_page ++ drop 4 (take 4 r4))
    (is5 : five ≡ little_bytes 4 front.free_slots ++ drop 4 (take 4 r5)) (is6 : six ≡ little_bytes 4 front.free_pages ++ drop 4 (take 4 r6)) where
  a : List ℕ
  a = little_bytes 4 front.next_slot

  b : List ℕ
  b = little_bytes 4 front.next_page

  c : List ℕ
  c = little_bytes 4 front.free_slot

  d : List ℕ
  d = little_bytes 4 front.free_page

  e : List ℕ
  e = little_bytes 4 front.free_slots

  f : List ℕ
  f = little_bytes 4 front.free_pages

  abbrev pub x1 : List ℕ
  x1 = one ++ drop 4 out

  abbrev pub x2 : List ℕ
  x2 = take 4 x1 ++ (two ++ drop 4 (drop 4 x1))

  abbrev pub x3 : List ℕ
  x3 = take 8 x2 ++ (es ++ drop 256 (drop 8 x2))

  abbrev pub x4 : List ℕ
  x4 = take 264 x3 ++ (three ++ drop 4 (drop 264 x3))

  abbrev pub x5 : List ℕ
  x5 = take 268 x4 ++ (four ++ drop 4 (drop 268 x4))

  abbrev pub x6 : List ℕ
  x6 = take 272 x5 ++ (five ++ drop 4 (drop 272 x5))

  len_a : length a ≡ 4
  unfolding a
  len_a = length-bytes_low_first 0 4 front.next_slot

  len_b : length (a ++ b) ≡ 8
  unfolding b
  len_b = omega (arith, length-append a (little_bytes 4 front.next_page), len_a, length-bytes_low_first 0 4 front.next_page)

  o1 : List ℕ
  o1 = drop 4 out

  o2 : List ℕ
  o2 = drop 4 o1

  y1 : x1 ≡ a ++ o1
  unfolding a o1
  y1 = ap (λ (l : List ℕ). l ++ drop 4 out) (number_put front.next_slot one r1 is1)

  y2 : x2 ≡ (a ++ b) ++ o2
  unfolding b o2
  y2 = (λ i. take 4 (y1 i) ++ (number_put front.next_page two r2 is2 i ++ drop 4 (drop 4 (y1 i)))) ∙ next_put a o1 b 4 4 len_a

  -- the entries are written whole
  all : length es ≡ 256
  unfolding o1 o2
  all =
      told ∙ ap (λ (l : List ℕ). length (take 256 (drop 8 l))) y2 ∙ ap (λ (l : List ℕ). length (take 256 l)) (drop_at (a ++ b) o2 8 len_b)
      ∙ length-take-le 256 o2 (omega (arith, long, length-drop 4 out, length-drop 4 (drop 4 out)))

  len_es : length ((a ++ b) ++ es) ≡ 264
  len_es = omega (arith, length-append (a ++ b) es, len_b, all)

  len_c : length (((a ++ b) ++ es) ++ c) ≡ 268
  unfolding c
  len_c = omega (arith, length-append ((a ++ b) ++ es) (little_bytes 4 front.free_slot), len_es, length-bytes_low_first 0 4 front.free_slot)

  len_d : length ((((a ++ b) ++ es) ++ c) ++ d) ≡ 272
  unfolding d
  len_d = omega (arith, length-append (((a ++ b) ++ es) ++ c) (little_bytes 4 front.free_page), len_c, length-bytes_low_first 0 4 front.free_page)

  len_e : length (((((a ++ b) ++ es) ++ c) ++ d) ++ e) ≡ 276
  unfolding e
  len_e = omega (arith, length-append ((((a ++ b) ++ es) ++ c) ++ d) (little_bytes 4 front.free_slots), len_d, length-bytes_low_first 0 4 front.free_slots)

  o3 : List ℕ
  o3 = drop 256 o2

  o4 : List ℕ
  o4 = drop 4 o3

  o5 : List ℕ
  o5 = drop 4 o4

  o6 : List ℕ
  o6 = drop 4 o5

  y3 : x3 ≡ ((a ++ b) ++ es) ++ o3
  unfolding o3
  y3 = (λ i. take 8 (y2 i) ++ (es ++ drop 256 (drop 8 (y2 i)))) ∙ next_put (a ++ b) o2 es 8 256 len_b

  y4 : x4 ≡ (((a ++ b) ++ es) ++ c) ++ o4
  unfolding c o4
  y4 = (λ i. take 264 (y3 i) ++ (number_put front.free_slot three r3 is3 i ++ drop 4 (drop 264 (y3 i)))) ∙ next_put ((a ++ b) ++ es) o3 c 264 4 len_es

  y5 : x5 ≡ ((((a ++ b) ++ es) ++ c) ++ d) ++ o5
  unfolding d o5
  y5 = (λ i. take 268 (y4 i) ++ (number_put front.free_page four r4 is4 i ++ drop 4 (drop 268 (y4 i)))) ∙ next_put (((a ++ b) ++ es) ++ c) o4 d 268 4 len_c

  y6 : x6 ≡ (((((a ++ b) ++ es) ++ c) ++ d) ++ e) ++ o6
  unfolding e o6
  y6 = (λ i. take 272 (y5 i) ++ (number_put front.free_slots five r5 is5 i ++ drop 4 (drop 272 (y5 i)))) ∙ next_put ((((a ++ b) ++ es) ++ c) ++ d) o5 e 272 4 len_d

  nothing : drop 4 o6 ≡ []
  unfolding o1 o2 o3 o4 o5 o6
  nothing = drop_all 4 o6 (omega (arith, long, length-drop 4 out, length-drop 4 o1, length-drop 256 o2, length-drop 4 o3, length-drop 4 o4, length-drop 4 o5))

  -- the pieces one after another
  flat : ((((((a ++ b) ++ es) ++ c) ++ d) ++ e) ++ f) ++ [] ≡ a ++ (b ++ (es ++ (c ++ (d ++ (e ++ f)))))
  flat =
      append-nil _ ∙ append_assoc ((((a ++ b) ++ es) ++ c) ++ d) e f ∙ append_assoc (((a ++ b) ++ es) ++ c) d (e ++ f) ∙ append_assoc ((a ++ b) ++ es) c (d ++ (e ++ f))
      ∙ append_assoc (a ++ b) es (c ++ (d ++ (e ++ f))) ∙ append_assoc a b (es ++ (c ++ (d ++ (e ++ f))))

  whole : a ++ (b ++ (front.entries ++ (c ++ (d ++ (e ++ f))))) ≡ part_bytes front
  unfolding a b c d e f part_bytes
  whole = refl

  last : take 276 x6 ++ (six ++ drop 4 (drop 276 x6)) ≡ ((((((a ++ b) ++ es) ++ c) ++ d) ++ e) ++ f) ++ drop 4 o6
  unfolding f
  last = (λ i. take 276 (y6 i) ++ (number_put front.free_pages six r6 is6 i ++ drop 4 (drop 276 (y6 i)))) ∙ next_put (((((a ++ b) ++ es) ++ c) ++ d) ++ e) o6 f 276 4 len_e

  pub part_written : take 276 x6 ++ (six ++ drop 4 (drop 276 x6)) ≡ part_bytes front
  part_written =
      last ∙ ap (λ (l : List ℕ). ((((((a ++ b) ++ es) ++ c) ++ d) ++ e) ++ f) ++ l) nothing ∙ flat
      ∙ ap (λ (l : List ℕ). a ++ (b ++ (l ++ (c ++ (d ++ (e ++ f)))))) entries ∙ whole
