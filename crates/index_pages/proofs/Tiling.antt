-- Pieces that tile a range of keys.
use Rattle.std.proofs.Common.{◌≡◌, ℕ, zero, suc, ◌<◌, ◌≤◌, inl, inr, List, [], ◌∷◌, ◌++◌, length, take, drop, Option, refl, sym, ◌∙◌, ap, subst, arith, append_assoc}
use Rattle.std.proofs.lemmas.List.{take-append-drop, append-nil, length-drop}
use Rattle.std.proofs.lemmas.Bool.{cases_lt}
use Rattle.index_pages.proofs.Rising.{next-append, next-head, next-right, take_rises, drop_rises, key_at-bounds, rise_append, found-left, found-right, inserted-left, inserted-right}
use Rattle.index_pages.specs.Keys.{key_at, or_else, head}
use Rattle.index_pages.specs.Pieces.{Piece, joined, low_of, Tile, piece_at, low_at, IsIn, with_piece, cut_at}
use Rattle.index_pages.specs.Ways.{above}
use Rattle.page_store.specs.Pairs.{Pair, Rise, found, next, inserted}

pub tile_bounds : (low high : ℕ) (pieces : List Piece) → Tile low high pieces → low ≤ high
tile_bounds low high [] t = omega arith
tile_bounds low high (p ∷ ps) t = let h = tile_bounds (low_of ps high) high ps t.3 in omega arith

-- all pairs of pieces that tile a range rise
pub joined_rises : (low high : ℕ) (pieces : List Piece) → Tile low high pieces → Rise low high (joined pieces)
joined_rises low high [] t = omega arith
joined_rises low high (p ∷ ps) t = rise_append low (low_of ps high) high p.1 (joined ps) t.2 (joined_rises (low_of ps high) high ps t.3)

-- where a piece begins lies in the range
pub low_at-bounds : (low high : ℕ) (pieces : List Piece) (i : ℕ) → Tile low high pieces → low ≤ low_at pieces high i
low_at-bounds low high [] zero t = omega arith
low_at-bounds low high [] (suc i) t = omega arith
low_at-bounds low high (p ∷ ps) zero t = omega arith
low_at-bounds low high (p ∷ ps) (suc i) t = let h = low_at-bounds (low_of ps high) high ps i t.3 in omega arith

-- a key is found in the piece whose range it lies in
pub found_in_piece : (low high key : ℕ) (pieces : List Piece) (i : ℕ) → Tile low high pieces → IsIn pieces high i key → found (joined pieces) key ≡ found (piece_at pieces i) key
found_in_piece low high key [] i t in_i = absurd (omega (arith, in_i.is_piece))
found_in_piece low high key (p ∷ ps) zero t in_i =
    found-left low (low_of ps high) high key p.1 (joined ps) t.2 (joined_rises (low_of ps high) high ps t.3) in_i.below
found_in_piece low high key (p ∷ ps) (suc i) t in_i =
    let tail : IsIn ps high i key = record { is_piece = omega (arith, in_i.is_piece); from = in_i.from; below = in_i.below } in
    let b = low_at-bounds (low_of ps high) high ps i t.3 in
    found-right low (low_of ps high) key p.1 (joined ps) t.2 (omega (arith, in_i.from)) ∙ found_in_piece (low_of ps high) high key ps i t.3 tail

-- each key of the range lies in the range of a piece
pub in_a_piece : (low high key : ℕ) (pieces : List Piece) → Tile low high pieces → low ≤ key → key < high → (i : ℕ) × IsIn pieces high i key
in_a_piece low high key [] t le lt = absurd (omega arith)
in_a_piece low high key (p ∷ ps) t le lt =
    elim (cases_lt key (low_of ps high)) [
      | inl below ↦ (0, record { is_piece = omega arith; from = omega arith; below = below })
      | inr above ↦
          let rest = in_a_piece (low_of ps high) high key ps t.3 above lt in
          (suc rest.0, record { is_piece = omega (arith, rest.1.is_piece); from = rest.1.from; below = rest.1.below })
    ]

-- and of one alone
pub in_one_piece : (low high key : ℕ) (pieces : List Piece) (i j : ℕ) → Tile low high pieces → IsIn pieces high i key → IsIn pieces high j key → i ≡ j
in_one_piece low high key [] i j t a b = absurd (omega (arith, a.is_piece))
in_one_piece low high key (p ∷ ps) zero zero t a b = refl
in_one_piece low high key (p ∷ ps) zero (suc j) t a b = let h = low_at-bounds (low_of ps high) high ps j t.3 in absurd (omega (arith, a.below, b.from))
in_one_piece low high key (p ∷ ps) (suc i) zero t a b = let h = low_at-bounds (low_of ps high) high ps i t.3 in absurd (omega (arith, b.below, a.from))
in_one_piece low high key (p ∷ ps) (suc i) (suc j) t a b =
    ap suc (in_one_piece (low_of ps high) high key ps i j t.3
    (record { is_piece = omega (arith, a.is_piece); from = a.from; below = a.below })
    (record { is_piece = omega (arith, b.is_piece); from = b.from; below = b.below }))

-- a pair inserted in the piece whose range its key lies in is inserted in the whole
pub inserted_in_piece : (low high key to : ℕ) (pieces : List Piece) (i : ℕ) → Tile low high pieces → IsIn pieces high i key
    → inserted (joined pieces) key to ≡ joined (with_piece pieces i (inserted (piece_at pieces i) key to))
inserted_in_piece low high key to [] i t in_i = absurd (omega (arith, in_i.is_piece))
inserted_in_piece low high key to (p ∷ ps) zero t in_i =
    inserted-left (low_of ps high) high key to p.1 (joined ps) (joined_rises (low_of ps high) high ps t.3) in_i.below
inserted_in_piece low high key to (p ∷ ps) (suc i) t in_i =
    let tail : IsIn ps high i key = record { is_piece = omega (arith, in_i.is_piece); from = in_i.from; below = in_i.below } in
    let b = low_at-bounds (low_of ps high) high ps i t.3 in
    inserted-right low (low_of ps high) key to p.1 (joined ps) t.2 (omega (arith, in_i.from))
    ∙ ap (λ (l : List Pair). p.1 ++ l) (inserted_in_piece (low_of ps high) high key to ps i t.3 tail)

-- other pairs within the range of a piece
low_of-with : (high : ℕ) (pieces : List Piece) (i : ℕ) (pairs : List Pair) → low_of (with_piece pieces i pairs) high ≡ low_of pieces high
low_of-with high [] i pairs = refl
low_of-with high (p ∷ ps) zero pairs = refl
low_of-with high (p ∷ ps) (suc i) pairs = refl

pub piece_rises : (low high : ℕ) (pieces : List Piece) (i : ℕ) → Tile low high pieces → i < length pieces → Rise (low_at pieces high i) (low_at pieces high (suc i)) (piece_at pieces i)
piece_rises low high [] i t lt = absurd (omega arith)
piece_rises low high (p ∷ ps) zero t lt = subst (λ (l : ℕ). Rise l (low_of ps high) p.1) (sym t.0) t.2
piece_rises low high (p ∷ ps) (suc i) t lt = piece_rises (low_of ps high) high ps i t.3 (omega arith)

pub with_piece-tiles : (low high : ℕ) (pieces : List Piece) (i : ℕ) (pairs : List Pair) → Tile low high pieces → i < length pieces
    → Rise (low_at pieces high i) (low_at pieces high (suc i)) pairs → Tile low high (with_piece pieces i pairs)
with_piece-tiles low high [] i pairs t lt r = absurd (omega arith)
with_piece-tiles low high (p ∷ ps) zero pairs t lt r = (t.0, t.1, subst (λ (l : ℕ). Rise l (low_of ps high) pairs) t.0 r, t.3)
with_piece-tiles low high (p ∷ ps) (suc i) pairs t lt r =
    let rest = with_piece-tiles (low_of ps high) high ps i pairs t.3 (omega arith) r in
    rw (low_of-with high ps i pairs) (t.0, t.1, t.2, rest)

-- a piece in two
pub cut_at-joined : (pieces : List Piece) (i : ℕ) (left : List Pair) (low : ℕ) (right : List Pair) → left ++ right ≡ piece_at pieces i
    → joined (cut_at pieces i left low right) ≡ joined pieces
cut_at-joined [] i left low right e = refl
cut_at-joined (p ∷ ps) zero left low right e = sym (append_assoc left right (joined ps)) ∙ ap (λ (l : List Pair). l ++ joined ps) e
cut_at-joined (p ∷ ps) (suc i) left low right e = ap (λ (l : List Pair). p.1 ++ l) (cut_at-joined ps i left low right e)

low_of-cut : (high : ℕ) (pieces : List Piece) (i : ℕ) (left : List Pair) (low : ℕ) (right : List Pair) → low_of (cut_at pieces i left low right) high ≡ low_of pieces high
low_of-cut high [] i left low right = refl
low_of-cut high (p ∷ ps) zero left low right = refl
low_of-cut high (p ∷ ps) (suc i) left low right = refl

pub cut_at-tiles : (low high : ℕ) (pieces : List Piece) (i : ℕ) (left : List Pair) (mid : ℕ) (right : List Pair) → Tile low high pieces → i < length pieces
    → low_at pieces high i < mid → mid < low_at pieces high (suc i)
    → Rise (low_at pieces high i) mid left → Rise mid (low_at pieces high (suc i)) right → Tile low high (cut_at pieces i left mid right)
cut_at-tiles low high [] i left mid right t lt a b r s = absurd (omega arith)
cut_at-tiles low high (p ∷ ps) zero left mid right t lt a b r s = (t.0, omega arith, subst (λ (l : ℕ). Rise l mid left) t.0 r, (refl, b, s, t.3))
cut_at-tiles low high (p ∷ ps) (suc i) left mid right t lt a b r s =
    let rest = cut_at-tiles (low_of ps high) high ps i left mid right t.3 (omega arith) a b r s in
    rw (low_of-cut high ps i left mid right) (t.0, t.1, t.2, rest)

-- the first n pieces and the rest
pub joined-append : (xs ys : List Piece) → joined (xs ++ ys) ≡ joined xs ++ joined ys
joined-append [] ys = refl
joined-append (x ∷ xs) ys = ap (λ (l : List Pair). x.1 ++ l) (joined-append xs ys) ∙ sym (append_assoc x.1 (joined xs) (joined ys))

pub joined-split : (n : ℕ) (pieces : List Piece) → joined (take n pieces) ++ joined (drop n pieces) ≡ joined pieces
joined-split zero pieces = refl
joined-split (suc n) [] = refl
joined-split (suc n) (p ∷ ps) = append_assoc p.1 (joined (take n ps)) (joined (drop n ps)) ∙ ap (λ (l : List Pair). p.1 ++ l) (joined-split n ps)

low_of-take : (n mid high : ℕ) (pieces : List Piece) → mid ≡ low_at pieces high n → low_of (take n pieces) mid ≡ low_of pieces high
low_of-take zero mid high pieces e = e
low_of-take (suc n) mid high [] e = e
low_of-take (suc n) mid high (p ∷ ps) e = refl

pub take_tiles : (low high n : ℕ) (pieces : List Piece) → Tile low high pieces → Tile low (low_at pieces high n) (take n pieces)
take_tiles low high zero [] t = t
take_tiles low high zero (p ∷ ps) t = sym t.0
take_tiles low high (suc n) [] t = t
take_tiles low high (suc n) (p ∷ ps) t =
    let rest = take_tiles (low_of ps high) high n ps t.3 in
    rw (low_of-take n (low_at ps high n) high ps refl) (t.0, t.1, t.2, rest)

pub drop_tiles : (low high n : ℕ) (pieces : List Piece) → Tile low high pieces → Tile (low_at pieces high n) high (drop n pieces)
drop_tiles low high zero [] t = refl
drop_tiles low high zero (p ∷ ps) t = (refl, subst (λ (l : ℕ). l < low_of ps high) (sym t.0) t.1, subst (λ (l : ℕ). Rise l (low_of ps high) p.1) (sym t.0) t.2, t.3)
drop_tiles low high (suc n) [] t = refl
drop_tiles low high (suc n) (p ∷ ps) t = drop_tiles (low_of ps high) high n ps t.3

-- piece i cut before its pair n, which is not its first
pub leaf_split : (low high n i : ℕ) (pieces : List Piece) → Tile low high pieces → i < length pieces → 0 < n → n < length (piece_at pieces i)
    → let pairs = piece_at pieces i in let new = cut_at pieces i (take n pairs) (key_at pairs n) (drop n pairs) in (joined new ≡ joined pieces) × Tile low high new
leaf_split low high n i pieces t lt some less =
    let r = piece_rises low high pieces i t lt in
    let b = key_at-bounds n (low_at pieces high i) (low_at pieces high (suc i)) (piece_at pieces i) less r in (
      cut_at-joined pieces i (take n (piece_at pieces i)) (key_at (piece_at pieces i) n) (drop n (piece_at pieces i)) (take-append-drop n (piece_at pieces i)),
      cut_at-tiles low high pieces i (take n (piece_at pieces i)) (key_at (piece_at pieces i) n) (drop n (piece_at pieces i)) t lt (omega arith) b.1
          (take_rises n (low_at pieces high i) (low_at pieces high (suc i)) (piece_at pieces i) less r)
          (drop_rises n (low_at pieces high i) (low_at pieces high (suc i)) (piece_at pieces i) less r),
    )

wide : (low high : ℕ) (pieces : List Piece) → 1 ≤ length pieces → Tile low high pieces → low < high
wide low high [] some t = absurd (omega arith)
wide low high (p ∷ ps) some t = let h = tile_bounds (low_of ps high) high ps t.3 in omega arith

-- where a later piece begins
low_at-more : (low high n : ℕ) (pieces : List Piece) → Tile low high pieces → 0 < n → n < length pieces → (low < low_at pieces high n) × (low_at pieces high n < high)
low_at-more low high n [] t some less = absurd (omega arith)
low_at-more low high zero (p ∷ ps) t some less = absurd (omega arith)
low_at-more low high (suc n) (p ∷ ps) t some less =
    let b = low_at-bounds (low_of ps high) high ps n t.3 in
    let d = drop_tiles (low_of ps high) high n ps t.3 in
    let w = wide (low_at ps high n) high (drop n ps) (omega (arith, length-drop n ps)) d in
    (omega arith, w)

-- pieces below a piece, of which the first n stay there and the others go to a piece of their own
pub inner_split : (low high n i : ℕ) (pieces below : List Piece) → Tile low high pieces → i < length pieces
    → Tile (low_at pieces high i) (low_at pieces high (suc i)) below → joined below ≡ piece_at pieces i → 0 < n → n < length below
    → let mid = low_at below (low_at pieces high (suc i)) n in let new = cut_at pieces i (joined (take n below)) mid (joined (drop n below)) in
    (joined new ≡ joined pieces) × Tile low high new
inner_split low high n i pieces below t lt u e some less =
    let end : ℕ = low_at pieces high (suc i) in
    let mid : ℕ = low_at below end n in
    let m = low_at-more (low_at pieces high i) end n below u some less in
    let left = joined_rises (low_at pieces high i) mid (take n below) (take_tiles (low_at pieces high i) end n below u) in
    let right = joined_rises mid end (drop n below) (drop_tiles (low_at pieces high i) end n below u) in (
      cut_at-joined pieces i (joined (take n below)) mid (joined (drop n below)) (joined-split n below ∙ e),
      cut_at-tiles low high pieces i (joined (take n below)) mid (joined (drop n below)) t lt m.0 m.1 left right,
    )

-- pieces in two halves under a new root
pub root_split : (low high n : ℕ) (pieces : List Piece) → Tile low high pieces → 0 < n → n < length pieces
    → let mid = low_at pieces high n in let new : List Piece = (low, joined (take n pieces)) ∷ (mid, joined (drop n pieces)) ∷ [] in
    (joined new ≡ joined pieces) × Tile low high new
root_split low high n pieces t some less =
    let mid : ℕ = low_at pieces high n in
    let m = low_at-more low high n pieces t some less in
    let left = joined_rises low mid (take n pieces) (take_tiles low high n pieces t) in
    let right = joined_rises mid high (drop n pieces) (drop_tiles low high n pieces t) in (
      ap (λ (l : List Pair). joined (take n pieces) ++ l) (append-nil (joined (drop n pieces))) ∙ joined-split n pieces,
      (refl, m.0, left, (refl, m.1, right, refl)),
    )

-- the same of a root that is a leaf
pub root_leaf_split : (low high n : ℕ) (pairs : List Pair) → Rise low high pairs → 0 < n → n < length pairs
    → let mid = key_at pairs n in let new : List Piece = (low, take n pairs) ∷ (mid, drop n pairs) ∷ [] in (joined new ≡ pairs) × Tile low high new
root_leaf_split low high n pairs r some less =
    let b = key_at-bounds n low high pairs less r in (
      ap (λ (l : List Pair). take n pairs ++ l) (append-nil (drop n pairs)) ∙ take-append-drop n pairs,
      (refl, omega arith, take_rises n low high pairs less r, (refl, b.1, drop_rises n low high pairs less r, refl)),
    )

-- the next pair from a key on is in the key's piece, or else is the first after that piece
pub next_in_piece : (low high from : ℕ) (pieces : List Piece) (i : ℕ) → Tile low high pieces → IsIn pieces high i from
    → next (joined pieces) from ≡ or_else (next (piece_at pieces i) from) (head (joined (drop (suc i) pieces)))
next_in_piece low high from [] i t in_i = absurd (omega (arith, in_i.is_piece))
next_in_piece low high from (p ∷ ps) zero t in_i =
    next-append from p.1 (joined ps)
    ∙ ap (λ (o : Option Pair). or_else (next p.1 from) o) (next-head (low_of ps high) high from (joined ps) (joined_rises (low_of ps high) high ps t.3) (omega (arith, in_i.below)))
next_in_piece low high from (p ∷ ps) (suc i) t in_i =
    let tail : IsIn ps high i from = record { is_piece = omega (arith, in_i.is_piece); from = in_i.from; below = in_i.below } in
    let b = low_at-bounds (low_of ps high) high ps i t.3 in
    next-right low (low_of ps high) from p.1 (joined ps) t.2 (omega (arith, in_i.from)) ∙ next_in_piece (low_of ps high) high from ps i t.3 tail
