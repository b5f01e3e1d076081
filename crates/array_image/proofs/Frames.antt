-- Images that differ in votes or in data alone.
use Rattle.std.proofs.Common.{◌≡◌, ◌≢◌, ℕ, ◌+◌, ◌<◌, ◌≤◌, Bool, true, false, cond, List, [], ◌∷◌, length, refl, sym, ◌∙◌, arith}
use Rattle.std.proofs.lemmas.Bool.{false≢true}
use Rattle.pcm_media.specs.Images.{Content, MayLeave, SameOutside, IsOutside, partly}
use Rattle.pcm_media.proofs.Left.{before_write, touched_by_loss, outside-both}
use Rattle.array_shape.specs.declared.shape.Shape.{Shape}
use Rattle.array_shape.specs.Places.{row_at, place_of}
use Rattle.array_shape.specs.Logged.{Part, AllPlaced, places_of}
use Rattle.array_image.specs.Image.{data_of, row_of}
use Rattle.array_image.specs.Standing.{SameCells, AllSettled}
use Rattle.array_image.proofs.Joined.{outside_joined}
use Rattle.array_image.proofs.Places.{same_row, row_no_cell, row_no_data, cell_no_data}
use Rattle.array_image.proofs.Data.{data_away, outside_data}
use Rattle.array_image.proofs.Rows.{cell_away, SameRest, voted_same, rest_same, row_away}
use Rattle.array_image.specs.Votes.{votes_of}

pub chosen_outside : (b : Bool) (r : ℕ × ℕ) (x : ℕ) → (b ≡ true → IsOutside (r ∷ []) x) → IsOutside (cond b (r ∷ []) []) x
chosen_outside true r x f = f refl
chosen_outside false r x f = tt

module _ (shape : Shape) where
  pub votes_away : (test : ℕ → ℕ → Bool) (x : ℕ) → ((g t : ℕ) → g < shape.loggers → t < shape.numbers → test g t ≡ true → x ≢ row_at shape g t) → IsOutside (votes_of shape test) x
  votes_away test x out = outside_joined _ x 0 shape.numbers (λ t le lt. outside_joined _ x 0 shape.loggers (λ g le' lt'.
      chosen_outside (test g t) (row_at shape g t, 1) x (λ so. ((λ from below. out g t (omega arith) (omega arith) so (omega arith)), tt))))

  -- if only the votes of some rows differ
  module _ (test : ℕ → ℕ → Bool) (old new : List ℕ) (same : SameOutside (votes_of shape test) old new) where
    pub torn_cells : SameCells shape old new
    torn_cells g t e lt lt' lt'' = cell_away shape (votes_of shape test) old new g t e same (λ i from to. votes_away test i (λ h u below below' so is. row_no_cell shape h g u t e i below' lt' lt'' (omega arith) (omega arith) from to))

    pub torn_data : data_of shape new ≡ data_of shape old
    torn_data = data_away shape (votes_of shape test) old new same (λ addr lt. votes_away test (place_of shape addr) (λ h u below below' so is. row_no_data shape h u addr (place_of shape addr) below' lt (omega arith) (omega arith) refl))

    pub torn_rest : (g t : ℕ) → g < shape.loggers → t < shape.numbers → SameRest (row_of shape old g t) (row_of shape new g t)
    torn_rest g t lt lt' = rest_same shape old new g t (λ k le below. same.same (row_at shape g t + k) (votes_away test (row_at shape g t + k) (λ h u small small' so is.
        let one = same_row shape g h t u (row_at shape h u) lt' small' (omega arith) (omega arith) (omega arith) (omega arith) in
        differ g h t u k one.0 one.1 le is)))
      where
        differ : (g h t u k : ℕ) → g ≡ h → t ≡ u → 1 ≤ k → row_at shape g t + k ≡ row_at shape h u → ⊥
        differ g h t u k is is' le at = let e : row_at shape g t ≡ row_at shape h u = (λ i. row_at shape (is i) (is' i)) in omega (arith, e)

    pub torn_kept : (g t : ℕ) → g < shape.loggers → t < shape.numbers → test g t ≡ false → (row_of shape new g t).voted ≡ (row_of shape old g t).voted
    torn_kept g t lt lt' away = voted_same shape old new g t (same.same (row_at shape g t) (votes_away test (row_at shape g t) (λ h u small small' so is.
        let one = same_row shape g h t u (row_at shape h u) lt' small' (omega arith) (omega arith) (omega arith) (omega arith) in
        false≢true (sym away ∙ (λ i. test (one.0 i) (one.1 i)) ∙ so))))

  -- if only data differs
  module _ (ps : List Part) (placed : AllPlaced shape ps) (old new : List ℕ) (same : SameOutside (places_of shape ps) old new) where
    pub data_rows : (g t : ℕ) → t < shape.numbers → row_of shape new g t ≡ row_of shape old g t
    data_rows g t lt = row_away shape (places_of shape ps) old new g t same (λ i from below. outside_data shape ps i placed (λ addr small is. row_no_data shape g t addr i lt small from below is))

    pub data_cells : SameCells shape old new
    data_cells g t e lt below below' = cell_away shape (places_of shape ps) old new g t e same (λ i from to. outside_data shape ps i placed (λ addr small is. cell_no_data shape g t e addr i below below' small from to is))

-- an image that was left before writes in these ranges, and is this one outside them
pub record BeforeAll (old : Content) (ranges : List (ℕ × ℕ)) (image : List ℕ) : Type 0 where
  pub earlier : List ℕ
  pub left : MayLeave old earlier
  pub same : SameOutside ranges earlier image

abbrev pub AllWithin : ℕ → List (ℕ × ℕ) → Type 0
AllWithin size [] = Unit {0}
AllWithin size (r ∷ rs) = (r.0 + r.1 ≤ size) × AllWithin size rs

pub before_all : (old : Content) (ranges : List (ℕ × ℕ)) (image : List ℕ) → AllWithin (length old.bytes) ranges → MayLeave (partly ranges old) image → BeforeAll old ranges image
before_all old [] image within left = record { earlier = image; left = left; same = record { long = refl; same = λ i out. refl } }
before_all old (r ∷ rs) image within left =
    let mid = partly rs old in
    let before = before_write mid (partly (r ∷ rs) old) r.0 r.1 within.0 (touched_by_loss mid r.0 r.1) image left in
    let rest = before_all old rs before.earlier within.1 before.left in
    record {
      earlier = rest.earlier;
      left = rest.left;
      same = record { long = before.same.long ∙ rest.same.long; same = λ i out. before.same.same i (out.0, tt) ∙ rest.same.same i out.1 };
    }

-- if nothing was unsettled before them
pub left_sure : (old : Content) (ranges : List (ℕ × ℕ)) (image : List ℕ) → AllSettled old → MayLeave (partly ranges old) image → SameOutside ranges old.bytes image
left_sure old ranges image sure left = record { long = left.long; same = λ i out. left.same i (outside-both ranges old.unsettled i out (sure i)) }
