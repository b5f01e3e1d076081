-- The image is that of a new array, and its rests follow one another.
use Rattle.std.proofs.Common.{◌≡◌, ℕ, zero, suc, ◌+◌, ◌-◌, ◌*◌, ◌/◌, ◌%◌, ◌<◌, ◌≤◌, List, [], ◌∷◌, ◌++◌, length, take, drop, replicate, refl, sym, ap, ◌∙◌, append_assoc, append-nil, get_or, mul_comm, arith}
use Rattle.std.proofs.lemmas.List.{drop-drop, drop_at, ext_get_or, length-append, length-replicate, take_at}
use Rattle.std.proofs.lemmas.Nat.{div-add-mod', div_below, mod_below}
use Rattle.mars_base.specs.Bytes.{range}
use Rattle.pcm_media.proofs.Ranges.{length-range, get_or-range}
use Rattle.array_shape.specs.declared.shape.Shape.{Shape}
use Rattle.array_shape.specs.Places.{data_at, media_len, page_count, place_of, region_len, row_at}
use Rattle.row_bytes.specs.Header.{header_bytes}
use Rattle.array_image.specs.Image.{data_of}
use Rattle.array_image.specs.Joined.{joined}
use Rattle.array_image.proofs.Data.{get_or-data_of, length-data_of}
use Rattle.array_image.proofs.Places.{place_fits_in, place_next}
use Rattle.eaw_device.specs.Made.{HasPages, HasRows, IsNew}
use Rattle.eaw_device.proofs.NewArrays.{is_new}
use Rattle.image_pieces.specs.Pieces.{IsNext, IsPlaced, bytes_of}
use Rattle.image_pieces.specs.declared.piece.Piece.{Piece}
use Rattle.image_pieces.specs.Image.{IsStage, front_len, image_of, left_of, page_of, place_of_stage, region_of, rest_of}
use Rattle.image_pieces.specs.declared.stages.Stage.{Stage}
use Rattle.image_pieces.specs.declared.stages.Stage.TheVariants.{Header, Region, Pages}

-- ---- lists of one length, joined

module _ (f : ℕ → List ℕ) (w : ℕ) (sized : (i : ℕ) → length (f i) ≡ w) where
  pub length-joined : (k n : ℕ) → length (joined f k n) ≡ n * w
  length-joined k zero = omega arith
  length-joined k (suc n) = omega (arith, length-append (f k) (joined f (k + 1) n), sized k, length-joined (k + 1) n)

  pub drop_joined : (i k n : ℕ) (more : List ℕ) → i ≤ n → drop (i * w) (joined f k n ++ more) ≡ joined f (k + i) (n - i) ++ more
  drop_joined zero k n more le =
      let none : 0 * w ≡ 0 = omega arith in
      let here : k ≡ k + 0 = omega arith in
      let all : n ≡ n - 0 = omega arith in
      ap (λ (m : ℕ). drop m (joined f k n ++ more)) none ∙ (λ i. joined f (here i) (all i) ++ more)
  drop_joined (suc i) k zero more le = absurd (omega (arith, le))
  drop_joined (suc i) k (suc n) more le =
      let far : suc i * w ≡ w + i * w = omega arith in
      let on : k + 1 + i ≡ k + suc i = omega arith in
      let less : n - i ≡ suc n - suc i = omega arith in
      ap (λ (m : ℕ). drop m (joined f k (suc n) ++ more)) far
      ∙ sym (drop-drop (i * w) w (joined f k (suc n) ++ more))
      ∙ ap (λ (l : List ℕ). drop (i * w) (drop w l)) (append_assoc (f k) (joined f (k + 1) n) more)
      ∙ ap (drop (i * w)) (drop_at (f k) (joined f (k + 1) n ++ more) w (sized k))
      ∙ drop_joined i (k + 1) n more (omega (arith, le))
      ∙ (λ j. joined f (on j) (less j) ++ more)

pub joined_head : {A : Type 0} (f : ℕ → List A) (k n : ℕ) → 0 < n → joined f k n ≡ f k ++ joined f (k + 1) (n - 1)
joined_head f k zero lt = absurd (omega (arith, lt))
joined_head {A = A} f k (suc n) lt = let e : n ≡ suc n - 1 = omega arith in ap (λ (m : ℕ). f k ++ joined f (k + 1) m) e

-- so many of them, and the others
pub joined_split : {A : Type 0} (f : ℕ → List A) (k m n : ℕ) → joined f k (m + n) ≡ joined f k m ++ joined f (k + m) n
joined_split f k zero n = let e : 0 + n ≡ n = omega arith in let h : k ≡ k + 0 = omega arith in (λ i. joined f (h i) (e i))
joined_split {A = A} f k (suc m) n =
    let e : suc m + n ≡ suc (m + n) = omega arith in
    let h : k + 1 + m ≡ k + suc m = omega arith in
    ap (joined f k) e ∙ ap (λ (l : List A). f k ++ l) (joined_split f (k + 1) m n)
    ∙ sym (append_assoc (f k) (joined f (k + 1) m) (joined f (k + 1 + m) n))
    ∙ ap (λ (i : ℕ). joined f k (suc m) ++ joined f i n) h

-- some of so many zeros
pub some_zeros : (h m n : ℕ) (more : List ℕ) → m + n ≤ h → take n (drop m (replicate h 0 ++ more)) ≡ replicate n 0
some_zeros h zero zero more le = refl
some_zeros zero zero (suc n) more le = absurd (omega (arith, le))
some_zeros (suc h) zero (suc n) more le = ap (λ (l : List ℕ). 0 ∷ l) (some_zeros h zero n more (omega (arith, le)))
some_zeros zero (suc m) n more le = absurd (omega (arith, le))
some_zeros (suc h) (suc m) n more le = some_zeros h m n more (omega (arith, le))

-- two parts of a number, times another
parts_of_all : (a b n w : ℕ) → a + b ≡ n → a * w + b * w ≡ n * w
parts_of_all a b n w is = let e : a * w + b * w ≡ (a + b) * w = omega arith in e ∙ ap (λ (m : ℕ). m * w) is

-- ---- the image

pub length-header_bytes : (shape : Shape) → length (header_bytes shape) ≡ 512
unfolding header_bytes
length-header_bytes shape = refl

module _ (shape : Shape) (said : ℕ → List ℕ) (sized : (page : ℕ) → length (said page) ≡ 512) where
  pub length-pages : (g k n : ℕ) → length (joined (page_of shape said g) k n) ≡ n * 512
  length-pages g k n = length-joined (page_of shape said g) 512 (λ i. sized (i * shape.loggers + g)) k n

  pub length-region : (g : ℕ) → length (region_of shape said g) ≡ region_len shape
  length-region g = omega (
    arith,
    length-append (replicate (front_len shape) 0) (joined (page_of shape said g) 0 shape.pages),
    length-replicate {A = ℕ} (front_len shape) 0,
    length-pages g 0 shape.pages,
  )

  pub length-regions : (g n : ℕ) → length (joined (region_of shape said) g n) ≡ n * region_len shape
  length-regions g n = length-joined (region_of shape said) (region_len shape) length-region g n

  pub length-image : length (image_of shape said) ≡ media_len shape
  length-image = omega (arith, length-append (header_bytes shape) (joined (region_of shape said) 0 shape.loggers), length-header_bytes shape, length-regions 0 shape.loggers)

  -- where a region begins
  at_region : (g : ℕ) → g < shape.loggers → drop (512 + g * region_len shape) (image_of shape said) ≡ region_of shape said g ++ joined (region_of shape said) (g + 1) (shape.loggers - g - 1)
  at_region g lt =
      let there : 0 + g ≡ g = omega arith in
      sym (drop-drop (g * region_len shape) 512 (image_of shape said))
      ∙ ap (drop (g * region_len shape)) (drop_at (header_bytes shape) (joined (region_of shape said) 0 shape.loggers) 512 (length-header_bytes shape) ∙ sym (append-nil (joined (region_of shape said) 0 shape.loggers)))
      ∙ drop_joined (region_of shape said) (region_len shape) length-region g 0 shape.loggers [] (omega (arith, lt))
      ∙ append-nil (joined (region_of shape said) (0 + g) (shape.loggers - g))
      ∙ ap (λ (k : ℕ). joined (region_of shape said) k (shape.loggers - g)) there
      ∙ joined_head (region_of shape said) g (shape.loggers - g) (omega (arith, lt))

  -- a page of a region
  at_page : (g k : ℕ) → g < shape.loggers → k < shape.pages → range (image_of shape said) (data_at shape g + 512 * k) 512 ≡ said (k * shape.loggers + g)
  at_page g k lt below =
      let zeros : List ℕ = replicate (front_len shape) 0 in
      let pages : List ℕ = joined (page_of shape said g) 0 shape.pages in
      let more : List ℕ = joined (region_of shape said) (g + 1) (shape.loggers - g - 1) in
      let far : data_at shape g + 512 * k ≡ 512 + g * region_len shape + (front_len shape + k * 512) = omega arith in
      let here : 0 + k ≡ k = omega arith in
      ap (λ (m : ℕ). range (image_of shape said) m 512) far
      ∙ ap (take 512) (sym (drop-drop (front_len shape + k * 512) (512 + g * region_len shape) (image_of shape said)))
      ∙ ap (λ (l : List ℕ). take 512 (drop (front_len shape + k * 512) l)) (at_region g lt)
      ∙ ap (take 512) (sym (drop-drop (k * 512) (front_len shape) (region_of shape said g ++ more)))
      ∙ ap (λ (l : List ℕ). take 512 (drop (k * 512) (drop (front_len shape) l))) (append_assoc zeros pages more)
      ∙ ap (λ (l : List ℕ). take 512 (drop (k * 512) l)) (drop_at zeros (pages ++ more) (front_len shape) (length-replicate {A = ℕ} (front_len shape) 0))
      ∙ ap (take 512) (drop_joined (page_of shape said g) 512 (λ i. sized (i * shape.loggers + g)) k 0 shape.pages more (omega (arith, below)))
      ∙ ap (λ (i : ℕ). take 512 (joined (page_of shape said g) i (shape.pages - k) ++ more)) here
      ∙ ap (λ (l : List ℕ). take 512 (l ++ more)) (joined_head (page_of shape said g) k (shape.pages - k) (omega (arith, below)))
      ∙ ap (take 512) (append_assoc (page_of shape said g k) (joined (page_of shape said g) (k + 1) (shape.pages - k - 1)) more)
      ∙ take_at (page_of shape said g k) (joined (page_of shape said g) (k + 1) (shape.pages - k - 1) ++ more) 512 (sized (k * shape.loggers + g))

  has_rows : HasRows shape shape.loggers (image_of shape said)
  has_rows g t lt below =
      let pages : List ℕ = joined (page_of shape said g) 0 shape.pages in
      let more : List ℕ = joined (region_of shape said) (g + 1) (shape.loggers - g - 1) in
      let far : row_at shape g t ≡ 512 + g * region_len shape + 16 * t = omega arith in
      ap (λ (m : ℕ). range (image_of shape said) m 16) far
      ∙ ap (take 16) (sym (drop-drop (16 * t) (512 + g * region_len shape) (image_of shape said)))
      ∙ ap (λ (l : List ℕ). take 16 (drop (16 * t) l)) (at_region g lt ∙ append_assoc (replicate (front_len shape) 0) pages more)
      ∙ some_zeros (front_len shape) (16 * t) 16 (pages ++ more) (omega (arith, below))

  -- a page of the data lies at its place
  page_read : (image : List ℕ) (p : ℕ) → length image ≡ media_len shape → p < page_count shape → range (data_of shape image) (512 * p) 512 ≡ range image (place_of shape (512 * p)) 512
  page_read image p long lt =
      let fits : place_of shape (512 * p) + 512 ≤ media_len shape =
      omega (arith, place_next shape (512 * p) 511 (omega arith), place_fits_in shape (512 * p + 511) (omega (arith, lt))) in
      let here = length-range image (place_of shape (512 * p)) 512 (omega (arith, long, fits)) in
      let there = length-range (data_of shape image) (512 * p) 512 (omega (arith, length-data_of shape image, lt)) in
      ext_get_or 0 (range (data_of shape image) (512 * p) 512) (range image (place_of shape (512 * p)) 512) (there ∙ sym here) (λ j below.
      let small : j < 512 = omega (arith, there, below) in
      get_or-range (data_of shape image) (512 * p) 512 j small
      ∙ get_or-data_of shape image (512 * p + j) (omega (arith, small, lt))
      ∙ ap (λ (k : ℕ). get_or image k 0) (place_next shape (512 * p) j (omega (arith, small)))
      ∙ sym (get_or-range image (place_of shape (512 * p)) 512 j small))

  has_pages : HasPages shape said (page_count shape) (image_of shape said)
  has_pages p lt =
      let g : ℕ = p % shape.loggers in
      let k : ℕ = p / shape.loggers in
      let some : 0 < shape.loggers = shape.in_range.some_loggers in
      let low : p % shape.loggers < shape.loggers = mod_below p shape.loggers some in
      let few : p / shape.loggers < shape.pages = div_below p shape.loggers shape.pages some (omega (arith, lt, mul_comm shape.pages shape.loggers)) in
      let number : 512 * p / 512 ≡ p = omega arith in
      let first : 512 * p % 512 ≡ 0 = omega arith in
      let place : place_of shape (512 * p) ≡ data_at shape (p % shape.loggers) + 512 * (p / shape.loggers) =
      (λ i. data_at shape (number i % shape.loggers) + (512 * (number i / shape.loggers) + first i)) ∙ omega arith in
      page_read (image_of shape said) p length-image lt
      ∙ ap (λ (m : ℕ). range (image_of shape said) m 512) place
      ∙ at_page (p % shape.loggers) (p / shape.loggers) low few
      ∙ ap said (div-add-mod' p shape.loggers)

  pub image_new : IsNew shape said (image_of shape said)
  image_new = is_new shape said (image_of shape said) length-image
      (take_at (header_bytes shape) (joined (region_of shape said) 0 shape.loggers) 512 (length-header_bytes shape))
      (record { rows = has_rows; pages = has_pages })

  -- ---- the rests

  -- what is left ends with the image
  pub ends : (stage : Stage) → IsStage shape stage → place_of_stage shape stage + length (left_of shape said stage) ≡ media_len shape
  ends Header is = let e : 0 + length (image_of shape said) ≡ length (image_of shape said) = omega arith in e ∙ length-image
  ends (Region g) is =
      let all : g * region_len shape + (shape.loggers - g) * region_len shape ≡ shape.loggers * region_len shape = parts_of_all g (shape.loggers - g) shape.loggers (region_len shape) (omega (arith, is)) in
      omega (arith, length-regions g (shape.loggers - g), all)
  ends (Pages g k) is =
      let all : g * region_len shape + suc (shape.loggers - (g + 1)) * region_len shape ≡ shape.loggers * region_len shape = parts_of_all g (suc (shape.loggers - (g + 1))) shape.loggers (region_len shape) (omega (arith, is.0)) in
      omega (
        arith,
        is.1,
        all,
        length-append (joined (page_of shape said g) k (shape.pages - k)) (joined (region_of shape said) (g + 1) (shape.loggers - (g + 1))),
        length-pages g k (shape.pages - k),
        length-regions (g + 1) (shape.loggers - (g + 1)),
      )

  -- a piece that is not empty, and what is left behind it
  pub next_of : (stage new : Stage) (piece : Piece) (out : List ℕ) → IsStage shape stage → IsStage shape new → left_of shape said stage ≡ bytes_of piece out ++ left_of shape said new
      → IsPlaced (place_of_stage shape stage) piece → 0 < length (bytes_of piece out) → IsNext (rest_of shape said stage) piece out (rest_of shape said new)
  next_of stage new piece out is is' bytes placed some =
      let long = ap length bytes ∙ length-append (bytes_of piece out) (left_of shape said new) in
      record { bytes = bytes; place = omega (arith, long, ends stage is, ends new is'); placed = placed; shorter = omega (arith, long, some) }

  -- so many pages of a logger, and those behind them
  pub pages_split : (g k n : ℕ) → k + n ≤ shape.pages → joined (page_of shape said g) k (shape.pages - k) ≡ joined (page_of shape said g) k n ++ joined (page_of shape said g) (k + n) (shape.pages - (k + n))
  pages_split g k n le =
      let all : shape.pages - k ≡ n + (shape.pages - (k + n)) = omega (arith, le) in
      ap (joined (page_of shape said g) k) all ∙ joined_split (page_of shape said g) k n (shape.pages - (k + n))
