-- The rows, cells and pages of an array lie on its medium, one behind another.
use Rattle.std.proofs.Common.{◌≡◌, ◌≢◌, ℕ, ◌+◌, ◌-◌, ◌*◌, ◌/◌, ◌%◌, ◌<◌, ◌≤◌, inl, inr, sym, ◌∙◌, ap, arith}
use Rattle.std.proofs.lemmas.Bool.{cases_order}
use Rattle.std.proofs.Math.Nat.{mul-le-mul_right, mod-lt, div-add-mod'}
use Rattle.std.proofs.lemmas.Nat.{div_below}
use Rattle.array_shape.specs.declared.shape.Shape.{Shape}
use Rattle.array_shape.specs.Places.{region_len, region_at, media_len, row_at, cell_at, data_at, data_len, logger_of, place_of, IsPlaced}
use Rattle.array_shape.specs.Areas.{Area, row, cell, page, HasArea, area_at, area_len, IsInMedia, AreApart}

module _ (shape : Shape) where
  -- within a region
  pub row_end : (g t : ℕ) → t < shape.numbers → row_at shape g t + 16 ≤ region_at shape g + 16 * shape.numbers
  row_end g t lt = omega arith

  pub cells_in_order : (g t e u f : ℕ) → e < shape.entries → t < u → cell_at shape g t e + 528 ≤ cell_at shape g u f
  cells_in_order g t e u f lt below =
      let rows : (t + 1) * shape.entries ≤ u * shape.entries = mul-le-mul_right shape.entries (omega arith) in
      omega arith

  pub cell_end : (g t e : ℕ) → t < shape.numbers → e < shape.entries → cell_at shape g t e + 528 ≤ data_at shape g
  cell_end g t e lt lt' =
      let rows : (t + 1) * shape.entries ≤ shape.numbers * shape.entries = mul-le-mul_right shape.entries (omega arith) in
      omega arith

  pub data_end : (g : ℕ) → data_at shape g + 512 * shape.pages ≡ region_at shape (g + 1)
  data_end g = omega arith

  -- one region after another
  pub region_end : (g h : ℕ) → g < h → region_at shape (g + 1) ≤ region_at shape h
  region_end g h lt =
      let regions : (g + 1) * region_len shape ≤ h * region_len shape = mul-le-mul_right (region_len shape) (omega arith) in
      omega arith

  pub region_fits : (g : ℕ) → g < shape.loggers → region_at shape (g + 1) ≤ media_len shape
  region_fits g lt = region_end g shape.loggers lt

  -- every area lies in the region of its logger
  abbrev logger_of_area : Area → ℕ
  logger_of_area (row g t) = g
  logger_of_area (cell g t e) = g
  logger_of_area (page g i) = g

  area_start : (a : Area) → region_at shape (logger_of_area a) ≤ area_at shape a
  area_start (row g t) = omega arith
  area_start (cell g t e) = omega arith
  area_start (page g i) = omega arith

  area_end : (a : Area) → HasArea shape a → area_at shape a + area_len a ≤ region_at shape (logger_of_area a + 1)
  area_end (row g t) has = omega (arith, row_end g t has.1, data_end g)
  area_end (cell g t e) has = omega (arith, cell_end g t e has.1 has.2, data_end g)
  area_end (page g i) has = omega (arith, data_end g, has.1)

  area_in_media : (a : Area) → HasArea shape a → area_at shape a + area_len a ≤ media_len shape
  area_in_media (row g t) has = omega (arith, area_end (row g t) has, region_fits g has.0)
  area_in_media (cell g t e) has = omega (arith, area_end (cell g t e) has, region_fits g has.0)
  area_in_media (page g i) has = omega (arith, area_end (page g i) has, region_fits g has.0)

  pub areas_inside : (a : Area) → HasArea shape a → IsInMedia shape a
  areas_inside a has = record { behind = omega (arith, area_start a); within = area_in_media a has }

  pub regions_apart : (a b : Area) → HasArea shape a → HasArea shape b → logger_of_area a < logger_of_area b → area_at shape a + area_len a ≤ area_at shape b
  regions_apart a b has has' lt = omega (arith, area_end a has, region_end (logger_of_area a) (logger_of_area b) lt, area_start b)

  -- rows before cells before pages, and each kind in its order
  apart_here : (a b : Area) → HasArea shape a → HasArea shape b → logger_of_area a ≡ logger_of_area b → a ≢ b → AreApart shape a b
  apart_here (row g t) (row h u) has has' same ne = elim (cases_order t u) [
    | inl is ↦ absurd (ne (λ i. row (same i) (is i)))
    | inr (inl lt) ↦ inl (omega (arith, ap (region_at shape) same))
    | inr (inr lt) ↦ inr (omega (arith, ap (region_at shape) same))
  ]
  apart_here (row g t) (cell h u f) has has' same ne = inl (omega (arith, row_end g t has.1, ap (region_at shape) same))
  apart_here (row g t) (page h j) has has' same ne = inl (omega (arith, row_end g t has.1, ap (region_at shape) same))
  apart_here (cell g t e) (row h u) has has' same ne = inr (omega (arith, row_end h u has'.1, ap (region_at shape) same))
  apart_here (cell g t e) (cell h u f) has has' same ne = elim (cases_order t u) [
    | inl is ↦ elim (cases_order e f) [
      | inl is' ↦ absurd (ne (λ i. cell (same i) (is i) (is' i)))
      | inr (inl lt) ↦ inl (omega (arith, ap (region_at shape) same, ap (λ (k : ℕ). k * shape.entries) is))
      | inr (inr lt) ↦ inr (omega (arith, ap (region_at shape) same, ap (λ (k : ℕ). k * shape.entries) is))
    ]
    | inr (inl lt) ↦ inl (omega (arith, ap (region_at shape) same, cells_in_order g t e u f has.2 lt))
    | inr (inr lt) ↦ inr (omega (arith, ap (region_at shape) same, cells_in_order h u f t e has'.2 lt))
  ]
  apart_here (cell g t e) (page h j) has has' same ne = inl (omega (arith, cell_end g t e has.1 has.2, ap (data_at shape) same))
  apart_here (page g i) (row h u) has has' same ne = inr (omega (arith, row_end h u has'.1, ap (region_at shape) same))
  apart_here (page g i) (cell h u f) has has' same ne = inr (omega (arith, cell_end h u f has'.1 has'.2, ap (data_at shape) same))
  apart_here (page g i) (page h j) has has' same ne = elim (cases_order i j) [
    | inl is ↦ absurd (ne (λ k. page (same k) (is k)))
    | inr (inl lt) ↦ inl (omega (arith, ap (data_at shape) same))
    | inr (inr lt) ↦ inr (omega (arith, ap (data_at shape) same))
  ]

  pub areas_apart : (a b : Area) → HasArea shape a → HasArea shape b → a ≢ b → AreApart shape a b
  areas_apart a b has has' ne = elim (cases_order (logger_of_area a) (logger_of_area b)) [
    | inl same ↦ apart_here a b has has' same ne
    | inr (inl lt) ↦ inl (regions_apart a b has has' lt)
    | inr (inr lt) ↦ inr (regions_apart b a has' has lt)
  ]

  -- the data
  pub page_below : (a : ℕ) → a < data_len shape → a / 512 / shape.loggers < shape.pages
  page_below a lt = div_below (a / 512) shape.loggers shape.pages (omega arith) (omega arith)

  pub logger_below : (a : ℕ) → logger_of shape a < shape.loggers
  logger_below a = mod-lt (a / 512) (omega arith)

  pub place_start : (a : ℕ) → data_at shape (logger_of shape a) ≤ place_of shape a
  place_start a = omega arith

  pub place_end : (a : ℕ) → a < data_len shape → place_of shape a < region_at shape (logger_of shape a + 1)
  place_end a lt = omega (arith, page_below a lt, data_end (logger_of shape a))

  pub place_below : (a : ℕ) → a < data_len shape → place_of shape a < media_len shape
  place_below a lt = omega (arith, place_end a lt, region_fits (logger_of shape a) (logger_below a))

  -- within a page the places are in a row
  pub place_along : (a k : ℕ) → a % 512 + k < 512 → place_of shape (a + k) ≡ place_of shape a + k
  place_along a k lt =
      let same : (a + k) / 512 ≡ a / 512 = omega arith in
      let logger = ap (λ (p : ℕ). data_at shape (p % shape.loggers) + 512 * (p / shape.loggers)) same in
      omega arith

  -- a range within a page lies on the medium as it does in the data
  pub placed_fits : (a n : ℕ) → IsPlaced shape a n → place_of shape a + n ≤ media_len shape
  placed_fits a n placed = omega (arith, place_along a (n - 1) (omega arith), place_below (a + (n - 1)) (omega arith))

  pub place_injective : (a b : ℕ) → a < data_len shape → b < data_len shape → place_of shape a ≡ place_of shape b → a ≡ b
  place_injective a b lt lt' same = elim (cases_order (logger_of shape a) (logger_of shape b)) [
    | inl is ↦
        (let base = ap (data_at shape) is in
        let nth : a / 512 / shape.loggers ≡ b / 512 / shape.loggers = omega arith in
        let page : a / 512 ≡ b / 512 =
        sym (div-add-mod' (a / 512) shape.loggers) ∙ (λ i. nth i * shape.loggers + is i) ∙ div-add-mod' (b / 512) shape.loggers in
        omega arith)
    | inr (inl below) ↦ absurd (omega (arith, place_end a lt, region_end (logger_of shape a) (logger_of shape b) below, place_start b))
    | inr (inr below) ↦ absurd (omega (arith, place_end b lt', region_end (logger_of shape b) (logger_of shape a) below, place_start a))
  ]
