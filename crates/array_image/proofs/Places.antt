-- No two places of an array meet.
use Rattle.std.proofs.Common.{◌≡◌, ℕ, zero, suc, ◌+◌, ◌-◌, ◌*◌, ◌/◌, ◌%◌, ◌<◌, ◌≤◌, sym, ◌∙◌, arith, mul_comm}
use Rattle.std.proofs.lemmas.Nat.{same_from_place, mul-add-lt, row_fits, div-add-mod', div_below, mod_below}
use Rattle.array_shape.specs.declared.shape.Shape.{Shape}
use Rattle.array_shape.specs.Places.{region_len, region_at, media_len, row_at, cell_at, data_at, data_len, logger_of, offset_of, place_of}

-- in regions of one length, two ranges that share a place are in one region and overlap there
pub same_offset : (r g h o n p m x : ℕ) → o + n ≤ r → p + m ≤ r → 512 + g * r + o ≤ x → x < 512 + g * r + o + n → 512 + h * r + p ≤ x → x < 512 + h * r + p + m → (g ≡ h) × (o < p + m) × (p < o + n)
same_offset r g h o n p m x fits fits' from below from' below' =
    let same = same_from_place g (x - (512 + g * r)) h (x - (512 + h * r)) r (omega arith) (omega arith) (omega arith) in
    (same.0, omega (arith, same.1), omega (arith, same.1))

cell_below : (t e numbers entries : ℕ) → t < numbers → e < entries → t * entries + e < numbers * entries
cell_below t e numbers entries lt lt' = omega (arith, mul-add-lt t entries e numbers lt lt', mul_comm numbers entries)

same_quotients : (x y l : ℕ) → x / l ≡ y / l → x % l ≡ y % l → x ≡ y
same_quotients x y l q r = sym (div-add-mod' x l) ∙ (λ i. q i * l + r i) ∙ div-add-mod' y l

module _ (shape : Shape) where
  region_fits : (g : ℕ) → g < shape.loggers → region_at shape g + region_len shape ≤ media_len shape
  region_fits g lt = omega (arith, row_fits g (region_len shape) shape.loggers (region_len shape) lt (omega arith))

  pub row_fits_in : (g t : ℕ) → g < shape.loggers → t < shape.numbers → row_at shape g t + 16 ≤ media_len shape
  row_fits_in g t lt lt' = omega (arith, region_fits g lt)

  pub cell_fits_in : (g t e : ℕ) → g < shape.loggers → t < shape.numbers → e < shape.entries → cell_at shape g t e + 528 ≤ media_len shape
  cell_fits_in g t e lt lt' lt'' = omega (arith, region_fits g lt, cell_below t e shape.numbers shape.entries lt' lt'')

  -- an address of the data has a logger and an offset within its pages
  pub logger_below : (addr : ℕ) → addr < data_len shape → logger_of shape addr < shape.loggers
  logger_below addr lt = mod_below (addr / 512) shape.loggers (some shape.loggers shape.pages (omega arith))
    where
      some : (l p : ℕ) → 0 < l * p → 0 < l
      some zero p lt = absurd (omega arith)
      some (suc l) p lt = omega arith

  pub offset_below : (addr : ℕ) → addr < data_len shape → offset_of shape addr < 512 * shape.pages
  offset_below addr lt =
      let some = logger_below addr lt in
      let page : addr / 512 < shape.pages * shape.loggers = omega (arith, mul_comm shape.pages shape.loggers) in
      omega (arith, div_below (addr / 512) shape.loggers shape.pages (omega arith) page)

  pub place_fits_in : (addr : ℕ) → addr < data_len shape → place_of shape addr < media_len shape
  place_fits_in addr lt = omega (arith, region_fits (logger_of shape addr) (logger_below addr lt), offset_below addr lt)

  -- the addresses of one page follow one another on the medium
  pub place_next : (addr k : ℕ) → addr % 512 + k < 512 → place_of shape (addr + k) ≡ place_of shape addr + k
  place_next addr k lt =
      let page : (addr + k) / 512 ≡ addr / 512 = omega arith in
      let rest : (addr + k) % 512 ≡ addr % 512 + k = omega arith in
      (λ i. data_at shape (page i % shape.loggers) + (512 * (page i / shape.loggers) + rest i)) ∙ omega arith

  pub same_place : (a b : ℕ) → a < data_len shape → b < data_len shape → place_of shape a ≡ place_of shape b → a ≡ b
  same_place a b lt lt' is =
      let front = 16 * shape.numbers + 528 * (shape.numbers * shape.entries) in
      let in-a = offset_below a lt in
      let in-b = offset_below b lt' in
      let same = same_offset (region_len shape) (logger_of shape a) (logger_of shape b) (front + offset_of shape a) 1 (front + offset_of shape b) 1 (place_of shape a) (omega arith) (omega arith) (omega arith) (omega arith) (omega (arith, is)) (omega (arith, is)) in
      let quotient : a / 512 / shape.loggers ≡ b / 512 / shape.loggers = omega (arith, same.1, same.2) in
      same_quotients a b 512 (same_quotients (a / 512) (b / 512) shape.loggers quotient same.0) (omega (arith, same.1, same.2))

  pub same_row : (g h t u x : ℕ) → t < shape.numbers → u < shape.numbers → row_at shape g t ≤ x → x < row_at shape g t + 16 → row_at shape h u ≤ x → x < row_at shape h u + 16 → (g ≡ h) × (t ≡ u)
  same_row g h t u x lt lt' from below from' below' =
      let same = same_offset (region_len shape) g h (16 * t) 16 (16 * u) 16 x (omega arith) (omega arith) from below from' below' in
      (same.0, omega (arith, same.1, same.2))

  pub row_no_cell : (g h t u e x : ℕ) → t < shape.numbers → u < shape.numbers → e < shape.entries → row_at shape g t ≤ x → x < row_at shape g t + 16 → cell_at shape h u e ≤ x → x < cell_at shape h u e + 528 → ⊥
  row_no_cell g h t u e x lt lt' lt'' from below from' below' =
      let cells = cell_below u e shape.numbers shape.entries lt' lt'' in
      let same = same_offset (region_len shape) g h (16 * t) 16 (16 * shape.numbers + 528 * (u * shape.entries + e)) 528 x (omega arith) (omega arith) from below (omega arith) (omega arith) in
      omega (arith, same.1, same.2)

  pub row_no_data : (g t addr x : ℕ) → t < shape.numbers → addr < data_len shape → row_at shape g t ≤ x → x < row_at shape g t + 16 → x ≡ place_of shape addr → ⊥
  row_no_data g t addr x lt lt' from below is =
      let offset = offset_below addr lt' in
      let same = same_offset (region_len shape) g (logger_of shape addr) (16 * t) 16 (16 * shape.numbers + 528 * (shape.numbers * shape.entries) + offset_of shape addr) 1 x (omega arith) (omega arith) from below (omega (arith, is)) (omega (arith, is)) in
      omega (arith, same.1, same.2)

  pub cell_no_data : (g t e addr x : ℕ) → t < shape.numbers → e < shape.entries → addr < data_len shape → cell_at shape g t e ≤ x → x < cell_at shape g t e + 528 → x ≡ place_of shape addr → ⊥
  cell_no_data g t e addr x lt lt' lt'' from below is =
      let offset = offset_below addr lt'' in
      let cells = cell_below t e shape.numbers shape.entries lt lt' in
      let same = same_offset (region_len shape) g (logger_of shape addr) (16 * shape.numbers + 528 * (t * shape.entries + e)) 528 (16 * shape.numbers + 528 * (shape.numbers * shape.entries) + offset_of shape addr) 1 x (omega arith) (omega arith) (omega arith) (omega arith) (omega (arith, is)) (omega (arith, is)) in
      omega (arith, same.1, same.2)
