-- Writes into cells of one number, at all loggers.
use Rattle.std.proofs.Common.{◌≡◌, ◌≢◌, false, ℕ, zero, suc, ◌+◌, ◌<◌, ◌≤◌, ◌⊎◌, inl, inr, List, [], ◌∷◌, ◌++◌, length, sym, ap, subst, ◌∙◌, arith}
use Rattle.std.specs.Prelude.{slice_index}
use Rattle.std.proofs.lemmas.Bool.{and_parts, or_parts, false≢true}
use Rattle.pcm_media.specs.Images.{SameOutside, IsOutside}
use Rattle.array_shape.specs.declared.shape.Shape.{Shape}
use Rattle.array_shape.specs.Places.{media_len, cell_at}
use Rattle.array_shape.specs.Parts.{write_parts_on}
use Rattle.array_shape.specs.Areas.{cell}
use Rattle.array_shape.proofs.Apart.{areas_apart}
use Rattle.array_image.specs.Joined.{joined}
use Rattle.array_shape.specs.Logged.{Part}
use Rattle.array_image.specs.Image.{cell_of, IsGoodCell}
use Rattle.array_image.proofs.Joined.{outside_joined, outside_at}
use Rattle.array_image.proofs.Places.{cell_fits_in}
use Rattle.array_image.proofs.Rows.{cell_away, parts_same}
use Rattle.array_image.proofs.Frames.{AllWithin}
use Rattle.array_shape.specs.NumberSet.{has}
use Rattle.row_bytes.specs.declared.ballot.Ballot.{Ballot}
use Rattle.coordinator.specs.declared.cells.Cells.{Cells}
use Rattle.write_back.specs.Turns.{has_some}
use Rattle.write_back.specs.Spared.{AreSpared}
use Rattle.eaw_device.proofs.Cells.{AreInCells}
use Rattle.logger.specs.Cells.{cell_ranges, HoldsParts}
use Rattle.logger.specs.Staging.{staged_places}

-- a place that none of the cells has
pub outside_cells : (shape : Shape) (g t from n x : ℕ) → ((e : ℕ) → from ≤ e → e < from + n → cell_at shape g t e ≤ x → x < cell_at shape g t e + 528 → ⊥) → IsOutside (cell_ranges shape g t from n) x
outside_cells shape g t from zero x away = tt
outside_cells shape g t from (suc n) x away =
    (away from (omega arith) (omega arith), outside_cells shape g t (from + 1) n x (λ e le lt. away e (omega arith) (omega arith)))

within-append : (size : ℕ) (rs ss : List (ℕ × ℕ)) → AllWithin size rs → AllWithin size ss → AllWithin size (rs ++ ss)
within-append size [] ss within within' = within'
within-append size (r ∷ rs) ss within within' = (within.0, within-append size rs ss within.1 within')

within-joined : (size : ℕ) (f : ℕ → List (ℕ × ℕ)) (k n : ℕ) → ((g : ℕ) → k ≤ g → g < k + n → AllWithin size (f g)) → AllWithin size (joined f k n)
within-joined size f k zero within = tt
within-joined size f k (suc n) within = within-append size (f k) (joined f (k + 1) n) (within k (omega arith) (omega arith)) (within-joined size f (k + 1) n (λ g le lt. within g (omega arith) (omega arith)))

cells_within : (shape : Shape) (g t from n : ℕ) → g < shape.loggers → t < shape.numbers → from + n ≤ shape.entries → AllWithin (media_len shape) (cell_ranges shape g t from n)
cells_within shape g t from zero there small room = tt
cells_within shape g t from (suc n) there small room = (cell_fits_in shape g t from there small (omega arith), cells_within shape g t (from + 1) n there small (omega arith))

-- two cells share no byte
pub cells_apart : (shape : Shape) (h u f g t e : ℕ) → h < shape.loggers → u < shape.numbers → f < shape.entries → g < shape.loggers → t < shape.numbers → e < shape.entries → ((h ≡ g) × (u ≡ t) × (f ≡ e) → ⊥)
    → (x : ℕ) → cell_at shape h u f ≤ x → x < cell_at shape h u f + 528 → cell_at shape g t e ≤ x → x < cell_at shape g t e + 528 → ⊥
cells_apart shape h u f g t e lt below inside lt' below' inside' ne x from to from' to' =
    elim (areas_apart shape (cell h u f) (cell g t e) (lt, below, inside) (lt', below', inside') (λ is. ne (let first : h ≡ g = cc in first, let second : u ≡ t = cc in second, let third : f ≡ e = cc in third)))
    [ inl before ↦ omega arith | inr behind ↦ omega arith ]

-- one logger's cells alone
pub other_logger : (shape : Shape) (g t from n : ℕ) → g < shape.loggers → t < shape.numbers → from + n ≤ shape.entries → (old new : List ℕ) → SameOutside (cell_ranges shape g t from n) old new
    → (h u f : ℕ) → h < shape.loggers → u < shape.numbers → f < shape.entries → h ≢ g → cell_of shape new h u f ≡ cell_of shape old h u f
other_logger shape g t from n there small room old new same h u f lt below inside ne =
    cell_away shape (cell_ranges shape g t from n) old new h u f same (λ x le lt'. outside_cells shape g t from n x (λ e low high le' lt''.
    cells_apart shape h u f g t e lt below inside there small (omega arith) (λ is. ne is.0) x le lt' le' lt''))

-- parts in cells that stay
pub holds_same : (shape : Shape) (g t e : ℕ) (parts : List Part) (old new : List ℕ) → ((k : ℕ) → e ≤ k → k < e + length parts → cell_of shape new g t k ≡ cell_of shape old g t k)
    → HoldsParts shape old g t e parts → HoldsParts shape new g t e parts
holds_same shape g t e parts old new same holds = record {
  hold = parts_same shape old new g t e (length parts) same ∙ holds.hold;
  good = λ k le lt. subst (IsGoodCell shape g) (sym (same k le lt)) (holds.good k le lt);
}

module _ (shape : Shape) (t : ℕ) (small : t < shape.numbers) (held : List ℕ) (addr : ℕ) (bytes : List ℕ)
    (room : (g : ℕ) → g < shape.loggers → slice_index held g + length (write_parts_on shape g addr bytes) ≤ shape.entries) where
  abbrev places : List (ℕ × ℕ)
  places = staged_places shape t held addr bytes

  -- what is written at one logger
  pub staged_at : (g : ℕ) → g < shape.loggers → (i : ℕ) → IsOutside places i → IsOutside (cell_ranges shape g t (slice_index held g) (length (write_parts_on shape g addr bytes))) i
  staged_at g lt i out = outside_at (λ h. cell_ranges shape h t (slice_index held h) (length (write_parts_on shape h addr bytes))) i 0 shape.loggers out g (omega arith) (omega arith)

  pub staged_outside : (x : ℕ) → ((g e : ℕ) → g < shape.loggers → slice_index held g ≤ e → e < slice_index held g + length (write_parts_on shape g addr bytes) → cell_at shape g t e ≤ x → x < cell_at shape g t e + 528 → ⊥) → IsOutside places x
  staged_outside x away = outside_joined (λ h. cell_ranges shape h t (slice_index held h) (length (write_parts_on shape h addr bytes))) x 0 shape.loggers (λ g le lt.
      outside_cells shape g t (slice_index held g) (length (write_parts_on shape g addr bytes)) x (λ e low high. away g e (omega arith) low high))

  pub staged_in_cells : AreInCells shape places
  staged_in_cells x none = staged_outside x (λ g e lt low high. none g t e lt small (let fits = room g lt in let inside : e < shape.entries = omega arith in inside))

  -- a number that has no commit that waits: its cells are not needed
  pub staged_spared : (cells : List Cells) (bs : List Ballot) → has_some bs t ≡ false → AreSpared shape cells places bs
  staged_spared cells [] lacks = tt
  staged_spared cells (b ∷ bs) lacks =
      let both = or_parts (has b.group t) (has_some bs t) lacks in (
        (λ h u k i lt lt' lt'' row from below at to. staged_outside i (λ g e there low high at' to'.
            let fits = room g there in
            cells_apart shape h u k g t e lt lt' lt'' there small (omega arith) (λ is. false≢true (sym both.0 ∙ ap (has b.group) (sym is.1) ∙ (and_parts (has b.mask h) (has b.group u) row).1)) i at to at' to')),
        staged_spared cells bs both.1,
      )

  pub staged_within : AllWithin (media_len shape) places
  staged_within = within-joined (media_len shape) (λ h. cell_ranges shape h t (slice_index held h) (length (write_parts_on shape h addr bytes))) 0 shape.loggers (λ g le lt.
      cells_within shape g t (slice_index held g) (length (write_parts_on shape g addr bytes)) (omega arith) small (room g (omega arith)))

  -- the cells of another number, and the held ones of this
  pub staged_cell : (old new : List ℕ) → SameOutside places old new → (h u f : ℕ) → h < shape.loggers → u < shape.numbers → f < shape.entries → ((u ≢ t) ⊎ (f < slice_index held h)) → cell_of shape new h u f ≡ cell_of shape old h u f
  staged_cell old new same h u f lt below inside other =
      cell_away shape places old new h u f same (λ x le lt'. staged_outside x (λ g e lt'' low high le' to.
      let fits = room g lt'' in
      cells_apart shape h u f g t e lt below inside lt'' small (omega arith) (λ is. elim other [
        | inl ne ↦ ne is.1
        | inr held_here ↦ (let at = ap (slice_index held) is.0 in omega (arith, is.2))
      ]) x le lt' le' to))
