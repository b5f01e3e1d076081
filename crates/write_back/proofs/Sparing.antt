-- Writes that spare the cells of all commits that wait: what the entries say of the cells stays.
use Rattle.std.proofs.Common.{◌≡◌, ℕ, ◌<◌, Bool, true, false, cond, ◌||◌, inl, inr, List, [], ◌∷◌, get_or, sym, ◌∙◌, ap, subst, refl, arith}
use Rattle.std.specs.Prelude.{All}
use Rattle.std.specs.List.{range_with_len}
use Rattle.std.proofs.lemmas.Nat.{mod_below}
use Rattle.std.proofs.lemmas.Bool.{cases_Bool, cases_eq, eq-eqb, ne_eqb, false≢true}
use Rattle.std.proofs.lemmas.List.Elements.{All-nil, All-cons, All-head, All-tail, All-same, All-from_get_or}
use Rattle.std.proofs.lemmas.List.FromFn.{get_or-range_with_len, length-range_with_len}
use Rattle.pcm_media.specs.Images.{SameOutside}
use Rattle.array_shape.specs.declared.shape.Shape.{Shape}
use Rattle.array_shape.specs.Places.{logger_of}
use Rattle.array_shape.specs.Logged.{ranges_of}
use Rattle.array_shape.specs.NumberSet.{has}
use Rattle.row_bytes.specs.declared.ballot.Ballot.{Ballot}
use Rattle.row_bytes.specs.Ballots.{has_row}
use Rattle.array_image.specs.Image.{cell_of}
use Rattle.array_image.proofs.Rows.{cell_away}
use Rattle.coordinator.specs.declared.cells.Cells.{Cells}
use Rattle.coordinator.specs.Commits.{cells_in}
use Rattle.write_back.specs.declared.entry.Entry.{Entry}
use Rattle.write_back.specs.Entries.{AreHeld, IsEntry, cells_on, parts_in, ranges_in}
use Rattle.write_back.specs.Shown.{entries_of}
use Rattle.write_back.specs.Turns.{has_some}
use Rattle.write_back.proofs.EntryParts.{parts_in_same}
use Rattle.write_back.specs.declared.commits.LateData.{LateData}
use Rattle.write_back.specs.Spared.{AreSpared}
use Rattle.write_back.specs.Tied.{HaveNamed, IsReady, IsTied}

small_logger : (shape : Shape) (addr : ℕ) → logger_of shape addr < shape.loggers
small_logger shape addr = mod_below _ shape.loggers (omega (arith, shape.in_range.some_loggers))

-- what holds of the cells at each logger holds of each entry
each_cell : (shape : Shape) (P : ℕ → ℕ → Type 0) (es : List Entry) → ((g : ℕ) → g < shape.loggers → All (P g) (cells_on shape g es)) → All (λ (e : Entry). P (logger_of shape e.addr) e.cell) es
each_cell shape P [] all = All-nil (λ (e : Entry). P (logger_of shape e.addr) e.cell)
each_cell shape P (e ∷ es) all = All-cons (λ (x : Entry). P (logger_of shape x.addr) x.cell) e es head (each_cell shape P es rest)
  where
    head : P (logger_of shape e.addr) e.cell
    head = All-head (P (logger_of shape e.addr)) e.cell (cells_on shape (logger_of shape e.addr) es)
        (subst (λ (b : Bool). All (P (logger_of shape e.addr)) (cond b (e.cell ∷ cells_on shape (logger_of shape e.addr) es) (cells_on shape (logger_of shape e.addr) es))) (eq-eqb (logger_of shape e.addr) (logger_of shape e.addr) refl)
        (all (logger_of shape e.addr) (small_logger shape e.addr)))

    rest : (h : ℕ) → h < shape.loggers → All (P h) (cells_on shape h es)
    rest h lt = elim (cases_eq (logger_of shape e.addr) h) [
      | inl is ↦ All-tail (P h) e.cell (cells_on shape h es) (subst (λ (b : Bool). All (P h) (cond b (e.cell ∷ cells_on shape h es) (cells_on shape h es))) (eq-eqb (logger_of shape e.addr) h is) (all h lt))
      | inr ne ↦ subst (λ (b : Bool). All (P h) (cond b (e.cell ∷ cells_on shape h es) (cells_on shape h es))) (ne_eqb (logger_of shape e.addr) h ne) (all h lt)
    ]

module _ (shape : Shape) (ranges : List (ℕ × ℕ)) (cells : List Cells) (entries : ℕ → List Entry) (old new : List ℕ) (same : SameOutside ranges old new) where
  abbrev Same : ℕ → ℕ → ℕ → Type 0
  Same t g k = k < shape.entries → cell_of shape new g t k ≡ cell_of shape old g t k

  -- the cells of a number's entries stay
  cells_kept : (bs : List Ballot) → HaveNamed shape cells entries bs → AreSpared shape cells ranges bs → (t : ℕ) → t < shape.numbers → has_some bs t ≡ true → (g : ℕ) → g < shape.loggers → All (Same t g) (cells_on shape g (entries t))
  cells_kept [] named spared t lt so g lt' = absurd (false≢true so)
  cells_kept (b ∷ bs) named spared t lt so g lt' = elim (cases_Bool (has b.group t)) [
    | inl on ↦ All-same (Same t g) (cells_on shape g (entries t)) (cond (has_row b g t) (range_with_len (cells_in cells g t).first (cells_in cells g t).count) []) (named.0 g t lt' lt on) (by (has_row b g t) refl)
    | inr off ↦ cells_kept bs named.1 spared.1 t lt (sym (ap (λ (x : Bool). x || has_some bs t) off) ∙ so) g lt'
  ]
    where
      by : (row : Bool) → has_row b g t ≡ row → All (Same t g) (cond row (range_with_len (cells_in cells g t).first (cells_in cells g t).count) [])
      by false is = All-nil (Same t g)
      by true is = All-from_get_or (Same t g) (range_with_len (cells_in cells g t).first (cells_in cells g t).count) 0 (λ i below inside.
          let few : i < (cells_in cells g t).count = omega (arith, below, length-range_with_len (cells_in cells g t).first (cells_in cells g t).count) in
          let k_is = get_or-range_with_len (cells_in cells g t).first (cells_in cells g t).count i 0 few in
          let k = get_or (range_with_len (cells_in cells g t).first (cells_in cells g t).count) i 0 in
          cell_away shape ranges old new g t k same (λ x from to. spared.0 g t k x lt' lt inside is (omega (arith, k_is)) (omega (arith, k_is, few)) from to))

  pub spared_held : (bs : List Ballot) → HaveNamed shape cells entries bs → AreSpared shape cells ranges bs → ((t : ℕ) → t < shape.numbers → has_some bs t ≡ false → entries t ≡ []) → ((t : ℕ) → t < shape.numbers → All (IsEntry shape) (entries t))
      → AreHeld shape old entries → AreHeld shape new entries
  spared_held bs named spared none all held t lt = elim (cases_Bool (has_some bs t)) [
    | inl so ↦
        let each = each_cell shape (Same t) (entries t) (cells_kept bs named spared t lt so) in
        ap ranges_of (parts_in_same shape old new t (entries t) (λ k d below. each k d below (all t lt k d below).cell)) ∙ held t lt
    | inr lacks ↦ subst (λ (es : List Entry). ranges_of (parts_in shape new t es) ≡ ranges_in es) (sym (none t lt lacks)) refl
  ]

-- so it is of the commits that wait
pub late_held : (shape : Shape) (late : LateData) → IsReady shape late → IsTied shape late (λ t. false) → (ranges : List (ℕ × ℕ)) → AreSpared shape late.queue.cells ranges late.queue.ballots.items → (old new : List ℕ) → SameOutside ranges old new
    → AreHeld shape old (entries_of late.parts) → AreHeld shape new (entries_of late.parts)
late_held shape late ready tied ranges spared old new same =
    spared_held shape ranges late.queue.cells (entries_of late.parts) old new same late.queue.ballots.items tied.named spared (λ t lt lacks. tied.none t lt refl lacks)
    (λ t lt. subst (λ (s : Shape). All (IsEntry s) (entries_of late.parts t)) ready.shape_is (late.parts.kept.entries t))
