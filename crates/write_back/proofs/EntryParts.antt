-- The parts in the cells of entries, and those of each logger.
use Rattle.std.proofs.Common.{◌≡◌, ℕ, zero, suc, ◌+◌, ◌<◌, inl, inr, Bool, cond, List, [], ◌∷◌, ◌++◌, length, get_or, take, map, refl, sym, ◌∙◌, ap, subst, arith}
use Rattle.std.specs.Prelude.{All}
use Rattle.std.specs.List.{range_with_len}
use Rattle.std.proofs.lemmas.Bool.{cases_eq, eq-eqb, ne_eqb}
use Rattle.std.proofs.lemmas.List.Elements.{All-head, All-tail}
use Rattle.array_shape.specs.declared.shape.Shape.{Shape}
use Rattle.array_shape.specs.Places.{IsPlaced, IsShape, logger_of}
use Rattle.array_shape.specs.Logged.{Part, ranges_of, AllPlaced, parts_at}
use Rattle.array_image.specs.Image.{cell_of, cell_part, parts_from}
use Rattle.array_image.specs.Standing.{SameCells}
use Rattle.std.proofs.lemmas.Nat.{mod_below}
use Rattle.write_back.specs.declared.entry.Entry.{Entry}
use Rattle.write_back.specs.Entries.{IsEntry, ranges_in, parts_in, cells_on}

-- equal lists have equal first elements, and equal rests
pub firsts_same : {A : Type 0} (x y : A) (xs ys : List A) → x ∷ xs ≡ y ∷ ys → x ≡ y
firsts_same x y xs ys is = cc

pub rests_same : {A : Type 0} (x y : A) (xs ys : List A) → x ∷ xs ≡ y ∷ ys → xs ≡ ys
rests_same x y xs ys is = cc

module _ (shape : Shape) where
  -- an entry of this logger, and one of another
  pub cells_on_here : (g : ℕ) (e : Entry) (es : List Entry) → logger_of shape e.addr ≡ g → cells_on shape g (e ∷ es) ≡ e.cell ∷ cells_on shape g es
  cells_on_here g e es is = ap (λ (on : Bool). cond on (e.cell ∷ cells_on shape g es) (cells_on shape g es)) (eq-eqb (logger_of shape e.addr) g is)

  pub cells_on_past : (g : ℕ) (e : Entry) (es : List Entry) → (logger_of shape e.addr ≡ g → ⊥) → cells_on shape g (e ∷ es) ≡ cells_on shape g es
  cells_on_past g e es ne = ap (λ (on : Bool). cond on (e.cell ∷ cells_on shape g es) (cells_on shape g es)) (ne_eqb (logger_of shape e.addr) g ne)

module _ (shape : Shape) (image : List ℕ) (t : ℕ) where
  -- the part in a cell
  abbrev pub part_in : ℕ → ℕ → Part
  part_in g c = cell_part (cell_of shape image g t c)

  pub parts_in-append : (xs ys : List Entry) → parts_in shape image t (xs ++ ys) ≡ parts_in shape image t xs ++ parts_in shape image t ys
  parts_in-append [] ys = refl
  parts_in-append (e ∷ es) ys = ap (λ (l : List Part). part_in (logger_of shape e.addr) e.cell ∷ l) (parts_in-append es ys)

  -- what the cells say of entries, of the first ones and of one
  pub held_take : (n : ℕ) (es : List Entry) → ranges_of (parts_in shape image t es) ≡ ranges_in es → ranges_of (parts_in shape image t (take n es)) ≡ ranges_in (take n es)
  held_take zero es heads = refl
  held_take (suc n) [] heads = refl
  held_take (suc n) (e ∷ es) heads =
      let p = part_in (logger_of shape e.addr) e.cell in
      (λ i.
      firsts_same (p.0, length p.1) (e.addr, e.len) (ranges_of (parts_in shape image t es)) (ranges_in es) heads i
      ∷ held_take n es (rests_same (p.0, length p.1) (e.addr, e.len) (ranges_of (parts_in shape image t es)) (ranges_in es) heads) i)

  pub held_at : (es : List Entry) (n : ℕ) (d : Entry) → n < length es → ranges_of (parts_in shape image t es) ≡ ranges_in es
      → ranges_of (parts_in shape image t (get_or es n d ∷ [])) ≡ ranges_in (get_or es n d ∷ [])
  held_at [] n d lt heads = absurd (omega arith)
  held_at (e ∷ es) zero d lt heads =
      let p = part_in (logger_of shape e.addr) e.cell in
      (λ i. firsts_same (p.0, length p.1) (e.addr, e.len) (ranges_of (parts_in shape image t es)) (ranges_in es) heads i ∷ [])
  held_at (e ∷ es) (suc n) d lt heads =
      let p = part_in (logger_of shape e.addr) e.cell in
      held_at es n d (omega arith) (rests_same (p.0, length p.1) (e.addr, e.len) (ranges_of (parts_in shape image t es)) (ranges_in es) heads)

  pub parts_from-numbers : (g e n : ℕ) → parts_from shape image g t e n ≡ map (part_in g) (range_with_len e n)
  parts_from-numbers g e zero = refl
  parts_from-numbers g e (suc n) = ap (λ (l : List Part). part_in g e ∷ l) (parts_from-numbers g (e + 1) n)

  -- if the cells say the ranges of the entries, the parts of one logger are those in its cells
  pub parts_at-parts_in : (g : ℕ) (es : List Entry) → ranges_of (parts_in shape image t es) ≡ ranges_in es → parts_at shape g (parts_in shape image t es) ≡ map (part_in g) (cells_on shape g es)
  parts_at-parts_in g [] heads = refl
  parts_at-parts_in g (e ∷ es) heads =
      let p = part_in (logger_of shape e.addr) e.cell in
      let first = firsts_same (p.0, length p.1) (e.addr, e.len) (ranges_of (parts_in shape image t es)) (ranges_in es) heads in
      let rest = parts_at-parts_in g es (rests_same (p.0, length p.1) (e.addr, e.len) (ranges_of (parts_in shape image t es)) (ranges_in es) heads) in
      let logger : logger_of shape p.0 ≡ logger_of shape e.addr = ap (λ (r : ℕ × ℕ). logger_of shape r.0) first in
      elim (cases_eq (logger_of shape e.addr) g) [
        | inl is ↦
            (λ i. cond (eq-eqb (logger_of shape p.0) g (logger ∙ is) i) (p ∷ rest i) (rest i))
            ∙ ap (λ (h : ℕ). part_in h e.cell ∷ map (part_in g) (cells_on shape g es)) is
            ∙ sym (ap (map (part_in g)) (cells_on_here shape g e es is))
        | inr ne ↦
            (λ i. cond (ne_eqb (logger_of shape p.0) g (λ is. ne (sym logger ∙ is)) i) (p ∷ rest i) (rest i))
            ∙ sym (ap (map (part_in g)) (cells_on_past shape g e es ne))
      ]

  -- entries with the cells that a row names have there the parts of the row
  pub parts_named : (g first count : ℕ) (es : List Entry) → ranges_of (parts_in shape image t es) ≡ ranges_in es → cells_on shape g es ≡ range_with_len first count
      → parts_at shape g (parts_in shape image t es) ≡ parts_from shape image g t first count
  parts_named g first count es heads cells = parts_at-parts_in g es heads ∙ ap (map (part_in g)) cells ∙ sym (parts_from-numbers g first count)

  pub parts_none : (g : ℕ) (es : List Entry) → ranges_of (parts_in shape image t es) ≡ ranges_in es → cells_on shape g es ≡ [] → parts_at shape g (parts_in shape image t es) ≡ []
  parts_none g es heads cells = parts_at-parts_in g es heads ∙ ap (map (part_in g)) cells

  -- each lies in one page
  pub parts_placed : (es : List Entry) → All (IsEntry shape) es → ranges_of (parts_in shape image t es) ≡ ranges_in es → AllPlaced shape (parts_in shape image t es)
  parts_placed [] all heads = tt
  parts_placed (e ∷ es) all heads =
      let p = part_in (logger_of shape e.addr) e.cell in
      let first = firsts_same (p.0, length p.1) (e.addr, e.len) (ranges_of (parts_in shape image t es)) (ranges_in es) heads in
      let rest = rests_same (p.0, length p.1) (e.addr, e.len) (ranges_of (parts_in shape image t es)) (ranges_in es) heads in
      let here = All-head (IsEntry shape) e es all in
      (subst (λ (r : ℕ × ℕ). IsPlaced shape r.0 r.1) (sym first) here.placed, parts_placed es (All-tail (IsEntry shape) e es all) rest)

-- images with the same bytes in the entries' cells
module _ (shape : Shape) (old new : List ℕ) (t : ℕ) where
  abbrev pub SameCell : Entry → Type 0
  SameCell e = cell_of shape new (logger_of shape e.addr) t e.cell ≡ cell_of shape old (logger_of shape e.addr) t e.cell

  pub parts_in_same : (es : List Entry) → All SameCell es → parts_in shape new t es ≡ parts_in shape old t es
  parts_in_same [] same = refl
  parts_in_same (e ∷ es) same = (λ i. cell_part (All-head SameCell e es same i) ∷ parts_in_same es (All-tail SameCell e es same) i)

  pub same_if_all : (shaped : IsShape shape) → t < shape.numbers → (es : List Entry) → SameCells shape old new → All (IsEntry shape) es → All SameCell es
  same_if_all shaped lt es same all k d below =
      let e = all k d below in
      same _ t _ (mod_below _ shape.loggers (omega (arith, shaped.some_loggers))) lt e.cell
