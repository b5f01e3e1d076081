-- The parts of a log, and those in the cells of each logger.
use Rattle.std.proofs.Common.{◌≡◌, ℕ, zero, suc, ◌+◌, ◌-◌, ◌<◌, ◌≤◌, Bool, true, false, cond, nat_eq, inl, inr, List, [], ◌∷◌, ◌++◌, length, map, take, drop, refl, sym, ◌∙◌, ap, subst, arith}
use Rattle.std.specs.Prelude.{filter, slice_index, All}
use Rattle.std.specs.List.{range_with_len}
use Rattle.std.proofs.lemmas.Bool.{cases_eq, eq-eqb, ne_eqb}
use Rattle.std.proofs.lemmas.List.Elements.{All-nil, All-cons, All-head, All-tail}
use Rattle.array_shape.specs.declared.shape.Shape.{Shape}
use Rattle.array_shape.specs.Places.{IsShape, logger_of}
use Rattle.array_shape.specs.Parts.{is_write_part_on}
use Rattle.array_shape.specs.Logged.{Part, ranges_of, AllPlaced, parts_at}
use Rattle.array_image.specs.Image.{cell_of, cell_part, parts_from}
use Rattle.array_image.specs.Image.{IsGoodCell}
use Rattle.eaw_face.specs.State.{is_range_on, count_on}
use Rattle.write_back.specs.declared.entry.Entry.{Entry}
use Rattle.eaw_device.specs.declared.log.Log.{Log}
use Rattle.eaw_device.specs.Logs.{IsKept, IsHeld}
use Rattle.write_back.specs.Entries.{IsEntry, ranges_in, parts_in, cells_on}
use Rattle.eaw_device.proofs.Entries.{logger_small}
use Rattle.write_back.proofs.EntryParts.{firsts_same, rests_same, cells_on_here, cells_on_past, part_in, parts_at-parts_in, parts_from-numbers}
use Rattle.eaw_device.proofs.Keeping.{HasPlace, last_cells, first_few}

pub ranges_in-drop : (n : ℕ) (es : List Entry) → ranges_in (drop n es) ≡ drop n (ranges_in es)
ranges_in-drop zero es = refl
ranges_in-drop (suc n) [] = refl
ranges_in-drop (suc n) (e ∷ es) = ranges_in-drop n es

pub ranges_of-drop : (n : ℕ) (ps : List Part) → ranges_of (drop n ps) ≡ drop n (ranges_of ps)
ranges_of-drop zero ps = refl
ranges_of-drop (suc n) [] = refl
ranges_of-drop (suc n) (p ∷ ps) = ranges_of-drop n ps

pub ranges_of-take : (n : ℕ) (ps : List Part) → ranges_of (take n ps) ≡ take n (ranges_of ps)
ranges_of-take zero ps = refl
ranges_of-take (suc n) [] = refl
ranges_of-take (suc n) (p ∷ ps) = ap (λ (l : List (ℕ × ℕ)). (p.0, length p.1) ∷ l) (ranges_of-take n ps)

pub ranges_of-append : (ps qs : List Part) → ranges_of (ps ++ qs) ≡ ranges_of ps ++ ranges_of qs
ranges_of-append [] qs = refl
ranges_of-append (p ∷ ps) qs = ap (λ (l : List (ℕ × ℕ)). (p.0, length p.1) ∷ l) (ranges_of-append ps qs)

pub all_placed : (shape : Shape) (ps : List Part) → All (HasPlace shape) (ranges_of ps) → AllPlaced shape ps
all_placed shape [] placed = tt
all_placed shape (p ∷ ps) placed = (All-head (HasPlace shape) (p.0, length p.1) (ranges_of ps) placed, all_placed shape ps (All-tail (HasPlace shape) (p.0, length p.1) (ranges_of ps) placed))

all_placed-drop : (shape : Shape) (n : ℕ) (ps : List Part) → AllPlaced shape ps → AllPlaced shape (drop n ps)
all_placed-drop shape zero ps placed = placed
all_placed-drop shape (suc n) [] placed = tt
all_placed-drop shape (suc n) (p ∷ ps) placed = all_placed-drop shape n ps placed.1

-- as many pieces of a write as ranges
pub count_on-ranges_of : (shape : Shape) (g : ℕ) (ps : List Part) → count_on shape g (ranges_of ps) ≡ length (filter (is_write_part_on shape g) ps)
count_on-ranges_of shape g [] = refl
count_on-ranges_of shape g (p ∷ ps) = one (nat_eq (logger_of shape p.0) g) (count_on-ranges_of shape g ps)
  where
    one : (on : Bool) → length (filter (is_range_on shape g) (ranges_of ps)) ≡ length (filter (is_write_part_on shape g) ps)
        → length (cond on ((p.0, length p.1) ∷ filter (is_range_on shape g) (ranges_of ps)) (filter (is_range_on shape g) (ranges_of ps))) ≡ length (cond on (p ∷ filter (is_write_part_on shape g) ps) (filter (is_write_part_on shape g) ps))
    one true same = ap suc same
    one false same = same

module _ (shape : Shape) (image : List ℕ) (t : ℕ) where
  pub parts_in-take : (n : ℕ) (es : List Entry) → parts_in shape image t (take n es) ≡ take n (parts_in shape image t es)
  parts_in-take zero es = refl
  parts_in-take (suc n) [] = refl
  parts_in-take (suc n) (e ∷ es) = ap (λ (l : List Part). part_in shape image t (logger_of shape e.addr) e.cell ∷ l) (parts_in-take n es)

  pub parts_in-drop : (n : ℕ) (es : List Entry) → parts_in shape image t (drop n es) ≡ drop n (parts_in shape image t es)
  parts_in-drop zero es = refl
  parts_in-drop (suc n) [] = refl
  parts_in-drop (suc n) (e ∷ es) = parts_in-drop n es

  -- entries with the ranges of parts, of which each logger has its own in its cells, have these parts
  pub same_parts : (shaped : IsShape shape) (es : List Entry) (qs : List Part) → ranges_in es ≡ ranges_of qs → ((g : ℕ) → g < shape.loggers → map (part_in shape image t g) (cells_on shape g es) ≡ filter (is_write_part_on shape g) qs) → parts_in shape image t es ≡ qs
  same_parts shaped [] [] ranges same = refl
  same_parts shaped [] (q ∷ qs) ranges same = absurd (let long = ap length ranges in omega (arith, long))
  same_parts shaped (e ∷ es) [] ranges same = absurd (let long = ap length ranges in omega (arith, long))
  same_parts shaped (e ∷ es) (q ∷ qs) ranges same =
      let first = firsts_same (e.addr, e.len) (q.0, length q.1) (ranges_in es) (ranges_of qs) ranges in
      let rest = rests_same (e.addr, e.len) (q.0, length q.1) (ranges_in es) (ranges_of qs) ranges in
      let logger : logger_of shape q.0 ≡ logger_of shape e.addr = ap (λ (r : ℕ × ℕ). logger_of shape r.0) (sym first) in
      let on : (g : ℕ) → logger_of shape e.addr ≡ g → g < shape.loggers → part_in shape image t g e.cell ∷ map (part_in shape image t g) (cells_on shape g es) ≡ q ∷ filter (is_write_part_on shape g) qs =
      λ g is lt.
      sym (ap (map (part_in shape image t g)) (cells_on_here shape g e es is)) ∙ same g lt
      ∙ ap (λ (b : Bool). cond b (q ∷ filter (is_write_part_on shape g) qs) (filter (is_write_part_on shape g) qs)) (eq-eqb (logger_of shape q.0) g (logger ∙ is)) in
      let here = logger_of shape e.addr in
      let head = firsts_same (part_in shape image t here e.cell) q (map (part_in shape image t here) (cells_on shape here es)) (filter (is_write_part_on shape here) qs) (on here refl (logger_small shape e.addr shaped)) in
      let tail = same_parts shaped es qs rest (λ g lt. elim (cases_eq (logger_of shape e.addr) g) [
        | inl is ↦ rests_same (part_in shape image t g e.cell) q (map (part_in shape image t g) (cells_on shape g es)) (filter (is_write_part_on shape g) qs) (on g is lt)
        | inr ne ↦
            sym (ap (map (part_in shape image t g)) (cells_on_past shape g e es ne)) ∙ same g lt
            ∙ ap (λ (b : Bool). cond b (q ∷ filter (is_write_part_on shape g) qs) (filter (is_write_part_on shape g) qs)) (ne_eqb (logger_of shape q.0) g (λ is. ne (sym logger ∙ is)))
      ]) in
      (λ i. head i ∷ tail i)

-- a fact of the cell of each entry
abbrev pub EachCell : Shape → (ℕ → ℕ → Type 0) → List Entry → Type 0
EachCell shape P [] = Unit {0}
EachCell shape P (e ∷ es) = P (logger_of shape e.addr) e.cell × EachCell shape P es

abbrev pub EachIn : (ℕ → Type 0) → List ℕ → Type 0
EachIn P [] = Unit {0}
EachIn P (c ∷ cs) = P c × EachIn P cs

pub each_number : (P : ℕ → Type 0) (a n : ℕ) → ((k : ℕ) → a ≤ k → k < a + n → P k) → EachIn P (range_with_len a n)
each_number P a zero has = tt
each_number P a (suc n) has = (has a (omega arith) (omega arith), each_number P (a + 1) n (λ k le lt. has k (omega arith) (omega arith)))

pub each_cell : (shape : Shape) (shaped : IsShape shape) (P : ℕ → ℕ → Type 0) (es : List Entry) → ((g : ℕ) → g < shape.loggers → EachIn (P g) (cells_on shape g es)) → EachCell shape P es
each_cell shape shaped P [] has = tt
each_cell shape shaped P (e ∷ es) has =
    let here = logger_of shape e.addr in
    let first = subst (EachIn (P here)) (cells_on_here shape here e es refl) (has here (logger_small shape e.addr shaped)) in (
      first.0,
      each_cell shape shaped P es (λ g lt. elim (cases_eq (logger_of shape e.addr) g) [
        | inl is ↦ (subst (EachIn (P g)) (cells_on_here shape g e es is) (has g lt)).1
        | inr ne ↦ subst (EachIn (P g)) (cells_on_past shape g e es ne) (has g lt)
      ]),
    )

-- what holds of each held cell holds of each entry's
pub each_held : (shape : Shape) (shaped : IsShape shape) (log : Log) (P : ℕ → ℕ → Type 0) → IsKept shape log → ((g c : ℕ) → g < shape.loggers → c < slice_index log.held g → P g c) → EachCell shape P log.entries.items
each_held shape shaped log P kept has = each_cell shape shaped P log.entries.items (λ g lt.
    subst (EachIn (P g)) (sym (kept.cells g lt)) (each_number (P g) 0 (slice_index log.held g) (λ k le below. has g k lt (omega arith))))

pub parts_in_same : (shape : Shape) (old new : List ℕ) (t : ℕ) (es : List Entry) → EachCell shape (λ g c. cell_of shape new g t c ≡ cell_of shape old g t c) es → parts_in shape new t es ≡ parts_in shape old t es
parts_in_same shape old new t [] same = refl
parts_in_same shape old new t (e ∷ es) same = (λ i. cell_part (same.0 i) ∷ parts_in_same shape old new t es same.1 i)

pub log_placed : (shape : Shape) (image : List ℕ) (t : ℕ) (log : Log) → IsKept shape log → IsHeld shape image t log → AllPlaced shape (parts_in shape image t log.entries.items)
log_placed shape image t log kept held = all_placed shape (parts_in shape image t log.entries.items) (subst (All (HasPlace shape)) (sym held.heads) kept.placed)

-- what the cells of a log say of its last entries
pub heads_left : (shape : Shape) (image : List ℕ) (t offset : ℕ) (es : List Entry) → ranges_of (parts_in shape image t es) ≡ ranges_in es → ranges_of (parts_in shape image t (drop offset es)) ≡ ranges_in (drop offset es)
heads_left shape image t offset es heads = ap ranges_of (parts_in-drop shape image t offset es) ∙ ranges_of-drop offset (parts_in shape image t es) ∙ ap (drop offset) heads ∙ sym (ranges_in-drop offset es)

-- what a log has from a position on, as it is named for a commit
module _ (shape : Shape) (image : List ℕ) (t : ℕ) (log : Log) (kept : IsKept shape log) (offset : ℕ) where
  -- at each logger the cells before the offset, and how many there are from it on
  abbrev pub first_at : ℕ → ℕ
  first_at g = length (cells_on shape g (take offset log.entries.items))

  abbrev pub count_at : ℕ → ℕ
  count_at g = slice_index log.held g - first_at g

  pub few : (g : ℕ) → g < shape.loggers → first_at g ≤ slice_index log.held g
  few g lt = first_few shape offset log.entries.items log.held kept.cells g lt

  module _ (held : IsHeld shape image t log) where
    pub named_good : (g e : ℕ) → g < shape.loggers → first_at g ≤ e → e < first_at g + count_at g → IsGoodCell shape g (cell_of shape image g t e)
    named_good g e lt from below = held.good g e lt (omega (arith, few g lt))

    pub named_here : (g : ℕ) → g < shape.loggers → parts_at shape g (drop offset (parts_in shape image t log.entries.items)) ≡ parts_from shape image g t (first_at g) (count_at g)
    named_here g lt =
        let es = log.entries.items in
        let from_first : 0 + first_at g ≡ first_at g = omega arith in
        ap (parts_at shape g) (sym (parts_in-drop shape image t offset es))
        ∙ parts_at-parts_in shape image t g (drop offset es) (heads_left shape image t offset es held.heads)
        ∙ ap (map (part_in shape image t g)) (last_cells shape offset es log.held kept.cells g lt)
        ∙ ap (λ (from : ℕ). map (part_in shape image t g) (range_with_len from (count_at g))) from_first ∙ sym (parts_from-numbers shape image t g (first_at g) (count_at g))

    pub named_placed : AllPlaced shape (drop offset (parts_in shape image t log.entries.items))
    named_placed = all_placed-drop shape offset (parts_in shape image t log.entries.items) (log_placed shape image t log kept held)

-- each entry lies in its page, and its cell exists
entries_good : (shape : Shape) (es : List Entry) → All (HasPlace shape) (ranges_in es) → EachCell shape (λ g c. c < shape.entries) es → All (IsEntry shape) es
entries_good shape [] placed each = All-nil (IsEntry shape)
entries_good shape (e ∷ es) placed each = All-cons (IsEntry shape) e es
    (record { placed = All-head (HasPlace shape) (e.addr, e.len) (ranges_in es) placed; cell = each.0 })
    (entries_good shape es (All-tail (HasPlace shape) (e.addr, e.len) (ranges_in es) placed) each.1)

pub kept_entries : (shape : Shape) (log : Log) → IsKept shape log → All (IsEntry shape) log.entries.items
kept_entries shape log kept = entries_good shape log.entries.items kept.placed (each_held shape shape.in_range log (λ g c. c < shape.entries) kept (λ g c lt below. omega (arith, kept.fits g lt)))
