-- Parts that are laid over bytes of the data.
use Rattle.std.proofs.Common.{◌≡◌, ℕ, ◌+◌, ◌-◌, ◌<◌, ◌≤◌, inl, inr, Bool, false, cond, List, [], ◌∷◌, ◌++◌, length, get_or, take, drop, min, max, sym, ◌∙◌, ap, arith}
use Rattle.std.specs.Prelude.{count_by}
use Rattle.std.proofs.lemmas.Bool.{cases_lt, ltb-false}
use Rattle.std.proofs.lemmas.List.{ext_get_or, get_or_append_left, get_or-append_right, get_or-take, get_or-drop, length-append, length-drop, length-take, take_min, take_more}
use Rattle.std.proofs.lemmas.List.Sums.{sum_by-append, sum_by-take-le}
use Rattle.mars_base.specs.Bytes.{put, range}
use Rattle.mars_base.proofs.Puts.{length-put, get_or-put_before, get_or-put_after, get_or-put_inside}
use Rattle.pcm_media.proofs.Ranges.{length-range, get_or-range, range_same}
use Rattle.array_shape.specs.Logged.{Part, applied, ranges_of}
use Rattle.array_image.proofs.Applied.{applied-append}
use Rattle.write_back.specs.declared.entry.Entry.{Entry}
use Rattle.write_back.specs.Entries.{ranges_in}
use Rattle.write_back.specs.Reading.{meets}
use Rattle.write_back.proofs.EntryParts.{firsts_same}

-- a part without a byte of the range changes none of it
put_away : (whole : List ℕ) (q : ℕ) (bytes : List ℕ) (addr n : ℕ) → q + length bytes ≤ length whole → min (q + length bytes) (addr + n) ≤ max q addr → range (put whole q bytes) addr n ≡ range whole addr n
put_away whole q bytes addr n fits apart = range_same (put whole q bytes) whole addr n (length-put whole q bytes fits) (λ i le lt. elim (cases_lt i q) [
  | inl low ↦ get_or-put_before whole q bytes fits i low
  | inr from ↦ get_or-put_after whole q bytes fits i (omega arith)
])

pub part_away : (whole : List ℕ) (e : Entry) (p : Part) (addr n : ℕ) → ranges_of (p ∷ []) ≡ ranges_in (e ∷ []) → e.addr + e.len ≤ length whole → meets addr n e ≡ false → range (put whole p.0 p.1) addr n ≡ range whole addr n
part_away whole e p addr n says fits away =
    let is = firsts_same (p.0, length p.1) (e.addr, e.len) [] [] says in
    let at : p.0 ≡ e.addr = ap (λ (r : ℕ × ℕ). r.0) is in
    let long : length p.1 ≡ e.len = ap (λ (r : ℕ × ℕ). r.1) is in
    let apart = ltb-false (max e.addr addr) (min (e.addr + e.len) (addr + n)) away in
    put_away whole p.0 p.1 addr n (omega arith) (omega arith)

-- bytes of a cell in place of those that a part has of the range
pub copied : (whole cell buf piece : List ℕ) (q len addr start end to from k m : ℕ) → start ≡ max q addr → end ≡ min (q + len) (addr + length buf) → start < end → len ≤ length cell
    → q + len ≤ length whole → addr + length buf ≤ length whole → to ≡ start - addr → from ≡ start - q → k ≡ end - start → m ≡ end - start → piece ≡ take m (drop from cell)
    → buf ≡ range whole addr (length buf) → take to buf ++ (piece ++ drop k (drop to buf)) ≡ range (put whole q (take len cell)) addr (length buf)
copied whole cell buf piece q len addr start end to from k m start_is end_is some cell_long fits inside to_is from_is k_is m_is piece_is was =
    ext_get_or 0 (take to buf ++ (piece ++ drop k (drop to buf))) (range (put whole q (take len cell)) addr (length buf)) (long ∙ sym outer) (λ i lt. at i (omega (arith, long)))
  where
    part_long : length (take len cell) ≡ len
    part_long = omega (arith, length-take len cell)

    part_fits : q + length (take len cell) ≤ length whole
    part_fits = omega (arith, part_long)

    front : length (take to buf) ≡ to
    front = omega (arith, length-take to buf)

    middle : length piece ≡ k
    middle = omega (arith, ap length piece_is, length-take m (drop from cell), length-drop from cell)

    long : length (take to buf ++ (piece ++ drop k (drop to buf))) ≡ length buf
    long = omega (arith, length-append (take to buf) (piece ++ drop k (drop to buf)), length-append piece (drop k (drop to buf)), front, middle, length-drop k (drop to buf), length-drop to buf)

    outer : length (range (put whole q (take len cell)) addr (length buf)) ≡ length buf
    outer = length-range (put whole q (take len cell)) addr (length buf) (omega (arith, length-put whole q (take len cell) part_fits))

    old : (i : ℕ) → i < length buf → get_or buf i 0 ≡ get_or whole (addr + i) 0
    old i lt = ap (λ (l : List ℕ). get_or l i 0) was ∙ get_or-range whole addr (length buf) i lt

    new : (i : ℕ) → i < length buf → get_or (range (put whole q (take len cell)) addr (length buf)) i 0 ≡ get_or (put whole q (take len cell)) (addr + i) 0
    new i lt = get_or-range (put whole q (take len cell)) addr (length buf) i lt

    at : (i : ℕ) → i < length buf → get_or (take to buf ++ (piece ++ drop k (drop to buf))) i 0 ≡ get_or (range (put whole q (take len cell)) addr (length buf)) i 0
    at i lt = elim (cases_lt i to) [
      | inl low ↦
          get_or_append_left (take to buf) (piece ++ drop k (drop to buf)) 0 i (omega (arith, front)) ∙ get_or-take to buf i 0 low ∙ old i lt
          ∙ sym (new i lt ∙ get_or-put_before whole q (take len cell) part_fits (addr + i) (omega arith))
      | inr past ↦
          get_or-append_right (take to buf) (piece ++ drop k (drop to buf)) to i 0 front past
          ∙ elim (cases_lt (i - to) k) [
            | inl here ↦
                get_or_append_left piece (drop k (drop to buf)) 0 (i - to) (omega (arith, middle))
                ∙ ap (λ (l : List ℕ). get_or l (i - to) 0) piece_is
                ∙ get_or-take m (drop from cell) (i - to) 0 (omega arith)
                ∙ get_or-drop from cell (i - to) 0
                ∙ ap (λ (j : ℕ). get_or cell j 0) (omega arith)
                ∙ sym (get_or-take len cell (addr + i - q) 0 (omega arith))
                ∙ sym (new i lt ∙ get_or-put_inside whole q (take len cell) part_fits (addr + i) (omega arith) (omega (arith, part_long)))
            | inr behind ↦
                get_or-append_right piece (drop k (drop to buf)) k (i - to) 0 middle behind
                ∙ get_or-drop k (drop to buf) (i - to - k) 0
                ∙ get_or-drop to buf (k + (i - to - k)) 0
                ∙ ap (λ (j : ℕ). get_or buf j 0) (omega arith)
                ∙ old i lt
                ∙ sym (new i lt ∙ get_or-put_after whole q (take len cell) part_fits (addr + i) (omega (arith, part_long)))
          ]
    ]

-- the part in a cell, and the first bytes of the cell's data
pub part_bytes : (whole cell : List ℕ) (e : Entry) (p : Part) (len : ℕ) → p.1 ≡ take len cell → ranges_of (p ∷ []) ≡ ranges_in (e ∷ []) → put whole e.addr (take e.len cell) ≡ put whole p.0 p.1
part_bytes whole cell e p len bytes says =
    let is = firsts_same (p.0, length p.1) (e.addr, e.len) [] [] says in
    let at : p.0 ≡ e.addr = ap (λ (r : ℕ × ℕ). r.0) is in
    let long : length p.1 ≡ e.len = ap (λ (r : ℕ × ℕ). r.1) is in
    let few : e.len ≡ min len (length cell) = omega (arith, long, ap length bytes, length-take len cell) in
    (λ i. put whole (sym at i) (take (few i) cell)) ∙ ap (put whole p.0) (take_min len cell ∙ sym bytes)

-- more parts behind those that are laid over already
pub laid_more : (whole new : List ℕ) (ps qs all : List Part) (addr n k : ℕ) → k ≡ n → new ≡ range (applied qs (applied ps whole)) addr k → ps ++ qs ≡ all → new ≡ range (applied all whole) addr n
laid_more whole new ps qs all addr n k k_is is all_is =
    is ∙ ap (range (applied qs (applied ps whole)) addr) k_is
    ∙ ap (λ (d : List ℕ). range d addr n) (sym (applied-append ps qs whole))
    ∙ ap (λ (l : List Part). range (applied l whole) addr n) all_is

-- one entry more to count
pub count_more : (p : Entry → Bool) (es : List Entry) (i : ℕ) (d : Entry) → i < length es → count_by p (take (i + 1) es) ≡ count_by p (take i es) + count_by p (get_or es i d ∷ [])
count_more p es i d lt = ap (count_by p) (take_more es i d lt) ∙ sum_by-append (λ e. cond (p e) 1 0) (take i es) (get_or es i d ∷ [])

pub count_some : (p : Entry → Bool) (es : List Entry) (i : ℕ) (d : Entry) → i < length es → count_by p (take i es) + count_by p (get_or es i d ∷ []) ≤ count_by p es
count_some p es i d lt = omega (arith, count_more p es i d lt, sum_by-take-le (λ e. cond (p e) 1 0) es (i + 1))
