-- What a number reads: the data with its parts laid over, one after another.
use Rattle.std.proofs.Common.{◌≡◌, ℕ, zero, suc, ◌+◌, ◌-◌, ◌<◌, ◌≤◌, ◌⊎◌, true, inl, inr, List, [], ◌∷◌, length, get_or, refl, sym, ◌∙◌, ap, arith}
use Rattle.std.specs.Prelude.{min, max}
use Rattle.std.proofs.lemmas.List.{ext_get_or}
use Rattle.std.proofs.lemmas.Bool.{cases_lt}
use Rattle.mars_base.specs.Bytes.{put, range}
use Rattle.mars_base.proofs.Puts.{length-put, get_or-put_before, get_or-put_after, get_or-put_inside}
use Rattle.pcm_media.proofs.Ranges.{length-range, get_or-range, range_same, range-put}
use Rattle.pcm_media.proofs.Left.{get_or-put_outside}
use Rattle.array_shape.specs.Logged.{Part, applied, AllFit, ranges_of}
use Rattle.array_image.proofs.Applied.{length-applied}
use Rattle.eaw_face.specs.State.{edited, part_at}
use Rattle.page_store.specs.Edit.{AreApart, IsEdited, with_write, written_at, meets_none}
use Rattle.page_store.proofs.Parts.{put_whole}
use Rattle.page_store.proofs.Edit.{view_written, meets_none_apart}
use Rattle.page_store.proofs.Exact.{edit_there}

-- a part that lies elsewhere is not seen
pub part_missed : (d : List ℕ) (p : Part) (at n : ℕ) → p.0 + length p.1 ≤ length d → (at + n ≤ p.0) ⊎ (p.0 + length p.1 ≤ at) → range (put d p.0 p.1) at n ≡ range d at n
part_missed d p at n fits away = range_same (put d p.0 p.1) d at n (length-put d p.0 p.1 fits) (λ i le lt. elim away [
  | inl before ↦ get_or-put_before d p.0 p.1 fits i (omega arith)
  | inr after ↦ get_or-put_after d p.0 p.1 fits i (omega arith)
])

-- of a part that meets the range, its bytes are seen from the later start to the earlier end
module _ (d : List ℕ) (p : Part) (at n lo hi : ℕ) (fits : p.0 + length p.1 ≤ length d) (inside : at + n ≤ length d) (lo_is : lo ≡ max at p.0) (hi_is : hi ≡ min (at + n) (p.0 + length p.1)) (meets : lo < hi) where
  piece : List ℕ
  piece = range p.1 (lo - p.0) (hi - lo)

  long-piece : length piece ≡ hi - lo
  unfolding piece
  long-piece = length-range p.1 (lo - p.0) (hi - lo) (omega arith)

  long-old : length (range d at n) ≡ n
  long-old = length-range d at n inside

  long-new : length (range (put d p.0 p.1) at n) ≡ n
  long-new = length-range (put d p.0 p.1) at n (omega (arith, length-put d p.0 p.1 fits))

  fits-piece : lo - at + length piece ≤ length (range d at n)
  fits-piece = omega (arith, long-piece, long-old)

  byte : (i : ℕ) → i < n → get_or (range (put d p.0 p.1) at n) i 0 ≡ get_or (put (range d at n) (lo - at) piece) i 0
  unfolding piece
  byte i lt = get_or-range (put d p.0 p.1) at n i lt ∙ elim (cases_lt (at + i) lo) [
    | inl before ↦ get_or-put_outside d p.0 p.1 fits (at + i) (λ le lt'. omega arith) ∙ sym (get_or-range d at n i lt) ∙ sym (get_or-put_before (range d at n) (lo - at) (range p.1 (lo - p.0) (hi - lo)) fits-piece i (omega arith))
    | inr from ↦ elim (cases_lt (at + i) hi) [
      | inl below ↦
          get_or-put_inside d p.0 p.1 fits (at + i) (omega arith) (omega arith)
          ∙ ap (λ (k : ℕ). get_or p.1 k 0) (omega arith)
          ∙ sym (get_or-range p.1 (lo - p.0) (hi - lo) (i - (lo - at)) (omega arith))
          ∙ sym (get_or-put_inside (range d at n) (lo - at) (range p.1 (lo - p.0) (hi - lo)) fits-piece i (omega arith) (omega (arith, long-piece)))
      | inr after ↦
          get_or-put_outside d p.0 p.1 fits (at + i) (λ le lt'. omega arith) ∙ sym (get_or-range d at n i lt)
          ∙ sym (get_or-put_after (range d at n) (lo - at) (range p.1 (lo - p.0) (hi - lo)) fits-piece i (omega (arith, long-piece)))
    ]
  ]

  pub part_laid : range (put d p.0 p.1) at n ≡ put (range d at n) (lo - at) (range p.1 (lo - p.0) (hi - lo))
  unfolding piece
  part_laid = ext_get_or 0 (range (put d p.0 p.1) at n) (put (range d at n) (lo - at) piece) (omega (arith, long-new, long-old, length-put (range d at n) (lo - at) piece fits-piece)) (λ i lt. byte i (omega (arith, long-new)))

-- an edit by the same bytes
edited_same : (pos addr : ℕ) (bytes : List ℕ) (log : List Part) → pos < length log → part_at log pos ≡ (addr, bytes) → edited pos 0 bytes log ≡ log
edited_same pos addr bytes [] lt is = absurd (omega arith)
edited_same zero addr bytes (p ∷ ps) lt is = let same : p.1 ≡ bytes = λ i. (is i).1 in ap (λ (x : List ℕ). (p.0, x) ∷ ps) (put_whole p.1 bytes (ap length same) ∙ sym same)
edited_same (suc pos) addr bytes (p ∷ ps) lt is = ap (λ (l : List Part). p ∷ l) (edited_same pos addr bytes ps (omega arith) is)

-- A part of just this range that no later one meets is what is read there: nothing else has to be read.
pub part_seen : (log : List Part) (d : List ℕ) (pos addr : ℕ) (bytes : List ℕ) → addr + length bytes ≤ length d → AllFit (length d) log → 0 < length bytes → pos < length log → part_at log pos ≡ (addr, bytes)
    → IsEdited 0 (addr, length bytes) (ranges_of log) pos → range (applied log d) addr (length bytes) ≡ bytes
part_seen log d pos addr bytes fits fit some lt is last =
    let same : with_write 0 addr bytes log ≡ log = ap (λ o. written_at o addr bytes log) (edit_there (addr, length bytes) 0 (ranges_of log) pos some last) ∙ edited_same pos addr bytes log lt is in
    ap (λ (l : List Part). range (applied l d) addr (length bytes)) (sym same)
    ∙ ap (λ (x : List ℕ). range x addr (length bytes)) (view_written addr bytes 0 log d fits fit)
    ∙ range-put (applied log d) bytes addr (length bytes) refl (omega (arith, length-applied log d fit))

-- parts that none of the others meets share no byte with them
pub apart_more : (r : ℕ × ℕ) (rs qs : List (ℕ × ℕ)) → meets_none r qs ≡ true → AreApart rs qs → AreApart (r ∷ rs) qs
apart_more r rs qs none apart i = elim (meets_none_apart r qs none i) [
  | inl out ↦ elim (apart i) [
    | inl out' ↦ inl (out.0, out')
    | inr away ↦ inr away
  ]
  | inr away ↦ inr away
]
