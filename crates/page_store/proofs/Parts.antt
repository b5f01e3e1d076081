-- Parts that share no byte, and writes of one range.
use Rattle.std.proofs.Common.{◌≡◌, ℕ, ◌+◌, ◌<◌, ◌≤◌, inl, inr, List, [], ◌∷◌, length, get_or, sym, ◌∙◌, ap, subst, arith}
use Rattle.std.proofs.lemmas.List.{ext_get_or}
use Rattle.std.proofs.lemmas.Bool.{cases_lt}
use Rattle.mars_base.specs.Bytes.{put}
use Rattle.mars_base.proofs.Puts.{length-put, get_or-put_inside}
use Rattle.pcm_media.proofs.Left.{get_or-put_outside}
use Rattle.array_shape.specs.Logged.{Part, applied, AllFit, ranges_of}
use Rattle.array_image.proofs.Applied.{length-applied, applied_away}
use Rattle.page_store.specs.Edit.{AreApart}

-- a byte that two data share, they share after the same parts
pub applied_agree : (ps : List Part) (d e : List ℕ) (i : ℕ) → length e ≡ length d → AllFit (length d) ps → get_or e i 0 ≡ get_or d i 0 → get_or (applied ps e) i 0 ≡ get_or (applied ps d) i 0
applied_agree [] d e i long fit same = same
applied_agree (p ∷ ps) d e i long fit same =
    let fit-e : p.0 + length p.1 ≤ length e = omega (arith, fit.0) in
    let long-d = length-put d p.0 p.1 fit.0 in
    let long-e = length-put e p.0 p.1 fit-e in
    applied_agree ps (put d p.0 p.1) (put e p.0 p.1) i (long-e ∙ long ∙ sym long-d) (subst (λ n. AllFit n ps) (sym long-d) fit.1) (elim (cases_lt i p.0) [
      | inl before ↦ outside fit-e (λ le lt. omega arith)
      | inr from ↦ elim (cases_lt i (p.0 + length p.1)) [
        | inl below ↦ get_or-put_inside e p.0 p.1 fit-e i from below ∙ sym (get_or-put_inside d p.0 p.1 fit.0 i from below)
        | inr past ↦ outside fit-e (λ le lt. omega arith)
      ]
    ])
  where
    outside : p.0 + length p.1 ≤ length e → (p.0 ≤ i → i < p.0 + length p.1 → ⊥) → get_or (put e p.0 p.1) i 0 ≡ get_or (put d p.0 p.1) i 0
    outside fit-e out = get_or-put_outside e p.0 p.1 fit-e i out ∙ same ∙ sym (get_or-put_outside d p.0 p.1 fit.0 i out)

-- parts that share no byte may be written in either order
module _ (ps qs : List Part) (d : List ℕ) (fit : AllFit (length d) ps) (fit' : AllFit (length d) qs) (apart : AreApart (ranges_of ps) (ranges_of qs)) where
  long-p : length (applied ps d) ≡ length d
  long-p = length-applied ps d fit

  long-q : length (applied qs d) ≡ length d
  long-q = length-applied qs d fit'

  fit-p : AllFit (length (applied qs d)) ps
  fit-p = subst (λ n. AllFit n ps) (sym long-q) fit

  fit-q : AllFit (length (applied ps d)) qs
  fit-q = subst (λ n. AllFit n qs) (sym long-p) fit'

  byte : (i : ℕ) → get_or (applied ps (applied qs d)) i 0 ≡ get_or (applied qs (applied ps d)) i 0
  byte i = elim (apart i) [
    | inl out ↦ (applied_away ps (applied qs d) fit-p).same i out ∙ sym (applied_agree qs d (applied ps d) i long-p fit' ((applied_away ps d fit).same i out))
    | inr out ↦ applied_agree ps d (applied qs d) i long-q fit ((applied_away qs d fit').same i out) ∙ sym ((applied_away qs (applied ps d) fit-q).same i out)
  ]

  pub applied_either_order : applied ps (applied qs d) ≡ applied qs (applied ps d)
  applied_either_order = ext_get_or 0 (applied ps (applied qs d)) (applied qs (applied ps d)) (length-applied ps (applied qs d) fit-p ∙ long-q ∙ sym long-p ∙ sym (length-applied qs (applied ps d) fit-q)) (λ i lt. byte i)

-- of two writes of one range the later one counts
module _ (d : List ℕ) (at : ℕ) (old bytes : List ℕ) (fits : at + length bytes ≤ length d) (long : length old ≡ length bytes) where
  fits-old : at + length old ≤ length d
  fits-old = omega arith

  long-1 : length (put d at old) ≡ length d
  long-1 = length-put d at old fits-old

  fits-1 : at + length bytes ≤ length (put d at old)
  fits-1 = rw long-1 fits

  byte-2 : (i : ℕ) → get_or (put (put d at old) at bytes) i 0 ≡ get_or (put d at bytes) i 0
  byte-2 i = elim (cases_lt i at) [
    | inl before ↦ outside (λ le lt. omega arith)
    | inr from ↦ elim (cases_lt i (at + length bytes)) [
      | inl below ↦ get_or-put_inside (put d at old) at bytes fits-1 i from below ∙ sym (get_or-put_inside d at bytes fits i from below)
      | inr past ↦ outside (λ le lt. omega arith)
    ]
  ]
    where
      outside : (at ≤ i → i < at + length bytes → ⊥) → get_or (put (put d at old) at bytes) i 0 ≡ get_or (put d at bytes) i 0
      outside out = get_or-put_outside (put d at old) at bytes fits-1 i out ∙ get_or-put_outside d at old fits-old i (λ le lt. out le (omega arith)) ∙ sym (get_or-put_outside d at bytes fits i out)

  pub put_again : put (put d at old) at bytes ≡ put d at bytes
  put_again = ext_get_or 0 (put (put d at old) at bytes) (put d at bytes) (length-put (put d at old) at bytes fits-1 ∙ long-1 ∙ sym (length-put d at bytes fits)) (λ i lt. byte-2 i)

-- a write of the whole
pub put_whole : (old bytes : List ℕ) → length old ≡ length bytes → put old 0 bytes ≡ bytes
put_whole old bytes long = ext_get_or 0 (put old 0 bytes) bytes (omega (arith, length-put old 0 bytes (omega arith))) (λ i lt.
    get_or-put_inside old 0 bytes (omega arith) i (omega arith) (omega (arith, length-put old 0 bytes (omega arith))) ∙ ap (λ (k : ℕ). get_or bytes k 0) (omega arith))
