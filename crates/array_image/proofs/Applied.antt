-- Data after parts.
use Rattle.std.proofs.Common.{◌≡◌, ℕ, ◌+◌, ◌<◌, ◌≤◌, inl, inr, List, [], ◌∷◌, ◌++◌, length, get_or, refl, sym, ◌∙◌, ap, subst, arith}
use Rattle.std.proofs.lemmas.List.{ext_get_or}
use Rattle.std.proofs.lemmas.Bool.{cases_lt}
use Rattle.mars_base.specs.Bytes.{put}
use Rattle.pcm_media.specs.Images.{SameOutside, IsOutside}
use Rattle.mars_base.proofs.Puts.{length-put, get_or-put_inside}
use Rattle.pcm_media.proofs.Left.{get_or-put_outside}
use Rattle.array_shape.specs.Logged.{Part, applied, AllFit, ranges_of}

pub length-applied : (ps : List Part) (d : List ℕ) → AllFit (length d) ps → length (applied ps d) ≡ length d
length-applied [] d fit = refl
length-applied (p ∷ ps) d fit =
    let long = length-put d p.0 p.1 fit.0 in
    length-applied ps (put d p.0 p.1) (subst (λ n. AllFit n ps) (sym long) fit.1) ∙ long

-- data that differ only where the parts lie are the same after them
pub applied_same : (ps : List Part) (d e : List ℕ) → AllFit (length d) ps → SameOutside (ranges_of ps) d e → SameOutside [] (applied ps d) (applied ps e)
applied_same [] d e fit same = same
applied_same (p ∷ ps) d e fit same =
    let long = length-put d p.0 p.1 fit.0 in
    let fit-e : p.0 + length p.1 ≤ length e = omega (arith, same.long, fit.0) in
    applied_same ps (put d p.0 p.1) (put e p.0 p.1) (subst (λ n. AllFit n ps) (sym long) fit.1) (record {
      long = length-put e p.0 p.1 fit-e ∙ same.long ∙ sym long;
      same = λ i out. elim (cases_lt i p.0) [
        | inl lt ↦ one i out (λ le lt'. omega arith) fit-e
        | inr le ↦ elim (cases_lt i (p.0 + length p.1)) [
          | inl lt ↦ get_or-put_inside e p.0 p.1 fit-e i le lt ∙ sym (get_or-put_inside d p.0 p.1 fit.0 i le lt)
          | inr past ↦ one i out (λ le' lt'. omega arith) fit-e
        ]
      ];
    })
  where
    one : (i : ℕ) → IsOutside (ranges_of ps) i → (p.0 ≤ i → i < p.0 + length p.1 → ⊥) → p.0 + length p.1 ≤ length e → get_or (put e p.0 p.1) i 0 ≡ get_or (put d p.0 p.1) i 0
    one i out away fit-e = get_or-put_outside e p.0 p.1 fit-e i away ∙ same.same i (away, out) ∙ sym (get_or-put_outside d p.0 p.1 fit.0 i away)

pub same_lists_outside_nothing : (d e : List ℕ) → SameOutside [] d e → e ≡ d
same_lists_outside_nothing d e same = ext_get_or 0 e d same.long (λ i lt. same.same i tt)

pub applied_equal : (ps : List Part) (d e : List ℕ) → AllFit (length d) ps → SameOutside (ranges_of ps) d e → applied ps e ≡ applied ps d
applied_equal ps d e fit same = same_lists_outside_nothing (applied ps d) (applied ps e) (applied_same ps d e fit same)

-- they change nothing elsewhere
pub applied_away : (ps : List Part) (d : List ℕ) → AllFit (length d) ps → SameOutside (ranges_of ps) d (applied ps d)
applied_away [] d fit = record { long = refl; same = λ i out. refl }
applied_away (p ∷ ps) d fit =
    let long = length-put d p.0 p.1 fit.0 in
    let rest = applied_away ps (put d p.0 p.1) (subst (λ n. AllFit n ps) (sym long) fit.1) in
    record {
      long = rest.long ∙ long;
      same = λ i out. rest.same i out.1 ∙ get_or-put_outside d p.0 p.1 fit.0 i out.0;
    }

pub applied_twice : (ps : List Part) (d : List ℕ) → AllFit (length d) ps → applied ps (applied ps d) ≡ applied ps d
applied_twice ps d fit = applied_equal ps d (applied ps d) fit (applied_away ps d fit)

pub applied-append : (ps qs : List Part) (d : List ℕ) → applied (ps ++ qs) d ≡ applied qs (applied ps d)
applied-append [] qs d = refl
applied-append (p ∷ ps) qs d = applied-append ps qs (put d p.0 p.1)

pub all_fit-append : (n : ℕ) (ps qs : List Part) → AllFit n ps → AllFit n qs → AllFit n (ps ++ qs)
all_fit-append n [] qs fit fit' = fit'
all_fit-append n (p ∷ ps) qs fit fit' = (fit.0, all_fit-append n ps qs fit.1 fit')

-- the same parts again, whatever bytes stood where they lie
pub applied_over : (ps : List Part) (d e : List ℕ) → AllFit (length d) ps → SameOutside (ranges_of ps) (applied ps d) e → applied ps e ≡ applied ps d
applied_over ps d e fit same =
    let away = applied_away ps d fit in
    applied_equal ps d e fit (record { long = same.long ∙ away.long; same = λ i out. same.same i out ∙ away.same i out })

pub fit_front : (n : ℕ) (ps qs : List Part) → AllFit n (ps ++ qs) → AllFit n ps
fit_front n [] qs fit = tt
fit_front n (p ∷ ps) qs fit = (fit.0, fit_front n ps qs fit.1)

pub fit_back : (n : ℕ) (ps qs : List Part) → AllFit n (ps ++ qs) → AllFit n qs
fit_back n [] qs fit = fit
fit_back n (p ∷ ps) qs fit = fit_back n ps qs fit.1

pub applied_suffix : (ps qs : List Part) (d : List ℕ) → AllFit (length d) (ps ++ qs) → applied qs (applied (ps ++ qs) d) ≡ applied (ps ++ qs) d
applied_suffix ps qs d fit =
    let long = length-applied ps d (fit_front (length d) ps qs fit) in
    ap (applied qs) (applied-append ps qs d)
    ∙ applied_twice qs (applied ps d) (subst (λ n. AllFit n qs) (sym long) (fit_back (length d) ps qs fit))
    ∙ sym (applied-append ps qs d)
