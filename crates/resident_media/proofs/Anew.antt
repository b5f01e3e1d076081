-- A medium that was just made.
use Rattle.std.proofs.Common.{◌≡◌, ℕ, zero, suc, ◌-◌, ◌/◌, ◌<◌, ◌≤◌, Bool, false, inl, inr, List, [], ◌∷◌, length, get_or, replicate, refl, sym, ◌∙◌, ap, subst, arith, length-append}
use Rattle.std.specs.Prelude.{◌↔◌, IsTrue}
use Rattle.std.proofs.lemmas.Bool.{cases_lt}
use Rattle.std.proofs.lemmas.List.{get_or_append_left, get_or-append_right, length-replicate}
use Rattle.pcm_media.specs.Images.{Content, MayLeave}
use Rattle.pcm_media.specs.View.{View}
use Rattle.resident_media.specs.Past.{Past, HasSeen, LeftSince}
use Rattle.resident_media.specs.Noted.{up_to, at_first}
use Rattle.resident_media.specs.Blocks.{Kept, fresh}
use Rattle.resident_media.specs.Resident.{Lies, over}
use Rattle.resident_media.proofs.Places.{none_known}
use Rattle.resident_media.proofs.Spots.{not_both}

pub length-up_to : (n : ℕ) → length (up_to n) ≡ n
unfolding up_to
length-up_to zero = refl
length-up_to (suc n) = length-append (up_to n) (n ∷ []) ∙ omega (arith, length-up_to n)

pub get_or-up_to : (n t d : ℕ) → t < n → get_or (up_to n) t d ≡ t
unfolding up_to
get_or-up_to zero t d lt = absurd (omega (arith, lt))
get_or-up_to (suc n) t d lt = elim (cases_lt t n) [
  | inl low ↦ get_or_append_left (up_to n) (n ∷ []) d t (omega (arith, length-up_to n)) ∙ get_or-up_to n t d low
  | inr high ↦
      let is : t ≡ n = omega arith in
      let none : t - n ≡ 0 = omega arith in
      let first : get_or (n ∷ []) (t - n) d ≡ n = ap (λ (k : ℕ). get_or (n ∷ []) k d) none in
      get_or-append_right (up_to n) (n ∷ []) n t d (length-up_to n) high ∙ first ∙ sym is
]

-- the same was seen at each moment
seen_same : (n : ℕ) (content : Content) (t : ℕ) (image : List ℕ) → HasSeen (replicate n content) t image → MayLeave content image
seen_same zero content t image has = absurd has
seen_same (suc n) content zero image (inl one) = one
seen_same (suc n) content zero image (inr has) = seen_same n content zero image has
seen_same (suc n) content (suc t) image has = seen_same n content t image has

module _ (tells : Bool) (inner : View) (moment : ℕ) (past : Past) (now : moment ≡ inner.moment) (is : past ≡ at_first inner) where
  pub lies_anew : (kept : Kept) (len blocks capacity : ℕ) → kept ≡ fresh len blocks → len ≤ inner.size → len ≤ capacity → Lies tells inner kept capacity moment past
  lies_anew kept len blocks capacity anew fits reserved = subst (λ (p : Past). Lies tells inner kept capacity moment p) (sym is) (record {
    count = length-up_to inner.moment ∙ sym now;
    before = length-replicate inner.moment inner.content ∙ sym now;
    below = λ t lt. let low : t < inner.moment = omega (arith, length-up_to inner.moment, lt) in omega (arith, low, get_or-up_to inner.moment t 0 low);
    later = omega (arith, now);
    wide = λ told i out. out;
    fits = omega (arith, fits, ap (λ (k : Kept). k.len) anew);
    reserved = omega (arith, reserved, ap (λ (k : Kept). k.len) anew);
    holds = λ told i lt seen. absurd (not_both (sym (none_known blocks (i / 16384)) ∙ sym (ap (λ (k : Kept). get_or k.known (i / 16384) false) anew) ∙ seen));
  })

  module _ (counts : (t : ℕ) (image : List ℕ) → IsTrue tells → t ≤ inner.moment → MayLeave inner.content image → inner.left_since t image)
      (only_now : (image : List ℕ) → IsTrue tells → inner.left_since inner.moment image → MayLeave inner.content image) where
    left_first : IsTrue tells → (t : ℕ) (image : List ℕ) → t ≤ inner.moment → LeftSince inner (at_first inner) moment t image ↔ inner.left_since t image
    left_first told t image le = (
      λ left. elim left [
        | inl earlier ↦ elim earlier.1 [
          | inl below ↦ subst (λ (s : ℕ). inner.left_since s image) (get_or-up_to inner.moment t 0 (omega (arith, earlier.0, now))) below
          | inr seen ↦ counts t image told le (seen_same inner.moment inner.content t image seen)
        ]
        | inr may ↦ counts t image told le may
      ],
      λ left. elim (cases_lt t inner.moment) [
        | inl lt ↦ inl (omega (arith, lt, now), inl (subst (λ (s : ℕ). inner.left_since s image) (sym (get_or-up_to inner.moment t 0 lt)) left))
        | inr ge ↦ inr (only_now image told (subst (λ (s : ℕ). inner.left_since s image) (omega (arith, le, ge)) left))
      ],
    )

    pub left_anew : (faults : ℕ) → IsTrue tells → (t : ℕ) (image : List ℕ) → t ≤ inner.moment → (over inner past moment faults).left_since t image ↔ inner.left_since t image
    left_anew faults told t image le = subst (λ (p : Past). LeftSince inner p moment t image ↔ inner.left_since t image) (sym is) (left_first told t image le)
