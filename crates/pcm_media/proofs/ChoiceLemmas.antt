-- Ranges that are not settled, and bytes that are chosen for them.
use Rattle.std.proofs.Common.{◌≡◌, ℕ, ◌+◌, ◌⊎◌, Bool, true, false, inl, inr, ⊎_elim, List, [], ◌∷◌, ◌++◌, length, take, drop, refl, sym, ◌∙◌, ap, subst, arith}
use Rattle.std.proofs.lemmas.List.{drop_all, take_all, append-nil}
use Rattle.std.proofs.lemmas.Bool.{cases_lt}
use Rattle.pcm_media.specs.declared.call.Call.{Call}
use Rattle.pcm_media.specs.declared.call.Call.TheVariants.{Read, Write, Barrier}
use Rattle.pcm_media.specs.Calls.{Record, ranges_in}
use Rattle.pcm_media.specs.Images.{Content, IsOutside}
use Rattle.pcm_media.specs.Replay.{next_content_by, next_unsettled, unsettled_after, content_after, byte_count, next_content}
use Rattle.pcm_media.specs.declared.call.Place.{Place}
use Rattle.pcm_media.specs.Choice.{IsInside, IsChosen}
use Rattle.pcm_media.proofs.Left.{outside-append}

unsettled-next_content_by : (call : Call) (is_done : Bool) (written : List ℕ) (content : Content) → (next_content_by call is_done written content).unsettled ≡ next_unsettled call is_done content.unsettled
unsettled-next_content_by Read is_done written content = refl
unsettled-next_content_by (Write at len) true written content = refl
unsettled-next_content_by (Write at len) false written content = refl
unsettled-next_content_by Barrier true written content = refl
unsettled-next_content_by Barrier false written content = refl

-- what is not settled after some calls does not depend on the bytes
pub unsettled_is : (records : List Record) (written : List ℕ) (content : Content) → (content_after records written content).unsettled ≡ unsettled_after records content.unsettled
unsettled_is [] written content = refl
unsettled_is (made ∷ later) written content =
    unsettled_is later (drop (byte_count made) written) (next_content made written content)
    ∙ ap (unsettled_after later) (unsettled-next_content_by made.call made.is_done written content)

pub unsettled_after-push : (records : List Record) (made : Record) (ranges : List (ℕ × ℕ)) → unsettled_after (records ++ made ∷ []) ranges ≡ next_unsettled made.call made.is_done (unsettled_after records ranges)
unsettled_after-push [] made ranges = refl
unsettled_after-push (x ∷ records) made ranges = unsettled_after-push records made (next_unsettled x.call x.is_done ranges)

pub ranges_in-push : (ps : List Place) (p : Place) → ranges_in (ps ++ p ∷ []) ≡ (p.at, p.len) ∷ ranges_in ps
ranges_in-push [] p = refl
ranges_in-push (x ∷ ps) p = ap (λ (l : List (ℕ × ℕ)). l ++ (x.at, x.len) ∷ []) (ranges_in-push ps p)

in_or_out : (ranges : List (ℕ × ℕ)) (i : ℕ) → IsInside ranges i ⊎ IsOutside ranges i
in_or_out [] i = inr tt
in_or_out (r ∷ ranges) i = elim (cases_lt i r.0) [
  | inl before ↦ ⊎_elim (λ inside. inl (inr inside)) (λ out. inr ((λ le lt. omega arith), out)) (in_or_out ranges i)
  | inr from ↦ elim (cases_lt i (r.0 + r.1)) [
    | inl inside ↦ inl (inl (from, inside))
    | inr past ↦ ⊎_elim (λ inside. inl (inr inside)) (λ out. inr ((λ le lt. omega arith), out)) (in_or_out ranges i)
  ]
]

inside-append : (rs ss : List (ℕ × ℕ)) (i : ℕ) → IsInside (rs ++ ss) i → IsInside rs i ⊎ IsInside ss i
inside-append [] ss i inside = inr inside
inside-append (r ∷ rs) ss i inside = ⊎_elim (λ here. inl (inl here)) (λ later. ⊎_elim (λ first. inl (inr first)) (λ second. inr second) (inside-append rs ss i later)) inside

-- one choice for some ranges and then for others
pub chosen_both : (choice : List ℕ) (rs ss : List (ℕ × ℕ)) (old mid new : List ℕ) → IsChosen choice rs old mid → IsChosen choice ss mid new → IsChosen choice (ss ++ rs) old new
chosen_both choice rs ss old mid new a b = record {
  outside = record {
    long = b.outside.long ∙ a.outside.long;
    same = λ i out. let both = outside-append ss rs i out in b.outside.same i both.0 ∙ a.outside.same i both.1;
  };
  inside = λ i lt within. ⊎_elim
      (λ second. b.inside i lt second)
      (λ out. ⊎_elim
      (λ second. b.inside i lt second)
      (λ first. b.outside.same i out ∙ a.inside i (omega (arith, lt, b.outside.long)) first)
      (inside-append ss rs i within))
      (in_or_out ss i);
}

-- one more place of a list that is walked
pub chosen_more : (places : List Place) (i : ℕ) (p : Place) (choice old mid new : List ℕ) → take (i + 1) places ≡ take i places ++ p ∷ []
    → IsChosen choice (ranges_in (take i places)) old mid → IsChosen choice ((p.at, p.len) ∷ []) mid new → IsChosen choice (ranges_in (take (i + 1) places)) old new
chosen_more places i p choice old mid new more first second =
    subst (λ (ranges : List (ℕ × ℕ)). IsChosen choice ranges old new) (sym (ap ranges_in more ∙ ranges_in-push (take i places) p))
    (chosen_both choice (ranges_in (take i places)) ((p.at, p.len) ∷ []) old mid new first second)

-- a vector whose slice was changed as a whole
pub slice_back : (items over : List ℕ) (n : ℕ) → n ≡ length items → length over ≡ length items → take n (over ++ drop (length over) items) ≡ over
slice_back items over n count long = ap (λ (l : List ℕ). take n (over ++ l)) (drop_all (length over) items (omega arith)) ∙ ap (take n) (append-nil over) ∙ take_all n over (omega arith)
