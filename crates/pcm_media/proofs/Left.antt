-- What may be left after a write and after a barrier.
use Rattle.std.proofs.Common.{◌≡◌, ℕ, ◌+◌, ◌-◌, ◌<◌, ◌≤◌, inl, inr, List, [], ◌∷◌, ◌++◌, length, get_or, take, drop, refl, sym, ◌∙◌, ap, subst, arith}
use Rattle.std.proofs.lemmas.List.{get_or-drop, get_or-take, length-take-le, length-drop, ext_get_or}
use Rattle.std.proofs.lemmas.Bool.{cases_lt}
use Rattle.mars_base.specs.Bytes.{put}
use Rattle.pcm_media.specs.Images.{Content, SameOutside, IsOutside, MayLeave, Touched, written, settled, partly}
use Rattle.mars_base.specs.Moments.{Elapses}
use Rattle.mars_base.proofs.Going.{weaker, then}
use Rattle.mars_base.proofs.Puts.{length-put, get_or-put_before, get_or-put_after, get_or-put_inside}

pub get_or-put_outside : (old : List ℕ) (at : ℕ) (bytes : List ℕ) → at + length bytes ≤ length old → (i : ℕ) → (at ≤ i → i < at + length bytes → ⊥) → get_or (put old at bytes) i 0 ≡ get_or old i 0
get_or-put_outside old at bytes fits i out = elim (cases_lt i at) [
  | inl before ↦ get_or-put_before old at bytes fits i before
  | inr from ↦ elim (cases_lt i (at + length bytes)) [
    | inl inside ↦ absurd (out from inside)
    | inr after ↦ get_or-put_after old at bytes fits i after
  ]
]

pub same_outside-put : (old : List ℕ) (at : ℕ) (bytes : List ℕ) → at + length bytes ≤ length old → SameOutside ((at, length bytes) ∷ []) old (put old at bytes)
same_outside-put old at bytes fits = record { long = length-put old at bytes fits; same = λ i out. get_or-put_outside old at bytes fits i out.0 }

-- what is read now may be left
pub left_as_read : (content : Content) → MayLeave content content.bytes
left_as_read content = record { long = refl; same = λ i out. refl }

-- if nothing is unsettled, nothing else is left
pub only_as_read : (content : Content) (image : List ℕ) → content.unsettled ≡ [] → MayLeave content image → (i : ℕ) → get_or image i 0 ≡ get_or content.bytes i 0
only_as_read content image none left i = left.same i (subst (λ rs. IsOutside rs i) (sym none) tt)

-- the bytes of a range
abbrev pub part : List ℕ → ℕ → ℕ → List ℕ
part bytes at count = take count (drop at bytes)

-- an image that was left before the write, and is this one outside its range
pub record Before (old : Content) (at count : ℕ) (image : List ℕ) : Type 0 where
  pub earlier : List ℕ
  pub left : MayLeave old earlier
  pub same : SameOutside ((at, count) ∷ []) earlier image

module _ (old new : Content) (at count : ℕ) (fits : at + count ≤ length old.bytes) (touched : Touched ((at, count) ∷ []) old new) (image : List ℕ) (left : MayLeave new image) where
  long : length image ≡ length old.bytes
  long = left.long ∙ touched.bytes.long

  kept : List ℕ
  kept = put image at (part old.bytes at count)

  count_is : length (part old.bytes at count) ≡ count
  count_is = length-take-le count (drop at old.bytes) (omega (arith, length-drop at old.bytes))

  kept_inside : (i : ℕ) → at ≤ i → i < at + count → get_or kept i 0 ≡ get_or old.bytes i 0
  unfolding kept
  kept_inside i le lt =
      get_or-put_inside image at (part old.bytes at count) (omega (arith, long, count_is)) i le (omega (arith, count_is))
      ∙ get_or-take count (drop at old.bytes) (i - at) 0 (omega arith)
      ∙ get_or-drop at old.bytes (i - at) 0
      ∙ ap (λ (k : ℕ). get_or old.bytes k 0) (omega arith)

  kept_outside : (i : ℕ) → (at ≤ i → i < at + count → ⊥) → get_or kept i 0 ≡ get_or image i 0
  unfolding kept
  kept_outside i out = get_or-put_outside image at (part old.bytes at count) (omega (arith, long, count_is)) i (λ le lt. out le (omega (arith, count_is)))

  kept_long : length kept ≡ length image
  unfolding kept
  kept_long = length-put image at (part old.bytes at count) (omega (arith, long, count_is))

  -- outside the range and all that was unsettled
  elsewhere : (i : ℕ) → IsOutside old.unsettled i → (at ≤ i → i < at + count → ⊥) → get_or image i 0 ≡ get_or old.bytes i 0
  elsewhere i outside out = left.same i (touched.unsettled i (out, tt) outside) ∙ touched.bytes.same i (out, tt)

  pub before_write : Before old at count image
  before_write = record {
    earlier = kept;
    left = record {
      long = kept_long ∙ long;
      same = λ i outside. elim (cases_lt i at) [
        | inl lt ↦ kept_outside i (λ le lt'. omega arith) ∙ elsewhere i outside (λ le lt'. omega arith)
        | inr le ↦ elim (cases_lt i (at + count)) [
          | inl lt ↦ kept_inside i le lt
          | inr past ↦ kept_outside i (λ le' lt'. omega arith) ∙ elsewhere i outside (λ le' lt'. omega arith)
        ]
      ];
    };
    same = record { long = sym kept_long; same = λ i out. sym (kept_outside i out.0) };
  }

-- a write that was done, one of which nothing was done, and one that was done in part
pub touched_by_write : (old : Content) (at : ℕ) (bytes : List ℕ) → at + length bytes ≤ length old.bytes → Touched ((at, length bytes) ∷ []) old (written at bytes old)
touched_by_write old at bytes fits = record { bytes = same_outside-put old.bytes at bytes fits; unsettled = λ i out was. (out.0, was) }

pub touched_by_nothing : (ranges : List (ℕ × ℕ)) (old : Content) → Touched ranges old old
touched_by_nothing ranges old = record { bytes = record { long = refl; same = λ i out. refl }; unsettled = λ i out was. was }

pub touched_by_loss : (old : Content) (at count : ℕ) → Touched ((at, count) ∷ []) old (record { bytes = old.bytes; unsettled = (at, count) ∷ old.unsettled })
touched_by_loss old at count = record { bytes = record { long = refl; same = λ i out. refl }; unsettled = λ i out was. (out.0, was) }

pub touched_by_barrier : (old : Content) → Touched [] old (settled old)
touched_by_barrier old = record { bytes = record { long = refl; same = λ i out. refl }; unsettled = λ i out was. tt }

pub outside-append : (rs ss : List (ℕ × ℕ)) (i : ℕ) → IsOutside (rs ++ ss) i → IsOutside rs i × IsOutside ss i
outside-append [] ss i out = (tt, out)
outside-append (r ∷ rs) ss i out = let rest = outside-append rs ss i out.1 in ((out.0, rest.0), rest.1)

-- one after the other
pub touched_both : (rs ss : List (ℕ × ℕ)) (old mid new : Content) → Touched rs old mid → Touched ss mid new → Touched (ss ++ rs) old new
touched_both rs ss old mid new a b = record {
  bytes = record {
    long = b.bytes.long ∙ a.bytes.long;
    same = λ i out. let both = outside-append ss rs i out in b.bytes.same i both.0 ∙ a.bytes.same i both.1;
  };
  unsettled = λ i out was. let both = outside-append ss rs i out in b.unsettled i both.0 (a.unsettled i both.1 was);
}

-- what may be left afterwards has the old bytes outside the ranges and all that was unsettled
pub left_after : (ranges : List (ℕ × ℕ)) (old new : Content) → Touched ranges old new → (image : List ℕ) → MayLeave new image → (i : ℕ) → IsOutside ranges i → IsOutside old.unsettled i → get_or image i 0 ≡ get_or old.bytes i 0
left_after ranges old new touched image left i out was = left.same i (touched.unsettled i out was) ∙ touched.bytes.same i out

-- if nothing was unsettled
pub left_clean : (ranges : List (ℕ × ℕ)) (old new : Content) → Touched ranges old new → old.unsettled ≡ [] → (image : List ℕ) → MayLeave new image → SameOutside ranges old.bytes image
left_clean ranges old new touched none image left = record {
  long = left.long ∙ touched.bytes.long;
  same = λ i out. left_after ranges old new touched image left i out (subst (λ rs. IsOutside rs i) (sym none) tt);
}

-- if nothing was written
pub left_before : (old new : Content) → Touched [] old new → (image : List ℕ) → MayLeave new image → MayLeave old image
left_before old new touched image left = record { long = left.long ∙ touched.bytes.long; same = λ i out. left_after [] old new touched image left i tt out }

pub same_bytes : (old new : Content) → Touched [] old new → new.bytes ≡ old.bytes
same_bytes old new touched = ext_get_or 0 new.bytes old.bytes touched.bytes.long (λ i lt. touched.bytes.same i tt)

pub outside-both : (rs ss : List (ℕ × ℕ)) (i : ℕ) → IsOutside rs i → IsOutside ss i → IsOutside (rs ++ ss) i
outside-both [] ss i out out' = out'
outside-both (r ∷ rs) ss i out out' = (out.0, outside-both rs ss i out.1 out')

-- what may be left during several calls that touch these ranges of the first content
pub left_partly : (ranges : List (ℕ × ℕ)) (old new : Content) → Touched ranges old new → (image : List ℕ) → MayLeave new image → MayLeave (partly ranges old) image
left_partly ranges old new touched image left = record {
  long = left.long ∙ touched.bytes.long;
  same = λ i out. let both = outside-append ranges old.unsettled i out in left_after ranges old new touched image left i both.0 both.1;
}

-- the same when further ranges are touched from there
pub left_partly_on : (all more : List (ℕ × ℕ)) (old mid : Content) → Touched all old mid → ((i : ℕ) → IsOutside all i → IsOutside more i) → (image : List ℕ) → MayLeave (partly more mid) image → MayLeave (partly all old) image
left_partly_on all more old mid touched within image left = record {
  long = left.long ∙ touched.bytes.long;
  same = λ i out.
      let both = outside-append all old.unsettled i out in
      left.same i (outside-both more mid.unsettled i (within i both.0) (touched.unsettled i both.0 both.1)) ∙ touched.bytes.same i both.0;
}

pub touched_within : (all more : List (ℕ × ℕ)) (old mid new : Content) → Touched all old mid → ((i : ℕ) → IsOutside all i → IsOutside more i) → Touched more mid new → Touched all old new
touched_within all more old mid new a within b = record {
  bytes = record { long = b.bytes.long ∙ a.bytes.long; same = λ i out. b.bytes.same i (within i out) ∙ a.bytes.same i out };
  unsettled = λ i out was. b.unsettled i (within i out) (a.unsettled i out was);
}

-- a touch of nothing before or after
pub touched_after_nothing : (ranges : List (ℕ × ℕ)) (old mid new : Content) → Touched [] old mid → Touched ranges mid new → Touched ranges old new
touched_after_nothing ranges old mid new a b = record {
  bytes = record { long = b.bytes.long ∙ a.bytes.long; same = λ i out. b.bytes.same i out ∙ a.bytes.same i tt };
  unsettled = λ i out was. b.unsettled i out (a.unsettled i tt was);
}

pub touched_wider : (ranges : List (ℕ × ℕ)) (old new : Content) → Touched [] old new → Touched ranges old new
touched_wider ranges old new a = record { bytes = record { long = a.bytes.long; same = λ i out. a.bytes.same i tt }; unsettled = λ i out was. a.unsettled i tt was }

-- a call and a barrier after it
pub with_barrier : {before between now : ℕ} {past mid_since since : ℕ → List ℕ → Type 0} {P Q : List ℕ → Type 0} (mid new : Content) → ((image : List ℕ) → Q image → P image) → ((image : List ℕ) → MayLeave mid image → P image)
    → Elapses before between past mid_since Q → Touched [] mid new → Elapses between now mid_since since (MayLeave new) → Elapses before now past since P
with_barrier mid new during after first touched second = then (weaker during first) (weaker (λ image left. after image (left_before mid new touched image left)) second)
