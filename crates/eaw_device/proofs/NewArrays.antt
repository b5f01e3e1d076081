-- What a new array opens as, and what making one may leave.
use Rattle.std.proofs.Common.{◌≡◌, ◌⊎◌, ℕ, ◌+◌, ◌-◌, ◌<◌, ◌≤◌, Bool, false, true, inl, inr, ⊎_elim, List, [], ◌∷◌, length, get_or, take, replicate, refl, sym, ◌∙◌, ap, subst, arith}
use Rattle.std.specs.Prelude.{nat_eq}
use Rattle.std.specs.Cmp.Lexicographic.{pointwise, same_text, other_text}
use Rattle.std.proofs.lemmas.Bool.{cases_lt}
use Rattle.std.proofs.lemmas.List.{ext_get_or, get_or-take, take-take}
use Rattle.mars_base.specs.Bytes.{put, range}
use Rattle.mars_base.proofs.Puts.{get_or-put_inside}
use Rattle.mars_base.proofs.Going.{weaker}
use Rattle.pcm_media.specs.Images.{Content, MayLeave, SameOutside, IsOutside, partly, settled, written}
use Rattle.pcm_media.specs.View.{View, LeavesOnly}
use Rattle.pcm_media.proofs.Left.{same_outside-put}
use Rattle.pcm_media.proofs.Ranges.{length-range, get_or-range, range_away, range-put}
use Rattle.array_shape.specs.declared.shape.Shape.{Shape}
use Rattle.array_shape.specs.Places.{media_len}
use Rattle.row_bytes.specs.Header.{mark, HasMark, SaysShape, header_bytes}
use Rattle.row_bytes.specs.Said.{row_said}
use Rattle.row_bytes.proofs.Heading.{header_bytes-says, mark_told}
use Rattle.array_image.specs.Image.{data_of}
use Rattle.array_image.proofs.Frames.{left_sure}
use Rattle.eaw_device.specs.Opens.{header_of}
use Rattle.eaw_device.specs.Attaching.{AllOpenWith}
use Rattle.eaw_device.specs.Made.{IsMade, IsNew, IsNoArray, IsOldOrNew, LeavesAsRead, HasParts, behind_mark}
use Rattle.eaw_device.proofs.Cells.{unvoted_clean}
use Rattle.eaw_device.proofs.MadeLemmas.{header_parts}
use Rattle.eaw_device.proofs.OpeningLemmas.{clean_opens}

-- if nothing is unsettled, a loss of power leaves what a read gives
pub settled_as_read : (content : Content) → content.unsettled ≡ [] → LeavesAsRead content
settled_as_read content none image left = ext_get_or 0 image content.bytes left.long (λ i lt. left.same i (subst (λ us. IsOutside us i) (sym none) tt))

-- a row of zeros is not voted
zero_row : (row_said (replicate 16 0)).voted ≡ false
unfolding row_said
zero_row = refl

pub made_opens : (shape : Shape) (said : ℕ → List ℕ) (content : Content) → length content.bytes ≡ media_len shape → IsMade shape said content → AllOpenWith shape content (data_of shape content.bytes)
made_opens shape said content long made =
    let sure = settled_as_read content made.settled in
    clean_opens shape content
    (unvoted_clean shape content long made.settled (λ g t lt below. ap (λ (b : List ℕ). (row_said b).voted) (made.parts.rows g t lt below) ∙ zero_row))
    (λ image left. subst (λ (h : List ℕ). SaysShape h shape) (sym (ap header_of (sure image left) ∙ made.header)) (header_bytes-says shape))

-- an image whose header is that of the shape, with the rows and pages, is the new array
pub is_new : (shape : Shape) (said : ℕ → List ℕ) (image : List ℕ) → length image ≡ media_len shape → header_of image ≡ header_bytes shape → HasParts shape said image → IsNew shape said image
is_new shape said image long header parts =
    let content : Content = record { bytes = image; unsettled = [] } in
    (made_opens shape said content long (record { settled = refl; header = header; parts = parts }) image (record { long = refl; same = λ i out. refl }), parts)

-- the mark is the first bytes of the header
pub mark_of : (image : List ℕ) → take 8 (header_of image) ≡ range image 0 8
mark_of image = take-take 8 512 image (omega arith)

-- an image has the mark, or has it not
told_marked : (bytes : List ℕ) (r : Bool) → r ≡ pointwise nat_eq mark (take 8 bytes) → HasMark bytes ⊎ ¬ HasMark bytes
told_marked bytes true is = inl (mark_told bytes true is)
told_marked bytes false is = inr (mark_told bytes false is)

is_marked : (image : List ℕ) → HasMark (header_of image) ⊎ IsNoArray image
is_marked image = told_marked (header_of image) (pointwise nat_eq mark (take 8 (header_of image))) refl

-- the header that is written has the mark
pub has_mark : (shape : Shape) (header : List ℕ) → header ≡ header_bytes shape → HasMark header
has_mark shape header is = subst HasMark (sym is) (header_bytes-says shape).has_mark

-- the bytes of a mark
mark_byte : (image : List ℕ) (i : ℕ) → i < 8 → HasMark (header_of image) → get_or image i 0 ≡ get_or mark i 0
mark_byte image i lt has = let at : i ≡ 0 + i = omega arith in ap (λ (k : ℕ). get_or image k 0) at ∙ sym (get_or-range image 0 8 i lt) ∙ ap (λ (l : List ℕ). get_or l i 0) (sym (mark_of image) ∙ has)

-- the header of an image that has the mark and the numbers of this one
header_joined : (header image : List ℕ) → length header ≡ 512 → HasMark header → 512 ≤ length image → HasMark (header_of image) → range image 8 504 ≡ range header 8 504 → header_of image ≡ header
header_joined header image size marked fits has numbers = ext_get_or 0 (header_of image) header (length-range image 0 512 fits ∙ sym size)
    (λ i lt. let small : i < 512 = omega (arith, lt, length-range image 0 512 fits) in
    let at : 0 + i ≡ i = omega arith in
    get_or-range image 0 512 i small ∙ ap (λ (k : ℕ). get_or image k 0) at ∙ one i small (cases_lt i 8))
  where
    one : (i : ℕ) → i < 512 → (i < 8) ⊎ (8 ≤ i) → get_or image i 0 ≡ get_or header i 0
    one i small (inl front) = mark_byte image i front has ∙ sym (ap (λ (l : List ℕ). get_or l i 0) marked) ∙ get_or-take 8 header i 0 front
    one i small (inr behind) =
        let at : i ≡ 8 + (i - 8) = omega (arith, behind) in
        let below : i - 8 < 504 = omega (arith, behind, small) in
        ap (λ (k : ℕ). get_or image k 0) at ∙ sym (get_or-range image 8 504 (i - 8) below)
        ∙ ap (λ (l : List ℕ). get_or l (i - 8) 0) numbers
        ∙ get_or-range header 8 504 (i - 8) below ∙ sym (ap (λ (k : ℕ). get_or header k 0) at)

-- what begins with a zero has no mark
zero_first : (image : List ℕ) → get_or image 0 0 ≡ 0 → IsNoArray image
zero_first image zero has = let e : 0 ≡ 77 = sym zero ∙ mark_byte image 0 (omega arith) has in omega (arith, e)

-- a mark that was written over
pub mark_dropped : (old : Content) → 512 ≤ length old.bytes → IsNoArray (put old.bytes 0 (replicate 8 0))
mark_dropped old fits = zero_first (put old.bytes 0 (replicate 8 0)) (get_or-put_inside old.bytes 0 (replicate 8 0) (omega arith) 0 (omega arith) (omega arith))

-- what is read where a mark may be, and compared with that of the header
module _ (header image found : List ℕ) (marked : HasMark header) (size : length found ≡ 8) (is : found ≡ range image 0 8) where
  whole_mark : take (length found) header ≡ mark
  whole_mark = ap (λ (n : ℕ). take n header) size ∙ marked

  pub one_mark : true ≡ pointwise nat_eq found (take (length found) header) → HasMark (header_of image)
  one_mark same = mark_of image ∙ sym is ∙ same_text found (take (length found) header) same ∙ whole_mark

  pub no_mark : false ≡ pointwise nat_eq found (take (length found) header) → IsNoArray image
  no_mark other has = other_text found (take (length found) header) other (is ∙ sym (mark_of image) ∙ has ∙ sym whole_mark)

-- while the mark of an array is written over, an image that has it is as it could be left before
still_old : (old : Content) (image : List ℕ) → HasMark (header_of old.bytes) → MayLeave (partly ((0, 8) ∷ []) old) image → MayLeave old image ⊎ IsNoArray image
still_old old image marked left = ⊎_elim
    (λ has. inl (record {
      long = left.long;
      same = λ i out. elim (cases_lt i 8) [
        | inl front ↦ mark_byte image i front has ∙ sym (mark_byte old.bytes i front marked)
        | inr behind ↦ left.same i ((λ le lt. omega (arith, behind, lt)), out)
      ];
    }))
    (λ none. inr none) (is_marked image)

pub mark_left : (old new : View) → HasMark (header_of old.content.bytes) → LeavesOnly (MayLeave (partly ((0, 8) ∷ []) old.content)) old new → LeavesOnly (λ image. MayLeave old.content image ⊎ IsNoArray image) old new
mark_left old new marked time = weaker (λ image left. still_old old.content image marked left) time

-- what is written behind the mark does not make an array of what is none
unmarked : (shape : Shape) (old : Content) (image : List ℕ) → old.unsettled ≡ [] → IsNoArray old.bytes → MayLeave (partly (behind_mark shape) old) image → IsNoArray image
unmarked shape old image none dropped left has =
    let same = left_sure old (behind_mark shape) image (λ i. subst (λ (us : List (ℕ × ℕ)). IsOutside us i) (sym none) tt) left in
    let marks : range image 0 8 ≡ range old.bytes 0 8 = range_away (behind_mark shape) old.bytes image 0 8 same (λ i le lt. ((λ from to. omega arith), tt)) in
    dropped (mark_of old.bytes ∙ sym marks ∙ sym (mark_of image) ∙ has)

pub parts_left : (shape : Shape) (old new : View) → old.content.unsettled ≡ [] → IsNoArray old.content.bytes → LeavesOnly (MayLeave (partly (behind_mark shape) old.content)) old new → LeavesOnly IsNoArray old new
parts_left shape old new none dropped time = weaker (λ image left. unmarked shape old.content image none dropped left) time

module _ (shape : Shape) (said : ℕ → List ℕ) (old : Content) (header : List ℕ) (long : length old.bytes ≡ media_len shape) (size : length header ≡ 512) (is : header ≡ header_bytes shape)
    (parts : HasParts shape said old.bytes) (numbers : range old.bytes 8 504 ≡ range header 8 504) where
  marked : HasMark header
  marked = has_mark shape header is

  -- an image of all but the mark, with the mark
  with_mark : (image : List ℕ) → SameOutside ((0, 8) ∷ []) old.bytes image → HasMark (header_of image) → header_of image ≡ header_bytes shape
  with_mark image same has = header_joined header image size marked (omega (arith, same.long, long)) has
      (range_away ((0, 8) ∷ []) old.bytes image 8 504 same (λ i le lt. ((λ from to. omega arith), tt)) ∙ numbers) ∙ is

  its_parts : (image : List ℕ) → SameOutside ((0, 8) ∷ []) old.bytes image → HasParts shape said image
  its_parts image same = header_parts shape said ((0, 8) ∷ []) old.bytes image (λ i le. ((λ from to. omega arith), tt)) same parts

  -- while the mark is written over all else
  none_or_new : (image : List ℕ) → old.unsettled ≡ [] → MayLeave (partly ((0, 8) ∷ []) old) image → IsNoArray image ⊎ IsNew shape said image
  none_or_new image none left =
      let same = left_sure old ((0, 8) ∷ []) image (λ i. subst (λ (us : List (ℕ × ℕ)). IsOutside us i) (sym none) tt) left in
      ⊎_elim (λ has. inr (is_new shape said image (same.long ∙ long) (with_mark image same has) (its_parts image same))) (λ bare. inl bare) (is_marked image)

  size_of_mark : length (take 8 header) ≡ 8
  size_of_mark = ap length marked

  -- and when it is written
  pub made_with : IsMade shape said (settled (written 0 (take 8 header) old))
  made_with =
      let fits : 0 + length (take 8 header) ≤ length old.bytes = omega (arith, size_of_mark, long) in
      let new = put old.bytes 0 (take 8 header) in
      let same : SameOutside ((0, 8) ∷ []) old.bytes new = subst (λ k. SameOutside ((0, k) ∷ []) old.bytes new) size_of_mark (same_outside-put old.bytes 0 (take 8 header) fits) in
      let has : HasMark (header_of new) = mark_of new ∙ range-put old.bytes (take 8 header) 0 8 (sym size_of_mark) fits ∙ marked in
      record { settled = refl; header = with_mark new same has; parts = its_parts new same }

pub new_left : (shape : Shape) (said : ℕ → List ℕ) (old new : View) (header : List ℕ) → length old.content.bytes ≡ media_len shape → length header ≡ 512 → header ≡ header_bytes shape
    → HasParts shape said old.content.bytes → range old.content.bytes 8 504 ≡ range header 8 504 → old.content.unsettled ≡ []
    → LeavesOnly (MayLeave (partly ((0, 8) ∷ []) old.content)) old new → LeavesOnly (λ image. IsNoArray image ⊎ IsNew shape said image) old new
new_left shape said old new header long size is parts numbers none time = weaker (λ image left. none_or_new shape said old.content header long size is parts numbers image none left) time

-- one step after another
pub old_left : (shape : Shape) (said : ℕ → List ℕ) (old new : View) → LeavesOnly (λ image. MayLeave old.content image ⊎ IsNoArray image) old new → LeavesOnly (IsOldOrNew shape said old.content) old new
old_left shape said old new time = weaker (λ image. ⊎_elim (λ was. inl was) (λ none. inr (inl none))) time

pub none_left : (shape : Shape) (said : ℕ → List ℕ) (first : Content) (old new : View) → LeavesOnly IsNoArray old new → LeavesOnly (IsOldOrNew shape said first) old new
none_left shape said first old new time = weaker (λ image none. inr (inl none)) time

pub last_left : (shape : Shape) (said : ℕ → List ℕ) (first : Content) (old new : View) → LeavesOnly (λ image. IsNoArray image ⊎ IsNew shape said image) old new → LeavesOnly (IsOldOrNew shape said first) old new
last_left shape said first old new time = weaker (λ image some. inr some) time
