-- What may be left of an array whose cells, or whose places behind the header, are written.
use Rattle.std.proofs.Common.{◌≡◌, ℕ, ◌+◌, ◌<◌, ◌≤◌, Bool, false, inl, inr, ⊎_elim, List, length, get_or, take, Result, sym, ◌∙◌, ap, subst, arith}
use Rattle.std.specs.Prelude.{IsTrue}
use Rattle.std.proofs.lemmas.Bool.{cases_lt}
use Rattle.std.proofs.lemmas.List.{ext_get_or, get_or-take, length-take-le}
use Rattle.mars_base.proofs.Going.{weaker}
use Rattle.mars_base.specs.Bytes.{range, put}
use Rattle.pcm_media.specs.Images.{Content, MayLeave, Touched, partly}
use Rattle.pcm_media.specs.View.{View, Writes, LeavesOnly}
use Rattle.pcm_media.proofs.Left.{left_partly, outside-both}
use Rattle.mars_base.proofs.Puts.{length-put, get_or-put_inside, get_or-put_after}
use Rattle.pcm_media.proofs.Ranges.{length-range, get_or-range}
use Rattle.array_shape.specs.declared.shape.Shape.{Shape}
use Rattle.array_shape.specs.Places.{media_len}
use Rattle.row_bytes.specs.Header.{SaysShape}
use Rattle.array_image.specs.Standing.{IsEither, StandsFor}
use Rattle.array_image.proofs.Frames.{AllWithin}
use Rattle.array_image.proofs.Calls.{both_left}
use Rattle.array_image.proofs.Headers.{AreBehind}
use Rattle.eaw_device.proofs.Cells.{AreInCells, staged_data, staging_left, staging_waits}
use Rattle.eaw_face.specs.Does as face
use Rattle.eaw_device.specs.Opens.{header_of, Opens}
use Rattle.write_back.specs.Steps.{WritesBehind}
use Rattle.write_back.specs.declared.queue.LateCommits.{LateCommits}
use Rattle.write_back.specs.Waiting.{AreWaiting, data_with}
use Rattle.write_back.specs.Spared.{AreSpared}
use Rattle.write_back.specs.declared.commits.LateData.{LateData}
use Rattle.eaw_device.specs.Laws.{alive_shown}
use Rattle.eaw_device.specs.Sound.{IsSure, shown}

-- an image that is left during writes behind the header has a header that was left before them
module _ (shape : Shape) (ranges : List (ℕ × ℕ)) (old : Content) (behind : AreBehind ranges) (long : 512 ≤ length old.bytes) (header : (image : List ℕ) → MayLeave old image → SaysShape (header_of image) shape)
    (image : List ℕ) (left : MayLeave (partly ranges old) image) where
  front : length (take 512 image) ≡ 512
  front = length-take-le 512 image (omega (arith, left.long))

  fits : 0 + length (take 512 image) ≤ length old.bytes
  fits = omega (arith, front)

  abbrev earlier : List ℕ
  earlier = put old.bytes 0 (take 512 image)

  inside : (i : ℕ) → i < 512 → get_or earlier i 0 ≡ get_or image i 0
  inside i lt = get_or-put_inside old.bytes 0 (take 512 image) fits i (omega arith) (omega (arith, front)) ∙ ap (λ (k : ℕ). get_or (take 512 image) k 0) (omega arith) ∙ get_or-take 512 image i 0 lt

  was : MayLeave old earlier
  was = record {
    long = length-put old.bytes 0 (take 512 image) fits;
    same = λ i out. elim (cases_lt i 512) [
      | inl lt ↦ inside i lt ∙ left.same i (outside-both ranges old.unsettled i (behind i lt) out)
      | inr past ↦ get_or-put_after old.bytes 0 (take 512 image) fits i (omega (arith, front))
    ];
  }

  same : header_of earlier ≡ header_of image
  same =
      let one = length-range earlier 0 512 (omega (arith, was.long)) in
      let two = length-range image 0 512 (omega (arith, left.long)) in
      ext_get_or 0 (range earlier 0 512) (range image 0 512) (one ∙ sym two) (λ i lt.
      let below : i < 512 = omega (arith, one) in
      get_or-range earlier 0 512 i below ∙ inside (0 + i) (omega arith) ∙ sym (get_or-range image 0 512 i below))

  pub header_kept : SaysShape (header_of image) shape
  header_kept = subst (λ (bytes : List ℕ). SaysShape bytes shape) same (header earlier was)

pub cells_behind : (shape : Shape) (ranges : List (ℕ × ℕ)) → AreInCells shape ranges → AreBehind ranges
cells_behind shape ranges in_cells i lt = in_cells i (λ g t e there small inside from to. omega arith)

-- writes into cells
module _ (shape : Shape) (ranges : List (ℕ × ℕ)) (in_cells : AreInCells shape ranges) (queue : LateCommits) (spared : AreSpared shape queue.cells ranges queue.ballots.items) (old : Content) (long : length old.bytes ≡ media_len shape) (within : AllWithin (media_len shape) ranges)
    (sure : IsSure shape queue old) where
  within_here : AllWithin (length old.bytes) ranges
  within_here = subst (λ (size : ℕ). AllWithin size ranges) (sym long) within

  pub cells_left : (image : List ℕ) → MayLeave (partly ranges old) image → Opens shape image (data_with shape queue old.bytes)
  cells_left image left = record {
    header = header_kept shape ranges old (cells_behind shape ranges in_cells) (omega (arith, long)) sure.header image left;
    stands = staging_left shape ranges in_cells queue spared old within_here sure.waiting image left;
  }

  pub cells_sure : (new : Content) → Touched ranges old new → IsSure shape queue new
  cells_sure new touched = record {
    waiting = staging_waits shape ranges in_cells queue spared old within_here sure.waiting new touched;
    header = λ image left. header_kept shape ranges old (cells_behind shape ranges in_cells) (omega (arith, long)) sure.header image (left_partly ranges old new touched image left);
  }

  pub cells_data : (new : Content) → Touched ranges old new → data_with shape queue new.bytes ≡ data_with shape queue old.bytes
  cells_data new touched = staged_data shape ranges in_cells queue spared old within_here sure.waiting new touched

-- during such writes the data stays
pub cells_time : (tells : Bool) (shape : Shape) (ranges : List (ℕ × ℕ)) → AreInCells shape ranges → AllWithin (media_len shape) ranges → (late : LateData) → AreSpared shape late.queue.cells ranges late.queue.ballots.items → (old new : View) {T E : Type 0} (r : Result T E) → Writes tells ranges old new r
    → IsTrue tells → length old.content.bytes ≡ media_len shape → IsSure shape late.queue old.content → (is_dead : Bool) → is_dead ≡ false → LeavesOnly (face.IsEither (Opens shape) (shown shape late is_dead old.content.bytes) (shown shape late is_dead old.content.bytes)) old new
cells_time tells shape ranges in_cells within late spared old new r does told long sure is_dead alive =
    subst (λ (d : List ℕ). LeavesOnly (face.IsEither (Opens shape) d d) old new) (sym (alive_shown shape late is_dead old.content.bytes alive))
    (weaker (λ image left. inl (cells_left shape ranges in_cells late.queue spared old.content long within sure image left)) (does.time told))

-- a commit
module _ (tells : Bool) (shape : Shape) (queue : LateCommits) (old new : View) {T E : Type 0} (r : Result T E) (does : WritesBehind tells old new r) (told : IsTrue tells) (long : length old.content.bytes ≡ media_len shape) (sure : IsSure shape queue old.content) where
  pub commit_time : (before after : List ℕ) → LeavesOnly (IsEither shape before after) old new → LeavesOnly (face.IsEither (Opens shape) before after) old new
  commit_time before after stands =
      weaker (λ image both. ⊎_elim (λ is. inl (record { header = both.1; stands = is })) (λ is. inr (record { header = both.1; stands = is })) both.0)
      (both_left stands (weaker (header_kept shape does.places old.content does.behind (omega (arith, long)) sure.header) (does.does.time told)))

  pub back_time : (data_then : List ℕ) → LeavesOnly (λ (image : List ℕ). StandsFor shape image data_then) old new → LeavesOnly (λ (image : List ℕ). Opens shape image data_then) old new
  back_time data_then stands = weaker (λ image both. record { header = both.1; stands = both.0 }) (both_left stands (weaker (header_kept shape does.places old.content does.behind (omega (arith, long)) sure.header) (does.does.time told)))

  pub commit_sure : (queue' : LateCommits) → AreWaiting shape queue' new.content → IsSure shape queue' new.content
  commit_sure queue' waiting = record {
    waiting = waiting;
    header = λ image left. header_kept shape does.places old.content does.behind (omega (arith, long)) sure.header image (left_partly does.places old.content new.content (does.does.touched told) image left);
  }
