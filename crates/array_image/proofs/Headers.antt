-- The header stays: only `format` writes into the first 512 bytes.
use Rattle.std.proofs.Common.{◌≡◌, ℕ, ◌<◌, List, [], ◌∷◌, ◌++◌, arith}
use Rattle.mars_base.specs.Bytes.{range}
use Rattle.pcm_media.specs.Images.{Content, MayLeave, SameOutside, IsOutside, partly}
use Rattle.pcm_media.proofs.Left.{outside-both}
use Rattle.pcm_media.proofs.Ranges.{range_away}
use Rattle.array_shape.specs.declared.shape.Shape.{Shape}
use Rattle.array_shape.specs.Logged.{Part, places_of}

-- these ranges lie behind the header
abbrev pub AreBehind : List (ℕ × ℕ) → Type 0
AreBehind ranges = (i : ℕ) → i < 512 → IsOutside ranges i

pub places_behind : (shape : Shape) (ps : List Part) → AreBehind (places_of shape ps)
places_behind shape [] i lt = tt
places_behind shape (p ∷ ps) i lt = ((λ from below. omega arith), places_behind shape ps i lt)

pub behind-append : (rs ss : List (ℕ × ℕ)) → AreBehind rs → AreBehind ss → AreBehind (rs ++ ss)
behind-append rs ss out out' i lt = outside-both rs ss i (out i lt) (out' i lt)

pub header_stays : (ranges : List (ℕ × ℕ)) (old new : List ℕ) → AreBehind ranges → SameOutside ranges old new → range new 0 512 ≡ range old 0 512
header_stays ranges old new behind same = range_away ranges old new 0 512 same (λ i le lt. behind i (omega arith))

-- each image that may be left during writes behind the header has it, if it was settled before them
pub header_left : (ranges : List (ℕ × ℕ)) (old : Content) (image : List ℕ) → AreBehind ranges → AreBehind old.unsettled → MayLeave (partly ranges old) image → range image 0 512 ≡ range old.bytes 0 512
header_left ranges old image behind sure left = header_stays (ranges ++ old.unsettled) old.bytes image (behind-append ranges old.unsettled behind sure) left
