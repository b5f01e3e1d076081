-- What the calls of a file that serve one call of the medium do.
use Rattle.std.specs.Prelude.{ℕ, ◌+◌, ◌<◌, ◌⊎◌, List}
use Rattle.pcm_media.specs.Images.{MayLeave, Touched, partly}
use Rattle.media_file.specs.Past.{Past, held, LeftSince, AreBefore}

-- No call is later than this moment, and the bytes written lie in these ranges. Nothing that might have been left since an
-- earlier moment is forgotten, and what is new of it differs in these ranges alone.
pub record Serves (moment : ℕ) (ranges : List (ℕ × ℕ)) (old new : Past) : Type 0 where
  pub touched : Touched ranges (held old) (held new)
  pub before : AreBefore (moment + 1) new.calls
  pub keeps : (t : ℕ) (image : List ℕ) → t < moment → LeftSince old t image → LeftSince new t image
  pub only : (t : ℕ) (image : List ℕ) → t < moment → LeftSince new t image → LeftSince old t image ⊎ MayLeave (partly ranges (held old)) image
