-- Calls that all succeeded, at the end of a function.
use Rattle.std.proofs.Common.{ℕ, Bool, List, Result, Ok}
use Rattle.pcm_media.specs.View.{View, Writes}
use Rattle.array_image.proofs.Calls.{SoFar}

pub all_done : {T E : Type 0} (tells : Bool) (ranges : List (ℕ × ℕ)) (old now : View) (x : T) → SoFar tells ranges old now → (let r : Result T E = Ok x in Writes tells ranges old now r)
all_done tells ranges old now x so_far = record { size = so_far.size; device = so_far.device; cause = record { later = so_far.cause.later; failed = tt; kept = so_far.cause.kept }; touched = so_far.touched; time = so_far.time }
