-- What a medium shows, and what its calls do to that.
use Rattle.std.specs.Prelude.{ℕ, ◌≡◌, Bool, IsTrue, List, Result}
use Rattle.mars_base.specs.Causes.{HasCause}
use Rattle.mars_base.specs.Moments.{Elapses}
use Rattle.pcm_media.specs.Images.{Content, MayLeave, Touched, partly}

-- Its length in bytes; its content; the moment; whether a loss of power at this moment or a later one might have left this
-- image; how often it has failed; and what was done so far on the device, where that is another's work (else nothing).
pub record View : Type 1 where
  pub size : ℕ
  pub content : Content
  pub moment : ℕ
  pub left_since : ℕ → List ℕ → Type 0
  pub faults : ℕ
  pub device : Content

-- from one view to a later one, each image that is new among those that might have been left has P
abbrev pub LeavesOnly : (List ℕ → Type 0) → View → View → Type 0
LeavesOnly P old new = Elapses old.moment new.moment old.left_since new.left_since P

-- What a call does, whatever it answers: it writes at most these ranges, and a loss of power during it leaves what it might
-- have left before, except for bytes in these ranges. Failures are counted, and nothing else is. What is another's to do on the device
-- stays so.
pub record Writes {T E : Type 0} (tells : Bool) (ranges : List (ℕ × ℕ)) (old new : View) (result : Result T E) : Type 0 where
  pub size : new.size ≡ old.size
  pub cause : HasCause old.faults new.faults result
  pub device : new.device ≡ old.device
  pub touched : IsTrue tells → Touched ranges old.content new.content
  pub time : IsTrue tells → LeavesOnly (MayLeave (partly ranges old.content)) old new
