-- What a medium that serves reads from memory shows.
use Rattle.std.specs.Prelude.{ℕ, ◌+◌, ◌-◌, ◌/◌, ◌^◌, ◌<◌, ◌≤◌, ◌≡◌, nat_le, ◌&&◌, min, Bool, IsTrue, List, length, get_or, slice_index, Result, IsOk, OnOk, OnErr, ◌↔◌}
use Rattle.std.proofs.Common.{⊎_elim, arith}
use Rattle.mars_base.specs.Causes.{next_count}
use Rattle.mars_base.specs.Moments.{Ticks}
use Rattle.pcm_media.specs.Images.{MayLeave}
use Rattle.pcm_media.specs.View.{View, Writes}
use Rattle.resident_media.specs.Past.{Past, LeftSince, IsWide, content_of, with_moment}
use Rattle.resident_media.specs.Blocks.{Kept, Holds, AreKnown, byte_at, fresh, end_block}

-- the medium below; what it keeps of the first bytes; its own moment; how many calls it failed by itself; and what was noted of its calls
pub record Resident (M : Type 0) : Type 0 where
  pub inner : M
  pub kept : Kept
  pub moment : ℕ
  pub faults : ℕ
  pub past : Past

-- The view over a medium with view `inner`: its bytes, and more ranges may be unsettled, since a spared write does not reach it.
abbrev pub over : View → Past → ℕ → ℕ → View
over inner past moment faults = record {
  size = inner.size;
  content = content_of inner past;
  moment = moment;
  left_since = LeftSince inner past moment;
  faults = inner.faults + faults;
  device = inner.device;
}

abbrev pub shown : {M : Type 0} → (M → View) → Resident M → View
shown view r = over (view r.inner) r.past r.moment r.faults

-- A call below does what a call of a medium does.
pub record Called {M T E : Type 0} (tells : Bool) (view : M → View) (promises : M → ℕ → ℕ → Bool) (ranges : List (ℕ × ℕ)) (count : ℕ) (old new : M) (result : Result T E) : Type 0 where
  pub does : Writes tells ranges (view old) (view new) result
  pub ticks : Ticks (view old).moment (view new).moment result
  pub steady : (calls more : ℕ) → IsTrue (promises old (calls + 1) (count + more)) → IsOk result × IsTrue (promises new calls more)

-- no call below
abbrev pub Served : {M T E : Type 0} → M → M → Result T E → Type 0
Served old new result = (new ≡ old) × IsOk result

-- Moments and contents that were noted are as many as there were, and no moment is above that of the medium below, which is at most its own. What is
-- unsettled below is unsettled in what is shown. Kept are the first bytes, and those in known blocks are what a read gives. Room for a read of
-- all of them is reserved.
pub record Lies (tells : Bool) (inner : View) (kept : Kept) (capacity moment : ℕ) (past : Past) : Type 0 where
  pub count : length past.stood ≡ moment
  pub before : length past.seen ≡ moment
  pub below : (t : ℕ) → t < length past.stood → get_or past.stood t 0 ≤ inner.moment
  pub later : inner.moment ≤ moment
  pub wide : IsTrue tells → IsWide past inner
  pub fits : kept.len ≤ inner.size
  pub reserved : kept.len ≤ capacity
  pub holds : IsTrue tells → Holds kept inner.content.bytes

-- The medium below promises one call for each call promised here and for each that was served from memory, which are what the moments differ by;
-- and so with the bytes of writes.
abbrev pub is_steady : {M : Type 0} → (M → View) → (M → ℕ → ℕ → Bool) → Resident M → ℕ → ℕ → Bool
is_steady view steady r calls more = nat_le (r.moment + calls) (2 ^ 64 - 1) && steady r.inner (calls + (r.moment - (view r.inner).moment)) (more + r.past.spared)

-- since now, nothing is left but what may be left now
pub only_over : (inner : View) (past : Past) (moment faults : ℕ) (image : List ℕ) → (over inner past moment faults).left_since moment image → MayLeave (content_of inner past) image
only_over inner past moment faults image left = ⊎_elim (λ earlier. absurd (omega (arith, earlier.0))) (λ now. now) left

-- A step of its own moment: what stands below and what is shown is noted. At the last value it fails.
pub record IsTicked {M T E : Type 0} (tells : Bool) (view : M → View) (old new : Resident M) (result : Result T E) : Type 0 where
  pub inner : new.inner ≡ old.inner
  pub kept : new.kept ≡ old.kept
  pub low : OnOk result (old.moment < 2 ^ 64 - 1)
  pub moment : OnOk result (new.moment ≡ old.moment + 1)
  pub faults : OnOk result (new.faults ≡ old.faults)
  pub noted : OnOk result (new.past ≡ with_moment (view old.inner) old.past)
  pub last : OnErr result (old.moment ≡ 2 ^ 64 - 1)
  pub stays : OnErr result ((new.moment ≡ old.moment) × (new.past ≡ old.past))
  pub counted : OnErr result (new.faults ≡ next_count old.faults)
  pub risen : old.faults ≤ new.faults
  pub later : (view old.inner).moment ≤ old.moment
  pub count : length old.past.stood ≡ old.moment
  pub before : length old.past.seen ≡ old.moment
  pub below : (t : ℕ) → t < length old.past.stood → get_or old.past.stood t 0 ≤ (view old.inner).moment
  pub wide : IsTrue tells → IsWide old.past (view old.inner)

-- One that was made shows what the medium below does, and knows no block.
pub record IsAnew {M : Type 0} (tells : Bool) (view : M → View) (inner : M) (limit : ℕ) (new : Resident M) : Type 0 where
  pub inner_is : new.inner ≡ inner
  pub moment : new.moment ≡ (view inner).moment
  pub faults : new.faults ≡ 0
  pub spared : new.past.spared ≡ 0
  pub content : (shown view new).content ≡ (view inner).content
  pub left : IsTrue tells → (t : ℕ) (image : List ℕ) → t ≤ (view inner).moment → (shown view new).left_since t image ↔ (view inner).left_since t image
  pub kept : new.kept ≡ fresh (min (view inner).size limit) (end_block 0 (min (view inner).size limit))

-- the same by what it was and what it is, when it did not fail
pub record Stepped {M : Type 0} (tells : Bool) (view : M → View) (old new : Resident M) : Type 0 where
  pub inner : new.inner ≡ old.inner
  pub kept : new.kept ≡ old.kept
  pub low : old.moment < 2 ^ 64 - 1
  pub moment : new.moment ≡ old.moment + 1
  pub faults : new.faults ≡ old.faults
  pub noted : new.past ≡ with_moment (view old.inner) old.past
  pub later : (view old.inner).moment ≤ old.moment
  pub count : length old.past.stood ≡ old.moment
  pub before : length old.past.seen ≡ old.moment
  pub below : (t : ℕ) → t < length old.past.stood → get_or old.past.stood t 0 ≤ (view old.inner).moment
  pub wide : IsTrue tells → IsWide old.past (view old.inner)

-- so many bytes from a place on are kept, and their blocks are known
abbrev pub Knows : {M : Type 0} → Resident M → ℕ → ℕ → Type 0
Knows r at count = (at + count ≤ r.kept.len) × AreKnown r.kept.known (at / 16384) (end_block at count)

-- these bytes are kept from a place on
abbrev pub AreThere : Kept → ℕ → List ℕ → Type 0
AreThere kept at bytes = (i : ℕ) → i < length bytes → byte_at kept (at + i) ≡ slice_index bytes i

-- The bytes to be written stand there already, in known blocks: no call below.
pub record IsSpared {M : Type 0} (at : ℕ) (bytes : List ℕ) (old new : Resident M) : Type 0 where
  pub inner : new.inner ≡ old.inner
  pub kept : new.kept ≡ old.kept
  pub known : Knows old at (length bytes)
  pub same : AreThere old.kept at bytes
