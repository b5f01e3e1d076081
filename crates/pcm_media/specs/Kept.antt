-- What a medium in memory keeps of its calls.
use Rattle.std.specs.Prelude.{ℕ, ◌≡◌, ◌+◌, ◌-◌, ◌^◌, ◌<◌, ◌≤◌, ◌⊎◌, ◌==◌, ◌&&◌, nat_le, Bool, true, false, List, [], ◌∷◌, ◌++◌, length, Contains, Result, OnOk, OnErr, is_ok}
use Rattle.std.specs.Bool.{OnTrue, OnFalse}
use Rattle.mars_base.specs.Causes.{HasCause, next_count, faults_after}
use Rattle.mars_base.specs.Moments.{Ticks}
use Rattle.pcm_media.specs.declared.call.Call.{Call}
use Rattle.pcm_media.specs.Calls.{Record}
use Rattle.pcm_media.specs.Logged.{Logged}

-- Its calls, the oldest first, and the bytes of the writes that were done, one write after another; the moment; the numbers
-- of the calls that are to fail; how many calls failed; and how many calls and written bytes it has room for.
pub record Kept : Type 0 where
  pub records : List Record
  pub written : List ℕ
  pub moment : ℕ
  pub listed : List ℕ
  pub faults : ℕ
  pub calls_room : ℕ
  pub bytes_room : ℕ

-- no call yet, and room for this many calls and bytes
abbrev pub fresh_kept : ℕ → ℕ → Kept
fresh_kept calls bytes = record { records = []; written = []; moment = 0; listed = []; faults = 0; calls_room = calls; bytes_room = bytes }

-- the next call fails whatever it is: it is listed, or the moment is at its last value
abbrev pub MustFail : Kept → Type 0
MustFail kept = (kept.moment ≡ 2 ^ 64 - 1) ⊎ Contains kept.listed (kept.moment + 1)

-- there is room for one more call, which writes `count` bytes
abbrev pub HasRoom : Kept → ℕ → Type 0
HasRoom kept count = (length kept.records < kept.calls_room) × (length kept.written + count ≤ kept.bytes_room)

-- no call is listed, the moment can rise for this many more calls, and there is room for them and for the bytes that they write
abbrev pub has_room_for : Kept → ℕ → ℕ → Bool
has_room_for kept calls bytes = (length kept.listed == 0) && nat_le (kept.moment + calls) (2 ^ 64 - 1)
    && nat_le (length kept.records + calls) kept.calls_room && nat_le (length kept.written + bytes) kept.bytes_room

-- the kept calls with this one appended, stamped with the moment to which it raised
abbrev pub records_with : Kept → ℕ → Call → Bool → List Record
records_with kept moment call is_done = kept.records ++ record { moment = moment; call = call; is_done = is_done } ∷ []

-- the call was kept, with the bytes that it wrote, at a later moment
pub record IsKept (call : Call) (is_done : Bool) (bytes : List ℕ) (old new : Kept) : Type 0 where
  pub later : old.moment < new.moment
  pub records : new.records ≡ records_with old new.moment call is_done
  pub written : new.written ≡ old.written ++ bytes

-- no call was kept
pub record IsPassed (old new : Kept) : Type 0 where
  pub later : old.moment ≤ new.moment
  pub records : new.records ≡ old.records
  pub written : new.written ≡ old.written

-- A call was made, which wrote these bytes if it was done. It was kept if there was memory for that, and in any case if there
-- was room and the moment could rise.
pub record Makes {T E : Type 0} (call : Call) (bytes : List ℕ) (old new : Kept) (result : Result T E) : Type 0 where
  pub ticks : Ticks old.moment new.moment result
  pub faults : new.faults ≡ faults_after old.faults result
  pub cause : HasCause old.faults new.faults result
  pub done : OnOk result (IsKept call true bytes old new)
  pub failed : OnErr result (IsPassed old new ⊎ IsKept call false [] old new)
  pub kept : old.moment < 2 ^ 64 - 1 → length old.records < old.calls_room → new.records ≡ records_with old new.moment call (is_ok result)
  pub listed : new.listed ≡ old.listed
  pub calls_room : new.calls_room ≡ old.calls_room
  pub bytes_room : new.bytes_room ≡ old.bytes_room

-- the same, before a failure is counted
pub record Takes (call : Call) (bytes : List ℕ) (old new : Kept) (is_done : Bool) : Type 0 where
  pub must : MustFail old → is_done ≡ false
  pub only : HasRoom old (length bytes) → is_done ≡ false → MustFail old
  pub moment : new.moment ≡ next_count old.moment
  pub faults : new.faults ≡ old.faults
  pub done : OnTrue is_done (IsKept call true bytes old new)
  pub failed : OnFalse is_done (IsPassed old new ⊎ IsKept call false [] old new)
  pub kept : old.moment < 2 ^ 64 - 1 → length old.records < old.calls_room → new.records ≡ records_with old new.moment call is_done
  pub listed : new.listed ≡ old.listed
  pub calls_room : new.calls_room ≡ old.calls_room
  pub bytes_room : new.bytes_room ≡ old.bytes_room

-- There is room for the calls that are still promised it, and while all calls were kept they are as many as the moment says.
pub record IsRoomy (calls : Logged) (moment : ℕ) (is_cut : Bool) (calls_room : ℕ) : Type 0 where
  pub room : calls_room ≤ length calls.records + calls.room
  pub all : is_cut ≡ false → length calls.records ≡ moment
  pub cut : is_cut ≡ true → calls_room ≤ length calls.records
