-- What a caller is told of bytes and of the tape, where it has room for it.
use Rattle.std.specs.Prelude.{ℕ, ℤ, pos, ◌≡◌, List, length, take, drop, Option, Some, None}
use Rattle.mars_base.specs.Bytes.{put}
use Rattle.tape_media.specs.Steps.{Step, writes, barrier}

-- as many of the bytes as there is room for were put there, and the length of all is told; if there are none, nothing changes
abbrev pub IsPutOut : Option (List ℕ) → (was now : List ℕ) → (len_was len : ℕ) → Type 0
IsPutOut None was now len_was len = (now ≡ was) × (len ≡ len_was)
IsPutOut (Some bytes) was now len_was len = (now ≡ put was 0 (take (length was) bytes)) × (len ≡ length bytes)

-- what is told of the next step on the device: nothing is to be done, a write of so many bytes at a place, or a barrier
abbrev pub IsPiece : Option Step → ℤ → (at_was at len_was len : ℕ) → Type 0
IsPiece None kind at_was at len_was len = (kind ≡ pos 0) × (at ≡ at_was) × (len ≡ len_was)
IsPiece (Some (writes place bytes)) kind at_was at len_was len = (kind ≡ pos 1) × (at ≡ place) × (len ≡ length bytes)
IsPiece (Some barrier) kind at_was at len_was len = (kind ≡ pos 2) × (at ≡ at_was) × (len ≡ len_was)

-- the bytes of a write, from `skip` on, are told; or it is no write, which this status says
abbrev pub IsWrite : ℤ → Option Step → ℕ → ℤ → (was now : List ℕ) → (len_was len : ℕ) → Type 0
IsWrite no_write (Some (writes place bytes)) skip status was now len_was len = (status ≡ pos 0) × IsPutOut (Some (drop skip bytes)) was now len_was len
IsWrite no_write _ skip status was now len_was len = (status ≡ no_write) × IsPutOut None was now len_was len
