-- What the data of an array says as a counter.
use Rattle.std.specs.Prelude.{ℕ, ◌≡◌, ◌+◌, ◌^◌, ◌⊎◌, Bool, true, false, IsTrue, List, take, drop, None}
use Rattle.mars_base.specs.Bytes.{range, put}
use Rattle.mars_base.specs.Causes.{Rose}
use Rattle.byteorder.specs.Endian.{little_number, little_bytes}
use Rattle.eaw_face.specs.StoreView.{StoreView}
use Rattle.eaw_face.specs.declared.fault.EawFault.{EawFault}
use Rattle.eaw_face.specs.declared.fault.EawFault.TheVariants.{Media, Dead}
use Rattle.counter.specs.declared.counter.CountFault.{CountFault}
use Rattle.counter.specs.declared.counter.CountFault.TheVariants.{Last, Array}

-- the number: eight bytes from 1024 on, the lowest byte first
abbrev pub number_in : List ℕ → ℕ
number_in bytes = little_number 8 (range bytes 1024 8)

-- the data with this number
abbrev pub with_number : List ℕ → ℕ → List ℕ
with_number bytes n = put bytes 1024 (little_bytes 8 n)

-- The image opens with data that is at n and otherwise equals these bytes.
pub record Counts (Opens : List ℕ → List ℕ → Type 0) (bytes : List ℕ) (n : ℕ) (image : List ℕ) : Type 0 where
  pub now : List ℕ
  pub opens : Opens image now
  pub says : number_in now ≡ n
  pub front : take 1024 now ≡ take 1024 bytes
  pub rest : drop 1032 now ≡ drop 1032 bytes

-- the image opens at n or n + 1
abbrev pub CountsEither : (List ℕ → List ℕ → Type 0) → List ℕ → ℕ → List ℕ → Type 0
CountsEither Opens bytes n image = Counts Opens bytes n image ⊎ Counts Opens bytes (n + 1) image

-- whatever a loss of power may leave now opens at n and otherwise equals these bytes
abbrev pub LeavesCount : (List ℕ → List ℕ → Type 0) → List ℕ → ℕ → StoreView → Type 0
LeavesCount Opens bytes n store = (image : List ℕ) → store.left_since store.moment image → Counts Opens bytes n image

-- number 0, under which the counter is written, is free unless the medium has failed
abbrev pub IsIdle : StoreView → Type 0
IsIdle store = store.is_dead ≡ false → store.ranges 0 ≡ None

-- the medium has failed, in this call or in an earlier one; the array refuses for no other reason
abbrev pub IsBroken : StoreView → StoreView → EawFault → Type 0
IsBroken old new Media = Rose old.faults new.faults
IsBroken old new Dead = old.is_dead ≡ true
IsBroken old new _ = ⊥

-- Raising the counter is refused if the next number does not fit into eight bytes, and then the data is as it was, or if the medium has
-- failed.
abbrev pub IsRefused : Bool → StoreView → StoreView → CountFault → Type 0
IsRefused tells old new Last = IsTrue tells → (number_in old.state.bytes + 1 ≡ 2 ^ 64) × (new.state.bytes ≡ old.state.bytes)
IsRefused tells old new (Array fault) = IsBroken old new fault
