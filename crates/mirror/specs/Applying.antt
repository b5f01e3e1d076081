-- A frame that is written into a store, part by part and number by number.
use Rattle.std.specs.Prelude.{ℕ, ◌≡◌, ◌⊎◌, Bool, false, IsTrue, List, [], ◌∷◌, ◌++◌, length, flat_map, All, Some, None}
use Rattle.mars_base.specs.Causes.{Rose}
use Rattle.array_shape.specs.declared.shape.Shape.{Shape}
use Rattle.array_shape.specs.Logged.{Part, applied, ranges_of}
use Rattle.eaw_face.specs.State.{Logs, listed, with_log}
use Rattle.eaw_face.specs.StoreView.{StoreView}
use Rattle.eaw_face.specs.Causes.{fit}
use Rattle.eaw_face.specs.declared.fault.EawFault.{EawFault}
use Rattle.eaw_face.specs.declared.fault.EawFault.TheVariants.{Media}
use Rattle.eaw_face.specs.Frame.{part_bytes, written_by, IsPart, IsInside, AreFrame}

-- bytes that begin with so many parts, for which an empty log has room
pub record HasParts (shape : Shape) (count : ℕ) (bytes : List ℕ) : Type 0 where
  pub list : List Part
  pub is_count : length list ≡ count
  pub are : All IsPart list
  pub inside : All (IsInside shape) list
  pub room : fit shape [] (ranges_of list) None
  pub rest : List ℕ
  pub is : bytes ≡ flat_map part_bytes list ++ rest

-- the logs with more in the log of number t
abbrev pub logged_more : {A : Type 0} → Logs A → ℕ → List A → Logs A
logged_more logs t [] = logs
logged_more logs t (x ∷ xs) = with_log logs t (Some (listed (logs t) ++ x ∷ xs))

-- from one view of a store to a later one, these parts were logged under a number
pub record Wrote (tells : Bool) (number : ℕ) (parts : List Part) (old new : StoreView) : Type 0 where
  pub shape : new.shape ≡ old.shape
  pub depth : new.depth ≡ old.depth
  pub alive : new.is_dead ≡ false
  pub faults : new.faults ≡ old.faults
  pub ranges : new.ranges ≡ logged_more old.ranges number (ranges_of parts)
  pub bytes : IsTrue tells → new.state.bytes ≡ old.state.bytes
  pub logs : IsTrue tells → new.state.logs ≡ logged_more old.state.logs number parts

-- the bytes begin with parts that were logged
pub record WroteParts (tells : Bool) (number count : ℕ) (bytes rest : List ℕ) (old new : StoreView) : Type 0 where
  pub parts : HasParts old.shape count bytes
  pub behind : parts.rest ≡ rest
  pub wrote : Wrote tells number parts.list old new

-- the medium has failed in this call: the store has no other reason
abbrev pub IsNewFault : StoreView → StoreView → EawFault → Type 0
IsNewFault old new fault = (fault ≡ Media) × Rose old.faults new.faults

-- no number is live
abbrev pub IsFree : StoreView → Type 0
IsFree store = (t : ℕ) → store.ranges t ≡ None

-- from one view of a store to a later one, the one frame that these bytes are was applied
pub record Applied (tells : Bool) (bytes : List ℕ) (old new : StoreView) : Type 0 where
  pub frame : AreFrame old.shape bytes
  pub shape : new.shape ≡ old.shape
  pub depth : new.depth ≡ old.depth
  pub alive : new.is_dead ≡ false
  pub faults : new.faults ≡ old.faults
  pub free : IsFree new
  pub data_is : IsTrue tells → new.state.bytes ≡ applied (written_by frame.frame) old.state.bytes

-- an image opens with the data before, or with the one frame applied that these bytes are
abbrev pub OpensEither : (Shape → List ℕ → List ℕ → Type 0) → List ℕ → StoreView → List ℕ → Type 0
OpensEither Opens bytes old image = Opens old.shape image old.state.bytes ⊎ ((f : AreFrame old.shape bytes) × Opens old.shape image (applied (written_by f.frame) old.state.bytes))
