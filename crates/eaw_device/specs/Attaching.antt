-- The two steps of an opening: the header is read, and the array is settled.
use Rattle.std.specs.Prelude.{ℕ, List, Bool, true, false, ⊤}
use Rattle.pcm_media.specs.Images.{Content, MayLeave}
use Rattle.array_shape.specs.declared.shape.Shape.{Shape}
use Rattle.row_bytes.specs.Header.{SaysShape}
use Rattle.row_bytes.specs.declared.header.HeaderFault.{HeaderFault}
use Rattle.row_bytes.specs.declared.header.HeaderFault.TheVariants as header
use Rattle.device_recovery.specs.declared.report.RecoverFault.{RecoverFault}
use Rattle.device_recovery.specs.declared.report.RecoverFault.TheVariants as recovery
use Rattle.eaw_device.specs.declared.fault.AttachFault.{AttachFault}
use Rattle.eaw_device.specs.declared.fault.AttachFault.TheVariants.{NotMars, BadShape, BadRow, Media, NoMemory}
use Rattle.eaw_device.specs.Opens.{header_of, Opens}

-- what an opening answers for a wrong header, and for a refused recovery
abbrev pub header_fault : HeaderFault → AttachFault
header_fault header.NotMars = NotMars
header_fault (header.BadShape bad) = BadShape bad

abbrev pub recovery_fault : RecoverFault → AttachFault
recovery_fault (recovery.BadRow logger tid) = BadRow logger tid
recovery_fault recovery.Media = Media

-- the header is wrong, or the medium failed
abbrev pub IsOfHeader : AttachFault → Type 0
IsOfHeader (BadRow logger tid) = ⊥
IsOfHeader NoMemory = ⊥
IsOfHeader _ = ⊤

-- a row is bad, or the medium failed
abbrev pub IsOfRecovery : AttachFault → Type 0
IsOfRecovery (BadRow logger tid) = ⊤
IsOfRecovery Media = ⊤
IsOfRecovery _ = ⊥

-- whether the medium failed
abbrev pub is_of_media : AttachFault → Bool
is_of_media Media = true
is_of_media _ = false

-- each image that may be left has the header of this shape
abbrev pub AllSay : Shape → Content → Type 0
AllSay shape content = (image : List ℕ) → MayLeave content image → SaysShape (header_of image) shape

-- each image that may be left opens with this data
abbrev pub AllOpenWith : Shape → Content → List ℕ → Type 0
AllOpenWith shape content bytes = (image : List ℕ) → MayLeave content image → Opens shape image bytes
