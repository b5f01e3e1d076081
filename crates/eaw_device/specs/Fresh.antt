-- What a fresh array holds.
use Rattle.pcm_media.specs.Images.{Content}
use Rattle.array_shape.specs.declared.shape.Shape.{Shape}
use Rattle.record_slots.specs.Fresh.{fresh_page}
use Rattle.eaw_device.specs.Made.{IsMade}

-- a new array whose pages are those of data without records
abbrev pub IsFresh : Shape → Content → Type 0
IsFresh shape content = IsMade shape fresh_page content
