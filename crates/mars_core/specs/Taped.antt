-- What a core says of the device on which its caller does the pieces.
use Rattle.std.specs.Prelude.{ℕ, List}
use Rattle.tape_media.specs.Steps.{Past, DeviceMayLeave}
use Rattle.caller_steps.specs.Core.{CoreView}
use Rattle.caller_steps.specs.Prefix.{HasPrefixOf}

-- whatever a loss of power may leave on the device opens with the records of the first transactions, at least so many
abbrev pub IsSafeOnDevice : Past → CoreView → ℕ → Type 0
IsSafeOnDevice past core least = (image : List ℕ) → DeviceMayLeave past image → HasPrefixOf core.opens core.state least image
