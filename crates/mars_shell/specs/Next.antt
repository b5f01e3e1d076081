-- What a run leaves for the next one.
use Rattle.std.specs.Prelude.{ℕ, ◌⊎◌, List, [], ◌∷◌, ◌++◌, ⊤}
use Rattle.history.specs.Writes.{Table}
use Rattle.array_image.specs.Decided.{settled_data}
use Rattle.record_table.specs.Does.{OpensNamed}
use Rattle.record_table.specs.Shown.{table_of}
use Rattle.caller_steps.specs.State.{State}
use Rattle.caller_steps.specs.Prefix.{HasPrefix}
use Rattle.pcm_media.specs.Images.{Content, MayLeave}
use Rattle.pcm_media.specs.View.{View}
use Rattle.array_shape.specs.declared.shape.Shape.{Shape}
use Rattle.command_words.specs.declared.words.FormatNumbers.{FormatNumbers}
use Rattle.command_words.specs.declared.words.Words.{Words}
use Rattle.command_words.specs.declared.words.Words.TheVariants.{Eaw, Format, Follow, Dump, Make, Purge}
use Rattle.eaw_device.specs.Opens.{Opens}
use Rattle.mars_shell.specs.Formats.{HasAsked}
use Rattle.array_runs.specs.Forms.{index_of_form, index_in}

-- each image that a loss of power may leave opens with data that is a sound index of this form
abbrev pub AllSound : Shape → ℕ → Content → Type 0
AllSound shape form content = (image : List ℕ) → MayLeave content image → (bytes : List ℕ) × Opens shape image bytes × (index_of_form form).sound bytes

-- the image is of an array of this shape, whose data is a sound index of this form, with tables of these names and these records
abbrev pub IsOf : Shape → ℕ → List (List ℕ) → Table → List ℕ → Type 0
IsOf shape form names table image = OpensNamed (Opens shape) (index_of_form form) image names table

-- each image that a loss of power may leave is
abbrev pub AllAreOf : Shape → ℕ → List (List ℕ) → Table → Content → Type 0
AllAreOf shape form names table content = (image : List ℕ) → MayLeave content image → IsOf shape form names table image

-- the records of the array on a medium
abbrev pub records_on : Shape → View → Table
records_on shape media = table_of (index_in shape media) (settled_data shape media.content.bytes)

-- it is, with the tables of a state and the records of the first transactions of its history, at least so many
abbrev pub IsOfPrefix : Shape → ℕ → State → ℕ → List ℕ → Type 0
IsOfPrefix shape form final least image = HasPrefix (λ left table. IsOf shape form final.names table left) final.base (final.history ++ final.doubt) least image

-- the words ask for a command that reads the records, or works on them
abbrev pub IsOfRecords : Words → Type 0
IsOfRecords (Eaw given) = ⊥
IsOfRecords (Format numbers) = ⊥
IsOfRecords Follow = ⊥
IsOfRecords asked = Unit {0}

-- What an image is of, if a command over an array with these tables and these records might have left it. The tables are the same, or, where
-- one is asked to be made, also the same and that one. A dump, a purge and the making of a table leave the records, and others some. Nothing is
-- said of commands that work without records, and of a format.
abbrev pub LeavesOf : Words → Shape → ℕ → List (List ℕ) → Table → List ℕ → Type 0
LeavesOf (Eaw given) shape form names table image = ⊤
LeavesOf Follow shape form names table image = ⊤
LeavesOf (Format numbers) shape form names table image = ⊤
LeavesOf (Make name) shape form names table image = IsOf shape form names table image ⊎ IsOf shape form (names ++ name ∷ []) table image
LeavesOf Dump shape form names table image = IsOf shape form names table image
LeavesOf Purge shape form names table image = IsOf shape form names table image
LeavesOf asked shape form names table image = (records : Table) × IsOf shape form names records image

-- an array of the numbers asked for, whatever a loss of power leaves, with a sound tree
abbrev pub LeavesFresh : FormatNumbers → Content → Type 0
LeavesFresh numbers content = (shape : Shape) × HasAsked numbers shape × AllSound shape 1 content
