-- What making a fresh array answers, writes and leaves.
use Rattle.std.specs.Prelude.{ℕ, ◌≡◌, ◌⊎◌, List, [], ◌∷◌, ◌++◌, codes, Bool, true, false}
use Rattle.std.specs.FinMap.{empty}
use Rattle.std.specs.Fmt.{decimal}
use Rattle.pcm_media.specs.Images.{MayLeave}
use Rattle.pcm_media.specs.View.{View}
use Rattle.array_shape.specs.declared.shape.Shape.{Shape}
use Rattle.array_shape.specs.declared.bad_shape.ShapeNumber.{ShapeNumber}
use Rattle.array_shape.specs.declared.bad_shape.ShapeNumber.TheVariants.{Loggers, Numbers, Entries, Pages, MediaLength}
use Rattle.array_shape.specs.Numbers.{AreInRange, IsFirstBad}
use Rattle.array_shape.specs.Places.{HasNumbers, media_len, data_len}
use Rattle.array_image.specs.Image.{data_of}
use Rattle.array_image.specs.Standing.{SameCells}
use Rattle.eaw_device.specs.Made.{IsMade, IsOldOrNew}
use Rattle.eaw_device.specs.Opens.{Opens}
use Rattle.record_slots.specs.Fresh.{fresh_page}
use Rattle.btree_pages.specs.Index.{tree}
use Rattle.record_table.specs.Shown.{table_of}
use Rattle.texts.specs.Written.{IsWritten}
use Rattle.command_words.specs.declared.words.FormatNumbers.{FormatNumbers}
use Rattle.array_runs.specs.declared.status.Status.{Status}
use Rattle.array_runs.specs.declared.status.Status.TheVariants.{Good, WriteFault, MediaFault, BadShape}

-- the numbers of some array
abbrev pub CanBe : FormatNumbers → Type 0
CanBe asked = AreInRange asked.loggers asked.numbers asked.entries asked.pages

-- the shape has these numbers
abbrev pub HasAsked : FormatNumbers → Shape → Type 0
HasAsked asked shape = HasNumbers asked.loggers asked.numbers asked.entries asked.pages shape

-- they are in range and give a medium of so many bytes
abbrev pub GiveLength : FormatNumbers → ℕ → Type 0
GiveLength asked size = (shape : Shape) × HasAsked asked shape × (size ≡ media_len shape)

-- the value that was asked for if the shape has this number in a byte, else the given one
abbrev pub asked_for : FormatNumbers → ShapeNumber → ℕ → ℕ
asked_for asked Loggers given = asked.loggers
asked_for asked Numbers given = asked.numbers
asked_for asked Entries given = given
asked_for asked Pages given = given
asked_for asked MediaLength given = given

-- the line of a fresh array: the bytes of the medium and of the data
abbrev pub formatted_line : Shape → List ℕ
formatted_line shape = codes "formatted " ++ (decimal (media_len shape) ++ 32 ∷ (decimal (data_len shape) ++ 10 ∷ []))

-- What a format answers over a medium of so many bytes, whether or not that tells its bytes. `bad shape` comes exactly when a number is out
-- of range, of which the first is named, or the medium has another length than the numbers give. It leaves the medium alone. If the medium
-- failed, nothing is written. No other status comes but those of an array that was made.
abbrev pub FormatSays : FormatNumbers → ℕ → Status → (Untold Untouched : Type 0) → Type 0
FormatSays asked size Good Untold Untouched = GiveLength asked size
FormatSays asked size WriteFault Untold Untouched = GiveLength asked size
FormatSays asked size MediaFault Untold Untouched = GiveLength asked size × Untold
FormatSays asked size (BadShape which given) Untold Untouched = Untouched × (IsFirstBad asked.loggers asked.numbers asked.entries asked.pages which given
    ⊎ ((which ≡ MediaLength) × (given ≡ size) × (shape : Shape) × HasAsked asked shape × (size ≡ media_len shape → ⊥)))
FormatSays asked size _ Untold Untouched = ⊥

-- The shape has the numbers asked for. The cells are as they were. Each image that a loss of power might have left since the entry could be
-- left at first, or is no array, or is the fresh array.
pub record IsBegun (asked : FormatNumbers) (old new : View) : Type 0 where
  pub shape : Shape
  pub numbers : HasAsked asked shape
  pub cells : SameCells shape old.content.bytes new.content.bytes
  pub since : (image : List ℕ) → new.left_since old.moment image → IsOldOrNew shape fresh_page old.content image

-- The medium holds a fresh array, whose data is a sound tree without records, and what a loss of power leaves opens with its data. The line
-- of the bytes of the medium and of the data is written, or a front of it if it was cut short.
pub record IsFormatted (asked : FormatNumbers) (old new : View) (cut : Bool) (text : List ℕ) : Type 0 where
  pub begun : IsBegun asked old new
  pub fresh : IsMade begun.shape fresh_page new.content
  pub opens : (image : List ℕ) → MayLeave new.content image → Opens begun.shape image (data_of begun.shape new.content.bytes)
  pub sound : tree.sound (data_of begun.shape new.content.bytes)
  pub none : table_of tree (data_of begun.shape new.content.bytes) ≡ empty
  pub wrote : IsWritten cut text (codes "formatted " ++ (decimal (media_len begun.shape) ++ 32 ∷ (decimal (data_len begun.shape) ++ 10 ∷ [])))

-- what was written and done, by the status
abbrev pub FormatOutcome : FormatNumbers → View → Status → View → Bool → List ℕ → Type 0
FormatOutcome asked old Good new cut text = (cut ≡ false) × IsFormatted asked old new cut text
FormatOutcome asked old WriteFault new cut text = (cut ≡ true) × IsFormatted asked old new cut text
FormatOutcome asked old MediaFault new cut text = (cut ≡ false) × (text ≡ []) × IsBegun asked old new
FormatOutcome asked old _ new cut text = (cut ≡ false) × (text ≡ [])
