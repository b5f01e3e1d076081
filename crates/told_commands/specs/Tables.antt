-- What the making of a table does and writes, on a medium that tells its bytes.
use Rattle.std.specs.Prelude.{ℕ, ◌≡◌, ◌⊎◌, ◌-◌, ◌<◌, Bool, List, [], ◌∷◌, ◌++◌, length, codes, Some, slice_get, Result, Ok, Err}
use Rattle.std.specs.Fmt.{decimal}
use Rattle.pcm_media.specs.Images.{MayLeave}
use Rattle.pcm_media.specs.View.{View}
use Rattle.array_shape.specs.declared.shape.Shape.{Shape}
use Rattle.array_image.specs.Decided.{settled_data}
use Rattle.device_recovery.specs.Recovered.{HasNoVote}
use Rattle.eaw_face.specs.StoreView.{StoreView}
use Rattle.eaw_device.specs.Opens.{Opens}
use Rattle.record_slots.specs.Places.{next_page}
use Rattle.page_store.specs.Index.{Index, index_pages_of}
use Rattle.record_table.specs.Names.{IsNew}
use Rattle.record_table.specs.Upgrading.{upgraded}
use Rattle.record_table.specs.declared.making.MakeFault.{MakeFault}
use Rattle.record_table.specs.declared.making.MakeFault.TheVariants as make
use Rattle.mars_core.specs.Making as making
use Rattle.texts.specs.Written.{IsWritten}
use Rattle.script_run.specs.declared.ended.Ended.{Ended}
use Rattle.array_runs.specs.declared.status.Refusal.{Refusal}
use Rattle.array_runs.specs.declared.status.Refusal.TheVariants.{Exists, TablesFull, PagesFull}
use Rattle.array_runs.specs.declared.status.Status.{Status}
use Rattle.array_runs.specs.declared.status.Status.TheVariants.{Refused, Damaged}
use Rattle.array_runs.specs.declared.status.Status.TheVariants.{MediaFault as MediaStatus}
use Rattle.told_commands.specs.Told.{HasRecords, names_on, WorksOn, Finishes}

-- the line that tells a new table: its number and its name
abbrev pub table_line : ℕ → List ℕ → List ℕ
table_line number name = codes "table " ++ (decimal number ++ 32 ∷ (name ++ 10 ∷ []))

-- A table of this name was to be made. An image that might have been left meanwhile opens with the records that were there, under the names that
-- were there or under those and the new one.
abbrev pub Tries : List ℕ → Shape → View → View → Type 0
Tries name shape old new = WorksOn shape (λ image. HasRecords shape old (names_on shape old) image ⊎ HasRecords shape old (names_on shape old ++ name ∷ []) image) old new

-- The table was made: no table had the name, there were fewer than eight, and a page was left. It has the number behind those that there
-- were, which is told. Whatever a loss of power may leave at the end has the new name.
pub record MakesTable (name : List ℕ) (old new : View) (cut : Bool) (text : List ℕ) (ended : Ended) : Type 0 where
  pub shape : Shape
  pub tries : Tries name shape old new
  pub is_new : IsNew name (names_on shape old)
  pub few : length (names_on shape old) < 8
  pub page : next_page (settled_data shape old.content.bytes) < index_pages_of shape
  pub finishes : Finishes shape (HasRecords shape old (names_on shape old ++ name ∷ [])) (table_line (length (names_on shape old)) name) new cut text ended

-- why there is no new table: the name is asked first, then a number, then a page
abbrev pub RefusalCause : List ℕ → Shape → View → Refusal → Type 0
RefusalCause name shape old (Exists given) = (given ≡ name) × (j : ℕ) × (slice_get (names_on shape old) j ≡ Some name)
RefusalCause name shape old TablesFull = IsNew name (names_on shape old) × (length (names_on shape old) ≡ 8)
RefusalCause name shape old (PagesFull n) =
    IsNew name (names_on shape old) × (length (names_on shape old) < 8) × (next_page (settled_data shape old.content.bytes) ≡ index_pages_of shape) × (n ≡ index_pages_of shape - 1)

-- It was refused, and nothing is told. The data is that before in version 2, byte for byte, and whatever a loss of power may leave at the end
-- has the records and the names that were there.
pub record Refuses (name : List ℕ) (refusal : Refusal) (old new : View) (cut : Bool) (text : List ℕ) : Type 0 where
  pub shape : Shape
  pub tries : Tries name shape old new
  pub cause : RefusalCause name shape old refusal
  pub left : settled_data shape new.content.bytes ≡ upgraded (settled_data shape old.content.bytes)
  pub now : (image : List ℕ) → MayLeave new.content image → HasRecords shape old (names_on shape old) image
  pub quiet : HasNoVote shape new.content.bytes
  pub silent : IsWritten cut text []

-- the status of a table of this name that was not made
abbrev pub made_status : MakeFault → List ℕ → Status
made_status make.Exists name = Refused (Exists name)
made_status make.TablesFull name = Refused TablesFull
made_status (make.PagesFull n) name = Refused (PagesFull n)
made_status make.Media name = MediaStatus
made_status make.Dead name = MediaStatus
made_status (make.Damaged page) name = Damaged page

-- what is told of a table that was to be made: its line, or the status with which that ended
abbrev pub made_end : Result ℕ MakeFault → List ℕ → Result (List ℕ) Status
made_end (Ok number) name = Ok (table_line number name)
made_end (Err fault) name = Err (made_status fault name)

-- a table was to be made in the data of a store, of which this is told
abbrev pub LeavesTable : List ℕ → Bool → (Shape → List ℕ → List ℕ → Type 0) → Index → StoreView → Result (List ℕ) Status → StoreView → Type 0
LeavesTable name tells Opens index old end new = (made : Result ℕ MakeFault) × (end ≡ made_end made name) × making.MakesTable tells (Opens old.shape) index name old new made
