-- What a loss of power during a run leaves, in terms of transactions.
use Rattle.std.specs.Prelude.{ℕ, ◌≡◌, ◌⊎◌, List, ◌++◌, length}
use Rattle.pcm_media.specs.Images.{MayLeave}
use Rattle.pcm_media.specs.View.{View}
use Rattle.array_shape.specs.declared.shape.Shape.{Shape}
use Rattle.eaw_device.specs.Opens.{Opens, AllOpen, OpensLike}
use Rattle.page_store.specs.Index.{Index}
use Rattle.record_slots.specs.Places.{version_of}
use Rattle.record_table.specs.Does.{OpensNamed}
use Rattle.caller_steps.specs.State.{State}
use Rattle.caller_steps.specs.Prefix.{HasPrefix}
use Rattle.array_runs.specs.Forms.{index_in}

-- the image opens with data of version 2 that is sound under this index, and has the tables of a state, with the records of its first
-- transactions, at least so many. Those in doubt come last, and may be there or not.
abbrev pub Recovers : Shape → Index → State → ℕ → List ℕ → Type 0
Recovers shape index final least image =
    HasPrefix (λ image table. (opens : OpensNamed (Opens shape) index image final.names table) × (version_of opens.bytes ≡ 2)) final.base (final.history ++ final.doubt) least image

-- The prefix law, under the index that the data at first names. An image that a loss of power may leave at the end opens with the records
-- of all committed transactions, with or without the one in doubt. One that might have been left at some moment of the run opens with the
-- records of the first so many of them, or with the data of an image that could be left at first, if all of those open. All tables are there
-- under their names, with records or without.
pub record PrefixLaw (shape : Shape) (old : View) (final : State) (new : View) : Type 0 where
  pub now : (image : List ℕ) → MayLeave new.content image → Recovers shape (index_in shape old) final (length final.history) image
  pub since : AllOpen shape old.content → (image : List ℕ) → new.left_since old.moment image → OpensLike shape old.content image ⊎ Recovers shape (index_in shape old) final 0 image
