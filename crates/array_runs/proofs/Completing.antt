-- What can be done is done, unless memory runs out.
use Rattle.array_image.specs.Decided.{settled_data}
use Rattle.std.proofs.Common.{◌≡◌, ℕ, ◌≤◌, ◌⊎◌, inl, inr, ⊎_elim, List, [], length, Bool, true, refl, ap, subst, ◌∙◌, arith}
use Rattle.std.specs.Prelude.{IsTrue}
use Rattle.mars_base.specs.Causes.{Rose}
use Rattle.pcm_media.specs.View.{View}
use Rattle.array_shape.specs.declared.shape.Shape.{Shape}
use Rattle.array_shape.specs.declared.bad_shape.ShapeNumber.{ShapeNumber}
use Rattle.array_shape.specs.declared.bad_shape.ShapeNumber.TheVariants.{Loggers, Numbers, Entries, Pages, MediaLength}
use Rattle.array_shape.specs.Places.{media_len}
use Rattle.row_bytes.specs.Header.{SaysShape, IsBadIn}
use Rattle.eaw_device.specs.Opens.{header_of, IsArray, HasBadRow}
use Rattle.script_run.specs.declared.ended.Ended.{Ended}
use Rattle.script_run.specs.Input.{input_limit}
use Rattle.array_runs.specs.Forms.{index_in}
use Rattle.array_runs.specs.Input.{InputSays}
use Rattle.array_runs.specs.Outcome.{OutcomeOf}
use Rattle.array_runs.specs.Records.{HoldsRecords, IsDamaged, Exceeds}
use Rattle.array_runs.specs.Statuses.{Counts, IsEarly}
use Rattle.array_runs.specs.declared.status.Status.{Status}
use Rattle.array_runs.specs.declared.status.Status.TheVariants.{Good, Usage, TooLong, ReadFault, WriteFault, MediaFault, NoMemory, Damaged, BadRow, NotMars, BadShape, Refused, BadFrame, Gap}
use Rattle.row_bytes.proofs.OneShape.{one_shape}
use Rattle.device_recovery.proofs.Goods.{rows_exclude}
use Rattle.array_runs.proofs.Forming.{damage_is_no_soundness}

-- an array with as many numbers as callers does not have fewer
pub no_excess : (media : View) (shape : Shape) (callers : ℕ) → IsArray shape media → callers ≤ shape.numbers → Exceeds callers media → ⊥
no_excess media shape callers array enough is =
    let same : shape ≡ is.0 = one_shape (header_of media.content.bytes) shape is.0 array.header is.1.header in
    omega (arith, enough, is.2, ap (λ (s : Shape). s.numbers) same)

-- a header that says a shape is in range
not_bad_in : (bytes : List ℕ) (size : ℕ) (shape : Shape) (which : ShapeNumber) (given : ℕ) → SaysShape bytes shape → size ≡ media_len shape → IsBadIn bytes size which given → ⊥
not_bad_in bytes size shape Loggers given says sized bad = let r = shape.in_range in bad.0 (omega (arith, r.some_loggers, says.numbers.loggers_are), omega (arith, r.most_loggers, says.numbers.loggers_are))
not_bad_in bytes size shape Numbers given says sized bad = let r = shape.in_range in bad.1 (omega (arith, r.some_numbers, says.numbers.numbers_are), omega (arith, r.most_numbers, says.numbers.numbers_are))
not_bad_in bytes size shape Entries given says sized bad = let r = shape.in_range in bad.2 (omega (arith, r.some_entries, says.numbers.entries_are), omega (arith, r.most_entries, says.numbers.entries_are))
not_bad_in bytes size shape Pages given says sized bad =
    let r = shape.in_range in bad.3 (omega (arith, r.some_pages, says.numbers.pages_are), omega (arith, r.most_pages, says.numbers.pages_are), omega (arith, r.even_pages, says.numbers.pages_are))
not_bad_in bytes size shape MediaLength given says sized bad = bad.1.2 (sized ∙ ap media_len (one_shape bytes shape bad.1.0 says bad.1.1))

no_bad_row : (media : View) (shape : Shape) (g t : ℕ) → IsArray shape media → HasBadRow media g t → ⊥
no_bad_row media shape g t array row =
    let same : shape ≡ row.0 = one_shape (header_of media.content.bytes) shape row.0 array.header row.1 in
    let own = subst (λ (s : Shape). IsArray s media) same array in
    rows_exclude row.0 media.content.bytes (g, t) own.good row.3

pub no_damage : (media : View) (shape : Shape) (page : ℕ) → HoldsRecords shape media → IsDamaged media page → ⊥
no_damage media shape page holds is =
    let same : shape ≡ is.0 = one_shape (header_of media.content.bytes) shape is.0 holds.array.header is.1.header in
    let own = subst (λ (s : Shape). (index_in s media).sound (settled_data s media.content.bytes)) same holds.sound in
    damage_is_no_soundness (settled_data is.0 media.content.bytes) page is.2 own

-- a command that reads no input
pub nothing_read : (status : Status) → (IsEarly status → ⊥) → InputSays status [] []
nothing_read TooLong late = absurd (late tt)
nothing_read ReadFault late = tt
nothing_read NoMemory late = tt
nothing_read _ late = (omega arith, refl)

module _ (spares : Bool) (Works : Ended → Type 0) (looks : Bool) (callers : ℕ) (old new : View) (cut : Bool) (text : List ℕ) (given left : List ℕ) (s s' k k' m m' : ℕ)
    (short : length given ≤ input_limit) (shape : Shape) (array : IsArray shape old) (whole : IsTrue looks → (page : ℕ) → IsDamaged old page → ⊥) (has_all : Exceeds callers old → ⊥) (no_source : Rose s s' → ⊥) (no_sink : Rose k k' → ⊥) (no_media : Rose m m' → ⊥) where
  pub complete_of : (status : Status) → Counts status s s' k k' m m' → InputSays status given left → OutcomeOf spares looks callers Works old status new cut text → (status ≡ Good) ⊎ (status ≡ NoMemory)
  complete_of Good counts input outcome = inl refl
  complete_of NoMemory counts input outcome = inr refl
  complete_of Usage counts input outcome = absurd (has_all outcome.cause)
  complete_of TooLong counts input outcome = absurd (omega (arith, short, input))
  complete_of ReadFault counts input outcome = absurd (no_source counts.0)
  complete_of WriteFault counts input outcome = absurd (no_sink counts.1)
  complete_of MediaFault counts input outcome = absurd (no_media counts.1)
  complete_of (Damaged page) counts input outcome = absurd (whole outcome.cause.0 page outcome.cause.1)
  complete_of (BadRow logger tid) counts input outcome = absurd (no_bad_row old shape logger tid array outcome.cause)
  complete_of NotMars counts input outcome = absurd (outcome.cause (omega (arith, array.sized)) array.header.has_mark)
  complete_of (BadShape which bad) counts input outcome = absurd (not_bad_in (header_of old.content.bytes) old.size shape which bad array.header array.sized outcome.cause.2)
  complete_of (Refused refusal) counts input outcome = absurd (⊎_elim (λ is. cc is) (λ is. cc is) outcome.0)
  complete_of (BadFrame n) counts input outcome = absurd (⊎_elim (λ is. cc is) (λ is. cc is) outcome.0)
  complete_of (Gap expected got) counts input outcome = absurd (⊎_elim (λ is. cc is) (λ is. cc is) outcome.0)

-- the same for work over records that are sound, for which there are numbers enough
pub complete_records : (spares : Bool) (callers : ℕ) (Works : Ended → Type 0) (old : View) (status : Status) (new : View) (cut : Bool) (text : List ℕ) (given left : List ℕ) (s s' k k' m m' : ℕ) → length given ≤ input_limit
    → (shape : Shape) → HoldsRecords shape old → callers ≤ shape.numbers → (Rose s s' → ⊥) → (Rose k k' → ⊥) → (Rose m m' → ⊥) → Counts status s s' k k' m m' → InputSays status given left
    → OutcomeOf spares true callers Works old status new cut text → (status ≡ Good) ⊎ (status ≡ NoMemory)
complete_records spares callers Works old status new cut text given left s s' k k' m m' short shape holds enough no_source no_sink no_media counts input outcome =
    complete_of spares Works true callers old new cut text given left s s' k k' m m'
    short shape holds.array (λ looks page is. no_damage old shape page holds is) (no_excess old shape callers holds.array enough) no_source no_sink no_media status counts input outcome
