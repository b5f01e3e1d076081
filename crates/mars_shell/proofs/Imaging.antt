-- What images hold, without their bytes.
use Rattle.std.proofs.Common.{◌≡◌, ℕ, ◌^◌, ◌<◌, ◌≤◌, ◌⊎◌, inl, inr, ⊎_elim, List, [], ◌∷◌, ◌++◌, length, take, Bool, true, false, refl, sym, ap, subst, ◌∙◌, arith}
use Rattle.std.proofs.lemmas.List.Elements.{All-nil}
use Rattle.std.specs.FinMap.{empty}
use Rattle.history.specs.declared.transaction.Done.{Done}
use Rattle.pcm_media.specs.Images.{MayLeave}
use Rattle.pcm_media.specs.View.{View}
use Rattle.pcm_media.proofs.Left.{left_as_read}
use Rattle.array_shape.specs.declared.shape.Shape.{Shape}
use Rattle.array_image.specs.Decided.{settled_data}
use Rattle.row_bytes.specs.Header.{SaysShape}
use Rattle.row_bytes.proofs.OneShape.{one_shape}
use Rattle.eaw_device.specs.Opens.{header_of, Opens, AllOpen, OpensLike}
use Rattle.page_store.specs.Index.{Index}
use Rattle.history.specs.Legal.{records}
use Rattle.history.specs.Writes.{Table}
use Rattle.history.specs.Key.{main_name}
use Rattle.record_table.specs.Does.{OpensNamed}
use Rattle.record_table.specs.Names.{names_of}
use Rattle.record_table.specs.Shown.{table_of}
use Rattle.record_table.specs.Upgrading.{upgraded}
use Rattle.caller_steps.specs.State.{State}
use Rattle.caller_steps.specs.Room.{Limits}
use Rattle.caller_steps.specs.Run.{Turn}
use Rattle.command_words.specs.declared.words.FormatNumbers.{FormatNumbers}
use Rattle.command_words.specs.declared.words.Words.{Words}
use Rattle.command_words.specs.declared.words.Words.TheVariants.{Run, Callers, Eaw, Dump, Drill, Format, Make, Purge, Follow}
use Rattle.script_run.specs.declared.ended.Ended.{Ended}
use Rattle.script_run.specs.declared.ended.Ended.TheVariants as script
use Rattle.array_runs.specs.Forms.{index_of_form, index_at, index_in}
use Rattle.array_runs.specs.Outcome.{Idle, OpensInTwo}
use Rattle.array_runs.specs.Outcome.{OutcomeOf}
use Rattle.array_runs.specs.declared.status.Refusal.{Refusal}
use Rattle.array_runs.specs.declared.status.Status.{Status}
use Rattle.array_runs.specs.declared.status.Status.TheVariants.{Good, WriteFault, Refused}
use Rattle.array_runs.proofs.Forming.{sound_is_own}
use Rattle.told_commands.specs.Dump.{DumpsRecords}
use Rattle.told_commands.specs.Tables.{Tries, MakesTable}
use Rattle.told_commands.specs.Purge.{PurgesRecords}
use Rattle.told_commands.specs.Told.{ByEnd, HasRecords, names_on, WorksOn}
use Rattle.reader_work.specs.Readership.{passes_for}
use Rattle.caller_work.specs.declared.gate.Place.{Place}
use Rattle.mars_shell.specs.Asked.{OutcomeFor}
use Rattle.mars_shell.specs.Drill.{Drills}
use Rattle.mars_shell.specs.Formats.{HasAsked, IsFormatted, FormatOutcome}
use Rattle.mars_shell.specs.FramedRun.{RunsAs}
use Rattle.mars_shell.specs.Joint.{JointWork}
use Rattle.mars_shell.specs.Late.{depth_of}
use Rattle.mars_shell.specs.Next.{AllSound, IsOf, AllAreOf, IsOfPrefix, LeavesOf, records_on}
use Rattle.mars_shell.specs.PrefixLaw.{PrefixLaw, Recovers}
use Rattle.mars_shell.specs.Run.{TakesTurns}
use Rattle.array_runs.proofs.Short.{data_short}
use Rattle.mars_shell.proofs.Composing.{outcome_gives, own_index, all_open}
use Rattle.mars_shell.proofs.FreshRecords.{fresh_names}
use Rattle.mars_shell.proofs.Leaving.{names_left}

-- the records of the data that an image settles to, under the index that this data names
abbrev own_records : List ℕ → Table
own_records bytes = table_of (index_at bytes) bytes

-- a status with which something was told is no refusal
abbrev IsTold : Status → Type 0
IsTold (Refused refusal) = ⊥
IsTold status = Unit {0}

not_refused : (status : Status) (refusal : Refusal) → IsTold status → status ≡ Refused refusal → ⊥
not_refused status refusal told is = subst IsTold is told

records_are : (shape : Shape) (form : ℕ) (names : List (List ℕ)) (table : Table) (image : List ℕ) → IsOf shape form names table image → own_records (settled_data shape image) ≡ table
unfolding table_of
records_are shape form names table image of =
    ap own_records of.opened.stands.gives ∙ (ap (λ (i : Index). table_of i of.bytes) (sound_is_own form of.bytes of.sound) ∙ of.shows)

names_are : (shape : Shape) (form : ℕ) (names : List (List ℕ)) (table : Table) (image : List ℕ) → IsOf shape form names table image → names_of (settled_data shape image) ≡ names
names_are shape form names table image of = ap names_of of.opened.stands.gives ∙ of.named

pub one : (shape other : Shape) (form its : ℕ) (names called : List (List ℕ)) (table records : Table) (image : List ℕ) → IsOf shape form names table image → IsOf other its called records image
    → (shape ≡ other) × (names ≡ called) × (table ≡ records)
one shape other form its names called table records image of also =
    let same : shape ≡ other = one_shape (header_of image) shape other of.opened.header also.opened.header in (
      same,
      sym (names_are shape form names table image of) ∙ (ap (λ (s : Shape). names_of (settled_data s image)) same ∙ names_are other its called records image also),
      sym (records_are shape form names table image of) ∙ (ap (λ (s : Shape). own_records (settled_data s image)) same ∙ records_are other its called records image also),
    )

formatted : (numbers : FormatNumbers) (old new : View) (cut : Bool) (text : List ℕ) → IsFormatted numbers old new cut text → (shape : Shape) × HasAsked numbers shape × AllAreOf shape 1 (main_name ∷ []) empty new.content
formatted numbers old new cut text made = (
  made.begun.shape,
  made.begun.numbers,
  λ image left. record {
    bytes = _;
    opened = made.opens image left;
    sound = made.sound;
    named = fresh_names made.begun.shape new.content.bytes made.fresh.parts.pages;
    shows = made.none;
  },
)

pub made : (numbers : FormatNumbers) (old new : View) (status : Status) (cut : Bool) (text : List ℕ) → (status ≡ Good) ⊎ (status ≡ WriteFault) → FormatOutcome numbers old status new cut text
    → (shape : Shape) × HasAsked numbers shape × AllAreOf shape 1 (main_name ∷ []) empty new.content
made numbers old new status cut text (inl is) outcome = formatted numbers old new cut text (subst (λ (s : Status). FormatOutcome numbers old s new cut text) is outcome).1
made numbers old new status cut text (inr is) outcome = formatted numbers old new cut text (subst (λ (s : Status). FormatOutcome numbers old s new cut text) is outcome).1

module _ (old : View) (shape : Shape) (form : ℕ) (names : List (List ℕ)) (table : Table) (all : AllAreOf shape form names table old.content) where
  here : IsOf shape form names table old.content.bytes
  here = all old.content.bytes (left_as_read old.content)

  all_sound : AllSound shape form old.content
  all_sound image left = let of = all image left in (of.bytes, of.opened, of.sound)

  pub reads : (names_on shape old ≡ names) × (records_on shape old ≡ table)
  reads = (names_are shape form names table old.content.bytes here, records_are shape form names table old.content.bytes here)

  -- data with which an image opens that could be left at first is sound, and has the tables and the records
  like_of : (earlier image bytes : List ℕ) → MayLeave old.content earlier → Opens shape earlier bytes → Opens shape image bytes → IsOf shape form names table image
  like_of earlier image bytes left opens opened =
      let first = all earlier left in
      let same : first.bytes ≡ bytes = sym first.opened.stands.gives ∙ opens.stands.gives in
      record {
        bytes = bytes;
        opened = opened;
        sound = subst (λ (b : List ℕ). (index_of_form form).sound b) same first.sound;
        named = subst (λ (b : List ℕ). names_of b ≡ names) same first.named;
        shows = subst (λ (b : List ℕ). table_of (index_of_form form) b ≡ table) same first.shows;
      }

  like : (image : List ℕ) → OpensLike shape old.content image → IsOf shape form names table image
  like image opens = like_of opens.0 image opens.2 opens.1 opens.3 opens.4

  -- so does data of the index that the medium's data names
  own : (called : List (List ℕ)) (records : Table) (image : List ℕ) → OpensNamed (Opens shape) (index_in shape old) image called records → IsOf shape form called records image
  own called records image opens = subst (λ (i : Index). OpensNamed (Opens shape) i image called records) (own_index old shape form all_sound) opens

  own_prefix : (final : State) (least : ℕ) (image : List ℕ) → Recovers shape (index_in shape old) final least image → IsOfPrefix shape form final least image
  own_prefix final least image recovers = record {
    count = recovers.count;
    at_least = recovers.at_least;
    at_most = recovers.at_most;
    whole = recovers.whole;
    opens = own final.names _ image recovers.opens.0;
  }

  module _ (new : View) (final : State) (called : final.names ≡ names_on shape old) (base : final.base ≡ records_on shape old) (law : PrefixLaw shape old final new) where
    at_first : (image : List ℕ) → IsOf shape form names table image → IsOf shape form final.names final.base image
    at_first image of = subst (λ (x : List (List ℕ) × Table). IsOf shape form x.0 x.1 image) (λ i. (sym (called ∙ reads.0) i, sym (base ∙ reads.1) i)) of

    pub prefix : (image : List ℕ) → new.left_since old.moment image → IsOfPrefix shape form final 0 image
    prefix image left = ⊎_elim
        (λ as_first. record { count = 0; at_least = omega arith; at_most = omega arith; whole = All-nil (λ (done : Done). done.last ≤ 0); opens = at_first image (like image as_first) })
        (own_prefix final 0 image) (law.since (all_open old shape form all_sound) image left)

    pub last : (image : List ℕ) → MayLeave new.content image → IsOfPrefix shape form final (length final.history) image
    last image left = own_prefix final (length final.history) image (law.now image left)

  pub opens : AllOpen shape old.content
  opens = all_open old shape form all_sound

  -- the shape that the header says is this one
  this_shape : (at : Shape) → SaysShape (header_of old.content.bytes) at → at ≡ shape
  this_shape at says = one_shape (header_of old.content.bytes) at shape says here.opened.header

  -- an image with the records that there were, and the names
  with_own : (image : List ℕ) → HasRecords shape old (names_on shape old) image → IsOf shape form names table image
  with_own image has = subst (λ (x : List (List ℕ) × Table). IsOf shape form x.0 x.1 image) (λ i. (reads.0 i, reads.1 i)) (own (names_on shape old) (records_on shape old) image has)

  -- and one more
  with_more : (name image : List ℕ) → HasRecords shape old (names_on shape old ++ name ∷ []) image → IsOf shape form (names ++ name ∷ []) table image
  with_more name image has = subst (λ (x : List (List ℕ) × Table). IsOf shape form (x.0 ++ name ∷ []) x.1 image) (λ i. (reads.0 i, reads.1 i)) (own (names_on shape old ++ name ∷ []) (records_on shape old) image has)

  -- a table that was told is there from then on
  module _ (new : View) (name : List ℕ) where
    told_one : (cut : Bool) (text : List ℕ) (ended : Ended) → MakesTable name old new cut text ended → AllAreOf shape form (names ++ name ∷ []) table new.content
    told_one cut text ended makes image left =
        with_more name image (subst (λ (s : Shape). HasRecords s old (names_on s old ++ name ∷ []) image) (this_shape makes.shape makes.tries.holds.array.header) (makes.finishes.now image left))

    pub named : (status : Status) (input : List ℕ) (cut : Bool) (text : List ℕ) → (status ≡ Good) ⊎ (status ≡ WriteFault) → OutcomeFor (Make name) (λ place. Unit {0}) old status new input cut text
        → AllAreOf shape form (names ++ name ∷ []) table new.content
    named status input cut text (inl is) outcome =
        ⊎_elim (λ makes. told_one cut text script.All makes) (λ refused. absurd (not_refused Good refused.0 tt refused.1)) (subst (λ (s : Status). OutcomeFor (Make name) (λ place. Unit {0}) old s new input cut text) is outcome)
    named status input cut text (inr is) outcome =
        ⊎_elim (λ makes. told_one cut text script.WriteFault makes) (λ refused. absurd (not_refused WriteFault refused.0 tt refused.1)) (subst (λ (s : Status). OutcomeFor (Make name) (λ place. Unit {0}) old s new input cut text) is outcome)

  module _ (version_two : (form : ℕ) (bytes : List ℕ) → (index_of_form form).sound bytes → length bytes < 2 ^ 32
      → (index_of_form form).sound (upgraded bytes) × (names_of (upgraded bytes) ≡ names_of bytes) × (table_of (index_of_form form) (upgraded bytes) ≡ table_of (index_of_form form) bytes)) where
    in_two : (image : List ℕ) → OpensInTwo shape old.content image → IsOf shape form names table image
    unfolding like_of
    in_two image opens =
        let first = like_of opens.0 opens.0 opens.2 opens.1 opens.3 opens.3 in
        let two = version_two form opens.2 first.sound (data_short shape opens.0 opens.2 opens.3) in
        record { bytes = upgraded opens.2; opened = opens.4; sound = two.0; named = two.1 ∙ first.named; shows = two.2 ∙ first.shows }

    pub kept : (image : List ℕ) → OpensLike shape old.content image ⊎ OpensInTwo shape old.content image → IsOf shape form names table image
    kept image either = ⊎_elim (like image) (in_two image) either

    module _ (new : View) (image : List ℕ) (left : new.left_since old.moment image) where
      idle : (cut : Bool) (text : List ℕ) (spares : Bool) (MayWrite Cause : Type 0) → Idle spares MayWrite Cause old new cut text → IsOf shape form names table image
      idle cut text spares MayWrite Cause none = ⊎_elim (like image) (λ two. in_two image two.1) (none.keeps shape (all_open old shape form all_sound) image left)

      -- what is said of images in the shape that the header says is said of them in this shape
      in_shape : (Said : Shape → Type 0) (at : Shape) → SaysShape (header_of old.content.bytes) at → (AllOpen at old.content → Said at) → Said shape
      in_shape Said at says since =
          let same = this_shape at says in
          subst Said same (since (subst (λ (s : Shape). AllOpen s old.content) (sym same) (all_open old shape form all_sound)))

      -- what a command leaves of the tables and the records that there were
      abbrev Has : Words → Type 0
      Has asked = LeavesOf asked shape form names table image

      -- work that leaves images of one kind, or such as were there
      worked : (P : Type 0) → (IsOf shape form names table image → P) → (Is : Shape → Type 0) → (Is shape → P) → (at : Shape) (Of : List ℕ → Type 0) → (Of image → Is at) → WorksOn at Of old new → P
      worked P as_before Is gives at Of of works =
          let seen : OpensLike shape old.content image ⊎ Is shape
          = in_shape (λ (s : Shape). OpensLike s old.content image ⊎ Is s) at works.holds.array.header
          (λ all. ⊎_elim (λ opens. inl opens) (λ is. inr (of is)) (works.since all image left)) in
          ⊎_elim (λ opens. as_before (like image opens)) gives seen

      dumped : (cut : Bool) (text : List ℕ) (ended : Ended) → DumpsRecords old new cut text ended → Has Dump
      dumped cut text ended dumps = worked (Has Dump) (λ of. of) (λ s. ⊥) (λ none. absurd none) dumps.shape (λ i. ⊥) (λ none. none) dumps.works

      tried : (name : List ℕ) (at : Shape) → Tries name at old new → Has (Make name)
      tried name at tries = worked (Has (Make name)) (λ of. inl of) (λ (s : Shape). HasRecords s old (names_on s old) image ⊎ HasRecords s old (names_on s old ++ name ∷ []) image)
          (λ either. ⊎_elim (λ has. inl (with_own image has)) (λ has. inr (with_more name image has)) either) at
          (λ (i : List ℕ). HasRecords at old (names_on at old) i ⊎ HasRecords at old (names_on at old ++ name ∷ []) i) (λ either. either) tries

      made_by : (name : List ℕ) (cut : Bool) (text : List ℕ) (ended : Ended) → ByEnd (λ shape. Tries name shape old new) (MakesTable name old new cut text) cut text ended → Has (Make name)
      made_by name cut text script.All makes = tried name makes.shape makes.tries
      made_by name cut text script.WriteFault makes = tried name makes.shape makes.tries
      made_by name cut text script.MediaFault makes = tried name makes.1.0 makes.1.1
      made_by name cut text script.NoMemory makes = absurd makes

      cleared : (at : Shape) → WorksOn at (HasRecords at old (names_on at old)) old new → Has Purge
      cleared at clears = worked (Has Purge) (λ of. of) (λ (s : Shape). HasRecords s old (names_on s old) image) (λ has. with_own image has) at (HasRecords at old (names_on at old)) (λ has. has) clears

      purged_by : (cut : Bool) (text : List ℕ) (ended : Ended) → ByEnd (λ shape. WorksOn shape (HasRecords shape old (names_on shape old)) old new) (PurgesRecords old new cut text) cut text ended → Has Purge
      purged_by cut text script.All purged = cleared purged.shape purged.works
      purged_by cut text script.WriteFault purged = cleared purged.shape purged.works
      purged_by cut text script.MediaFault purged = cleared purged.1.0 purged.1.1
      purged_by cut text script.NoMemory purged = absurd purged

      -- an array over whose records work was done
      over : (P : Type 0) → (IsOf shape form names table image → P) → (spares : Bool) (callers : ℕ) (Works : Ended → Type 0) (status : Status) (cut : Bool) (text : List ℕ) → ((ended : Ended) → Works ended → P)
          → OutcomeOf spares true callers Works old status new cut text → P
      over P as_before spares callers Works status cut text works outcome =
          outcome_gives P spares Works true callers old status new cut text
          (λ spared MayWrite Cause none. as_before (idle cut text spared MayWrite Cause none)) works outcome

      -- the same tables, and some records
      abbrev HasSome : Type 0
      HasSome = (records : Table) × IsOf shape form names records image

      as_before : IsOf shape form names table image → HasSome
      as_before of = (table, of)

      turned : (depth : ℕ) (Says : Limits → List Turn → State → Type 0) (ended : Ended) → TakesTurns depth Says old ended new → HasSome
      turned depth Says ended taken =
          let seen : OpensLike shape old.content image ⊎ Recovers shape (index_in shape old) taken.final 0 image
          = in_shape (λ (s : Shape). OpensLike s old.content image ⊎ Recovers s (index_in s old) taken.final 0 image) taken.shape taken.holds.array.header (λ all. taken.prefix_law.since all image left) in
          let same = this_shape taken.shape taken.holds.array.header in
          ⊎_elim (λ opens. as_before (like image opens))
          (λ recovers.
          let left_records : Table = records taken.final.base (take recovers.count (taken.final.history ++ taken.final.doubt)) in (
            left_records,
            subst (λ (called : List (List ℕ)). IsOf shape form called left_records image)
                (names_left (index_in taken.shape old) taken.shape depth (settled_data taken.shape old.content.bytes) taken.turns taken.final taken.runs ∙ ap (λ (s : Shape). names_on s old) same ∙ reads.0)
                (own taken.final.names left_records image recovers.opens.0),
          )) seen

      run_by : (frames : Bool) (depth : ℕ) (input : List ℕ) (cut : Bool) (text : List ℕ) (ended : Ended) → RunsAs frames depth input cut text old ended new → HasSome
      run_by true depth input cut text ended framed = turned depth _ ended framed.2
      run_by false depth input cut text ended taken = turned depth _ ended taken

      pub leaves : (Knows : Place → Type 0) (asked : Words) (status : Status) (input : List ℕ) (cut : Bool) (text : List ℕ) → OutcomeFor asked Knows old status new input cut text → LeavesOf asked shape form names table image
      leaves Knows (Run given) status input cut text outcome = over HasSome as_before false 0 (λ ended. RunsAs given.frames (depth_of given.writing) input cut text old ended new) status cut text
          (λ ended taken. run_by given.frames (depth_of given.writing) input cut text ended taken) outcome
      leaves Knows (Callers numbers) status input cut text outcome = over HasSome as_before false (passes_for numbers.callers numbers.readers)
          (λ ended. TakesTurns (depth_of numbers.writing) (JointWork Knows numbers.callers numbers.readers input ended cut text) old ended new) status cut text
          (λ ended taken. turned (depth_of numbers.writing) (JointWork Knows numbers.callers numbers.readers input ended cut text) ended taken) outcome
      leaves Knows (Drill numbers) status input cut text outcome = over HasSome as_before false 0 (λ ended. TakesTurns (depth_of numbers.writing) (Drills numbers ended cut text) old ended new) status cut text
          (λ ended taken. turned (depth_of numbers.writing) (Drills numbers ended cut text) ended taken) outcome
      leaves Knows Dump status input cut text outcome = over (Has Dump) (λ of. of) true 0 (DumpsRecords old new cut text) status cut text (dumped cut text) outcome
      leaves Knows (Make name) status input cut text outcome = ⊎_elim
          (λ over-it. over (Has (Make name)) (λ of. inl of) true 0 (ByEnd (λ shape. Tries name shape old new) (MakesTable name old new cut text) cut text) status cut text (made_by name cut text) over-it)
          (λ refused. tried name refused.2.shape refused.2.tries) outcome
      leaves Knows Purge status input cut text outcome = over (Has Purge) (λ of. of) false 0 (ByEnd (λ shape. WorksOn shape (HasRecords shape old (names_on shape old)) old new) (PurgesRecords old new cut text) cut text) status cut text (purged_by cut text) outcome
      leaves Knows (Eaw given) status input cut text outcome = tt
      leaves Knows Follow status input cut text outcome = tt
      leaves Knows (Format numbers) status input cut text outcome = tt
