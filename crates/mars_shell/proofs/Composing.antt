-- What a run leaves is what the next one needs.
use Rattle.std.proofs.Common.{◌≡◌, ℕ, ◌^◌, ◌<◌, ◌≤◌, ◌⊎◌, inl, inr, ⊎_elim, List, [], length, Bool, true, false, sym, ap, subst, ◌∙◌}
use Rattle.std.specs.Prelude.{IsTrue, ⊤}
use Rattle.pcm_media.specs.Images.{MayLeave}
use Rattle.pcm_media.specs.View.{View}
use Rattle.pcm_media.proofs.Left.{left_as_read}
use Rattle.array_shape.specs.declared.shape.Shape.{Shape}
use Rattle.array_image.specs.Decided.{settled_data}
use Rattle.row_bytes.proofs.OneShape.{one_shape}
use Rattle.device_recovery.proofs.Goods.{good_rows}
use Rattle.command_words.specs.declared.words.EawOptions.{EawOptions}
use Rattle.command_words.specs.declared.words.FormatNumbers.{FormatNumbers}
use Rattle.command_words.specs.declared.words.Words.{Words}
use Rattle.command_words.specs.declared.words.Words.TheVariants.{Run, Callers, Eaw, Dump, Drill, Format, Make, Purge, Follow}
use Rattle.eaw_face.specs.Mirroring.{followed}
use Rattle.eaw_face.specs.State.{State as Stored}
use Rattle.frame_lines.specs.Framed.{Framed}
use Rattle.eaw_script.specs.Lines.{raw_script}
use Rattle.eaw_script.specs.Mirrored.{framed_script, framed_begun}
use Rattle.eaw_script.specs.Progress.{Progress, begun}
use Rattle.script_run.specs.Script.{Script}
use Rattle.eaw_device.specs.Opens.{header_of, Opens, AllOpen, IsArray, HoldsArray}
use Rattle.page_store.specs.Index.{Index}
use Rattle.record_table.specs.Does.{OpensNamed}
use Rattle.record_table.specs.Upgrading.{upgraded}
use Rattle.history.specs.Writes.{Table}
use Rattle.caller_steps.specs.State.{State}
use Rattle.caller_steps.specs.Room.{Limits}
use Rattle.caller_steps.specs.Run.{Turn}
use Rattle.frame_lines.specs.declared.ended.FollowEnd.{FollowEnd}
use Rattle.script_run.specs.declared.ended.Ended.{Ended}
use Rattle.script_run.specs.declared.ended.Ended.TheVariants as script
use Rattle.caller_work.specs.declared.gate.Place.{Place}
use Rattle.mars_shell.specs.Asked.{OutcomeFor}
use Rattle.mars_shell.specs.Commands.{ObeysBy, ObeysAs}
use Rattle.mars_shell.specs.Drill.{Drills}
use Rattle.told_commands.specs.Dump.{DumpsRecords}
use Rattle.mars_shell.specs.Follow.{Follows}
use Rattle.mars_shell.specs.Formats.{IsFormatted, FormatOutcome}
use Rattle.array_runs.specs.Forms.{index_of_form, index_in}
use Rattle.reader_work.specs.Readership.{passes_for}
use Rattle.mars_shell.specs.Joint.{JointWork}
use Rattle.mars_shell.specs.Late.{depth_of}
use Rattle.mars_shell.specs.Next.{AllSound, IsOfRecords, LeavesFresh}
use Rattle.array_runs.specs.Outcome.{Idle, OutcomeOf}
use Rattle.array_runs.specs.Records.{HoldsRecords}
use Rattle.mars_shell.specs.Run.{TakesTurns}
use Rattle.mars_shell.specs.FramedRun.{RunsAs}
use Rattle.told_commands.specs.Tables.{Tries, MakesTable}
use Rattle.told_commands.specs.Purge.{PurgesRecords}
use Rattle.told_commands.specs.Told.{ByEnd, HasRecords, names_on, WorksOn}
use Rattle.array_runs.specs.declared.status.Status.{Status}
use Rattle.array_runs.specs.declared.status.Status.TheVariants.{Good, Usage, TooLong, ReadFault, WriteFault, MediaFault, NoMemory, Damaged, BadRow, NotMars, BadShape, Refused, BadFrame, Gap}
use Rattle.array_runs.proofs.Short.{data_short}
use Rattle.array_runs.proofs.Forming.{sound_is_own}

-- ---- what is asked for

module _ (media : View) (shape : Shape) (form : ℕ) (sound : AllSound shape form media.content) where
  -- what a read gives is one of the images
  here : (bytes : List ℕ) × Opens shape media.content.bytes bytes × (index_of_form form).sound bytes
  here = sound media.content.bytes (left_as_read media.content)

  settled_sound : (index_of_form form).sound (settled_data shape media.content.bytes)
  settled_sound = subst (λ (b : List ℕ). (index_of_form form).sound b) (sym here.1.stands.gives) here.2

  pub own_index : index_in shape media ≡ index_of_form form
  own_index = sound_is_own form (settled_data shape media.content.bytes) settled_sound

  pub all_open : AllOpen shape media.content
  all_open image left = let opens = sound image left in (opens.0, opens.1)

  array : length media.content.bytes ≡ media.size → IsArray shape media
  array long = record { header = here.1.header; sized = sym long ∙ here.1.stands.lawful.long; good = good_rows shape media.content.bytes here.1.stands.lawful.good }

  pub holds_records : length media.content.bytes ≡ media.size → HoldsRecords shape media
  holds_records long = record { array = array long; sound = subst (λ (i : Index). i.sound (settled_data shape media.content.bytes)) (sym own_index) settled_sound }

pub premises : (media : View) → length media.content.bytes ≡ media.size → (shape : Shape) (form : ℕ) → AllSound shape form media.content → AllOpen shape media.content × HoldsRecords shape media
premises media long shape form sound = (all_open media shape form sound, holds_records media shape form sound long)

-- ---- what is left

-- an outcome gives what each of its cases gives
pub outcome_gives : (P : Type 0) (spares : Bool) (Works : Ended → Type 0) (looks : Bool) (callers : ℕ) (old : View) (status : Status) (new : View) (cut : Bool) (text : List ℕ)
    → ((kept : Bool) (MayWrite Cause : Type 0) → Idle kept MayWrite Cause old new cut text → P) → ((ended : Ended) → Works ended → P) → OutcomeOf spares looks callers Works old status new cut text → P
outcome_gives P spares Works looks callers old Good new cut text idle works outcome = works script.All outcome
outcome_gives P spares Works looks callers old WriteFault new cut text idle works outcome = works script.WriteFault outcome
outcome_gives P spares Works looks callers old MediaFault new cut text idle works outcome = ⊎_elim (λ i. idle _ _ _ i) (λ w. works script.MediaFault w) outcome
outcome_gives P spares Works looks callers old NoMemory new cut text idle works outcome = ⊎_elim (λ i. idle _ _ _ i) (λ later. ⊎_elim (λ i. idle _ _ _ i) (λ w. works script.NoMemory w) later) outcome
outcome_gives P spares Works looks callers old Usage new cut text idle works outcome = idle _ _ _ outcome
outcome_gives P spares Works looks callers old TooLong new cut text idle works outcome = idle _ _ _ outcome.1
outcome_gives P spares Works looks callers old ReadFault new cut text idle works outcome = idle _ _ _ outcome.1
outcome_gives P spares Works looks callers old (Damaged page) new cut text idle works outcome = idle _ _ _ outcome
outcome_gives P spares Works looks callers old (BadRow logger tid) new cut text idle works outcome = idle _ _ _ outcome
outcome_gives P spares Works looks callers old NotMars new cut text idle works outcome = idle _ _ _ outcome
outcome_gives P spares Works looks callers old (BadShape which given) new cut text idle works outcome = idle _ _ _ outcome
outcome_gives P spares Works looks callers old (Refused refusal) new cut text idle works outcome = idle _ _ _ outcome.1
outcome_gives P spares Works looks callers old (BadFrame n) new cut text idle works outcome = idle _ _ _ outcome.1
outcome_gives P spares Works looks callers old (Gap expected got) new cut text idle works outcome = idle _ _ _ outcome.1

module _ (tells : Bool) (told : IsTrue tells) (old new : View) (counts_now : (t : ℕ) (image : List ℕ) → IsTrue tells → t ≤ new.moment → MayLeave new.content image → new.left_since t image) (shape : Shape) where
  module _ (all : AllOpen shape old.content) where
    -- an array to which nothing was done still opens,
    idle_open : (cut : Bool) (text : List ℕ) (kept : Bool) (MayWrite Cause : Type 0) → Idle kept MayWrite Cause old new cut text → AllOpen shape new.content
    idle_open cut text kept MayWrite Cause idle image left =
        ⊎_elim (λ like. (like.2, like.4)) (λ two. (upgraded two.1.2, two.1.4)) (idle.keeps shape all image (counts_now old.moment image told (idle.later shape all) left))

    first_opens : Opens shape old.content.bytes (all old.content.bytes (left_as_read old.content)).0
    first_opens = (all old.content.bytes (left_as_read old.content)).1

    -- and so does one that raw commands were done on
    obeyed_open : {S : Type 0} (script : Script S) (first : Shape → Stored → S) (progress : S → Progress) (input : List ℕ) (cut : Bool) (text : List ℕ) (ended : Ended) → ObeysBy script first progress old input ended new cut text → AllOpen shape new.content
    obeyed_open script first progress input cut text ended obeys image left =
        let now = obeys.now image left in
        let same : obeys.shape ≡ shape = one_shape (header_of old.content.bytes) obeys.shape shape obeys.array.header first_opens.header in
        (now.0, subst (λ (s : Shape). Opens s image now.0) same now.1)

    obeyed_as : (frames : Bool) (input : List ℕ) (cut : Bool) (text : List ℕ) (ended : Ended) → ObeysAs frames old input ended new cut text → AllOpen shape new.content
    obeyed_as false input cut text ended obeys = obeyed_open raw_script begun (λ (p : Progress). p) input cut text ended obeys
    obeyed_as true input cut text ended (inl obeys) = obeyed_open framed_script framed_begun (λ (f : Framed Progress). f.inner) input cut text ended obeys
    obeyed_as true input cut text ended (inr none) = idle_open cut text true (HoldsArray old) ⊤ none.1

    -- and so does one that frames were applied to
    followed_open : (input : List ℕ) (cut : Bool) (text : List ℕ) (ended : FollowEnd) → Follows old input ended new cut text → AllOpen shape new.content
    followed_open input cut text ended follows image left =
        let same : follows.shape ≡ shape = one_shape (header_of old.content.bytes) follows.shape shape follows.array.header first_opens.header in
        let all_there : AllOpen follows.shape old.content = subst (λ (s : Shape). AllOpen s old.content) (sym same) all in
        ⊎_elim (λ like. (like.2, subst (λ (s : Shape). Opens s image like.2) same like.4)) (λ first. (_, subst (λ (s : Shape). Opens s image (followed first.1 (settled_data follows.shape old.content.bytes))) same first.4))
        (follows.since all_there image (counts_now old.moment image told (follows.later all_there) left))

    pub next_followed : (status : Status) (input : List ℕ) (cut : Bool) (text : List ℕ) → OutcomeFor Follow (λ place. Unit {0}) old status new input cut text → AllOpen shape new.content
    next_followed status input cut text outcome = ⊎_elim
        (λ unopened. outcome_gives (AllOpen shape new.content) true (λ ended. ⊥) false 0 old status new cut text (idle_open cut text) (λ ended none. absurd none) unopened)
        (λ ran. followed_open input cut text ran.0 ran.2) outcome

    pub next_open : (given : EawOptions) (status : Status) (input : List ℕ) (cut : Bool) (text : List ℕ) → OutcomeFor (Eaw given) (λ place. Unit {0}) old status new input cut text → AllOpen shape new.content
    next_open given status input cut text outcome =
        outcome_gives (AllOpen shape new.content) true (λ ended. ObeysAs given.frames old input ended new cut text) false 0 old status new cut text (idle_open cut text) (obeyed_as given.frames input cut text) outcome

  module _ (form : ℕ) (sound : AllSound shape form old.content)
      (in_two : (form : ℕ) (bytes : List ℕ) → (index_of_form form).sound bytes → length bytes < 2 ^ 32 → (index_of_form form).sound (upgraded bytes)) where
    opened : Opens shape old.content.bytes (sound old.content.bytes (left_as_read old.content)).0
    opened = (sound old.content.bytes (left_as_read old.content)).1

    -- what an image opens with that could be left at first is sound
    like_sound : (image bytes : List ℕ) → MayLeave old.content image → Opens shape image bytes → (index_of_form form).sound bytes
    like_sound image bytes left opens = let first = sound image left in subst (λ (b : List ℕ). (index_of_form form).sound b) (sym first.1.stands.gives ∙ opens.stands.gives) first.2

    -- records to which nothing was done are still sound: each image opens as one did that could be left at first, or with that in version 2
    idle_sound : (cut : Bool) (text : List ℕ) (kept : Bool) (MayWrite Cause : Type 0) → Idle kept MayWrite Cause old new cut text → AllSound shape form new.content
    idle_sound cut text kept MayWrite Cause idle image left =
        ⊎_elim (λ like. (like.2, like.4, like_sound like.0 like.2 like.1 like.3))
        (λ two. (upgraded two.1.2, two.1.4, in_two form two.1.2 (like_sound two.1.0 two.1.2 two.1.1 two.1.3) (data_short shape two.1.0 two.1.2 two.1.3)))
        (idle.keeps shape (all_open old shape form sound) image (counts_now old.moment image told (idle.later shape (all_open old shape form sound)) left))

    -- and so are those on which callers took turns
    turns_sound : (depth : ℕ) (Says : Limits → List Turn → State → Type 0) (ended : Ended) → TakesTurns depth Says old ended new → AllSound shape form new.content
    turns_sound depth Says ended taken image left =
        let same : taken.shape ≡ shape = one_shape (header_of old.content.bytes) taken.shape shape taken.holds.array.header opened.header in
        let now = (taken.prefix_law.now image left).opens.0 in (
          now.bytes,
          subst (λ (s : Shape). Opens s image now.bytes) same now.opened,
          subst (λ (i : Index). i.sound now.bytes) (ap (λ (s : Shape). index_in s old) same ∙ own_index old shape form sound) now.sound,
        )

    records_sound : (spares : Bool) (callers : ℕ) (Works : Ended → Type 0) (status : Status) (cut : Bool) (text : List ℕ) → ((ended : Ended) → Works ended → AllSound shape form new.content)
        → OutcomeOf spares true callers Works old status new cut text → AllSound shape form new.content
    records_sound spares callers Works status cut text works outcome =
        outcome_gives (AllSound shape form new.content) spares Works true callers old status new cut text
        (idle_sound cut text) works outcome

    -- and so are those in which a table was to be made
    named_sound : (at : Shape) → at ≡ shape → (image : List ℕ) (names : List (List ℕ)) (table : Table) → OpensNamed (Opens at) (index_in at old) image names table
        → (bytes : List ℕ) × Opens shape image bytes × (index_of_form form).sound bytes
    named_sound at same image names table o =
        (o.bytes, subst (λ (s : Shape). Opens s image o.bytes) same o.opened, subst (λ (i : Index). i.sound o.bytes) (ap (λ (s : Shape). index_in s old) same ∙ own_index old shape form sound) o.sound)

    tried_sound : (name : List ℕ) (at : Shape) → Tries name at old new → AllSound shape form new.content
    tried_sound name at tried image left =
        let same : at ≡ shape = one_shape (header_of old.content.bytes) at shape tried.holds.array.header opened.header in
        let all : AllOpen at old.content = subst (λ (s : Shape). AllOpen s old.content) (sym same) (all_open old shape form sound) in
        ⊎_elim (λ like. (like.2, subst (λ (s : Shape). Opens s image like.2) same like.4, like_sound like.0 like.2 like.1 (subst (λ (s : Shape). Opens s like.0 like.2) same like.3)))
        (λ named. ⊎_elim (λ o. named_sound at same image _ _ o) (λ o. named_sound at same image _ _ o) named) (tried.since all image (counts_now old.moment image told (tried.later all) left))

    made_by_sound : (name : List ℕ) (cut : Bool) (text : List ℕ) (ended : Ended) → ByEnd (λ shape. Tries name shape old new) (MakesTable name old new cut text) cut text ended → AllSound shape form new.content
    made_by_sound name cut text script.All made = tried_sound name made.shape made.tries
    made_by_sound name cut text script.WriteFault made = tried_sound name made.shape made.tries
    made_by_sound name cut text script.MediaFault made = tried_sound name made.1.0 made.1.1
    made_by_sound name cut text script.NoMemory made = absurd made

    made_sound : (name : List ℕ) (status : Status) (cut : Bool) (text : List ℕ) → OutcomeFor (Make name) (λ place. Unit {0}) old status new [] cut text → AllSound shape form new.content
    made_sound name status cut text outcome =
        ⊎_elim (λ over. records_sound true 0 (ByEnd (λ shape. Tries name shape old new) (MakesTable name old new cut text) cut text) status cut text (made_by_sound name cut text) over) (λ refused. tried_sound name refused.2.shape refused.2.tries) outcome

    -- and so are those that were to be purged
    cleared_sound : (at : Shape) → WorksOn at (HasRecords at old (names_on at old)) old new → AllSound shape form new.content
    cleared_sound at clears image left =
        let same : at ≡ shape = one_shape (header_of old.content.bytes) at shape clears.holds.array.header opened.header in
        let all : AllOpen at old.content = subst (λ (s : Shape). AllOpen s old.content) (sym same) (all_open old shape form sound) in
        ⊎_elim (λ like. (like.2, subst (λ (s : Shape). Opens s image like.2) same like.4, like_sound like.0 like.2 like.1 (subst (λ (s : Shape). Opens s like.0 like.2) same like.3)))
        (λ o. (o.bytes, subst (λ (s : Shape). Opens s image o.bytes) same o.opened, subst (λ (i : Index). i.sound o.bytes) (ap (λ (s : Shape). index_in s old) same ∙ own_index old shape form sound) o.sound))
        (clears.since all image (counts_now old.moment image told (clears.later all) left))

    purged_by_sound : (cut : Bool) (text : List ℕ) (ended : Ended) → ByEnd (λ shape. WorksOn shape (HasRecords shape old (names_on shape old)) old new) (PurgesRecords old new cut text) cut text ended → AllSound shape form new.content
    purged_by_sound cut text script.All purged = cleared_sound purged.shape purged.works
    purged_by_sound cut text script.WriteFault purged = cleared_sound purged.shape purged.works
    purged_by_sound cut text script.MediaFault purged = cleared_sound purged.1.0 purged.1.1
    purged_by_sound cut text script.NoMemory purged = absurd purged

    -- a dump leaves the data that was opened
    dumped_sound : (cut : Bool) (text : List ℕ) (ended : Ended) → DumpsRecords old new cut text ended → AllSound shape form new.content
    dumped_sound cut text ended dumps image left =
        let same : dumps.shape ≡ shape = one_shape (header_of old.content.bytes) dumps.shape shape dumps.works.holds.array.header opened.header in
        let bytes = settled_data dumps.shape old.content.bytes in
        (bytes, subst (λ (s : Shape). Opens s image bytes) same (dumps.finishes.now image left), subst (λ (i : Index). i.sound bytes) (ap (λ (s : Shape). index_in s old) same ∙ own_index old shape form sound) dumps.works.holds.sound)

    run_sound : (frames : Bool) (depth : ℕ) (input : List ℕ) (cut : Bool) (text : List ℕ) (ended : Ended) → RunsAs frames depth input cut text old ended new → AllSound shape form new.content
    run_sound true depth input cut text ended framed = turns_sound depth _ ended framed.2
    run_sound false depth input cut text ended taken = turns_sound depth _ ended taken

    pub next_sound : (Knows : Place → Type 0) (asked : Words) (status : Status) (input : List ℕ) (cut : Bool) (text : List ℕ) → IsOfRecords asked → OutcomeFor asked Knows old status new input cut text → AllSound shape form new.content
    next_sound Knows (Run given) status input cut text of outcome = records_sound false 0 (λ ended. RunsAs given.frames (depth_of given.writing) input cut text old ended new) status cut text (λ ended taken. run_sound given.frames (depth_of given.writing) input cut text ended taken) outcome
    next_sound Knows (Callers numbers) status input cut text of outcome = records_sound false (passes_for numbers.callers numbers.readers) (λ ended. TakesTurns (depth_of numbers.writing) (JointWork Knows numbers.callers numbers.readers input ended cut text) old ended new) status cut text (λ ended taken. turns_sound (depth_of numbers.writing) (JointWork Knows numbers.callers numbers.readers input ended cut text) ended taken) outcome
    next_sound Knows Dump status input cut text of outcome = records_sound true 0 (DumpsRecords old new cut text) status cut text (dumped_sound cut text) outcome
    next_sound Knows (Drill numbers) status input cut text of outcome = records_sound false 0 (λ ended. TakesTurns (depth_of numbers.writing) (Drills numbers ended cut text) old ended new) status cut text (λ ended taken. turns_sound (depth_of numbers.writing) (Drills numbers ended cut text) ended taken) outcome
    next_sound Knows (Make name) status input cut text of outcome = made_sound name status cut text outcome
    next_sound Knows Purge status input cut text of outcome = records_sound false 0 (ByEnd (λ shape. WorksOn shape (HasRecords shape old (names_on shape old)) old new) (PurgesRecords old new cut text) cut text) status cut text (purged_by_sound cut text) outcome
    next_sound Knows (Eaw given) status input cut text of outcome = absurd of
    next_sound Knows Follow status input cut text of outcome = absurd of
    next_sound Knows (Format numbers) status input cut text of outcome = absurd of

-- ---- a fresh array

formatted_sound : (numbers : FormatNumbers) (old new : View) (cut : Bool) (text : List ℕ) → IsFormatted numbers old new cut text → LeavesFresh numbers new.content
formatted_sound numbers old new cut text made = (made.begun.shape, made.begun.numbers, λ image left. (_, made.opens image left, made.sound))

pub fresh_sound : (numbers : FormatNumbers) (old new : View) (status : Status) (cut : Bool) (text : List ℕ) → (status ≡ Good) ⊎ (status ≡ WriteFault) → FormatOutcome numbers old status new cut text
    → LeavesFresh numbers new.content
fresh_sound numbers old new status cut text (inl is) outcome = formatted_sound numbers old new cut text (subst (λ (s : Status). FormatOutcome numbers old s new cut text) is outcome).1
fresh_sound numbers old new status cut text (inr is) outcome = formatted_sound numbers old new cut text (subst (λ (s : Status). FormatOutcome numbers old s new cut text) is outcome).1
