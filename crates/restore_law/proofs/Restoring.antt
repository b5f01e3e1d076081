-- What a dump tells, and what an array is that was restored of it.
use Rattle.std.proofs.Common.{◌≡◌, ℕ, ◌^◌, ◌<◌, Bool, true, false, ◌⊎◌, inl, inr, ⊎_elim, List, length, map, Result, Ok, Err, refl, sym, ap, subst, ◌∙◌}
use Rattle.std.specs.Prelude.{if◌then◌else◌, IsPermutation, Some}
use Rattle.std.specs.FinMap.{get, entries}
use Rattle.std.specs.List.{Contains}
use Rattle.pcm_media.specs.Images.{MayLeave}
use Rattle.pcm_media.specs.Replay.{at_rest}
use Rattle.pcm_media.specs.View.{View}
use Rattle.pcm_media.proofs.Left.{left_as_read}
use Rattle.array_shape.specs.declared.shape.Shape.{Shape}
use Rattle.array_image.specs.Decided.{settled_data}
use Rattle.array_image.specs.Image.{data_of}
use Rattle.row_bytes.proofs.OneShape.{one_shape}
use Rattle.eaw_device.specs.Made.{LeavesAsRead}
use Rattle.eaw_device.specs.Opens.{header_of, Opens}
use Rattle.eaw_device.proofs.NewArrays.{settled_as_read}
use Rattle.record_slots.specs.Places.{page_bytes}
use Rattle.record_slots.specs.Super.{form_said}
use Rattle.history.specs.Key.{main_name, of_table}
use Rattle.history.specs.Rows as history
use Rattle.history.specs.Rows.{NamedRows, records_in}
use Rattle.history.specs.Writes.{Table}
use Rattle.record_table.specs.Does.{OpensNamed}
use Rattle.record_table.specs.Names.{names_of}
use Rattle.record_table.specs.Shown.{table_of}
use Rattle.page_store.specs.Index.{Index}
use Rattle.command_words.specs.declared.restore_numbers.RestoreNumbers.{RestoreNumbers}
use Rattle.script_run.specs.declared.ended.Ended.TheVariants as script
use Rattle.texts.specs.Written.{IsWritten}
use Rattle.array_runs.specs.Forms.{index_of_form, index_at}
use Rattle.array_runs.specs.Records.{HoldsRecords}
use Rattle.array_runs.proofs.Forming.{sound_is_own}
use Rattle.told_commands.specs.Told.{names_on}
use Rattle.dump_text.specs.Again.{AreOfArray, IsReadAs, dumped as dump_of}
use Rattle.dump_text.specs.Causes.{DumpSays}
use Rattle.dump_text.specs.Dump.{AreTables, IsDumpOf, tables_met}
use Rattle.dump_text.specs.declared.fault.DumpFault.{DumpFault}
use Rattle.dump_text.specs.declared.fault.DumpFault.TheVariants.{NoMemory}
use Rattle.restoring.specs.Restored.{IsRestored}
use Rattle.restore_runs.specs.Making.{Makes}
use Rattle.restore_runs.specs.declared.making.Made.{Made}
use Rattle.restore_runs.specs.declared.stop.Stop.TheVariants as stop
use Rattle.restore_law.specs.Told.{IsTold, AreTold}
use Rattle.restore_law.specs.Kept.{IsRestoredFrom, TellsWhole, records_held}
use Rattle.array_runs.proofs.Short.{data_short}
use Rattle.restore_law.proofs.Found.{Entry, entry_got, got_entry, made_again}
use Rattle.restore_law.proofs.Named.{IsOfOne, is_met, is_of_met}

-- what is said of sound data under the index of each form
abbrev pub MayBeDumped : Type 0
MayBeDumped = (form : ℕ) (bytes : List ℕ) → (index_of_form form).sound bytes → length bytes < 2 ^ 32 → AreOfArray (entries (table_of (index_of_form form) bytes))

abbrev pub NamesTold : Type 0
NamesTold = (form : ℕ) (bytes name : List ℕ) → (index_of_form form).sound bytes → IsTold (table_of (index_of_form form) bytes) name → Contains (names_of bytes) name

-- ---- what a dump tells

module _ (old new : View) (text : List ℕ) (cut : Bool) (dumps : TellsWhole old new cut text) (dumped : Shape) (holds : HoldsRecords dumped old) where
  shape_is : dumps.shape ≡ dumped
  shape_is = one_shape (header_of old.content.bytes) dumps.shape dumped dumps.works.holds.array.header holds.array.header

  -- the text of all records
  pub whole : text ≡ dump_of (entries (records_held dumped old))
  whole = subst (λ (s : Shape). text ≡ dump_of (entries (records_held s old))) shape_is (go cut dumps.finishes.end dumps.finishes.told)
    where
      go : {all : List ℕ} (b : Bool) → script.All ≡ (if b then script.WriteFault else script.All) → IsWritten b text all → text ≡ all
      go {all} true is told = absurd (cc)
      go {all} false is told = told

  short : length (settled_data dumped old.content.bytes) < 2 ^ 32
  short = subst (λ (s : Shape). length (settled_data s old.content.bytes) < 2 ^ 32) shape_is
      (data_short dumps.shape new.content.bytes (settled_data dumps.shape old.content.bytes) (dumps.finishes.now new.content.bytes (left_as_read new.content)))

  module _ (may : MayBeDumped) (names_told : NamesTold) (again : (records : List Entry) (result : Result (List NamedRows) DumpFault) → AreOfArray records → DumpSays (dump_of records) result → IsReadAs records result) where
    are : AreOfArray (entries (records_held dumped old))
    unfolding index_at
    are = may (form_said (page_bytes (settled_data dumped old.content.bytes) 0)) (settled_data dumped old.content.bytes) holds.sound short

    read_as : (result : Result (List NamedRows) DumpFault) → DumpSays text result → IsReadAs (entries (records_held dumped old)) result
    read_as result says = again (entries (records_held dumped old)) result are (subst (λ (t : List ℕ). DumpSays t result) whole says)

    named : (name : List ℕ) → IsTold (records_held dumped old) name → Contains (names_on dumped old) name
    unfolding index_at
    named name told = names_told (form_said (page_bytes (settled_data dumped old.content.bytes) 0)) (settled_data dumped old.content.bytes) name holds.sound told

    pub taken : (asked : RestoreNumbers) (fault : DumpFault) → Makes asked text (Err (stop.Dump fault)) → fault ≡ NoMemory
    taken asked fault cause = read_as (Err fault) cause

    -- ---- what is restored of it

    module _ (tables : List NamedRows) (dump : IsDumpOf text tables) where
      read : IsPermutation (entries (records_held dumped old)) (records_in tables) × AreTables tables × (map (λ (table : NamedRows). table.0) tables ≡ tables_met (entries (records_held dumped old)))
      read = read_as (Ok tables) dump

      same_records : history.table_of tables ≡ records_held dumped old
      same_records = made_again (records_held dumped old) (records_in tables) read.0

      one_told : (name : List ℕ) → IsOfOne (entries (records_held dumped old)) name → IsTold (records_held dumped old) name
      one_told name (entry, has, of) =
          inr (entry.0.key, entry.1, subst (λ (n : List ℕ). get (records_held dumped old) (of_table n entry.0.key) ≡ Some entry.1) of (entry_got (records_held dumped old) entry.0 entry.1 has))

      told_one : (name : List ℕ) → IsTold (records_held dumped old) name → (name ≡ main_name) ⊎ IsOfOne (entries (records_held dumped old)) name
      told_one name (inl main) = inl main
      told_one name (inr (key, value, got)) = inr ((of_table name key, value), got_entry (records_held dumped old) (of_table name key) value got, refl)

      same_names : AreTold (names_on dumped old) (records_held dumped old) (map (λ (table : NamedRows). table.0) tables)
      same_names name = (
        λ has.
            let told : IsTold (records_held dumped old) name =
            ⊎_elim (λ main. inl main) (one_told name) (is_of_met (entries (records_held dumped old)) name (subst (λ (names : List (List ℕ)). Contains names name) read.2 has)) in
            (named name told, told),
        λ both. subst (λ (names : List (List ℕ)). Contains names name) (sym read.2) (is_met (entries (records_held dumped old)) name (told_one name both.1)),
      )

      pub restored : (shape : Shape) (image : List ℕ) → IsRestored shape tables image → IsRestoredFrom dumped old shape image
      restored shape image is = record {
        names = map (λ (table : NamedRows). table.0) tables;
        opens = record {
          bytes = data_of shape image;
          opened = is.opens;
          sound = is.data_is.sound;
          named = is.data_is.names;
          shows = is.data_is.records ∙ same_records;
        };
        told = same_names;
      }

    pub made : (asked : RestoreNumbers) (array : Made) → Makes asked text (Ok array)
        → (shape : Shape) × IsRestoredFrom dumped old shape array.image.left × LeavesAsRead (at_rest array.image.left)
    made asked array (tables, dump, from) = (from.0.shape, restored tables dump from.0.shape array.image.left from.0.restored, settled_as_read (at_rest array.image.left) refl)

-- ---- an array that was restored

module _ (old media : View) (dumped shape : Shape) (from : IsRestoredFrom dumped old shape media.content.bytes) where
  pub begins : LeavesAsRead media.content → (image : List ℕ) → MayLeave media.content image → OpensNamed (Opens shape) (index_of_form 1) image from.names (records_held dumped old)
  begins sure image left = subst (λ (i : List ℕ). OpensNamed (Opens shape) (index_of_form 1) i from.names (records_held dumped old)) (sym (sure image left)) from.opens

  own_records : List ℕ → Table
  own_records bytes = table_of (index_at bytes) bytes

  has_records : records_held shape media ≡ records_held dumped old
  unfolding own_records
  has_records = ap own_records from.opens.opened.stands.gives ∙ (ap (λ (i : Index). table_of i from.opens.bytes) (sound_is_own 1 from.opens.bytes from.opens.sound) ∙ from.opens.shows)

  -- a dump of it tells just the records that were dumped
  pub alike : (later : View) (told : List ℕ) (cut : Bool) → TellsWhole media later cut told → told ≡ dump_of (entries (records_held dumped old))
  alike later told cut dumps =
      let same : dumps.shape ≡ shape = one_shape (header_of media.content.bytes) dumps.shape shape dumps.works.holds.array.header from.opens.opened.header in
      whole media later told cut dumps dumps.shape dumps.works.holds
      ∙ ap (λ (table : Table). dump_of (entries table)) (ap (λ (s : Shape). records_held s media) same ∙ has_records)
