-- Looks at a log, and commands that only read.
use Rattle.std.proofs.Common.{◌≡◌, ℕ, zero, suc, ◌<◌, Bool, true, false, List, [], ◌∷◌, length, get_or, Result, Ok, Err, refl, sym, ◌∙◌, ap, subst, arith}
use Rattle.std.specs.Prelude.{IsTrue, slice_get, slice_index, Some}
use Rattle.std.specs.Option.{option_map}
use Rattle.mars_base.specs.Causes.{Rose}
use Rattle.pcm_media.specs.View.{View, Writes, LeavesOnly}
use Rattle.pcm_media.proofs.Left.{same_bytes}
use Rattle.array_shape.specs.declared.shape.Shape.{Shape}
use Rattle.array_shape.specs.Places.{media_len, logger_of, IsPlaced, IsShape}
use Rattle.array_image.specs.Image.{cell_of, cell_part}
use Rattle.eaw_face.specs.State.{listed, range_at, part_at, count_on}
use Rattle.eaw_face.specs.StoreView.{IsLive, log_len}
use Rattle.eaw_face.specs.Command.{log_read, read}
use Rattle.eaw_face.specs.Does as face
use Rattle.eaw_face.specs.declared.fault.EawFault.{EawFault}
use Rattle.eaw_face.specs.declared.fault.EawFault.TheVariants.{Media}
use Rattle.write_back.specs.declared.entry.Entry.{Entry}
use Rattle.eaw_device.specs.declared.log.Log.{Log}
use Rattle.write_back.specs.declared.commits.LateData.{LateData}
use Rattle.eaw_device.specs.Opens.{Opens}
use Rattle.eaw_device.specs.Logs.{IsKept, IsHeld, entries_at}
use Rattle.write_back.specs.Entries.{ranges_in, parts_in}
use Rattle.write_back.specs.Entries.{AreHeld}
use Rattle.write_back.specs.Shown.{entries_of as kept_entries}
use Rattle.eaw_device.specs.Sound.{IsSound, shown, view_of}
use Rattle.eaw_device.proofs.Cells.{none_spared}
use Rattle.eaw_device.proofs.Entries.{logger_small, length-ranges_in, count_on-ranges_in}
use Rattle.eaw_device.proofs.Keeping.{length-cells_on_kept, entry_placed}
use Rattle.eaw_device.proofs.LogParts.{EachCell, each_held}
use Rattle.eaw_device.proofs.Tables.{found_log, ranges_there, sound_media}
use Rattle.eaw_device.proofs.Sure.{cells_sure, cells_time}
use Rattle.eaw_device.proofs.Doing.{done, failed}

-- the range, the part and the cell of the entry at a position
pub entry_range : (es : List Entry) (pos : ℕ) (e : Entry) → pos < length es → e ≡ get_or es pos e → (e.addr, e.len) ≡ range_at (ranges_in es) pos
entry_range [] pos e lt is = absurd (omega arith)
entry_range (x ∷ xs) zero e lt is = ap (λ (y : Entry). (y.addr, y.len)) is
entry_range (x ∷ xs) (suc pos) e lt is = entry_range xs pos e (omega arith) is

pub entry_part : (shape : Shape) (image : List ℕ) (t : ℕ) (es : List Entry) (pos : ℕ) (e : Entry) → pos < length es → e ≡ get_or es pos e
    → part_at (parts_in shape image t es) pos ≡ cell_part (cell_of shape image (logger_of shape e.addr) t e.cell)
entry_part shape image t [] pos e lt is = absurd (omega arith)
entry_part shape image t (x ∷ xs) zero e lt is = ap (λ (y : Entry). cell_part (cell_of shape image (logger_of shape y.addr) t y.cell)) (sym is)
entry_part shape image t (x ∷ xs) (suc pos) e lt is = entry_part shape image t xs pos e (omega arith) is

pub entry_has : (shape : Shape) (P : ℕ → ℕ → Type 0) (es : List Entry) (pos : ℕ) (e : Entry) → pos < length es → e ≡ get_or es pos e → EachCell shape P es → P (logger_of shape e.addr) e.cell
entry_has shape P [] pos e lt is has = absurd (omega arith)
entry_has shape P (x ∷ xs) zero e lt is has = subst (λ (y : Entry). P (logger_of shape y.addr) y.cell) (sym is) has.0
entry_has shape P (x ∷ xs) (suc pos) e lt is has = entry_has shape P xs pos e (omega arith) is has.1

-- of a log that is kept
module _ (shape : Shape) (shaped : IsShape shape) (log : Log) (kept : IsKept shape log) (pos : ℕ) (e : Entry) (lt : pos < length log.entries.items) (is : e ≡ get_or log.entries.items pos e) where
  pub entry_cell : e.cell < slice_index log.held (logger_of shape e.addr)
  entry_cell = entry_has shape (λ g c. c < slice_index log.held g) log.entries.items pos e lt is (each_held shape shaped log (λ g c. c < slice_index log.held g) kept (λ g c below few. few))

  pub entry_logger : logger_of shape e.addr < shape.loggers
  entry_logger = logger_small shape e.addr shaped

  pub entry_inside : e.cell < shape.entries
  entry_inside = omega (arith, entry_cell, kept.fits (logger_of shape e.addr) entry_logger)

  pub entry_page : IsPlaced shape e.addr e.len
  entry_page = subst (λ (y : Entry). IsPlaced shape y.addr y.len) (sym is) (entry_placed shape log.entries.items pos e lt kept.placed)

-- a log that is looked up in a device
module _ (tells : Bool) (media : View) (shape : Shape) (logs : List Log) (late : LateData) (is_dead : Bool) (sound : IsSound tells media shape logs late is_dead) (t at : ℕ) (log : Log) (small : t < shape.numbers) (at_is : at ≡ t) (got : log ≡ get_or logs at log) where
  pub look_there : slice_get logs t ≡ Some log
  look_there = found_log logs at t log at_is (omega (arith, small, sound.many)) got

  pub look_kept : IsKept shape log
  look_kept = sound.kept t log look_there

  pub look_ranges : listed (option_map ranges_in (entries_at logs t)) ≡ ranges_in log.entries.items
  look_ranges = ranges_there shape logs t log look_there look_kept

  pub look_len : log_len (view_of media shape logs late is_dead) t ≡ length log.entries.items
  look_len = ap length look_ranges ∙ length-ranges_in log.entries.items

  pub look_held : (g : ℕ) → g < shape.loggers → slice_index log.held g ≡ count_on shape g (listed (option_map ranges_in (entries_at logs t)))
  look_held g lt = sym (ap (count_on shape g) look_ranges ∙ count_on-ranges_in shape g log.entries.items ∙ length-cells_on_kept shape log g look_kept lt)

  pub look_range : (pos : ℕ) (e : Entry) → pos < length log.entries.items → e ≡ get_or log.entries.items pos e → (e.addr, e.len) ≡ range_at (listed (option_map ranges_in (entries_at logs t))) pos
  look_range pos e lt is = entry_range log.entries.items pos e lt is ∙ ap (λ (rs : List (ℕ × ℕ)). range_at rs pos) (sym look_ranges)

-- a medium that is only read
module _ (tells : Bool) (old new : View) (shape : Shape) (logs : List Log) (late : LateData) (is_dead : Bool) (sound : IsSound tells old shape logs late is_dead) (alive : is_dead ≡ false) {T E : Type 0} (r : Result T E) (does : Writes tells [] old new r)
    (long : IsTrue tells → length old.content.bytes ≡ media_len shape) where
  same : IsTrue tells → new.content.bytes ≡ old.content.bytes
  same told = same_bytes old.content new.content (does.touched told)

  pub read_sound : IsSound tells new shape logs late is_dead
  read_sound = sound_media tells old new shape logs late is_dead sound does.size
      (λ told fine. cells_sure shape [] (λ x none. tt) late.queue (none_spared shape late.queue.cells late.queue.ballots.items) old.content (long told) tt (sound.told told fine).sure new.content (does.touched told))
      (λ told fine. subst (λ (bytes : List ℕ). AreHeld shape bytes (kept_entries late.parts)) (sym (same told)) (sound.told told fine).shown)
      (λ told fine u log there. subst (λ (bytes : List ℕ). IsHeld shape bytes u log) (sym (same told)) ((sound.told told fine).held u log there))

  time : IsTrue tells → is_dead ≡ false → LeavesOnly (face.IsEither (Opens shape) (shown shape late is_dead old.content.bytes) (shown shape late is_dead old.content.bytes)) old new
  time told fine = cells_time tells shape [] (λ x none. tt) tt late (none_spared shape late.queue.cells late.queue.ballots.items) old new r does told (long told) (sound.told told alive).sure is_dead alive

  state : IsTrue tells → (view_of new shape logs late is_dead).state ≡ (view_of old shape logs late is_dead).state
  state told = λ i. record { bytes = shown shape late is_dead (same told i); logs = λ u. option_map (parts_in shape (same told i) u) (entries_at logs u) }

  pub read_done : (at many : ℕ) {U : Type 0} (x : U) → new.faults ≡ old.faults → (let done : Result U EawFault = Ok x in face.Does tells (Opens shape) (read at many) (view_of old shape logs late is_dead) (view_of new shape logs late is_dead) done)
  read_done at many x kept = done tells (Opens shape) (read at many) (view_of old shape logs late is_dead) (view_of new shape logs late is_dead) refl refl does.device (refl, λ alive. refl) does.cause.later time x kept alive tt tt (record { alive = alive; ranges = refl; state = state })

  pub read_failed : (at many : ℕ) {U : Type 0} → Rose old.faults new.faults → (let failed : Result U EawFault = Err Media in face.Does tells (Opens shape) (read at many) (view_of old shape logs late is_dead) (view_of new shape logs late true) failed)
  read_failed at many rose = failed tells (Opens shape) (read at many) (view_of old shape logs late is_dead) (view_of new shape logs late true) refl refl does.device (refl, λ alive. refl) does.cause.later time alive tt tt rose refl (λ u other. refl)

  module _ (t : ℕ) (live : IsLive (view_of old shape logs late is_dead) t) where
    pub log_read_done : {U : Type 0} (x : U) → new.faults ≡ old.faults → (let done : Result U EawFault = Ok x in face.Does tells (Opens shape) (log_read t) (view_of old shape logs late is_dead) (view_of new shape logs late is_dead) done)
    log_read_done x kept = done tells (Opens shape) (log_read t) (view_of old shape logs late is_dead) (view_of new shape logs late is_dead) refl refl does.device (refl, λ alive. refl) does.cause.later time x kept alive live tt (record { alive = alive; ranges = refl; state = state })

    pub log_read_failed : {U : Type 0} → Rose old.faults new.faults → (let failed : Result U EawFault = Err Media in face.Does tells (Opens shape) (log_read t) (view_of old shape logs late is_dead) (view_of new shape logs late true) failed)
    log_read_failed rose = failed tells (Opens shape) (log_read t) (view_of old shape logs late is_dead) (view_of new shape logs late true) refl refl does.device (refl, λ alive. refl) does.cause.later time alive live tt rose refl (λ u other. refl)
