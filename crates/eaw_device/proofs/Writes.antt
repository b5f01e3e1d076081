-- A write that is staged and logged.
use Rattle.std.proofs.Common.{◌≡◌, ◌≢◌, ℕ, ◌+◌, ◌-◌, ◌<◌, ◌≤◌, ◌⊎◌, Bool, true, false, inl, inr, List, [], ◌∷◌, ◌++◌, length, map, take, drop, Result, Ok, Err, refl, sym, ◌∙◌, ap, subst, arith}
use Rattle.std.specs.Prelude.{None, IsTrue, IsErrAnd, All, slice_get, slice_set, slice_index, Some}
use Rattle.std.specs.Option.{option_map}
use Rattle.std.specs.List.{range_with_len}
use Rattle.std.proofs.lemmas.Bool.{cases_lt, false≢true}
use Rattle.std.proofs.lemmas.List.{length-append, length-take-le, length-drop, length-map}
use Rattle.std.proofs.lemmas.List.Elements.{All-head, All-tail}
use Rattle.std.proofs.lemmas.List.FromFn.{length-range_with_len}
use Rattle.std.proofs.lemmas.Option.{slice_get_within}
use Rattle.mars_base.specs.Causes.{Rose}
use Rattle.pcm_media.specs.View.{View, Writes, LeavesOnly}
use Rattle.array_shape.specs.declared.shape.Shape.{Shape}
use Rattle.array_shape.specs.declared.part.Part.{Part as Place}
use Rattle.array_shape.specs.Places.{media_len, data_len}
use Rattle.array_shape.specs.Parts.{parts_of, parts_on, part_of_write, parts_of_write, write_parts_on}
use Rattle.array_shape.proofs.Cutting.{parts_of_write-parts, write_parts_on-parts}
use Rattle.array_shape.specs.Logged.{Part, ranges_of}
use Rattle.array_image.specs.Image.{cell_of, IsGoodCell}
use Rattle.logger.specs.Cells.{HoldsParts}
use Rattle.logger.proofs.Staging.{IsWithin, all_within}
use Rattle.eaw_face.specs.State.{listed, count_on}
use Rattle.eaw_face.specs.StoreView.{log_len}
use Rattle.eaw_face.specs.Causes.{fit}
use Rattle.eaw_face.specs.Command.{log_write}
use Rattle.eaw_face.specs.Does as face
use Rattle.eaw_face.specs.declared.fault.EawFault.{EawFault}
use Rattle.eaw_face.specs.declared.fault.EawFault.TheVariants.{UnknownTid, LogFull, Media, Dead}
use Rattle.eaw_device.specs.declared.log.Log.{Log}
use Rattle.write_back.specs.declared.commits.LateData.{LateData}
use Rattle.eaw_device.specs.Opens.{Opens}
use Rattle.eaw_device.specs.Logs.{IsKept, IsHeld, Adds, entries_at}
use Rattle.write_back.specs.Entries.{ranges_in, parts_in, cells_on}
use Rattle.logger.specs.Staging.{staged_places}
use Rattle.eaw_device.specs.Steps.{CellsFit, SaysFull, RefusesWrite}
use Rattle.eaw_device.specs.Laws.{alive_shown}
use Rattle.write_back.specs.Turns.{has_some}
use Rattle.write_back.specs.Spared.{AreSpared}
use Rattle.write_back.proofs.Sparing.{late_held}
use Rattle.eaw_device.specs.Sound.{IsBefore, IsSound, shown, view_of}
use Rattle.eaw_device.proofs.Entries.{numbers_split, ranges_in-append, length-ranges_in, cells_on-append, count_on-ranges_in}
use Rattle.eaw_device.proofs.Keeping.{length-cells_on_kept}
use Rattle.write_back.proofs.EntryParts.{part_in, parts_in-append, parts_from-numbers}
use Rattle.eaw_device.proofs.LogParts.{ranges_of-append, count_on-ranges_of, same_parts}
use Rattle.eaw_device.proofs.Staged.{staged_spared, staged_in_cells, staged_within, staged_cell}
use Rattle.eaw_device.proofs.Tables.{each_set, entries_live, ranges_there, parts_there, ranges_set, parts_set, parts_kept, held_kept, others_kept, slice_get-set_same, sound_set}
use Rattle.eaw_device.proofs.Sure.{cells_data, cells_sure, cells_time}
use Rattle.eaw_face.proofs.Refusing.{refused}
use Rattle.eaw_face.proofs.Rooms.{unfit_told}
use Rattle.eaw_device.proofs.Doing.{done, failed}

-- a write has as many pieces at a logger as its range has parts
pub length-write_parts_on : (shape : Shape) (g addr : ℕ) (bytes : List ℕ) → length (write_parts_on shape g addr bytes) ≡ length (parts_on shape g addr (length bytes))
length-write_parts_on shape g addr bytes = ap length (write_parts_on-parts shape addr bytes g) ∙ length-map (parts_on shape g addr (length bytes)) (part_of_write addr bytes)

-- the parts of a write go where the parts of its range lie
ranges_of-within : (shape : Shape) (addr : ℕ) (bytes : List ℕ) (ps : List Place) → All (IsWithin shape addr (length bytes)) ps → ranges_of (map (part_of_write addr bytes) ps) ≡ map (λ (p : Place). (p.addr, p.len)) ps
ranges_of-within shape addr bytes [] within = refl
ranges_of-within shape addr bytes (p ∷ ps) within =
    let here = All-head (IsWithin shape addr (length bytes)) p ps within in
    let long : length (take p.len (drop (p.addr - addr) bytes)) ≡ p.len = length-take-le p.len (drop (p.addr - addr) bytes) (omega (arith, length-drop (p.addr - addr) bytes, here.to, here.from)) in
    let rest = ranges_of-within shape addr bytes ps (All-tail (IsWithin shape addr (length bytes)) p ps within) in
    λ i. (p.addr, long i) ∷ rest i

pub ranges_of-pieces : (shape : Shape) (addr : ℕ) (bytes : List ℕ) → addr + length bytes ≤ data_len shape → ranges_of (parts_of_write addr bytes) ≡ map (λ (p : Place). (p.addr, p.len)) (parts_of shape addr (length bytes))
ranges_of-pieces shape addr bytes fits = ap ranges_of (parts_of_write-parts shape addr bytes) ∙ ranges_of-within shape addr bytes (parts_of shape addr (length bytes)) (all_within shape addr (length bytes) fits)

module _ (tells : Bool) (old : View) (shape : Shape) (logs : List Log) (late : LateData) (is_dead : Bool) (sound : IsSound tells old shape logs late is_dead) (alive : is_dead ≡ false) (t : ℕ) (small : t < shape.numbers) (log : Log) (there : slice_get logs t ≡ Some log)
    (addr : ℕ) (bytes : List ℕ) (inside : addr + length bytes ≤ data_len shape) where
  kept : IsKept shape log
  kept = sound.kept t log there

  counted : (g : ℕ) → g < shape.loggers → count_on shape g (listed (option_map ranges_in (entries_at logs t))) ≡ slice_index log.held g
  counted g lt = ap (count_on shape g) (ranges_there shape logs t log there kept) ∙ count_on-ranges_in shape g log.entries.items ∙ length-cells_on_kept shape log g kept lt

  needed : (g : ℕ) → count_on shape g (ranges_of (parts_of_write addr bytes)) ≡ length (parts_on shape g addr (length bytes))
  needed g = count_on-ranges_of shape g (parts_of_write addr bytes) ∙ length-write_parts_on shape g addr bytes

  -- what a log without room says
  pub first_full : (g h n : ℕ) → SaysFull shape log.held addr (length bytes) (LogFull g h n) → fit shape (listed (option_map ranges_in (entries_at logs t))) (ranges_of (parts_of_write addr bytes)) (Some (g, h, n))
  first_full g h n said = unfit_told shape (listed (option_map ranges_in (entries_at logs t))) (ranges_of (parts_of_write addr bytes)) g h n (record {
    logger = said.logger;
    held_is = said.held_is ∙ sym (counted g said.logger);
    needed_is = said.needed_is ∙ sym (needed g);
    full = said.full;
    before = λ k lt.
        let has = said.before k lt in
        let here : k < shape.loggers = omega (arith, said.logger) in
        omega (arith, has, counted k here, needed k);
  })

  -- a log with room
  pub write_fits : CellsFit shape log.held addr (length bytes) → fit shape (listed (option_map ranges_in (entries_at logs t))) (ranges_of (parts_of_write addr bytes)) None
  write_fits room g lt = omega (arith, room g lt, counted g lt, needed g)

  module _ (apart : has_some late.queue.ballots.items t ≡ false) (room : CellsFit shape log.held addr (length bytes)) where
    pub write_parts_fit : (g : ℕ) → g < shape.loggers → slice_index log.held g + length (write_parts_on shape g addr bytes) ≤ shape.entries
    write_parts_fit g lt = omega (arith, room g lt, length-write_parts_on shape g addr bytes)

    spared : AreSpared shape late.queue.cells (staged_places shape t log.held addr bytes) late.queue.ballots.items
    spared = staged_spared shape t small log.held addr bytes write_parts_fit late.queue.cells late.queue.ballots.items apart

    module _ (new : View) {E : Type 0} (r : Result (Unit {0}) E) (does : Writes tells (staged_places shape t log.held addr bytes) old new r) (long : IsTrue tells → length old.content.bytes ≡ media_len shape) where
      time : IsTrue tells → is_dead ≡ false → LeavesOnly (face.IsEither (Opens shape) (shown shape late is_dead old.content.bytes) (shown shape late is_dead old.content.bytes)) old new
      time told fine = cells_time tells shape (staged_places shape t log.held addr bytes) (staged_in_cells shape t small log.held addr bytes write_parts_fit) (staged_within shape t small log.held addr bytes write_parts_fit) late spared
          old new r does told (long told) (sound.told told alive).sure is_dead alive

      pub write_failed : Rose old.faults new.faults → (let failed : Result ℕ EawFault = Err Media in face.Does tells (Opens shape) (log_write t addr bytes) (view_of old shape logs late is_dead) (view_of new shape logs late true) failed)
      write_failed rose = failed tells (Opens shape) (log_write t addr bytes) (view_of old shape logs late is_dead) (view_of new shape logs late true) refl refl does.device (refl, λ alive. refl) does.cause.later time alive small (write_fits room) rose refl (λ u other. refl)

      module _ (holds : IsTrue tells → (g : ℕ) → g < shape.loggers → HoldsParts shape new.content.bytes g t (slice_index log.held g) (write_parts_on shape g addr bytes))
          (now : Log) (kept' : IsKept shape now) (live : now.is_live ≡ true) (adds : Adds log.entries.items now.entries.items (map (λ (p : Place). (p.addr, p.len)) (parts_of shape addr (length bytes)))) where
        below : t < length logs
        below = slice_get_within logs t log there

        -- the cells that are there already
        same : IsTrue tells → (u : ℕ) (l : Log) → slice_get logs u ≡ Some l → (g e : ℕ) → g < shape.loggers → e < slice_index l.held g → (u ≢ t) ⊎ (e < slice_index log.held g) → cell_of shape new.content.bytes g u e ≡ cell_of shape old.content.bytes g u e
        same told u l is g e lt low other =
            let few = (sound.kept u l is).fits g lt in
            let known = slice_get_within logs u l is in
            staged_cell shape t small log.held addr bytes write_parts_fit old.content.bytes new.content.bytes (does.touched told).bytes g u e lt (omega (arith, sound.many)) (omega arith) other

        added_ranges : ranges_in adds.added ≡ ranges_of (parts_of_write addr bytes)
        added_ranges = adds.ranges_are ∙ sym (ranges_of-pieces shape addr bytes inside)

        added_many : (g : ℕ) → length (cells_on shape g adds.added) ≡ length (write_parts_on shape g addr bytes)
        added_many g = sym (count_on-ranges_in shape g adds.added) ∙ ap (count_on shape g) added_ranges ∙ count_on-ranges_of shape g (parts_of_write addr bytes)

        now_cells : (g : ℕ) → g < shape.loggers → cells_on shape g log.entries.items ++ cells_on shape g adds.added ≡ range_with_len 0 (slice_index now.held g)
        now_cells g lt = sym (cells_on-append shape g log.entries.items adds.added) ∙ ap (cells_on shape g) (sym adds.items) ∙ kept'.cells g lt

        now_held : (g : ℕ) → g < shape.loggers → slice_index now.held g ≡ slice_index log.held g + length (write_parts_on shape g addr bytes)
        now_held g lt =
            let total = ap length (now_cells g lt) ∙ length-range_with_len 0 (slice_index now.held g) in
            omega (arith, total, length-append (cells_on shape g log.entries.items) (cells_on shape g adds.added), length-cells_on_kept shape log g kept lt, added_many g)

        added_cells : (g : ℕ) → g < shape.loggers → cells_on shape g adds.added ≡ range_with_len (slice_index log.held g) (length (write_parts_on shape g addr bytes))
        added_cells g lt =
            let split = numbers_split (cells_on shape g log.entries.items) (cells_on shape g adds.added) 0 (slice_index now.held g) (now_cells g lt) in
            let from : 0 + length (cells_on shape g log.entries.items) ≡ slice_index log.held g = omega (arith, length-cells_on_kept shape log g kept lt) in
            let many : slice_index now.held g - length (cells_on shape g log.entries.items) ≡ length (write_parts_on shape g addr bytes) = omega (arith, now_held g lt, length-cells_on_kept shape log g kept lt) in
            split.1 ∙ (λ i. range_with_len (from i) (many i))

        added_parts : IsTrue tells → parts_in shape new.content.bytes t adds.added ≡ parts_of_write addr bytes
        added_parts told = same_parts shape new.content.bytes t sound.shaped adds.added (parts_of_write addr bytes) added_ranges (λ g lt.
            ap (map (part_in shape new.content.bytes t g)) (added_cells g lt)
            ∙ sym (parts_from-numbers shape new.content.bytes t g (slice_index log.held g) (length (write_parts_on shape g addr bytes))) ∙ (holds told g lt).hold)

        old_kept : IsTrue tells → parts_in shape new.content.bytes t log.entries.items ≡ parts_in shape old.content.bytes t log.entries.items
        old_kept told = parts_kept shape old.content.bytes new.content.bytes t log kept (λ g e lt low. same told t log there g e lt low (inr low))

        now_parts : IsTrue tells → parts_in shape new.content.bytes t now.entries.items ≡ parts_in shape old.content.bytes t log.entries.items ++ parts_of_write addr bytes
        now_parts told = ap (parts_in shape new.content.bytes t) adds.items ∙ parts_in-append shape new.content.bytes t log.entries.items adds.added ∙ (λ i. old_kept told i ++ added_parts told i)

        now_ranges : ranges_in now.entries.items ≡ ranges_in log.entries.items ++ ranges_of (parts_of_write addr bytes)
        now_ranges = ap ranges_in adds.items ∙ ranges_in-append log.entries.items adds.added ∙ ap (λ (rs : List (ℕ × ℕ)). ranges_in log.entries.items ++ rs) added_ranges

        now_is_held : IsTrue tells → IsHeld shape new.content.bytes t now
        now_is_held told =
            let was = (sound.told told alive).held t log there in
            record {
              good = λ g e lt low. elim (cases_lt e (slice_index log.held g)) [
                | inl before ↦ subst (IsGoodCell shape g) (sym (same told t log there g e lt before (inr before))) (was.good g e lt before)
                | inr past ↦ (holds told g lt).good e past (omega (arith, now_held g lt))
              ];
              heads = ap ranges_of (now_parts told) ∙ ranges_of-append (parts_in shape old.content.bytes t log.entries.items) (parts_of_write addr bytes)
                  ∙ ap (λ (rs : List (ℕ × ℕ)). rs ++ ranges_of (parts_of_write addr bytes)) was.heads ∙ sym now_ranges;
            }

        module _ (at : ℕ) (is : at ≡ t) where
          pub write_sound : IsSound tells new shape (slice_set logs at now) late is_dead
          write_sound = subst (λ (k : ℕ). IsSound tells new shape (slice_set logs k now) late is_dead) (sym is)
              (sound_set tells old new shape logs late late is_dead sound does.size t now below kept' sound.ready
              (λ fine. record {
                tied = (sound.in_order fine).tied;
                before = each_set logs t now below (IsBefore shape late.queue) (λ so. absurd (false≢true (sym apart ∙ so))) (λ u ne. (sound.in_order fine).before u);
              })
              (λ told fine. cells_sure shape (staged_places shape t log.held addr bytes) (staged_in_cells shape t small log.held addr bytes write_parts_fit) late.queue spared old.content (long told) (staged_within shape t small log.held addr bytes write_parts_fit)
              (sound.told told alive).sure new.content (does.touched told))
              (λ told fine. late_held shape late sound.ready (sound.in_order fine).tied (staged_places shape t log.held addr bytes) spared old.content.bytes new.content.bytes (does.touched told).bytes (sound.told told fine).shown)
              (λ told fine. now_is_held told)
              (λ told fine u ne l lies. held_kept shape old.content.bytes new.content.bytes u l (sound.kept u l lies) (λ g e lt low. same told u l lies g e lt low (inl ne)) ((sound.told told alive).held u l lies)))

          pub write_len : log_len (view_of new shape (slice_set logs at now) late is_dead) t ≡ length now.entries.items
          write_len = ap (λ (k : ℕ). length (listed (option_map ranges_in (entries_at (slice_set logs k now) t)))) is
              ∙ ap length (ranges_there shape (slice_set logs t now) t now (slice_get-set_same logs t now below) kept') ∙ length-ranges_in now.entries.items

          pub write_done : (k : ℕ) → new.faults ≡ old.faults → (let done : Result ℕ EawFault = Ok k in face.Does tells (Opens shape) (log_write t addr bytes) (view_of old shape logs late is_dead) (view_of new shape (slice_set logs at now) late is_dead) done)
          write_done k same' = subst (λ (j : ℕ). let done : Result ℕ EawFault = Ok k in face.Does tells (Opens shape) (log_write t addr bytes) (view_of old shape logs late is_dead) (view_of new shape (slice_set logs j now) late is_dead) done) (sym is)
              (done tells (Opens shape) (log_write t addr bytes) (view_of old shape logs late is_dead) (view_of new shape (slice_set logs t now) late is_dead) refl refl does.device (refl, λ alive. refl) does.cause.later time k same' alive small (write_fits room)
              (record {
                alive = alive;
                ranges = ranges_set logs t now below _ (ap (option_map ranges_in) (entries_live now live)
                    ∙ ap (λ (rs : List (ℕ × ℕ)). Some rs) (now_ranges ∙ ap (λ (rs : List (ℕ × ℕ)). rs ++ ranges_of (parts_of_write addr bytes)) (sym (ranges_there shape logs t log there kept))));
                state = λ told.
                    let bytes' =
                    alive_shown shape late is_dead new.content.bytes alive
                    ∙ cells_data shape (staged_places shape t log.held addr bytes) (staged_in_cells shape t small log.held addr bytes write_parts_fit) late.queue spared old.content (long told) (staged_within shape t small log.held addr bytes write_parts_fit)
                    (sound.told told alive).sure new.content (does.touched told)
                    ∙ sym (alive_shown shape late is_dead old.content.bytes alive) in
                    let logs' = parts_set logs t now below shape old.content.bytes new.content.bytes _ (ap (option_map (parts_in shape new.content.bytes t)) (entries_live now live)
                    ∙ ap (λ (ps : List Part). Some ps) (now_parts told ∙ ap (λ (ps : List Part). ps ++ parts_of_write addr bytes) (sym (parts_there shape logs t log there kept old.content.bytes))))
                    (λ u ne. others_kept shape logs old.content.bytes new.content.bytes u (sound.kept u) (λ l lies g e lt low. same told u l lies g e lt low (inl ne))) in
                    λ i. record { bytes = bytes' i; logs = logs' i };
              }))

-- a refused write
pub write_refused : (tells : Bool) (old : View) (shape : Shape) (logs : List Log) (late : LateData) (is_dead : Bool) → IsSound tells old shape logs late is_dead → (t addr : ℕ) (bytes : List ℕ) → addr + length bytes ≤ data_len shape → (fault : EawFault)
    → RefusesWrite shape logs is_dead t addr (length bytes) fault → (r : Result ℕ EawFault) → IsErrAnd r (λ e. e ≡ fault) → face.Does tells (Opens shape) (log_write t addr bytes) (view_of old shape logs late is_dead) (view_of old shape logs late is_dead) r
write_refused tells old shape logs late is_dead sound t addr bytes inside (UnknownTid u) said = refused tells (Opens shape) (log_write t addr bytes) (view_of old shape logs late is_dead) (UnknownTid u) (said.0, (said.1, said.2)) (λ is. cc)
write_refused tells old shape logs late is_dead sound t addr bytes inside (LogFull g h n) said =
    refused tells (Opens shape) (log_write t addr bytes) (view_of old shape logs late is_dead) (LogFull g h n)
    (said.0, said.1, first_full tells old shape logs late is_dead sound said.0 t said.1 said.2.log said.2.there addr bytes inside g h n said.2.says) (λ is. cc)
write_refused tells old shape logs late is_dead sound t addr bytes inside Media said = absurd said
write_refused tells old shape logs late is_dead sound t addr bytes inside Dead said = refused tells (Opens shape) (log_write t addr bytes) (view_of old shape logs late is_dead) Dead said (λ is. cc)
