-- A log that is cut at a position, and what it had from there on in the data.
use Rattle.std.proofs.Common.{◌≡◌, ◌≢◌, ℕ, ◌<◌, Bool, true, false, List, length, take, sym, ◌∙◌, ap, arith}
use Rattle.std.specs.Prelude.{IsTrue, slice_get, slice_set, slice_index, Some, None}
use Rattle.std.specs.Option.{option_map}
use Rattle.std.proofs.lemmas.Option.{slice_get_within}
use Rattle.pcm_media.specs.View.{View}
use Rattle.array_shape.specs.declared.shape.Shape.{Shape}
use Rattle.array_shape.specs.Logged.{Part, ranges_of}
use Rattle.array_image.specs.Image.{cell_of}
use Rattle.array_image.specs.Standing.{SameCells}
use Rattle.eaw_face.specs.State.{listed, with_log}
use Rattle.write_back.specs.declared.entry.Entry.{Entry}
use Rattle.eaw_device.specs.declared.log.Log.{Log}
use Rattle.write_back.specs.declared.queue.LateCommits.{LateCommits}
use Rattle.write_back.specs.declared.commits.LateData.{LateData}
use Rattle.eaw_device.specs.Logs.{IsKept, IsHeld, entries_at}
use Rattle.write_back.specs.Entries.{ranges_in, parts_in, cells_on}
use Rattle.write_back.specs.Entries.{AreHeld}
use Rattle.write_back.specs.Shown.{entries_of as kept_entries}
use Rattle.write_back.specs.Tied.{IsReady, IsTied}
use Rattle.eaw_device.specs.Sound.{IsBefore, IsInOrder, IsSure, IsSound}
use Rattle.eaw_device.proofs.Entries.{ranges_in-take}
use Rattle.eaw_device.proofs.Keeping.{length-cells_on_kept, first_few}
use Rattle.eaw_device.proofs.LogParts.{parts_in-take, ranges_of-take}
use Rattle.eaw_device.proofs.Tables.{each_set, entries_live, entries_free, ranges_there, parts_there, ranges_set, parts_set, parts_kept, held_kept, others_kept, sound_set}
use Rattle.eaw_device.proofs.Doing.{Found}

-- the first entries of a log are held in its cells
pub held_first : (shape : Shape) (image : List ℕ) (t n : ℕ) (log now : Log) → IsKept shape log → IsKept shape now → now.entries.items ≡ take n log.entries.items → IsHeld shape image t log → IsHeld shape image t now
held_first shape image t n log now kept kept' items held = record {
  good = λ g e lt below.
      let count = length-cells_on_kept shape now g kept' lt in
      let same = ap (λ (es : List Entry). length (cells_on shape g es)) items in
      held.good g e lt (omega (arith, first_few shape n log.entries.items log.held kept.cells g lt));
  heads = ap (λ (es : List Entry). ranges_of (parts_in shape image t es)) items ∙ ap ranges_of (parts_in-take shape image t n log.entries.items) ∙ ranges_of-take n (parts_in shape image t log.entries.items)
      ∙ ap (take n) held.heads ∙ sym (ranges_in-take n log.entries.items) ∙ ap ranges_in (sym items);
}

-- a cut log holds no more cells than it did
pub before_first : (shape : Shape) (queue : LateCommits) (t n : ℕ) (log now : Log) → IsKept shape log → IsKept shape now → now.entries.items ≡ take n log.entries.items → IsBefore shape queue t log → IsBefore shape queue t now
before_first shape queue t n log now kept kept' items before so g lt =
    let count = length-cells_on_kept shape now g kept' lt in
    let same = ap (λ (es : List Entry). length (cells_on shape g es)) items in
    let few = first_few shape n log.entries.items log.held kept.cells g lt in
    omega (arith, before so g lt, count, same, few)

-- one log is cut, and the queue stays
pub order_first : (shape : Shape) (late : LateData) (logs : List Log) (t n : ℕ) (log now : Log) → slice_get logs t ≡ Some log → t < length logs → IsKept shape log → IsKept shape now → now.entries.items ≡ take n log.entries.items → IsInOrder shape late logs → IsInOrder shape late (slice_set logs t now)
order_first shape late logs t n log now there lt kept kept' items order = record {
  tied = order.tied;
  before = each_set logs t now lt (IsBefore shape late.queue) (before_first shape late.queue t n log now kept kept' items (order.before t log there)) (λ u ne. order.before u);
}

-- one log is cut where its last entries were committed
pub order_cut : (shape : Shape) (late late' : LateData) (logs : List Log) (t n : ℕ) (log now : Log) → slice_get logs t ≡ Some log → t < length logs → IsKept shape now → now.entries.items ≡ take n log.entries.items → IsInOrder shape late logs → IsTied shape late' (λ t. false)
    → ((now : Log) → IsKept shape now → now.entries.items ≡ take n log.entries.items → IsBefore shape late.queue t log → IsBefore shape late'.queue t now) → ((u : ℕ) (its : Log) → u ≢ t → IsBefore shape late.queue u its → IsBefore shape late'.queue u its)
    → IsInOrder shape late' (slice_set logs t now)
order_cut shape late late' logs t n log now there lt kept items order tied before others = record {
  tied = tied;
  before = each_set logs t now lt (IsBefore shape late'.queue) (before now kept items (order.before t log there)) (λ u ne its got. others u its ne (order.before u its got));
}

module _ (tells : Bool) (old new : View) (shape : Shape) (logs : List Log) (late late' : LateData) (is_dead : Bool) (sound : IsSound tells old shape logs late is_dead) (t : ℕ) (log : Log) (found : Found tells old shape logs late is_dead t log)
    (size : new.size ≡ old.size) (cells : IsTrue tells → SameCells shape old.content.bytes new.content.bytes) (now : Log) (kept : IsKept shape now) (n : ℕ) (items : now.entries.items ≡ take n log.entries.items) where
  same : IsTrue tells → (u : ℕ) (l : Log) → slice_get logs u ≡ Some l → (g e : ℕ) → g < shape.loggers → e < slice_index l.held g → cell_of shape new.content.bytes g u e ≡ cell_of shape old.content.bytes g u e
  same told u l is g e lt below =
      let fits = (sound.kept u l is).fits g lt in
      let small = slice_get_within logs u l is in
      cells told g u e lt (omega (arith, sound.many)) (omega arith)

  pub cut_sound : IsReady shape late' → (is_dead ≡ false → IsInOrder shape late' (slice_set logs t now)) → (IsTrue tells → is_dead ≡ false → IsSure shape late'.queue new.content) → (IsTrue tells → is_dead ≡ false → AreHeld shape new.content.bytes (kept_entries late'.parts))
      → IsSound tells new shape (slice_set logs t now) late' is_dead
  cut_sound ready in_order sure shown = sound_set tells old new shape logs late late' is_dead sound size t now found.below kept ready in_order sure shown
      (λ told alive. held_first shape new.content.bytes t n log now found.kept kept items (held_kept shape old.content.bytes new.content.bytes t log found.kept (same told t log found.there) (found.held told)))
      (λ told alive u ne l is. held_kept shape old.content.bytes new.content.bytes u l (sound.kept u l is) (same told u l is) ((found.told told).held u l is))

  old_ranges : listed (option_map ranges_in (entries_at logs t)) ≡ ranges_in log.entries.items
  old_ranges = ranges_there shape logs t log found.there found.kept

  old_parts : listed (option_map (parts_in shape old.content.bytes t) (entries_at logs t)) ≡ parts_in shape old.content.bytes t log.entries.items
  old_parts = parts_there shape logs t log found.there found.kept old.content.bytes

  now_parts : IsTrue tells → parts_in shape new.content.bytes t now.entries.items ≡ take n (listed (option_map (parts_in shape old.content.bytes t) (entries_at logs t)))
  now_parts told = ap (parts_in shape new.content.bytes t) items ∙ parts_in-take shape new.content.bytes t n log.entries.items
      ∙ ap (take n) (parts_kept shape old.content.bytes new.content.bytes t log found.kept (same told t log found.there) ∙ sym old_parts)

  others : IsTrue tells → (u : ℕ) → u ≢ t → option_map (parts_in shape new.content.bytes u) (entries_at logs u) ≡ option_map (parts_in shape old.content.bytes u) (entries_at logs u)
  others told u ne = others_kept shape logs old.content.bytes new.content.bytes u (sound.kept u) (same told u)

  -- a number that is free now
  pub freed_ranges : now.is_live ≡ false → (λ (u : ℕ). option_map ranges_in (entries_at (slice_set logs t now) u)) ≡ with_log (λ (u : ℕ). option_map ranges_in (entries_at logs u)) t None
  freed_ranges free = ranges_set logs t now found.below None (ap (option_map ranges_in) (entries_free now free))

  pub freed_logs : now.is_live ≡ false → IsTrue tells → (λ (u : ℕ). option_map (parts_in shape new.content.bytes u) (entries_at (slice_set logs t now) u)) ≡ with_log (λ (u : ℕ). option_map (parts_in shape old.content.bytes u) (entries_at logs u)) t None
  freed_logs free told = parts_set logs t now found.below shape old.content.bytes new.content.bytes None (ap (option_map (parts_in shape new.content.bytes t)) (entries_free now free)) (others told)

  -- one that stays live
  pub cut_ranges : now.is_live ≡ true → (λ (u : ℕ). option_map ranges_in (entries_at (slice_set logs t now) u)) ≡ with_log (λ (u : ℕ). option_map ranges_in (entries_at logs u)) t (Some (take n (listed (option_map ranges_in (entries_at logs t)))))
  cut_ranges live = ranges_set logs t now found.below (Some (take n (listed (option_map ranges_in (entries_at logs t)))))
      (ap (option_map ranges_in) (entries_live now live) ∙ ap (λ (rs : List (ℕ × ℕ)). Some rs) (ap ranges_in items ∙ ranges_in-take n log.entries.items ∙ ap (take n) (sym old_ranges)))

  pub cut_logs : now.is_live ≡ true → IsTrue tells → (λ (u : ℕ). option_map (parts_in shape new.content.bytes u) (entries_at (slice_set logs t now) u))
      ≡ with_log (λ (u : ℕ). option_map (parts_in shape old.content.bytes u) (entries_at logs u)) t (Some (take n (listed (option_map (parts_in shape old.content.bytes t) (entries_at logs t)))))
  cut_logs live told = parts_set logs t now found.below shape old.content.bytes new.content.bytes (Some (take n (listed (option_map (parts_in shape old.content.bytes t) (entries_at logs t)))))
      (ap (option_map (parts_in shape new.content.bytes t)) (entries_live now live) ∙ ap (λ (ps : List Part). Some ps) (now_parts told)) (others told)
