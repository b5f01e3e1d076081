-- A device over an array that was just settled.
use Rattle.std.proofs.Common.{◌≡◌, ℕ, Bool, false, List, [], length, refl, sym, ◌∙◌, ap, subst, arith}
use Rattle.std.specs.Prelude.{Option, Some, None, slice_get}
use Rattle.std.specs.Option.{option_map}
use Rattle.std.proofs.lemmas.List.{nil_from_length}
use Rattle.pcm_media.specs.View.{View}
use Rattle.row_bytes.proofs.OneShape.{one_shape}
use Rattle.array_image.specs.Decided.{settled_data}
use Rattle.array_shape.specs.declared.shape.Shape.{Shape}
use Rattle.array_shape.specs.Logged.{ranges_of}
use Rattle.write_back.specs.declared.entry.Entry.{Entry}
use Rattle.eaw_device.specs.declared.log.Log.{Log}
use Rattle.eaw_device.specs.Logs.{IsHeld, entries_of, entries_at}
use Rattle.write_back.specs.Entries.{ranges_in, parts_in, cells_on}
use Rattle.write_back.specs.declared.commits.LateData.{LateData}
use Rattle.eaw_device.specs.Sound.{IsSound, view_of}
use Rattle.eaw_device.specs.Opens.{header_of, Attached, FindsData}
use Rattle.eaw_device.specs.Opening.{IsFree, AreFree, IsOpened, Settled}
use Rattle.eaw_device.proofs.Keeping.{length-cells_on_kept}
use Rattle.eaw_device.proofs.Empty.{empty_before, empty_data, empty_waiting}
use Rattle.eaw_device.proofs.Tables.{entries_free, entries_there}

module _ (shape : Shape) (log : Log) (is : IsFree shape log) where
  none_logged : log.entries.items ≡ []
  none_logged = nil_from_length log.entries.items (is.kept.free is.is_free)

  -- a free log holds no cell
  free_held : (image : List ℕ) (t : ℕ) → IsHeld shape image t log
  free_held image t = record {
    good = λ g e lt below.
        let none : length (cells_on shape g log.entries.items) ≡ 0 = ap (λ (es : List Entry). length (cells_on shape g es)) none_logged in
        absurd (omega (arith, length-cells_on_kept shape log g is.kept lt, none, below));
    heads = ap (λ (es : List Entry). ranges_of (parts_in shape image t es)) none_logged ∙ sym (ap ranges_in none_logged);
  }

module _ (tells : Bool) (old new : View) (shape : Shape) (logs : List Log) (late : LateData) (settled : Settled tells old shape new) (free : AreFree shape logs) (depth : ℕ) (is : IsOpened shape depth late) where
  pub opened_sound : IsSound tells new shape logs late false
  opened_sound = record {
    shaped = shape.in_range;
    sized = settled.size ∙ settled.sized;
    many = free.many;
    kept = λ t log got. (free.free t log got).kept;
    ready = is.ready;
    in_order = λ alive. record { tied = is.tied; before = λ t log got. empty_before shape late.queue is.none t log };
    told = λ told alive. record {
      sure = record { waiting = empty_waiting shape late.queue is.none new.content (settled.clean told); header = settled.header told };
      shown = λ t lt. subst (λ (es : List Entry). ranges_of (parts_in shape new.content.bytes t es) ≡ ranges_in es) (sym (is.no_entry t)) refl;
      held = λ t log got. free_held shape log (free.free t log got) new.content.bytes t;
    };
  }

  none_at : (t : ℕ) (o : Option Log) → slice_get logs t ≡ o → entries_at logs t ≡ None
  none_at t None is' = ap (λ (o : Option Log). elim o [ None ↦ (let none : Option (List Entry) = None in none) | Some log ↦ entries_of log ]) is'
  none_at t (Some log) is' = entries_there logs t log is' ∙ entries_free log (free.free t log is').is_free

  pub opened : Attached tells old (view_of new shape logs late false)
  opened = record {
    shape_is = settled.shape_is;
    sized = settled.sized;
    good = settled.good;
    bytes = λ told. empty_data shape late.queue is.none new.content.bytes ∙ settled.bytes told;
    free = λ t. ap (option_map ranges_in) (none_at t (slice_get logs t) refl);
    unlogged = λ t. ap (option_map (parts_in shape new.content.bytes t)) (none_at t (slice_get logs t) refl);
    alive = refl;
    faults = settled.faults;
    device = settled.device;
    calls = settled.calls;
  }

  pub found : FindsData tells old (view_of new shape logs late false)
  found told said bytes opens =
      let same = one_shape (header_of old.content.bytes) shape said (settled.shape_is told) opens.header in
      (same, empty_data shape late.queue is.none new.content.bytes ∙ settled.bytes told ∙ ap (λ (s : Shape). settled_data s old.content.bytes) same ∙ opens.stands.gives)
