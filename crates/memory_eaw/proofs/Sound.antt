-- What the steps of a command keep true.
use Rattle.std.proofs.Common.{◌≡◌, ℕ, ◌+◌, ◌-◌, ◌*◌, ◌^◌, ◌<◌, ◌≤◌, inl, true, List, [], ◌∷◌, ◌++◌, length, get_or, set, drop, refl, sym, ◌∙◌, ap, subst, arith}
use Rattle.std.specs.Prelude.{All}
use Rattle.std.proofs.lemmas.List.{drop_all, length-set, length-append, length-drop}
use Rattle.std.proofs.lemmas.List.Elements.{All-weaker, All-append, All-get_or, All-push, All-set}
use Rattle.array_shape.specs.declared.shape.Shape.{Shape}
use Rattle.array_shape.specs.Places.{data_len}
use Rattle.array_shape.specs.Parts.{parts_of_write}
use Rattle.array_shape.proofs.Cutting.{write_parts_placed}
use Rattle.array_shape.specs.Logged.{Part, applied, ranges_of}
use Rattle.eaw_face.specs.State.{edited, range_at}
use Rattle.memory_eaw.specs.Kept.{Version, MustFail, MustFailChange}
use Rattle.mirror.specs.Log.{Log, IsWritePart}
use Rattle.memory_eaw.specs.Log.{IsSoundLog}
use Rattle.memory_eaw.specs.Plain.{Plain, IsSound}
use Rattle.mirror.specs.Log.{log_at}
use Rattle.memory_eaw.specs.Steps.{called_plain, changed_plain, failed_plain, committed}
use Rattle.mirror.proofs.Parts.{ranges_of-edited, length-ranges_of, placed_edited}

later : (before now : ℕ) (past : List Version) → before ≤ now → All (λ v. v.until ≤ before) past → All (λ v. v.until ≤ now) past
later before now past le stamped = All-weaker (λ v. v.until ≤ before) (λ v. v.until ≤ now) (λ v was. omega (arith, was)) past stamped

module _ (plain : Plain) (sound : IsSound plain) where
  pub sound_failed : IsSound (failed_plain plain)
  sound_failed = record {
    long = sound.long;
    size = sound.size;
    numbers = sound.numbers;
    logs = sound.logs;
    low = omega arith;
    few = omega arith;
    stamped = later plain.kept.moment (failed_plain plain).kept.moment plain.kept.past (omega (arith, sound.low)) sound.stamped;
  }

  pub below_last : (MustFail plain.kept → ⊥) → plain.kept.moment < 2 ^ 64 - 1
  below_last fine = let ne : plain.kept.moment ≡ 2 ^ 64 - 1 → ⊥ = λ last. fine (inl last) in omega (arith, sound.low, ne)

  pub sound_called : (MustFail plain.kept → ⊥) → IsSound (called_plain plain)
  sound_called fine = record {
    long = sound.long;
    size = sound.size;
    numbers = sound.numbers;
    logs = sound.logs;
    low = omega (arith, below_last fine);
    few = sound.few;
    stamped = later plain.kept.moment (called_plain plain).kept.moment plain.kept.past (omega arith) sound.stamped;
  }

  pub sound_changed : (bytes : List ℕ) → (MustFailChange plain.kept → ⊥) → length bytes ≡ length plain.bytes → IsSound (changed_plain bytes plain)
  sound_changed bytes fine long = record {
    long = long ∙ sound.long;
    size = sound.size;
    numbers = sound.numbers;
    logs = sound.logs;
    low = omega (arith, below_last (λ must. fine (inl must)));
    few = sound.few;
    stamped = All-push (λ v. v.until ≤ plain.kept.moment + 1) plain.kept.past _ (later plain.kept.moment (plain.kept.moment + 1) plain.kept.past (omega arith) sound.stamped) (omega arith);
  }

  pub sound_set : (n : ℕ) (log : Log) → IsSoundLog plain.shape log → IsSound (record plain { logs = set plain.logs n log })
  sound_set n log is = record {
    long = sound.long;
    size = sound.size;
    numbers = length-set plain.logs n log ∙ sound.numbers;
    low = sound.low;
    few = sound.few;
    stamped = sound.stamped;
    logs = All-set (IsSoundLog plain.shape) plain.logs n log is sound.logs;
  }

-- a log that was read
pub sound_read : (shape : Shape) (logs : List Log) (n : ℕ) (log : Log) → All (IsSoundLog shape) logs → n < length logs → log ≡ get_or logs n log → IsSoundLog shape log
sound_read shape logs n log all lt is = subst (IsSoundLog shape) (sym is) (All-get_or (IsSoundLog shape) logs n log lt all)

module _ (shape : Shape) (log : Log) (sound : IsSoundLog shape log) where
  pub sound_edited : (pos at : ℕ) (bytes : List ℕ) → pos < length log.parts → at + length bytes ≤ (range_at (ranges_of log.parts) pos).1 → IsSoundLog shape (record log { parts = edited pos at bytes log.parts })
  sound_edited pos at bytes lt within =
      let long : length (edited pos at bytes log.parts) ≡ length log.parts =
      sym (length-ranges_of (edited pos at bytes log.parts)) ∙ ap length (ranges_of-edited log.parts pos at bytes within) ∙ length-ranges_of log.parts in
      record {
        idle = λ off. absurd (omega (arith, ap length (sound.idle off)));
        few = omega (arith, sound.few, long);
        room = sound.room;
        placed = placed_edited shape log.parts pos at bytes within sound.placed;
      }

  pub sound_appended : (addr : ℕ) (bytes : List ℕ) → addr + length bytes ≤ data_len shape → length log.parts + length (parts_of_write addr bytes) ≤ shape.loggers * shape.entries
      → (let log' : Log = record { is_live = true; parts = log.parts ++ parts_of_write addr bytes; room = log.room } in IsSoundLog shape log')
  sound_appended addr bytes inside fits = record {
    idle = λ off. absurd (cc off);
    few = omega (arith, fits, length-append log.parts (parts_of_write addr bytes));
    room = sound.room;
    placed = All-append (IsWritePart shape) log.parts (parts_of_write addr bytes) sound.placed (write_parts_placed shape addr bytes inside);
  }

committed-some : (ps : List Part) (plain : Plain) → 0 < length ps → committed ps plain ≡ changed_plain (applied ps plain.bytes) plain
committed-some [] plain lt = absurd (omega arith)
committed-some (p ∷ ps) plain lt = refl

-- a change, and then the parts in the data
pub commit_steps : (old mid new : Plain) (t n offset : ℕ) → n ≡ t → mid ≡ changed_plain old.bytes old → new ≡ record mid { bytes = applied (drop offset (log_at mid.logs n).parts) mid.bytes }
    → offset < length (log_at old.logs t).parts → new ≡ committed (drop offset (log_at old.logs t).parts) old
commit_steps old mid new t n offset at first second lt =
    second
    ∙ (λ i. record (first i) { bytes = applied (drop offset (log_at (first i).logs (at i)).parts) (first i).bytes })
    ∙ sym (committed-some (drop offset (log_at old.logs t).parts) old (omega (arith, length-drop offset (log_at old.logs t).parts)))

-- if there are no parts, nothing changes
pub commit_none : (old : Plain) (t offset : ℕ) → offset ≡ length (log_at old.logs t).parts → old ≡ committed (drop offset (log_at old.logs t).parts) old
commit_none old t offset end = sym (ap (λ (ps : List Part). committed ps old) (drop_all offset (log_at old.logs t).parts (omega arith)))
