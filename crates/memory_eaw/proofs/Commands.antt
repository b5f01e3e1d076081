-- Each command that is done, from the steps that it takes.
use Rattle.std.proofs.Common.{◌≡◌, ℕ, ◌+◌, ◌<◌, ◌≤◌, min, inr, Bool, true, false, List, [], ◌∷◌, ◌++◌, length, set, take, drop, refl, sym, ◌∙◌, ap, arith}
use Rattle.std.specs.Prelude.{None}
use Rattle.std.proofs.lemmas.List.{length-drop, get_or-set_same}
use Rattle.mars_base.specs.Bytes.{put}
use Rattle.array_shape.specs.Parts.{parts_of_write}
use Rattle.array_shape.specs.Logged.{Part, applied, ranges_of}
use Rattle.eaw_face.specs.State.{State, listed, with_log, edited, range_at}
use Rattle.eaw_face.specs.StoreView.{IsLive, LeavesOnly}
use Rattle.eaw_face.specs.Command.{Command, log_write, log_edit, commit, abort, nested_top, partial_abort, atomic_write, after, ranges_after}
use Rattle.eaw_face.specs.Causes.{IsAlive, fit}
use Rattle.eaw_face.specs.Does.{Does, IsEither}
use Rattle.memory_eaw.specs.Kept.{Kept, changed, MustFailChange}
use Rattle.mirror.specs.Log.{Log}
use Rattle.memory_eaw.specs.Log.{logged}
use Rattle.memory_eaw.specs.Plain.{Plain, IsData, view_of, IsSound}
use Rattle.mirror.specs.Log.{log_at}
use Rattle.memory_eaw.specs.Steps.{relogged, called_plain, changed_plain, committed}
use Rattle.memory_eaw.specs.Calls.{IsCounted, is_change, FailsAs, kept_after, Counts}
use Rattle.memory_eaw.proofs.Views.{is_live_from}
use Rattle.memory_eaw.proofs.Time.{time_same, time_changed, time_committed, bytes-committed, logs-committed}
use Rattle.memory_eaw.proofs.Doing.{answer, done, does_done, May, becomes_same, becomes_written, becomes_freed, becomes_edited, becomes_cut, parts_is, log_len_is}
use Rattle.memory_eaw.proofs.Counting.{counts_done, counts_idle}

-- what a commit of parts leaves alone
pub same-committed : (ps : List Part) (old : Plain) → ((committed ps old).shape ≡ old.shape) × ((committed ps old).is_dead ≡ old.is_dead) × ((committed ps old).kept.faults ≡ old.kept.faults)
same-committed [] old = (refl, refl, refl)
same-committed (p ∷ ps) old = (refl, refl, refl)

pub moment-committed : (ps : List Part) (old : Plain) → length ps ≡ 0 → (committed ps old).kept ≡ old.kept
moment-committed [] old none = refl
moment-committed (p ∷ ps) old none = absurd (omega arith)

-- a commit of parts is one call, if there are any
pub calls-committed : (ps : List Part) (old : Plain) → (committed ps old).kept.moment ≡ old.kept.moment + min (length ps) 1
calls-committed [] old = omega arith
calls-committed (p ∷ ps) old = omega arith

-- what is kept of a command that committed these parts
pub counts_parts : (old : Plain) (command : Command) (ps : List Part) (kept : Kept) → (0 < length ps → IsCounted (view_of old) command) → (length ps ≡ 0 → IsCounted (view_of old) command → ⊥) → (0 < length ps → FailsAs (is_change command) old.kept → ⊥)
    → changed old.bytes old.kept ≡ kept_after (is_change command) done old.bytes old.kept → kept ≡ (committed ps old).kept → Counts command (view_of old) old.kept kept done
counts_parts old command [] kept some none fine is same = counts_idle (tt {0}) (view_of old) command old.kept kept (none refl) same
counts_parts old command (p ∷ ps) kept some none fine is same = counts_done (tt {0}) (view_of old) command old.kept kept (some (omega arith)) (fine (omega arith)) (same ∙ is)

module _ (old : Plain) (sound : IsSound old) (t : ℕ) (lt : t < old.shape.numbers) (alive : IsAlive (view_of old)) where
  pub is_live : IsLive (view_of old) t → (log_at old.logs t).is_live ≡ true
  is_live known = is_live_from old.logs t (omega (arith, sound.numbers)) known.live

  module _ (new : Plain) where
    pub does_written : (n addr : ℕ) (bytes : List ℕ) → fit (view_of old).shape (listed ((view_of old).ranges t)) (ranges_of (parts_of_write addr bytes)) None
        → new ≡ relogged t true ((log_at old.logs t).parts ++ parts_of_write addr bytes) (called_plain old) → Does true IsData (log_write t addr bytes) (view_of old) (view_of new) (answer n)
    does_written n addr bytes fit is =
        does_done n old new (log_write t addr bytes) (alive, lt, fit) (ap (λ (p : Plain). p.shape) is) (omega (arith, ap (λ (p : Plain). p.kept.faults) is))
        (becomes_written old sound t lt new (ap (λ (p : Plain). p.is_dead) is ∙ alive) addr bytes (ap (λ (p : Plain). p.bytes) is) (ap (λ (p : Plain). p.logs) is))
        (time_same old new (IsEither IsData old.bytes old.bytes) (ap (λ (p : Plain). p.bytes) is) (ap (λ (p : Plain). p.kept.past) is) (omega (arith, ap (λ (p : Plain). p.kept.moment) is)))

    module _ (known : IsLive (view_of old) t) where
      pub does_edited : (pos at : ℕ) (bytes : List ℕ) → at + length bytes ≤ (range_at (ranges_of (log_at old.logs t).parts) pos).1
          → new ≡ relogged t (log_at old.logs t).is_live (edited pos at bytes (log_at old.logs t).parts) (called_plain old) → Does true IsData (log_edit t pos at bytes) (view_of old) (view_of new) done
      does_edited pos at bytes fits is =
          does_done (tt {0}) old new (log_edit t pos at bytes) (alive, known, tt) (ap (λ (p : Plain). p.shape) is) (omega (arith, ap (λ (p : Plain). p.kept.faults) is))
          (becomes_edited old sound t lt new (ap (λ (p : Plain). p.is_dead) is ∙ alive) (is_live known) pos at bytes fits (ap (λ (p : Plain). p.bytes) is) (ap (λ (p : Plain). p.logs) is))
          (time_same old new (IsEither IsData old.bytes old.bytes) (ap (λ (p : Plain). p.bytes) is) (ap (λ (p : Plain). p.kept.past) is) (omega (arith, ap (λ (p : Plain). p.kept.moment) is)))

      pub does_freed : new ≡ relogged t false [] old → Does true IsData (abort t) (view_of old) (view_of new) done
      does_freed is =
          does_done (tt {0}) old new (abort t) (alive, known, tt) (ap (λ (p : Plain). p.shape) is) (omega (arith, ap (λ (p : Plain). p.kept.faults) is))
          (becomes_freed old sound t lt new (ap (λ (p : Plain). p.is_dead) is ∙ alive) (abort t) (ap (λ (p : Plain). p.logs) is) refl (λ i. record { bytes = ap (λ (p : Plain). p.bytes) (sym is) i; logs = with_log (logged old.logs) t None }))
          (time_same old new (IsEither IsData old.bytes old.bytes) (ap (λ (p : Plain). p.bytes) is) (ap (λ (p : Plain). p.kept.past) is) (omega (arith, ap (λ (p : Plain). p.kept.moment) is)))

      pub does_cut : (offset : ℕ) → new ≡ relogged t (log_at old.logs t).is_live (take offset (log_at old.logs t).parts) old → Does true IsData (partial_abort t offset) (view_of old) (view_of new) done
      does_cut offset is =
          does_done (tt {0}) old new (partial_abort t offset) (alive, known, tt) (ap (λ (p : Plain). p.shape) is) (omega (arith, ap (λ (p : Plain). p.kept.faults) is))
          (becomes_cut old sound t lt new (ap (λ (p : Plain). p.is_dead) is ∙ alive) (is_live known) (partial_abort t offset) offset (ap (λ (p : Plain). p.logs) is) refl
          (ap (λ (bs : List ℕ). let s : State = record { bytes = bs; logs = (after (partial_abort t offset) (view_of old).state).logs } in s) (ap (λ (p : Plain). p.bytes) (sym is))))
          (time_same old new (IsEither IsData old.bytes old.bytes) (ap (λ (p : Plain). p.bytes) is) (ap (λ (p : Plain). p.kept.past) is) (omega (arith, ap (λ (p : Plain). p.kept.moment) is)))

      -- parts of the log were committed, and then the log is another
      module _ (ps : List Part) (mid : Plain) (first : mid ≡ committed ps old) where
        shape_is : mid.shape ≡ old.shape
        shape_is = ap (λ (p : Plain). p.shape) first ∙ (same-committed ps old).0

        alive_is : mid.is_dead ≡ false
        alive_is = ap (λ (p : Plain). p.is_dead) first ∙ (same-committed ps old).1 ∙ alive

        faults_are : mid.kept.faults ≡ old.kept.faults
        faults_are = ap (λ (p : Plain). p.kept.faults) first ∙ (same-committed ps old).2

        logs_are : mid.logs ≡ old.logs
        logs_are = ap (λ (p : Plain). p.logs) first ∙ logs-committed ps old

        bytes_are : mid.bytes ≡ applied ps old.bytes
        bytes_are = ap (λ (p : Plain). p.bytes) first ∙ bytes-committed ps old

        time_is : (bytes : List ℕ) → new.bytes ≡ mid.bytes → new.kept ≡ mid.kept → applied ps old.bytes ≡ bytes → LeavesOnly (IsEither IsData old.bytes bytes) (view_of old) (view_of new)
        time_is bytes same kept is = time_committed ps old new bytes (same ∙ ap (λ (p : Plain). p.bytes) first) (kept ∙ ap (λ (p : Plain). p.kept) first) is

        pub does_committed : ps ≡ (log_at old.logs t).parts → new ≡ relogged t false [] mid → Does true IsData (commit t) (view_of old) (view_of new) done
        does_committed all is =
            let whole : applied ps old.bytes ≡ applied (listed (logged old.logs t)) old.bytes = ap (λ (qs : List Part). applied qs old.bytes) (all ∙ sym (parts_is old sound t lt)) in
            let bytes : applied (listed (logged old.logs t)) old.bytes ≡ new.bytes = sym whole ∙ sym bytes_are ∙ ap (λ (p : Plain). p.bytes) (sym is) in
            does_done (tt {0}) old new (commit t) (alive, known, tt) (ap (λ (p : Plain). p.shape) is ∙ shape_is) (omega (arith, ap (λ (p : Plain). p.kept.faults) is, faults_are))
            (becomes_freed old sound t lt new (ap (λ (p : Plain). p.is_dead) is ∙ alive_is) (commit t)
            (ap (λ (p : Plain). p.logs) is ∙ ap (λ (ls : List Log). set ls t (record { is_live = false; parts = []; room = (log_at ls t).room })) logs_are) refl
            (ap (λ (bs : List ℕ). let s : State = record { bytes = bs; logs = with_log (logged old.logs) t None } in s) bytes))
            (time_is (applied (listed (logged old.logs t)) old.bytes) (ap (λ (p : Plain). p.bytes) is) (ap (λ (p : Plain). p.kept) is) whole)

        pub does_nested : (offset : ℕ) → ps ≡ drop offset (log_at old.logs t).parts → new ≡ relogged t (log_at mid.logs t).is_live (take offset (log_at mid.logs t).parts) mid → Does true IsData (nested_top t offset) (view_of old) (view_of new) done
        does_nested offset some is =
            let whole : applied ps old.bytes ≡ applied (drop offset (listed (logged old.logs t))) old.bytes =
            ap (λ (qs : List Part). applied qs old.bytes) (some ∙ ap (drop offset) (sym (parts_is old sound t lt))) in
            let bytes : applied (drop offset (listed (logged old.logs t))) old.bytes ≡ new.bytes = sym whole ∙ sym bytes_are ∙ ap (λ (p : Plain). p.bytes) (sym is) in
            does_done (tt {0}) old new (nested_top t offset) (alive, known, tt) (ap (λ (p : Plain). p.shape) is ∙ shape_is) (omega (arith, ap (λ (p : Plain). p.kept.faults) is, faults_are))
            (becomes_cut old sound t lt new (ap (λ (p : Plain). p.is_dead) is ∙ alive_is) (is_live known) (nested_top t offset) offset
            (ap (λ (p : Plain). p.logs) is ∙ ap (λ (ls : List Log). set ls t (record { is_live = (log_at ls t).is_live; parts = take offset (log_at ls t).parts; room = (log_at ls t).room })) logs_are) refl
            (ap (λ (bs : List ℕ). let s : State = record { bytes = bs; logs = (after (nested_top t offset) (view_of old).state).logs } in s) bytes))
            (time_is (applied (drop offset (listed (logged old.logs t))) old.bytes) (ap (λ (p : Plain). p.bytes) is) (ap (λ (p : Plain). p.kept) is) whole)

        -- the moment stays if there was nothing to commit
        pub moment_stays : length ps ≡ 0 → mid.kept.moment ≡ old.kept.moment
        moment_stays none = ap (λ (p : Plain). p.kept.moment) first ∙ ap (λ (k : Kept). k.moment) (moment-committed ps old none)

  module _ (known : IsLive (view_of old) t) (kept : Kept) where
    pub counts_committed : (0 < length (log_at old.logs t).parts → MustFailChange old.kept → ⊥) → kept ≡ (committed (log_at old.logs t).parts old).kept → Counts (commit t) (view_of old) old.kept kept done
    counts_committed fine same =
        counts_parts old (commit t) (log_at old.logs t).parts kept
        (λ some. record { alive = alive; knows = known; room = tt; work = omega (arith, some, log_len_is old sound t lt) })
        (λ none counted. omega (arith, none, counted.work, log_len_is old sound t lt)) fine refl same

    pub counts_nested : (offset : ℕ) → (offset < length (log_at old.logs t).parts → MustFailChange old.kept → ⊥) → kept ≡ (committed (drop offset (log_at old.logs t).parts) old).kept → Counts (nested_top t offset) (view_of old) old.kept kept done
    counts_nested offset fine same =
        let left = length-drop offset (log_at old.logs t).parts in
        counts_parts old (nested_top t offset) (drop offset (log_at old.logs t).parts) kept
        (λ some. record { alive = alive; knows = known; room = tt; work = omega (arith, some, left, log_len_is old sound t lt) })
        (λ none counted. omega (arith, none, counted.work, left, log_len_is old sound t lt)) (λ some. fine (omega (arith, some, left))) refl same

-- a write that commits by itself
pub does_put : (old new : Plain) (t addr : ℕ) (bytes : List ℕ) → IsAlive (view_of old) → fit (view_of old).shape [] (ranges_of (parts_of_write addr bytes)) None → new ≡ changed_plain (put old.bytes addr bytes) old → Does true IsData (atomic_write t addr bytes) (view_of old) (view_of new) done
does_put old new t addr bytes alive fit is =
    does_done (tt {0}) old new (atomic_write t addr bytes) (alive, tt, fit) (ap (λ (p : Plain). p.shape) is) (omega (arith, ap (λ (p : Plain). p.kept.faults) is))
    (record {
      alive = ap (λ (p : Plain). p.is_dead) is ∙ alive;
      ranges = ap (λ (p : Plain). (view_of p).ranges) is;
      state = λ told. ap (λ (p : Plain). (view_of p).state) is;
    })
    (time_changed old new (IsEither IsData old.bytes (put old.bytes addr bytes)) (ap (λ (p : Plain). p.kept.moment) is) (ap (λ (p : Plain). p.kept.past) is) (inr (ap (λ (p : Plain). p.bytes) is)))

-- the parts of a number that has logged these
pub parts-relogged : (old new : Plain) (t : ℕ) (is_live : Bool) (parts : List Part) → t < length old.logs → new ≡ relogged t is_live parts old → (log_at new.logs t).parts ≡ parts
parts-relogged old new t is_live parts lt is =
    ap (λ (p : Plain). (log_at p.logs t).parts) is
    ∙ ap (λ (log : Log). log.parts) (get_or-set_same old.logs t (record { is_live = is_live; parts = parts; room = (log_at old.logs t).room }) (record { is_live = false; parts = []; room = 0 }) lt)

-- a command that changes nothing
pub does_looked : {T : Type 0} (x : T) (old new : Plain) (command : Command) → May (view_of old) command → new ≡ called_plain old → ranges_after command (view_of old).ranges ≡ (view_of old).ranges → after command (view_of old).state ≡ (view_of old).state
    → Does true IsData command (view_of old) (view_of new) (answer x)
does_looked x old new command may is ranges state =
    does_done x old new command may (ap (λ (p : Plain). p.shape) is) (omega (arith, ap (λ (p : Plain). p.kept.faults) is))
    (becomes_same old new command (ap (λ (p : Plain). p.is_dead) is ∙ may.0) (ap (λ (p : Plain). p.bytes) is) (ap (λ (p : Plain). p.logs) is) ranges state)
    (time_same old new (IsEither IsData old.bytes (after command (view_of old).state).bytes) (ap (λ (p : Plain). p.bytes) is) (ap (λ (p : Plain). p.kept.past) is) (omega (arith, ap (λ (p : Plain). p.kept.moment) is)))
