-- The steps of a commit of several numbers.
use Rattle.std.proofs.Common.{◌≡◌, ℕ, ◌<◌, Bool, true, false, cond, ⊎_elim, List, [], ◌∷◌, ◌++◌, length, get_or, drop, refl, sym, ◌∙◌, ap, subst, arith}
use Rattle.std.specs.Prelude.{None}
use Rattle.std.specs.Option.{option_map}
use Rattle.std.proofs.lemmas.List.{length-append, nil_from_length}
use Rattle.array_shape.specs.Logged.{Part, applied, ranges_of}
use Rattle.eaw_face.specs.State.{Logs, listed, is_one_of, with_each, group_log}
use Rattle.eaw_face.specs.StoreView.{StoreView, IsLive}
use Rattle.eaw_face.specs.Command.{commit_group}
use Rattle.eaw_face.specs.Causes.{IsAlive, known}
use Rattle.eaw_face.specs.Does.{Does}
use Rattle.eaw_face.proofs.Groups.{with_each_next, applied_append, group_ranges, known_there, known_whole}
use Rattle.memory_eaw.specs.Kept.{Kept, MustFailChange}
use Rattle.mirror.specs.Log.{Log}
use Rattle.memory_eaw.specs.Log.{logged, outline}
use Rattle.memory_eaw.specs.Plain.{Plain, IsData, view_of, IsSound}
use Rattle.mirror.specs.Log.{log_at}
use Rattle.memory_eaw.specs.Steps.{relogged, committed, IsUnknownIn}
use Rattle.memory_eaw.specs.Calls.{IsCounted, Counts}
use Rattle.mirror.proofs.Parts.{length-ranges_of}
use Rattle.mirror.proofs.Parts.{log_is}
use Rattle.memory_eaw.proofs.Views.{logged-set, listed-map, parts_are}
use Rattle.memory_eaw.proofs.Doing.{done, does_done}
use Rattle.memory_eaw.proofs.Commands.{counts_parts, same-committed, moment-committed}
use Rattle.eaw_face.specs.declared.fault.EawFault.{EawFault}
use Rattle.eaw_face.specs.declared.fault.EawFault.TheVariants.{Media}
use Rattle.std.proofs.lemmas.Bool.{false≢true}
use Rattle.memory_eaw.proofs.Stopping.{stop}
use Rattle.memory_eaw.proofs.Time.{time_committed, bytes-committed, logs-committed}

-- the first number of a group that is known is one of the array's
pub first_small : (store : StoreView) (all : List ℕ) (t : ℕ) (ts : List ℕ) → all ≡ t ∷ ts → known store (commit_group all) None → (IsLive store t) × known store (commit_group ts) None
first_small store all t ts is ok = subst (λ us. known store (commit_group us) None) is ok

-- Where a loop stands that writes the logs of a group into the data: these numbers are left.
pub record Applies (first now : Plain) (all left : List ℕ) : Type 0 where
  pub live : known (view_of first) (commit_group left) None
  pub same : now ≡ record first { bytes = now.bytes }
  pub bytes : applied (group_log (logged first.logs) left) now.bytes ≡ applied (group_log (logged first.logs) all) first.bytes

pub applies_next : (first now next : Plain) (all left : List ℕ) (t at : ℕ) (rest : List ℕ) → IsSound first → left ≡ t ∷ rest → at ≡ t → Applies first now all left
    → next ≡ record now { bytes = applied (drop 0 (log_at now.logs at).parts) now.bytes } → Applies first next all rest
applies_next first now next all left t at rest sound is at_is stands step =
    let here = first_small (view_of first) left t rest is stands.live in
    let logs : now.logs ≡ first.logs = ap (λ (p : Plain). p.logs) stands.same in
    let lt : t < length first.logs = omega (arith, here.0.small, sound.numbers) in
    let parts : (log_at now.logs at).parts ≡ listed (logged first.logs t) = (λ i. (log_at (logs i) (at_is i)).parts) ∙ sym (parts_are first.shape first.logs sound.logs t lt) in
    let bytes : next.bytes ≡ applied (listed (logged first.logs t)) now.bytes = ap (λ (p : Plain). p.bytes) step ∙ ap (λ (ps : List Part). applied ps now.bytes) parts in
    record {
      live = here.1;
      same = step ∙ (λ i. record (stands.same i) { bytes = ap (λ (p : Plain). p.bytes) (sym step) i });
      bytes = ap (applied (group_log (logged first.logs) rest)) bytes
          ∙ sym (applied_append (listed (logged first.logs t)) (group_log (logged first.logs) rest) now.bytes)
          ∙ ap (λ (ts : List ℕ). applied (group_log (logged first.logs) ts) now.bytes) (sym is)
          ∙ stands.bytes;
    }

-- what the first number of a group has logged, while those before it have logged nothing
module _ (first : Plain) (sound : IsSound first) (all left : List ℕ) (t n : ℕ) (rest : List ℕ) (log : Log) (is : left ≡ t ∷ rest) (n_is : n ≡ t) (read : log ≡ get_or first.logs n log) (live : known (view_of first) (commit_group left) None)
    (empty : group_log (logged first.logs) left ≡ group_log (logged first.logs) all) where
  here : (IsLive (view_of first) t) × known (view_of first) (commit_group rest) None
  here = first_small (view_of first) left t rest is live

  its_parts : listed (logged first.logs t) ≡ log.parts
  unfolding here
  its_parts =
      let lt : t < length first.logs = omega (arith, here.0.small, sound.numbers) in
      parts_are first.shape first.logs sound.logs t lt ∙ ap (λ (l : Log). l.parts) (sym (log_is first.logs t n log lt n_is read))

  whole : log.parts ++ group_log (logged first.logs) rest ≡ group_log (logged first.logs) all
  unfolding here its_parts
  whole = ap (λ (ps : List Part). ps ++ group_log (logged first.logs) rest) (sym its_parts) ∙ ap (group_log (logged first.logs)) (sym is) ∙ empty

  pub has_some : 0 < length log.parts → 0 < length (group_log (logged first.logs) all)
  unfolding here its_parts whole
  has_some some = omega (arith, some, ap length whole, length-append log.parts (group_log (logged first.logs) rest))

  pub has_none : length log.parts ≡ 0 → group_log (logged first.logs) rest ≡ group_log (logged first.logs) all
  unfolding here its_parts whole
  has_none none = ap (λ (ps : List Part). ps ++ group_log (logged first.logs) rest) (sym (nil_from_length log.parts none)) ∙ whole

-- Where a loop stands that frees the numbers of a group: these are left.
pub record Frees (first now : Plain) (all left : List ℕ) : Type 0 where
  pub live : known (view_of first) (commit_group left) None
  pub same : now ≡ record first { logs = now.logs }
  pub logs : with_each (logged now.logs) left None ≡ with_each (logged first.logs) all None

pub frees_next : (first now next : Plain) (all left : List ℕ) (t : ℕ) (rest : List ℕ) → IsSound now → left ≡ t ∷ rest → Frees first now all left → next ≡ relogged t false [] now → Frees first next all rest
frees_next first now next all left t rest sound is stands step =
    let here = first_small (view_of first) left t rest is stands.live in
    let lt : t < length now.logs = omega (arith, here.0.small, sound.numbers, ap (λ (p : Plain). p.shape.numbers) stands.same) in
    record {
      live = here.1;
      same = step ∙ (λ i. record (stands.same i) { logs = ap (λ (p : Plain). p.logs) (sym step) i });
      logs = ap (λ (p : Plain). with_each (logged p.logs) rest None) step
          ∙ ap (λ (ls : Logs Part). with_each ls rest None) (logged-set now.logs t (record { is_live = false; parts = []; room = (log_at now.logs t).room }) lt)
          ∙ with_each_next (logged now.logs) t rest None
          ∙ ap (λ (ts : List ℕ). with_each (logged now.logs) ts None) (sym is)
          ∙ stands.logs;
    }

-- where the parts of numbers lie, with those of a group gone
outline-each : (logs : Logs Part) (ts : List ℕ) → outline (with_each logs ts None) ≡ with_each (outline logs) ts None
outline-each logs ts = λ i u. go u (is_one_of ts u) i
  where
    go : (u : ℕ) (b : Bool) → option_map ranges_of (cond b None (logs u)) ≡ cond b None (option_map ranges_of (logs u))
    go u true = refl
    go u false = refl

-- as many parts as the ranges say
pub group_len : (plain : Plain) (ts : List ℕ) → length (group_log (view_of plain).ranges ts) ≡ length (group_log (logged plain.logs) ts)
group_len plain ts = group_ranges (logged plain.logs) (outline (logged plain.logs)) ts (λ t. ap length (listed-map (logged plain.logs t)) ∙ length-ranges_of (listed (logged plain.logs t)))

-- the parts of a group were committed, and its numbers freed
module _ (old mid new : Plain) (ts : List ℕ) (alive : IsAlive (view_of old)) (live : known (view_of old) (commit_group ts) None)
    (first : mid ≡ committed (group_log (logged old.logs) ts) old) (logs : logged new.logs ≡ with_each (logged mid.logs) ts None) (same : new ≡ record mid { logs = new.logs }) where
  ps : List Part
  ps = group_log (logged old.logs) ts

  rest : ((committed ps old).shape ≡ old.shape) × ((committed ps old).is_dead ≡ old.is_dead) × ((committed ps old).kept.faults ≡ old.kept.faults)
  rest = same-committed ps old

  logs_are : logged new.logs ≡ with_each (logged old.logs) ts None
  unfolding ps
  logs_are = logs ∙ ap (λ (p : Plain). with_each (logged p.logs) ts None) first ∙ ap (λ (ls : List Log). with_each (logged ls) ts None) (logs-committed ps old)

  bytes_are : new.bytes ≡ applied ps old.bytes
  unfolding ps
  bytes_are = ap (λ (p : Plain). p.bytes) same ∙ ap (λ (p : Plain). p.bytes) first ∙ bytes-committed ps old

  pub does_group : Does true IsData (commit_group ts) (view_of old) (view_of new) done
  unfolding ps
  does_group =
      does_done (tt {0}) old new (commit_group ts) (alive, live, tt) (ap (λ (p : Plain). p.shape) same ∙ ap (λ (p : Plain). p.shape) first ∙ rest.0)
      (ap (λ (p : Plain). p.kept.faults) same ∙ ap (λ (p : Plain). p.kept.faults) first ∙ rest.2)
      (record {
        alive = ap (λ (p : Plain). p.is_dead) same ∙ ap (λ (p : Plain). p.is_dead) first ∙ rest.1 ∙ alive;
        ranges = ap outline logs_are ∙ outline-each (logged old.logs) ts;
        state = λ told. λ i. record { bytes = bytes_are i; logs = logs_are i };
      })
      (time_committed ps old new (applied ps old.bytes) (ap (λ (p : Plain). p.bytes) same ∙ ap (λ (p : Plain). p.bytes) first) (ap (λ (p : Plain). p.kept) same ∙ ap (λ (p : Plain). p.kept) first) refl)

  pub counts_group : (0 < length (group_log (logged old.logs) ts) → MustFailChange old.kept → ⊥) → Counts (commit_group ts) (view_of old) old.kept new.kept done
  counts_group fine =
      counts_parts old (commit_group ts) (group_log (logged old.logs) ts) new.kept
      (λ some. record { alive = alive; knows = live; room = tt; work = omega (arith, some, group_len old ts) })
      (λ none counted. omega (arith, none, counted.work, group_len old ts)) fine refl
      (ap (λ (p : Plain). p.kept) same ∙ ap (λ (p : Plain). p.kept) first)

  pub moment_stays : length (group_log (logged old.logs) ts) ≡ 0 → new.kept.moment ≡ old.kept.moment
  moment_stays none = ap (λ (p : Plain). p.kept.moment) same ∙ ap (λ (p : Plain). p.kept.moment) first ∙ ap (λ (k : Kept). k.moment) (moment-committed (group_log (logged old.logs) ts) old none)

-- the numbers of a group are live while parts are committed
pub known_committed : (old : Plain) (ps : List Part) (ts : List ℕ) → known (view_of old) (commit_group ts) None → known (view_of (committed ps old)) (commit_group ts) None
known_committed old [] ts live = live
known_committed old (p ∷ ps) ts live = known_there (view_of old) (view_of (committed (p ∷ ps) old)) (λ t is. record { small = is.small; live = is.live }) ts live

-- a commit of a group that was refused is not counted
pub counts_unknown : (old : Plain) (ts : List ℕ) (fault : EawFault) → IsUnknownIn (view_of old) ts fault → Counts (commit_group ts) (view_of old) old.kept old.kept (stop (Unit {0}) fault)
counts_unknown old ts fault unknown = record {
  fails = (λ is. absurd (other is), λ both. absurd (free both.0));
  counted = λ counted. absurd (free counted);
  uncounted = λ not. refl;
}
  where
    free : IsCounted (view_of old) (commit_group ts) → ⊥
    free counted = ⊎_elim
        (λ dead. false≢true (sym counted.alive ∙ dead.1))
        (λ lacks. known_whole (view_of old) ts lacks.0 counted.knows lacks.3)
        unknown

    other : stop (Unit {0}) fault ≡ stop (Unit {0}) Media → ⊥
    other is = ⊎_elim (λ dead. let never : ⊥ = cc (dead.0, is) in never) (λ lacks. let never : ⊥ = cc (lacks.1, is) in never) unknown
