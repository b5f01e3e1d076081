-- A write that commits by itself: a write into the log of a free number, and its commit.
use Rattle.std.proofs.Common.{◌≡◌, ◌≢◌, ℕ, ◌+◌, ◌<◌, ◌≤◌, Bool, false, cond, inl, inr, ⊎_elim, List, [], ◌++◌, length, Result, Ok, Err, refl, sym, ◌∙◌, ap, subst, arith}
use Rattle.std.specs.Prelude.{IsTrue, IfErr, IsSome, Option, Some, None}
use Rattle.std.specs.Option.{option_map}
use Rattle.std.proofs.lemmas.Bool.{cases_eq, eq-eqb, ne_eqb, false≢true}
use Rattle.mars_base.proofs.Going.{weaker, then}
use Rattle.mars_base.specs.Bytes.{put}
use Rattle.array_shape.specs.declared.shape.Shape.{Shape}
use Rattle.array_shape.specs.Parts.{parts_of_write}
use Rattle.array_shape.specs.Logged.{applied, ranges_of}
use Rattle.array_shape.proofs.WriteParts.{applied_write_parts}
use Rattle.eaw_face.specs.State.{State, Logs, listed, with_log}
use Rattle.eaw_face.specs.StoreView.{StoreView, IsLive, LeavesOnly}
use Rattle.eaw_face.specs.Command.{log_write, commit, atomic_write, after}
use Rattle.eaw_face.specs.Causes.{IsAlive, fit, Cause}
use Rattle.eaw_face.specs.Sending.{Sending}
use Rattle.eaw_face.proofs.Mirroring.{sent_then}
use Rattle.eaw_face.specs.Does.{Becomes, IsEither, Does}
use Rattle.eaw_face.specs.declared.fault.EawFault.{EawFault}
use Rattle.eaw_face.specs.declared.fault.EawFault.TheVariants.{UnknownTid, LogFull, Media, Dead}

-- a log that is given to a number, and given up
with_here : {A : Type 0} (logs : Logs A) (t : ℕ) (log : Option (List A)) → with_log logs t log t ≡ log
with_here {A} logs t log = ap (λ (b : Bool). cond b log (logs t)) (eq-eqb t t refl)

given_up : {A : Type 0} (logs : Logs A) (t : ℕ) (log : Option (List A)) → logs t ≡ None → with_log (with_log logs t log) t None ≡ logs
given_up {A} logs t log free = λ i u. one u i
  where
    one : (u : ℕ) → with_log (with_log logs t log) t None u ≡ logs u
    one u = elim (cases_eq u t) [
      | inl is ↦ ap (λ (b : Bool). cond b None (cond b log (logs u))) (eq-eqb u t is) ∙ sym free ∙ ap logs (sym is)
      | inr ne ↦ ap (λ (b : Bool). cond b None (cond b log (logs u))) (ne_eqb u t ne)
    ]

-- only the medium can make a commit of a live number fail
pub commit_fails : (store : StoreView) (t faults : ℕ) (r : Result (Unit {0}) EawFault) → Cause store (commit t) faults r → IsAlive store → IsLive store t → IfErr r (λ fault. fault ≡ Media)
commit_fails store t faults (Ok x) cause alive live = tt
commit_fails store t faults (Err (UnknownTid u)) cause alive live = absurd (cause.1.0 live)
commit_fails store t faults (Err (LogFull g h n)) cause alive live = absurd cause.2
commit_fails store t faults (Err Media) cause alive live = refl
commit_fails store t faults (Err Dead) cause alive live = absurd (false≢true (sym alive ∙ cause))

module _ (tells : Bool) (Opens : Shape → List ℕ → List ℕ → Type 0) (old mid new : StoreView) (t addr : ℕ) (bytes : List ℕ) (free : old.ranges t ≡ None) (none_logged : IsTrue tells → old.is_dead ≡ false → old.state.logs t ≡ None)
    (inside : IsTrue tells → addr + length bytes ≤ length old.state.bytes) (k : ℕ) (first : let r : Result ℕ EawFault = Ok k in Does tells (Opens old.shape) (log_write t addr bytes) old mid r) where
  alive : IsAlive old
  alive = first.cause.0

  pub mid_alive : IsAlive mid
  mid_alive = first.done.alive

  pub mid_live : IsLive mid t
  mid_live = record {
    small = subst (λ (shape : Shape). t < shape.numbers) (sym first.shape) first.cause.1;
    live = subst IsSome (sym (ap (λ (ranges : Logs (ℕ × ℕ)). ranges t) first.done.ranges ∙ with_here old.ranges t (Some (listed (old.ranges t) ++ ranges_of (parts_of_write addr bytes))))) refl;
  }

  room : fit old.shape [] (ranges_of (parts_of_write addr bytes)) None
  room = subst (λ (log : Option (List (ℕ × ℕ))). fit old.shape (listed log) (ranges_of (parts_of_write addr bytes)) None) free first.cause.2

  pub mid_ranges : listed (mid.ranges t) ≡ ranges_of (parts_of_write addr bytes)
  mid_ranges =
      ap (λ (ranges : Logs (ℕ × ℕ)). listed (ranges t)) first.done.ranges ∙ ap listed (with_here old.ranges t (Some (listed (old.ranges t) ++ ranges_of (parts_of_write addr bytes))))
      ∙ ap (λ (log : Option (List (ℕ × ℕ))). listed log ++ ranges_of (parts_of_write addr bytes)) free

  mid_log : IsTrue tells → mid.state.logs t ≡ Some (parts_of_write addr bytes)
  mid_log told =
      ap (λ (s : State). s.logs t) (first.done.state told) ∙ with_here old.state.logs t (Some (listed (old.state.logs t) ++ parts_of_write addr bytes))
      ∙ ap (λ (log : Option (List (ℕ × List ℕ))). Some (listed log ++ parts_of_write addr bytes)) (none_logged told alive)

  mid_bytes : IsTrue tells → mid.state.bytes ≡ old.state.bytes
  mid_bytes told = ap (λ (s : State). s.bytes) (first.done.state told)

  written : IsTrue tells → (after (commit t) mid.state).bytes ≡ put old.state.bytes addr bytes
  written told =
      (λ i. applied (listed (mid_log told i)) (mid_bytes told i)) ∙ applied_write_parts addr bytes old.state.bytes (inside told)

  module _ (r : Result (Unit {0}) EawFault) (second : Does tells (Opens mid.shape) (commit t) mid new r) where
    second_here : Does tells (Opens old.shape) (commit t) mid new r
    second_here = subst (λ (shape : Shape). Does tells (Opens shape) (commit t) mid new r) first.shape second

    time : IsTrue tells → old.is_dead ≡ false → LeavesOnly (IsEither (Opens old.shape) old.state.bytes (put old.state.bytes addr bytes)) old new
    time told fine = then
        (weaker (λ image either. ⊎_elim (λ is. inl is) (λ is. inl is) either) (first.time told fine))
        (subst (λ (p : List ℕ × List ℕ). LeavesOnly (IsEither (Opens old.shape) p.0 p.1) mid new) (λ i. (mid_bytes told i, written told i)) (second_here.time told mid_alive))

    becomes : Becomes tells (commit t) mid new → Becomes tells (atomic_write t addr bytes) old new
    becomes done = record {
      alive = done.alive;
      ranges = done.ranges ∙ ap (λ (ranges : Logs (ℕ × ℕ)). with_log ranges t None) first.done.ranges ∙ given_up old.ranges t (Some (listed (old.ranges t) ++ ranges_of (parts_of_write addr bytes))) free;
      state = λ told.
          let logs : with_log mid.state.logs t None ≡ old.state.logs =
          ap (λ (s : State). with_log s.logs t None) (first.done.state told) ∙ given_up old.state.logs t (Some (listed (old.state.logs t) ++ parts_of_write addr bytes)) (none_logged told alive) in
          done.state told ∙ (λ i. record { bytes = written told i; logs = logs i });
    }

  pub atomic : (mid.sending ≡ old.sending) × (old.sending.mirrors ≡ false) → (r : Result (Unit {0}) EawFault) → Does tells (Opens mid.shape) (commit t) mid new r → Does tells (Opens old.shape) (atomic_write t addr bytes) old new r
  atomic still (Ok x) second = record {
    shape = second.shape ∙ first.shape;
    depth = second.depth ∙ first.depth;
    later = omega (arith, first.later, second.later);
    cause = (alive, tt, room);
    done = becomes (Ok x) second second.done;
    kept = second.kept ∙ first.kept;
    dies = λ is. cc;
    others = λ u other. second.others u other ∙ first.others u other;
    time = time (Ok x) second;
    mirrors = sent_then tells old mid new first.mirrors second.mirrors;
    one = omega (arith, second.one, ap (λ (s : Sending). s.sent) still.0);
    sends = λ mirrors. absurd (false≢true (sym still.1 ∙ mirrors));
    refused = tt;
  }
  atomic still (Err (UnknownTid u)) second = absurd (second.cause.1.0 mid_live)
  atomic still (Err (LogFull g h n)) second = absurd second.cause.2
  atomic still (Err Media) second = record {
    shape = second.shape ∙ first.shape;
    depth = second.depth ∙ first.depth;
    later = omega (arith, first.later, second.later);
    cause = (alive, tt, room, omega (arith, first.later, second.cause.3));
    done = tt;
    kept = tt;
    dies = second.dies;
    others = λ u other. second.others u other ∙ first.others u other;
    time = time (Err Media) second;
    mirrors = sent_then tells old mid new first.mirrors second.mirrors;
    one = omega (arith, second.one, ap (λ (s : Sending). s.sent) still.0);
    sends = tt;
    refused = second.refused ∙ still.0;
  }
  atomic still (Err Dead) second = absurd (false≢true (sym mid_alive ∙ second.cause))

-- nothing is logged if there are no ranges
pub none_ranges : {A B C : Type 0} (f : List A → List B) (h : List A → List C) (o : Option (List A)) → option_map f o ≡ None → option_map h o ≡ None
none_ranges f h None free = refl
none_ranges f h (Some l) free = cc

-- if the only faults are the medium's, anything holds of the others
pub media_alone : {T : Type 0} (X : Type 0) (r : Result T EawFault) → IfErr r (λ fault. fault ≡ Media) → IfErr r (λ fault. fault ≢ Media → X)
media_alone X (Ok x) is = tt
media_alone X (Err e) is = λ ne. absurd (ne is)

-- a write that was refused or failed before the commit
pub write_fails : (tells : Bool) (Opens : List ℕ → List ℕ → Type 0) (old new : StoreView) (t addr : ℕ) (bytes : List ℕ) → old.ranges t ≡ None → t < old.shape.numbers → (fault : EawFault)
    → (let r : Result ℕ EawFault = Err fault in Does tells Opens (log_write t addr bytes) old new r) → (let r : Result (Unit {0}) EawFault = Err fault in Does tells Opens (atomic_write t addr bytes) old new r)
write_fails tells Opens old new t addr bytes free small fault does = record {
  shape = does.shape;
  depth = does.depth;
  later = does.later;
  cause = because fault does.cause;
  done = tt;
  kept = tt;
  dies = λ is. does.dies (ap (λ (f : EawFault). let r : Result ℕ EawFault = Err f in r) (same is));
  others = does.others;
  time = λ told alive. weaker (λ image either. ⊎_elim (λ before. inl before) (λ before. inl before) either) (does.time told alive);
  mirrors = does.mirrors;
  one = does.one;
  sends = tt;
  refused = does.refused;
}
  where
    none : listed (old.ranges t) ≡ []
    none = ap listed free

    same : (let r : Result (Unit {0}) EawFault = Err fault in let s : Result (Unit {0}) EawFault = Err Media in r ≡ s) → fault ≡ Media
    same is = cc

    because : (fault : EawFault) → (let r : Result ℕ EawFault = Err fault in Cause old (log_write t addr bytes) new.faults r) → (let r : Result (Unit {0}) EawFault = Err fault in Cause old (atomic_write t addr bytes) new.faults r)
    because (UnknownTid u) cause = absurd (cause.1.0 small)
    because (LogFull g h n) cause = (cause.0, tt, subst (λ rs. fit old.shape rs (ranges_of (parts_of_write addr bytes)) (Some (g, h, n))) none cause.2)
    because Media cause = (cause.0, tt, subst (λ rs. fit old.shape rs (ranges_of (parts_of_write addr bytes)) None) none cause.2, cause.3)
    because Dead cause = cause
