-- Lemmas about doing a command.
use Rattle.std.proofs.Common.{◌≡◌, ℕ, zero, suc, ◌+◌, ◌<◌, ◌≤◌, List, [], ◌∷◌, length, Some, None, inl, inr, refl, sym, ◌∙◌, ap, subst, arith}
use Rattle.std.specs.Prelude.{◌≢◌, Bool, true, false, IsTrue, Result, Ok, Err}
use Rattle.std.proofs.lemmas.Bool.{false≢true}
use Rattle.mars_base.proofs.Going.{stays}
use Rattle.array_shape.specs.Places.{data_len}
use Rattle.mars_base.specs.declared.Failed.{Failed}
use Rattle.array_shape.specs.declared.shape.Shape.{Shape}
use Rattle.eaw_face.specs.State.{State, range_at}
use Rattle.eaw_face.specs.StoreView.{StoreView, ArePlaced, LeavesOnly}
use Rattle.eaw_face.specs.Command.{atomic_write}
use Rattle.eaw_face.specs.Does.{Does, IsEither}
use Rattle.eaw_face.specs.declared.fault.EawFault.{EawFault}
use Rattle.eaw_face.specs.declared.fault.EawFault.TheVariants.{UnknownTid, LogFull, Media, Dead}
use Rattle.eaw_face.specs.Mirroring.{Mirrors}
use Rattle.eaw_face.proofs.Mirroring.{none_sent}
use Rattle.script_text.specs.Eaw.{Raw, does}
use Rattle.script_text.specs.declared.answer.Answer.{Answer}
use Rattle.script_text.specs.declared.answer.Answer.TheVariants as answer
use Rattle.eaw_script.specs.Performed.{Performed, refusal_of}

-- a part has at most 512 bytes
pub part_len : (shape : Shape) (ranges : List (ℕ × ℕ)) (pos : ℕ) → ArePlaced shape ranges → pos < length ranges → (range_at ranges pos).1 ≤ 512
part_len shape [] pos placed there = absurd (omega arith)
part_len shape (r ∷ rs) zero placed there = let page = placed.0.page in omega arith
part_len shape (r ∷ rs) (suc pos) placed there = part_len shape rs pos placed.1 (omega arith)

-- the same command under another name
pub performed_as : {tells : Bool} {Opens : List ℕ → List ℕ → Type 0} {old new : StoreView} {t : ℕ} {result : Result Answer Failed} (k raw : Raw) → raw ≡ k
    → Performed tells Opens old new t k result → Performed tells Opens old new t raw result
performed_as {tells} {Opens} {old} {new} {t} {result} k raw is performed = subst (λ (x : Raw). Performed tells Opens old new t x result) (sym is) performed

-- nothing was done, so nothing is sent
pub sends_none : (tells : Bool) (store : StoreView) → Mirrors tells store store
sends_none tells store = none_sent tells store store refl refl refl refl (λ alive. alive) (λ told mirrors alive. refl)

-- A write at once, in the data and under a free number: it is done, or refused, and then nothing is changed unless the medium failed.
module _ (tells : Bool) (Opens : List ℕ → List ℕ → Type 0) (old new : StoreView) (t addr : ℕ) (bytes : List ℕ) (alive : old.is_dead ≡ false)
    (inside : addr + length bytes ≤ data_len old.shape) (free : old.ranges t ≡ None) where
  pub atomic_done : (x : Unit {0}) → (let r : Result (Unit {0}) EawFault = Ok x in Does tells Opens (atomic_write t addr bytes) old new r)
      → Performed tells Opens old new t (does (atomic_write t addr bytes)) (Ok answer.Fine)
  atomic_done x d = record {
    shape = d.shape;
    depth = d.depth;
    cause = record { later = d.later; failed = tt; kept = d.kept };
    alive = d.done.alive;
    answers = λ told. inr ((tt, (inside, (free, d.cause.2))), refl, d.done.state told);
    fails = tt;
    time = λ told. subst (λ (s : State). LeavesOnly (IsEither Opens old.state.bytes s.bytes) old new) (sym (d.done.state told)) (d.time told alive);
    mirrors = d.mirrors;
  }

  pub atomic_refused : (fault : EawFault) → (let r : Result (Unit {0}) EawFault = Err fault in Does tells Opens (atomic_write t addr bytes) old new r) → (fault ≢ Media → new ≡ old)
      → Performed tells Opens old new t (does (atomic_write t addr bytes)) (refusal_of fault)
  atomic_refused (UnknownTid u) d same = absurd d.cause.1
  atomic_refused (LogFull g h n) d same =
      let is = same (λ media. cc) in
      let full = d.cause.2 in
      record {
        shape = d.shape;
        depth = d.depth;
        cause = record { later = d.later; failed = tt; kept = ap (λ (s : StoreView). s.faults) is };
        alive = ap (λ (s : StoreView). s.is_dead) is ∙ alive;
        answers = λ told. inl (
          inr (tt, inr (inside, inr (free, (full.0, full.1, full.2, full.3, ap (λ (x : ℕ × ℕ × ℕ). answer.LogFull x.0 x.1 x.2) full.4)))),
          ap (λ (s : StoreView). s.state) is,
        );
        fails = tt;
        time = λ told. subst (λ (s : StoreView). LeavesOnly (IsEither Opens old.state.bytes s.state.bytes) old s) (sym is) (stays old.moment old.left_since (IsEither Opens old.state.bytes old.state.bytes));
        mirrors = d.mirrors;
      }
  atomic_refused Media d same = record {
    shape = d.shape;
    depth = d.depth;
    cause = record { later = d.later; failed = d.cause.3; kept = tt };
    alive = tt;
    answers = λ told. tt;
    fails = ((tt, (inside, (free, d.cause.2))), tt);
    time = λ told. d.time told alive;
    mirrors = d.mirrors;
  }
  atomic_refused Dead d same = absurd (false≢true (sym alive ∙ d.cause))
