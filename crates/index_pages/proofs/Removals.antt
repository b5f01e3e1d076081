-- How a removal ends: with nothing changed, or with an action.
use Rattle.std.proofs.Common.{◌≡◌, ℕ, ◌≤◌, ◌⊎◌, inl, inr, Bool, true, false, List, length, Option, Result, Ok, Err, refl, sym, ◌∙◌, ap, subst}
use Rattle.std.specs.Prelude.{IsTrue, Some, None}
use Rattle.std.proofs.lemmas.Bool.{false≢true}
use Rattle.mars_base.specs.Causes.{Rose}
use Rattle.mars_base.proofs.Going.{then, weaker}
use Rattle.array_shape.specs.declared.shape.Shape.{Shape}
use Rattle.array_shape.specs.Logged.{Part, applied}
use Rattle.eaw_face.specs.State.{State, listed}
use Rattle.eaw_face.specs.Causes.{IsAlive}
use Rattle.eaw_face.specs.StoreView.{LeavesOnly}
use Rattle.eaw_face.proofs.Mirroring.{sent_then}
use Rattle.page_store.specs.Fits.{FitAll, IsFirstLacking}
use Rattle.page_store.specs.Index.{Index}
use Rattle.page_store.specs.Looks.{Looks, LookCause, is_failed}
use Rattle.page_store.specs.Removes.{Takes, RemoveCause, LosesKey, Removed, Removes}
use Rattle.page_store.specs.Shown.{PagesView}
use Rattle.page_store.specs.declared.fault.PageFault.{PageFault}
use Rattle.page_store.specs.declared.fault.PageFault.TheVariants.{LogFull, SavesFull, Media, Dead, Damaged}
use Rattle.index_pages.specs.Acts.{Acts}
use Rattle.index_pages.proofs.Going.{logs_then, looks_logs}
use Rattle.index_pages.proofs.Left.{fits_same, lacks_same}

module _ (tells : Bool) (Opens : List ℕ → List ℕ → Type 0) (ix : Index) (t root key : ℕ) where
  -- a look, after which the pair stays
  pub removes_none : (old now : PagesView) → Looks tells Opens false old now → IsAlive old.store → (IsTrue tells → ix.removal old.store.state.bytes root key ≡ None)
      → (let r : Result Bool PageFault = Ok false in Removes tells Opens ix t root key old now r)
  removes_none old now looks alive none = record {
    shape = looks.shape;
    depth = looks.depth;
    mirrors = looks.mirrors;
    cause = (alive, none);
    saves = looks.saves;
    others = λ u ne. ap (λ (f : ℕ → Option (List (ℕ × ℕ))). f u) looks.ranges;
    kept = λ well. looks_logs tells Opens old now looks;
    made = λ told living. ap (λ (s : State). s.bytes) ((looks.still refl).state told);
    dies = λ failed. absurd (false≢true failed);
    time = λ told living. weaker (λ image opens. inl opens) (looks.time told living);
  }

  -- a look, after which a page is damaged
  pub removes_damaged : (old now : PagesView) (bad : ℕ) → Looks tells Opens false old now → IsAlive old.store → (IsTrue tells → ⊥)
      → (let r : Result Bool PageFault = Err (Damaged bad) in Removes tells Opens ix t root key old now r)
  removes_damaged old now bad looks alive untold = record {
    shape = looks.shape;
    depth = looks.depth;
    mirrors = looks.mirrors;
    cause = (alive, untold);
    saves = looks.saves;
    others = λ u ne. ap (λ (f : ℕ → Option (List (ℕ × ℕ))). f u) looks.ranges;
    kept = λ well. looks_logs tells Opens old now looks;
    made = λ told living. absurd (untold told);
    dies = λ failed. absurd (false≢true failed);
    time = λ told living. weaker (λ image opens. inl opens) (looks.time told living);
  }

  -- a look that failed
  pub removes_look_err : (T : Type 0) (old now : PagesView) (fault : PageFault) → (let r : Result T PageFault = Err fault in Looks tells Opens (is_failed r) old now × LookCause tells old.store r)
      → (let r : Result Bool PageFault = Err fault in Removes tells Opens ix t root key old now r)
  removes_look_err T old now Media looks =
      let dies = looks.0.dies refl in
      record {
        shape = looks.0.shape;
        depth = looks.0.depth;
        mirrors = looks.0.mirrors;
        cause = looks.1;
        saves = looks.0.saves;
        others = λ u ne. ap (λ (f : ℕ → Option (List (ℕ × ℕ))). f u) looks.0.ranges;
        kept = λ well. absurd (false≢true (sym well));
        made = λ told living. tt;
        dies = λ failed. dies;
        time = λ told living. weaker (λ image opens. inl opens) (looks.0.time told living);
      }
  removes_look_err T old now Dead looks = record {
    shape = looks.0.shape;
    depth = looks.0.depth;
    mirrors = looks.0.mirrors;
    cause = looks.1;
    saves = looks.0.saves;
    others = λ u ne. ap (λ (f : ℕ → Option (List (ℕ × ℕ))). f u) looks.0.ranges;
    kept = λ well. looks_logs tells Opens old now looks.0;
    made = λ told living. absurd (false≢true (sym living ∙ looks.1));
    dies = λ failed. absurd (false≢true failed);
    time = λ told living. weaker (λ image opens. inl opens) (looks.0.time told living);
  }
  removes_look_err T old now (Damaged bad) looks = removes_damaged old now bad looks.0 looks.1.0 looks.1.1
  removes_look_err T old now (LogFull g h n) looks = absurd looks.1
  removes_look_err T old now SavesFull looks = absurd looks.1

  module _ (old now : PagesView) (pages : List ℕ) (parts : List Part) (alive : IsAlive old.store) (few : length pages ≤ 5) (takes : IsTrue tells → ix.removal old.store.state.bytes root key ≡ Some pages)
      (loses : IsTrue tells → LosesKey ix root key old.store.state.bytes (applied parts old.store.state.bytes)) where
    time_act : (r : Result (Unit {0}) PageFault) → Acts tells Opens t pages parts old now r → IsTrue tells → IsAlive old.store
        → LeavesOnly (λ image. Opens image old.store.state.bytes ⊎ ((bytes : List ℕ) × Opens image bytes × LosesKey ix root key old.store.state.bytes bytes)) old.store now.store
    time_act r acts told living = weaker (λ image either. elim either [ inl before ↦ inl before | inr behind ↦ inr (applied parts old.store.state.bytes, behind, loses told) ]) (acts.time told living)

    -- the action takes the pair out
    pub removes_done : (let r : Result (Unit {0}) PageFault = Ok tt in Acts tells Opens t pages parts old now r) → (let r : Result Bool PageFault = Ok true in Removes tells Opens ix t root key old now r)
    removes_done acts = record {
      shape = acts.shape;
      depth = acts.depth;
      mirrors = acts.mirrors;
      cause = (alive, λ told. (pages, takes told, acts.cause.1));
      saves = acts.saves;
      others = acts.others;
      kept = λ well. acts.kept refl;
      made = λ told living. subst (λ (b : List ℕ). LosesKey ix root key old.store.state.bytes b) (sym (acts.made told living)) (loses told);
      dies = λ failed. absurd (false≢true failed);
      time = λ told living. (let r : Result (Unit {0}) PageFault = Ok tt in time_act r acts told living);
    }

    -- the action was refused
    pub removes_act_err : (fault : PageFault) → (let r : Result (Unit {0}) PageFault = Err fault in Acts tells Opens t pages parts old now r) → (let r : Result Bool PageFault = Err fault in Removes tells Opens ix t root key old now r)
    removes_act_err Media acts = record {
      shape = acts.shape;
      depth = acts.depth;
      mirrors = acts.mirrors;
      cause = alive;
      saves = acts.saves;
      others = acts.others;
      kept = λ well. absurd (false≢true (sym well));
      made = λ told living. tt;
      dies = λ failed. acts.dies refl;
      time = λ told living. (let r : Result (Unit {0}) PageFault = Err Media in time_act r acts told living);
    }
    removes_act_err (LogFull g h n) acts = record {
      shape = acts.shape;
      depth = acts.depth;
      mirrors = acts.mirrors;
      cause = (alive, (pages, few, acts.cause.1), λ told. (pages, takes told, acts.cause.1));
      saves = acts.saves;
      others = acts.others;
      kept = λ well. acts.kept refl;
      made = λ told living. acts.made told living;
      dies = λ failed. absurd (false≢true failed);
      time = λ told living. (let r : Result (Unit {0}) PageFault = Err (LogFull g h n) in time_act r acts told living);
    }
    removes_act_err Dead acts = absurd (false≢true (sym alive ∙ acts.cause))
    removes_act_err SavesFull acts = absurd acts.cause
    removes_act_err (Damaged bad) acts = absurd acts.cause

-- a look, and then what is left of a removal
module _ (tells : Bool) (E : Shape → List ℕ → List ℕ → Type 0) (ix : Index) (t root key : ℕ) (old mid new : PagesView) (looks : Looks tells (E old.store.shape) false old mid) (alive : IsAlive old.store) where
  same_ranges : listed (mid.store.ranges t) ≡ listed (old.store.ranges t)
  same_ranges = ap (λ (f : ℕ → Option (List (ℕ × ℕ))). listed (f t)) looks.ranges

  same_bytes : IsTrue tells → mid.store.state.bytes ≡ old.store.state.bytes
  same_bytes told = ap (λ (s : State). s.bytes) ((looks.still refl).state told)

  takes_back : (P : List ℕ → Type 0) (Q : List ℕ → Type 0) → ((pages : List ℕ) → P pages → Q pages) → IsTrue tells → Takes ix root key mid.store P → Takes ix root key old.store Q
  takes_back P Q weak told takes = (takes.0, ap (λ (b : List ℕ). ix.removal b root key) (sym (same_bytes told)) ∙ takes.1, weak takes.0 takes.2)

  cause_back : (r : Result Bool PageFault) → RemoveCause tells ix t root key mid.store r → RemoveCause tells ix t root key old.store r
  cause_back (Ok true) cause =
      (alive, λ told. takes_back (FitAll mid.store t) (FitAll old.store t) (λ pages fits. fits_same old.store mid.store t looks.shape same_ranges pages fits) told (cause.1 told))
  cause_back (Ok false) cause = (alive, λ told. ap (λ (b : List ℕ). ix.removal b root key) (sym (same_bytes told)) ∙ cause.1 told)
  cause_back (Err (LogFull g h n)) cause = (
    alive,
    (cause.1.0, cause.1.1, lacks_same old.store mid.store t looks.shape same_ranges cause.1.0 g h n cause.1.2),
    λ told. takes_back (λ pages. IsFirstLacking mid.store t pages g h n) (λ pages. IsFirstLacking old.store t pages g h n)
        (λ pages lacks. lacks_same old.store mid.store t looks.shape same_ranges pages g h n lacks) told (cause.2 told),
  )
  cause_back (Err Media) cause = alive
  cause_back (Err Dead) cause = sym (looks.still refl).dead ∙ cause
  cause_back (Err (Damaged bad)) cause = (alive, cause.1)
  cause_back (Err SavesFull) cause = absurd cause

  made_back : (r : Result Bool PageFault) → IsTrue tells → Removed ix root key mid.store.state.bytes new.store.state.bytes r → Removed ix root key old.store.state.bytes new.store.state.bytes r
  made_back r told made = subst (λ (b : List ℕ). Removed ix root key b new.store.state.bytes r) (same_bytes told) made

  pub removes_then : (r : Result Bool PageFault) → Removes tells (E mid.store.shape) ix t root key mid new r → Removes tells (E old.store.shape) ix t root key old new r
  removes_then r rest' =
      let rest = subst (λ (sh : Shape). Removes tells (E sh) ix t root key mid new r) looks.shape rest' in
      let living : IsAlive mid.store = (looks.still refl).dead ∙ alive in
      record {
        shape = rest.shape ∙ looks.shape;
        depth = rest.depth ∙ looks.depth;
        mirrors = sent_then tells old.store mid.store new.store looks.mirrors rest.mirrors;
        cause = cause_back r rest.cause;
        saves = rest.saves ∙ looks.saves;
        others = λ u ne. rest.others u ne ∙ ap (λ (f : ℕ → Option (List (ℕ × ℕ))). f u) looks.ranges;
        kept = λ well. logs_then tells old mid new (looks_logs tells (E old.store.shape) old mid looks) (rest.kept well);
        made = λ told running. made_back r told (rest.made told living);
        dies = λ failed. let dies = rest.dies failed in (dies.0, subst (λ (n : ℕ). Rose n new.store.faults) (looks.still refl).faults dies.1);
        time = λ told running.
            (then) (weaker (λ image opens. inl opens) (looks.time told running))
            (weaker (λ image either. elim either [
              | inl before ↦ inl (subst (λ (b : List ℕ). E old.store.shape image b) (same_bytes told) before)
              | inr behind ↦ inr (behind.0, behind.1, subst (λ (b : List ℕ). LosesKey ix root key b behind.0) (same_bytes told) behind.2)
            ]) (rest.time told living));
      }
