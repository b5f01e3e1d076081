-- Reads of a store one after another, and as reads of pages.
use Rattle.std.proofs.Common.{◌≡◌, ℕ, Bool, true, false, inl, ⊎_elim, List, [], ◌∷◌, length, Result, Ok, Err, refl, sym, ◌∙◌, ap, subst, arith}
use Rattle.std.specs.Prelude.{Option, Some, None, map, IsOk, OnOk, OnErr, IsErrOf}
use Rattle.std.proofs.lemmas.Bool.{false≢true}
use Rattle.std.proofs.lemmas.Result.{IfErr-at_err}
use Rattle.mars_base.specs.Causes.{Rose}
use Rattle.mars_base.proofs.Going.{weaker, then}
use Rattle.array_shape.specs.Logged.{ranges_of}
use Rattle.eaw_face.specs.State.{State, Logs}
use Rattle.eaw_face.specs.Frame.{Group, Frame}
use Rattle.eaw_face.specs.Due.{ranges_due}
use Rattle.page_store.specs.Device.{device}
use Rattle.eaw_face.proofs.Mirroring.{none_sent, sent_then}
use Rattle.eaw_face.specs.StoreView.{StoreView}
use Rattle.eaw_face.specs.Command.{Command}
use Rattle.eaw_face.specs.Command as model
use Rattle.eaw_face.specs.Causes as causes
use Rattle.eaw_face.specs.Does as store
use Rattle.eaw_face.specs.declared.fault.EawFault.{EawFault}
use Rattle.eaw_face.specs.declared.fault.EawFault.TheVariants as fault
use Rattle.page_store.specs.State.{PagesState}
use Rattle.page_store.specs.Command.{PageCommand, after}
use Rattle.page_store.specs.Outline.{Outline, outline_after}
use Rattle.page_store.specs.Does.{Does, SendsAs, Cause, HasRoom, Becomes, Names}
use Rattle.page_store.specs.Reads.{Reads, IsRead, ReadCause}
use Rattle.page_store.specs.Shown.{PagesView, outline_of, state_of}
use Rattle.page_store.specs.Told.{IsKnown, told_as, TellsAs}
use Rattle.page_store.specs.declared.fault.PageFault.{PageFault}
use Rattle.page_store.specs.declared.fault.PageFault.TheVariants.{Media}

abbrev NotMedia : PageFault → Type 0
NotMedia Media = ⊥
NotMedia _ = Unit {0}

-- a command of the store that reads, of a number that is live
module _ (tells : Bool) (Opens : List ℕ → List ℕ → Type 0) (t : ℕ) (d : Command) (old new : StoreView)
    (same : (s : State) → model.after d s ≡ s) (same_ranges : (rs : Logs (ℕ × ℕ)) → model.ranges_after d rs ≡ rs) (none : ranges_due d old ≡ [])
    (unknown : (u : ℕ) → causes.known old d (Some u) → ⊥) (room : (g h n : ℕ) → causes.room_for old d (Some (g, h, n)) → ⊥) where
  cause_of : {T : Type 0} (r : Result T EawFault) → causes.Cause old d new.faults r → ReadCause old new.faults r
  cause_of (Ok x) cause = cause.0
  cause_of (Err (fault.UnknownTid u)) cause = absurd (unknown u cause.1)
  cause_of (Err (fault.LogFull g h n)) cause = absurd (room g h n cause.2)
  cause_of (Err fault.Media) cause = (cause.0, cause.3)
  cause_of (Err fault.Dead) cause = cause

  is_read : store.Becomes tells d old new → IsRead tells old new
  is_read is = record { alive = is.alive; ranges = is.ranges ∙ same_ranges old.ranges; state = λ tell. is.state tell ∙ same old.state }

  done_of : {T : Type 0} (r : Result T EawFault) → OnOk r (store.Becomes tells d old new) → OnOk r (IsRead tells old new)
  done_of (Ok x) is = is_read is
  done_of (Err f) is = tt

  no_groups : (groups : List Group) → map (λ g. (g.number, ranges_of g.parts)) groups ≡ ranges_due d old → groups ≡ []
  no_groups [] is = refl
  no_groups (g ∷ gs) is = absurd (let long = ap (λ (l : List (ℕ × List (ℕ × ℕ))). length l) (is ∙ none) in omega (arith, long))

  silent_of : {T : Type 0} (r : Result T EawFault) → store.Does tells Opens d old new r → old.sending.mirrors ≡ true → new.sending ≡ old.sending
  silent_of (Ok x) does mirrors = let sends = does.sends mirrors in sends.none (no_groups sends.groups sends.due.ranges)
  silent_of (Err f) does mirrors = does.refused

  pub reads_of : {T : Type 0} → ((u : ℕ) → (u ≡ t → ⊥) → new.ranges u ≡ old.ranges u) → (r : Result T EawFault) → store.Does tells Opens d old new r → Reads tells Opens t old new r
  reads_of others r does = record {
    shape = does.shape;
    depth = does.depth;
    cause = cause_of r does.cause;
    kept = does.kept;
    done = done_of r does.done;
    dies = does.dies;
    others = others;
    time = λ tell alive. weaker (λ image either. ⊎_elim (λ b. b) (λ a. subst (λ (st : State). Opens image st.bytes) (same old.state) a) either) (does.time tell alive);
    mirrors = does.mirrors;
    silent = silent_of r does;
  }

-- one read that succeeded, and others
module _ {T : Type 0} (tells : Bool) (Opens : List ℕ → List ℕ → Type 0) (t : ℕ) (old mid new : StoreView) (r : Result T EawFault) (ok : IsOk r) (first : Reads tells Opens t old mid r) where
  done_first : (r : Result T EawFault) → IsOk r → OnOk r (IsRead tells old mid) → IsRead tells old mid
  done_first (Ok x) ok is = is
  done_first (Err f) ok is = absurd (false≢true ok)

  kept_first : (r : Result T EawFault) → IsOk r → OnOk r (mid.faults ≡ old.faults) → mid.faults ≡ old.faults
  kept_first (Ok x) ok is = is
  kept_first (Err f) ok is = absurd (false≢true ok)

  alive_first : (r : Result T EawFault) → IsOk r → ReadCause old mid.faults r → old.is_dead ≡ false
  alive_first (Ok x) ok is = is
  alive_first (Err f) ok is = absurd (false≢true ok)

  cause_on : {U : Type 0} (s : Result U EawFault) → ReadCause mid new.faults s → ReadCause old new.faults s
  cause_on (Ok x) cause = alive_first r ok first.cause
  cause_on (Err fault.Dead) cause = absurd (false≢true (sym (done_first r ok first.done).alive ∙ cause))
  cause_on (Err fault.Media) cause = (alive_first r ok first.cause, subst (λ (n : ℕ). Rose n new.faults) (kept_first r ok first.kept) cause.1)
  cause_on (Err (fault.UnknownTid t)) cause = cause
  cause_on (Err (fault.LogFull g h n)) cause = cause

  done_on : {U : Type 0} (s : Result U EawFault) → OnOk s (IsRead tells mid new) → OnOk s (IsRead tells old new)
  done_on (Ok x) is = record {
    alive = is.alive;
    ranges = is.ranges ∙ (done_first r ok first.done).ranges;
    state = λ tell. is.state tell ∙ (done_first r ok first.done).state tell;
  }
  done_on (Err f) is = tt

  kept_on : {U : Type 0} (s : Result U EawFault) → OnOk s (new.faults ≡ mid.faults) → OnOk s (new.faults ≡ old.faults)
  kept_on (Ok x) is = is ∙ kept_first r ok first.kept
  kept_on (Err f) is = tt

  pub reads_on : {U : Type 0} (s : Result U EawFault) → Reads tells Opens t mid new s → Reads tells Opens t old new s
  reads_on s more = record {
    shape = more.shape ∙ first.shape;
    depth = more.depth ∙ first.depth;
    cause = cause_on s more.cause;
    kept = kept_on s more.kept;
    done = done_on s more.done;
    dies = more.dies;
    others = λ u ne. more.others u ne ∙ first.others u ne;
    time = λ tell alive. then (first.time tell alive)
        (weaker (λ image opens. subst (λ (st : State). Opens image st.bytes) ((done_first r ok first.done).state tell) opens) (more.time tell (done_first r ok first.done).alive));
    mirrors = sent_then tells old mid new first.mirrors more.mirrors;
    silent = λ mirrors. more.silent (first.mirrors.kind.mirrors ∙ mirrors) ∙ first.silent mirrors;
  }

-- a fault of a read, passed on
pub reads_err : {T U : Type 0} (tells : Bool) (Opens : List ℕ → List ℕ → Type 0) (t : ℕ) (old new : StoreView) (f : EawFault)
    → (let r : Result T EawFault = Err f in Reads tells Opens t old new r) → (let s : Result U EawFault = Err f in Reads tells Opens t old new s)
reads_err {T} {U} tells Opens t old new f reads = record {
  shape = reads.shape;
  depth = reads.depth;
  cause = cause f reads.cause;
  kept = tt;
  done = tt;
  dies = λ is. reads.dies (ap Err (IfErr-at_err (λ q. f ≡ q) is refl));
  others = reads.others;
  time = reads.time;
  mirrors = reads.mirrors;
  silent = reads.silent;
}
  where
    cause : (f : EawFault) → (let r : Result T EawFault = Err f in ReadCause old new.faults r) → (let s : Result U EawFault = Err f in ReadCause old new.faults s)
    cause (fault.UnknownTid t) is = is
    cause (fault.LogFull g h n) is = is
    cause fault.Media is = is
    cause fault.Dead is = is

-- one that succeeded, with another answer
pub reads_ok : {T U : Type 0} {x : T} (tells : Bool) (Opens : List ℕ → List ℕ → Type 0) (t : ℕ) (old new : StoreView) (y : U)
    → (let r : Result T EawFault = Ok x in Reads tells Opens t old new r) → (let s : Result U EawFault = Ok y in Reads tells Opens t old new s)
reads_ok tells Opens t old new y reads = record {
  shape = reads.shape;
  depth = reads.depth;
  cause = reads.cause;
  kept = reads.kept;
  done = reads.done;
  dies = λ is. absurd (IfErr-at_err (λ q. ⊥) is tt);
  others = reads.others;
  time = reads.time;
  mirrors = reads.mirrors;
  silent = reads.silent;
}

-- nothing was read
pub reads_none : {T : Type 0} (tells : Bool) (Opens : List ℕ → List ℕ → Type 0) (t : ℕ) (old : StoreView) (x : T) → old.is_dead ≡ false → (let r : Result T EawFault = Ok x in Reads tells Opens t old old r)
reads_none tells Opens t old x alive = record {
  shape = refl;
  depth = refl;
  cause = alive;
  kept = refl;
  done = record { alive = alive; ranges = refl; state = λ tell. refl };
  dies = λ is. absurd (IfErr-at_err (λ q. ⊥) is tt);
  others = λ u ne. refl;
  time = λ tell living. record { later = omega arith; keeps = λ t image le left. left; only = λ t image le left. inl left };
  mirrors = none_sent tells old old refl refl refl refl (λ fine. fine) (λ told mirrors fine. refl);
  silent = λ mirrors. refl;
}

-- As a command of pages that changes nothing.
module _ (tells : Bool) (Opens : List ℕ → List ℕ → Type 0) (t : ℕ) (c : PageCommand) (old new : PagesView)
    (same : (s : PagesState) → after c s ≡ s) (same_outline : (o : Outline) → outline_after c o ≡ o) (none : device c (outline_of old) ≡ None) (room : HasRoom old c)
    (counts : new.counts ≡ old.counts) (top : new.top ≡ old.top) (number : (u : ℕ) → (Names c u → ⊥) → new.store.ranges u ≡ old.store.ranges u) where
  page_cause : {T U : Type 0} (r : Result T EawFault) (s : Result U PageFault) → TellsAs r s → ReadCause old.store new.store.faults r → Cause old c new.store.faults s
  page_cause (Ok x) (Ok y) as_told cause = (cause, room)
  page_cause (Ok x) (Err p) as_told cause = absurd as_told
  page_cause (Err f) (Ok y) as_told cause = absurd as_told
  page_cause {T} {U} (Err f) (Err p) as_told cause = subst (λ q. (let s : Result U PageFault = Err q in Cause old c new.store.faults s)) (sym as_told.1) (go f as_told.0 cause)
    where
      go : (f : EawFault) → IsKnown f → (let r : Result T EawFault = Err f in ReadCause old.store new.store.faults r) → (let s : Result U PageFault = Err (told_as f) in Cause old c new.store.faults s)
      go (fault.UnknownTid t) known cause = absurd known
      go (fault.LogFull g h n) known cause = absurd cause
      go fault.Media known cause = (cause.0, room, cause.1)
      go fault.Dead known cause = cause

  page_kept : {T U : Type 0} (r : Result T EawFault) (s : Result U PageFault) → TellsAs r s → OnOk r (new.store.faults ≡ old.store.faults) → OnOk s (new.store.faults ≡ old.store.faults)
  page_kept (Ok x) (Ok y) as_told is = is
  page_kept (Ok x) (Err p) as_told is = absurd as_told
  page_kept (Err f) (Ok y) as_told is = absurd as_told
  page_kept (Err f) (Err p) as_told is = tt

  becomes : IsRead tells old.store new.store → Becomes tells c old new
  becomes is = record {
    alive = is.alive;
    outline = (λ i. record { ranges = is.ranges i; counts = counts i; top = top i }) ∙ sym (same_outline (outline_of old));
    state = λ tell. (λ i. state_of (record { store = record old.store { state = is.state tell i }; counts = counts i; top = top i })) ∙ sym (same (state_of old));
  }

  page_done : {T U : Type 0} (r : Result T EawFault) (s : Result U PageFault) → TellsAs r s → OnOk r (IsRead tells old.store new.store) → OnOk s (Becomes tells c old new)
  page_done (Ok x) (Ok y) as_told is = becomes is
  page_done (Ok x) (Err p) as_told is = absurd as_told
  page_done (Err f) (Ok y) as_told is = absurd as_told
  page_done (Err f) (Err p) as_told is = tt

  dies_of : (f : EawFault) → IsKnown f → told_as f ≡ Media → f ≡ fault.Media
  dies_of (fault.UnknownTid t) known is = absurd known
  dies_of (fault.LogFull g h n) known is = absurd (subst NotMedia is tt)
  dies_of fault.Media known is = refl
  dies_of fault.Dead known is = absurd (subst NotMedia is tt)

  page_dies : {T U : Type 0} (r : Result T EawFault) (s : Result U PageFault) → TellsAs r s → (IsErrOf r fault.Media → new.store.is_dead ≡ true) → IsErrOf s Media → new.store.is_dead ≡ true
  page_dies (Ok x) (Ok y) as_told dies is = absurd (IfErr-at_err (λ q. ⊥) is tt)
  page_dies (Ok x) (Err p) as_told dies is = absurd as_told
  page_dies (Err f) (Ok y) as_told dies is = absurd as_told
  page_dies (Err f) (Err p) as_told dies is = dies (ap Err (dies_of f as_told.0 (sym as_told.1 ∙ IfErr-at_err (λ q. p ≡ q) is refl)))

  any : {U : Type 0} (s : Result U PageFault) → OnErr s ((new.counts ≡ old.counts) × (new.top ≡ old.top))
  any (Ok x) = tt
  any (Err e) = (counts, top)

  page_sends : {U : Type 0} (s : Result U PageFault) (added : List Frame) → new.store.sending ≡ old.store.sending → OnOk s (SendsAs tells (device c (outline_of old)) added old.store new.store)
  page_sends (Ok x) added is = subst (λ (o : Option Command). SendsAs tells o added old.store new.store) (sym none) is
  page_sends (Err e) added is = tt

  page_refused : {U : Type 0} (s : Result U PageFault) → new.store.sending ≡ old.store.sending → OnErr s (new.store.sending ≡ old.store.sending)
  page_refused (Ok x) is = tt
  page_refused (Err e) is = is

  pub page_read : {T U : Type 0} (r : Result T EawFault) (s : Result U PageFault) → TellsAs r s → Reads tells Opens t old.store new.store r → Does tells Opens c old new s
  page_read r s as_told reads = record {
    shape = reads.shape;
    depth = reads.depth;
    cause = page_cause r s as_told reads.cause;
    kept = page_kept r s as_told reads.kept;
    done = page_done r s as_told reads.done;
    marks = any s;
    dies = page_dies r s as_told reads.dies;
    others = number;
    time = λ tell alive. weaker (λ image opens. inl opens) (reads.time tell alive);
    mirrors = reads.mirrors;
    sends = λ mirrors. page_sends s reads.mirrors.added (reads.silent mirrors);
    refused = λ mirrors. page_refused s (reads.silent mirrors);
  }
