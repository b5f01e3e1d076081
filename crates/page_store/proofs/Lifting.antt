-- A command of the store, seen as the command of pages that makes it.
use Rattle.std.proofs.Common.{◌≡◌, ℕ, Bool, true, false, inl, inr, ⊎_elim, List, Result, Ok, Err, refl, sym, ◌∙◌, ap, subst}
use Rattle.std.specs.Prelude.{Option, Some, None, IsTrue, OnOk, OnErr, IsErrOf, IsOk}
use Rattle.std.specs.Option.{option_map}
use Rattle.std.proofs.lemmas.Bool.{false≢true}
use Rattle.std.proofs.lemmas.Result.{IfErr-at_err}
use Rattle.mars_base.proofs.Going.{stays, weaker}
use Rattle.eaw_face.specs.State.{State}
use Rattle.eaw_face.specs.Mirroring.{Mirrors}
use Rattle.eaw_face.proofs.Mirroring.{none_sent}
use Rattle.eaw_face.specs.StoreView.{StoreView, LeavesOnly}
use Rattle.eaw_face.specs.Frame.{Frame}
use Rattle.eaw_face.specs.Due.{SendsDue}
use Rattle.eaw_face.specs.Command.{Command}
use Rattle.eaw_face.specs.Command as model
use Rattle.eaw_face.specs.Causes as causes
use Rattle.eaw_face.specs.Does as does_store
use Rattle.eaw_face.specs.declared.fault.EawFault.{EawFault}
use Rattle.eaw_face.specs.declared.fault.EawFault.TheVariants as fault
use Rattle.page_store.specs.Command.{PageCommand, after}
use Rattle.page_store.specs.Device.{device, done, ranges_done, if_live}
use Rattle.page_store.specs.Outline.{Outline, outline_after}
use Rattle.page_store.specs.Kept.{IsOrdered, IsAllowed}
use Rattle.page_store.specs.Does.{Does, SendsAs, Becomes, Cause, HasRoom, IsFull, Names}
use Rattle.page_store.specs.Shown.{PagesView, outline_of, state_of}
use Rattle.page_store.specs.Told.{IsKnown, told_as, TellsAs, DoesWhereLive}
use Rattle.page_store.specs.declared.fault.PageFault.{PageFault}
use Rattle.page_store.specs.declared.fault.PageFault.TheVariants.{Media}
use Rattle.page_store.proofs.Device.{device_does, device_does_ranges}
use Rattle.page_store.proofs.Ordered.{ordered_after}
use Rattle.page_store.proofs.Shown.{IsTold, outlined, kept, state_after}

abbrev IsMedia : EawFault → Type 0
IsMedia fault.Media = Unit {0}
IsMedia _ = ⊥

-- What is known of a command of pages and of the command of the store that it makes.
pub record Makes (tells : Bool) (c : PageCommand) (d : Command) (old : PagesView) : Type 0 where
  pub device_is : device c (outline_of old) ≡ Some d
  pub allowed : old.store.is_dead ≡ false → IsAllowed old.store.shape c (outline_of old)
  pub ordered : old.store.is_dead ≡ false → IsOrdered (outline_of old)
  pub told : IsTrue tells → old.store.is_dead ≡ false → IsTold old.store
  pub room : causes.room_for old.store d None → HasRoom old c
  pub full : (g h n : ℕ) → causes.room_for old.store d (Some (g, h, n)) → IsFull old c g h n
  pub number : (u : ℕ) → (Names c u → ⊥) → causes.IsNumberOf d u → ⊥

module _ (tells : Bool) (Opens : List ℕ → List ℕ → Type 0) (c : PageCommand) (d : Command) (old new : PagesView) (makes : Makes tells c d old) where
  -- the data after it
  data_after : IsTrue tells → old.store.is_dead ≡ false → (model.after d old.store.state) ≡ (after c (state_of old)).store
  data_after tell alive =
      let told = makes.told tell alive in
      let ordered = makes.ordered alive in
      let out = outlined old told ordered in
      let allowed = subst (λ o. IsAllowed old.store.shape c o) (sym out) (makes.allowed alive) in
      ap (λ (o : Option Command). done o old.store.state) (sym makes.device_is)
      ∙ ap (λ (o : Outline). done (device c o) old.store.state) (sym out)
      ∙ sym (device_does old.store.shape c (state_of old) (kept old told ordered) allowed)

  lifted_cause : {T U : Type 0} (r : Result T EawFault) (s : Result U PageFault) → TellsAs r s → causes.Cause old.store d new.store.faults r → Cause old c new.store.faults s
  lifted_cause (Ok x) (Ok y) same cause = (cause.0, makes.room cause.2)
  lifted_cause (Ok x) (Err p) same cause = absurd same
  lifted_cause (Err f) (Ok y) same cause = absurd same
  lifted_cause {T} {U} (Err f) (Err p) same cause = subst (λ q. (let s : Result U PageFault = Err q in Cause old c new.store.faults s)) (sym same.1) (go f same.0 cause)
    where
      go : (f : EawFault) → IsKnown f → (let r : Result T EawFault = Err f in causes.Cause old.store d new.store.faults r) → (let s : Result U PageFault = Err (told_as f) in Cause old c new.store.faults s)
      go (fault.UnknownTid t) known cause = absurd known
      go (fault.LogFull g h n) known cause = (cause.0, makes.full g h n cause.2)
      go fault.Media known cause = (cause.0, makes.room cause.2, cause.3)
      go fault.Dead known cause = cause

  abbrev NotMedia : PageFault → Type 0
  NotMedia Media = ⊥
  NotMedia _ = Unit {0}

  dies_of : (f : EawFault) → IsKnown f → told_as f ≡ Media → f ≡ fault.Media
  dies_of (fault.UnknownTid t) known is = absurd known
  dies_of (fault.LogFull g h n) known is = absurd (subst NotMedia is tt)
  dies_of fault.Media known is = refl
  dies_of fault.Dead known is = absurd (subst NotMedia is tt)

  lifted_kept : {T U : Type 0} (r : Result T EawFault) (s : Result U PageFault) → TellsAs r s → OnOk r (new.store.faults ≡ old.store.faults) → OnOk s (new.store.faults ≡ old.store.faults)
  lifted_kept (Ok x) (Ok y) same as_it_was = as_it_was
  lifted_kept (Ok x) (Err p) same as_it_was = absurd same
  lifted_kept (Err f) (Ok y) same as_it_was = absurd same
  lifted_kept (Err f) (Err p) same as_it_was = tt

  lifted_dies : {T U : Type 0} (r : Result T EawFault) (s : Result U PageFault) → TellsAs r s → (IsErrOf r fault.Media → new.store.is_dead ≡ true) → IsErrOf s Media → new.store.is_dead ≡ true
  lifted_dies (Ok x) (Ok y) same dies is = absurd (IfErr-at_err (λ q. ⊥) is tt)
  lifted_dies (Ok x) (Err p) same dies is = absurd same
  lifted_dies (Err f) (Ok y) same dies is = absurd same
  lifted_dies (Err f) (Err p) same dies is = dies (ap Err (dies_of f same.0 (sym same.1 ∙ IfErr-at_err (λ q. p ≡ q) is refl)))

  -- the ranges after it
  ranges_law : old.store.is_dead ≡ false → model.ranges_after d old.store.ranges ≡ (outline_after c (outline_of old)).ranges
  ranges_law alive = ap (λ (o : Option Command). ranges_done o old.store.ranges) (sym makes.device_is) ∙ sym (device_does_ranges old.store.shape c (outline_of old) (makes.allowed alive))

  becomes : old.store.is_dead ≡ false → does_store.Becomes tells d old.store new.store → new.counts ≡ (outline_after c (outline_of old)).counts → new.top ≡ (outline_after c (outline_of old)).top → Becomes tells c old new
  becomes alive is counts top =
      let out : outline_of new ≡ outline_after c (outline_of old) = λ i. record { ranges = (is.ranges ∙ ranges_law alive) i; counts = counts i; top = top i } in
      record {
        alive = is.alive;
        outline = out;
        state = λ tell. state_after old (makes.told tell alive) (makes.ordered alive) c new (makes.allowed alive) (is.state tell ∙ data_after tell alive) out;
      }

  lifted_done : {T U : Type 0} (r : Result T EawFault) (s : Result U PageFault) → TellsAs r s → does_store.Does tells Opens d old.store new.store r
      → OnOk s ((new.counts ≡ (outline_after c (outline_of old)).counts) × (new.top ≡ (outline_after c (outline_of old)).top)) → OnOk s (Becomes tells c old new)
  lifted_done (Ok x) (Ok y) same does marks = becomes does.cause.0 does.done marks.0 marks.1
  lifted_done (Ok x) (Err p) same does marks = absurd same
  lifted_done (Err f) (Ok y) same does marks = absurd same
  lifted_done (Err f) (Err p) same does marks = tt

  lifted_sends : {T U : Type 0} (r : Result T EawFault) (s : Result U PageFault) → TellsAs r s → (added : List Frame) → OnOk r (old.store.sending.mirrors ≡ true → SendsDue tells d added old.store new.store)
      → old.store.sending.mirrors ≡ true → OnOk s (SendsAs tells (device c (outline_of old)) added old.store new.store)
  lifted_sends (Ok x) (Ok y) same added sends mirrors = subst (λ (o : Option Command). SendsAs tells o added old.store new.store) (sym makes.device_is) (sends mirrors)
  lifted_sends (Ok x) (Err p) same added sends mirrors = absurd same
  lifted_sends (Err f) (Ok y) same added sends mirrors = absurd same
  lifted_sends (Err f) (Err p) same added sends mirrors = tt

  lifted_refused : {T U : Type 0} (r : Result T EawFault) (s : Result U PageFault) → TellsAs r s → OnErr r (new.store.sending ≡ old.store.sending) → OnErr s (new.store.sending ≡ old.store.sending)
  lifted_refused (Ok x) (Ok y) same as_it_was = tt
  lifted_refused (Ok x) (Err p) same as_it_was = absurd same
  lifted_refused (Err f) (Ok y) same as_it_was = absurd same
  lifted_refused (Err f) (Err p) same as_it_was = as_it_was

  pub lifted : {T U : Type 0} (r : Result T EawFault) (s : Result U PageFault) → TellsAs r s → does_store.Does tells Opens d old.store new.store r
      → OnOk s ((new.counts ≡ (outline_after c (outline_of old)).counts) × (new.top ≡ (outline_after c (outline_of old)).top))
      → OnErr s ((new.counts ≡ old.counts) × (new.top ≡ old.top)) → Does tells Opens c old new s
  lifted r s same does marks left = record {
    shape = does.shape;
    depth = does.depth;
    cause = lifted_cause r s same does.cause;
    kept = lifted_kept r s same does.kept;
    done = lifted_done r s same does marks;
    marks = left;
    dies = lifted_dies r s same does.dies;
    others = λ u ne. does.others u (makes.number u ne);
    time = λ tell alive. weaker
        (λ image either. ⊎_elim (λ before. inl before) (λ after'. inr (subst (λ (st : State). Opens image st.bytes) (data_after tell alive) after')) either)
        (does.time tell alive);
    mirrors = does.mirrors;
    sends = lifted_sends r s same does.mirrors.added does.sends;
    refused = λ mirrors. lifted_refused r s same does.refused;
  }

  -- counts stay ordered, whatever the answer, if the command changes no marks
  pub ordered_now : {T : Type 0} (r : Result T EawFault) → does_store.Does tells Opens d old.store new.store r
      → ((f : EawFault) → r ≡ Err f → (f ≡ fault.Media → ⊥) → new.store ≡ old.store)
      → new.counts ≡ old.counts → new.top ≡ old.top
      → old.counts ≡ (outline_after c (outline_of old)).counts → old.top ≡ (outline_after c (outline_of old)).top
      → new.store.is_dead ≡ false → IsOrdered (outline_of new)
  ordered_now (Ok x) does same counts top counts' top' living =
      let alive = does.cause.0 in
      subst IsOrdered (sym (becomes alive does.done (counts ∙ counts') (top ∙ top')).outline) (ordered_after old.store.shape (outline_of old) (makes.ordered alive) c (makes.allowed alive))
  ordered_now {T} (Err f) does same counts top counts' top' living = go f refl
    where
      here : new.store ≡ old.store → IsOrdered (outline_of new)
      here is =
          let out : outline_of old ≡ outline_of new = λ i. record { ranges = (sym is i).ranges; counts = sym counts i; top = sym top i } in
          subst IsOrdered out (makes.ordered (ap (λ (st : StoreView). st.is_dead) (sym is) ∙ living))

      go : (e : EawFault) → f ≡ e → IsOrdered (outline_of new)
      go fault.Media is = absurd (false≢true (sym living ∙ does.dies (ap Err is)))
      go (fault.UnknownTid t) is = here (same f refl (λ media. subst IsMedia (sym media ∙ is) tt))
      go (fault.LogFull g h n) is = here (same f refl (λ media. subst IsMedia (sym media ∙ is) tt))
      go fault.Dead is = here (same f refl (λ media. subst IsMedia (sym media ∙ is) tt))

-- A command that makes none of the store, and leaves it as it is.
module _ (tells : Bool) (Opens : List ℕ → List ℕ → Type 0) (c : PageCommand) (old new : PagesView) (device_is : device c (outline_of old) ≡ None) (alive : old.store.is_dead ≡ false)
    (allowed : IsAllowed old.store.shape c (outline_of old)) (ordered : IsOrdered (outline_of old)) (told : IsTrue tells → IsTold old.store)
    (same : new.store ≡ old.store) (counts : new.counts ≡ (outline_after c (outline_of old)).counts) (top : new.top ≡ (outline_after c (outline_of old)).top) where
  still_out : outline_of new ≡ outline_after c (outline_of old)
  still_out = λ i. record {
    ranges = (ap (λ (st : StoreView). st.ranges) same ∙ ap (λ (o : Option Command). ranges_done o old.store.ranges) (sym device_is) ∙ sym (device_does_ranges old.store.shape c (outline_of old) allowed)) i;
    counts = counts i;
    top = top i;
  }

  still_data : IsTrue tells → new.store.state ≡ (after c (state_of old)).store
  still_data tell =
      let out = outlined old (told tell) ordered in
      ap (λ (st : StoreView). st.state) same
      ∙ ap (λ (o : Option Command). done o old.store.state) (sym device_is)
      ∙ ap (λ (o : Outline). done (device c o) old.store.state) (sym out)
      ∙ sym (device_does old.store.shape c (state_of old) (kept old (told tell) ordered) (subst (λ o. IsAllowed old.store.shape c o) (sym out) allowed))

  pub still_becomes : Becomes tells c old new
  still_becomes = record {
    alive = ap (λ (st : StoreView). st.is_dead) same ∙ alive;
    outline = still_out;
    state = λ tell. state_after old (told tell) ordered c new allowed (still_data tell) still_out;
  }

  abbrev still_mirrors : Mirrors tells old.store new.store
  still_mirrors = subst (λ (st : StoreView). Mirrors tells old.store st) (sym same) (none_sent tells old.store old.store refl refl refl refl (λ fine. fine) (λ told mirrors fine. refl))

  still_sends : SendsAs tells (device c (outline_of old)) still_mirrors.added old.store new.store
  still_sends = subst (λ (o : Option Command). SendsAs tells o still_mirrors.added old.store new.store) (sym device_is) (ap (λ (st : StoreView). st.sending) same)

  pub still : {U : Type 0} (y : U) → HasRoom old c → (let s : Result U PageFault = Ok y in Does tells Opens c old new s)
  still y room = record {
    shape = ap (λ (st : StoreView). st.shape) same;
    depth = ap (λ (st : StoreView). st.depth) same;
    cause = (alive, room);
    kept = ap (λ (st : StoreView). st.faults) same;
    done = still_becomes;
    marks = tt;
    dies = λ is. absurd (IfErr-at_err (λ q. ⊥) is tt);
    others = λ u ne. ap (λ (st : StoreView). st.ranges u) same;
    time = λ tell living. subst (λ (st : StoreView). LeavesOnly (does_store.IsEither Opens old.store.state.bytes (after c (state_of old)).store.bytes) old.store st) (sym same)
        (stays old.store.moment old.store.left_since _);
    mirrors = still_mirrors;
    sends = λ mirrors. still_sends;
    refused = λ mirrors. tt;
  }

-- a refusal that changes nothing
pub unchanged : {U : Type 0} (tells : Bool) (Opens : List ℕ → List ℕ → Type 0) (c : PageCommand) (old : PagesView) (p : PageFault) → (p ≡ Media → ⊥)
    → (let s : Result U PageFault = Err p in Cause old c old.store.faults s) → (let s : Result U PageFault = Err p in Does tells Opens c old old s)
unchanged tells Opens c old p other cause = record {
  shape = refl;
  depth = refl;
  cause = cause;
  kept = tt;
  done = tt;
  marks = (refl, refl);
  dies = λ is. absurd (other (IfErr-at_err (λ q. p ≡ q) is refl));
  others = λ u ne. refl;
  time = λ tell living. stays old.store.moment old.store.left_since _;
  mirrors = none_sent tells old.store old.store refl refl refl refl (λ fine. fine) (λ told mirrors fine. refl);
  sends = λ mirrors. tt;
  refused = λ mirrors. refl;
}

-- A command that makes one of the store if its number is live, and none otherwise.
module _ (tells : Bool) (Opens : List ℕ → List ℕ → Type 0) (c : PageCommand) (d : Command) (t : ℕ) (old new : PagesView)
    (device_is : device c (outline_of old) ≡ if_live (outline_of old) t d)
    (alive : old.store.is_dead ≡ false) (allowed : IsAllowed old.store.shape c (outline_of old)) (ordered : IsOrdered (outline_of old)) (told : IsTrue tells → IsTold old.store)
    (room : HasRoom old c) (full : (g h n : ℕ) → causes.room_for old.store d (Some (g, h, n)) → IsFull old c g h n)
    (number : (u : ℕ) → (Names c u → ⊥) → causes.IsNumberOf d u → ⊥) where
  makes_live : (log : List (ℕ × ℕ)) → old.store.ranges t ≡ Some log → Makes tells c d old
  makes_live log is = record {
    device_is = device_is ∙ ap (option_map (λ ranges. d)) is;
    allowed = λ living. allowed;
    ordered = λ living. ordered;
    told = λ tell living. told tell;
    room = λ has. room;
    full = full;
    number = number;
  }

  pub live_does : {same : Type 0} (r : Result (Unit {0}) PageFault) → DoesWhereLive (old.store.ranges t) same tells Opens d old.store new.store r
      → (same → new.store ≡ old.store)
      → OnOk r ((new.counts ≡ (outline_after c (outline_of old)).counts) × (new.top ≡ (outline_after c (outline_of old)).top))
      → OnErr r ((new.counts ≡ old.counts) × (new.top ≡ old.top)) → Does tells Opens c old new r
  live_does {same} r does stays_as marks left = go (old.store.ranges t) refl does
    where
      at_none : old.store.ranges t ≡ None → (r : Result (Unit {0}) PageFault) → IsOk r → new.store ≡ old.store
          → OnOk r ((new.counts ≡ (outline_after c (outline_of old)).counts) × (new.top ≡ (outline_after c (outline_of old)).top)) → Does tells Opens c old new r
      at_none none (Ok y) ok is marks = still tells Opens c old new (device_is ∙ ap (option_map (λ ranges. d)) none) alive allowed ordered told is marks.0 marks.1 y room
      at_none none (Err p) ok is marks = absurd (false≢true ok)

      go : (log : Option (List (ℕ × ℕ))) → old.store.ranges t ≡ log → DoesWhereLive log same tells Opens d old.store new.store r → Does tells Opens c old new r
      go None is does = at_none is r does.1 (stays_as does.0) marks
      go (Some log) is does = lifted tells Opens c d old new (makes_live log is) does.0 r does.1 does.2 marks left
