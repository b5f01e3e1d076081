-- The prefix law along steps.
use Rattle.std.proofs.Common.{◌≡◌, ℕ, ◌≤◌, Bool, true, false, inl, ⊎_elim, List, [], ◌++◌, length, take, refl, sym, ap, subst, ◌∙◌, arith, length-append}
use Rattle.std.specs.Prelude.{IsTrue, ◌↔◌, if◌then◌else◌}
use Rattle.std.proofs.lemmas.List.{take-append-le, append_assoc, append-nil}
use Rattle.mars_base.proofs.Going as going
use Rattle.history.specs.Writes.{Table}
use Rattle.history.specs.Legal.{records}
use Rattle.history.specs.Groups.{AreWhole}
use Rattle.history.specs.declared.call.Call.{Call}
use Rattle.history.specs.declared.call.Reply.{Reply}
use Rattle.history.specs.declared.transaction.Done.{Done}
use Rattle.caller_steps.specs.State.{State}
use Rattle.caller_steps.specs.Prefix.{HasPrefix, HasPrefixOf, Grows}
use Rattle.caller_steps.specs.Sound.{IsSound}
use Rattle.caller_steps.specs.Step.{StepOf}
use Rattle.caller_steps.specs.Fate.{is_committed, committed_by, history_after}
use Rattle.caller_steps.specs.Core.{CoreView, IsSafe, Steps, Continues}
use Rattle.caller_steps.proofs.Sound.{step_sound}

pub grows_none : (history : List Done) → Grows history history
grows_none history = record { more = []; is = sym (append-nil history) }

pub grows_on : (old mid new : List Done) → Grows old mid → Grows mid new → Grows old new
grows_on old mid new a b = record { more = a.more ++ b.more; is = b.is ∙ ap (λ (l : List Done). l ++ b.more) a.is ∙ append_assoc old a.more b.more }

pub grows_longer : (old new : List Done) → Grows old new → length old ≤ length new
grows_longer old new grows = omega (arith, ap length grows.is, length-append old grows.more)

pub grows_same : (old new : List Done) → new ≡ old → Grows old new
grows_same old new e = record { more = []; is = e ∙ sym (append-nil old) }

-- what is in doubt comes after the others
grows_doubt : (history doubt : List Done) → Grows history (history ++ doubt)
grows_doubt history doubt = record { more = doubt; is = refl }

-- The first transactions of a history are the first ones of a history that extends it,
pub prefix_on : (Old New : List ℕ → Table → Type 0) (base after : Table) (old new : List Done) (least fewer : ℕ) (image : List ℕ)
    → ((table : Table) → Old image table → New image table) → after ≡ base → Grows old new → fewer ≤ least → HasPrefix Old base old least image → HasPrefix New after new fewer image
prefix_on Old New base after old new least fewer image opens same grows le has = record {
  count = has.count;
  at_least = omega (arith, le, has.at_least);
  at_most = omega (arith, has.at_most, grows_longer old new grows);
  whole = subst (λ (h : List Done). AreWhole has.count h) (sym first_ones) has.whole;
  opens = subst (λ (t : Table). New image (records t (take has.count new))) (sym same)
      (subst (λ (h : List Done). New image (records base h)) (sym first_ones) (opens (records base (take has.count old)) has.opens));
}
  where
    first_ones : take has.count new ≡ take has.count old
    first_ones = ap (take has.count) grows.is ∙ take-append-le has.count old grows.more has.at_most

-- also for a state that continues another.
prefix_of : (mid new : CoreView) (least fewer : ℕ) (image : List ℕ) → Continues mid new → fewer ≤ least → HasPrefixOf mid.opens mid.state least image → HasPrefixOf new.opens new.state fewer image
prefix_of mid new least fewer image on le has =
    prefix_on mid.opens new.opens mid.state.base new.state.base (mid.state.history ++ mid.state.doubt) (new.state.history ++ new.state.doubt)
    least fewer image (on.opens image) on.base on.doubtful le has

-- A core continues itself, in whatever words what might have been left is told,
pub continues_as : (core : CoreView) (left : ℕ → List ℕ → Type 0) → ((t : ℕ) (image : List ℕ) → left t image ↔ core.left_since t image) → IsSound core.state → IsSafe core core.moment (length core.state.history)
    → Continues core (record core { left_since = left })
continues_as core left same sound safe = record {
  limits = refl;
  names = refl;
  base = refl;
  opens = λ image table opens. opens;
  grows = grows_none core.state.history;
  doubtful = grows_none (core.state.history ++ core.state.doubt);
  sound = sound;
  time = record {
    later = (going.stays core.moment core.left_since (HasPrefixOf core.opens core.state (length core.state.history))).later;
    keeps = λ t image le was. (same t image).1 was;
    only = λ t image le was. inl ((same t image).0 was);
  };
  now = λ image was. safe image ((same core.moment image).0 was);
}

pub continues_none : (core : CoreView) → IsSound core.state → IsSafe core core.moment (length core.state.history) → Continues core core
continues_none core sound safe = continues_as core core.left_since (λ t image. (λ was. was, λ was. was)) sound safe

-- and continuing is transitive.
pub continues_on : (old mid new : CoreView) → Continues old mid → Continues mid new → Continues old new
continues_on old mid new a b = record {
  limits = b.limits ∙ a.limits;
  names = b.names ∙ a.names;
  base = b.base ∙ a.base;
  opens = λ image table opens. b.opens image table (a.opens image table opens);
  grows = grows_on old.state.history mid.state.history new.state.history a.grows b.grows;
  doubtful = grows_on (old.state.history ++ old.state.doubt) (mid.state.history ++ mid.state.doubt) (new.state.history ++ new.state.doubt) a.doubtful b.doubtful;
  sound = b.sound;
  time = going.then
      (going.weaker (λ image has. prefix_of mid new (length old.state.history) (length old.state.history) image b (omega arith) has) a.time)
      (going.weaker (λ image has. prefix_on new.opens new.opens new.state.base new.state.base (new.state.history ++ new.state.doubt) (new.state.history ++ new.state.doubt)
      (length mid.state.history) (length old.state.history) image (λ table opens. opens) refl (grows_none (new.state.history ++ new.state.doubt))
      (grows_longer old.state.history mid.state.history a.grows) has) b.time);
  now = b.now;
}

-- a step extends the history by what it commits
pub after_grows : (callers : ℕ) (old : State) (caller : ℕ) (call : Call) (reply : Reply) → Grows old.history (history_after callers old caller call reply)
after_grows callers old caller call reply = go (is_committed reply)
  where
    go : (b : Bool) → Grows old.history (if b then old.history ++ committed_by callers old caller call else old.history)
    go true = record { more = committed_by callers old caller call; is = refl }
    go false = grows_none old.history

module _ (tells : Bool) (caller : ℕ) (call : Call) (old new : CoreView) (reply : Reply) (sound : IsSound old.state) (steps : Steps tells caller call old new reply) (told : IsTrue tells) where
  step_grows : Grows old.state.history new.state.history
  step_grows = subst (λ h. Grows old.state.history h) (sym steps.moves.history) (after_grows old.limits.callers old.state caller call reply)

  -- If the medium has not failed before, nothing was in doubt; else nothing changes.
  doubt_if : (dead : Bool) → old.state.is_dead ≡ dead → StepOf old.limits dead (old.state.offers caller) (old.state.live caller) old.state caller call reply new.state
      → Grows (old.state.history ++ old.state.doubt) (new.state.history ++ new.state.doubt)
  doubt_if true dead step = grows_same (old.state.history ++ old.state.doubt) (new.state.history ++ new.state.doubt) (ap (λ (s : State). s.history ++ s.doubt) step.1)
  doubt_if false alive step = subst (λ d. Grows (old.state.history ++ d) (new.state.history ++ new.state.doubt)) (sym (sound.certain alive))
      (subst (λ h. Grows h (new.state.history ++ new.state.doubt)) (sym (append-nil old.state.history)) (grows_on old.state.history new.state.history (new.state.history ++ new.state.doubt) step_grows (grows_doubt new.state.history new.state.doubt)))

  -- A step continues the core.
  pub continues_step : Continues old new
  continues_step = record {
    limits = steps.limits;
    names = steps.moves.names;
    base = steps.moves.base;
    opens = steps.opens;
    grows = step_grows;
    doubtful = doubt_if old.state.is_dead refl (steps.step told).acts;
    sound = step_sound old.limits old.state caller call reply new.state sound (steps.step told);
    time = steps.time told;
    now = steps.now told;
  }

-- What was safe since a moment stays so: what the later moments leave opens with at least as many transactions.
pub safe_on : (old new : CoreView) (since least : ℕ) → Continues old new → since ≤ old.moment → least ≤ length old.state.history → IsSafe old since least → IsSafe new since least
safe_on old new since least on le few safe image left = ⊎_elim
    (λ was. prefix_of old new least least image on (omega arith) (safe image was))
    (λ anew. prefix_on new.opens new.opens new.state.base new.state.base (new.state.history ++ new.state.doubt) (new.state.history ++ new.state.doubt)
    (length old.state.history) least image (λ table opens. opens) refl (grows_none (new.state.history ++ new.state.doubt)) few anew)
    (on.time.only since image le left)

-- So all that was committed at some moment is kept whenever power is lost from then on.
pub kept_since : (entry new : CoreView) → Continues entry new → IsSafe entry entry.moment (length entry.state.history) → IsSafe new entry.moment (length entry.state.history)
kept_since entry new on safe = safe_on entry new entry.moment (length entry.state.history) on (omega arith) (omega arith) safe

-- A step keeps safe what was safe since a moment.
pub step_safe : (tells : Bool) (caller : ℕ) (call : Call) (old new : CoreView) (reply : Reply) (since least : ℕ) → IsSound old.state → Steps tells caller call old new reply → IsTrue tells
    → since ≤ old.moment → least ≤ length old.state.history → IsSafe old since least → IsSafe new since least
step_safe tells caller call old new reply since least sound steps told le few safe = safe_on old new since least (continues_step tells caller call old new reply sound steps told) le few safe
