-- What a transaction does after tries that were refused as busy: the same as if it were the first.
use Rattle.std.proofs.Common.{◌≡◌, ◌≢◌, ℕ, ◌+◌, Bool, true, false, inl, inr, ⊎_elim, List, [], ◌∷◌, ◌++◌, refl, sym, ◌∙◌, ap, subst, arith, append_assoc, Result, Ok, Err}
use Rattle.std.specs.Prelude.{IsTrue, IfOk, IfErr, OnOk, OnErr}
use Rattle.std.specs.List.{count_by}
use Rattle.std.proofs.lemmas.Bool.{true≢false, false≢true}
use Rattle.std.proofs.lemmas.List.Sums.{sum_by-append}
use Rattle.history.specs.Writes.{Table}
use Rattle.history.specs.Table.{Granted}
use Rattle.history.specs.Legal.{records}
use Rattle.history.specs.declared.call.Call.{Call}
use Rattle.history.specs.declared.call.Reply.{Reply}
use Rattle.history.specs.declared.transaction.Done.{Done}
use Rattle.caller_steps.specs.State.{State, records_of, done_by}
use Rattle.caller_steps.specs.Room.{Limits}
use Rattle.caller_steps.specs.Run.{Turn, Heard}
use Rattle.caller_steps.specs.Step.{StepOf, Runs}
use Rattle.caller_steps.specs.Core.{CoreView, Continues}
use Rattle.transactions.specs.Told.{reply_of}
use Rattle.transactions.specs.Went.{turns_by, Went, Refuses, IsOfCore}
use Rattle.caller_steps.specs.Fate.{is_busy}
use Rattle.transactions.specs.Tries.{WentTries, WentBusy, IsOften, was_busy}
use Rattle.transactions.specs.Adds.{Stays}
use Rattle.transactions.specs.Makes.{IsGivenUp, IsMade, IsEnded, IsInDoubt, MayAdd}
use Rattle.transactions.specs.declared.refusal.Refusal.TheVariants.{Busy, Media}
use Rattle.transactions.specs.declared.work.Stop.{Stop}
use Rattle.transactions.specs.declared.work.Stop.TheVariants.{Refused}
use Rattle.transactions.proofs.Going.{joined, went_on, core_later}
use Rattle.transactions.proofs.Trying.{tries_on}

-- a core that is dead stays dead
dead_on : (limits : Limits) (old new : State) (turns : List Turn) → Runs limits old turns new → old.is_dead ≡ true → new.is_dead ≡ true
dead_on limits old new [] runs dead = ap (λ (s : State). s.is_dead) runs ∙ dead
dead_on limits old new (turn ∷ turns) runs dead =
    let still = subst (λ (b : Bool). StepOf limits b (old.offers turn.0) (old.live turn.0) old turn.0 turn.1 turn.2 runs.0) dead runs.1.acts in
    dead_on limits runs.0 new turns runs.2 (ap (λ (s : State). s.is_dead) still.1 ∙ dead)

alive_before : (caller : ℕ) (mid new : CoreView) → Went caller mid new → new.state.is_dead ≡ false → mid.state.is_dead ≡ false
alive_before caller mid new went alive = by mid.state.is_dead refl
  where
    by : (b : Bool) → mid.state.is_dead ≡ b → mid.state.is_dead ≡ false
    by true is = absurd (true≢false (sym (dead_on mid.limits mid.state new.state (turns_by caller went.told) went.run is) ∙ alive))
    by false is = is

busy_append : (one other : Heard) → count_by (λ (entry : Call × Reply). is_busy entry.1) (one ++ other) ≡ count_by (λ (entry : Call × Reply). is_busy entry.1) one + count_by (λ (entry : Call × Reply). is_busy entry.1) other
busy_append one other = sum_by-append _ one other

-- one refusal,
busy_one : (caller holder : ℕ) (old new : CoreView) → Refuses caller old new (Busy holder) → WentBusy 1 caller old new
busy_one caller holder old new r = record {
  told = r.before ++ here ++ r.after;
  run = subst (λ (told : Heard). Runs old.limits old.state (turns_by caller told) new.state) (sym (append_assoc r.before here r.after)) r.run;
  often = omega (arith, busy_append (r.before ++ here) r.after, busy_append r.before here, one);
}
  where
    here : Heard
    here = (r.call, reply_of (Busy holder)) ∷ []

    one : count_by (λ (entry : Call × Reply). is_busy entry.1) here ≡ 1
    one = refl

-- and more after it
busy_on : (n m caller : ℕ) (old mid new : CoreView) → mid.limits ≡ old.limits → WentBusy n caller old mid → WentBusy m caller mid new → WentBusy (n + m) caller old new
busy_on n m caller old mid new limits a b = record {
  told = a.told ++ b.told;
  run = joined caller old mid new a.told b.told limits a.run b.run;
  often = let x = a.often in let y = b.often in omega (arith, x, y, busy_append a.told b.told);
}

often_first : {E : Type 0} (caller : ℕ) (old new : CoreView) (stop : Stop E) → IsOfCore caller old new stop → IsOften 1 caller old new stop
often_first caller old new (Refused (Busy holder)) r = busy_one caller holder old new r
often_first caller old new stop r = tt

often_on : {E : Type 0} (n caller : ℕ) (old mid new : CoreView) (stop : Stop E) → mid.limits ≡ old.limits → WentBusy n caller old mid → IsOften 1 caller mid new stop → IsOften (n + 1) caller old new stop
often_on n caller old mid new (Refused (Busy holder)) limits w r = busy_on n 1 caller old mid new limits w r
often_on n caller old mid new stop limits w r = tt

module _ (caller : ℕ) (old mid new : CoreView) (stays : Stays caller old mid) where
  table : records_of mid.state ≡ records_of old.state
  table = λ i. records (stays.goes_on.base i) (stays.history i)

  more : (calls : Granted) → mid.state.history ++ done_by mid.state caller calls ∷ [] ≡ old.state.history ++ done_by old.state caller calls ∷ []
  more calls = ap (λ (h : List Done). h ++ done_by (record old.state { history = h }) caller calls ∷ []) stays.history

  pub made_after : (Does : Table → Granted → Type 0) → IsMade Does caller mid new → IsMade Does caller old new
  made_after Does m = record { calls = m.calls; history = m.history ∙ more m.calls; does = subst (λ (t : Table). Does t m.calls) table m.does }

  pub ended_after : IsEnded caller old mid → IsEnded caller mid new → Went caller mid new → IsEnded caller old new
  ended_after first second went none alive = second (first none (alive_before caller mid new went alive)) alive

  pub doubt_after : {T E : Type 0} (Does : T → Table → Granted → Type 0) (stop : Stop E) → IsInDoubt Does caller mid new stop → IsInDoubt Does caller old new stop
  doubt_after Does stop doubt = ⊎_elim (λ same. inl (same ∙ stays.doubt))
      (λ d. inr (
        d.0,
        record {
          answer = d.1.answer;
          calls = d.1.calls;
          doubt = d.1.doubt ∙ ap (λ (h : List Done). done_by (record old.state { history = h }) caller d.1.calls ∷ []) stays.history;
          does = subst (λ (t : Table). Does d.1.answer t d.1.calls) table d.1.does;
        },
      )) doubt

  pub adds_after : {T : Type 0} (Does : T → Table → Granted → Type 0) → MayAdd Does caller mid new → MayAdd Does caller old new
  adds_after Does grows = ⊎_elim (λ same. inl (same ∙ (λ i. stays.history i ++ stays.doubt i)))
      (λ adds. inr record {
        answer = adds.answer;
        calls = adds.calls;
        before = sym stays.doubt ∙ adds.before;
        left = adds.left ∙ more adds.calls;
        does = subst (λ (t : Table). Does adds.answer t adds.calls) table adds.does;
      }) grows

  pub given_up_after : (Given : Table → Type 0) → Given (records_of mid.state) → Given (records_of old.state)
  given_up_after Given given = subst Given table given

-- What tries have come to: all that a transaction says of its result, and that it is refused as busy only if each try was.
pub record Tried {T E : Type 0} (n : ℕ) (Does : T → Table → Granted → Type 0) (GivesUp : E → Table → Type 0) (caller : ℕ) (old new : CoreView) (outcome : Result T (Stop E)) : Type 0 where
  pub goes_on : Continues old new
  pub made : IfOk outcome (λ answer. IsMade (Does answer) caller old new)
  pub refused : OnErr outcome (new.state.history ≡ old.state.history)
  pub cause : IfErr outcome (IsGivenUp GivesUp (records_of old.state))
  pub of_core : IfErr outcome (IsOfCore caller old new)
  pub tries : WentTries n caller old new
  pub often : IfErr outcome (IsOften n caller old new)
  pub went : Went caller old new
  pub ended : IsEnded caller old new
  pub others : (other : ℕ) → other ≢ caller → new.state.live other ≡ old.state.live other
  pub offers : new.state.offers ≡ old.state.offers
  pub certain : OnOk outcome (new.state.doubt ≡ old.state.doubt)
  pub doubt : IfErr outcome (IsInDoubt Does caller old new)
  pub grows : MayAdd Does caller old new

-- a try that was refused as busy leaves nothing
busy_stays : {T E : Type 0} (n : ℕ) (Does : T → Table → Granted → Type 0) (GivesUp : E → Table → Type 0) (caller : ℕ) (old new : CoreView) (holder : ℕ)
    → Tried n Does GivesUp caller old new (Err (Refused (Busy holder))) → Stays caller old new
busy_stays n Does GivesUp caller old new holder t = record {
  goes_on = t.goes_on;
  went = t.went;
  history = t.refused;
  doubt = ⊎_elim (λ same. same) (λ d. absurd (let e : Refused (Busy holder) ≡ Refused Media = d.0 in cc)) t.doubt;
  others = t.others;
  offers = t.offers;
}

-- one more try after it
pub tried_on : {T E : Type 0} (n : ℕ) (Does : T → Table → Granted → Type 0) (GivesUp : E → Table → Type 0) (caller : ℕ) (old mid new : CoreView) (first second : Result T (Stop E))
    → IsTrue (was_busy first) → Continues old new → Tried n Does GivesUp caller old mid first → Tried 1 Does GivesUp caller mid new second → Tried (n + 1) Does GivesUp caller old new second
tried_on n Does GivesUp caller old mid new (Err (Refused (Busy holder))) second busy goes_on a b = by second b
  where
    stays : Stays caller old mid
    stays = busy_stays n Does GivesUp caller old mid holder a

    limits : mid.limits ≡ old.limits
    limits = a.goes_on.limits

    by : (outcome : Result _ (Stop _)) → Tried 1 Does GivesUp caller mid new outcome → Tried (n + 1) Does GivesUp caller old new outcome
    by (Ok answer) b = record {
      goes_on = goes_on;
      made = made_after caller old mid new stays (Does answer) b.made;
      refused = tt;
      cause = tt;
      of_core = tt;
      tries = tries_on n 1 caller old mid new limits a.tries b.tries;
      often = tt;
      went = went_on caller old mid new limits a.went b.went;
      ended = ended_after caller old mid new stays a.ended b.ended b.went;
      others = λ other apart. b.others other apart ∙ a.others other apart;
      offers = b.offers ∙ a.offers;
      certain = b.certain ∙ stays.doubt;
      doubt = tt;
      grows = adds_after caller old mid new stays Does b.grows;
    }
    by (Err stop) b = record {
      goes_on = goes_on;
      made = tt;
      refused = b.refused ∙ stays.history;
      cause = given_up_after caller old mid new stays (λ (table : Table). IsGivenUp GivesUp table stop) b.cause;
      of_core = core_later caller old mid new stop limits a.went b.of_core;
      tries = tries_on n 1 caller old mid new limits a.tries b.tries;
      often = often_on n caller old mid new stop limits a.often b.often;
      went = went_on caller old mid new limits a.went b.went;
      ended = ended_after caller old mid new stays a.ended b.ended b.went;
      others = λ other apart. b.others other apart ∙ a.others other apart;
      offers = b.offers ∙ a.offers;
      certain = tt;
      doubt = doubt_after caller old mid new stays Does stop b.doubt;
      grows = adds_after caller old mid new stays Does b.grows;
    }
tried_on n Does GivesUp caller old mid new first second busy goes_on a b = absurd (false≢true busy)

pub often_once : {T E : Type 0} (caller : ℕ) (old new : CoreView) (outcome : Result T (Stop E)) → IfErr outcome (IsOfCore caller old new) → IfErr outcome (IsOften 1 caller old new)
often_once caller old new (Ok answer) r = tt
often_once caller old new (Err stop) r = often_first caller old new stop r
