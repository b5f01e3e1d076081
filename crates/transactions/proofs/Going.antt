-- Calls of one caller after others.
use Rattle.std.proofs.Common.{◌≡◌, ℕ, List, [], ◌∷◌, ◌++◌, refl, sym, ◌∙◌, subst, append_assoc}
use Rattle.std.proofs.lemmas.List.{map-append}
use Rattle.history.specs.declared.call.Call.{Call}
use Rattle.history.specs.declared.call.Reply.{Reply}
use Rattle.caller_steps.specs.State.{State}
use Rattle.caller_steps.specs.Room.{Limits}
use Rattle.caller_steps.specs.Run.{Turn, Heard}
use Rattle.caller_steps.specs.Step.{Step, Runs}
use Rattle.caller_steps.specs.Core.{CoreView, Continues}
use Rattle.transactions.specs.Told.{reply_of}
use Rattle.transactions.specs.Went.{turns_by, Went, Refuses, IsOfCore}
use Rattle.transactions.specs.Adds.{Stays}
use Rattle.transactions.specs.declared.refusal.Refusal.{Refusal}
use Rattle.transactions.specs.declared.work.Stop.{Stop}
use Rattle.transactions.specs.declared.work.Stop.TheVariants.{Refused, GivenUp}

runs_join : (limits : Limits) (first mid now : State) (xs ys : List Turn) → Runs limits first xs mid → Runs limits mid ys now → Runs limits first (xs ++ ys) now
runs_join limits first mid now [] ys a b = subst (λ (s : State). Runs limits s ys now) a b
runs_join limits first mid now (x ∷ xs) ys a b = (a.0, a.1, runs_join limits a.0 mid now xs ys a.2 b)

-- calls after others
pub joined : (caller : ℕ) (old mid new : CoreView) (told more : Heard) → mid.limits ≡ old.limits → Runs old.limits old.state (turns_by caller told) mid.state
    → Runs mid.limits mid.state (turns_by caller more) new.state → Runs old.limits old.state (turns_by caller (told ++ more)) new.state
joined caller old mid new told more limits a b =
    subst (λ (turns : List Turn). Runs old.limits old.state turns new.state) (sym (map-append (λ (entry : Call × Reply). (caller, entry.0, entry.1)) told more))
    (runs_join old.limits old.state mid.state new.state (turns_by caller told) (turns_by caller more) a (subst (λ (l : Limits). Runs l mid.state (turns_by caller more) new.state) limits b))

pub went_one : (caller : ℕ) (old new : CoreView) (call : Call) (reply : Reply) → Step old.limits old.state caller call reply new.state → Went caller old new
went_one caller old new call reply step = record { told = (call, reply) ∷ []; run = (new.state, step, refl) }

pub refuses_one : (caller : ℕ) (old new : CoreView) (call : Call) (refusal : Refusal) → Step old.limits old.state caller call (reply_of refusal) new.state → Refuses caller old new refusal
refuses_one caller old new call refusal step = record { before = []; call = call; after = []; run = (new.state, step, refl) }

pub went_on : (caller : ℕ) (old mid new : CoreView) → mid.limits ≡ old.limits → Went caller old mid → Went caller mid new → Went caller old new
went_on caller old mid new limits a b = record { told = a.told ++ b.told; run = joined caller old mid new a.told b.told limits a.run b.run }

-- a refusal among the later calls is one among all,
pub refuses_later : (caller : ℕ) (old mid new : CoreView) (refusal : Refusal) → mid.limits ≡ old.limits → Went caller old mid → Refuses caller mid new refusal → Refuses caller old new refusal
refuses_later caller old mid new refusal limits a r = record {
  before = a.told ++ r.before;
  call = r.call;
  after = r.after;
  run = subst (λ (told : Heard). Runs old.limits old.state (turns_by caller told) new.state) (sym (append_assoc a.told r.before ((r.call, reply_of refusal) ∷ r.after)))
      (joined caller old mid new a.told (r.before ++ (r.call, reply_of refusal) ∷ r.after) limits a.run r.run);
}

-- and so is one among the earlier ones
pub refuses_before : (caller : ℕ) (old mid new : CoreView) (refusal : Refusal) → mid.limits ≡ old.limits → Refuses caller old mid refusal → Went caller mid new → Refuses caller old new refusal
refuses_before caller old mid new refusal limits r b = record {
  before = r.before;
  call = r.call;
  after = r.after ++ b.told;
  run = subst (λ (told : Heard). Runs old.limits old.state (turns_by caller told) new.state) (append_assoc r.before ((r.call, reply_of refusal) ∷ r.after) b.told)
      (joined caller old mid new (r.before ++ (r.call, reply_of refusal) ∷ r.after) b.told limits r.run b.run);
}

pub core_later : {E : Type 0} (caller : ℕ) (old mid new : CoreView) (stop : Stop E) → mid.limits ≡ old.limits → Went caller old mid → IsOfCore caller mid new stop → IsOfCore caller old new stop
core_later caller old mid new (Refused refusal) limits a r = refuses_later caller old mid new refusal limits a r
core_later caller old mid new (GivenUp reason) limits a r = tt

pub core_before : {E : Type 0} (caller : ℕ) (old mid new : CoreView) (stop : Stop E) → mid.limits ≡ old.limits → IsOfCore caller old mid stop → Went caller mid new → IsOfCore caller old new stop
core_before caller old mid new (Refused refusal) limits r b = refuses_before caller old mid new refusal limits r b
core_before caller old mid new (GivenUp reason) limits r b = tt

pub stays_on : (caller : ℕ) (old mid new : CoreView) → Continues old new → Stays caller old mid → Stays caller mid new → Stays caller old new
stays_on caller old mid new goes_on a b = record {
  goes_on = goes_on;
  went = went_on caller old mid new a.goes_on.limits a.went b.went;
  history = b.history ∙ a.history;
  doubt = b.doubt ∙ a.doubt;
  others = λ other apart. b.others other apart ∙ a.others other apart;
  offers = b.offers ∙ a.offers;
}
