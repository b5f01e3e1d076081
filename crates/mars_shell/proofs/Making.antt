-- Calls that a core makes one after another, and the tally of their replies.
use Rattle.std.proofs.Common.{◌≡◌, ℕ, zero, suc, ◌+◌, ◌<◌, ◌≤◌, Bool, true, false, List, [], ◌∷◌, ◌++◌, length, map, take, get_or, refl, sym, ap, subst, ◌∙◌, arith, cond, length-append, Result, Err, nat_le, ◌||◌, codes}
use Rattle.std.specs.Prelude.{IsTrue, IsFalse}
use Rattle.std.specs.List.{All, count_by}
use Rattle.std.proofs.lemmas.Bool.{false≢true}
use Rattle.std.proofs.lemmas.Bool.Decides.{nat_tests}
use Rattle.std.proofs.lemmas.List.{map-append, take_more}
use Rattle.std.proofs.lemmas.List.Elements.{All-from_recursion, All-append, All-nil, All-weaker}
use Rattle.std.proofs.lemmas.List.Folds.{list_any-append, list_any_none}
use Rattle.std.proofs.lemmas.List.Sums.{sum_by-append}
use Rattle.history.specs.declared.call.Call.{Call}
use Rattle.history.specs.declared.call.Reply.{Reply}
use Rattle.history.specs.declared.call.Reply.TheVariants as told
use Rattle.caller_steps.specs.State.{State}
use Rattle.caller_steps.specs.Room.{Limits}
use Rattle.caller_steps.specs.Run.{Turn, has_fault}
use Rattle.caller_steps.specs.Step.{Step, Runs}
use Rattle.caller_steps.specs.Fate.{is_media}
use Rattle.caller_steps.specs.Core.{CoreView, Steps}
use Rattle.caller_steps.proofs.Running.{turns_dead, turns_of_runs}
use Rattle.caller_steps.proofs.Continuing.{continues_none, continues_step, continues_on}
use Rattle.drill_gen.specs.Draws.{drawn_on}
use Rattle.drill_gen.specs.Drill.{drawn_from, alone, paired, in_turn, drill}
use Rattle.drill_gen.specs.declared.transaction.Transaction.{Transaction}
use Rattle.mars_base.specs.Causes.{Rose}
use Rattle.script_run.specs.Answers.{HasStopCause}
use Rattle.script_run.specs.declared.responder.Stop.{Stop}
use Rattle.script_run.specs.declared.responder.Stop.TheVariants.{Media, NoMemory}
use Rattle.mars_shell.specs.Lines.{goes_on}
use Rattle.mars_shell.specs.Made.{without_reply, GoOn, Made, EndsEarly}
use Rattle.mars_shell.specs.Tally.{counts, tally_of, more_if, counted, Goes}

-- ---- the tally

one_more : (so : Bool) (n : ℕ) → n + (0 + cond so 1 0) ≡ more_if so n
one_more true n = refl
one_more false n = omega arith

count_more : (p : Turn → Bool) (turns : List Turn) (turn : Turn) → count_by p (turns ++ turn ∷ []) ≡ more_if (p turn) (count_by p turns)
count_more p turns turn = sum_by-append (λ l. cond (p l) 1 0) turns (turn ∷ []) ∙ one_more (p turn) (count_by p turns)

pub tally_more : (turns : List Turn) (caller : ℕ) (call : Call) (reply : Reply) → tally_of (turns ++ (caller, call, reply) ∷ []) ≡ counted (tally_of turns) call reply
tally_more turns caller call reply = λ i. record {
  committed = count_more (λ (turn : Turn). counts (codes "committed") turn.2 turn.1) turns (caller, call, reply) i;
  aborted = count_more (λ (turn : Turn). counts (codes "aborted") turn.2 turn.1) turns (caller, call, reply) i;
  busy = count_more (λ (turn : Turn). counts (codes "busy") turn.2 turn.1) turns (caller, call, reply) i;
  refused = count_more (λ (turn : Turn). counts (codes "refused") turn.2 turn.1) turns (caller, call, reply) i;
}

-- ---- turns without a fault of the medium

-- a reply after which the script goes on is no fault of the medium
pub no_fault : (reply : Reply) → IsTrue (goes_on reply) → IsFalse (is_media reply)
no_fault told.Media goes = absurd (false≢true goes)
no_fault _ goes = refl

pub clean_more : (turns : List Turn) (turn : Turn) → has_fault turns ≡ false → is_media turn.2 ≡ false → has_fault (turns ++ turn ∷ []) ≡ false
clean_more turns turn none here = list_any-append (λ (t : Turn). is_media t.2) turns (turn ∷ []) ∙ (λ i. none i || (here i || false))

pub clean_all : (turns : List Turn) → GoOn turns → has_fault turns ≡ false
clean_all turns on = list_any_none (λ (t : Turn). is_media t.2) turns (All-weaker (λ (t : Turn). IsTrue (goes_on t.2)) (λ (t : Turn). is_media t.2 ≡ false) (λ t goes. no_fault t.2 goes) turns on)

-- they leave the core alive
pub living : (limits : Limits) (first now : State) (turns : List Turn) → Runs limits first turns now → first.is_dead ≡ false → has_fault turns ≡ false → now.is_dead ≡ false
living limits first now turns runs alive none = turns_dead true limits first now turns (turns_of_runs limits first now turns runs) ∙ (λ i. alive i || none i)

-- ---- the calls

runs_more : (limits : Limits) (old : State) (turns : List Turn) (mid : State) (turn : Turn) (new : State) → Runs limits old turns mid → Step limits mid turn.0 turn.1 turn.2 new
    → Runs limits old (turns ++ turn ∷ []) new
runs_more limits old [] mid turn new same step = (new, subst (λ (s : State). Step limits s turn.0 turn.1 turn.2 new) same step, refl)
runs_more limits old (first ∷ turns) mid turn new runs step = (runs.0, runs.1, runs_more limits runs.0 turns mid turn new runs.2 step)

-- a reply that ends the script says which count rose
pub stop_cause : (tells : Bool) (caller : ℕ) (call : Call) (mid new : CoreView) (reply : Reply) → Steps tells caller call mid new reply → (faults : ℕ) → mid.faults ≡ faults → (stop : Stop)
    → (let r : Result (Unit {0}) Stop = Err stop in Goes caller reply r) → (let r : Result (Unit {0}) Stop = Err stop in HasStopCause faults new.faults r)
stop_cause tells caller call mid new reply steps faults same (Media number) ends = subst (λ (n : ℕ). Rose n new.faults) same (steps.failed (ap is_media ends.1))
stop_cause tells caller call mid new reply steps faults same NoMemory ends = steps.kept (ap is_media ends) ∙ same

module _ (tells : Bool) (old : CoreView) (script : List (ℕ × Call)) where
  pub made_none : Made tells old script [] old
  made_none = record { limits = refl; drawn = refl; runs = λ told. refl; shown = λ told first. first; comes = λ told sound safe. continues_none old sound safe }

  module _ (turns : List Turn) (mid new : CoreView) (caller : ℕ) (call : Call) (reply : Reply) (made : Made tells old script turns mid) (steps : Steps tells caller call mid new reply) where
    pub drawn_more : (d : ℕ × Call) → length turns < length script → get_or script (length turns) d ≡ (caller, call)
        → map without_reply (turns ++ (caller, call, reply) ∷ []) ≡ take (length turns + 1) script
    drawn_more d more is = map-append without_reply turns ((caller, call, reply) ∷ []) ∙ ap (λ (l : List (ℕ × Call)). l ++ (caller, call) ∷ []) made.drawn
        ∙ ap (λ (t : ℕ × Call). take (length turns) script ++ t ∷ []) (sym is) ∙ sym (take_more script (length turns) d more)

    abbrev more_turns : List Turn
    more_turns = turns ++ (caller, call, reply) ∷ []

    pub made_more : (d : ℕ × Call) → length turns < length script → get_or script (length turns) d ≡ (caller, call) → Made tells old script (turns ++ (caller, call, reply) ∷ []) new
    made_more d more is = record {
      limits = steps.limits ∙ made.limits;
      drawn = drawn_more d more is ∙ ap (λ (n : ℕ). take n script) (sym (length-append turns ((caller, call, reply) ∷ [])));
      runs = λ told. runs_more old.limits old.state turns mid.state (caller, call, reply) new.state (made.runs told)
          (subst (λ (l : Limits). Step l mid.state caller call reply new.state) made.limits (steps.step told));
      shown = λ told first. steps.shown told (made.shown told first);
      comes = λ told sound safe.
          let on = made.comes told sound safe in
          continues_on old mid new on (continues_step tells caller call mid new reply on.sound steps told);
    }

    -- a reply that ends the script
    pub ends_early : (d : ℕ × Call) → length turns < length script → get_or script (length turns) d ≡ (caller, call) → GoOn turns → (stop : Stop)
        → (let r : Result (Unit {0}) Stop = Err stop in Goes caller reply r) → EndsEarly tells old script stop new
    ends_early d more is on (Media number) ends = (more_turns, made_more d more is, (turns, caller, call, ap (λ (r : Reply). turns ++ (caller, call, r) ∷ []) ends.1, on))
    ends_early d more is on NoMemory ends = (more_turns, made_more d more is, clean_more turns (caller, call, reply) (clean_all turns on) (ap is_media ends))

    -- a reply that is no fault of the medium leaves the core alive
    pub stays_alive : mid.state.is_dead ≡ false → IsFalse (is_media reply) → new.state.is_dead ≡ false
    stays_alive alive none = steps.moves.dead ∙ ap (λ (d : Bool). d || is_media reply) alive ∙ none

-- ---- the callers of a drawn script

abbrev IsOf : ℕ → ℕ × Call → Type 0
IsOf callers turn = turn.0 < callers

alone_inside : (callers : ℕ) (t : Transaction) → 1 ≤ callers → All (IsOf callers) (alone t)
alone_inside callers t some = All-from_recursion (IsOf callers) (alone t) (omega (arith, some), (omega (arith, some), (omega (arith, some), (omega (arith, some), tt))))

paired_inside : (callers : ℕ) (t u : Transaction) → 2 ≤ callers → All (IsOf callers) (paired t u)
paired_inside callers t u two = All-from_recursion (IsOf callers) (paired t u)
    (omega (arith, two), (omega (arith, two), (omega (arith, two), (omega (arith, two), (omega (arith, two), (omega (arith, two), (omega (arith, two), (omega (arith, two), tt))))))))

in_turn_inside : (callers : ℕ) (pairs : Bool) (x count : ℕ) → 1 ≤ callers → (pairs ≡ true → 2 ≤ callers) → All (IsOf callers) (in_turn pairs x count)
in_turn_inside callers pairs x zero some two = All-nil (IsOf callers)
in_turn_inside callers true x (suc zero) some two = All-append (IsOf callers) (alone (drawn_from x)) [] (alone_inside callers (drawn_from x) some) (All-nil (IsOf callers))
in_turn_inside callers true x (suc (suc count)) some two =
    All-append (IsOf callers) (paired (drawn_from x) (drawn_from (drawn_on x 5))) (in_turn true (drawn_on x 10) count) (paired_inside callers (drawn_from x) (drawn_from (drawn_on x 5)) (two refl))
    (in_turn_inside callers true (drawn_on x 10) count some two)
in_turn_inside callers false x (suc count) some two =
    All-append (IsOf callers) (alone (drawn_from x)) (in_turn false (drawn_on x 5) count) (alone_inside callers (drawn_from x) some) (in_turn_inside callers false (drawn_on x 5) count some two)

-- each caller is one of the array's
pub drill_inside : (seed count callers : ℕ) → 1 ≤ callers → All (λ turn. turn.0 < callers) (drill seed count callers)
drill_inside seed count callers some = in_turn_inside callers (nat_le 2 callers) seed count some (λ is. let two : 2 ≤ callers = grind (arith, nat_tests, is) in two)
