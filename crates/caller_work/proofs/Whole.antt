-- What all callers' work comes to, from what each pass has come to and from the core that is given back.
use Rattle.std.proofs.Common.{◌≡◌, ◌||◌, ℕ, zero, suc, ◌+◌, ◌<◌, ◌≤◌, eqb, Bool, true, false, List, [], ◌∷◌, ◌++◌, get_or, take, drop, length, map, Option, None, arith, refl, sym, ap, ◌∙◌, subst, eq-eqb}
use Rattle.std.specs.Prelude.{if◌then◌else◌, option_map}
use Rattle.std.proofs.lemmas.List.{append-nil, take_all, length-map}
use Rattle.history.specs.declared.call.Call.{Call}
use Rattle.history.specs.declared.call.Reply.{Reply}
use Rattle.caller_steps.specs.State.{State}
use Rattle.caller_steps.specs.Room.{Limits}
use Rattle.caller_steps.specs.Core.{CoreView}
use Rattle.caller_steps.specs.Fate.{is_media}
use Rattle.caller_steps.specs.Own.{has_media}
use Rattle.caller_steps.specs.Run.{Turn, GoesAlong, AreOf, turns_of, has_fault}
use Rattle.caller_steps.proofs.Running.{turns_dead}
use Rattle.caller_steps.proofs.Telling.{told_by_some, some_line}
use Rattle.mars_manager.specs.declared.setup.Setup.{Setup}
use Rattle.mars_manager.specs.Pass.{PassView, names_in, Fits, AreSo, known_of, times, newcomer}
use Rattle.mars_manager.specs.Sharing.{MarsView, Since}
use Rattle.mars_manager.proofs.Calls.{told_all}
use Rattle.caller_plans.specs.declared.plan.Plan.{Plan}
use Rattle.caller_plans.specs.declared.fate.Fate.{Fate}
use Rattle.caller_work.specs.declared.stop.Stop.{Stop}
use Rattle.caller_work.specs.declared.tries.Tries.TheVariants.{Times}
use Rattle.caller_work.specs.declared.end.WorkEnd.{WorkEnd}
use Rattle.caller_work.specs.Standing.{stop_for}
use Rattle.caller_work.specs.Tries.{IsWorkOf}
use Rattle.caller_work.specs.Crew.{IsDone}
use Rattle.caller_work.specs.Asked.{IsToldOf, HaveCauses}
use Rattle.mars_manager.specs.Asked.{HaveAsked}
use Rattle.caller_work.proofs.Asking.{causes_of}
use Rattle.caller_work.specs.Worked.{of_caller, end_of, worst, is_fault, Worked}
use Rattle.caller_work.proofs.Ending.{fault_of_one, one_of_fault}
use Rattle.caller_work.proofs.Faults.{in_work, steps_media}

alike : (a b : Bool) → (a ≡ true → b ≡ true) → (b ≡ true → a ≡ true) → a ≡ b
alike true b f g = sym (f refl)
alike false true f g = g refl
alike false false f g = refl

-- what a slice of a vector writes back
pub written_back : {X : Type 0} (now items : List X) (len : ℕ) → length now ≡ length items → len ≡ length items → take len (now ++ drop (length now) items) ≡ now
written_back {X} now items len same all =
    let none : drop (length now) items ≡ [] = drop_all (length now) items (omega arith) in
    ap (λ (l : List X). take len (now ++ l)) none ∙ ap (take len) (append-nil now) ∙ take_all len now (omega arith)
  where
    drop_all : {X : Type 0} (n : ℕ) (xs : List X) → length xs ≤ n → drop n xs ≡ []
    drop_all zero [] le = refl
    drop_all (suc n) [] le = refl
    drop_all zero (x ∷ xs) le = absurd (omega arith)
    drop_all (suc n) (x ∷ xs) le = drop_all n xs (omega arith)

module _ {C : Type 0} where
  -- each pass is there at least once
  pub times_at : (passes : List (PassView C)) (i : ℕ) (p : PassView C) → i < length passes → 0 < times (get_or passes i p).known.number (map known_of passes)
  times_at [] i p within = absurd (omega arith)
  times_at (q ∷ passes) zero p within =
      let one : times q.known.number (map known_of (q ∷ passes)) ≡ 1 + times q.known.number (map known_of passes) = ap (λ (b : Bool). (if b then 1 else 0) + times q.known.number (map known_of passes)) (eq-eqb q.known.number q.known.number refl) in omega arith
  times_at (q ∷ passes) (suc i) p within =
      let rest = times_at passes i p (omega arith) in
      let n : ℕ = (get_or passes i p).known.number in
      let c : ℕ = if eqb q.known.number n then 1 else 0 in
      let e : 0 < c + times n (map known_of passes) = omega arith in e

  fits_at : (tells : Bool) (show : C → CoreView) (setup : Setup C) (turns : List Turn) (state : State) (passes : List (PassView C)) (i : ℕ) (p : PassView C) → AreSo tells show setup turns state passes → i < length passes
      → Fits tells show setup turns state (get_or passes i p).known
  fits_at tells show setup turns state [] i p so within = absurd (omega arith)
  fits_at tells show setup turns state (q ∷ passes) zero p so within = so.0
  fits_at tells show setup turns state (q ∷ passes) (suc i) p so within = fits_at tells show setup turns state passes i p so.1 (omega arith)

  module _ (tells : Bool) (show : C → CoreView) (mars : MarsView C) (last : C) (tries : ℕ) (plans : List (List Plan)) (told : List (List Fate)) (stopped : List (Option Reply)) (passes : List (PassView C)) (end : WorkEnd)
      (named : mars.setup.names ≡ (show mars.setup.first).state.names) (each : length told ≡ length plans) (each_stopped : length stopped ≡ length plans) (both : length passes ≡ length plans)
      (done : (k : ℕ) (p : PassView C) → k < length plans → IsDone end k (Times tries) (of_caller plans k) (of_caller told k) (get_or stopped k None) (get_or passes k p))
      (end_is : end ≡ worst (map (option_map stop_for) stopped))
      (since : Since tells (show mars.setup.first) (show last))
      (turns : List Turn) (run : GoesAlong tells (show mars.setup.first).limits (show mars.setup.first).state turns (show last).state) (of_these : AreOf (length plans) turns)
      (alive : (show mars.setup.first).state.is_dead ≡ false) (so : AreSo tells show mars.setup turns (show last).state passes) (asked : HaveAsked (length plans) passes) where
    somebody : PassView C
    somebody = record { table = mars.table; known = newcomer mars.setup 0 }

    abbrev first : State
    first = (show mars.setup.first).state

    abbrev limits : Limits
    limits = (show mars.setup.first).limits

    abbrev now : State
    now = (show last).state

    -- each caller's turns are those that its plans ask for
    works : (k : ℕ) → k < length plans → IsWorkOf (Times tries) (of_caller plans k) (turns_of k turns) (of_caller told k) (get_or stopped k None)
    works k within =
        let d = done k somebody within in
        let fits = fits_at tells show mars.setup turns now passes k somebody so (omega arith) in
        (d.works.0, sym (told_all tells show mars.setup turns now (get_or passes k somebody).known fits ∙ ap (λ (n : ℕ). turns_of n turns) d.number) ∙ d.works.1, d.works.2)

    -- and each `Busy` that it was told has its cause
    causes : (k : ℕ) (within : k < length plans) → HaveCauses (length plans) first.names (of_caller plans) k (works k within).0
    unfolding works
    causes k within = causes_of (length plans) first.names (of_caller plans) (Times tries) passes somebody (λ i l. (done i somebody l).works.0) (of_caller told) (λ i. get_or stopped i None)
        asked (omega arith) (λ i l. (done i somebody l).number) (λ i l. subst (λ (names : List (List ℕ)). IsToldOf names i (done i somebody l).works.0 (get_or passes i somebody).known.met)
        (ap names_in (fits_at tells show mars.setup turns now passes i somebody so (omega arith)).setup_is ∙ named) (done i somebody l).asked) (λ i l. (done i somebody l).works.2) k within

    media_work : (k : ℕ) → k < length plans → has_media (turns_of k turns) ≡ is_fault (end_of (option_map stop_for (get_or stopped k None)))
    media_work k within =
        let w = works k within in
        ap has_media w.1 ∙ steps_media w.0 ∙ in_work (Times tries) (of_caller plans k) w.0 (of_caller told k) (get_or stopped k None) w.2

    -- the stop of each, from its reply
    stop_at : (k : ℕ) → get_or (map (option_map stop_for) stopped) k None ≡ option_map stop_for (get_or stopped k None)
    stop_at k = from stopped k
      where
        from : (xs : List (Option Reply)) (k : ℕ) → get_or (map (option_map stop_for) xs) k None ≡ option_map stop_for (get_or xs k None)
        from [] k = refl
        from (x ∷ xs) zero = refl
        from (x ∷ xs) (suc k) = from xs k

    dead_is : now.is_dead ≡ has_fault turns
    dead_is = turns_dead tells limits first now turns run ∙ ap (λ b. b || has_fault turns) alive

    fault_told : has_fault turns ≡ true → is_fault end ≡ true
    fault_told fault =
        let cause = told_by_some (λ (entry : Call × Reply). is_media entry.1) (length plans) turns of_these fault in
        let within : cause.0 < length plans = cause.1 in
        ap is_fault end_is ∙ fault_of_one (map (option_map stop_for) stopped) cause.0 None (let e = length-map stopped (option_map stop_for) in omega arith) (ap (λ (s : Option Stop). is_fault (end_of s)) (stop_at cause.0) ∙ sym (media_work cause.0 within) ∙ cause.2)

    fault_true : is_fault end ≡ true → has_fault turns ≡ true
    fault_true fault =
        let one = one_of_fault (map (option_map stop_for) stopped) None (sym (ap is_fault end_is) ∙ fault) in
        let within : one.0 < length plans = (let l = one.1 in let e = length-map stopped (option_map stop_for) in omega arith) in
        some_line (λ (entry : Call × Reply). is_media entry.1) one.0 turns (media_work one.0 within ∙ sym (ap (λ (s : Option Stop). is_fault (end_of s)) (stop_at one.0)) ∙ one.2)

    fault_as : has_fault turns ≡ is_fault end
    fault_as = alike (has_fault turns) (is_fault end) fault_told fault_true

    pub whole : Worked tells tries plans (show mars.setup.first) (show last) told end
    whole = record {
      since = since;
      turns = turns;
      run = run;
      whose = of_these;
      dead = dead_is ∙ fault_as;
      fault = fault_as;
      each = each;
      stopped = stopped;
      each_stopped = each_stopped;
      works = works;
      causes = causes;
      end_is = end_is;
      whole = λ all k within. (done k somebody within).whole all;
    }
