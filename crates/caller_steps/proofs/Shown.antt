-- Runs whose states are shown by their data.
use Rattle.std.proofs.Common.{◌≡◌, ℕ, List, [], ◌∷◌, ◌++◌, sym, ap, subst, ◌∙◌, IsFalse}
use Rattle.caller_steps.specs.State.{State, Index, records_of}
use Rattle.caller_steps.specs.Room.{Limits, IsShown}
use Rattle.caller_steps.specs.Run.{Turn}
use Rattle.caller_steps.specs.Step.{Runs, RunsShown}
use Rattle.caller_steps.proofs.Reading.{alive_first}

module _ (shows : State → Type 0) (limits : Limits) where
  pub shown_runs : (first now : State) (turns : List Turn) → RunsShown shows limits first turns now → Runs limits first turns now
  shown_runs first now [] run = run
  shown_runs first now (turn ∷ turns) (mid, step, shown, run) = (mid, step, shown_runs mid now turns run)

  pub shown_join : (first mid now : State) (xs ys : List Turn) → RunsShown shows limits first xs mid → RunsShown shows limits mid ys now → RunsShown shows limits first (xs ++ ys) now
  shown_join first mid now [] ys one other = subst (λ (s : State). RunsShown shows limits s ys now) one other
  shown_join first mid now (turn ∷ xs) ys (next, step, shown, one) other = (next, step, shown, shown_join next mid now xs ys one other)

  pub shown_end : (first now : State) (turns : List Turn) → (IsFalse first.is_dead → shows first) → RunsShown shows limits first turns now → IsFalse now.is_dead → shows now
  shown_end first now [] begun run alive = subst shows (sym run) (begun (ap (λ (s : State). s.is_dead) (sym run) ∙ alive))
  shown_end first now (turn ∷ turns) begun (mid, step, shown, run) alive = shown_end mid now turns shown run alive

  -- where the data tells the index, two runs that end with the same data end with the same index
  pub shown_index : (of : List ℕ → Index) → ((state : State) → shows state → state.index ≡ of state.index.bytes) → (one other first last : State) (xs ys : List Turn) → (IsFalse first.is_dead → shows first) → (IsFalse last.is_dead → shows last)
      → RunsShown shows limits first xs one → RunsShown shows limits last ys other → IsFalse one.is_dead → IsFalse other.is_dead → one.index.bytes ≡ other.index.bytes → one.index ≡ other.index
  shown_index of tells one other first last xs ys begun began run ran alive living same =
      tells one (shown_end first one xs begun run alive) ∙ ap of same ∙ sym (tells other (shown_end last other ys began ran living))

-- along a run whose first state its data shows, so it is of each that is not dead
pub shown_along : (limits : Limits) (first now : State) (turns : List Turn) → IsShown limits first → Runs limits first turns now → IsFalse now.is_dead → IsShown limits now
shown_along limits first now [] shown run alive = subst (IsShown limits) (sym run) shown
shown_along limits first now (turn ∷ turns) shown (mid, step, runs) alive =
    shown_along limits mid now turns (step.shown (alive_first limits mid now turns runs alive) shown) runs alive

-- what one data shows is one
pub shown_one : (limits : Limits) (one other : State) → IsShown limits one → IsShown limits other → one.index.bytes ≡ other.index.bytes
    → (one.names ≡ other.names) × (records_of one ≡ records_of other) × (one.index ≡ other.index)
shown_one limits one other a b same =
    let is = sym a ∙ ap limits.says same ∙ b in
    (λ i. (is i).0, λ i. (is i).1, λ i. (is i).2)
