-- What comes of all callers' plans over one core.
use Rattle.std.specs.Prelude.{ℕ, ◌≡◌, ◌<◌, Bool, true, false, List, [], ◌∷◌, length, map, slice_index_or, Option, Some, None, option_map}
use Rattle.history.specs.declared.call.Reply.{Reply}
use Rattle.caller_steps.specs.Core.{CoreView}
use Rattle.caller_steps.specs.Run.{Turn, GoesAlong, AreOf, turns_of, has_fault}
use Rattle.mars_manager.specs.Sharing.{Since}
use Rattle.caller_plans.specs.declared.plan.Plan.{Plan}
use Rattle.caller_plans.specs.declared.fate.Fate.{Fate}
use Rattle.caller_work.specs.declared.stop.Stop.{Stop}
use Rattle.caller_work.specs.declared.stop.Stop.TheVariants as stop
use Rattle.caller_work.specs.declared.tries.Tries.TheVariants.{Times}
use Rattle.caller_work.specs.declared.end.WorkEnd.{WorkEnd}
use Rattle.caller_work.specs.declared.end.WorkEnd.TheVariants as work
use Rattle.caller_work.specs.Standing.{stop_for}
use Rattle.caller_work.specs.Tries.{IsWorkOf}
use Rattle.caller_work.specs.Asked.{HaveCauses}

-- the list of one caller, empty if there is none
abbrev pub of_caller : {A : Type 0} → List (List A) → ℕ → List A
of_caller lists caller = slice_index_or lists caller []

-- the work ended at a fault of the medium
abbrev pub is_fault : WorkEnd → Bool
is_fault work.MediaFault = true
is_fault _ = false

-- how a worker's work ended; to be left for last is not an end
abbrev pub end_of : Option Stop → WorkEnd
end_of None = work.All
end_of (Some (stop.Busy holder)) = work.All
end_of (Some stop.Media) = work.MediaFault
end_of (Some _) = work.NoMemory

-- the worse of two ends: a fault of the medium is worse than a lack of memory, and both are worse than none
abbrev pub worse : WorkEnd → WorkEnd → WorkEnd
worse work.MediaFault other = work.MediaFault
worse work.All other = other
worse work.NoMemory work.MediaFault = work.MediaFault
worse work.NoMemory other = work.NoMemory

-- the worst of the ends of workers that stopped so
abbrev pub worst : List (Option Stop) → WorkEnd
worst [] = work.All
worst (stops ∷ others) = worse (end_of stops) (worst others)

-- Callers' plans were worked on, on a core that came to a later one by a run of these callers. Each caller's turns are those that its plans
-- ask for, and its fates are what came of them. Each `Busy` that a caller was told has its cause in another's plans. How all work ended is the worst of what the workers came to. At the end of all work none of
-- them has stopped.
pub record Worked (tells : Bool) (tries : ℕ) (plans : List (List Plan)) (first last : CoreView) (fates : List (List Fate)) (end : WorkEnd) : Type 0 where
  pub since : Since tells first last
  pub turns : List Turn
  pub run : GoesAlong tells first.limits first.state turns last.state
  pub whose : AreOf (length plans) turns
  pub dead : last.state.is_dead ≡ is_fault end
  pub fault : has_fault turns ≡ is_fault end
  pub each : length fates ≡ length plans
  pub stopped : List (Option Reply)
  pub each_stopped : length stopped ≡ length plans
  pub works : (caller : ℕ) → caller < length plans → IsWorkOf (Times tries) (of_caller plans caller) (turns_of caller turns) (of_caller fates caller) (slice_index_or stopped caller None)
  pub causes : (caller : ℕ) (within : caller < length plans) → HaveCauses (length plans) first.state.names (of_caller plans) caller (works caller within).0
  pub end_is : end ≡ worst (map (option_map stop_for) stopped)
  pub whole : end ≡ work.All → (caller : ℕ) → caller < length plans → slice_index_or stopped caller None ≡ None
