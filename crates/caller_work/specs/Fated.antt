-- What the fates of a caller's plans say of a history.
use Rattle.std.specs.Prelude.{ℕ, ◌≡◌, ◌⊎◌, Bool, true, false, IsTrue, IsFalse, List, [], ◌∷◌, ◌++◌, map, Contains}
use Rattle.history.specs.declared.call.Call.{Call}
use Rattle.history.specs.declared.call.Call.TheVariants.{Table}
use Rattle.history.specs.declared.call.TableCall.{TableCall}
use Rattle.history.specs.declared.call.Reply.{Reply}
use Rattle.history.specs.declared.call.Reply.TheVariants.{NoTable, NoSave, SavesFull, LogFull, SlotsFull, PagesFull}
use Rattle.history.specs.declared.transaction.Done.{Done}
use Rattle.caller_plans.specs.declared.plan.Plan.{Plan}
use Rattle.caller_plans.specs.declared.plan.PlanEnd.{PlanEnd}
use Rattle.caller_plans.specs.declared.plan.PlanEnd.TheVariants as end
use Rattle.caller_plans.specs.declared.fate.Fate.{Fate}
use Rattle.caller_plans.specs.declared.fate.Fate.TheVariants.{Committed, Aborted, Refused}

-- the plan ends in a commit, alone or in a group
abbrev pub commits : PlanEnd → Bool
commits end.Commit = true
commits end.Offer = true
commits _ = false

-- a refusal of a call after which its transaction is not tried again
abbrev pub is_final : Reply → Bool
is_final NoTable = true
is_final (NoSave n) = true
is_final SavesFull = true
is_final (LogFull logger held needed) = true
is_final (SlotsFull n) = true
is_final (PagesFull n) = true
is_final _ = false

-- among what a caller was told is such a refusal of one of the plan's calls
abbrev pub IsRefusedAs : List (Call × Reply) → Plan → Reply → Type 0
IsRefusedAs told plan reply = (asked : TableCall) × Contains plan.calls asked × Contains told (Table asked, reply) × IsTrue (is_final reply)

-- a transaction is this plan, which ends in a commit: it has just its calls, in order
abbrev pub IsDoneAs : Plan → Done → Type 0
IsDoneAs plan done = IsTrue (commits plan.end) × (map (λ (entry : TableCall × Reply). entry.0) done.calls ≡ plan.calls)

-- A caller that was told this has these transactions in the history, and these in doubt: those of its plans that were told as committed, in order,
-- each once, and under the number that was told. It was told of the first plans. Of the next one, in which it was stopped, it may have one more,
-- in doubt or, if it was offered, committed by another's settle. A plan is aborted only if it does not end in a commit.
abbrev pub AreFated : List (Call × Reply) → List Plan → List Fate → (mine doubt : List Done) → Type 0
AreFated told [] [] mine doubt = mine ++ doubt ≡ []
AreFated told [] (fate ∷ fates) mine doubt = ⊥
AreFated told (plan ∷ plans) [] mine doubt = (mine ++ doubt ≡ []) ⊎ ((done : Done) × (mine ++ doubt ≡ done ∷ []) × IsDoneAs plan done × (plan.end ≡ end.Commit → mine ≡ []))
AreFated told (plan ∷ plans) (Committed at ∷ fates) mine doubt = (done : Done) × (behind : List Done) × (mine ≡ done ∷ behind) × (done.at ≡ at) × IsDoneAs plan done × AreFated told plans fates behind doubt
AreFated told (plan ∷ plans) (Aborted ∷ fates) mine doubt = IsFalse (commits plan.end) × AreFated told plans fates mine doubt
AreFated told (plan ∷ plans) (Refused reply ∷ fates) mine doubt = IsRefusedAs told plan reply × AreFated told plans fates mine doubt
