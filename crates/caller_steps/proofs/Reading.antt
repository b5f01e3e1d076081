-- What a run leaves in which no turn asks to write.
use Rattle.std.proofs.Common.{◌≡◌, ◌⊎◌, ℕ, zero, suc, inl, inr, Bool, true, false, ◌||◌, List, [], ◌∷◌, ◌++◌, take, length, Option, Some, None, unwrap_or, refl, sym, ap, subst, ◌∙◌}
use Rattle.std.specs.Prelude.{if◌then◌else◌}
use Rattle.std.proofs.lemmas.Bool.{cases_eq, true≢false}
use Rattle.history.specs.Writes.{Write}
use Rattle.history.specs.Table.{Granted, has_save}
use Rattle.history.specs.Log.{Log, save_at, log_after, log_of}
use Rattle.history.specs.declared.call.Call.{Call}
use Rattle.history.specs.declared.call.Call.TheVariants.{Table, Control}
use Rattle.history.specs.declared.call.TableCall.{TableCall}
use Rattle.history.specs.declared.call.TableCall.TheVariants.{Put, Del, Save, Back}
use Rattle.history.specs.declared.call.Control.TheVariants.{Commit, Offer, Settle, Purge}
use Rattle.history.specs.declared.call.Reply.{Reply}
use Rattle.history.proofs.OneMore.{log_of-push}
use Rattle.history.proofs.Saves.{save_is_front}
use Rattle.caller_steps.specs.State as state
use Rattle.caller_steps.specs.State.{State, Index, unoffered, offered, unsettled, calls_of}
use Rattle.caller_steps.specs.Offers.{offerers, group_writes}
use Rattle.caller_steps.specs.Room.{Limits, Indexes}
use Rattle.caller_steps.specs.Step.{Says, Asks, StepOf, Step, Runs}
use Rattle.caller_steps.specs.Fate.{is_refusal, is_media, live_with, Stays, EndsWith, Moves}
use Rattle.caller_steps.specs.Run.{Turn, is_write, has_write}
use Rattle.caller_steps.proofs.Fates.{step_moves}
use Rattle.caller_steps.proofs.Running.{turns_dead, turns_of_runs}

-- the calls have written nothing
abbrev HasNone : Granted → Type 0
HasNone calls = (log_of calls).writes ≡ []

either : (a b : Bool) → (a || b) ≡ false → (a ≡ false) × (b ≡ false)
either false b e = (refl, e)
either true b e = absurd (true≢false e)

front_of_none : (front whole : List Write) → take (length front) whole ≡ front → whole ≡ [] → front ≡ []
front_of_none front whole is none = sym is ∙ ap (take (length front)) none ∙ take_none (length front)
  where
    take_none : (n : ℕ) → ◌≡◌ {A = List Write} (take n []) []
    take_none zero = refl
    take_none (suc n) = refl

module _ (calls : Granted) (none : HasNone calls) where
  back_none : (n : ℕ) (b : Bool) → has_save (log_of calls).saved n ≡ b
      → (if b then (record { writes = save_at (log_of calls).saved n; saved = take n (log_of calls).saved }) else log_of calls).writes ≡ []
  back_none n true is = front_of_none (save_at (log_of calls).saved n) (log_of calls).writes (save_is_front calls n is).is none
  back_none n false is = none

  log_none : (asked : TableCall) (reply : Reply) → is_write (Table asked) ≡ false → (log_after (log_of calls) asked reply).writes ≡ []
  log_none (Put name key value) reply reads = absurd (true≢false reads)
  log_none (Del name key) reply reads = absurd (true≢false reads)
  log_none (Back n) reply reads = back_none n (has_save (log_of calls).saved n) refl
  log_none _ reply reads = none

  live_none : (call : Call) (reply : Reply) → is_write call ≡ false → HasNone (unwrap_or (live_with calls call reply) [])
  live_none (Table asked) reply reads = ap (λ (l : Log). l.writes) (log_of-push calls asked reply) ∙ log_none asked reply reads
  live_none (Control Offer) reply reads = none
  live_none _ reply reads = refl

module _ (limits : Limits) (old : State) (caller : ℕ) (new : State) (alive : new.is_dead ≡ false) where
  said : (answer reply : Reply) → Says answer old reply new → new.index ≡ old.index
  said answer reply s = ap (λ (s : State). s.index) s.1

  asked : (calls : Granted) (call : TableCall) (reply : Reply) → ((index : Index) → Indexes limits call reply old.index index → index ≡ old.index) → Asks limits calls old caller call reply new → new.index ≡ old.index
  asked calls call reply same (inl short) = ap (λ (s : State). s.index) short.1
  asked calls call reply same (inr (inl held)) = ap (λ (s : State). s.index) held.2.1
  asked calls call reply same (inr (inr (free, inl (answers, fits, index, indexes, e)))) = ap (λ (s : State). s.index) e ∙ same index indexes
  asked calls call reply same (inr (inr (free, inr (inl (lacks, index, indexes, e))))) = ap (λ (s : State). s.index) e ∙ same index indexes
  asked calls call reply same (inr (inr (free, inr (inr (uses, (re, index, e)))))) = absurd (true≢false (sym (ap (λ (s : State). s.is_dead) e) ∙ alive))

  within : (calls : Granted) (call : TableCall) (reply : Reply) → is_write (Table call) ≡ false → Asks limits calls old caller call reply new → new.index ≡ old.index
  within calls (Put name key value) reply reads a = absurd (true≢false reads)
  within calls call reply reads a = asked calls call reply (λ index same. same) a

  -- a group of transactions that have written nothing has written nothing
  group_none : (callers : List ℕ) → ((other : ℕ) → HasNone (calls_of old other)) → group_writes old callers ≡ []
  group_none [] none = refl
  group_none (first ∷ callers) none = (λ i. none first i ++ group_writes old callers) ∙ group_none callers none

  read_of : (dead : Bool) (offer : state.Offer) (live : Option Granted) (call : Call) (reply : Reply) → ((other : ℕ) → HasNone (calls_of old other)) → is_write call ≡ false
      → StepOf limits dead offer live old caller call reply new → new.index ≡ old.index
  read_of true offer live call reply none reads s = ap (λ (s : State). s.index) s.1
  read_of false offer live (Control Purge) reply none reads s = absurd (true≢false reads)
  read_of false unoffered None _ reply none reads s = ap (λ (s : State). s.index) s.1
  read_of false unoffered (Some calls) (Table call) reply none reads (inl (bad, e)) = ap (λ (s : State). s.index) e
  read_of false unoffered (Some calls) (Table call) reply none reads (inr (fine, a)) = within calls call reply reads a
  read_of false unoffered (Some calls) (Control Commit) reply none reads (inl short) = ap (λ (s : State). s.index) short.1
  read_of false unoffered (Some calls) (Control Commit) reply none reads (inr (inl (re, index, settles, e))) = ap (λ (s : State). s.index) e ∙ settles.none (group_none (caller ∷ []) none)
  read_of false unoffered (Some calls) (Control Commit) reply none reads (inr (inr (wrote, re, index, e))) = absurd (true≢false (sym (ap (λ (s : State). s.is_dead) e) ∙ alive))
  read_of false unoffered (Some calls) _ reply none reads s = ap (λ (s : State). s.index) s.1
  read_of false offered live (Control Settle) reply none reads (inl short) = ap (λ (s : State). s.index) short.1
  read_of false offered live (Control Settle) reply none reads (inr (inside, inl (re, index, settles, e))) = ap (λ (s : State). s.index) e ∙ settles.none (group_none (offerers limits.callers old) none)
  read_of false offered live (Control Settle) reply none reads (inr (inside, inr (wrote, re, index, e))) = absurd (true≢false (sym (ap (λ (s : State). s.is_dead) e) ∙ alive))
  read_of false offered live _ reply none reads s = ap (λ (s : State). s.index) s.1
  read_of false (unsettled n) live (Control Settle) reply none reads s = ap (λ (s : State). s.index) s.1
  read_of false (unsettled n) live _ reply none reads s = ap (λ (s : State). s.index) s.1

  -- a step leaves the index and the data
  step_reads : (call : Call) (reply : Reply) → ((other : ℕ) → HasNone (calls_of old other)) → is_write call ≡ false → Step limits old caller call reply new → new.index ≡ old.index
  step_reads call reply none reads s = read_of old.is_dead (old.offers caller) (old.live caller) call reply none reads s.acts

  -- and nothing is written by a live transaction
  step_none : (call : Call) (reply : Reply) → ((other : ℕ) → HasNone (calls_of old other)) → is_write call ≡ false → Step limits old caller call reply new → (other : ℕ) → HasNone (calls_of new other)
  step_none call reply none reads s other = elim (cases_eq other caller) [
    | inl e ↦ subst (λ (o : ℕ). HasNone (calls_of new o)) (sym e) (own (is_refusal reply) refl)
    | inr ne ↦ apart (moves.others other ne)
  ]
    where
      moves : Moves limits.callers old caller call reply new
      moves = step_moves limits old caller call reply new s

      apart : Stays old new other ⊎ EndsWith limits.callers old caller call reply new other → HasNone (calls_of new other)
      apart (inl stays) = subst (λ (o : Option Granted). HasNone (unwrap_or o [])) (sym stays.live) (none other)
      apart (inr ends) = subst (λ (o : Option Granted). HasNone (unwrap_or o [])) (sym ends.live) refl

      own : (b : Bool) → is_refusal reply ≡ b → HasNone (calls_of new caller)
      own true refusal = subst (λ (f : ℕ → Option Granted). HasNone (unwrap_or (f caller) [])) (sym (moves.refused refusal (either old.is_dead (is_media reply) (sym moves.dead ∙ alive)).1).0) (none caller)
      own false done = subst (λ (o : Option Granted). HasNone (unwrap_or o [])) (sym (moves.own done).0) (live_none (calls_of old caller) (none caller) call reply reads)

module _ (limits : Limits) where
  pub alive_first : (first now : State) (turns : List Turn) → Runs limits first turns now → now.is_dead ≡ false → first.is_dead ≡ false
  alive_first first now turns runs alive = (either first.is_dead _ (sym (turns_dead true limits first now turns (turns_of_runs limits first now turns runs)) ∙ alive)).0

  runs_read : (first now : State) (turns : List Turn) → Runs limits first turns now → ((caller : ℕ) → HasNone (calls_of first caller)) → has_write turns ≡ false → now.is_dead ≡ false → now.index ≡ first.index
  runs_read first now [] runs none reads alive = ap (λ (s : State). s.index) runs
  runs_read first now (turn ∷ turns) runs none reads alive =
      let living = alive_first runs.0 now turns runs.2 alive in
      let both = either (is_write turn.1) (has_write turns) reads in
      runs_read runs.0 now turns runs.2 (step_none limits first turn.0 runs.0 living turn.1 turn.2 none both.0 runs.1) both.1 alive
      ∙ step_reads limits first turn.0 runs.0 living turn.1 turn.2 none both.0 runs.1

  pub reads_leave : (first now : State) (turns : List Turn) → Runs limits first turns now → ((caller : ℕ) → first.live caller ≡ None) → has_write turns ≡ false → now.is_dead ≡ false → now.index ≡ first.index
  reads_leave first now turns runs fresh reads alive =
      runs_read first now turns runs (λ caller. subst (λ (o : Option Granted). HasNone (unwrap_or o [])) (sym (fresh caller)) refl) reads alive
