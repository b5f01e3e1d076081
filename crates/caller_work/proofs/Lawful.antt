-- What each reply that a caller is told shows of its own transactions.
use Rattle.std.proofs.Common.{◌≡◌, ◌≢◌, ◌⊎◌, inl, inr, ℕ, Bool, true, false, List, [], ◌∷◌, ◌++◌, Option, Some, None, refl, sym, ap, ◌∙◌, subst}
use Rattle.std.specs.Prelude.{not, if◌then◌else◌, Contains}
use Rattle.std.specs.List.{fold}
use Rattle.std.specs.FinMap.{get}
use mathlib.Core.Logic.{dite}
use native.Mathlib.Decide.{ℕ_discrete}
use Rattle.std.proofs.lemmas.Bool.{true≢false}
use Rattle.std.proofs.lemmas.List.Elements.{Contains-append_left, Contains-append_right}
use Rattle.mars_manager.proofs.Asking.{one_here}
use Rattle.history.specs.Key.{of_table}
use Rattle.history.specs.Table.{Granted, Work, found, removed, Answers}
use Rattle.history.specs.declared.call.Call.{Call}
use Rattle.history.specs.declared.call.Call.TheVariants.{Begin, Table, Control}
use Rattle.history.specs.declared.call.TableCall.{TableCall}
use Rattle.history.specs.declared.call.TableCall.TheVariants.{Get, Put, Del, Scan, Save, Back}
use Rattle.history.specs.declared.call.Control.TheVariants.{Commit, Settle}
use Rattle.history.specs.declared.call.Reply.{Reply}
use Rattle.history.specs.declared.call.Reply.TheVariants as says
use Rattle.caller_steps.specs.State as state
use Rattle.caller_steps.specs.State.{State, Index, unoffered, view_of}
use Rattle.caller_steps.specs.Room.{Limits}
use Rattle.caller_steps.specs.Step.{Asks, StepOf, Step, Runs}
use Rattle.caller_steps.specs.Fate.{is_refusal, is_busy, is_committed}
use Rattle.caller_steps.specs.Run.{Turn, Heard, turns_of}
use Rattle.caller_steps.specs.Own.{Own, own_after, live_in, KnowsLive}
use Rattle.caller_steps.proofs.Able.{refusal_of, ask_refusal}
use Rattle.caller_steps.proofs.Lacking.{Lacking, room_lacks}
use Rattle.caller_steps.proofs.Lacking.Lacking.{no_slot, no_page, no_entry}
use Rattle.caller_steps.proofs.Fates.{Fate as Moved, step_fate, refusal_none, answer_plain}
use Rattle.caller_steps.proofs.Fates.Fate.{refused, failed, began, granted, committed, doubted, aborted, given, settled, unsure, told as numbered, purged}
use Rattle.caller_steps.proofs.Running.{line_here, line_apart, goes_of_step}
use Rattle.caller_steps.proofs.Owning.{live_goes, live_other}
use Rattle.mars_manager.specs.Locks.{steps_of}
use Rattle.caller_work.specs.Tries.{is_last}
use Rattle.caller_work.specs.Fated.{is_final}
use Rattle.caller_work.specs.Asked.{AreOnTables}

pub pick_false : {X : Type 0} (b : Bool) (x y : X) → b ≡ false → (if b then x else y) ≡ y
pick_false true x y e = absurd (true≢false e)
pick_false false x y e = refl

-- what may refuse a call on a table within a transaction
abbrev pub IsKind : Reply → Type 0
IsKind reply = (is_last reply ≡ true) ⊎ ((is_busy reply ≡ true) ⊎ (is_final reply ≡ true))

-- What a reply shows of its caller's transactions: only a commit or a settle is answered with a number of the history; a begin outside of any
-- transaction, and a call on a table within one, are refused only so.
pub record IsLawful (own : Own) (entry : Call × Reply) : Type 0 where
  pub commits : is_committed entry.1 ≡ true → (entry.0 ≡ Control Commit) ⊎ (entry.0 ≡ Control Settle)
  pub begins : entry.0 ≡ Begin → own.live ≡ None → own.waits ≡ false → is_refusal entry.1 ≡ true → is_last entry.1 ≡ true
  pub asks : (asked : TableCall) (all : Granted) → entry.0 ≡ Table asked → own.live ≡ Some all → own.waits ≡ false → is_refusal entry.1 ≡ true → IsKind entry.1

-- the same of a reply that may be a `Busy`, which comes of a call on a table
pub record IsSaid (own : Own) (entry : Call × Reply) : Type 0 where
  pub lawful : IsLawful own entry
  pub busy : is_busy entry.1 ≡ true → (asked : TableCall) × (entry.0 ≡ Table asked)

-- a step that answers so is a commit or a settle
step_commits : (limits : Limits) (old new : State) (caller : ℕ) (call : Call) (reply : Reply) → Step limits old caller call reply new → is_committed reply ≡ true → (call ≡ Control Commit) ⊎ (call ≡ Control Settle)
step_commits limits old new caller call reply step sure = go (step_fate limits old caller new call reply step)
  where
    go : Moved limits.callers old caller call reply new → (call ≡ Control Commit) ⊎ (call ≡ Control Settle)
    go (refused not media index e) = absurd (true≢false (sym sure ∙ refusal_none reply not))
    go (failed apart is index e) = absurd (true≢false (sym sure ∙ ap is_committed is))
    go (began un none c is e) = absurd (true≢false (sym sure ∙ ap is_committed is))
    go (granted asked calls un is live unheld answers index e) = absurd (true≢false (sym sure ∙ (answer_plain _ asked reply answers).uncommitted))
    go (committed calls un c is live index e) = inl c
    go (doubted calls un c is live index e) = inl c
    go (aborted calls un c is live e) = absurd (true≢false (sym sure ∙ ap is_committed is))
    go (given calls un c is live e) = absurd (true≢false (sym sure ∙ ap is_committed is))
    go (settled inside has c is index e) = inr c
    go (unsure inside has c is index e) = inr c
    go (numbered n has c is e) = inr c
    go (purged n un live c is index e) = absurd (true≢false (sym sure ∙ ap is_committed is))

found_done : (o : Option (List ℕ)) → is_refusal (found o) ≡ false
found_done None = refl
found_done (Some value) = refl

removed_done : (o : Option (List ℕ)) → is_refusal (removed o) ≡ false
removed_done None = refl
removed_done (Some value) = refl

-- the one-thread table refuses nothing
answered_done : (work : Work) (call : TableCall) (reply : Reply) → Answers work call reply → is_refusal reply ≡ false
answered_done work (Get name key) reply answers = ap is_refusal answers ∙ found_done (get work.table (of_table name key))
answered_done work (Put name key value) reply answers = ap is_refusal answers
answered_done work (Del name key) reply answers = ap is_refusal answers ∙ removed_done (get work.table (of_table name key))
answered_done work (Scan name low high) reply answers = ap is_refusal answers
answered_done work Save reply answers = ap is_refusal answers
answered_done work (Back n) reply answers = ap is_refusal answers.1

-- the refusals of an array that is full, and those of a call that its transaction or its table does not let be
lack_final : (limits : Limits) (index : Index) (slot : Option ℕ) (reply : Reply) → Lacking limits index slot reply → is_final reply ≡ true
lack_final limits index slot reply (no_slot none full e) = ap is_final e
lack_final limits index slot reply (no_page none e) = ap is_final e
lack_final limits index slot reply (no_entry g h n e) = ap is_final e

ask_final : (call : TableCall) → is_final (refusal_of call) ≡ true
ask_final Save = refl
ask_final (Back n) = refl
ask_final call = refl

kind_asks : (limits : Limits) (old new : State) (caller : ℕ) (reply : Reply) → is_refusal reply ≡ true → (calls : Granted) (asked : TableCall) → Asks limits calls old caller asked reply new → IsKind reply
kind_asks limits old new caller reply refusal calls asked (inl short) = inl (ap is_last short.0)
kind_asks limits old new caller reply refusal calls asked (inr (inl held)) = inr (inl (ap is_busy held.2.0))
kind_asks limits old new caller reply refusal calls asked (inr (inr (free, inl (answers, fits, index, indexes, e)))) = absurd (true≢false (sym refusal ∙ answered_done (view_of old caller) asked reply answers))
kind_asks limits old new caller reply refusal calls asked (inr (inr (free, inr (inl (lacks, index, indexes, e))))) =
    let why = room_lacks limits old caller asked reply lacks in inr (inr (lack_final limits old.index why.0 reply why.1))
kind_asks limits old new caller reply refusal calls asked (inr (inr (free, inr (inr (uses, (re, index, e)))))) = inl (ap is_last re)

module _ (limits : Limits) (old new : State) (caller : ℕ) (own : Own) (call : Call) (reply : Reply) (step : Step limits old caller call reply new) (knows : KnowsLive caller own old) where
  -- of a caller that has offered nothing: the medium has failed, or it is a step by what is live of it
  by_live : (live : Option Granted) → own.live ≡ live → own.waits ≡ false → (reply ≡ says.Dead) ⊎ StepOf limits false unoffered live old caller call reply new
  by_live live is idle = go old.is_dead step.acts
    where
      open_is : old.offers caller ≡ unoffered
      open_is = knows.none idle

      live_is : old.live caller ≡ live
      live_is = knows.live ∙ ap (live_in own) open_is ∙ pick_false own.waits None own.live idle ∙ is

      go : (dead : Bool) → StepOf limits dead (old.offers caller) (old.live caller) old caller call reply new → (reply ≡ says.Dead) ⊎ StepOf limits false unoffered live old caller call reply new
      go true said = inl said.0
      go false acts = inr (subst (λ (x : state.Offer × Option Granted). StepOf limits false x.0 x.1 old caller call reply new) (λ i. (open_is i, live_is i)) acts)

  begun : call ≡ Begin → own.live ≡ None → own.waits ≡ false → is_refusal reply ≡ true → is_last reply ≡ true
  begun same none idle refusal = go (by_live None none idle)
    where
      go : (reply ≡ says.Dead) ⊎ StepOf limits false unoffered None old caller call reply new → is_last reply ≡ true
      go (inl dead) = ap is_last dead
      go (inr at) =
          let fine : reply ≡ says.Fine = (subst (λ (c : Call). StepOf limits false unoffered None old caller c reply new) same at).0 in
          absurd (true≢false (sym refusal ∙ ap is_refusal fine))

  asked_so : (asked : TableCall) (all : Granted) → call ≡ Table asked → own.live ≡ Some all → own.waits ≡ false → is_refusal reply ≡ true → IsKind reply
  asked_so asked all same live idle refusal = go (by_live (Some all) live idle)
    where
      within : StepOf limits false unoffered (Some all) old caller (Table asked) reply new → IsKind reply
      within (inl (bad, e)) = inr (inr (ap is_final (ask_refusal old caller asked reply bad) ∙ ask_final asked))
      within (inr (fine, a)) = kind_asks limits old new caller reply refusal all asked a

      go : (reply ≡ says.Dead) ⊎ StepOf limits false unoffered (Some all) old caller call reply new → IsKind reply
      go (inl dead) = inl (ap is_last dead)
      go (inr at) = within (subst (λ (c : Call). StepOf limits false unoffered (Some all) old caller c reply new) same at)

  lawful_step : IsLawful own (call, reply)
  lawful_step = record { commits = step_commits limits old new caller call reply step; begins = begun; asks = asked_so }

busy_is : (reply : Reply) → is_busy reply ≡ true → (holder : ℕ) × (reply ≡ says.Busy holder)
busy_is (says.Busy holder) e = (holder, refl)
busy_is reply e = absurd (true≢false (sym e))

begin_apart : (call : Call) (asked : TableCall) → call ≡ Begin → call ≡ Table asked → ⊥
begin_apart call asked same on = cc

module _ (caller : ℕ) where
  -- so it is of each of these turns, and of all that a caller was told
  abbrev pub AreLawful : Own → Heard → Type 0
  AreLawful own [] = Unit {0}
  AreLawful own (entry ∷ told) = IsLawful own entry × AreLawful (own_after caller own entry) told

  abbrev pub AreSaid : Own → Heard → Type 0
  AreSaid own [] = Unit {0}
  AreSaid own (entry ∷ told) = IsSaid own entry × AreSaid (own_after caller own entry) told

  pub both_parts : (own : Own) (xs ys : Heard) → AreSaid own (xs ++ ys) → AreSaid own xs × AreSaid (fold (own_after caller) own xs) ys
  both_parts own [] ys all = (tt, all)
  both_parts own (entry ∷ xs) ys (one, all) = let both = both_parts (own_after caller own entry) xs ys all in ((one, both.0), both.1)

  -- Each turn of a run is lawful,
  pub lawful_run : (limits : Limits) (turns : List Turn) (first now : State) (own : Own) → Runs limits first turns now → KnowsLive caller own first → AreLawful own (turns_of caller turns)
  lawful_run limits [] first now own run knows = tt
  lawful_run limits (turn ∷ turns) first now own (mid, step, run) knows = dite (ℕ_discrete turn.0 caller)
      (λ (same : turn.0 ≡ caller).
      let its = subst (λ (n : ℕ). Step limits first n turn.1 turn.2 mid) same step in
      let next = live_goes limits first caller mid own turn.1 turn.2 true (goes_of_step limits first caller turn.1 turn.2 mid its) (inl refl) knows in
      subst (λ (l : Heard). AreLawful own l) (sym (subst (λ (n : ℕ). turns_of n (turn ∷ turns) ≡ (turn.1, turn.2) ∷ turns_of n turns) same (line_here turn.0 turn.1 turn.2 turns)))
      (lawful_step limits first mid caller own turn.1 turn.2 its knows, lawful_run limits turns mid now (own_after caller own (turn.1, turn.2)) run next))
      (λ (ne : turn.0 ≢ caller).
      subst (λ (l : Heard). AreLawful own l) (sym (line_apart caller turn turns ne))
      (lawful_run limits turns mid now own run (live_other limits first caller mid own turn (λ e. ne (sym e)) true (goes_of_step limits first turn.0 turn.1 turn.2 mid step) knows)))

  -- and so is a `Busy`, which changes nothing of a caller's transactions.
  lawful_at : (own : Own) (call : Call) (reply : Reply) (told : Heard) (b : Bool) → is_busy reply ≡ b → AreOnTables ((call, reply) ∷ told) → ((own : Own) → AreLawful own (steps_of told) → AreSaid own told)
      → AreLawful own (if not b then (call, reply) ∷ steps_of told else steps_of told) → AreSaid own ((call, reply) ∷ told)
  lawful_at own call reply told true e tables rest all =
      let busy = busy_is reply e in
      let on = tables call busy.0 (Contains-append_left ((call, reply) ∷ []) told (call, says.Busy busy.0) (subst (λ (r : Reply). Contains {X = Call × Reply} ((call, reply) ∷ []) (call, r)) busy.1 (one_here (call, reply)))) in
      subst (λ (r : Reply). AreSaid own ((call, r) ∷ told)) (sym busy.1) (
        record {
          lawful = record { commits = λ sure. absurd (true≢false (sym sure)); begins = λ same none idle refusal. absurd (begin_apart call on.0 same on.1); asks = λ asked all same live idle refusal. inr (inl refl) };
          busy = λ _. on;
        },
        rest own all,
      )
  lawful_at own call reply told false e tables rest all = (record { lawful = all.0; busy = λ is. absurd (true≢false (sym is ∙ e)) }, rest (own_after caller own (call, reply)) all.1)

  pub steps_said : (told : Heard) (own : Own) → AreOnTables told → AreLawful own (steps_of told) → AreSaid own told
  steps_said [] own tables all = tt
  steps_said ((call, reply) ∷ told) own tables all =
      lawful_at own call reply told (is_busy reply) refl tables (λ own' all'. steps_said told own' (λ c holder there. tables c holder (Contains-append_right ((call, reply) ∷ []) told (c, says.Busy holder) there)) all') all
