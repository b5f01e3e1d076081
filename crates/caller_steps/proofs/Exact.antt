-- Each call has one reply, unless the medium fails or memory runs out.
use Rattle.std.proofs.Common.{◌≡◌, ◌⊎◌, ℕ, inl, inr, Bool, true, false, List, [], ◌∷◌, Option, Some, None, sym, ap, ◌∙◌, arith}
use Rattle.std.proofs.lemmas.Bool.{true≢false, both_ways, cases_order}
use Rattle.history.specs.Table.{Granted, Work, has_save, Answers}
use Rattle.history.specs.declared.call.Call.{Call}
use Rattle.history.specs.declared.call.Call.TheVariants.{Begin, Table, Control}
use Rattle.history.specs.declared.call.TableCall.{TableCall}
use Rattle.history.specs.declared.call.TableCall.TheVariants.{Get, Put, Del, Scan, Save, Back}
use Rattle.history.specs.declared.call.Control.TheVariants.{Commit, Settle, Purge}
use Rattle.history.specs.declared.call.Reply.{Reply}
use Rattle.history.specs.declared.call.Reply.TheVariants.{Busy}
use Rattle.history.specs.Locks.{has_table}
use Rattle.caller_steps.specs.State as state
use Rattle.caller_steps.specs.State.{State, unoffered, offered, unsettled, view_of}
use Rattle.caller_steps.specs.Offers.{offerers}
use Rattle.caller_steps.specs.Locked.{IsFree, IsBusyWith}
use Rattle.caller_steps.specs.Room.{Limits, room_for}
use Rattle.caller_steps.specs.Step.{Asks, Commits, Doubts, StepOf, Step}
use Rattle.caller_steps.specs.Fate.{is_by_chance}
use Rattle.caller_steps.proofs.Able.{ask_refusal, ask_passes}
use Rattle.caller_steps.proofs.Full.{fits_none, lacks_one}

-- the one-thread table has one reply to each call
answers_one : (work : Work) (call : TableCall) (one other : Reply) → Answers work call one → Answers work call other → one ≡ other
answers_one work (Get name key) one other a b = a ∙ sym b
answers_one work (Put name key value) one other a b = a ∙ sym b
answers_one work (Del name key) one other a b = a ∙ sym b
answers_one work (Scan name low high) one other a b = a ∙ sym b
answers_one work Save one other a b = a ∙ sym b
answers_one work (Back n) one other a b = a.1 ∙ sym b.1

-- and only one holder is the lowest
pub busy_one : (old : State) (caller : ℕ) (call : TableCall) (one other : ℕ) → IsBusyWith old caller call one → IsBusyWith old caller call other → one ≡ other
busy_one old caller call one other a b = elim (cases_order one other) [
  | inl is ↦ is
  | inr apart ↦ elim apart [
    | inl less ↦ absurd (b.1 one less a.0)
    | inr more ↦ absurd (a.1 other more b.0)
  ]
]

-- the locks, the table or the full array give the reply
data Ours (limits : Limits) (old : State) (caller : ℕ) (call : TableCall) (reply : Reply) : Type 0 where
  held : (holder : ℕ) → IsBusyWith old caller call holder → reply ≡ Busy holder → Ours limits old caller call reply
  free : IsFree old caller call → Answers (view_of old caller) call reply → room_for limits old caller call None → Ours limits old caller call reply
  refused : IsFree old caller call → room_for limits old caller call (Some reply) → Ours limits old caller call reply

module _ (limits : Limits) (old : State) (caller : ℕ) where
  not_of_array : (reply answer : Reply) (P : Type 0) → is_by_chance reply ≡ false → is_by_chance answer ≡ true → reply ≡ answer → P
  not_of_array reply answer P ours theirs e = absurd (true≢false (sym theirs ∙ sym (ap is_by_chance e) ∙ ours))

  ours : (calls : Granted) (call : TableCall) (reply : Reply) (new : State) → is_by_chance reply ≡ false → Asks limits calls old caller call reply new → Ours limits old caller call reply
  ours calls call reply new ok (inl short) = absurd (true≢false (sym (ap is_by_chance short.0) ∙ ok))
  ours calls call reply new ok (inr (inl is)) = held is.0 is.1 is.2.0
  ours calls call reply new ok (inr (inr (is, inl grants))) = free is grants.0 grants.1
  ours calls call reply new ok (inr (inr (is, inr (inl refuses)))) = refused is refuses.0
  ours calls call reply new ok (inr (inr (is, inr (inr fails)))) = absurd (true≢false (sym (ap is_by_chance fails.1.0) ∙ ok))

  ours_one : (call : TableCall) (one other : Reply) → Ours limits old caller call one → Ours limits old caller call other → one ≡ other
  ours_one call one other (held h busy is) (held k busy' is') = is ∙ ap Busy (busy_one old caller call h k busy busy') ∙ sym is'
  ours_one call one other (held h busy is) (free is' answers fits) = absurd (is' h busy.0)
  ours_one call one other (held h busy is) (refused is' lacks) = absurd (is' h busy.0)
  ours_one call one other (free is answers fits) (held h busy is') = absurd (is h busy.0)
  ours_one call one other (refused is lacks) (held h busy is') = absurd (is h busy.0)
  ours_one call one other (free is answers fits) (free is' answers' fits') = answers_one (view_of old caller) call one other answers answers'
  ours_one call one other (free is answers fits) (refused is' lacks) = absurd (fits_none limits old caller call other fits lacks)
  ours_one call one other (refused is lacks) (free is' answers fits) = absurd (fits_none limits old caller call one fits lacks)
  ours_one call one other (refused is lacks) (refused is' lacks') = lacks_one limits old caller call one other lacks lacks'

  asks_one : (calls : Granted) (call : TableCall) (one other : Reply) (new next : State) → is_by_chance one ≡ false → is_by_chance other ≡ false
      → Asks limits calls old caller call one new → Asks limits calls old caller call other next → one ≡ other
  asks_one calls call one other new next ok ok' a b = ours_one call one other (ours calls call one new ok a) (ours calls call other next ok' b)

  commits_one : (group : List ℕ) (one other : Reply) (new next : State) → is_by_chance one ≡ false → is_by_chance other ≡ false
      → Commits group old caller one new ⊎ Doubts group old one new → Commits group old caller other next ⊎ Doubts group old other next → one ≡ other
  commits_one group one other new next ok ok' (inl a) (inl b) = a.0 ∙ sym b.0
  commits_one group one other new next ok ok' (inr a) b = absurd (true≢false (sym (ap is_by_chance a.1) ∙ ok))
  commits_one group one other new next ok ok' (inl a) (inr b) = absurd (true≢false (sym (ap is_by_chance b.1) ∙ ok'))

  one_of : (dead : Bool) (offer : state.Offer) (live : Option Granted) (call : Call) (one other : Reply) (new next : State) → is_by_chance one ≡ false → is_by_chance other ≡ false
      → StepOf limits dead offer live old caller call one new → StepOf limits dead offer live old caller call other next → one ≡ other
  one_of true offer live call one other new next ok ok' a b = a.0 ∙ sym b.0
  one_of false unoffered None Begin one other new next ok ok' a b = a.0 ∙ sym b.0
  one_of false unoffered None (Control Purge) one other new next ok ok' (inl a) b = absurd (true≢false (sym (ap is_by_chance a.1) ∙ ok))
  one_of false unoffered None (Control Purge) one other new next ok ok' (inr a) b = absurd (true≢false (sym (ap is_by_chance a.0) ∙ ok))
  one_of false unoffered None _ one other new next ok ok' a b = a.0 ∙ sym b.0
  one_of false unoffered (Some calls) (Control Commit) one other new next ok ok' (inl a) b = absurd (true≢false (sym (ap is_by_chance a.0) ∙ ok))
  one_of false unoffered (Some calls) (Control Commit) one other new next ok ok' (inr a) (inl b) = absurd (true≢false (sym (ap is_by_chance b.0) ∙ ok'))
  one_of false unoffered (Some calls) (Control Commit) one other new next ok ok' (inr a) (inr b) = commits_one (caller ∷ []) one other new next ok ok' a b
  one_of false unoffered (Some calls) (Table call) one other new next ok ok' (inl a) (inl b) = ask_refusal old caller call one a.0 ∙ sym (ask_refusal old caller call other b.0)
  one_of false unoffered (Some calls) (Table call) one other new next ok ok' (inl a) (inr b) = absurd (ask_passes old caller call one b.0 a.0)
  one_of false unoffered (Some calls) (Table call) one other new next ok ok' (inr a) (inl b) = absurd (ask_passes old caller call other a.0 b.0)
  one_of false unoffered (Some calls) (Table call) one other new next ok ok' (inr a) (inr b) = asks_one calls call one other new next ok ok' a.1 b.1
  one_of false unoffered (Some calls) _ one other new next ok ok' a b = a.0 ∙ sym b.0
  one_of false offered live (Control Settle) one other new next ok ok' (inl a) b = absurd (true≢false (sym (ap is_by_chance a.0) ∙ ok))
  one_of false offered live (Control Settle) one other new next ok ok' (inr a) (inl b) = absurd (true≢false (sym (ap is_by_chance b.0) ∙ ok'))
  one_of false offered live (Control Settle) one other new next ok ok' (inr a) (inr b) = commits_one (offerers limits.callers old) one other new next ok ok' a.1 b.1
  one_of false offered live _ one other new next ok ok' a b = a.0 ∙ sym b.0
  one_of false (unsettled n) live (Control Settle) one other new next ok ok' a b = a.0 ∙ sym b.0
  one_of false (unsettled n) live _ one other new next ok ok' a b = a.0 ∙ sym b.0

  -- Two replies to a call in one state are equal, except for `Media`, `NoMemory` and the count of a purge.
  pub one_reply : (call : Call) (one other : Reply) (new next : State) → is_by_chance one ≡ false → is_by_chance other ≡ false
      → Step limits old caller call one new → Step limits old caller call other next → one ≡ other
  one_reply call one other new next ok ok' a b = one_of old.is_dead (old.offers caller) (old.live caller) call one other new next ok ok' a.acts b.acts
