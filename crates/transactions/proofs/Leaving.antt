-- What one call leaves of the transactions, by what its step comes to.
use Rattle.std.proofs.Common.{◌≡◌, ◌≢◌, ℕ, Bool, true, false, nat_eq, List, [], ◌∷◌, ◌++◌, Option, Some, None, refl, sym, ap, ◌∙◌}
use Rattle.std.specs.Map.{update}
use Rattle.std.specs.FinMap.{get}
use Rattle.std.proofs.lemmas.Bool.{true≢false}
use Rattle.std.proofs.lemmas.Map.{update_apart}
use Rattle.history.specs.Key.{of_table}
use Rattle.history.specs.Table.{Granted, Work, Answers, found, removed}
use Rattle.history.specs.declared.call.Call.{Call}
use Rattle.history.specs.declared.call.Call.TheVariants.{Begin, Table, Control}
use Rattle.history.specs.declared.call.TableCall.{TableCall}
use Rattle.history.specs.declared.call.TableCall.TheVariants.{Get, Put, Del, Scan, Save, Back}
use Rattle.history.specs.declared.call.Control.TheVariants.{Commit, Abort, Offer, Settle}
use Rattle.history.specs.declared.call.Reply.{Reply}
use Rattle.history.specs.declared.call.Reply.TheVariants.{Fine, Found, Absent, Listed, Saved}
use Rattle.caller_steps.specs.Fate.{is_media}
use Rattle.caller_steps.specs.State.{State, unoffered}
use Rattle.caller_steps.specs.Step.{Step}
use Rattle.caller_steps.specs.Core.{CoreView, Continues}
use Rattle.caller_steps.proofs.Fates.{Fate, refused, failed, began, granted, committed, doubted, aborted, given, settled, unsure, told, purged, step_fate}
use Rattle.transactions.specs.Adds.{Stays}
use Rattle.transactions.specs.Tries.{is_begin}
use Rattle.transactions.proofs.Going.{went_one}

-- a call that neither commits nor offers
abbrev pub is_own : Call → Bool
is_own (Control Commit) = false
is_own (Control Offer) = false
is_own (Control Settle) = false
is_own call = true

-- a reply that grants the call
abbrev pub is_answer : Call → Reply → Bool
is_answer Begin Fine = true
is_answer (Table (Get name key)) (Found value) = true
is_answer (Table (Get name key)) Absent = true
is_answer (Table (Put name key value)) Fine = true
is_answer (Table (Del name key)) Fine = true
is_answer (Table (Del name key)) Absent = true
is_answer (Table (Scan name low high)) (Listed rows) = true
is_answer (Table Save) (Saved n) = true
is_answer (Table (Back n)) Fine = true
is_answer (Control Abort) Fine = true
is_answer call reply = false

found_answers : (name : List ℕ) (key : ℕ) (o : Option (List ℕ)) → is_answer (Table (Get name key)) (found o) ≡ true
found_answers name key None = refl
found_answers name key (Some value) = refl

removed_answers : (name : List ℕ) (key : ℕ) (o : Option (List ℕ)) → is_answer (Table (Del name key)) (removed o) ≡ true
removed_answers name key None = refl
removed_answers name key (Some value) = refl

answered : (work : Work) (asked : TableCall) (reply : Reply) → Answers work asked reply → is_answer (Table asked) reply ≡ true
answered work (Get name key) reply is = ap (is_answer (Table (Get name key))) is ∙ found_answers name key (get work.table (of_table name key))
answered work (Put name key value) reply is = ap (is_answer (Table (Put name key value))) is
answered work (Del name key) reply is = ap (is_answer (Table (Del name key))) is ∙ removed_answers name key (get work.table (of_table name key))
answered work (Scan name low high) reply is = ap (is_answer (Table (Scan name low high))) is
answered work Save reply is = ap (is_answer (Table Save)) is
answered work (Back n) reply is = ap (is_answer (Table (Back n))) is.1

-- nothing was committed, nothing came to be in doubt, no other caller's transaction changed, and none was offered
record Left (caller : ℕ) (old new : State) : Type 0 where
  history : new.history ≡ old.history
  doubt : new.doubt ≡ old.doubt
  others : (other : ℕ) → other ≢ caller → new.live other ≡ old.live other
  offers : new.offers ≡ old.offers

module _ (callers : ℕ) (old : State) (caller : ℕ) (call : Call) (reply : Reply) (new : State) (own : is_own call ≡ true) where
  of_other : (other : Call) → is_own other ≡ false → call ≡ other → ⊥
  of_other other out is = true≢false (sym own ∙ ap is_own is ∙ out)

  as_before : (mid : State) → new ≡ mid → mid.history ≡ old.history → mid.doubt ≡ old.doubt → mid.live ≡ old.live → mid.offers ≡ old.offers → Left caller old new
  as_before mid is history doubt live offers = record {
    history = ap (λ (s : State). s.history) is ∙ history;
    doubt = ap (λ (s : State). s.doubt) is ∙ doubt;
    others = λ other apart. ap (λ (s : State). s.live other) is ∙ ap (λ (lives : ℕ → Option Granted). lives other) live;
    offers = ap (λ (s : State). s.offers) is ∙ offers;
  }

  but_live : (calls : Option Granted) (mid : State) → new ≡ mid → mid.history ≡ old.history → mid.doubt ≡ old.doubt → mid.live ≡ update nat_eq old.live caller calls → mid.offers ≡ old.offers → Left caller old new
  but_live calls mid is history doubt live offers = record {
    history = ap (λ (s : State). s.history) is ∙ history;
    doubt = ap (λ (s : State). s.doubt) is ∙ doubt;
    others = λ other apart. ap (λ (s : State). s.live other) is ∙ ap (λ (lives : ℕ → Option Granted). lives other) live ∙ update_apart old.live caller calls other apart;
    offers = ap (λ (s : State). s.offers) is ∙ offers;
  }

  left : Fate callers old caller call reply new → Left caller old new
  left (refused r m index e) = as_before _ e refl refl refl refl
  left (failed c r index e) = as_before _ e refl refl refl refl
  left (began un l c r e) = but_live (Some []) _ e refl refl refl refl
  left (granted asked calls un c l free answers index e) = but_live (Some (calls ++ (asked, reply) ∷ [])) _ e refl refl refl refl
  left (committed calls un c r l index e) = absurd (of_other (Control Commit) refl c)
  left (doubted calls un c r l index e) = absurd (of_other (Control Commit) refl c)
  left (aborted calls un c r l e) = but_live None _ e refl refl refl refl
  left (given calls un c r l e) = absurd (of_other (Control Offer) refl c)
  left (settled inside un c r index e) = absurd (of_other (Control Settle) refl c)
  left (unsure inside un c r index e) = absurd (of_other (Control Settle) refl c)
  left (told n un c r e) = absurd (of_other (Control Settle) refl c)
  left (purged n un l c r index e) = as_before _ e refl refl refl refl

  -- a call that no answer grants leaves the caller's own transaction too
  kept : is_answer call reply ≡ false → Fate callers old caller call reply new → new.live caller ≡ old.live caller
  kept none (refused r m index e) = ap (λ (s : State). s.live caller) e
  kept none (failed c r index e) = ap (λ (s : State). s.live caller) e
  kept none (began un l c r e) = absurd (true≢false (sym (λ i. is_answer (c i) (r i)) ∙ none))
  kept none (granted asked calls un c l free answers index e) = absurd (true≢false (sym (ap (λ (x : Call). is_answer x reply) c ∙ answered _ asked reply answers) ∙ none))
  kept none (committed calls un c r l index e) = absurd (of_other (Control Commit) refl c)
  kept none (doubted calls un c r l index e) = absurd (of_other (Control Commit) refl c)
  kept none (aborted calls un c r l e) = absurd (true≢false (sym (λ i. is_answer (c i) (r i)) ∙ none))
  kept none (given calls un c r l e) = absurd (of_other (Control Offer) refl c)
  kept none (settled inside un c r index e) = absurd (of_other (Control Settle) refl c)
  kept none (unsure inside un c r index e) = absurd (of_other (Control Settle) refl c)
  kept none (told n un c r e) = absurd (of_other (Control Settle) refl c)
  kept none (purged n un l c r index e) = ap (λ (s : State). s.live caller) e

-- a transaction begins where there was none, and none was offered
begins : (callers : ℕ) (old : State) (caller : ℕ) (new : State) → Fate callers old caller Begin Fine new → (old.offers caller ≡ unoffered) × (old.live caller ≡ None)
begins callers old caller new (refused r m index e) = absurd (true≢false (sym r))
begins callers old caller new (failed c r index e) = absurd (true≢false (sym (ap is_media r)))
begins callers old caller new (began un l c r e) = (un, l)
begins callers old caller new (granted asked calls un c l free answers index e) = absurd (true≢false (ap is_begin c))
begins callers old caller new (committed calls un c r l index e) = absurd (true≢false (ap is_own c))
begins callers old caller new (doubted calls un c r l index e) = absurd (true≢false (ap is_own c))
begins callers old caller new (aborted calls un c r l e) = absurd (true≢false (ap is_begin c))
begins callers old caller new (given calls un c r l e) = absurd (true≢false (ap is_own c))
begins callers old caller new (settled inside un c r index e) = absurd (true≢false (ap is_own c))
begins callers old caller new (unsure inside un c r index e) = absurd (true≢false (ap is_own c))
begins callers old caller new (told n un c r e) = absurd (true≢false (ap is_own c))
begins callers old caller new (purged n un l c r index e) = absurd (true≢false (ap is_begin c))

pub stays_one : (caller : ℕ) (old new : CoreView) (call : Call) (reply : Reply) → is_own call ≡ true → Continues old new → Step old.limits old.state caller call reply new.state → Stays caller old new
stays_one caller old new call reply own goes_on step =
    let l = left old.limits.callers old.state caller call reply new.state own (step_fate old.limits old.state caller new.state call reply step) in
    record { goes_on = goes_on; went = went_one caller old new call reply step; history = l.history; doubt = l.doubt; others = l.others; offers = l.offers }

pub keeps_one : (caller : ℕ) (old new : CoreView) (call : Call) (reply : Reply) → is_own call ≡ true → is_answer call reply ≡ false → Step old.limits old.state caller call reply new.state
    → new.state.live caller ≡ old.state.live caller
keeps_one caller old new call reply own none step = kept old.limits.callers old.state caller call reply new.state own none (step_fate old.limits old.state caller new.state call reply step)

pub begins_one : (caller : ℕ) (old new : CoreView) → Step old.limits old.state caller Begin Fine new.state → (old.state.offers caller ≡ unoffered) × (old.state.live caller ≡ None)
begins_one caller old new step = begins old.limits.callers old.state caller new.state (step_fate old.limits old.state caller new.state Begin Fine step)
