-- What a step comes to: the call is refused, or it begins, extends or ends the caller's transaction. And what follows from that.
use Rattle.history.specs.declared.transaction.Done.{Done}
use Rattle.std.proofs.Common.{◌≡◌, ◌⊎◌, ◌<◌, ◌||◌, Bool, ◌≢◌, ℕ, inl, inr, true, false, nat_eq, List, [], ◌∷◌, ◌++◌, ◌+◌, length, Option, Some, None, unwrap_or, refl, sym, ap, ◌∙◌}
use Rattle.std.specs.Map.{update}
use Rattle.std.specs.FinMap.{get}
use Rattle.std.proofs.lemmas.Map.{update_here, update_apart}
use Rattle.std.specs.Prelude.{not, if◌then◌else◌}
use Rattle.std.proofs.lemmas.Bool.{true≢false, cond-true, cond-false, cases_Bool}
use Rattle.std.proofs.lemmas.List.{append-nil}
use Rattle.history.specs.Key.{of_table}
use Rattle.history.specs.declared.key.Key.{Key}
use Rattle.history.specs.Table.{Granted, Work, found, removed, Answers}
use Rattle.history.specs.declared.call.Call.{Call}
use Rattle.history.specs.declared.call.Call.TheVariants.{Begin, Table, Control}
use Rattle.history.specs.declared.call.TableCall.{TableCall}
use Rattle.history.specs.declared.call.TableCall.TheVariants.{Get, Put, Del, Scan, Save, Back}
use Rattle.history.specs.declared.call.Control.TheVariants.{Commit, Abort, Offer, Settle, Purge}
use Rattle.history.specs.declared.call.Reply.{Reply}
use Rattle.history.specs.declared.call.Reply.TheVariants.{Fine, Committed, Purged, NoTransaction, NoTable, Already, NoSave, SavesFull, Busy, LogFull, SlotsFull, PagesFull, Media, Dead, NoMemory}
use Rattle.caller_steps.specs.State as state
use Rattle.caller_steps.specs.State.{State, Index, unoffered, offered, unsettled, offers_with, calls_of, commits_of, view_of, with_live, with_offer, done_by}
use Rattle.caller_steps.specs.Offers.{is_offered, is_unoffered, may_do, offerers, group_in, group_end, group_done, number_among, committed_group, doubted_group}
use Rattle.caller_steps.specs.Locked.{IsFree}
use Rattle.caller_steps.specs.Room.{Limits}
use Rattle.caller_steps.proofs.Lacking.{room_lacks, lacking_of_array}
use Rattle.caller_steps.proofs.Alone.{commits_alone, doubts_alone}
use Rattle.caller_steps.proofs.Offering.{offers_here, offers_apart, is_in, more_theirs, group_without, group_with, group_mine, offerers_once, offerer_has, offerer_is, group_history, group_names, group_base, group_dead, group_apart, group_ends, without_history, without_names, without_base, without_apart, without_ends}
use Rattle.caller_steps.proofs.Able.{takes_within, free_outside, refusal_of, ask_refusal, ask_plain}
use Rattle.caller_steps.specs.Step.{Says, Asks, StepOf, Step, Runs}
use Rattle.caller_steps.specs.Own.{is_commit}
use Rattle.caller_steps.specs.Fate.{is_refusal, is_media, is_committed, is_of_array, committed_by, history_after, live_with, offer_with, Stays, EndsWith, Moves}

pub data Fate (callers : ℕ) (old : State) (caller : ℕ) (call : Call) (reply : Reply) (new : State) : Type 0 where
  -- nothing changes for the callers
  refused : is_refusal reply ≡ true → is_media reply ≡ false → (index : Index) → new ≡ record old { index = index } → Fate callers old caller call reply new
  failed : is_commit call ≡ false → reply ≡ Media → (index : Index) → new ≡ record old { index = index; is_dead = true } → Fate callers old caller call reply new
  began : old.offers caller ≡ unoffered → old.live caller ≡ None → call ≡ Begin → reply ≡ Fine → new ≡ with_live old caller (Some []) → Fate callers old caller call reply new
  -- the reply is that of the one-thread table
  granted : (asked : TableCall) (calls : Granted) → old.offers caller ≡ unoffered → call ≡ Table asked → old.live caller ≡ Some calls → IsFree old caller asked → Answers (view_of old caller) asked reply
      → (index : Index) → new ≡ record (with_live old caller (Some (calls ++ (asked, reply) ∷ []))) { index = index } → Fate callers old caller call reply new
  committed : (calls : Granted) → old.offers caller ≡ unoffered → call ≡ Control Commit → reply ≡ Committed (length old.history + 1) → old.live caller ≡ Some calls
      → (index : Index) → new ≡ record (with_live old caller None) { history = old.history ++ done_by old caller calls ∷ []; index = index } → Fate callers old caller call reply new
  doubted : (calls : Granted) → old.offers caller ≡ unoffered → call ≡ Control Commit → reply ≡ Media → old.live caller ≡ Some calls → (index : Index)
      → new ≡ record (with_live old caller None) { doubt = done_by old caller calls ∷ []; index = index; is_dead = true } → Fate callers old caller call reply new
  aborted : (calls : Granted) → old.offers caller ≡ unoffered → call ≡ Control Abort → reply ≡ Fine → old.live caller ≡ Some calls → new ≡ with_live old caller None → Fate callers old caller call reply new
  -- the transaction takes no more calls
  given : (calls : Granted) → old.offers caller ≡ unoffered → call ≡ Control Offer → reply ≡ Fine → old.live caller ≡ Some calls → new ≡ with_offer old caller offered → Fate callers old caller call reply new
  -- all that were offered are committed, or in doubt
  settled : caller < callers → old.offers caller ≡ offered → call ≡ Control Settle → reply ≡ Committed (number_among (length old.history + 1) (offerers callers old) caller) → (index : Index)
      → new ≡ record (with_offer (committed_group old (offerers callers old)) caller unoffered) { index = index } → Fate callers old caller call reply new
  unsure : caller < callers → old.offers caller ≡ offered → call ≡ Control Settle → reply ≡ Media → (index : Index) → new ≡ record (doubted_group old (offerers callers old)) { index = index } → Fate callers old caller call reply new
  -- the number of a transaction that a group has committed is told
  told : (n : ℕ) → old.offers caller ≡ unsettled n → call ≡ Control Settle → reply ≡ Committed n → new ≡ with_offer (with_live old caller None) caller unoffered → Fate callers old caller call reply new
  -- keys without records were taken out of the index
  purged : (n : ℕ) → old.offers caller ≡ unoffered → old.live caller ≡ None → call ≡ Control Purge → reply ≡ Purged n → (index : Index) → new ≡ record old { index = index } → Fate callers old caller call reply new

-- what a step does
abbrev pub Acts : Limits → State → ℕ → Call → Reply → State → Type 0
Acts limits old caller call reply new = StepOf limits old.is_dead (old.offers caller) (old.live caller) old caller call reply new

module _ (limits : Limits) (old : State) (caller : ℕ) (new : State) where
  says : (call : Call) (reply answer : Reply) → is_refusal answer ≡ true → is_media answer ≡ false → Says answer old reply new → Fate limits.callers old caller call reply new
  says call reply answer refusal sure is = refused (ap is_refusal is.0 ∙ refusal) (ap is_media is.0 ∙ sure) old.index is.1

  asks : (calls : Granted) (asked : TableCall) (reply : Reply) → old.offers caller ≡ unoffered → old.live caller ≡ Some calls → Asks limits calls old caller asked reply new → Fate limits.callers old caller (Table asked) reply new
  asks calls asked reply un is (inl short) = says (Table asked) reply NoMemory refl refl short
  asks calls asked reply un is (inr (inl held)) = says (Table asked) reply (Busy held.0) refl refl held.2
  asks calls asked reply un is (inr (inr (free, inl (answers, fits, index, indexes, e)))) = granted asked calls un refl is free answers index e
  asks calls asked reply un is (inr (inr (free, inr (inl (lacks, index, indexes, e))))) =
      let why = room_lacks limits old caller asked reply lacks in
      let both = lacking_of_array limits old.index why.0 reply why.1 in
      refused both.1 both.2 index e
  asks calls asked reply un is (inr (inr (free, inr (inr (uses, (re, index, e)))))) = failed refl re index e

  fate_of : (dead : Bool) (offer : state.Offer) (live : Option Granted) (call : Call) (reply : Reply) → old.offers caller ≡ offer → old.live caller ≡ live
      → StepOf limits dead offer live old caller call reply new → Fate limits.callers old caller call reply new
  fate_of true offer live call reply un is s = says call reply Dead refl refl s
  fate_of false unoffered None Begin reply un is (re, e) = began un is refl re e
  fate_of false unoffered None (Control Purge) reply un is (inl (n, re, purges)) = purged n un is refl re purges.index purges.same
  fate_of false unoffered None (Control Purge) reply un is (inr (re, index, e)) = failed refl re index e
  fate_of false unoffered None call reply un is s = says call reply NoTransaction refl refl s
  fate_of false unoffered (Some calls) Begin reply un is s = says Begin reply Already refl refl s
  fate_of false unoffered (Some calls) (Table asked) reply un is (inl (bad, e)) =
      let plain = ask_plain asked in says (Table asked) reply (refusal_of asked) plain.0 plain.1 (ask_refusal old caller asked reply bad, e)
  fate_of false unoffered (Some calls) (Table asked) reply un is (inr (fine, a)) = asks calls asked reply un is a
  fate_of false unoffered (Some calls) (Control Commit) reply un is (inl short) = says (Control Commit) reply NoMemory refl refl short
  fate_of false unoffered (Some calls) (Control Commit) reply un is (inr (inl commits)) = let alone = commits_alone calls old caller un is reply new commits in committed calls un refl alone.0 is alone.1 alone.3
  fate_of false unoffered (Some calls) (Control Commit) reply un is (inr (inr doubts)) = let alone = doubts_alone calls old caller un is reply new doubts in doubted calls un refl alone.1 is alone.2 alone.3
  fate_of false unoffered (Some calls) (Control Abort) reply un is (re, e) = aborted calls un refl re is e
  fate_of false unoffered (Some calls) (Control Offer) reply un is (re, e) = given calls un refl re is e
  fate_of false unoffered (Some calls) (Control Settle) reply un is s = says (Control Settle) reply NoTransaction refl refl s
  fate_of false unoffered (Some calls) (Control Purge) reply un is s = says (Control Purge) reply Already refl refl s
  fate_of false offered live Begin reply gave is s = says Begin reply Already refl refl s
  fate_of false offered live (Control Purge) reply gave is s = says (Control Purge) reply Already refl refl s
  fate_of false offered live (Control Settle) reply gave is (inl short) = says (Control Settle) reply NoMemory refl refl short
  fate_of false offered live (Control Settle) reply gave is (inr (inside, inl (re, index, settles, e))) = settled inside gave refl re index e
  fate_of false offered live (Control Settle) reply gave is (inr (inside, inr (wrote, re, index, e))) = unsure inside gave refl re index e
  fate_of false offered live call reply gave is s = says call reply NoTransaction refl refl s
  fate_of false (unsettled n) live Begin reply done is s = says Begin reply Already refl refl s
  fate_of false (unsettled n) live (Control Purge) reply done is s = says (Control Purge) reply Already refl refl s
  fate_of false (unsettled n) live (Control Settle) reply done is (re, e) = told n done refl re e
  fate_of false (unsettled n) live call reply done is s = says call reply NoTransaction refl refl s

  -- Each step has one of the fates.
  pub acts_fate : (call : Call) (reply : Reply) → Acts limits old caller call reply new → Fate limits.callers old caller call reply new
  acts_fate call reply acts = fate_of old.is_dead (old.offers caller) (old.live caller) call reply refl refl acts

  pub step_fate : (call : Call) (reply : Reply) → Step limits old caller call reply new → Fate limits.callers old caller call reply new
  step_fate call reply step = acts_fate call reply step.acts

-- a refusal is no reply of a commit
pub refusal_none : (reply : Reply) → is_refusal reply ≡ true → is_committed reply ≡ false
refusal_none (Committed n) e = absurd (true≢false (sym e))
refusal_none _ e = refl

-- a reply of the table is neither a refusal nor that of a commit or a fault
pub record IsPlain (reply : Reply) : Type 0 where
  done : is_refusal reply ≡ false
  pub uncommitted : is_committed reply ≡ false
  pub sure : is_media reply ≡ false

found_plain : (o : Option (List ℕ)) (reply : Reply) → reply ≡ found o → IsPlain reply
found_plain None reply e = record { done = ap is_refusal e; uncommitted = ap is_committed e; sure = ap is_media e }
found_plain (Some v) reply e = record { done = ap is_refusal e; uncommitted = ap is_committed e; sure = ap is_media e }

removed_plain : (o : Option (List ℕ)) (reply : Reply) → reply ≡ removed o → IsPlain reply
removed_plain None reply e = record { done = ap is_refusal e; uncommitted = ap is_committed e; sure = ap is_media e }
removed_plain (Some v) reply e = record { done = ap is_refusal e; uncommitted = ap is_committed e; sure = ap is_media e }

pub answer_plain : (work : Work) (call : TableCall) (reply : Reply) → Answers work call reply → IsPlain reply
answer_plain work (Get name key) reply answers = found_plain (get work.table (of_table name key)) reply answers
answer_plain work (Put name key value) reply answers = record { done = ap is_refusal answers; uncommitted = ap is_committed answers; sure = ap is_media answers }
answer_plain work (Del name key) reply answers = removed_plain (get work.table (of_table name key)) reply answers
answer_plain work (Scan name low high) reply answers = record { done = ap is_refusal answers; uncommitted = ap is_committed answers; sure = ap is_media answers }
answer_plain work Save reply answers = record { done = ap is_refusal answers; uncommitted = ap is_committed answers; sure = ap is_media answers }
answer_plain work (Back n) reply answers = record { done = ap is_refusal answers.1; uncommitted = ap is_committed answers.1; sure = ap is_media answers.1 }

or_true : (b : Bool) → (b || true) ≡ true
or_true true = refl
or_true false = refl

or_none : (b : Bool) → (b || false) ≡ b
or_none true = refl
or_none false = refl

module _ (callers : ℕ) (old : State) (caller : ℕ) (call : Call) (reply : Reply) (new : State) where
  live_moved : (other : ℕ) (calls : Option Granted) → other ≢ caller → new.live ≡ update nat_eq old.live caller calls → new.live other ≡ old.live other
  live_moved other calls ne e = ap (λ (f : ℕ → Option Granted). f other) e ∙ update_apart old.live caller calls other ne

  live_set : (calls : Option Granted) → new.live ≡ update nat_eq old.live caller calls → new.live caller ≡ calls
  live_set calls e = ap (λ (f : ℕ → Option Granted). f caller) e ∙ update_here old.live caller calls

  -- others stay where neither what is live nor what is offered or committed changes, or only this caller's
  others_same : new.live ≡ old.live → new.offers ≡ old.offers → new.history ≡ old.history → (other : ℕ) → other ≢ caller → Stays old new other ⊎ EndsWith callers old caller call reply new other
  others_same l o h other ne = inl (record { live = ap (λ (f : ℕ → Option Granted). f other) l; offer = ap (λ (f : ℕ → state.Offer). f other) o; mine = ap (commits_of other) h })

  others_live : (calls : Option Granted) → new.live ≡ update nat_eq old.live caller calls → new.offers ≡ old.offers → ((other : ℕ) → other ≢ caller → commits_of other new.history ≡ commits_of other old.history)
      → (other : ℕ) → other ≢ caller → Stays old new other ⊎ EndsWith callers old caller call reply new other
  others_live calls l o mine other ne = inl (record { live = live_moved other calls ne l; offer = ap (λ (f : ℕ → state.Offer). f other) o; mine = mine other ne })

  -- nobody's commits change
  none_more : new.history ≡ old.history → (other : ℕ) → other ≢ caller → commits_of other new.history ≡ commits_of other old.history
  none_more h other ne = ap (commits_of other) h

  -- its own offer is none as before
  offer_none : old.offers caller ≡ unoffered → new.offers ≡ old.offers → unoffered ≡ offer_with call → new.offers caller ≡ offer_with call
  offer_none un o is = ap (λ (f : ℕ → state.Offer). f caller) o ∙ un ∙ is

  same_history : is_committed reply ≡ false → new.history ≡ old.history → new.history ≡ history_after callers old caller call reply
  same_history none e = e ∙ sym (cond-false (is_committed reply) (old.history ++ committed_by callers old caller call) old.history none)

  more_history : is_committed reply ≡ true → new.history ≡ old.history ++ committed_by callers old caller call → new.history ≡ history_after callers old caller call reply
  more_history is e = e ∙ sym (cond-true (is_committed reply) (old.history ++ committed_by callers old caller call) old.history is)

  alive_same : is_media reply ≡ false → new.is_dead ≡ old.is_dead → new.is_dead ≡ (old.is_dead || is_media reply)
  alive_same none e = e ∙ sym (ap (λ (b : Bool). old.is_dead || b) none ∙ or_none old.is_dead)

  dead_now : is_media reply ≡ true → new.is_dead ≡ true → new.is_dead ≡ (old.is_dead || is_media reply)
  dead_now media e = e ∙ sym (ap (λ (b : Bool). old.is_dead || b) media ∙ or_true old.is_dead)

  -- what a settle commits, by what its caller has offered
  settles_as : (offer : state.Offer) → call ≡ Control Settle → old.offers caller ≡ offer
      → committed_by callers old caller call ≡ (if is_offered offer then group_in old (group_end old (offerers callers old)) (offerers callers old) else [])
  settles_as offer c is = ap (committed_by callers old caller) c ∙ ap (λ (o : state.Offer). if is_offered o then group_in old (group_end old (offerers callers old)) (offerers callers old) else []) is

  -- what each fate does to transactions
  pub fate_moves : Fate callers old caller call reply new → Moves callers old caller call reply new
  fate_moves (refused refusal sure index e) = record {
    names = ap (λ (s : State). s.names) e;
    base = ap (λ (s : State). s.base) e;
    history = same_history (refusal_none reply refusal) (ap (λ (s : State). s.history) e);
    dead = alive_same sure (ap (λ (s : State). s.is_dead) e);
    able = λ done. absurd (true≢false (sym refusal ∙ done));
    own = λ done. absurd (true≢false (sym refusal ∙ done));
    others = others_same (ap (λ (s : State). s.live) e) (ap (λ (s : State). s.offers) e) (ap (λ (s : State). s.history) e);
    refused = λ re ok. (ap (λ (s : State). s.live) e, ap (λ (s : State). s.offers) e);
  }
  fate_moves (failed apart r index e) = record {
    names = ap (λ (s : State). s.names) e;
    base = ap (λ (s : State). s.base) e;
    history = same_history (ap is_committed r) (ap (λ (s : State). s.history) e);
    dead = dead_now (ap is_media r) (ap (λ (s : State). s.is_dead) e);
    able = λ done. absurd (true≢false (sym (ap is_refusal r) ∙ done));
    own = λ done. absurd (true≢false (sym (ap is_refusal r) ∙ done));
    others = others_same (ap (λ (s : State). s.live) e) (ap (λ (s : State). s.offers) e) (ap (λ (s : State). s.history) e);
    refused = λ re ok. (ap (λ (s : State). s.live) e, ap (λ (s : State). s.offers) e);
  }
  fate_moves (began un l c r e) = record {
    names = ap (λ (s : State). s.names) e;
    base = ap (λ (s : State). s.base) e;
    history = same_history (ap is_committed r) (ap (λ (s : State). s.history) e);
    dead = alive_same (ap is_media r) (ap (λ (s : State). s.is_dead) e);
    able = λ done. ap (may_do old caller) c ∙ free_outside old caller un l;
    own = λ done. (
      live_set (Some []) (ap (λ (s : State). s.live) e) ∙ ap (λ (x : Call). live_with (calls_of old caller) x reply) (sym c),
      offer_none un (ap (λ (s : State). s.offers) e) (ap offer_with (sym c)),
    );
    others = others_live (Some []) (ap (λ (s : State). s.live) e) (ap (λ (s : State). s.offers) e) (none_more (ap (λ (s : State). s.history) e));
    refused = λ re ok. absurd (true≢false (sym re ∙ ap is_refusal r));
  }
  fate_moves (granted asked calls un c l free answers index e) =
      let plain : IsPlain reply = answer_plain (view_of old caller) asked reply answers in
      record {
        names = ap (λ (s : State). s.names) e;
        base = ap (λ (s : State). s.base) e;
        history = same_history plain.uncommitted (ap (λ (s : State). s.history) e);
        dead = alive_same plain.sure (ap (λ (s : State). s.is_dead) e);
        able = λ done. ap (may_do old caller) c ∙ takes_within old caller calls un l;
        own = λ done. (
          live_set (Some (calls ++ (asked, reply) ∷ [])) (ap (λ (s : State). s.live) e)
              ∙ ap (λ (cs : Granted). Some (cs ++ (asked, reply) ∷ [])) (sym (ap (λ (o : Option Granted). unwrap_or o []) l)) ∙ ap (λ (x : Call). live_with (calls_of old caller) x reply) (sym c),
          offer_none un (ap (λ (s : State). s.offers) e) (ap offer_with (sym c)),
        );
        others = others_live (Some (calls ++ (asked, reply) ∷ [])) (ap (λ (s : State). s.live) e) (ap (λ (s : State). s.offers) e) (none_more (ap (λ (s : State). s.history) e));
        refused = λ re ok. absurd (true≢false (sym re ∙ plain.done));
      }
  fate_moves (committed calls un c r l index e) = record {
    names = ap (λ (s : State). s.names) e;
    base = ap (λ (s : State). s.base) e;
    history = more_history (ap is_committed r) (ap (λ (s : State). s.history) e
        ∙ ap (λ (cs : Granted). old.history ++ done_by old caller cs ∷ []) (sym (ap (λ (o : Option Granted). unwrap_or o []) l))
        ∙ ap (λ (x : Call). old.history ++ committed_by callers old caller x) (sym c));
    dead = alive_same (ap is_media r) (ap (λ (s : State). s.is_dead) e);
    able = λ done. ap (may_do old caller) c ∙ takes_within old caller calls un l;
    own = λ done. (
      live_set None (ap (λ (s : State). s.live) e) ∙ ap (λ (x : Call). live_with (calls_of old caller) x reply) (sym c),
      offer_none un (ap (λ (s : State). s.offers) e) (ap offer_with (sym c)),
    );
    others = others_live None (ap (λ (s : State). s.live) e) (ap (λ (s : State). s.offers) e) (λ other ne. ap (λ (s : State). commits_of other s.history) e ∙ more_theirs other old.history (done_by old caller calls) (λ same. ne (sym same)));
    refused = λ re ok. absurd (true≢false (sym re ∙ ap is_refusal r));
  }
  fate_moves (doubted calls un c r l index e) = record {
    names = ap (λ (s : State). s.names) e;
    base = ap (λ (s : State). s.base) e;
    history = same_history (ap is_committed r) (ap (λ (s : State). s.history) e);
    dead = dead_now (ap is_media r) (ap (λ (s : State). s.is_dead) e);
    able = λ done. absurd (true≢false (sym (ap is_refusal r) ∙ done));
    own = λ done. absurd (true≢false (sym (ap is_refusal r) ∙ done));
    others = others_live None (ap (λ (s : State). s.live) e) (ap (λ (s : State). s.offers) e) (none_more (ap (λ (s : State). s.history) e));
    refused = λ re ok. absurd (true≢false (sym (ap is_media r) ∙ ok));
  }
  fate_moves (aborted calls un c r l e) = record {
    names = ap (λ (s : State). s.names) e;
    base = ap (λ (s : State). s.base) e;
    history = same_history (ap is_committed r) (ap (λ (s : State). s.history) e);
    dead = alive_same (ap is_media r) (ap (λ (s : State). s.is_dead) e);
    able = λ done. ap (may_do old caller) c ∙ takes_within old caller calls un l;
    own = λ done. (
      live_set None (ap (λ (s : State). s.live) e) ∙ ap (λ (x : Call). live_with (calls_of old caller) x reply) (sym c),
      offer_none un (ap (λ (s : State). s.offers) e) (ap offer_with (sym c)),
    );
    others = others_live None (ap (λ (s : State). s.live) e) (ap (λ (s : State). s.offers) e) (none_more (ap (λ (s : State). s.history) e));
    refused = λ re ok. absurd (true≢false (sym re ∙ ap is_refusal r));
  }
  fate_moves (given calls un c r l e) = record {
    names = ap (λ (s : State). s.names) e;
    base = ap (λ (s : State). s.base) e;
    history = same_history (ap is_committed r) (ap (λ (s : State). s.history) e);
    dead = alive_same (ap is_media r) (ap (λ (s : State). s.is_dead) e);
    able = λ done. ap (may_do old caller) c ∙ takes_within old caller calls un l;
    own = λ done. (
      ap (λ (s : State). s.live caller) e ∙ l ∙ ap (λ (cs : Granted). Some cs) (sym (ap (λ (o : Option Granted). unwrap_or o []) l)) ∙ ap (λ (x : Call). live_with (calls_of old caller) x reply) (sym c),
      ap (λ (s : State). s.offers caller) e ∙ offers_here old.offers caller offered ∙ ap offer_with (sym c),
    );
    others = λ other ne. inl (record {
      live = ap (λ (s : State). s.live other) e;
      offer = ap (λ (s : State). s.offers other) e ∙ offers_apart old.offers caller offered other ne;
      mine = ap (λ (s : State). commits_of other s.history) e;
    });
    refused = λ re ok. absurd (true≢false (sym re ∙ ap is_refusal r));
  }
  fate_moves (settled inside has c r index e) =
      let os = offerers callers old in
      let group = committed_group old os in
      record {
        names = ap (λ (s : State). s.names) e ∙ group_names old (group_end old os) os;
        base = ap (λ (s : State). s.base) e ∙ group_base old (group_end old os) os;
        history = more_history (ap is_committed r) (ap (λ (s : State). s.history) e ∙ group_history old (group_end old os) os
            ∙ ap (λ (l : List Done). old.history ++ l) (sym (settles_as offered c has)));
        dead = alive_same (ap is_media r) (ap (λ (s : State). s.is_dead) e ∙ group_dead old (group_end old os) os);
        able = λ done. ap (may_do old caller) c ∙ ap (λ (o : state.Offer). not (is_unoffered o)) has;
        own = λ done. (
          ap (λ (s : State). s.live caller) e ∙ (group_ends old (group_end old os) os caller (offerers_once callers old) (offerer_is callers old caller inside has)).live
              ∙ ap (λ (x : Call). live_with (calls_of old caller) x reply) (sym c),
          ap (λ (s : State). s.offers caller) e ∙ offers_here group.offers caller unoffered ∙ ap offer_with (sym c),
        );
        others = λ other ne. elim (cases_Bool (is_in other os)) [
          | inl is ↦ (let at = group_ends old (group_end old os) os other (offerers_once callers old) is in inr (record {
            settles = c;
            own = has;
            its = offerer_has callers old other is;
            live = ap (λ (s : State). s.live other) e ∙ at.live;
            offer = ap (λ (s : State). s.offers other) e ∙ offers_apart group.offers caller unoffered other ne ∙ at.offer
                ∙ sym (cond-false (is_media reply) unoffered (unsettled (group_done old os other).at) (ap is_media r));
            mine = ap (λ (s : State). commits_of other s.history) e ∙ ap (commits_of other) (group_history old (group_end old os) os) ∙ group_mine old (group_end old os) os other
                ∙ ap (λ (l : List Done). commits_of other old.history ++ l) (group_with old (group_end old os) os other (offerers_once callers old) is)
                ∙ sym (cond-false (is_media reply) (commits_of other old.history) (commits_of other old.history ++ group_done old os other ∷ []) (ap is_media r));
          }))
          | inr out ↦ (let at = group_apart old (group_end old os) os other out in inl (record {
            live = ap (λ (s : State). s.live other) e ∙ at.live;
            offer = ap (λ (s : State). s.offers other) e ∙ offers_apart group.offers caller unoffered other ne ∙ at.offer;
            mine = ap (λ (s : State). commits_of other s.history) e ∙ ap (commits_of other) (group_history old (group_end old os) os) ∙ group_mine old (group_end old os) os other
                ∙ ap (λ (l : List Done). commits_of other old.history ++ l) (group_without old (group_end old os) os other out) ∙ append-nil (commits_of other old.history);
          }))
        ];
        refused = λ re ok. absurd (true≢false (sym re ∙ ap is_refusal r));
      }
  fate_moves (unsure inside has c r index e) =
      let os = offerers callers old in
      record {
        names = ap (λ (s : State). s.names) e ∙ without_names old os;
        base = ap (λ (s : State). s.base) e ∙ without_base old os;
        history = same_history (ap is_committed r) (ap (λ (s : State). s.history) e ∙ without_history old os);
        dead = dead_now (ap is_media r) (ap (λ (s : State). s.is_dead) e);
        able = λ done. absurd (true≢false (sym (ap is_refusal r) ∙ done));
        own = λ done. absurd (true≢false (sym (ap is_refusal r) ∙ done));
        others = λ other ne. elim (cases_Bool (is_in other os)) [
          | inl is ↦ (let at = without_ends old os other (offerers_once callers old) is in inr (record {
            settles = c;
            own = has;
            its = offerer_has callers old other is;
            live = ap (λ (s : State). s.live other) e ∙ at.live;
            offer = ap (λ (s : State). s.offers other) e ∙ at.offer ∙ sym (cond-true (is_media reply) unoffered (unsettled (group_done old os other).at) (ap is_media r));
            mine = ap (λ (s : State). commits_of other s.history) e ∙ ap (commits_of other) (without_history old os)
                ∙ sym (cond-true (is_media reply) (commits_of other old.history) (commits_of other old.history ++ group_done old os other ∷ []) (ap is_media r));
          }))
          | inr out ↦ (let at = without_apart old os other out in inl (record { live = ap (λ (s : State). s.live other) e ∙ at.live; offer = ap (λ (s : State). s.offers other) e ∙ at.offer; mine = ap (λ (s : State). commits_of other s.history) e ∙ ap (commits_of other) (without_history old os) }))
        ];
        refused = λ re ok. absurd (true≢false (sym (ap is_media r) ∙ ok));
      }
  fate_moves (told n has c r e) = record {
    names = ap (λ (s : State). s.names) e;
    base = ap (λ (s : State). s.base) e;
    history = more_history (ap is_committed r) (ap (λ (s : State). s.history) e ∙ sym (append-nil old.history) ∙ ap (λ (l : List Done). old.history ++ l) (sym (settles_as (unsettled n) c has)));
    dead = alive_same (ap is_media r) (ap (λ (s : State). s.is_dead) e);
    able = λ done. ap (may_do old caller) c ∙ ap (λ (o : state.Offer). not (is_unoffered o)) has;
    own = λ done. (
      live_set None (ap (λ (s : State). s.live) e) ∙ ap (λ (x : Call). live_with (calls_of old caller) x reply) (sym c),
      ap (λ (s : State). s.offers caller) e ∙ offers_here old.offers caller unoffered ∙ ap offer_with (sym c),
    );
    others = λ other ne. inl (record { live = live_moved other None ne (ap (λ (s : State). s.live) e); offer = ap (λ (s : State). s.offers other) e ∙ offers_apart old.offers caller unoffered other ne; mine = ap (λ (s : State). commits_of other s.history) e });
    refused = λ re ok. absurd (true≢false (sym re ∙ ap is_refusal r));
  }
  fate_moves (purged n un l c r index e) = record {
    names = ap (λ (s : State). s.names) e;
    base = ap (λ (s : State). s.base) e;
    history = same_history (ap is_committed r) (ap (λ (s : State). s.history) e);
    dead = alive_same (ap is_media r) (ap (λ (s : State). s.is_dead) e);
    able = λ done. ap (may_do old caller) c ∙ free_outside old caller un l;
    own = λ done. (
      ap (λ (s : State). s.live caller) e ∙ l ∙ ap (λ (x : Call). live_with (calls_of old caller) x reply) (sym c),
      offer_none un (ap (λ (s : State). s.offers) e) (ap offer_with (sym c)),
    );
    others = others_same (ap (λ (s : State). s.live) e) (ap (λ (s : State). s.offers) e) (ap (λ (s : State). s.history) e);
    refused = λ re ok. absurd (true≢false (sym re ∙ ap is_refusal r));
  }

-- So each step does this to transactions.
pub step_moves : (limits : Limits) (old : State) (caller : ℕ) (call : Call) (reply : Reply) (new : State) → Step limits old caller call reply new → Moves limits.callers old caller call reply new
step_moves limits old caller call reply new step = fate_moves limits.callers old caller call reply new (step_fate limits old caller new call reply step)

-- a run keeps the base
pub runs_base : (limits : Limits) (old : State) (turns : List (ℕ × Call × Reply)) (new : State) → Runs limits old turns new → new.base ≡ old.base
runs_base limits old [] new e = ap (λ (s : State). s.base) e
runs_base limits old (turn ∷ turns) new (mid, step, runs) = runs_base limits mid turns new runs ∙ (step_moves limits old turn.0 turn.1 turn.2 mid step).base
