-- Why the refusals within a run stand, and which keys its index gains and loses.
use Rattle.std.proofs.Common.{◌≡◌, ◌≢◌, ◌⊎◌, ◌||◌, ℕ, suc, ◌+◌, length, ◌-◌, ◌≤◌, inl, inr, ⊎_elim, List, [], ◌∷◌, ◌++◌, Bool, true, false, Option, Some, None, refl, sym, ap, ◌∙◌, subst, arith}
use Rattle.std.specs.Prelude.{IsTrue, IsFalse, IsSome, is_none, unwrap_or, if◌then◌else◌}
use Rattle.std.specs.List.{list_any}
use Rattle.std.specs.FinMap.{get}
use Rattle.std.proofs.lemmas.Bool.{true≢false, cases_Bool, or_left, or_right, or_parts}
use Rattle.std.proofs.lemmas.List.Folds.{list_any-append}
use Rattle.history.specs.Key.{of_table}
use Rattle.history.specs.declared.key.Key.{Key}
use Rattle.history.proofs.Keys.{same_key}
use Rattle.history.specs.Writes.{Write}
use Rattle.history.specs.Table.{Granted, Work, Answers, found, removed}
use Rattle.history.specs.Locks.{touches, touched, clash}
use Rattle.history.specs.declared.call.Call.{Call}
use Rattle.history.specs.declared.call.Call.TheVariants.{Begin, Table, Control}
use Rattle.history.specs.declared.call.TableCall.{TableCall}
use Rattle.history.specs.declared.call.TableCall.TheVariants.{Get, Put, Del, Scan, Save, Back}
use Rattle.history.specs.declared.call.Control.TheVariants.{Commit, Abort, Offer, Settle, Purge}
use Rattle.history.specs.declared.call.Reply.{Reply}
use Rattle.history.specs.declared.call.Reply.TheVariants.{Fine, Committed, NoTransaction, NoTable, Already, NoSave, SavesFull, Busy, LogFull, SlotsFull, PagesFull, Media, Dead, NoMemory}
use Rattle.caller_steps.specs.State as state
use Rattle.caller_steps.specs.State.{State, Index, unoffered, offered, unsettled, view_of}
use Rattle.caller_steps.specs.Offers.{offerers, number_among, group_writes}
use Rattle.caller_steps.specs.Locked.{Blocks}
use Rattle.caller_steps.specs.Purging.{Lost}
use Rattle.caller_steps.specs.Room.{Limits, room_for, GainsWithin, TakesWithin, IndexesAt, Indexes, Settles}
use Rattle.index_keys.specs.Keys.{KeepsKeys}
use Rattle.caller_steps.specs.Step.{Says, Asks, Commits, Doubts, StepOf, Step, Runs}
use Rattle.caller_steps.specs.Fate.{is_media}
use Rattle.caller_steps.specs.Run.{Turn, Goes, GoesAlong, turns_of, has_fault, is_purge, has_purge, IsTurn}
use Rattle.history.proofs.Modes.{clash_turned}
use Rattle.caller_steps.specs.Own.{Own, nothing_own, own_of, live_by, live_in}
use Rattle.caller_steps.specs.Shown.{is_put, AreAsked, Change, gain, loss, gained_in, lost_in, Changed, LacksPages, Clashes, Shows}
use Rattle.caller_steps.proofs.Running.{turns_cut, turns_names, turns_dead, turns_keep, turns_of_runs}
use Rattle.caller_steps.proofs.Owning.{turns_live, fresh_live}
use Rattle.caller_steps.proofs.Fates.{step_moves}
use Rattle.caller_steps.proofs.Trying.{purge_loses}
use Rattle.caller_steps.proofs.Able.{refusal_of, ask_refusal}
use Rattle.caller_steps.proofs.Lacking.{Lacking, no_slot, no_page, no_entry, write_lacks, removal_lacks}

-- an index after a call: it has no fewer pages in use and levels, and the same keys or one more, which the call puts
pub record Rises (limits : Limits) (call : Call) (old new : Index) : Type 0 where
  pub pages : old.keys.used_pages ≤ new.keys.used_pages
  pub levels : (name : List ℕ) → old.keys.levels name ≤ new.keys.levels name
  pub keys : KeepsKeys old.keys new.keys
      ⊎ ((key : Key) × IsTrue (is_put key call) × (old.keys.slot_of key ≡ None) × GainsWithin limits key old new)

-- so it is, but a purge takes keys out
pub record IndexMoves (limits : Limits) (call : Call) (old new : Index) : Type 0 where
  pub rises : is_purge call ≡ false → Rises limits call old new
  pub falls : is_purge call ≡ true → (keys : List Key) × Lost old keys new

rising : (limits : Limits) (call : Call) (old new : Index) → is_purge call ≡ false → Rises limits call old new → IndexMoves limits call old new
rising limits call old new plain rises = record { rises = λ _. rises; falls = λ purges. absurd (true≢false (sym purges ∙ plain)) }

-- the data takes writes
settled_index : (limits : Limits) (call : Call) (writes : List Write) (old new : Index) → is_purge call ≡ false → Settles writes old new → IndexMoves limits call old new
settled_index limits call writes old new plain s =
    rising limits call old new plain (record {
      pages = (let p = ap (λ (i : Index). i.keys.used_pages) s.keys in omega arith);
      levels = λ name. (let l = ap (λ (i : Index). i.keys.levels name) s.keys in omega arith);
      keys = inl (record { slot_of = ap (λ (i : Index). i.keys.slot_of) s.keys; slots = ap (λ (i : Index). i.keys.used_slots) s.keys; due = ap (λ (i : Index). i.keys.due) s.keys });
    })

same_index : (limits : Limits) (call : Call) (old new : Index) → new ≡ old → IndexMoves limits call old new
same_index limits call old new e = record {
  rises = λ _. record {
    pages = (let p = ap (λ (i : Index). i.keys.used_pages) e in omega arith);
    levels = λ name. (let l = ap (λ (i : Index). i.keys.levels name) e in omega arith);
    keys = inl (record { slot_of = ap (λ (i : Index). i.keys.slot_of) e; slots = ap (λ (i : Index). i.keys.used_slots) e; due = ap (λ (i : Index). i.keys.due) e });
  };
  falls = λ _. ([], e);
}

lost_index : (limits : Limits) (keys : List Key) (old new : Index) → Lost old keys new → IndexMoves limits (Control Purge) old new
lost_index limits keys old new lost = record { rises = λ plain. absurd (true≢false plain); falls = λ _. (keys, lost) }

inserts : (limits : Limits) (key : Key) (reply : Reply) (old new : Index) → IndexesAt limits key None reply old new
    → TakesWithin limits old new × (KeepsKeys old.keys new.keys ⊎ GainsWithin limits key old new)
inserts limits key Fine old new i = (i.0, inr i.1)
inserts limits key (LogFull g h n) old new i = (i.0, i.1)
inserts limits key (PagesFull n) old new i = (i.0, inl i.1)
inserts limits key _ old new i = (i.0, inl i.1)

index_at : (limits : Limits) (name : List ℕ) (key : ℕ) (value : List ℕ) (slot : Option ℕ) (reply : Reply) (old new : Index) → old.keys.slot_of (of_table name key) ≡ slot → IndexesAt limits (of_table name key) slot reply old new → IndexMoves limits (Table (Put name key value)) old new
index_at limits name key value (Some slot) reply old new is e = same_index limits (Table (Put name key value)) old new e
index_at limits name key value None reply old new is i =
    let both = inserts limits (of_table name key) reply old new i in
    rising limits (Table (Put name key value)) old new refl (record {
      pages = both.0.used;
      levels = both.0.levels;
      keys = ⊎_elim (λ keeps. inl keeps) (λ gains. inr (of_table name key, same_key (of_table name key) (of_table name key) refl, is, gains)) both.1;
    })

index_moves : (limits : Limits) (asked : TableCall) (reply : Reply) (old new : Index) → Indexes limits asked reply old new → IndexMoves limits (Table asked) old new
index_moves limits (Put name key value) reply old new i = index_at limits name key value (old.keys.slot_of (of_table name key)) reply old new refl i
index_moves limits asked reply old new i = same_index limits (Table asked) old new i

-- if all slots are given out, no key is gained
slots_stay : (limits : Limits) (call : Call) (old new : Index) → Rises limits call old new → old.keys.used_slots ≡ limits.slots → new.keys.used_slots ≡ limits.slots
slots_stay limits call old new moves full = ⊎_elim (λ keeps. keeps.slots ∙ full) (λ gains. let l = gains.3.left in absurd (omega arith)) moves.keys

pages_stay : (limits : Limits) (made call : Call) (n : ℕ) (old new : Index) → Rises limits call old new → LacksPages made n old → LacksPages made n new
pages_stay limits (Table (Put name key value)) call n old new moves lacks = ⊎_elim (λ few. inl (let p = moves.pages in omega arith)) (λ high. inr (let l = moves.levels name in omega arith)) lacks
pages_stay limits _ call n old new moves lacks = tt

changed_same : (first : Index) (changes : List Change) (old new : Index) → KeepsKeys old.keys new.keys
    → Changed first changes old → Changed first changes new
changed_same first [] old new keeps g = (keeps.slot_of ∙ g.0, keeps.slots ∙ g.1)
changed_same first (gain key ∷ changes) old new keeps g = (g.0, g.1, g.2, keeps.slot_of ∙ g.3, keeps.slots ∙ g.4)
changed_same first (loss key ∷ changes) old new keeps g = (g.0, g.1, g.2, keeps.slot_of ∙ g.3, g.4 ∙ ap (λ (n : ℕ). suc n) (sym keeps.slots))

-- keys that are lost, before what had changed already
abbrev losses : List Key → List Change → List Change
losses [] changes = changes
losses (key ∷ keys) changes = loss key ∷ losses keys changes

losses_gained : (keys : List Key) (changes : List Change) → gained_in (losses keys changes) ≡ gained_in changes
losses_gained [] changes = refl
losses_gained (key ∷ keys) changes = losses_gained keys changes

changed_lost : (first : Index) (changes : List Change) (keys : List Key) (old new : Index) → Changed first changes old → Lost old keys new → Changed first (losses keys changes) new
changed_lost first changes [] old new g lost = subst (Changed first changes) (sym lost) g
changed_lost first changes (key ∷ keys) old new g (before, lost, loses) =
    (before, changed_lost first changes keys old before g lost, subst (λ (o : Option ℕ). IsSome o) (sym loses.due) refl, loses.slot_of, loses.slots)

-- another caller's transaction stands in the way of the call
abbrev pub IsBlocked : State → ℕ → Call → ℕ → Type 0
IsBlocked old caller (Table asked) holder = Blocks old caller asked holder
IsBlocked old caller call holder = ⊥

-- what a reply says of the state before a step and of the index after it
abbrev pub Told : Limits → State → ℕ → State → Call → Reply → Type 0
Told limits old caller new call (Busy holder) = IsBlocked old caller call holder
Told limits old caller new call (SlotsFull n) = (n ≡ limits.slots) × (new.index.keys.used_slots ≡ limits.slots)
Told limits old caller new call (PagesFull n) = (n ≡ limits.index_pages - 1) × LacksPages call n new.index
Told limits old caller new call Dead = IsTrue old.is_dead
Told limits old caller new call _ = Unit {0}

pub record Left (limits : Limits) (old : State) (caller : ℕ) (new : State) (call : Call) (reply : Reply) : Type 0 where
  pub told : Told limits old caller new call reply
  pub index : IsFalse new.is_dead → IndexMoves limits call old.index new.index

module _ (limits : Limits) (old : State) (caller : ℕ) (new : State) where
  T : Call → Reply → Type 0
  T call reply = Told limits old caller new call reply

  same : (call : Call) (reply : Reply) → T call reply → new.index ≡ old.index → Left limits old caller new call reply
  unfolding T
  same call reply t e = record { told = t; index = λ alive. same_index limits call old.index new.index e }

  says : (call : Call) (reply answer : Reply) → T call answer → Says answer old reply new → Left limits old caller new call reply
  says call reply answer t s = same call reply (subst (T call) (sym s.0) t) (ap (λ (s : State). s.index) s.1)

  plain_found : (call : Call) (o : Option (List ℕ)) (reply : Reply) → reply ≡ found o → T call reply
  unfolding T
  plain_found call None reply e = subst (λ r. Told limits old caller new call r) (sym e) tt
  plain_found call (Some v) reply e = subst (λ r. Told limits old caller new call r) (sym e) tt

  plain_removed : (call : Call) (o : Option (List ℕ)) (reply : Reply) → reply ≡ removed o → T call reply
  unfolding T
  plain_removed call None reply e = subst (λ r. Told limits old caller new call r) (sym e) tt
  plain_removed call (Some v) reply e = subst (λ r. Told limits old caller new call r) (sym e) tt

  plain : (work : Work) (asked : TableCall) (reply : Reply) → Answers work asked reply → T (Table asked) reply
  unfolding T
  plain work (Get name key) reply answers = plain_found (Table (Get name key)) (get work.table (of_table name key)) reply answers
  plain work (Put name key value) reply answers = subst (λ r. Told limits old caller new (Table (Put name key value)) r) (sym answers) tt
  plain work (Del name key) reply answers = plain_removed (Table (Del name key)) (get work.table (of_table name key)) reply answers
  plain work (Scan name low high) reply answers = subst (λ r. Told limits old caller new (Table (Scan name low high)) r) (sym answers) tt
  plain work Save reply answers = subst (λ r. Told limits old caller new (Table Save) r) (sym answers) tt
  plain work (Back n) reply answers = subst (λ r. Told limits old caller new (Table (Back n)) r) (sym answers.1) tt

  put_lacks : (name : List ℕ) (key : ℕ) (value : List ℕ) (slot : Option ℕ) (reply : Reply) → Lacking limits old.index slot reply
      → IndexesAt limits (of_table name key) slot reply old.index new.index → T (Table (Put name key value)) reply
  unfolding T
  put_lacks name key value None reply (no_slot none full e) indexes =
      let made = subst (λ r. IndexesAt limits (of_table name key) None r old.index new.index) e indexes in
      subst (λ r. Told limits old caller new (Table (Put name key value)) r) (sym e) (refl, made.1.slots ∙ full)
  put_lacks name key value None reply (no_page none e) indexes =
      let made = subst (λ r. IndexesAt limits (of_table name key) None r old.index new.index) e indexes in
      subst (λ r. Told limits old caller new (Table (Put name key value)) r) (sym e) (refl, made.2)
  put_lacks name key value None reply (no_entry g h n e) indexes = subst (λ r. Told limits old caller new (Table (Put name key value)) r) (sym e) tt
  put_lacks name key value (Some slot) reply (no_slot none full e) indexes = absurd (cc)
  put_lacks name key value (Some slot) reply (no_page none e) indexes = absurd (cc)
  put_lacks name key value (Some slot) reply (no_entry g h n e) indexes = subst (λ r. Told limits old caller new (Table (Put name key value)) r) (sym e) tt

  lacks_told : (asked : TableCall) (reply : Reply) → room_for limits old caller asked (Some reply) → Indexes limits asked reply old.index new.index → T (Table asked) reply
  unfolding T
  lacks_told (Put name key value) reply lacks indexes =
      put_lacks name key value (old.index.keys.slot_of (of_table name key)) reply (write_lacks limits old caller (of_table name key) (old.index.keys.slot_of (of_table name key)) reply lacks) indexes
  lacks_told (Del name key) reply lacks indexes =
      let is = removal_lacks limits old caller (of_table name key) (is_none (get (view_of old caller).table (of_table name key))) reply lacks in
      subst (λ r. Told limits old caller new (Table (Del name key)) r) (sym is.3) tt
  lacks_told _ reply lacks indexes = absurd lacks

  fails : (call : Call) (reply : Reply) → reply ≡ Media → new.is_dead ≡ true → Left limits old caller new call reply
  unfolding T
  fails call reply re dead = record { told = subst (λ r. Told limits old caller new call r) (sym re) tt; index = λ alive. absurd (true≢false (sym dead ∙ alive)) }

  asks : (calls : Granted) (asked : TableCall) (reply : Reply) → Asks limits calls old caller asked reply new → Left limits old caller new (Table asked) reply
  unfolding T
  asks calls asked reply (inl short) = says (Table asked) reply NoMemory tt short
  asks calls asked reply (inr (inl held)) = says (Table asked) reply (Busy held.0) held.1.0 held.2
  asks calls asked reply (inr (inr (free, inl (answers, fits, index, indexes, e)))) =
      record { told = plain (view_of old caller) asked reply answers; index = λ alive. index_moves limits asked reply old.index new.index (subst (λ i. Indexes limits asked reply old.index i) (sym (ap (λ (s : State). s.index) e)) indexes) }
  asks calls asked reply (inr (inr (free, inr (inl (lacks, index, indexes, e))))) =
      let now = subst (λ i. Indexes limits asked reply old.index i) (sym (ap (λ (s : State). s.index) e)) indexes in
      record { told = lacks_told asked reply lacks now; index = λ alive. index_moves limits asked reply old.index new.index now }
  asks calls asked reply (inr (inr (free, inr (inr (uses, (re, index, e)))))) = fails (Table asked) reply re (ap (λ (s : State). s.is_dead) e)

  refused_told : (asked : TableCall) → T (Table asked) (refusal_of asked)
  unfolding T
  refused_told Save = tt
  refused_told (Back n) = tt
  refused_told asked = tt

  commits_left : (group : List ℕ) (call : Call) (reply : Reply) → is_purge call ≡ false → ((n : ℕ) → T call (Committed n)) → T call Media
      → Commits group old caller reply new ⊎ Doubts group old reply new → Left limits old caller new call reply
  unfolding T
  commits_left group call reply plain told failed (inl (re, index, settles, e)) = record {
    told = subst (λ r. Told limits old caller new call r) (sym re) (told (number_among (length old.history + 1) group caller));
    index = λ alive. subst (λ (i : Index). IndexMoves limits call old.index i) (sym (ap (λ (s : State). s.index) e)) (settled_index limits call (group_writes old group) old.index index plain settles);
  }
  commits_left group call reply plain told failed (inr (wrote, re, index, e)) = fails call reply re (ap (λ (s : State). s.is_dead) e)

  left_of : (dead : Bool) (offer : state.Offer) (live : Option Granted) (call : Call) (reply : Reply) → old.is_dead ≡ dead → StepOf limits dead offer live old caller call reply new
      → Left limits old caller new call reply
  unfolding T
  left_of true offer live call reply dead s = says call reply Dead dead s
  left_of false unoffered None Begin reply dead (re, e) = same Begin reply (subst (λ r. Told limits old caller new Begin r) (sym re) tt) (ap (λ (s : State). s.index) e)
  left_of false unoffered None (Control Purge) reply dead (inl (n, re, purges)) = record {
    told = subst (λ r. Told limits old caller new (Control Purge) r) (sym re) tt;
    index = λ alive. let loses = purge_loses limits old n new purges in lost_index limits loses.0 old.index new.index loses.3;
  }
  left_of false unoffered None (Control Purge) reply dead (inr (re, index, e)) = fails (Control Purge) reply re (ap (λ (s : State). s.is_dead) e)
  left_of false unoffered None call reply dead s = says call reply NoTransaction tt s
  left_of false unoffered (Some calls) Begin reply dead s = says Begin reply Already tt s
  left_of false unoffered (Some calls) (Table asked) reply dead (inl (bad, e)) = says (Table asked) reply (refusal_of asked) (refused_told asked) (ask_refusal old caller asked reply bad, e)
  left_of false unoffered (Some calls) (Table asked) reply dead (inr (fine, a)) = asks calls asked reply a
  left_of false unoffered (Some calls) (Control Commit) reply dead (inl short) = says (Control Commit) reply NoMemory tt short
  left_of false unoffered (Some calls) (Control Commit) reply dead (inr commits) = commits_left (caller ∷ []) (Control Commit) reply refl (λ n. tt) tt commits
  left_of false unoffered (Some calls) (Control Abort) reply dead (re, e) = same (Control Abort) reply (subst (λ r. Told limits old caller new (Control Abort) r) (sym re) tt) (ap (λ (s : State). s.index) e)
  left_of false unoffered (Some calls) (Control Offer) reply dead (re, e) = same (Control Offer) reply (subst (λ r. Told limits old caller new (Control Offer) r) (sym re) tt) (ap (λ (s : State). s.index) e)
  left_of false unoffered (Some calls) (Control Settle) reply dead s = says (Control Settle) reply NoTransaction tt s
  left_of false unoffered (Some calls) (Control Purge) reply dead s = says (Control Purge) reply Already tt s
  left_of false offered live Begin reply dead s = says Begin reply Already tt s
  left_of false offered live (Control Purge) reply dead s = says (Control Purge) reply Already tt s
  left_of false offered live (Control Settle) reply dead (inl short) = says (Control Settle) reply NoMemory tt short
  left_of false offered live (Control Settle) reply dead (inr (inside, commits)) = commits_left (offerers limits.callers old) (Control Settle) reply refl (λ n. tt) tt commits
  left_of false offered live call reply dead s = says call reply NoTransaction tt s
  left_of false (unsettled n) live Begin reply dead s = says Begin reply Already tt s
  left_of false (unsettled n) live (Control Purge) reply dead s = says (Control Purge) reply Already tt s
  left_of false (unsettled n) live (Control Settle) reply dead (re, e) = same (Control Settle) reply (subst (λ r. Told limits old caller new (Control Settle) r) (sym re) tt) (ap (λ (s : State). s.index) e)
  left_of false (unsettled n) live call reply dead s = says call reply NoTransaction tt s

  pub step_left : (call : Call) (reply : Reply) → Step limits old caller call reply new → Left limits old caller new call reply
  step_left call reply step = left_of old.is_dead (old.offers caller) (old.live caller) call reply refl step.acts

-- a call that clashes with what is live of a caller clashes with what its own turns say is live
held_by : (names : List (List ℕ)) (call : TableCall) (stripe : ℕ) (own : Own) (offer : state.Offer) → clash (touches names call stripe) (touched names (unwrap_or (live_in own offer) []) stripe) ≡ true
    → clash (touches names call stripe) (touched names (unwrap_or own.live []) stripe) ≡ true
held_by names call stripe own offer meets = elim (live_or_none own offer) [
  | inl same ↦ ap (λ (o : Option Granted). clash (touches names call stripe) (touched names (unwrap_or o []) stripe)) (sym same) ∙ meets
  | inr none ↦ absurd (true≢false (sym meets ∙ ap (λ (o : Option Granted). clash (touches names call stripe) (touched names (unwrap_or o []) stripe)) none ∙ clash_turned (touches names call stripe) (touched names [] stripe)))
]
  where
    live_or_none : (own : Own) (offer : state.Offer) → (live_in own offer ≡ own.live) ⊎ (live_in own offer ≡ None)
    live_or_none own unoffered = go own.waits
      where
        go : (b : Bool) → ((if b then None else own.live) ≡ own.live) ⊎ ((if b then None else own.live) ≡ None)
        go true = inr refl
        go false = inl refl
    live_or_none own offered = inl refl
    live_or_none own (unsettled n) = inr refl

any_left : {X : Type 0} (p : X → Bool) (xs ys : List X) → list_any p xs ≡ true → list_any p (xs ++ ys) ≡ true
any_left p xs ys e = list_any-append p xs ys ∙ or_left (list_any p xs) (list_any p ys) e

any_last : {X : Type 0} (p : X → Bool) (xs : List X) (x : X) → p x ≡ true → list_any p (xs ++ x ∷ []) ≡ true
any_last p xs x e = list_any-append p xs (x ∷ []) ∙ or_right (list_any p xs) (p x || false) (or_left (p x) false e)

module _ (limits : Limits) where
  alive_before : (old new : State) (turn : Turn) → Goes true limits old turn.0 turn.1 turn.2 new → new.is_dead ≡ false → old.is_dead ≡ false
  alive_before old new turn goes alive = (or_parts old.is_dead (is_media turn.2) (sym goes.moves.dead ∙ alive)).0

  index_goes : (old new : State) (turn : Turn) → Goes true limits old turn.0 turn.1 turn.2 new → new.is_dead ≡ false → IndexMoves limits turn.1 old.index new.index
  index_goes old new turn goes alive = (step_left limits old turn.0 new turn.1 turn.2 (goes.step refl)).index alive

  alive_first : (first now : State) (turns : List Turn) → GoesAlong true limits first turns now → now.is_dead ≡ false → first.is_dead ≡ false
  alive_first first now turns a alive = (or_parts first.is_dead (has_fault turns) (sym (turns_dead true limits first now turns a) ∙ alive)).0

  -- What was lacking stays so, without a purge.
  slots_on : (first now : State) (turns : List Turn) → GoesAlong true limits first turns now → now.is_dead ≡ false → has_purge turns ≡ false → first.index.keys.used_slots ≡ limits.slots → now.index.keys.used_slots ≡ limits.slots
  slots_on first now [] a alive plain full = ap (λ (s : State). s.index.keys.used_slots) a ∙ full
  slots_on first now (turn ∷ turns) a alive plain full =
      let parts = or_parts (is_purge turn.1) (has_purge turns) plain in
      slots_on a.0 now turns a.2 alive parts.1 (slots_stay limits turn.1 first.index a.0.index ((index_goes first a.0 turn a.1 (alive_first a.0 now turns a.2 alive)).rises parts.0) full)

  pages_on : (made : Call) (n : ℕ) (first now : State) (turns : List Turn) → GoesAlong true limits first turns now → now.is_dead ≡ false → has_purge turns ≡ false → LacksPages made n first.index → LacksPages made n now.index
  pages_on made n first now [] a alive plain lacks = subst (λ (s : State). LacksPages made n s.index) (sym a) lacks
  pages_on made n first now (turn ∷ turns) a alive plain lacks =
      let parts = or_parts (is_purge turn.1) (has_purge turns) plain in
      pages_on made n a.0 now turns a.2 alive parts.1 (pages_stay limits made turn.1 n first.index a.0.index ((index_goes first a.0 turn a.1 (alive_first a.0 now turns a.2 alive)).rises parts.0) lacks)

  -- the keys that are asked for
  more_keys : (turns : List Turn) (turn : Turn) (keys : List Key) → AreAsked turns keys → AreAsked (turns ++ turn ∷ []) keys
  more_keys turns turn [] a = tt
  more_keys turns turn (key ∷ keys) a = (any_left (λ (l : Turn). is_put key l.1) turns (turn ∷ []) a.0, more_keys turns turn keys a.1)

  module _ (first : State) where
    abbrev Keys : List Turn → State → Type 0
    Keys turns now = IsFalse now.is_dead → (changes : List Change) × Changed first.index changes now.index × AreAsked turns (gained_in changes) × (has_purge turns ≡ false → lost_in changes ≡ [])

    -- the turns before one had no purge if those with it have none
    none_before : (turns : List Turn) (turn : Turn) → has_purge (turns ++ turn ∷ []) ≡ false → has_purge turns ≡ false
    none_before turns turn none = (or_parts (has_purge turns) (has_purge (turn ∷ [])) (sym (list_any-append (λ (l : Turn). is_purge l.1) turns (turn ∷ [])) ∙ none)).0

    risen : (turns : List Turn) (turn : Turn) (old new : State) → (before : (changes : List Change) × Changed first.index changes old.index × AreAsked turns (gained_in changes) × (has_purge turns ≡ false → lost_in changes ≡ []))
        → Rises limits turn.1 old.index new.index
        → (changes : List Change) × Changed first.index changes new.index × AreAsked (turns ++ turn ∷ []) (gained_in changes) × (has_purge (turns ++ turn ∷ []) ≡ false → lost_in changes ≡ [])
    risen turns turn old new before rises = ⊎_elim
        (λ keeps. (before.0, changed_same first.index before.0 old.index new.index keeps before.1, more_keys turns turn (gained_in before.0) before.2, λ plain. before.3 (none_before turns turn plain)))
        (λ gains. (
          gain gains.0 ∷ before.0,
          (old.index, before.1, gains.2, gains.3.slot_of, gains.3.slots),
          (any_last (λ (l : Turn). is_put gains.0 l.1) turns turn gains.1, more_keys turns turn (gained_in before.0) before.2),
          λ plain. before.3 (none_before turns turn plain),
        ))
        rises.keys

    fallen : (turns : List Turn) (turn : Turn) (old new : State) → (before : (changes : List Change) × Changed first.index changes old.index × AreAsked turns (gained_in changes) × (has_purge turns ≡ false → lost_in changes ≡ []))
        → is_purge turn.1 ≡ true → (keys : List Key) × Lost old.index keys new.index
        → (changes : List Change) × Changed first.index changes new.index × AreAsked (turns ++ turn ∷ []) (gained_in changes) × (has_purge (turns ++ turn ∷ []) ≡ false → lost_in changes ≡ [])
    fallen turns turn old new before purges lost = (
      losses lost.0 before.0,
      changed_lost first.index before.0 lost.0 old.index new.index before.1 lost.1,
      subst (AreAsked (turns ++ turn ∷ [])) (sym (losses_gained lost.0 before.0)) (more_keys turns turn (gained_in before.0) before.2),
      λ plain. absurd (true≢false (sym (any_last (λ (l : Turn). is_purge l.1) turns turn purges) ∙ plain)),
    )

    keys_goes : (turns : List Turn) (turn : Turn) (old new : State) → Keys turns old → Goes true limits old turn.0 turn.1 turn.2 new → Keys (turns ++ turn ∷ []) new
    keys_goes turns turn old new was goes alive =
        let before = was (alive_before old new turn goes alive) in
        let moves = index_goes old new turn goes alive in
        elim (cases_Bool (is_purge turn.1)) [
          | inl purges ↦ fallen turns turn old new before purges (moves.falls purges)
          | inr plain ↦ risen turns turn old new before (moves.rises plain)
        ]

    -- Unless the medium fails, the index gains only keys that are asked for, and loses keys only at purges.
    pub keys_changed : (now : State) (turns : List Turn) → Runs limits first turns now → IsFalse now.is_dead
        → (changes : List Change) × Changed first.index changes now.index × AreAsked turns (gained_in changes) × (has_purge turns ≡ false → lost_in changes ≡ [])
    keys_changed now turns runs = turns_keep true limits Keys keys_goes [] turns first now (λ alive. ([], (refl, refl), tt, λ plain. refl)) (turns_of_runs limits first now turns runs)

  -- Each turn of a run is a step.
  pub line_is : (first now : State) (before after : List Turn) (turn : Turn) → Runs limits first (before ++ turn ∷ after) now → IsTurn limits first before turn after now
  line_is first now before after turn runs =
      let c = turns_cut true limits first now before (turn ∷ after) (turns_of_runs limits first now (before ++ turn ∷ after) runs) in
      record { old = c.0; new = c.2.0; until = c.1; step = c.2.1.step refl; since = c.2.2 }

  module _ (first now : State) (before after : List Turn) (caller : ℕ) (call : Call) (reply : Reply) (runs : Runs limits first (before ++ (caller, call, reply) ∷ after) now) (none : (other : ℕ) → (first.live other ≡ None) × (first.offers other ≡ unoffered)) where
    module _ (at : IsTurn limits first before (caller, call, reply) after now) (fresh : first.is_dead ≡ false) where
      left_there : Left limits at.old caller at.new call reply
      left_there = step_left limits at.old caller at.new call reply at.step

      names_there : now.names ≡ at.old.names
      names_there = turns_names true limits at.new now after at.since ∙ (step_moves limits at.old caller call reply at.new at.step).names

      dead_after : at.new.is_dead ≡ true → now.is_dead ≡ true
      dead_after e = turns_dead true limits at.new now after at.since ∙ or_left at.new.is_dead (has_fault after) e

      new_alive : now.is_dead ≡ false → at.new.is_dead ≡ false
      new_alive alive = alive_first at.new now after at.since alive

      blocker : (what : Call) (h : ℕ) → IsBlocked at.old caller what h → h ≢ caller
      blocker (Table asked) h blocks = blocks.0
      blocker _ h blocks = absurd blocks

      clashing : (what : Call) (h : ℕ) → IsBlocked at.old caller what h → Clashes now.names what (unwrap_or (live_by h (turns_of h before)) [])
      clashing (Table asked) h blocks = (
        blocks.1.0,
        ap (λ (names : List (List ℕ)). clash (touches names asked blocks.1.0) (touched names (unwrap_or (live_by h (turns_of h before)) []) blocks.1.0)) names_there
            ∙ held_by at.old.names asked blocks.1.0 (own_of h (turns_of h before)) (at.old.offers h) (ap (λ (o : Option Granted). clash (touches at.old.names asked blocks.1.0) (touched at.old.names (unwrap_or o []) blocks.1.0))
            (sym (turns_live true limits h first at.old before nothing_own at.until (inl refl) (fresh_live h first (none h).0 (none h).1)).live) ∙ blocks.1.1),
      )
      clashing _ h blocks = absurd blocks

      shows_at : (told : Reply) → reply ≡ told → Told limits at.old caller at.new call told → Shows limits before after now caller call told
      shows_at (Busy h) is t = (blocker call h t, clashing call h t)
      shows_at (SlotsFull n) is t = (t.0, λ alive plain. slots_on at.new now after at.since alive plain t.1)
      shows_at (PagesFull n) is t = (t.0, λ alive plain. pages_on call n at.new now after at.since alive plain t.1)
      shows_at Media is t = dead_after (faults is)
        where
          faults : reply ≡ Media → at.new.is_dead ≡ true
          faults r = (step_moves limits at.old caller call reply at.new at.step).dead ∙ or_right at.old.is_dead (is_media reply) (ap is_media r)
      shows_at Dead is t = sym (ap (λ b. b || has_fault before) fresh) ∙ sym (turns_dead true limits first at.old before at.until) ∙ t
      shows_at _ is t = tt

    -- What a refusal shows.
    pub refusal_shows : first.is_dead ≡ false → Shows limits before after now caller call reply
    refusal_shows fresh = let at = line_is first now before after (caller, call, reply) runs in shows_at at fresh reply refl (left_there at fresh).told
