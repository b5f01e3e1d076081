-- Keys that an index gains and loses.
use Rattle.std.proofs.Common.{◌≡◌, ◌≢◌, ℕ, ◌+◌, List, [], ◌∷◌, length, Option, Some, None, sym, ap, ◌∙◌, subst, arith}
use Rattle.std.specs.Prelude.{All}
use Rattle.std.specs.List.{AllPairs}
use Rattle.std.specs.Map.{update}
use Rattle.std.proofs.lemmas.List.Elements.{All-nil, All-cons}
use Rattle.std.proofs.lemmas.List.Kept.{AllPairs-cons}
use Rattle.history.specs.Key.{is_same_key}
use Rattle.history.specs.declared.key.Key.{Key}
use Rattle.caller_steps.specs.State.{Index}
use Rattle.caller_steps.specs.Shown.{Change, gain, loss, gained_in, lost_in, Changed}
use Rattle.caller_steps.proofs.AtKeys.{at_key, at_other_key}

some_none : {X : Type 0} (slot : ℕ) → Some slot ≡ None → X
some_none slot e = absurd (cc)

-- a list with a key is not empty
not_empty : {X : Type 0} (key : Key) (keys : List Key) → ◌≡◌ {A = List Key} (key ∷ keys) [] → X
not_empty key keys e = absurd (cc)

pub changed_slots : (first now : Index) (changes : List Change) → Changed first changes now → now.keys.used_slots + length (lost_in changes) ≡ first.keys.used_slots + length (gained_in changes)
changed_slots first now [] g = let e = g.1 in omega arith
changed_slots first now (gain key ∷ changes) g = let i = changed_slots first g.0 changes g.1 in let e = g.4 in omega arith
changed_slots first now (loss key ∷ changes) g = let i = changed_slots first g.0 changes g.1 in let e = g.4 in omega arith

-- a key that an index lacks is none of those that it has gained, and the index lacked it at first
apart_one : (key other : Key) (before now : Index) → now.keys.slot_of ≡ update is_same_key before.keys.slot_of key (Some before.keys.due) → now.keys.slot_of other ≡ None → other ≢ key
apart_one key other before now set lacks same =
    some_none before.keys.due (sym (at_key before.keys.slot_of key (Some before.keys.due)) ∙ ap (λ (f : Key → Option ℕ). f key) (sym set) ∙ subst (λ k. now.keys.slot_of k ≡ None) same lacks)

lacked_before : (key other : Key) (before now : Index) → now.keys.slot_of ≡ update is_same_key before.keys.slot_of key (Some before.keys.due) → now.keys.slot_of other ≡ None → before.keys.slot_of other ≡ None
lacked_before key other before now set lacks =
    sym (at_other_key before.keys.slot_of key (Some before.keys.due) other (apart_one key other before now set lacks)) ∙ ap (λ (f : Key → Option ℕ). f other) (sym set) ∙ lacks

lacks_first : (first now : Index) (changes : List Change) (other : Key) → Changed first changes now → lost_in changes ≡ [] → now.keys.slot_of other ≡ None → first.keys.slot_of other ≡ None
lacks_first first now [] other g none lacks = ap (λ (f : Key → Option ℕ). f other) (sym g.0) ∙ lacks
lacks_first first now (gain key ∷ changes) other g none lacks = lacks_first first g.0 changes other g.1 none (lacked_before key other g.0 now g.3 lacks)
lacks_first first now (loss key ∷ changes) other g none lacks = not_empty key (lost_in changes) none

lacks_each : (first now : Index) (changes : List Change) (other : Key) → Changed first changes now → lost_in changes ≡ [] → now.keys.slot_of other ≡ None → All (λ key. other ≢ key) (gained_in changes)
lacks_each first now [] other g none lacks = All-nil (λ key. other ≢ key)
lacks_each first now (gain key ∷ changes) other g none lacks =
    All-cons (λ key. other ≢ key) key (gained_in changes) (apart_one key other g.0 now g.3 lacks) (lacks_each first g.0 changes other g.1 none (lacked_before key other g.0 now g.3 lacks))
lacks_each first now (loss key ∷ changes) other g none lacks = not_empty key (lost_in changes) none

pub gained_missing : (first now : Index) (changes : List Change) → Changed first changes now → lost_in changes ≡ [] → All (λ key. first.keys.slot_of key ≡ None) (gained_in changes)
gained_missing first now [] g none = All-nil (λ key. first.keys.slot_of key ≡ None)
gained_missing first now (gain key ∷ changes) g none = All-cons (λ key. first.keys.slot_of key ≡ None) key (gained_in changes) (lacks_first first g.0 changes key g.1 none g.2) (gained_missing first g.0 changes g.1 none)
gained_missing first now (loss key ∷ changes) g none = not_empty key (lost_in changes) none

pub gained_apart : (first now : Index) (changes : List Change) → Changed first changes now → lost_in changes ≡ [] → AllPairs (λ one other. one ≢ other) (gained_in changes)
gained_apart first now [] g none = λ i j d low high. absurd (omega arith)
gained_apart first now (gain key ∷ changes) g none = AllPairs-cons (λ one other. one ≢ other) key (gained_in changes) (lacks_each first g.0 changes key g.1 none g.2) (gained_apart first g.0 changes g.1 none)
gained_apart first now (loss key ∷ changes) g none = not_empty key (lost_in changes) none
