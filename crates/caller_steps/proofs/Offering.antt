-- What a commit of a group, or a fault in it, makes of each caller's transaction.
use Rattle.std.proofs.Common.{◌≡◌, ◌≢◌, ℕ, zero, suc, ◌+◌, ◌<◌, ◌≤◌, ◌⊎◌, inl, inr, Bool, true, false, cond, ◌||◌, nat_eq, List, [], ◌∷◌, ◌++◌, length, Option, None, unwrap_or, refl, sym, ap, subst, ◌∙◌, arith, length-append, eq-eqb, ne_eqb}
use Rattle.std.specs.Prelude.{filter, if◌then◌else◌}
use Rattle.std.specs.List.{list_any, range_with_len}
use Rattle.std.proofs.lemmas.Bool.{true≢false, cases_eq, eqb-true, or_parts, or_cases, cond-true, cond-false}
use Rattle.std.proofs.lemmas.List.{append_assoc, append-nil}
use Rattle.std.proofs.lemmas.List.Elements.{filter-append}
use Rattle.std.proofs.lemmas.Map.{update_here, update_apart}
use Rattle.history.specs.Table.{Granted}
use Rattle.history.specs.declared.transaction.Done.{Done}
use Rattle.caller_steps.specs.State.{State, Offer, unoffered, offered, unsettled, offers_with, calls_of, commits_of, with_live, with_offer}
use Rattle.caller_steps.specs.Offers.{is_offered, offerers, done_in, with_done, with_group, group_in, number_among, without}

-- one caller's offer, and the others'
pub offers_here : (offers : ℕ → Offer) (caller : ℕ) (offer : Offer) → offers_with offers caller offer caller ≡ offer
offers_here offers caller offer = cond-true (nat_eq caller caller) offer (offers caller) (eq-eqb caller caller refl)

pub offers_apart : (offers : ℕ → Offer) (caller : ℕ) (offer : Offer) (other : ℕ) → other ≢ caller → offers_with offers caller offer other ≡ offers other
offers_apart offers caller offer other ne = cond-false (nat_eq other caller) offer (offers other) (ne_eqb other caller ne)

-- it is one of them
abbrev pub is_in : ℕ → List ℕ → Bool
is_in caller callers = list_any (nat_eq caller) callers

-- each of them is there once
abbrev pub AreOnce : List ℕ → Type 0
AreOnce [] = Unit {0}
AreOnce (caller ∷ callers) = (is_in caller callers ≡ false) × AreOnce callers

pub not_first : (caller first : ℕ) (callers : List ℕ) → is_in caller (first ∷ callers) ≡ false → (caller ≢ first) × (is_in caller callers ≡ false)
not_first caller first callers out =
    let parts = or_parts (nat_eq caller first) (is_in caller callers) out in
    (λ same. true≢false (sym (eq-eqb caller first same) ∙ parts.0), parts.1)

-- one of a list with the first one or without it
pub in_if : (caller first : ℕ) (rest : List ℕ) (b : Bool) → caller ≢ first → is_in caller (cond b (first ∷ rest) rest) ≡ is_in caller rest
in_if caller first rest true ne = ap (λ (b : Bool). b || is_in caller rest) (ne_eqb caller first ne)
in_if caller first rest false ne = refl

-- those from a number on are not below it
not_below : (p : ℕ → Bool) (from n caller : ℕ) → caller < from → is_in caller (filter p (range_with_len from n)) ≡ false
not_below p from zero caller lt = refl
not_below p from (suc n) caller lt =
    in_if caller from (filter p (range_with_len (from + 1) n)) (p from) (λ same. absurd (omega (arith, same, lt))) ∙ not_below p (from + 1) n caller (omega (arith, lt))

once_if : (first : ℕ) (rest : List ℕ) (b : Bool) → is_in first rest ≡ false → AreOnce rest → AreOnce (cond b (first ∷ rest) rest)
once_if first rest true out once = (out, once)
once_if first rest false out once = once

once_from : (p : ℕ → Bool) (from n : ℕ) → AreOnce (filter p (range_with_len from n))
once_from p from zero = tt
once_from p from (suc n) = once_if from (filter p (range_with_len (from + 1) n)) (p from) (not_below p (from + 1) n from (omega arith)) (once_from p (from + 1) n)

kept_if : (p : ℕ → Bool) (caller first : ℕ) (rest : List ℕ) (b : Bool) → p first ≡ b → is_in caller (cond b (first ∷ rest) rest) ≡ true → (is_in caller rest ≡ true → p caller ≡ true) → p caller ≡ true
kept_if p caller first rest true here found later = elim (or_cases (nat_eq caller first) (is_in caller rest) found) [
  | inl same ↦ ap p (eqb-true caller first same) ∙ here
  | inr behind ↦ later behind
]
kept_if p caller first rest false here found later = later found

kept_from : (p : ℕ → Bool) (from n caller : ℕ) → is_in caller (filter p (range_with_len from n)) ≡ true → p caller ≡ true
kept_from p from zero caller is = absurd (true≢false (sym is))
kept_from p from (suc n) caller is = kept_if p caller from (filter p (range_with_len (from + 1) n)) (p from) refl is (λ later. kept_from p (from + 1) n caller later)

found_here : (first : ℕ) (rest : List ℕ) (b : Bool) → b ≡ true → is_in first (cond b (first ∷ rest) rest) ≡ true
found_here first rest true is = ap (λ (b : Bool). b || is_in first rest) (eq-eqb first first refl)
found_here first rest false is = absurd (true≢false (sym is))

found_from : (p : ℕ → Bool) (from n caller : ℕ) → from ≤ caller → caller < from + n → p caller ≡ true → is_in caller (filter p (range_with_len from n)) ≡ true
found_from p from zero caller le lt is = absurd (omega (arith, le, lt))
found_from p from (suc n) caller le lt is = elim (cases_eq caller from) [
  | inl same ↦ subst (λ (c : ℕ). is_in c (filter p (range_with_len from (suc n))) ≡ true) (sym same) (found_here from (filter p (range_with_len (from + 1) n)) (p from) (ap p (sym same) ∙ is))
  | inr ne ↦ in_if caller from (filter p (range_with_len (from + 1) n)) (p from) ne ∙ found_from p (from + 1) n caller (omega (arith, le, ne)) (omega (arith, lt)) is
]

-- each of those who have offered is there once, has offered, and is found if it is one of the callers
pub offerers_once : (callers : ℕ) (state : State) → AreOnce (offerers callers state)
offerers_once callers state = once_from (λ caller. is_offered (state.offers caller)) 0 callers

is_offer : (offer : Offer) → is_offered offer ≡ true → offer ≡ offered
is_offer offered is = refl
is_offer _ is = absurd (true≢false (sym is))

pub offerer_has : (callers : ℕ) (state : State) (caller : ℕ) → is_in caller (offerers callers state) ≡ true → state.offers caller ≡ offered
offerer_has callers state caller is = is_offer (state.offers caller) (kept_from (λ caller. is_offered (state.offers caller)) 0 callers caller is)

pub offerer_is : (callers : ℕ) (state : State) (caller : ℕ) → caller < callers → state.offers caller ≡ offered → is_in caller (offerers callers state) ≡ true
offerer_is callers state caller lt has = found_from (λ caller. is_offered (state.offers caller)) 0 callers caller (omega arith) (omega (arith, lt)) (ap is_offered has)

-- ---- a group is committed

-- the history has them behind the others
pub group_history : (state : State) (last : ℕ) (callers : List ℕ) → (with_group state last callers).history ≡ state.history ++ group_in state last callers
group_history state last [] = sym (append-nil state.history)
group_history state last (caller ∷ callers) =
    group_history (with_done state last caller) last callers ∙ append_assoc state.history (done_in state last caller ∷ []) (group_in (with_done state last caller) last callers)

pub one_longer : (state : State) (last caller : ℕ) → length (with_done state last caller).history ≡ length state.history + 1
one_longer state last caller = length-append state.history (done_in state last caller ∷ [])

-- nothing else is changed
pub group_names : (state : State) (last : ℕ) (callers : List ℕ) → (with_group state last callers).names ≡ state.names
group_names state last [] = refl
group_names state last (caller ∷ callers) = group_names (with_done state last caller) last callers

pub group_base : (state : State) (last : ℕ) (callers : List ℕ) → (with_group state last callers).base ≡ state.base
group_base state last [] = refl
group_base state last (caller ∷ callers) = group_base (with_done state last caller) last callers

pub group_doubt : (state : State) (last : ℕ) (callers : List ℕ) → (with_group state last callers).doubt ≡ state.doubt
group_doubt state last [] = refl
group_doubt state last (caller ∷ callers) = group_doubt (with_done state last caller) last callers

pub group_dead : (state : State) (last : ℕ) (callers : List ℕ) → (with_group state last callers).is_dead ≡ state.is_dead
group_dead state last [] = refl
group_dead state last (caller ∷ callers) = group_dead (with_done state last caller) last callers

-- what is live and offered of a caller
pub record Stands (state : State) (caller : ℕ) (calls : Option Granted) (given : Offer) : Type 0 where
  pub live : state.live caller ≡ calls
  pub offer : state.offers caller ≡ given

pub done_apart : (state : State) (last first caller : ℕ) → caller ≢ first → Stands (with_done state last first) caller (state.live caller) (state.offers caller)
done_apart state last first caller ne = record {
  live = update_apart state.live first None caller ne;
  offer = offers_apart state.offers first (unsettled (length state.history + 1)) caller ne;
}

-- another caller's stays
pub group_apart : (state : State) (last : ℕ) (callers : List ℕ) (caller : ℕ) → is_in caller callers ≡ false → Stands (with_group state last callers) caller (state.live caller) (state.offers caller)
group_apart state last [] caller out = record { live = refl; offer = refl }
group_apart state last (first ∷ callers) caller out =
    let parts = not_first caller first callers out in
    let rest = group_apart (with_done state last first) last callers caller parts.1 in
    let here = done_apart state last first caller parts.0 in
    record { live = rest.live ∙ here.live; offer = rest.offer ∙ here.offer }

number_first : (n caller : ℕ) (callers : List ℕ) → number_among n (caller ∷ callers) caller ≡ n
number_first n caller callers = ap (λ (b : Bool). if b then n else number_among (n + 1) callers caller) (eq-eqb caller caller refl)

number_later : (n first caller : ℕ) (callers : List ℕ) → caller ≢ first → number_among n (first ∷ callers) caller ≡ number_among (n + 1) callers caller
number_later n first caller callers ne = ap (λ (b : Bool). if b then n else number_among (n + 1) callers caller) (ne_eqb first caller (λ same. ne (sym same)))

-- one of theirs has ended, under its number
pub group_ends : (state : State) (last : ℕ) (callers : List ℕ) (caller : ℕ) → AreOnce callers → is_in caller callers ≡ true
    → Stands (with_group state last callers) caller None (unsettled (number_among (length state.history + 1) callers caller))
group_ends state last [] caller once is = absurd (true≢false (sym is))
group_ends state last (first ∷ callers) caller once is = elim (cases_eq caller first) [
  | inl same ↦ subst (λ (c : ℕ). Stands (with_group state last (first ∷ callers)) c None (unsettled (number_among (length state.history + 1) (first ∷ callers) c))) (sym same) here
  | inr ne ↦ (
      let rest = group_ends (with_done state last first) last callers caller once.1 (later ne (or_cases (nat_eq caller first) (is_in caller callers) is)) in
      record {
        live = rest.live;
        offer = rest.offer ∙ ap (λ (n : ℕ). unsettled (number_among (n + 1) callers caller)) (one_longer state last first)
            ∙ ap unsettled (sym (number_later (length state.history + 1) first caller callers ne));
      })
]
  where
    later : caller ≢ first → (nat_eq caller first ≡ true) ⊎ (is_in caller callers ≡ true) → is_in caller callers ≡ true
    later ne (inl same) = absurd (ne (eqb-true caller first same))
    later ne (inr found) = found

    here : Stands (with_group state last (first ∷ callers)) first None (unsettled (number_among (length state.history + 1) (first ∷ callers) first))
    here =
        let rest = group_apart (with_done state last first) last callers first once.0 in
        record {
          live = rest.live ∙ update_here state.live first None;
          offer = rest.offer ∙ offers_here state.offers first (unsettled (length state.history + 1)) ∙ ap unsettled (sym (number_first (length state.history + 1) first callers));
        }

one_of : (caller : ℕ) (done : Done) (b : Bool) → nat_eq done.caller caller ≡ b → commits_of caller (done ∷ []) ≡ (if b then done ∷ [] else [])
one_of caller done b is = ap (λ b. if b then done ∷ [] else []) is

first_of : (caller : ℕ) (done : Done) (dones : List Done) (b : Bool) → nat_eq done.caller caller ≡ b → commits_of caller (done ∷ dones) ≡ (if b then done ∷ commits_of caller dones else commits_of caller dones)
first_of caller done dones b is = ap (λ b. if b then done ∷ commits_of caller dones else commits_of caller dones) is

-- one more is its caller's,
pub more_mine : (caller : ℕ) (history : List Done) (done : Done) → done.caller ≡ caller → commits_of caller (history ++ done ∷ []) ≡ commits_of caller history ++ done ∷ []
more_mine caller history done is =
    filter-append (λ (done : Done). nat_eq done.caller caller) history (done ∷ []) ∙ ap (λ l. commits_of caller history ++ l) (one_of caller done true (eq-eqb done.caller caller is))

-- and no other's
pub more_theirs : (caller : ℕ) (history : List Done) (done : Done) → done.caller ≢ caller → commits_of caller (history ++ done ∷ []) ≡ commits_of caller history
more_theirs caller history done ne =
    filter-append (λ (done : Done). nat_eq done.caller caller) history (done ∷ []) ∙ ap (λ l. commits_of caller history ++ l) (one_of caller done false (ne_eqb done.caller caller ne)) ∙ append-nil (commits_of caller history)

-- a group has none of a caller that is not among theirs,
pub group_without : (state : State) (last : ℕ) (callers : List ℕ) (caller : ℕ) → is_in caller callers ≡ false → commits_of caller (group_in state last callers) ≡ []
group_without state last [] caller out = refl
group_without state last (first ∷ callers) caller out =
    let parts = not_first caller first callers out in
    first_of caller (done_in state last first) (group_in (with_done state last first) last callers) false (ne_eqb first caller (λ same. parts.0 (sym same)))
    ∙ group_without (with_done state last first) last callers caller parts.1

-- and one of each that is.
pub group_with : (state : State) (last : ℕ) (callers : List ℕ) (caller : ℕ) → AreOnce callers → is_in caller callers ≡ true
    → commits_of caller (group_in state last callers) ≡ record { caller = caller; calls = calls_of state caller; at = number_among (length state.history + 1) callers caller; last = last } ∷ []
group_with state last [] caller once is = absurd (true≢false (sym is))
group_with state last (first ∷ callers) caller once is = elim (cases_eq caller first) [
  | inl same ↦ subst (λ (c : ℕ). commits_of c (group_in state last (first ∷ callers)) ≡ record { caller = c; calls = calls_of state c; at = number_among (length state.history + 1) (first ∷ callers) c; last = last } ∷ []) (sym same) here
  | inr ne ↦ (
      first_of caller (done_in state last first) (group_in (with_done state last first) last callers) false (ne_eqb first caller (λ same. ne (sym same)))
      ∙ group_with (with_done state last first) last callers caller once.1 (later ne (or_cases (nat_eq caller first) (is_in caller callers) is))
      ∙ (λ i. record {
        caller = caller;
        calls = unwrap_or ((done_apart state last first caller ne).live i) [];
        at = (ap (λ (n : ℕ). number_among (n + 1) callers caller) (one_longer state last first) ∙ sym (number_later (length state.history + 1) first caller callers ne)) i;
        last = last;
      } ∷ []))
]
  where
    later : caller ≢ first → (nat_eq caller first ≡ true) ⊎ (is_in caller callers ≡ true) → is_in caller callers ≡ true
    later ne (inl same) = absurd (ne (eqb-true caller first same))
    later ne (inr found) = found

    here : commits_of first (group_in state last (first ∷ callers)) ≡ record { caller = first; calls = calls_of state first; at = number_among (length state.history + 1) (first ∷ callers) first; last = last } ∷ []
    here =
        first_of first (done_in state last first) (group_in (with_done state last first) last callers) true (eq-eqb first first refl)
        ∙ (λ i. record { caller = first; calls = calls_of state first; at = sym (number_first (length state.history + 1) first callers) i; last = last } ∷ group_without (with_done state last first) last callers first once.0 i)

-- so what a caller has committed by it is this
pub group_mine : (state : State) (last : ℕ) (callers : List ℕ) (caller : ℕ) → commits_of caller (state.history ++ group_in state last callers) ≡ commits_of caller state.history ++ commits_of caller (group_in state last callers)
group_mine state last callers caller = filter-append (λ (done : Done). nat_eq done.caller caller) state.history (group_in state last callers)

-- ---- a group is in doubt

-- one of them has ended
abbrev pub one_out : State → ℕ → State
one_out state caller = with_offer (with_live state caller None) caller unoffered

pub without_history : (state : State) (callers : List ℕ) → (without state callers).history ≡ state.history
without_history state [] = refl
without_history state (caller ∷ callers) = without_history (one_out state caller) callers

pub without_names : (state : State) (callers : List ℕ) → (without state callers).names ≡ state.names
without_names state [] = refl
without_names state (caller ∷ callers) = without_names (one_out state caller) callers

pub without_base : (state : State) (callers : List ℕ) → (without state callers).base ≡ state.base
without_base state [] = refl
without_base state (caller ∷ callers) = without_base (one_out state caller) callers

pub without_apart : (state : State) (callers : List ℕ) (caller : ℕ) → is_in caller callers ≡ false → Stands (without state callers) caller (state.live caller) (state.offers caller)
without_apart state [] caller out = record { live = refl; offer = refl }
without_apart state (first ∷ callers) caller out =
    let parts = not_first caller first callers out in
    let rest = without_apart (one_out state first) callers caller parts.1 in
    record { live = rest.live ∙ update_apart state.live first None caller parts.0; offer = rest.offer ∙ offers_apart state.offers first unoffered caller parts.0 }

pub without_ends : (state : State) (callers : List ℕ) (caller : ℕ) → AreOnce callers → is_in caller callers ≡ true → Stands (without state callers) caller None unoffered
without_ends state [] caller once is = absurd (true≢false (sym is))
without_ends state (first ∷ callers) caller once is = elim (or_cases (nat_eq caller first) (is_in caller callers) is) [
  | inl same ↦ subst (λ (c : ℕ). Stands (without state (first ∷ callers)) c None unoffered) (sym (eqb-true caller first same)) (
      let rest = without_apart (one_out state first) callers first once.0 in
      record { live = rest.live ∙ update_here state.live first None; offer = rest.offer ∙ offers_here state.offers first unoffered })
  | inr later ↦ without_ends (one_out state first) callers caller once.1 later
]
