-- Opening the table, dealing out the passes, taking them in, and the end.
use Rattle.std.proofs.Common.{◌≡◌, ◌≢◌, ◌⊎◌, ℕ, zero, suc, ◌+◌, ◌-◌, ◌<◌, ◌≤◌, eqb, List, [], ◌∷◌, ◌++◌, length, set, get_or, replicate, unwrap_or, false, Option, Some, None, refl, sym, ap, ◌∙◌, subst, inl, inr, ⊎_elim, arith, length-set, map, eq-eqb, ne_eqb, append_assoc}
use Rattle.std.specs.Prelude.{if◌then◌else◌, IfSome}
use Rattle.std.specs.Option.{option_to_list}
use mathlib.Core.Logic.{dite}
use mathlib.Core.List.{append-nil}
use mathlib.Core.Option.{some, none, some-injective, some-ne-none}
use native.Mathlib.Decide.{dec_le, ℕ_discrete}
use lib.ListN.{get_elem?}
use Rattle.std.proofs.lemmas.Bool.Decides.{nat_tests}
use Rattle.caller_steps.specs.State.{State as CoreState}
use Rattle.atomic_table.specs.Table.{step, takes, gives, Allows, Splits, Joins, Final, Seen, opening, rest}
use Rattle.atomic_table.specs.Seated.{TableId}
use Rattle.atomic_table.proofs.Lists.{set_here, set_else, at_snoc, at_longer}
use Rattle.history.specs.declared.locks.Mode.{Mode}
use Rattle.history.specs.declared.locks.Mode.TheVariants as mode
use Rattle.mars_manager.specs.declared.view.Known.{Known}
use Rattle.mars_manager.specs.declared.view.Met.{Met}
use Rattle.mars_manager.specs.Asked.{set_for, AreMet, AreCaused}
use Rattle.mars_manager.proofs.Asking.{none_here}
use Rattle.mars_manager.specs.declared.view.Stage.{Stage}
use Rattle.mars_manager.specs.declared.view.Stage.TheVariants.{Vacant, Opening, Shared}
use Rattle.mars_manager.specs.declared.view.View.{View}
use Rattle.mars_manager.specs.declared.setup.Setup.{Setup}
use Rattle.caller_steps.specs.Run.{Turn, GoesAlong, AreOf, LastTurn}
use Rattle.caller_steps.proofs.Running.{turn_none}
use Rattle.mars_manager.specs.Pass.{AllFit, names_of, takes_of, AreSo, times, newcomer, PassView, PassesView, AllOf, dealt, known_of}
use Rattle.mars_manager.specs.Sharing.{CanShare, Since}
use Rattle.mars_manager.specs.Seat.{TableOf, SeatOf, IsIdle, first_of, seat_of, view, shared_view, opener, newcomers, behind, front, joined, spent}
use Rattle.history.specs.Table.{Granted}
use Rattle.history.specs.Locks.{touched}
use Rattle.stripe_words.specs.declared.hold.Hold.{Hold}
use Rattle.stripe_words.specs.declared.hold.Hold.TheVariants.{Free, Trying}
use Rattle.stripe_words.specs.Words.{Stands, marked, locked}
use Rattle.stripe_words.proofs.Steps.{stands_free}
use Rattle.mars_manager.specs.Locks.{IsCovered, hold_of}
use Rattle.mars_manager.proofs.Locked.{covered_none}
use Rattle.mars_manager.specs.Rule.{Face, AllHave, count, IsFree, IsHeld, IsKept, IsFresh, IsOpening, Rule, began, gives_turn}
use Rattle.mars_manager.proofs.Past.{since_shared}
use Rattle.mars_manager.proofs.Seats.{times_append, at_only, each_set, total_set, total_two, total_snoc, total_has}
use Rattle.mars_manager.proofs.Turns.{same_run, out, some_same, some≢none, is_open, vacant≢shared, opening≢shared, vacant≢opening}

repeated : {A : Type 0} (n t : ℕ) (a : A) → get_or (replicate n a) t a ≡ a
repeated zero t a = refl
repeated (suc n) zero a = refl
repeated (suc n) (suc t) a = repeated n t a

-- nobody has a bit where all have nothing
no_bit : {X : Type 0} (asked : Mode) (x : Hold) → x ≡ Free → set_for asked x ≡ 1 → X
no_bit mode.Shared x free bit = (let z = ap marked free in absurd (omega arith))
no_bit mode.Exclusive x free bit = (let z = ap locked free in absurd (omega arith))

no_try : Free ≢ Trying
no_try e = absurd (cc)

only_zero : {A : Type 0} (x : A) (i : ℕ) (a : A) → get_elem? (x ∷ []) i ≡ some a → i ≡ 0
only_zero x zero a e = refl
only_zero x (suc i) a e = absurd (some-ne-none a (sym e))

module _ {C : Type 0} where
  -- each of the new passes is there once
  few_before : (setup : Setup C) (n m count : ℕ) → n < m → times n (newcomers setup m count) ≡ 0
  few_before setup n m zero l = refl
  few_before setup n m (suc count) l =
      let i = few_before setup n (suc m) count (omega arith) in
      let e : eqb m n ≡ false = grind (arith, nat_tests) in
      ap (λ b. (if b then 1 else 0) + times n (newcomers setup (suc m) count)) e ∙ (let z : 0 + times n (newcomers setup (suc m) count) ≡ 0 = omega arith in z)

  pub once_each : (setup : Setup C) (n m count : ℕ) → times n (newcomers setup m count) ≤ 1
  once_each setup n m zero = omega arith
  once_each setup n m (suc count) =
      dite (ℕ_discrete m n)
      (λ (e : m ≡ n). let i = few_before setup n (suc m) count (omega arith) in let t : times n (newcomers setup m (suc count)) ≡ 1 + times n (newcomers setup (suc m) count) = ap (λ b. (if b then 1 else 0) + times n (newcomers setup (suc m) count)) (eq-eqb m n e) in omega arith)
      (λ (ne : m ≢ n). let i = once_each setup n (suc m) count in let t : times n (newcomers setup m (suc count)) ≡ 0 + times n (newcomers setup (suc m) count) = ap (λ b. (if b then 1 else 0) + times n (newcomers setup (suc m) count)) (ne_eqb m n ne) in omega arith)

  pub none_above : (setup : Setup C) (n m count : ℕ) → m + count ≤ n → times n (newcomers setup m count) ≡ 0
  none_above setup n m zero l = refl
  none_above setup n m (suc count) l =
      let i = none_above setup n (suc m) count (omega arith) in
      let t : times n (newcomers setup m (suc count)) ≡ 0 + times n (newcomers setup (suc m) count) = ap (λ b. (if b then 1 else 0) + times n (newcomers setup (suc m) count)) (ne_eqb m n (λ e. omega arith)) in omega arith

module _ {C : Type 0} (f : Face C) (setup : Setup C) where
  -- the rule holds at the start
  pub begins : Rule f setup (opening (replicate 66 0) (None ∷ []) (opener Vacant setup))
  begins = inl (record { words = refl; homes = refl; views = refl })

  stage_of : (s : TableOf C) (id : ℕ) (v : View C) (stage : Stage) → s.views ≡ opener stage setup ∷ [] → get_elem? s.views id ≡ some v → (v.stage ≡ stage) × (id ≡ 0)
  stage_of s id v stage e at = let at' = subst (λ l. get_elem? l id ≡ some v) e at in (ap (λ (u : View C). u.stage) (sym (at_only (opener stage setup) id v at')), only_zero (opener stage setup) id v at')

  is_fresh : (s : TableOf C) (id : ℕ) (v : View C) → Rule f setup s → get_elem? s.views id ≡ some v → v.stage ≡ Vacant → IsFresh setup s × (id ≡ 0)
  is_fresh s id v rule at z =
      ⊎_elim
      (λ (x : IsFresh setup s). (x, (stage_of s id v Vacant x.views at).1))
      (λ (y : IsOpening setup s ⊎ IsKept f setup s). ⊎_elim (λ (x : IsOpening setup s). vacant≢opening (sym z ∙ (stage_of s id v Opening x.views at).0)) (λ (k : IsKept f setup s). vacant≢shared (sym z ∙ k.staged id v at)) y)
      rule

  is_opening : (s : TableOf C) (id : ℕ) (v : View C) → Rule f setup s → get_elem? s.views id ≡ some v → v.stage ≡ Opening → IsOpening setup s × (id ≡ 0)
  is_opening s id v rule at z =
      ⊎_elim
      (λ (x : IsFresh setup s). vacant≢opening (sym (stage_of s id v Vacant x.views at).0 ∙ z))
      (λ (y : IsOpening setup s ⊎ IsKept f setup s). ⊎_elim (λ (x : IsOpening setup s). (x, (stage_of s id v Opening x.views at).1)) (λ (k : IsKept f setup s). opening≢shared (sym z ∙ k.staged id v at)) y)
      rule

  pub begins_keeps : (slots id : ℕ) → Allows (Rule f setup) slots id (opener Vacant setup, []) 64 (λ _. 1) (λ _. began (step slots 64 1 0 none) (opener Vacant setup, []) 1)
  begins_keeps slots id s rule wide at _ =
      let x = is_fresh s id (opener Vacant setup) rule at refl in
      let w : View C = opener Opening setup in (
        w,
        takes 0 None,
        subst (λ l. get_elem? l 0 ≡ some (some None)) (sym x.0.homes) refl,
        inr (inl (record {
          words = ap (λ l. set l 64 1) x.0.words;
          one = length-set s.homes 0 none ∙ ap length x.0.homes;
          views = ap (λ l. set l id w) x.0.views ∙ ap (λ i. set (opener Vacant setup ∷ []) i w) x.1;
        })),
        refl,
      )

  -- a pass that was told nothing knows what is true at the beginning
  fresh_fit : (m n : ℕ) → (f.show setup.first).state.history ≡ [] → AllFit f.tells f.show setup [] (f.show setup.first).state (newcomers setup m n)
  fresh_fit m zero none_done = tt
  fresh_fit m (suc n) none_done = (
    record {
      setup_is = refl;
      last = subst (λ h. LastTurn f.tells (f.show setup.first).limits m [] h (f.show setup.first).state [] (f.show setup.first).state) none_done (turn_none f.tells (f.show setup.first).limits m (f.show setup.first).state);
      heard = omega arith;
    },
    fresh_fit (suc m) n none_done,
  )

  fresh_have : (m n : ℕ) → AllHave (λ i. replicate 64 Free) (λ i. []) (newcomers setup m n)
  fresh_have m zero = tt
  fresh_have m (suc n) = ((refl, refl), fresh_have (suc m) n)

  pub opens_keeps : (slots id : ℕ) → CanShare f.tells setup.callers (f.show setup.first) → setup.names ≡ (f.show setup.first).state.names → setup.callers ≤ 32
      → Allows (Rule f setup) slots id (opener Opening setup, (0, Some setup.first) ∷ []) 64 (λ _. 0) (λ _. gives_turn (step slots 64 0 0 none) (opener Opening setup, (0, Some setup.first) ∷ []) 0)
  opens_keeps slots id can named few s rule wide at _ =
      let core = setup.first in
      let x = is_opening s id (opener Opening setup) rule at refl in
      let w : View C = opener Shared setup in
      let views : set s.views id w ≡ w ∷ [] = ap (λ l. set l id w) x.0.views ∙ ap (λ i. set (opener Opening setup ∷ []) i w) x.1 in
      let words : set s.words 64 0 ≡ replicate 66 0 = ap (λ l. set l 64 0) x.0.words in
      let only : (P : View C → Type 0) → P w → (i : ℕ) (v : View C) → get_elem? (set s.views id w) i ≡ some v → P v = λ P p i v e. subst P (at_only w i v (subst (λ l. get_elem? l i ≡ some v) views e)) p in (
        w,
        gives,
        tt,
        inr (inr (record {
          core = core;
          turns = [];
          wide = ap length words;
          holds = λ n. replicate 64 Free;
          met = λ n. [];
          locks = record {
            have = only (λ v. AllHave (λ n. replicate 64 Free) (λ n. []) v.passes) (fresh_have 0 setup.callers);
            strangers = λ n le. (refl, refl);
            asked = λ asked n t bit. no_bit asked (get_or (replicate 64 Free) t Free) (repeated 64 t Free) bit;
            caused = λ n step there. none_here step there;
            long = λ n. refl;
            stripes = λ t l. subst (λ w. Stands w (λ n. get_or (replicate 64 Free) t Free)) (sym (ap (λ ws. get_or ws t 0) words ∙ repeated 66 t 0)) (stands_free (λ n. get_or (replicate 64 Free) t Free) (λ h. repeated 64 t Free));
            covered = λ alive n. subst (λ (live : Option Granted). IsCovered (touched setup.names (unwrap_or live [])) (replicate 64 Free)) (sym (can.live n)) (covered_none setup.names (replicate 64 Free));
          };
          one = length-set s.homes 0 (some (Some core)) ∙ x.0.one;
          told = ap (λ l. get_or l 65 0) words ∙ sym (ap length can.history);
          place = inl (record {
            turn = ap (λ l. get_or l 64 0) words;
            home = set_here s.homes 0 (some (Some core)) (let o = x.0.one in omega arith);
            nobody = only (λ v. v.held ≡ None) refl;
          });
          staged = only (λ v. v.stage ≡ Shared) refl;
          fit = only (λ v. AllFit f.tells f.show setup [] (f.show core).state v.passes) (fresh_fit 0 setup.callers can.history);
          once = λ n. (let t : count n (set s.views id w) ≡ times n w.passes + 0 = ap (count n) views in let o = once_each setup n 0 setup.callers in omega arith);
          below = λ n b. (let t : count n (set s.views id w) ≡ times n w.passes + 0 = ap (count n) views in let o = none_above setup n 0 setup.callers (omega arith) in omega arith);
          few = few;
          named = named;
          ready = can;
          since = since_shared f.tells setup.callers (f.show core) can;
          run = refl;
          whose = tt;
        })),
        refl,
      )

  same_at : (vs : List (View C)) (i : ℕ) (v w : View C) → get_elem? vs i ≡ some v → get_elem? vs i ≡ some w → v ≡ w
  same_at vs i v w a b = some-injective v w (sym a ∙ b)

  not_holder : (s : TableOf C) (core : C) (x : IsHeld core s) (id : ℕ) (v : View C) → get_elem? s.views id ≡ some v → v.held ≡ None → x.seat ≢ id
  not_holder s core x id v at idle e = some≢none core (sym x.holds ∙ ap (λ (u : View C). u.held) (same_at s.views id x.holder v (subst (λ i. get_elem? s.views i ≡ some x.holder) e x.there) at) ∙ idle)

  -- the views after a pass was dealt out
  after_deal : (P : ℕ → View C → Type 0) (vs : List (View C)) (id : ℕ) (left right : View C) → P id left → ((j : ℕ) → P j right) → ((j : ℕ) (v : View C) → get_elem? vs j ≡ some v → P j v) → (j : ℕ) (v : View C) → get_elem? (set vs id left ++ right ∷ []) j ≡ some v → P j v
  after_deal P vs id left right a b each j v e =
      ⊎_elim
      (λ (there : get_elem? (set vs id left) j ≡ some v). each_set P vs id left a (λ j v _ e. each j v e) j v there)
      (λ (same : right ≡ v). subst (P j) same (b j))
      (at_snoc (set vs id left) right v j e)

  dealt_by : (s : TableOf C) (id : ℕ) (k : Known C) (ks : List (Known C)) (h : IsKept f setup s) → get_elem? s.views id ≡ some (shared_view (k ∷ ks) None)
      → IsKept f setup (record { words = s.words; homes = s.homes; views = set s.views id (shared_view ks None) ++ shared_view (k ∷ []) None ∷ [] })
  dealt_by s id k ks h at =
      let v : View C = shared_view (k ∷ ks) None in
      let left : View C = shared_view ks None in
      let right : View C = shared_view (k ∷ []) None in
      let fit = h.fit id v at in
      let vs : List (View C) = set s.views id left ++ right ∷ [] in
      let counts : (n : ℕ) → count n vs ≡ count n s.views = (λ n.
      let a = total_set (λ (v : View C). times n v.passes) s.views id v left at in
      let b = total_snoc (λ (v : View C). times n v.passes) (set s.views id left) right in
      let c = times_append n (k ∷ []) ks in
      omega arith) in
      same_run f setup s h s.words s.homes vs h.wide h.one h.told
      (⊎_elim
      (λ (x : IsFree h.core s). inl (record { turn = x.turn; home = x.home; nobody = after_deal (λ _ u. u.held ≡ None) s.views id left right refl (λ _. refl) x.nobody }))
      (λ (x : IsHeld h.core s). let ne = not_holder s h.core x id v at refl in inr (record {
        number = x.number;
        seat = x.seat;
        holder = x.holder;
        turn = x.turn;
        there = at_longer (set s.views id left) (right ∷ []) x.seat x.holder (set_else s.views id x.seat left ne ∙ x.there);
        holds = x.holds;
        has = x.has;
        others = λ i u apart e. after_deal (λ i u. i ≢ x.seat → u.held ≡ None) s.views id left right (λ _. refl) (λ _ _. refl) (λ i u e apart. x.others i u apart e) i u e apart;
      }))
      h.place)
      (after_deal (λ _ u. u.stage ≡ Shared) s.views id left right refl (λ _. refl) h.staged) (after_deal (λ _ u. AllFit f.tells f.show setup h.turns (f.show h.core).state u.passes) s.views id left right fit.1 (λ _. (fit.0, tt)) h.fit) counts (λ t l. refl) (after_deal (λ _ u. AllHave h.holds h.met u.passes) s.views id left right (h.locks.have id v at).1 (λ _. ((h.locks.have id v at).0, tt)) h.locks.have)

  pub deals_keeps : (id : ℕ) (k : Known C) (ks : List (Known C)) → Splits (Rule f setup) id (shared_view (k ∷ ks) None) (shared_view ks None) (shared_view (k ∷ []) None)
  deals_keeps id k ks s rule at = inr (inr (dealt_by s id k ks (is_open f setup s id (shared_view (k ∷ ks) None) rule at refl) at))

  all_append : (turns : List Turn) (state : CoreState) (ks ls : List (Known C)) → AllFit f.tells f.show setup turns state ks → AllFit f.tells f.show setup turns state ls → AllFit f.tells f.show setup turns state (ks ++ ls)
  all_append turns state [] ls a b = b
  all_append turns state (k ∷ ks) ls a b = (a.0, all_append turns state ks ls a.1 b)

  have_append : (holds : ℕ → List Hold) (met : ℕ → List Met) (ks ls : List (Known C)) → AllHave holds met ks → AllHave holds met ls → AllHave holds met (ks ++ ls)
  have_append holds met [] ls a b = b
  have_append holds met (k ∷ ks) ls a b = (a.0, have_append holds met ks ls a.1 b)

  after_join : (P : ℕ → View C → Type 0) (vs : List (View C)) (id other : ℕ) (both gone : View C) → P id both → P other gone → ((j : ℕ) (v : View C) → get_elem? vs j ≡ some v → P j v) → (j : ℕ) (v : View C) → get_elem? (set (set vs id both) other gone) j ≡ some v → P j v
  after_join P vs id other both gone a b each = each_set P (set vs id both) other gone b (λ j v _ e. each_set P vs id both a (λ j v _ e. each j v e) j v e)

  gathered_by : (s : TableOf C) (id other : ℕ) (ks ls : List (Known C)) (h : IsKept f setup s) → get_elem? s.views id ≡ some (shared_view ks None) → other ≢ id → get_elem? s.views other ≡ some (shared_view ls None)
      → IsKept f setup (record { words = s.words; homes = s.homes; views = set (set s.views id (shared_view (ks ++ ls) None)) other (shared_view [] None) })
  gathered_by s id other ks ls h at apart there =
      let v : View C = shared_view ks None in
      let w : View C = shared_view ls None in
      let both : View C = shared_view (ks ++ ls) None in
      let rest : View C = shared_view [] None in
      let vs : List (View C) = set (set s.views id both) other rest in
      let still = set_else s.views id other both apart ∙ there in
      let counts : (n : ℕ) → count n vs ≡ count n s.views = (λ n.
      let a = total_set (λ (v : View C). times n v.passes) s.views id v both at in
      let b = total_set (λ (v : View C). times n v.passes) (set s.views id both) other w rest still in
      let c = times_append n ks ls in
      omega arith) in
      same_run f setup s h s.words s.homes vs h.wide h.one h.told
      (⊎_elim
      (λ (x : IsFree h.core s). inl (record { turn = x.turn; home = x.home; nobody = after_join (λ _ u. u.held ≡ None) s.views id other both rest refl refl x.nobody }))
      (λ (x : IsHeld h.core s). inr (record {
        number = x.number;
        seat = x.seat;
        holder = x.holder;
        turn = x.turn;
        there = set_else (set s.views id both) other x.seat rest (not_holder s h.core x other w there refl) ∙ (set_else s.views id x.seat both (not_holder s h.core x id v at refl) ∙ x.there);
        holds = x.holds;
        has = x.has;
        others = λ i u ne e. after_join (λ i u. i ≢ x.seat → u.held ≡ None) s.views id other both rest (λ _. refl) (λ _. refl) (λ i u e ne. x.others i u ne e) i u e ne;
      }))
      h.place)
      (after_join (λ _ u. u.stage ≡ Shared) s.views id other both rest refl refl h.staged) (after_join (λ _ u. AllFit f.tells f.show setup h.turns (f.show h.core).state u.passes) s.views id other both rest (all_append h.turns (f.show h.core).state ks ls (h.fit id v at) (h.fit other w there)) tt h.fit) counts (λ t l. refl) (after_join (λ _ u. AllHave h.holds h.met u.passes) s.views id other both rest (have_append h.holds h.met ks ls (h.locks.have id v at) (h.locks.have other w there)) tt h.locks.have)

  pub gathers_keeps : (id other : ℕ) (ks ls : List (Known C)) → Joins (Rule f setup) id (shared_view ks None) other (shared_view ls None) (shared_view (ks ++ ls) None) (shared_view [] None)
  gathers_keeps id other ks ls s rule at apart there =
      inr (inr (gathered_by s id other ks ls (is_open f setup s id (shared_view ks None) rule at refl) at apart (sym (set_else s.views id other (shared_view (ks ++ ls) None) apart) ∙ there)))

  -- the steps of each of these passes are those of its number
  abbrev pub AllMeet : (ℕ → List Met) → List (Known C) → Type 0
  AllMeet met [] = Unit {0}
  AllMeet met (k ∷ ks) = (k.met ≡ met k.number) × AllMeet met ks

  have_met : (holds : ℕ → List Hold) (met : ℕ → List Met) (ks : List (Known C)) → AllHave holds met ks → AllMeet met ks
  have_met holds met [] a = tt
  have_met holds met (k ∷ ks) a = (a.0.1, have_met holds met ks a.1)

  pub all_met : (met : ℕ → List Met) (ps : List (PassView C)) → AllMeet met (map known_of ps) → AreMet met ps
  all_met met [] a = tt
  all_met met (p ∷ ps) a = (a.0, all_met met ps a.1)

  -- what is known of the core in the slot at the end
  pub record Ended (ks : List (Known C)) (core : C) : Type 0 where
    pub turns : List Turn
    pub fit : AllFit f.tells f.show setup turns (f.show core).state ks
    pub since : Since f.tells (f.show setup.first) (f.show core)
    pub run : GoesAlong f.tells (f.show setup.first).limits (f.show setup.first).state turns (f.show core).state
    pub whose : AreOf setup.callers turns
    pub ready : CanShare f.tells setup.callers (f.show setup.first)
    pub met : ℕ → List Met
    pub each : AllMeet met ks
    pub strangers : (n : ℕ) → setup.callers ≤ n → met n ≡ []
    pub caused : AreCaused met

  pub ends : (id : ℕ) (ks : List (Known C)) (ws : List ℕ) (xs : List (Option C)) → ((n : ℕ) → n < setup.callers → 0 < times n ks) → Final (Seen (Rule f setup) id (shared_view ks None)) ws xs
      → (core : C) × (get_elem? xs 0 ≡ some (Some core)) × Ended ks core
  ends id ks ws xs all final =
      let s = final.0 in
      let at = final.1.1 in
      let v : View C = shared_view ks None in
      let h : IsKept f setup s = is_open f setup s id v final.1.0 at refl in
      ⊎_elim
      (λ (x : IsFree h.core s). (h.core, final.4 0 (Some h.core) x.home, record { turns = h.turns; fit = h.fit id v at; since = h.since; run = h.run; whose = h.whose; ready = h.ready; met = h.met; each = have_met h.holds h.met ks (h.locks.have id v at); strangers = λ n le. (h.locks.strangers n le).1; caused = h.locks.caused }))
      (λ (x : IsHeld h.core s).
      let t = total_two (λ (v : View C). times x.number v.passes) s.views x.seat id x.holder v (not_holder s h.core x id v at refl) x.there at in
      let o = h.once x.number in
      let has = x.has in
      let below : x.number < setup.callers = dite (dec_le setup.callers x.number) (λ (le : setup.callers ≤ x.number). let b = h.below x.number le in let t = total_has (λ (v : View C). times x.number v.passes) s.views x.seat x.holder x.there in absurd (omega arith)) (λ (ge : ¬ (setup.callers ≤ x.number)). omega arith) in
      let mine = all x.number below in
      absurd (omega arith))
      h.place

  -- the moves at a given seat
  pub begins_as : (slots id : ℕ) (m : SeatOf C) → m ≡ (opener Vacant setup, []) → Allows (Rule f setup) slots id m 64 (λ _. 1) (λ _. began (step slots 64 1 0 none) m 1)
  begins_as slots id m e = subst (λ (m : SeatOf C). Allows (Rule f setup) slots id m 64 (λ _. 1) (λ _. began (step slots 64 1 0 none) m 1)) (sym e) (begins_keeps slots id)

  pub opens_as : (slots id : ℕ) (core : C) (m : SeatOf C) → m ≡ (opener Opening setup, out core) → core ≡ setup.first → CanShare f.tells setup.callers (f.show core) → setup.names ≡ (f.show setup.first).state.names → setup.callers ≤ 32
      → Allows (Rule f setup) slots id m 64 (λ _. 0) (λ _. gives_turn (step slots 64 0 0 none) m 0)
  opens_as slots id core m e same can named few =
      let now : C → SeatOf C = λ c. (opener Opening setup, out c) in
      subst (λ (m : SeatOf C). Allows (Rule f setup) slots id m 64 (λ _. 0) (λ _. gives_turn (step slots 64 0 0 none) m 0)) (sym (e ∙ ap now same))
      (opens_keeps slots id (subst (λ c. CanShare f.tells setup.callers (f.show c)) same can) named few)

  pub deals_as : (id : ℕ) (k : Known C) (ks : List (Known C)) (v : View C) → v ≡ shared_view (k ∷ ks) None → Splits (Rule f setup) id v (view v.stage (behind v.passes) v.held) (view v.stage (front v.passes) None)
  deals_as id k ks v e = subst (λ (v : View C). Splits (Rule f setup) id v (view v.stage (behind v.passes) v.held) (view v.stage (front v.passes) None)) (sym e) (deals_keeps id k ks)

  pub gathers_as : (id other : ℕ) (ks ls : List (Known C)) (v w : View C) → v ≡ shared_view ks None → w ≡ shared_view ls None → Joins (Rule f setup) id v other w (joined v w) spent
  gathers_as id other ks ls v w e o = subst (λ (x : View C × View C). Joins (Rule f setup) id x.0 other x.1 (joined x.0 x.1) spent) (λ i. (sym e i, sym o i)) (gathers_keeps id other ks ls)

module _ {C : Type 0} where
  -- the next pass to be dealt out
  pub next_pass : (setup : Setup C) (n callers : ℕ) → n < callers
      → newcomers setup n (callers - n) ≡ newcomer setup n ∷ newcomers setup (n + 1) (callers - (n + 1))
  next_pass setup n callers l =
      let more : callers - n ≡ suc (callers - (n + 1)) = omega arith in
      let one : suc n ≡ n + 1 = omega arith in
      ap (λ c. newcomers setup n c) more ∙ ap (λ m. newcomer setup n ∷ newcomers setup m (callers - (n + 1))) one

  -- a pass that was just dealt out
  pub new_idle : (setup : Setup C) (n : ℕ) (m : SeatOf C) → m ≡ seat_of (newcomer setup n) → n < 32 → IsIdle n setup.names (replicate 64 Free) false m
  new_idle setup n m e l = record {
    seat = record { known = newcomer setup n; is = e; number = refl; small = l; long = refl; covered = covered_none setup.names (replicate 64 Free) };
    named = ap (λ (m : SeatOf C). names_of (first_of m.0.passes)) e;
    same = ap (λ (m : SeatOf C). (first_of m.0.passes).holds) e;
    settled = λ t z. no_try (sym (ap (λ (m : SeatOf C). hold_of t (first_of m.0.passes)) e ∙ repeated 64 t Free) ∙ z);
    takes_is = ap (λ (m : SeatOf C). takes_of (first_of m.0.passes)) e;
  }

  pub dealt_more : (table : TableId) (setup : Setup C) (n : ℕ) → dealt table setup (n + 1) ≡ dealt table setup n ++ record { table = table; known = newcomer setup n } ∷ []
  dealt_more table setup n = let one : n + 1 ≡ suc n = omega arith in ap (dealt table setup) one

  pub all_of_snoc : (table : TableId) (ps : List (PassView C)) (p : PassView C) → AllOf table ps → p.table ≡ table → AllOf table (ps ++ p ∷ [])
  all_of_snoc table [] p a e = (e, tt)
  all_of_snoc table (q ∷ ps) p a e = (a.0, all_of_snoc table ps p a.1 e)

  pub all_of_dealt : (table : TableId) (setup : Setup C) (n : ℕ) → AllOf table (dealt table setup n)
  all_of_dealt table setup zero = tt
  all_of_dealt table setup (suc n) = all_of_snoc table (dealt table setup n) (record { table = table; known = newcomer setup n }) (all_of_dealt table setup n) refl

  pub all_of_init : (table : TableId) (ps qs : List (PassView C)) → AllOf table (ps ++ qs) → AllOf table ps × AllOf table qs
  all_of_init table [] qs a = (tt, a)
  all_of_init table (p ∷ ps) qs a = let i = all_of_init table ps qs a.1 in ((a.0, i.0), i.1)

module _ {C : Type 0} (f : Face C) (setup : Setup C) where
  -- the opener's seat with the core, once it holds the turn
  pub opening_seat : (m0 m1 m2 : SeatOf C) (core : C) → m0 ≡ (opener Vacant setup, []) → m1 ≡ (view Opening m0.0.passes None, (0, None) ∷ []) → m2 ≡ (m1.0, (0, Some core) ∷ rest m1.1) → m2 ≡ (opener Opening setup, out core)
  opening_seat m0 m1 m2 core e0 e1 e2 =
      let F : SeatOf C → SeatOf C = λ m. (m.0, (0, Some core) ∷ rest m.1) in
      let G : SeatOf C → SeatOf C = λ m. (view Opening m.0.passes None, (0, None) ∷ []) in
      e2 ∙ ap F e1 ∙ ap (λ (m : SeatOf C). F (G m)) e0

  pub all_known : (core : C) (turns : List Turn) (ps : List (PassView C)) → AllFit f.tells f.show setup turns (f.show core).state (map known_of ps) → AreSo f.tells f.show setup turns (f.show core).state ps
  all_known core turns [] a = tt
  all_known core turns (p ∷ ps) a = (a.0, all_known core turns ps a.1)

module _ {C : Type 0} where
  pub popped : (table : TableId) (old new : List (PassView C)) (given : PassesView C) (result : Option (PassView C)) → old ≡ new ++ option_to_list result → AllOf table old → table ≡ given.table → old ≡ given.list
      → IfSome result (λ p. (given.list ≡ new ++ p ∷ []) × (p.table ≡ given.table))
  popped table old new given None e a t l = tt
  popped table old new given (Some p) e a t l = (sym l ∙ e, (all_of_init table new (p ∷ []) (subst (AllOf table) e a)).1.0 ∙ t)

pub nothing_left : {A : Type 0} (xs : List A) → length xs ≡ 0 → xs ≡ []
nothing_left [] e = refl
nothing_left (x ∷ xs) e = absurd (omega arith)

module _ {C : Type 0} where
  pub one_more : (ks : List (Known C)) (p : PassView C) (ps rest all : List (PassView C)) → rest ≡ p ∷ ps → ks ++ map known_of rest ≡ map known_of all → (ks ++ p.known ∷ []) ++ map known_of ps ≡ map known_of all
  one_more ks p ps rest all e is = append_assoc ks (p.known ∷ []) (map known_of ps) ∙ ap (λ (l : List (PassView C)). ks ++ map known_of l) (sym e) ∙ is

module _ {C : Type 0} (f : Face C) (setup : Setup C) where
  pub taken_all : (m : SeatOf C) (ks : List (Known C)) (rest all : List (PassView C)) → m ≡ (shared_view ks None, []) → ks ++ map known_of rest ≡ map known_of all → length rest ≡ 0 → m ≡ (shared_view (map known_of all) None, [])
  taken_all m ks rest all e is gone =
      let is_all : ks ≡ map known_of all = sym (append-nil ks) ∙ ap (λ (l : List (PassView C)). ks ++ map known_of l) (sym (nothing_left rest gone)) ∙ is in
      let now : List (Known C) → SeatOf C = λ ks. (shared_view ks None, []) in
      e ∙ ap now is_all

  -- the core that is taken out of the slot at the end
  pub last_core : (id : ℕ) (ks : List (Known C)) (m : SeatOf C) (ws : List ℕ) (xs : List (Option C)) (o : Option C) → m ≡ (shared_view ks None, []) → ((n : ℕ) → n < setup.callers → 0 < times n ks)
      → Final (Seen (Rule f setup) id m.0) ws xs → get_elem? xs 0 ≡ some o → (core : C) × (o ≡ Some core) × Ended f setup ks core
  last_core id ks m ws xs o e all final at =
      let final' = subst (λ (m : SeatOf C). Final (Seen (Rule f setup) id m.0) ws xs) e final in
      let end = ends f setup id ks ws xs all final' in
      (end.0, some-injective o (Some end.0) (sym at ∙ end.1), end.2)

  pub ended_as : (ks : List (Known C)) (core given : C) (o : Option C) → o ≡ Some core → o ≡ Some given → Ended f setup ks core → Ended f setup ks given
  ended_as ks core given o a b e = subst (Ended f setup ks) (some_same core given (sym a ∙ b)) e
