-- Each step on the word of a stripe keeps the rule.
use Rattle.std.proofs.Common.{◌≡◌, ◌≢◌, ◌⊎◌, ℕ, ◌+◌, ◌/◌, ◌^◌, ◌<◌, eqb, Bool, List, [], ◌∷◌, ◌++◌, length, set, get_or, Option, None, unwrap_or, refl, sym, ap, ◌∙◌, subst, inl, inr, ⊎_elim, arith, w64, length-set, get_or-set_same, get_or-set_other, eq-eqb, ne_eqb}
use Rattle.std.specs.Prelude.{if◌then◌else◌, Contains}
use Rattle.std.proofs.lemmas.List.Elements.{Contains-append_cases}
use Rattle.std.specs.Int.{bit_at, bit_not}
use Rattle.std.specs.Int.RustNames.{bit_or}
use lib.Bits.{bit_and}
use mathlib.Core.Logic.{dite}
use mathlib.Core.Option.{some, none}
use native.Mathlib.Decide.{ℕ_discrete}
use lib.ListN.{get_elem?}
use prog.Atomic.{either}
use Rattle.history.specs.Locks.{touched}
use Rattle.caller_steps.specs.State.{calls_of}
use Rattle.history.specs.declared.locks.Mode.{Mode}
use Rattle.history.specs.declared.locks.Mode.TheVariants as mode
use Rattle.atomic_table.specs.Table.{step, Act, keeps, stepped, Valid, carried_after, Allows}
use Rattle.atomic_table.proofs.Lists.{exchanged, set_else}
use Rattle.stripe_words.specs.declared.hold.Hold.{Hold}
use Rattle.stripe_words.specs.declared.hold.Hold.TheVariants.{Free, Trying, Shared, Exclusive}
use Rattle.stripe_words.specs.Words.{Stands, gained, locked}
use Rattle.stripe_words.proofs.Steps.{stands_same, is_word, marks_word, undoes_word, unlocks_word, backs_word, locks_word, finds_other, finds_lock}
use Rattle.mars_manager.specs.declared.view.Known.{Known}
use Rattle.mars_manager.specs.declared.view.Met.{Met}
use Rattle.mars_manager.specs.Asked.{bit_for, set_for, HasAsked, AreCaused}
use Rattle.mars_manager.specs.declared.view.Stage.TheVariants as stage
use Rattle.mars_manager.specs.declared.view.View.{View}
use Rattle.mars_manager.specs.declared.setup.Setup.{Setup}
use Rattle.mars_manager.specs.Pass.{Fits, AllFit, names_in, own_by, live_of, times}
use Rattle.mars_manager.specs.Locks.{IsCovered, IsPass, touched_by, hold_of, with_hold, noted, marked_by, excluded_by, IsUnwritten, IsUntouched}
use Rattle.mars_manager.specs.Seat.{TableOf, SeatOf, IsSeat, IsIdle, first_of, seat_of, shared_view}
use Rattle.mars_manager.specs.Rule.{AreLocked, Face, AllHave, IsFree, IsHeld, IsKept, Rule, marks, excludes, releases, backs}
use Rattle.mars_manager.proofs.Seats.{times_first, each_set}
use Rattle.mars_manager.proofs.Knowns.{Covered, Moves, number_moves, moves_mark, moves_exclude, moves_note, moves_release, moves_undo, moves_back}
use Rattle.mars_manager.proofs.Asking.{bit_is, asked_left, asked_right, Notes, notes_one, notes_none, mark_asks, exclude_asks, free_asks, back_asks}
use Rattle.mars_manager.proofs.Locked.{covered_own}
use Rattle.mars_manager.proofs.Turns.{some≢none, is_open, relocked, same_at, same_count, number_below, one_seat, live_at}

-- what is so of all passes where that of one has changed
now_of : {A : Type 0} → (ℕ → A) → ℕ → A → ℕ → A
now_of holds number hs n = if eqb n number then hs else holds n

now_own : {A : Type 0} (holds : ℕ → A) (number : ℕ) (hs : A) → now_of holds number hs number ≡ hs
unfolding now_of
now_own holds number hs = ap (λ b. if b then hs else holds number) (eq-eqb number number refl)

now_other : {A : Type 0} (holds : ℕ → A) (number : ℕ) (hs : A) (n : ℕ) → n ≢ number → now_of holds number hs n ≡ holds n
unfolding now_of
now_other holds number hs n ne = ap (λ b. if b then hs else holds n) (ne_eqb n number ne)

-- a fact of what each has
each_now : {A : Type 0} (P : ℕ → A → Type 0) (holds : ℕ → A) (number : ℕ) (hs : A) → P number hs → ((n : ℕ) → P n (holds n)) → (n : ℕ) → P n (now_of holds number hs n)
each_now P holds number hs own all n = dite (ℕ_discrete n number)
    (λ (e : n ≡ number). subst (λ m. P m (now_of holds number hs m)) (sym e) (subst (P number) (sym (now_own holds number hs)) own))
    (λ (ne : n ≢ number). subst (P n) (sym (now_other holds number hs n ne)) (all n))

module _ {C : Type 0} where
  others_have : (holds : ℕ → List Hold) (met : ℕ → List Met) (number : ℕ) (hs : List Hold) (ms : List Met) (ks : List (Known C)) → times number ks ≡ 0 → AllHave holds met ks → AllHave (now_of holds number hs) (now_of met number ms) ks
  others_have holds met number hs ms [] z a = tt
  others_have holds met number hs ms (k ∷ ks) z a =
      let ne : k.number ≢ number = (λ e. let one = times_first k ks in let same : times k.number (k ∷ ks) ≡ times number (k ∷ ks) = ap (λ n. times n (k ∷ ks)) e in absurd (omega arith)) in
      ((a.0.0 ∙ sym (now_other holds number hs k.number ne), a.0.1 ∙ sym (now_other met number ms k.number ne)), others_have holds met number hs ms ks (omega arith) a.1)

  pub first_is : (n : ℕ) (m : SeatOf C) (i : IsSeat n m) → first_of m.0.passes ≡ i.known
  first_is n m i = ap (λ (m : SeatOf C). first_of m.0.passes) i.is

  pub at_known : (n : ℕ) (m : SeatOf C) (i : IsSeat n m) (t : ℕ) (x : Hold) → hold_of t (first_of m.0.passes) ≡ x → hold_of t i.known ≡ x
  at_known n m i t x e = ap (hold_of t) (sym (first_is n m i)) ∙ e

  pub number_is : (n : ℕ) (m : SeatOf C) (i : IsSeat n m) → (first_of m.0.passes).number ≡ n
  number_is n m i = ap (λ (k : Known C). k.number) (first_is n m i) ∙ i.number

  pub long_is : (n : ℕ) (m : SeatOf C) (i : IsSeat n m) → length (first_of m.0.passes).holds ≡ 64
  long_is n m i = ap (λ (k : Known C). length k.holds) (first_is n m i) ∙ i.long

  pub pass_is : (n : ℕ) (names : List (List ℕ)) (hs : List Hold) (takes : Bool) (m : SeatOf C) → IsIdle n names hs takes m → IsPass (first_of m.0.passes)
  pass_is n names hs takes m i = record { long = long_is n m i.seat; covered = subst (λ (k : Known C). IsCovered (touched_by k) k.holds) (sym (first_is n m i.seat)) i.seat.covered; settled = i.settled }

  -- a seat after its pass has moved
  pub seated : (n t : ℕ) (x : Hold) (m m' : SeatOf C) (i : IsSeat n m) (F : Known C → Known C) → m' ≡ seat_of (F (first_of m.0.passes)) → Moves t x i.known (F i.known) → IsSeat n m'
  seated n t x m m' i F e mv = record { known = F i.known; is = e ∙ ap (λ (m : SeatOf C). seat_of (F (first_of m.0.passes))) i.is; number = number_moves t x i.known (F i.known) mv ∙ i.number; small = i.small; long = mv.long; covered = mv.covered }

module _ {C : Type 0} (f : Face C) (setup : Setup C) where
  -- a step on a stripe's word leaves the turn and the core
  place_kept : (s : TableOf C) (core : C) (id t w : ℕ) (v u : View C) → t < 64 → get_elem? s.views id ≡ some v → v.held ≡ None → u.held ≡ None → IsFree core s ⊎ IsHeld core s → IsFree core (stepped s t w id [] u keeps) ⊎ IsHeld core (stepped s t w id [] u keeps)
  place_kept s core id t w v u l at idle still place =
      ⊎_elim
      (λ (p : IsFree core s). inl (record {
        turn = get_or-set_other s.words t 64 w 0 (λ e. omega arith) ∙ p.turn;
        home = p.home;
        nobody = each_set (λ i z. z.held ≡ None) s.views id u still (λ j z _ e. p.nobody j z e);
      }))
      (λ (p : IsHeld core s).
      let ne : p.seat ≢ id = (λ e. some≢none core (sym p.holds ∙ ap (λ (u : View C). u.held) (same_at f setup s.views id p.holder v (subst (λ i. get_elem? s.views i ≡ some p.holder) e p.there) at) ∙ idle)) in
      inr (record {
        number = p.number;
        seat = p.seat;
        holder = p.holder;
        turn = get_or-set_other s.words t 64 w 0 (λ e. omega arith) ∙ p.turn;
        there = set_else s.views id p.seat u ne ∙ p.there;
        holds = p.holds;
        has = p.has;
        others = λ i z apart e. each_set (λ i z. i ≢ p.seat → z.held ≡ None) s.views id u (λ _. still) (λ j z _ e apart. p.others j z apart e) i z e apart;
      }))
      place

  moved_fit : (s : TableOf C) (h : IsKept f setup s) (t : ℕ) (x : Hold) (k k' : Known C) → Moves t x k k' → Fits f.tells f.show setup h.turns (f.show h.core).state k → Fits f.tells f.show setup h.turns (f.show h.core).state k'
  moved_fit s h t x k k' m fit = subst (λ (j : Known C). Fits f.tells f.show setup h.turns (f.show h.core).state j) (sym m.same) (record { setup_is = fit.setup_is; last = fit.last; heard = fit.heard })

  -- what all passes met where one of them made a step on a stripe's word
  met_now : (s : TableOf C) (h : IsKept f setup s) (k k' : Known C) → ℕ → List Met
  met_now s h k k' = now_of h.met k.number k'.met

  -- a step on a stripe's word takes back nothing that was asked for
  asked_grows : (s : TableOf C) (h : IsKept f setup s) (t w : ℕ) (x : Hold) (k k' : Known C) → k.met ≡ h.met k.number → Notes t w (hold_of t k) x k k' → (asked : Mode) (n r : ℕ) → HasAsked asked r (h.met n) → HasAsked asked r (met_now s h k k' n)
  unfolding met_now
  asked_grows s h t w x k k' mine notes asked n r a = dite (ℕ_discrete n k.number)
      (λ (e : n ≡ k.number).
      let old : HasAsked asked r k.met = subst (HasAsked asked r) (ap h.met e ∙ sym mine) a in
      subst (λ i. HasAsked asked r (now_of h.met k.number k'.met i)) (sym e) (subst (HasAsked asked r) (sym (now_own h.met k.number k'.met ∙ notes.is)) (asked_left asked r k.met notes.more old)))
      (λ (ne : n ≢ k.number). subst (HasAsked asked r) (sym (now_other h.met k.number k'.met n ne)) a)

  -- whoever has a bit in a word then has asked for it
  asked_now : (s : TableOf C) (h : IsKept f setup s) (t w : ℕ) (x : Hold) (k k' : Known C) → k.holds ≡ h.holds k.number → k.met ≡ h.met k.number → Moves t x k k' → Notes t w (hold_of t k) x k k'
      → (asked : Mode) (n r : ℕ) → set_for asked (get_or (now_of h.holds k.number k'.holds n) r Free) ≡ 1 → HasAsked asked r (met_now s h k k' n)
  unfolding met_now
  asked_now s h t w x k k' own mine m notes asked n r bit = dite (ℕ_discrete n k.number)
      (λ (e : n ≡ k.number).
      let bit' : set_for asked (hold_of r k') ≡ 1 = ap (λ hs. set_for asked (get_or hs r Free)) (sym (ap (now_of h.holds k.number k'.holds) e ∙ now_own h.holds k.number k'.holds)) ∙ bit in
      let before : (i : ℕ) → set_for asked (hold_of i k) ≡ 1 → HasAsked asked i (k.met ++ notes.more) = (λ i b. asked_left asked i k.met notes.more (subst (HasAsked asked i) (sym mine) (h.locks.asked asked k.number i (ap (λ hs. set_for asked (get_or hs i Free)) (sym own) ∙ b)))) in
      let after : HasAsked asked r (k.met ++ notes.more) = dite (ℕ_discrete r t)
      (λ (is : r ≡ t). subst (λ i. HasAsked asked i (k.met ++ notes.more)) (sym is) (⊎_elim
      (λ (b : set_for asked (hold_of t k) ≡ 1). before t b)
      (λ (a : HasAsked asked t notes.more). asked_right asked t k.met notes.more a)
      (notes.asks asked (ap (set_for asked) (sym m.here) ∙ ap (λ i. set_for asked (hold_of i k')) (sym is) ∙ bit'))))
      (λ (ne : r ≢ t). before r (ap (set_for asked) (sym (m.there r ne)) ∙ bit')) in
      subst (λ i. HasAsked asked r (now_of h.met k.number k'.met i)) (sym e) (subst (HasAsked asked r) (sym (now_own h.met k.number k'.met ∙ notes.is)) after))
      (λ (ne : n ≢ k.number). subst (HasAsked asked r) (sym (now_other h.met k.number k'.met n ne)) (h.locks.asked asked n r (ap (λ hs. set_for asked (get_or hs r Free)) (sym (now_other h.holds k.number k'.holds n ne)) ∙ bit)))

  -- and so has whoever had one in a word that was found
  caused_now : (s : TableOf C) (h : IsKept f setup s) (t : ℕ) (x : Hold) (k k' : Known C) → t < 64 → k.met ≡ h.met k.number → Notes t (get_or s.words t 0) (hold_of t k) x k k' → AreCaused (met_now s h k k')
  unfolding met_now
  caused_now s h t x k k' l mine notes n step there asked i li ne bit =
      let w : ℕ = get_or s.words t 0 in
      let grows = asked_grows s h t w x k k' mine notes asked in
      let old : Contains (h.met n) step → HasAsked asked step.stripe (now_of h.met k.number k'.met i) = (λ was. grows i step.stripe (h.locks.caused n step was asked i li ne bit)) in
      dite (ℕ_discrete n k.number)
      (λ (e : n ≡ k.number).
      let there' : Contains (k.met ++ notes.more) step = subst (λ (ms : List Met). Contains ms step) (ap (now_of h.met k.number k'.met) e ∙ now_own h.met k.number k'.met ∙ notes.is) there in
      ⊎_elim
      (λ (was : Contains k.met step). old (subst (λ (ms : List Met). Contains ms step) (mine ∙ ap h.met (sym e)) was))
      (λ (new : Contains notes.more step).
      let of = notes.of step new in
      let had : HasAsked asked t (h.met i) = h.locks.asked asked i t (sym (bit_is asked (get_or s.words t 0) (λ m. get_or (h.holds m) t Free) i li (h.locks.stripes t l)) ∙ ap (λ v. bit_at v (bit_for asked i)) (sym of.1) ∙ bit) in
      grows i step.stripe (subst (λ r. HasAsked asked r (h.met i)) (sym of.0) had))
      (Contains-append_cases k.met notes.more step there'))
      (λ (other : n ≢ k.number). old (subst (λ (ms : List Met). Contains ms step) (now_other h.met k.number k'.met n other) there))

  -- a step on a stripe's word changes what its pass has of the stripe
  changed : (s : TableOf C) (id t w : ℕ) (x : Hold) (k k' : Known C) (h : IsKept f setup s) → t < 64 → get_elem? s.views id ≡ some (shared_view (k ∷ []) None) → Moves t x k k' → Notes t (get_or s.words t 0) (hold_of t k) x k k'
      → ((has : ℕ → Hold) → has k.number ≡ x → ((n : ℕ) → n ≢ k.number → has n ≡ get_or (h.holds n) t Free) → Stands w has) → IsKept f setup (stepped s t w id [] (shared_view (k' ∷ []) None) keeps)
  unfolding met_now
  changed s id t w x k k' h l at m notes word =
      let v : View C = shared_view (k ∷ []) None in
      let u : View C = shared_view (k' ∷ []) None in
      let number : k'.number ≡ k.number = number_moves t x k k' m in
      let own : k.holds ≡ h.holds k.number = (h.locks.have id v at).0.0 in
      let mine : k.met ≡ h.met k.number = (h.locks.have id v at).0.1 in
      let hs : ℕ → List Hold = now_of h.holds k.number k'.holds in
      let fit = moved_fit s h t x k k' m (h.fit id v at).0 in
      let small : k.number < setup.callers = number_below f setup s h k.number id v at (times_first k []) in
      let same_times : (n : ℕ) → times n (k' ∷ []) ≡ times n (k ∷ []) = (λ n. ap (λ i. (if eqb i n then 1 else 0) + 0) number) in
      let locks : AreLocked setup.callers setup.names (f.show h.core).state hs (now_of h.met k.number k'.met) (set s.words t w) (set s.views id u) = record {
        have = each_set (λ i z. AllHave (now_of h.holds k.number k'.holds) (now_of h.met k.number k'.met) z.passes) s.views id u
            ((sym (ap (now_of h.holds k.number k'.holds) number ∙ now_own h.holds k.number k'.holds), sym (ap (now_of h.met k.number k'.met) number ∙ now_own h.met k.number k'.met)), tt)
            (λ j z ne e. others_have h.holds h.met k.number k'.holds k'.met z.passes
            (dite (ℕ_discrete (times k.number z.passes) 0) (λ (o : times k.number z.passes ≡ 0). o) (λ (nz : times k.number z.passes ≢ 0). absurd (ne (one_seat f setup s h k.number j id z v e at (omega arith) (times_first k [])))))
            (h.locks.have j z e));
        strangers = λ n le. (now_other h.holds k.number k'.holds n (λ e. omega arith) ∙ (h.locks.strangers n le).0, now_other h.met k.number k'.met n (λ e. omega arith) ∙ (h.locks.strangers n le).1);
        asked = asked_now s h t (get_or s.words t 0) x k k' own mine m notes;
        caused = caused_now s h t x k k' l mine notes;
        long = each_now (λ n hs. length hs ≡ 64) h.holds k.number k'.holds m.long h.locks.long;
        stripes = λ r lr. dite (ℕ_discrete r t)
            (λ (e : r ≡ t). subst (λ i. Stands (get_or (set s.words t w) i 0) (λ n. get_or (now_of h.holds k.number k'.holds n) i Free)) (sym e)
            (subst (λ i. Stands i (λ n. get_or (now_of h.holds k.number k'.holds n) t Free)) (sym (get_or-set_same s.words t w 0 (let z = h.wide in omega arith)))
            (word (λ n. get_or (now_of h.holds k.number k'.holds n) t Free) (ap (λ hs. get_or hs t Free) (now_own h.holds k.number k'.holds) ∙ m.here) (λ n ne. ap (λ hs. get_or hs t Free) (now_other h.holds k.number k'.holds n ne)))))
            (λ (ne : r ≢ t). subst (λ i. Stands i (λ n. get_or (now_of h.holds k.number k'.holds n) r Free)) (sym (get_or-set_other s.words t r w 0 ne))
            (stands_same (get_or s.words r 0) (λ n. get_or (h.holds n) r Free) (λ n. get_or (now_of h.holds k.number k'.holds n) r Free)
            (each_now (λ n hs. get_or hs r Free ≡ get_or (h.holds n) r Free) h.holds k.number k'.holds (m.there r ne ∙ ap (λ hs. get_or hs r Free) own) (λ n. refl))
            (h.locks.stripes r lr)));
        covered = λ alive. each_now (λ n hs. IsCovered (touched setup.names (unwrap_or ((f.show h.core).state.live n) [])) hs) h.holds k.number k'.holds
            (subst (λ (i : ℕ). IsCovered (touched setup.names (calls_of (f.show h.core).state i)) k'.holds) number
            (covered_own setup.names k'.number (own_by k') (f.show h.core).state k'.holds (live_at f setup h.turns h.core k' h.ready fit alive)
            (subst (λ (given : Option (Setup C)). IsCovered (touched (names_in given) (unwrap_or (live_of k') [])) k'.holds) fit.setup_is m.covered)))
            (h.locks.covered alive);
      } in
      relocked f setup s h (set s.words t w) s.homes (set s.views id u) hs (now_of h.met k.number k'.met) (length-set s.words t w ∙ h.wide, h.one)
      (get_or-set_other s.words t 65 w 0 (λ e. omega arith) ∙ h.told) (place_kept s h.core id t w v u l at refl refl h.place)
      (each_set (λ i z. z.stage ≡ stage.Shared) s.views id u refl (λ j z _ e. h.staged j z e))
      (each_set (λ i z. AllFit f.tells f.show setup h.turns (f.show h.core).state z.passes) s.views id u (fit, tt) (λ j z _ e. h.fit j z e))
      (λ n. same_count f setup n s.views id v u at (same_times n)) locks

  has_own : (s : TableOf C) (h : IsKept f setup s) (id t : ℕ) (k : Known C) (x : Hold) → get_elem? s.views id ≡ some (shared_view (k ∷ []) None) → hold_of t k ≡ x → get_or (h.holds k.number) t Free ≡ x
  has_own s h id t k x at e = ap (λ hs. get_or hs t Free) (sym (h.locks.have id (shared_view (k ∷ []) None) at).0.0) ∙ e

  small_at : (s : TableOf C) (h : IsKept f setup s) (id : ℕ) (k : Known C) → get_elem? s.views id ≡ some (shared_view (k ∷ []) None) → k.number < 32
  small_at s h id k at = let l = number_below f setup s h k.number id (shared_view (k ∷ []) None) at (times_first k []) in let m = h.few in omega arith

  marks_keeps : (slots id t n b : ℕ) (k : Known C) → t < 64 → k.number ≡ n → length k.holds ≡ 64 → Covered k → hold_of t k ≡ Free → b ≡ 2 ^ n
      → Allows (Rule f setup) slots id (seat_of k) t (λ w. bit_or w b) (marks (step slots t b 0 none) (seat_of k))
  marks_keeps slots id t n b k l is long c free bit s rule wide at small =
      let h : IsKept f setup s = is_open f setup s id (shared_view (k ∷ []) None) rule at refl in
      let w : ℕ = get_or s.words t 0 in
      let few = small_at s h id k at in
      let st = h.locks.stripes t l in
      let free' = has_own s h id t k Free at free in
      let has : ℕ → Hold = λ m. get_or (h.holds m) t Free in
      let bit' : 2 ^ k.number ≡ b = ap (λ i. 2 ^ i) is ∙ sym bit in (
        shared_view (marked_by t w k ∷ []) None,
        keeps,
        tt,
        inr (inr (changed s id t (bit_or w b) (gained (eqb (w / 2 ^ 32) 0)) k (marked_by t w k) h l at (moves_mark t w k l long c free) (notes_one t w mode.Shared (hold_of t k) (gained (eqb (w / 2 ^ 32) 0)) k (marked_by t w k) refl (mark_asks t w (hold_of t k) (eqb (w / 2 ^ 32) 0)))
            (λ has' own same. subst (λ i. Stands (bit_or w i) has') bit' (marks_word w k.number has has' few st free' own same)))),
        (refl, record { word = is_word w has st; not_mine = st.locks k.number few ∙ ap locked free'; other = λ nz. finds_lock w k.number has few small st free' nz }),
      )

  Excluding : (s : TableOf C) (slots id t old new : ℕ) (k : Known C) → ℕ → Type 0
  Excluding s slots id t old new k x = (w : View C) × (a : Act (Option C)) × Valid s.homes [] a × Rule f setup (stepped s t x id [] w a) × excludes (step slots t old new none) (seat_of k) (get_or s.words t 0) (w, carried_after [] a)

  exclude_hit : (s : TableOf C) (slots id t old new : ℕ) (k : Known C) (h : IsKept f setup s) → t < 64 → length k.holds ≡ 64 → Covered k → old ≡ 2 ^ k.number → new ≡ bit_or (2 ^ k.number) (2 ^ (32 + k.number)) → get_elem? s.views id ≡ some (shared_view (k ∷ []) None) → get_or s.words t 0 ≡ old → Excluding s slots id t old new k new
  unfolding Excluding
  exclude_hit s slots id t old new k h l long c bit both at found =
      let w : ℕ = get_or s.words t 0 in
      let has : ℕ → Hold = λ m. get_or (h.holds m) t Free in (
        shared_view (excluded_by t w k ∷ []) None,
        keeps,
        tt,
        inr (inr (changed s id t new Exclusive k (excluded_by t w k) h l at (moves_exclude t w k l long c) (notes_one t w mode.Exclusive (hold_of t k) Exclusive k (excluded_by t w k) refl (exclude_asks t w (hold_of t k) Exclusive))
            (λ has' own same. subst (λ i. Stands i has') (sym both) (locks_word w k.number has has' (small_at s h id k at) (h.locks.stripes t l) (found ∙ bit) own same)))),
        ((λ _. refl), (λ ne. absurd (ne found))),
      )

  exclude_miss : (s : TableOf C) (slots id t old new : ℕ) (k : Known C) (h : IsKept f setup s) → t < 64 → length k.holds ≡ 64 → Covered k → hold_of t k ≡ Shared → old ≡ 2 ^ k.number → get_elem? s.views id ≡ some (shared_view (k ∷ []) None) → get_or s.words t 0 < 18446744073709551616 → get_or s.words t 0 ≢ old
      → Excluding s slots id t old new k (get_or s.words t 0)
  unfolding Excluding
  exclude_miss s slots id t old new k h l long c mine bit at wide found =
      let w : ℕ = get_or s.words t 0 in
      let st = h.locks.stripes t l in
      let mine' = has_own s h id t k Shared at mine in
      let has : ℕ → Hold = λ m. get_or (h.holds m) t Free in (
        shared_view (noted t mode.Exclusive w k ∷ []) None,
        keeps,
        tt,
        inr (inr (changed s id t w (hold_of t k) k (noted t mode.Exclusive w k) h l at (moves_note t w k long c) (notes_one t w mode.Exclusive (hold_of t k) (hold_of t k) k (noted t mode.Exclusive w k) refl (exclude_asks t w (hold_of t k) (hold_of t k)))
            (λ has' own same. stands_same w has has' (λ n. dite (ℕ_discrete n k.number) (λ (e : n ≡ k.number). ap has' e ∙ own ∙ sym (has_own s h id t k (hold_of t k) at refl) ∙ ap has (sym e)) (λ (ne : n ≢ k.number). same n ne)) st))),
        ((λ e. absurd (found e)), (λ _. (refl, record { word = is_word w has st; other = finds_other w k.number has (small_at s h id k at) wide st mine' (λ e. found (e ∙ sym bit)) }))),
      )

  excludes_keeps : (slots id t old new : ℕ) (k : Known C) → t < 64 → length k.holds ≡ 64 → Covered k → hold_of t k ≡ Shared → old ≡ 2 ^ k.number → new ≡ bit_or (2 ^ k.number) (2 ^ (32 + k.number))
      → Allows (Rule f setup) slots id (seat_of k) t (λ w. either (eqb w old) new w) (excludes (step slots t old new none) (seat_of k))
  unfolding Excluding
  excludes_keeps slots id t old new k l long c mine bit both s rule wide at small =
      let h : IsKept f setup s = is_open f setup s id (shared_view (k ∷ []) None) rule at refl in
      exchanged (get_or s.words t 0) old new (Excluding s slots id t old new k) (exclude_hit s slots id t old new k h l long c bit both at) (exclude_miss s slots id t old new k h l long c mine bit at small)

  -- a step that clears bits and leaves x
  clears_keeps : (id t b : ℕ) (x : Hold) (k : Known C) → t < 64 → Moves t x k (with_hold t x k) → ((asked : Mode) → set_for asked x ≡ 1 → set_for asked (hold_of t k) ≡ 1)
      → ((w : ℕ) (has has' : ℕ → Hold) → k.number < 32 → Stands w has → has k.number ≡ hold_of t k → has' k.number ≡ x → ((n : ℕ) → n ≢ k.number → has' n ≡ has n) → Stands (bit_and w b) has')
      → (s : TableOf C) → Rule f setup s → get_elem? s.views id ≡ some (shared_view (k ∷ []) None) → Rule f setup (stepped s t (bit_and (get_or s.words t 0) b) id [] (shared_view (with_hold t x k ∷ []) None) keeps)
  clears_keeps id t b x k l m less word s rule at =
      let h : IsKept f setup s = is_open f setup s id (shared_view (k ∷ []) None) rule at refl in
      let w : ℕ = get_or s.words t 0 in
      let has : ℕ → Hold = λ m. get_or (h.holds m) t Free in
      inr (inr (changed s id t (bit_and w b) x k (with_hold t x k) h l at m (notes_none t w (hold_of t k) x k (with_hold t x k) refl less) (λ has' own same. word w has has' (small_at s h id k at) (h.locks.stripes t l) (has_own s h id t k (hold_of t k) at refl) own same)))

  undoes_keeps : (slots id t b : ℕ) (k : Known C) → t < 64 → length k.holds ≡ 64 → Covered k → hold_of t k ≡ Trying → b ≡ bit_not w64 (2 ^ k.number)
      → Allows (Rule f setup) slots id (seat_of k) t (λ w. bit_and w b) (releases (step slots t b 0 none) (seat_of k))
  undoes_keeps slots id t b k l long c try bit s rule wide at small = (
    shared_view (with_hold t Free k ∷ []) None,
    keeps,
    tt,
    clears_keeps id t b Free k l (moves_undo t k l long c try) (free_asks (hold_of t k)) (λ w has has' sm st own new same. subst (λ i. Stands (bit_and w i) has') (sym bit) (undoes_word w k.number has has' sm st (own ∙ try) new same)) s rule at,
    refl,
  )

  releases_keeps : (slots id t b : ℕ) (k : Known C) → t < 64 → length k.holds ≡ 64 → Covered k → IsUntouched t k → b ≡ bit_not w64 (bit_or (2 ^ k.number) (2 ^ (32 + k.number)))
      → Allows (Rule f setup) slots id (seat_of k) t (λ w. bit_and w b) (releases (step slots t b 0 none) (seat_of k))
  releases_keeps slots id t b k l long c u bit s rule wide at small = (
    shared_view (with_hold t Free k ∷ []) None,
    keeps,
    tt,
    clears_keeps id t b Free k l (moves_release t k l long c u) (free_asks (hold_of t k)) (λ w has has' sm st own new same. subst (λ i. Stands (bit_and w i) has') (sym bit) (unlocks_word w k.number has has' sm st new same)) s rule at,
    refl,
  )

  backs_keeps : (slots id t b : ℕ) (k : Known C) → t < 64 → length k.holds ≡ 64 → Covered k → hold_of t k ≡ Exclusive → IsUnwritten t k → b ≡ bit_not w64 (2 ^ (32 + k.number))
      → Allows (Rule f setup) slots id (seat_of k) t (λ w. bit_and w b) (backs (step slots t b 0 none) (seat_of k))
  backs_keeps slots id t b k l long c full u bit s rule wide at small = (
    shared_view (with_hold t Shared k ∷ []) None,
    keeps,
    tt,
    clears_keeps id t b Shared k l (moves_back t k l long c u) (back_asks (hold_of t k) full) (λ w has has' sm st own new same. subst (λ i. Stands (bit_and w i) has') (sym bit) (backs_word w k.number has has' sm st (own ∙ full) new same)) s rule at,
    refl,
  )

  -- the same at a seat of the pass with the number
  pub marks_as : (slots id t n b : ℕ) (m : SeatOf C) (i : IsSeat n m) → t < 64 → hold_of t (first_of m.0.passes) ≡ Free → b ≡ 2 ^ n → Allows (Rule f setup) slots id m t (λ w. bit_or w b) (marks (step slots t b 0 none) m)
  marks_as slots id t n b m i l free bit = subst (λ (m : SeatOf C). Allows (Rule f setup) slots id m t (λ w. bit_or w b) (marks (step slots t b 0 none) m)) (sym i.is)
      (marks_keeps slots id t n b i.known l i.number i.long i.covered (at_known n m i t Free free) bit)

  pub excludes_as : (slots id t n old new : ℕ) (m : SeatOf C) (i : IsSeat n m) → t < 64 → hold_of t (first_of m.0.passes) ≡ Shared → old ≡ 2 ^ n → new ≡ bit_or (2 ^ n) (2 ^ (32 + n))
      → Allows (Rule f setup) slots id m t (λ w. either (eqb w old) new w) (excludes (step slots t old new none) m)
  excludes_as slots id t n old new m i l mine bit both = subst (λ (m : SeatOf C). Allows (Rule f setup) slots id m t (λ w. either (eqb w old) new w) (excludes (step slots t old new none) m)) (sym i.is)
      (excludes_keeps slots id t old new i.known l i.long i.covered (at_known n m i t Shared mine) (bit ∙ ap (λ j. 2 ^ j) (sym i.number)) (both ∙ ap (λ j. bit_or (2 ^ j) (2 ^ (32 + j))) (sym i.number)))

  pub undoes_as : (slots id t n b : ℕ) (m : SeatOf C) (i : IsSeat n m) → t < 64 → hold_of t (first_of m.0.passes) ≡ Trying → b ≡ bit_not w64 (2 ^ n) → Allows (Rule f setup) slots id m t (λ w. bit_and w b) (releases (step slots t b 0 none) m)
  undoes_as slots id t n b m i l try bit = subst (λ (m : SeatOf C). Allows (Rule f setup) slots id m t (λ w. bit_and w b) (releases (step slots t b 0 none) m)) (sym i.is)
      (undoes_keeps slots id t b i.known l i.long i.covered (at_known n m i t Trying try) (bit ∙ ap (λ j. bit_not w64 (2 ^ j)) (sym i.number)))

  pub releases_as : (slots id t n b : ℕ) (m : SeatOf C) (i : IsSeat n m) → t < 64 → IsUntouched t (first_of m.0.passes) → b ≡ bit_not w64 (bit_or (2 ^ n) (2 ^ (32 + n))) → Allows (Rule f setup) slots id m t (λ w. bit_and w b) (releases (step slots t b 0 none) m)
  releases_as slots id t n b m i l u bit = subst (λ (m : SeatOf C). Allows (Rule f setup) slots id m t (λ w. bit_and w b) (releases (step slots t b 0 none) m)) (sym i.is)
      (releases_keeps slots id t b i.known l i.long i.covered (subst (λ (k : Known C). IsUntouched t k) (first_is n m i) u) (bit ∙ ap (λ j. bit_not w64 (bit_or (2 ^ j) (2 ^ (32 + j)))) (sym i.number)))

  pub backs_as : (slots id t n b : ℕ) (m : SeatOf C) (i : IsSeat n m) → t < 64 → hold_of t (first_of m.0.passes) ≡ Exclusive → IsUnwritten t (first_of m.0.passes) → b ≡ bit_not w64 (2 ^ (32 + n)) → Allows (Rule f setup) slots id m t (λ w. bit_and w b) (backs (step slots t b 0 none) m)
  backs_as slots id t n b m i l full u bit = subst (λ (m : SeatOf C). Allows (Rule f setup) slots id m t (λ w. bit_and w b) (backs (step slots t b 0 none) m)) (sym i.is)
      (backs_keeps slots id t b i.known l i.long i.covered (at_known n m i t Exclusive full) (subst (λ (k : Known C). IsUnwritten t k) (first_is n m i) u) (bit ∙ ap (λ j. bit_not w64 (2 ^ (32 + j))) (sym i.number)))
