-- Each step keeps the rule.
use Rattle.std.proofs.Common.{◌||◌, true, Bool, ◌≡◌, ◌≢◌, ◌⊎◌, ℕ, ◌+◌, ◌<◌, ◌≤◌, eqb, List, [], ◌∷◌, ◌++◌, length, set, get_or, Option, Some, None, refl, sym, ap, ◌∙◌, subst, inl, inr, ⊎_elim, arith, length-set, get_or-set_same, get_or-set_other}
use mathlib.Core.Logic.{dite}
use mathlib.Core.Option.{Option as Home, some, none, some-injective}
use native.Mathlib.Decide.{dec_le, ℕ_discrete}
use lib.ListN.{get_elem?}
use prog.Atomic.{either}
use Rattle.history.specs.declared.call.Call.{Call}
use Rattle.history.specs.declared.call.Reply.{Reply}
use Rattle.caller_steps.specs.Room.{Limits}
use Rattle.caller_steps.specs.Prefix.{Grows}
use Rattle.caller_steps.specs.Run.{Turn, Heard, Goes}
use Rattle.caller_steps.proofs.Continuing.{grows_longer}
use Rattle.caller_steps.proofs.Running.{turns_names, all_of_append, turns_one, turn_own, turn_other, turn_grows, turn_run, turn_told}
use Rattle.atomic_table.specs.Table.{step, Act, keeps, takes, gives, stepped, Valid, carried_after, Allows}
use Rattle.atomic_table.proofs.Lists.{set_here, set_else, exchanged}
use Rattle.mars_manager.specs.declared.view.Known.{Known}
use Rattle.mars_manager.specs.declared.view.Met.{Met}
use Rattle.mars_manager.specs.declared.view.Stage.TheVariants.{Vacant, Opening, Shared}
use Rattle.mars_manager.specs.declared.view.View.{View}
use Rattle.mars_manager.specs.declared.setup.Setup.{Setup}
use Rattle.mars_manager.specs.Pass.{Fits, AllFit, known_at, names_in, names_of, own_by, times, finds, hears}
use Rattle.mars_manager.specs.Sharing.{CanShare, Since}
use Rattle.mars_manager.specs.Seat.{TableOf, SeatOf, shared_view, opener}
use Rattle.mars_manager.specs.Rule.{Face, AllHave, AreLocked, HasAlone, count, IsFree, IsHeld, IsKept, IsFresh, IsOpening, Rule, takes_turn, shown, tells_length, gives_turn, gives_read, looks}
use Rattle.mars_manager.specs.Locks.{locks, IsCovered, hold_of}
use Rattle.mars_manager.proofs.Locked.{locked_same, locked_step, locked_granted}
use Rattle.stripe_words.specs.declared.hold.Hold.{Hold}
use Rattle.stripe_words.specs.declared.hold.Hold.TheVariants.{Free}
use Rattle.stripe_words.specs.Words.{granted, locked}
use Rattle.history.specs.Locks.{touched}
use Rattle.caller_steps.specs.Locked.{finds_table}
use Rattle.history.specs.declared.locks.Mode.TheVariants as mode
use Rattle.caller_steps.specs.State.{calls_of}
use Rattle.caller_steps.specs.Offers.{takes_calls}
use Rattle.caller_steps.specs.Fate.{is_refusal}
use Rattle.caller_steps.specs.Own.{nothing_own, own_of, KnowsLive}
use Rattle.caller_steps.proofs.Owning.{turns_live, fresh_live}
use Rattle.std.specs.Prelude.{IsTrue, IsFalse}
use Rattle.std.proofs.lemmas.Bool.{false_from_ne_true, or_from}
use Rattle.mars_manager.proofs.Seats.{times_first, inside, at_only, each_set, total_set, total_has, total_two}

pub vacant≢shared : {X : Type 0} → Vacant ≡ Shared → X
vacant≢shared e = absurd (cc)

pub opening≢shared : {X : Type 0} → Opening ≡ Shared → X
opening≢shared e = absurd (cc)

pub vacant≢opening : {X : Type 0} → Vacant ≡ Opening → X
vacant≢opening e = absurd (cc)

pub some≢none : {A : Type 0} {X : Type 0} (x : A) → Some x ≡ None → X
some≢none x e = absurd (cc)

pub some_same : {A : Type 0} (x y : A) → Some x ≡ Some y → x ≡ y
some_same x y e = cc

abbrev pub top_of : {A : Type 0} → List (ℕ × Option A) → Option A
top_of [] = None
top_of (x ∷ xs) = x.1

-- what the holder of the turn carries
abbrev pub out : {A : Type 0} → A → List (ℕ × Option A)
out x = (0, Some x) ∷ []

pub carried_same : {A : Type 0} (a b : A) → out a ≡ out b → a ≡ b
carried_same {A} a b e = let top : Some a ≡ Some b = ap (λ (l : List (ℕ × Option A)). top_of l) e in some_same a b top

-- what a step by the pass n does to a core
pub record Moved {C : Type 0} (f : Face C) (setup : Setup C) (n : ℕ) (call : Call) (reply : Reply) (core new : C) : Type 0 where
  pub grows : Grows (f.show core).state.history (f.show new).state.history
  pub since : Since f.tells (f.show setup.first) (f.show core) → Since f.tells (f.show setup.first) (f.show new)
  pub goes : Since f.tells (f.show setup.first) (f.show core) → Goes f.tells (f.show setup.first).limits (f.show core).state n call reply (f.show new).state
  pub tabled : IsFalse (is_refusal reply) → IsTrue (finds_table (f.show core).state.names call)

module _ {C : Type 0} (f : Face C) (setup : Setup C) where
  pub is_open : (s : TableOf C) (id : ℕ) (v : View C) → Rule f setup s → get_elem? s.views id ≡ some v → v.stage ≡ Shared → IsKept f setup s
  is_open s id v rule at two =
      ⊎_elim
      (λ (x : IsFresh setup s). let e = at_only (opener Vacant setup) id v (subst (λ l. get_elem? l id ≡ some v) x.views at) in vacant≢shared (ap (λ (u : View C). u.stage) e ∙ two))
      (λ (y : IsOpening setup s ⊎ IsKept f setup s).
      ⊎_elim (λ (x : IsOpening setup s). let e = at_only (opener Opening setup) id v (subst (λ l. get_elem? l id ≡ some v) x.views at) in opening≢shared (ap (λ (u : View C). u.stage) e ∙ two)) (λ (k : IsKept f setup s). k) y)
      rule

  -- seats that stand for the same pass are the same seat
  pub one_seat : (s : TableOf C) → IsKept f setup s → (n i j : ℕ) (v w : View C) → get_elem? s.views i ≡ some v → get_elem? s.views j ≡ some w → 0 < times n v.passes → 0 < times n w.passes → i ≡ j
  one_seat s h n i j v w e o a b = dite (ℕ_discrete i j) (λ (same : i ≡ j). same) (λ (ne : i ≢ j). let t = total_two (λ (v : View C). times n v.passes) s.views i j v w ne e o in let u = h.once n in absurd (omega arith))

  pub same_at : (vs : List (View C)) (i : ℕ) (v w : View C) → get_elem? vs i ≡ some v → get_elem? vs i ≡ some w → v ≡ w
  same_at vs i v w a b = some-injective v w (sym a ∙ b)

  -- the counts stay if a seat stands for the same passes after a step
  pub same_count : (n : ℕ) (vs : List (View C)) (id : ℕ) (v w : View C) → get_elem? vs id ≡ some v → times n w.passes ≡ times n v.passes → count n (set vs id w) ≡ count n vs
  same_count n vs id v w at e = let t = total_set (λ (v : View C). times n v.passes) vs id v w at in omega arith

  pub number_below : (s : TableOf C) → IsKept f setup s → (n i : ℕ) (v : View C) → get_elem? s.views i ≡ some v → 0 < times n v.passes → n < setup.callers
  number_below s h n i v at has =
      let t = total_has (λ (v : View C). times n v.passes) s.views i v at in
      dite (dec_le setup.callers n) (λ (le : setup.callers ≤ n). let b = h.below n le in absurd (omega arith)) (λ (ge : ¬ (setup.callers ≤ n)). omega arith)

  moves_one : (n : ℕ) (call : Call) (reply : Reply) (core new : C) (turns : List Turn) (k : Known C) → Moved f setup n call reply core new → Since f.tells (f.show setup.first) (f.show core) → k.number ≢ n
      → Fits f.tells f.show setup turns (f.show core).state k → Fits f.tells f.show setup (turns ++ (n, call, reply) ∷ []) (f.show new).state k
  moves_one n call reply core new turns k m since ne h = record {
    setup_is = h.setup_is;
    last = turn_other f.tells (f.show setup.first).limits k.number k.past k.seen (f.show setup.first).state (f.show core).state (f.show new).state turns n call reply (λ e. ne (sym e)) (m.goes since) h.last;
    heard = (let l = grows_longer (f.show core).state.history (f.show new).state.history m.grows in let o = h.heard in omega arith);
  }

  pub moves_all : (n : ℕ) (call : Call) (reply : Reply) (core new : C) (turns : List Turn) (ks : List (Known C)) → Moved f setup n call reply core new → Since f.tells (f.show setup.first) (f.show core) → times n ks ≡ 0
      → AllFit f.tells f.show setup turns (f.show core).state ks → AllFit f.tells f.show setup (turns ++ (n, call, reply) ∷ []) (f.show new).state ks
  moves_all n call reply core new turns [] m since zero_times h = tt
  moves_all n call reply core new turns (k ∷ ks) m since zero_times h = (
    moves_one n call reply core new turns k m since (λ (e : k.number ≡ n). let t = times_first k ks in let u : times k.number (k ∷ ks) ≡ 0 = ap (λ (x : ℕ). times x (k ∷ ks)) e ∙ zero_times in absurd (omega arith)) h.0,
    moves_all n call reply core new turns ks m since (omega arith) h.1,
  )

  -- what a pass knows stays true when it notes what it found
  pub found_fit : (turns : List Turn) (core : C) (n : ℕ) (k : Known C) → Fits f.tells f.show setup turns (f.show core).state k → Fits f.tells f.show setup turns (f.show core).state (finds n k)
  found_fit turns core n k h = record { setup_is = h.setup_is; last = h.last; heard = h.heard }

  -- and was true before
  pub fit_before : (turns : List Turn) (core : C) (n : ℕ) (k : Known C) → Fits f.tells f.show setup turns (f.show core).state (finds n k) → Fits f.tells f.show setup turns (f.show core).state k
  fit_before turns core n k h = record { setup_is = h.setup_is; last = h.last; heard = h.heard }

  -- The rule holds again if the core and its run stay as they were, as many passes of each number are there, and what they have is locked.
  pub relocked : (s : TableOf C) (h : IsKept f setup s) (words : List ℕ) (homes : List (Home (Option C))) (views : List (View C)) (holds : ℕ → List Hold) (met : ℕ → List Met) → (length words ≡ 66) × (length homes ≡ 1)
      → get_or words 65 0 ≡ length (f.show h.core).state.history
      → (let new : TableOf C = record { words = words; homes = homes; views = views } in IsFree h.core new ⊎ IsHeld h.core new
      → ((i : ℕ) (v : View C) → get_elem? views i ≡ some v → v.stage ≡ Shared)
      → ((i : ℕ) (v : View C) → get_elem? views i ≡ some v → AllFit f.tells f.show setup h.turns (f.show h.core).state v.passes)
      → ((n : ℕ) → count n views ≡ count n s.views) → AreLocked setup.callers setup.names (f.show h.core).state holds met words views → IsKept f setup new)
  relocked s h words homes views holds met sized told place staged fit counts locks = record {
    core = h.core;
    turns = h.turns;
    holds = holds;
    met = met;
    locks = locks;
    wide = sized.0;
    one = sized.1;
    told = told;
    place = place;
    staged = staged;
    fit = fit;
    once = λ n. (let t = counts n in let o = h.once n in omega arith);
    below = λ n b. counts n ∙ h.below n b;
    few = h.few;
    named = h.named;
    ready = h.ready;
    since = h.since;
    run = h.run;
    whose = h.whose;
  }

  -- so it does where the words of the stripes stay too
  pub same_run : (s : TableOf C) (h : IsKept f setup s) (words : List ℕ) (homes : List (Home (Option C))) (views : List (View C)) → length words ≡ 66 → length homes ≡ 1
      → get_or words 65 0 ≡ length (f.show h.core).state.history
      → (let new : TableOf C = record { words = words; homes = homes; views = views } in IsFree h.core new ⊎ IsHeld h.core new
      → ((i : ℕ) (v : View C) → get_elem? views i ≡ some v → v.stage ≡ Shared)
      → ((i : ℕ) (v : View C) → get_elem? views i ≡ some v → AllFit f.tells f.show setup h.turns (f.show h.core).state v.passes)
      → ((n : ℕ) → count n views ≡ count n s.views) → ((t : ℕ) → t < 64 → get_or words t 0 ≡ get_or s.words t 0) → ((i : ℕ) (v : View C) → get_elem? views i ≡ some v → AllHave h.holds h.met v.passes) → IsKept f setup new)
  same_run s h words homes views wide one told place staged fit counts stripes have = relocked s h words homes views h.holds h.met (wide, one) told place staged fit counts
      (locked_same setup.callers setup.names (f.show h.core).state h.holds h.met s.words words s.views views h.locks stripes have)

  -- A step of one seat keeps the rule if it leaves the core, the seat's passes and the number of words and homes, and what it changes is right.
  same_core : (s : TableOf C) (h : IsKept f setup s) (id : ℕ) (v w : View C) (words : List ℕ) (homes : List (Home (Option C))) → get_elem? s.views id ≡ some v
      → w.stage ≡ Shared → ((n : ℕ) → times n w.passes ≡ times n v.passes) → AllFit f.tells f.show setup h.turns (f.show h.core).state w.passes
      → AllHave h.holds h.met w.passes → ((t : ℕ) → t < 64 → get_or words t 0 ≡ get_or s.words t 0)
      → length words ≡ 66 → length homes ≡ 1 → get_or words 65 0 ≡ length (f.show h.core).state.history
      → (let new : TableOf C = record { words = words; homes = homes; views = set s.views id w } in IsFree h.core new ⊎ IsHeld h.core new → IsKept f setup new)
  same_core s h id v w words homes at stage same fit have stripes wide one told place = same_run s h words homes (set s.views id w) wide one told place
      (each_set (λ i u. u.stage ≡ Shared) s.views id w stage (λ j u _ e. h.staged j u e))
      (each_set (λ i u. AllFit f.tells f.show setup h.turns (f.show h.core).state u.passes) s.views id w fit (λ j u _ e. h.fit j u e))
      (λ n. same_count n s.views id v w at (same n)) stripes (each_set (λ i u. AllHave h.holds h.met u.passes) s.views id w have (λ j u _ e. h.locks.have j u e))

  -- the word of the turn or of the length is none of a stripe
  beside : (words : List ℕ) (i w t : ℕ) → 64 ≤ i → t < 64 → get_or (set words i w) t 0 ≡ get_or words t 0
  beside words i w t far l = get_or-set_other words i t w 0 (λ e. omega arith)

  turn_taken : (s : TableOf C) (id turn : ℕ) (k : Known C) (h : IsKept f setup s) → turn ≡ k.number + 1 → get_elem? s.views id ≡ some (shared_view (k ∷ []) None)
      → (x : IsFree h.core s) → IsKept f setup (stepped s 64 turn id [] (shared_view (finds 0 k ∷ []) (Some h.core)) (takes 0 (Some h.core)))
  turn_taken s id turn k h is at x =
      let v : View C = shared_view (k ∷ []) None in
      let w : View C = shared_view (finds 0 k ∷ []) (Some h.core) in
      let long : 64 < length s.words = (let t = h.wide in omega arith) in
      same_core s h id v w (set s.words 64 turn) (set s.homes 0 none) at refl (λ _. refl) (found_fit h.turns h.core 0 k (h.fit id v at).0, tt) ((h.locks.have id v at).0, tt) (λ t l. beside s.words 64 turn t (omega arith) l)
      (length-set s.words 64 turn ∙ h.wide) (length-set s.homes 0 none ∙ h.one) (get_or-set_other s.words 64 65 turn 0 (λ e. omega arith) ∙ h.told)
      (inr (record {
        number = k.number;
        seat = id;
        holder = w;
        turn = get_or-set_same s.words 64 turn 0 long ∙ is;
        there = set_here s.views id w (inside s.views id v at);
        holds = refl;
        has = times_first (finds 0 k) [];
        others = λ i u ne e. x.nobody i u (sym (set_else s.views id i w ne) ∙ e);
      }))

  -- what a pass was told of its transaction is so while the medium has not failed
  pub live_at : (turns : List Turn) (core : C) (k : Known C) → CanShare f.tells setup.callers (f.show setup.first) → Fits f.tells f.show setup turns (f.show core).state k → IsFalse (f.show core).state.is_dead → KnowsLive k.number (own_by k) (f.show core).state
  live_at turns core k ready fit alive =
      subst (λ (told : Heard). KnowsLive k.number (own_of k.number told) (f.show core).state) (sym (turn_told f.tells (f.show setup.first).limits k.number k.past k.seen (f.show setup.first).state (f.show core).state turns fit.last))
      (turns_live f.tells (f.show setup.first).limits k.number (f.show setup.first).state (f.show core).state turns nothing_own
      (turn_run f.tells (f.show setup.first).limits k.number k.past k.seen (f.show setup.first).state (f.show core).state turns fit.last) (inr alive)
      (fresh_live k.number (f.show setup.first).state (ready.live k.number) (ready.offers k.number)))

  -- the names are those of the core
  pub named_at : (s : TableOf C) (h : IsKept f setup s) → setup.names ≡ (f.show h.core).state.names
  named_at s h = h.named ∙ sym (turns_names f.tells (f.show setup.first).limits (f.show setup.first).state (f.show h.core).state h.turns h.run)

  unread : (touch : Bool) (x y : Hold) → (IsTrue touch → locked y ≡ 1) → locked y + granted x ≤ 1 → granted x ≡ 1 → IsFalse touch
  unread touch x y c apart has = false_from_ne_true touch (λ e. let l = c e in absurd (omega arith))

  untouched : (reads writes : Bool) (x y : Hold) → (IsTrue reads → granted y ≡ 1) → (IsTrue writes → locked y ≡ 1) → locked x + granted y ≤ 1 → locked y + granted x ≤ 1 → locked x ≡ 1 → granted x ≡ 1 → IsFalse (reads || writes)
  untouched reads writes x y c d a b has has' = or_from reads writes (false_from_ne_true reads (λ e. let l = c e in absurd (omega arith))) (false_from_ne_true writes (λ e. let l = d e in absurd (omega arith)))

  alone_at : (s : TableOf C) (id : ℕ) (k : Known C) (h : IsKept f setup s) → get_elem? s.views id ≡ some (shared_view (k ∷ []) None) → IsFalse (f.show h.core).state.is_dead → HasAlone f h.core k
  alone_at s id k h at alive =
      let mine = (h.locks.have id (shared_view (k ∷ []) None) at).0.0 in
      let names : List (List ℕ) = (f.show h.core).state.names in
      let covered : (i : ℕ) → IsCovered (touched (f.show h.core).state.names (calls_of (f.show h.core).state i)) (h.holds i) = λ i. subst (λ ns. IsCovered (touched ns (calls_of (f.show h.core).state i)) (h.holds i)) (named_at s h) (h.locks.covered alive i) in
      let has : (t : ℕ) → hold_of t k ≡ get_or (h.holds k.number) t Free = λ t. ap (λ (hs : List Hold). get_or hs t Free) mine in record {
        mine = live_at h.turns h.core k h.ready (h.fit id (shared_view (k ∷ []) None) at).0 alive;
        reads = λ t i l ne g. unread (touched names (calls_of (f.show h.core).state i) t mode.Exclusive) (get_or (h.holds k.number) t Free) (get_or (h.holds i) t Free)
            ((covered i).writes t) ((h.locks.stripes t l).apart i k.number (λ e. ne (sym e))) (sym (ap granted (has t)) ∙ g);
        writes = λ t i l ne g. untouched (touched names (calls_of (f.show h.core).state i) t mode.Shared) (touched names (calls_of (f.show h.core).state i) t mode.Exclusive) (get_or (h.holds k.number) t Free) (get_or (h.holds i) t Free)
            ((covered i).reads t) ((covered i).writes t) ((h.locks.stripes t l).apart k.number i ne) ((h.locks.stripes t l).apart i k.number (λ e. ne (sym e)))
            (sym (ap locked (has t)) ∙ g) (locked_granted (get_or (h.holds k.number) t Free) (sym (ap locked (has t)) ∙ g));
      }

  Taking : (s : TableOf C) (slots id turn : ℕ) (k : Known C) → ℕ → Type 0
  Taking s slots id turn k x = (w : View C) × (a : Act (Option C)) × Valid s.homes [] a × Rule f setup (stepped s 64 x id [] w a) × takes_turn f (step slots 64 0 turn none) (shared_view (k ∷ []) None, []) (get_or s.words 64 0) (w, carried_after [] a)

  hit : (s : TableOf C) (slots id turn : ℕ) (k : Known C) (h : IsKept f setup s) → turn ≡ k.number + 1 → get_elem? s.views id ≡ some (shared_view (k ∷ []) None) → get_or s.words 64 0 ≡ 0 → Taking s slots id turn k turn
  unfolding Taking
  hit s slots id turn k h is at free =
      ⊎_elim
      (λ (x : IsFree h.core s). (
        shared_view (finds 0 k ∷ []) (Some h.core),
        takes 0 (Some h.core),
        x.home,
        inr (inr (turn_taken s id turn k h is at x)),
        (
          λ _. record {
            core = h.core;
            now = refl;
            named = ap names_in (h.fit id (shared_view (k ∷ []) None) at).0.setup_is ∙ named_at s h;
            alone = λ alive. alone_at s id k h at alive;
            seen = grows_longer k.seen (f.show h.core).state.history (turn_grows f.tells (f.show setup.first).limits k.number k.past k.seen (f.show setup.first).state (f.show h.core).state h.turns (h.fit id (shared_view (k ∷ []) None) at).0.last);
            few = λ n has. (let m = h.ready.enough in let same = ap (λ (l : Limits). l.callers) h.since.limits in let l = number_below s h n id (shared_view (k ∷ []) None) at has in omega arith);
          },
          λ ne. absurd (ne free),
        ),
      ))
      (λ (x : IsHeld h.core s). let t = x.turn in absurd (omega arith))
      h.place

  -- a try that finds another number: nothing changes but what the pass found
  missed_by : (s : TableOf C) (id n : ℕ) (k : Known C) (h : IsKept f setup s) → n ≡ get_or s.words 64 0 → get_elem? s.views id ≡ some (shared_view (k ∷ []) None)
      → (x : IsHeld h.core s) → IsKept f setup (stepped s 64 n id [] (shared_view (finds n k ∷ []) None) keeps)
  missed_by s id n k h is at x =
      let v : View C = shared_view (k ∷ []) None in
      let w : View C = shared_view (finds n k ∷ []) None in
      let long : 64 < length s.words = (let t = h.wide in omega arith) in
      let ne : x.seat ≢ id = (λ e. some≢none h.core (sym x.holds ∙ ap (λ (u : View C). u.held) (same_at s.views id x.holder v (subst (λ i. get_elem? s.views i ≡ some x.holder) e x.there) at))) in
      same_core s h id v w (set s.words 64 n) s.homes at refl (λ _. refl) (found_fit h.turns h.core n k (h.fit id v at).0, tt) ((h.locks.have id v at).0, tt) (λ t l. beside s.words 64 n t (omega arith) l)
      (length-set s.words 64 n ∙ h.wide) (h.one) (get_or-set_other s.words 64 65 n 0 (λ e. omega arith) ∙ h.told)
      (inr (record {
        number = x.number;
        seat = x.seat;
        holder = x.holder;
        turn = get_or-set_same s.words 64 n 0 long ∙ is ∙ x.turn;
        there = set_else s.views id x.seat w ne ∙ x.there;
        holds = x.holds;
        has = x.has;
        others = λ i u apart e. each_set (λ i u. i ≢ x.seat → u.held ≡ None) s.views id w (λ _. refl) (λ j u _ e apart. x.others j u apart e) i u e apart;
      }))

  miss : (s : TableOf C) (slots id turn : ℕ) (k : Known C) (h : IsKept f setup s) → get_elem? s.views id ≡ some (shared_view (k ∷ []) None) → get_or s.words 64 0 ≢ 0 → Taking s slots id turn k (get_or s.words 64 0)
  unfolding Taking
  miss s slots id turn k h at taken =
      ⊎_elim
      (λ (x : IsFree h.core s). absurd (taken x.turn))
      (λ (x : IsHeld h.core s). (
        shared_view (finds (get_or s.words 64 0) k ∷ []) None,
        keeps,
        tt,
        inr (inr (missed_by s id (get_or s.words 64 0) k h refl at x)),
        (
          λ z. absurd (taken z),
          λ _. (
            refl,
            (let t = x.turn in let few = h.few in let l = number_below s h x.number x.seat x.holder x.there x.has in omega arith),
            λ m e. dite (ℕ_discrete (times m (k ∷ [])) 0) (λ (z : times m (k ∷ []) ≡ 0). z) (λ (nz : times m (k ∷ []) ≢ 0).
                let t = x.turn in
                let same : x.number ≡ m = omega arith in
                let seat = one_seat s h m x.seat id x.holder (shared_view (k ∷ []) None) x.there at (subst (λ n. 0 < times n x.holder.passes) same x.has) (omega arith) in
                let held = same_at s.views id x.holder (shared_view (k ∷ []) None) (subst (λ i. get_elem? s.views i ≡ some x.holder) seat x.there) at in
                some≢none h.core (sym x.holds ∙ ap (λ (v : View C). v.held) held)),
            (
              λ given is.
                  let t = x.turn in
                  let same = ap (λ (g : Setup C). g.callers) (some_same given setup (sym is ∙ (h.fit id (shared_view (k ∷ []) None) at).0.setup_is)) in
                  let l = number_below s h x.number x.seat x.holder x.there x.has in
                  omega arith,
              tt,
            ),
          ),
        ),
      ))
      h.place

  pub takes_turn_keeps : (slots id turn : ℕ) (k : Known C) → turn ≡ k.number + 1
      → Allows (Rule f setup) slots id (shared_view (k ∷ []) None, []) 64 (λ n. either (eqb n 0) turn n) (takes_turn f (step slots 64 0 turn none) (shared_view (k ∷ []) None, []))
  unfolding Taking
  takes_turn_keeps slots id turn k is s rule wide at _ =
      let h : IsKept f setup s = is_open s id (shared_view (k ∷ []) None) rule at refl in
      exchanged (get_or s.words 64 0) 0 turn (Taking s slots id turn k) (hit s slots id turn k h is at) (miss s slots id turn k h at)

  holder_is : (s : TableOf C) (h : IsKept f setup s) (id : ℕ) (v : View C) (core : C) → get_elem? s.views id ≡ some v → v.held ≡ Some core → (x : IsHeld h.core s) × (x.seat ≡ id) × (x.holder ≡ v) × (h.core ≡ core)
  holder_is s h id v core at held =
      ⊎_elim
      (λ (x : IsFree h.core s). some≢none core (sym held ∙ x.nobody id v at))
      (λ (x : IsHeld h.core s). dite (ℕ_discrete id x.seat)
      (λ (same : id ≡ x.seat). let is = same_at s.views id x.holder v (subst (λ i. get_elem? s.views i ≡ some x.holder) (sym same) x.there) at in
      (x, sym same, is, some_same h.core core (sym x.holds ∙ ap (λ (u : View C). u.held) is ∙ held)))
      (λ (ne : id ≢ x.seat). some≢none core (sym held ∙ x.others id v ne at)))
      h.place

  told_by : (s : TableOf C) (id told : ℕ) (k : Known C) (call : Call) (reply : Reply) (old new : C) (h : IsKept f setup s) → Moved f setup k.number call reply h.core new → (IsFalse (f.show h.core).state.is_dead → IsTrue (takes_calls (f.show h.core).state k.number) → IsCovered (locks (names_of k) call) k.holds) → told ≡ length ((f.show new).state.history) → get_elem? s.views id ≡ some (shared_view (k ∷ []) (Some old))
      → (x : IsHeld h.core s) → x.seat ≡ id → x.holder ≡ shared_view (k ∷ []) (Some old)
      → IsKept f setup (stepped s 65 told id ((0, Some new) ∷ []) (shared_view (shown f call reply h.turns new k ∷ []) (Some new)) keeps)
  told_by s id told k call reply old new h m has is at x seat holder =
      let v : View C = shared_view (k ∷ []) (Some old) in
      let w : View C = shared_view (shown f call reply h.turns new k ∷ []) (Some new) in
      let long : 65 < length s.words = (let t = h.wide in omega arith) in
      let mine : Fits f.tells f.show setup h.turns (f.show h.core).state k = (h.fit id v at).0 in
      let goes = m.goes h.since in
      let run = turns_one f.tells (f.show setup.first).limits (f.show setup.first).state (f.show h.core).state (f.show new).state h.turns k.number call reply h.run goes in
      let turns : List Turn = h.turns ++ (k.number, call, reply) ∷ [] in
      let few : k.number < setup.callers = number_below s h k.number id v at (times_first k []) in record {
        core = new;
        turns = turns;
        holds = h.holds;
        met = h.met;
        locks = locked_same setup.callers setup.names (f.show new).state h.holds h.met s.words (set s.words 65 told) s.views (set s.views id w)
            (locked_step setup.callers setup.names (f.show h.core).state (f.show new).state h.holds h.met s.words s.views (f.show setup.first).limits.callers k.number call reply h.locks goes.moves
            (λ alive live. subst (λ (hs : List Hold). IsCovered (locks setup.names call) hs) (h.locks.have id v at).0.0 (subst (λ (given : Option (Setup C)). IsCovered (locks (names_in given) call) k.holds) mine.setup_is (has alive live)))
            (λ done. subst (λ (ns : List (List ℕ)). finds_table ns call ≡ true) (sym (named_at s h)) (m.tabled done)))
            (λ t l. beside s.words 65 told t (omega arith) l) (each_set (λ i u. AllHave h.holds h.met u.passes) s.views id w ((h.locks.have id v at).0, tt) (λ j u _ e. h.locks.have j u e));
        wide = length-set s.words 65 told ∙ h.wide;
        one = h.one;
        told = get_or-set_same s.words 65 told 0 long ∙ is;
        place = inr (record {
          number = x.number;
          seat = id;
          holder = w;
          turn = get_or-set_other s.words 65 64 told 0 (λ e. omega arith) ∙ x.turn;
          there = set_here s.views id w (inside s.views id v at);
          holds = refl;
          has = subst (λ (u : View C). 0 < times x.number u.passes) holder x.has;
          others = λ i u ne e. x.others i u (λ z. ne (z ∙ seat)) (sym (set_else s.views id i w ne) ∙ e);
        });
        staged = each_set (λ i u. u.stage ≡ Shared) s.views id w refl (λ j u _ e. h.staged j u e);
        fit = each_set (λ i u. AllFit f.tells f.show setup turns (f.show new).state u.passes) s.views id w (
          record {
            setup_is = mine.setup_is;
            last = turn_own f.tells (f.show setup.first).limits k.number (f.show setup.first).state (f.show new).state turns run;
            heard = (let l = grows_longer (f.show h.core).state.history (f.show new).state.history m.grows in let o = mine.heard in omega arith);
          },
          tt,
        )
            (λ j u ne e. moves_all k.number call reply h.core new h.turns u.passes m h.since
            (dite (ℕ_discrete (times k.number u.passes) 0) (λ (z : times k.number u.passes ≡ 0). z) (λ (nz : times k.number u.passes ≢ 0). absurd (ne (one_seat s h k.number j id u v e at (omega arith) (times_first k [])))))
            (h.fit j u e));
        once = λ n. (let t = same_count n s.views id v w at refl in let o = h.once n in omega arith);
        below = λ n b. same_count n s.views id v w at refl ∙ h.below n b;
        few = h.few;
        named = h.named;
        ready = h.ready;
        since = m.since h.since;
        run = run;
        whose = all_of_append setup.callers h.turns ((k.number, call, reply) ∷ []) h.whose (few, tt);
      }

  pub tells_keeps : (slots id told : ℕ) (k : Known C) (call : Call) (reply : Reply) (old new : C) → Moved f setup k.number call reply old new → (IsFalse (f.show old).state.is_dead → IsTrue (takes_calls (f.show old).state k.number) → IsCovered (locks (names_of k) call) k.holds) → told ≡ length ((f.show new).state.history)
      → Allows (Rule f setup) slots id (shared_view (k ∷ []) (Some old), (0, Some new) ∷ []) 65 (λ _. told) (λ _. tells_length f call reply (step slots 65 told 0 none) (shared_view (k ∷ []) (Some old), (0, Some new) ∷ []) told)
  tells_keeps slots id told k call reply old new m has is s rule wide at _ =
      let v : View C = shared_view (k ∷ []) (Some old) in
      let h : IsKept f setup s = is_open s id v rule at refl in
      let x = holder_is s h id v old at refl in (
        shared_view (shown f call reply h.turns new k ∷ []) (Some new),
        keeps,
        tt,
        inr (inr (told_by s id told k call reply old new h (subst (λ c. Moved f setup k.number call reply c new) (sym x.3) m) (subst (λ c. IsFalse (f.show c).state.is_dead → IsTrue (takes_calls (f.show c).state k.number) → IsCovered (locks (names_of k) call) k.holds) (sym x.3) has) is at x.0 x.1 x.2)),
        λ was core held e. let now : C → SeatOf C = λ c. (shared_view (shown f call reply h.turns c k ∷ []) (Some c), (0, Some new) ∷ []) in
            let old_is : h.core ≡ was = x.3 ∙ some_same old was held in record {
              setup = setup;
              turns = h.turns;
              now = ap now (carried_same new core e);
              fit = subst (λ c. AllFit f.tells f.show setup h.turns (f.show c).state (k ∷ [])) old_is (h.fit id v at);
              since = subst (λ c. Since f.tells (f.show setup.first) (f.show c)) old_is h.since;
              whose = h.whose;
              ready = h.ready;
            },
      )

  given_by : (s : TableOf C) (id : ℕ) (k : Known C) (core : C) (h : IsKept f setup s) → h.core ≡ core → get_elem? s.views id ≡ some (shared_view (k ∷ []) (Some core))
      → (x : IsHeld h.core s) → x.seat ≡ id
      → IsKept f setup (stepped s 64 0 id ((0, Some core) ∷ []) (shared_view (k ∷ []) None) gives)
  given_by s id k core h same at x seat =
      let v : View C = shared_view (k ∷ []) (Some core) in
      let w : View C = shared_view (k ∷ []) None in
      let long : 64 < length s.words = (let t = h.wide in omega arith) in
      same_core s h id v w (set s.words 64 0) (set s.homes 0 (some (Some core))) at refl (λ _. refl) (h.fit id v at) (h.locks.have id v at) (λ t l. beside s.words 64 0 t (omega arith) l)
      (length-set s.words 64 0 ∙ h.wide) (length-set s.homes 0 (some (Some core)) ∙ h.one) (get_or-set_other s.words 64 65 0 0 (λ e. omega arith) ∙ h.told)
      (inl (record {
        turn = get_or-set_same s.words 64 0 0 long;
        home = set_here s.homes 0 (some (Some core)) (let o = h.one in omega arith) ∙ ap (λ (c : C). some (some (Some c))) (sym same);
        nobody = each_set (λ i u. u.held ≡ None) s.views id w refl (λ j u ne e. x.others j u (λ z. ne (z ∙ seat)) e);
      }))

  pub gives_keeps : (slots id : ℕ) (k : Known C) (core : C)
      → Allows (Rule f setup) slots id (shared_view (k ∷ []) (Some core), (0, Some core) ∷ []) 64 (λ _. 0) (λ _. gives_turn (step slots 64 0 0 none) (shared_view (k ∷ []) (Some core), (0, Some core) ∷ []) 0)
  gives_keeps slots id k core s rule wide at _ =
      let v : View C = shared_view (k ∷ []) (Some core) in
      let h : IsKept f setup s = is_open s id v rule at refl in
      let x = holder_is s h id v core at refl in
      (shared_view (k ∷ []) None, gives, tt, inr (inr (given_by s id k core h x.3 at x.0 x.1)), refl)

  read_by : (s : TableOf C) (id : ℕ) (k : Known C) (core : C) (h : IsKept f setup s) → h.core ≡ core → get_elem? s.views id ≡ some (shared_view (k ∷ []) (Some core))
      → (x : IsHeld h.core s) → x.seat ≡ id
      → IsKept f setup (stepped s 64 0 id ((0, Some core) ∷ []) (shared_view (known_at k h.turns (f.show h.core).state ∷ []) None) gives)
  read_by s id k core h same at x seat =
      let v : View C = shared_view (k ∷ []) (Some core) in
      let w : View C = shared_view (known_at k h.turns (f.show h.core).state ∷ []) None in
      let long : 64 < length s.words = (let t = h.wide in omega arith) in
      let mine : Fits f.tells f.show setup h.turns (f.show h.core).state k = (h.fit id v at).0 in
      same_core s h id v w (set s.words 64 0) (set s.homes 0 (some (Some core))) at refl (λ _. refl)
      (record { setup_is = mine.setup_is; last = turn_own f.tells (f.show setup.first).limits k.number (f.show setup.first).state (f.show h.core).state h.turns h.run; heard = mine.heard }, tt)
      ((h.locks.have id v at).0, tt) (λ t l. beside s.words 64 0 t (omega arith) l)
      (length-set s.words 64 0 ∙ h.wide) (length-set s.homes 0 (some (Some core)) ∙ h.one) (get_or-set_other s.words 64 65 0 0 (λ e. omega arith) ∙ h.told)
      (inl (record {
        turn = get_or-set_same s.words 64 0 0 long;
        home = set_here s.homes 0 (some (Some core)) (let o = h.one in omega arith) ∙ ap (λ (c : C). some (some (Some c))) (sym same);
        nobody = each_set (λ i u. u.held ≡ None) s.views id w refl (λ j u ne e. x.others j u (λ z. ne (z ∙ seat)) e);
      }))

  pub gives_read_keeps : (slots id : ℕ) (k : Known C) (core : C)
      → Allows (Rule f setup) slots id (shared_view (k ∷ []) (Some core), (0, Some core) ∷ []) 64 (λ _. 0) (λ _. gives_read f (step slots 64 0 0 none) (shared_view (k ∷ []) (Some core), (0, Some core) ∷ []) 0)
  gives_read_keeps slots id k core s rule wide at _ =
      let v : View C = shared_view (k ∷ []) (Some core) in
      let h : IsKept f setup s = is_open s id v rule at refl in
      let x = holder_is s h id v core at refl in (
        shared_view (known_at k h.turns (f.show h.core).state ∷ []) None,
        gives,
        tt,
        inr (inr (read_by s id k core h x.3 at x.0 x.1)),
        λ was held. let now : C → SeatOf C = λ c. (shared_view (known_at k h.turns (f.show c).state ∷ []) None, []) in
            let is : h.core ≡ was = x.3 ∙ some_same core was held in record {
              setup = setup;
              turns = h.turns;
              now = ap now is;
              fit = subst (λ c. AllFit f.tells f.show setup h.turns (f.show c).state (k ∷ [])) is (h.fit id v at);
              since = subst (λ c. Since f.tells (f.show setup.first) (f.show c)) is h.since;
              whose = h.whose;
              ready = h.ready;
            },
      )

  looked_by : (s : TableOf C) (id : ℕ) (k : Known C) (h : IsKept f setup s) → get_elem? s.views id ≡ some (shared_view (k ∷ []) None)
      → IsKept f setup (stepped s 65 (get_or s.words 65 0) id [] (shared_view (hears (get_or s.words 65 0) k ∷ []) None) keeps)
  looked_by s id k h at =
      let n : ℕ = get_or s.words 65 0 in
      let v : View C = shared_view (k ∷ []) None in
      let w : View C = shared_view (hears n k ∷ []) None in
      let mine : Fits f.tells f.show setup h.turns (f.show h.core).state k = (h.fit id v at).0 in
      let long : 65 < length s.words = (let t = h.wide in omega arith) in
      same_core s h id v w (set s.words 65 n) s.homes at refl (λ _. refl) (record { setup_is = mine.setup_is; last = mine.last; heard = (let e = h.told in omega arith) }, tt) ((h.locks.have id v at).0, tt) (λ t l. beside s.words 65 n t (omega arith) l)
      (length-set s.words 65 n ∙ h.wide) (h.one) (get_or-set_same s.words 65 n 0 long ∙ h.told)
      (⊎_elim
      (λ (x : IsFree h.core s). inl (record {
        turn = get_or-set_other s.words 65 64 n 0 (λ e. omega arith) ∙ x.turn;
        home = x.home;
        nobody = each_set (λ i u. u.held ≡ None) s.views id w refl (λ j u _ e. x.nobody j u e);
      }))
      (λ (x : IsHeld h.core s). let ne : x.seat ≢ id = (λ e. some≢none h.core (sym x.holds ∙ ap (λ (u : View C). u.held) (same_at s.views id x.holder v (subst (λ i. get_elem? s.views i ≡ some x.holder) e x.there) at))) in inr (record {
        number = x.number;
        seat = x.seat;
        holder = x.holder;
        turn = get_or-set_other s.words 65 64 n 0 (λ e. omega arith) ∙ x.turn;
        there = set_else s.views id x.seat w ne ∙ x.there;
        holds = x.holds;
        has = x.has;
        others = λ i u apart e. each_set (λ i u. i ≢ x.seat → u.held ≡ None) s.views id w (λ _. refl) (λ j u _ e apart. x.others j u apart e) i u e apart;
      }))
      h.place)

  pub looks_keeps : (slots id : ℕ) (k : Known C)
      → Allows (Rule f setup) slots id (shared_view (k ∷ []) None, []) 65 (λ n. n) (looks (step slots 65 0 0 none) (shared_view (k ∷ []) None, []))
  looks_keeps slots id k s rule wide at _ =
      let v : View C = shared_view (k ∷ []) None in
      let h : IsKept f setup s = is_open s id v rule at refl in
      let mine : Fits f.tells f.show setup h.turns (f.show h.core).state k = (h.fit id v at).0 in (
        shared_view (hears (get_or s.words 65 0) k ∷ []) None,
        keeps,
        tt,
        inr (inr (looked_by s id k h at)),
        (refl, ((let l = grows_longer k.seen (f.show h.core).state.history (turn_grows f.tells (f.show setup.first).limits k.number k.past k.seen (f.show setup.first).state (f.show h.core).state h.turns mine.last) in let e = h.told in omega arith), (let o = mine.heard in let e = h.told in omega arith), tt)),
      )

  -- the moves at a given seat

  pub takes_turn_as : (slots id turn : ℕ) (k : Known C) (m : SeatOf C) → m ≡ (shared_view (k ∷ []) None, []) → turn ≡ k.number + 1
      → Allows (Rule f setup) slots id m 64 (λ n. either (eqb n 0) turn n) (takes_turn f (step slots 64 0 turn none) m)
  takes_turn_as slots id turn k m e is = subst (λ (m : SeatOf C). Allows (Rule f setup) slots id m 64 (λ n. either (eqb n 0) turn n) (takes_turn f (step slots 64 0 turn none) m)) (sym e) (takes_turn_keeps slots id turn k is)

  pub tells_as : (slots id told : ℕ) (k : Known C) (call : Call) (reply : Reply) (old new : C) (m : SeatOf C) → m ≡ (shared_view (k ∷ []) (Some old), (0, Some new) ∷ []) → Moved f setup k.number call reply old new → (IsFalse (f.show old).state.is_dead → IsTrue (takes_calls (f.show old).state k.number) → IsCovered (locks (names_of k) call) k.holds) → told ≡ length ((f.show new).state.history)
      → Allows (Rule f setup) slots id m 65 (λ _. told) (λ _. tells_length f call reply (step slots 65 told 0 none) m told)
  tells_as slots id told k call reply old new m e moved has is = subst (λ (m : SeatOf C). Allows (Rule f setup) slots id m 65 (λ _. told) (λ _. tells_length f call reply (step slots 65 told 0 none) m told)) (sym e) (tells_keeps slots id told k call reply old new moved has is)

  pub gives_as : (slots id : ℕ) (k : Known C) (core : C) (m : SeatOf C) → m ≡ (shared_view (k ∷ []) (Some core), (0, Some core) ∷ [])
      → Allows (Rule f setup) slots id m 64 (λ _. 0) (λ _. gives_turn (step slots 64 0 0 none) m 0)
  gives_as slots id k core m e = subst (λ (m : SeatOf C). Allows (Rule f setup) slots id m 64 (λ _. 0) (λ _. gives_turn (step slots 64 0 0 none) m 0)) (sym e) (gives_keeps slots id k core)

  pub gives_read_as : (slots id : ℕ) (k : Known C) (core : C) (m : SeatOf C) → m ≡ (shared_view (k ∷ []) (Some core), (0, Some core) ∷ [])
      → Allows (Rule f setup) slots id m 64 (λ _. 0) (λ _. gives_read f (step slots 64 0 0 none) m 0)
  gives_read_as slots id k core m e = subst (λ (m : SeatOf C). Allows (Rule f setup) slots id m 64 (λ _. 0) (λ _. gives_read f (step slots 64 0 0 none) m 0)) (sym e) (gives_read_keeps slots id k core)

  pub looks_as : (slots id : ℕ) (k : Known C) (m : SeatOf C) → m ≡ (shared_view (k ∷ []) None, [])
      → Allows (Rule f setup) slots id m 65 (λ n. n) (looks (step slots 65 0 0 none) m)
  looks_as slots id k m e = subst (λ (m : SeatOf C). Allows (Rule f setup) slots id m 65 (λ n. n) (looks (step slots 65 0 0 none) m)) (sym e) (looks_keeps slots id k)
