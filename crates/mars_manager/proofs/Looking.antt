-- What a pass that reads the history guarantees, given what its steps guarantee.
use Rattle.std.proofs.Common.{◌≡◌, inl, ℕ, ◌+◌, ◌&&◌, not, Bool, List, [], ◌∷◌, length, get_or, drop, arith, Option, Some, None, Result, Ok, Err, unwrap_or, refl, sym, ap, ◌∙◌, subst, map}
use Rattle.std.specs.Prelude.{IsTrue, IfOk, IfErr, is_some}
use Rattle.history.specs.Locks.{touched}
use Rattle.caller_steps.specs.State.{commits_of}
use Rattle.caller_steps.specs.Own.{own_of, live_by}
use Rattle.caller_steps.proofs.Continuing.{grows_none}
use Rattle.stripe_words.specs.declared.hold.Hold.{Hold}
use Rattle.stripe_words.specs.declared.hold.Hold.TheVariants.{Free}
use Rattle.mars_manager.specs.declared.mars.Again.{Again}
use Rattle.mars_manager.specs.Locks.{IsCovered, touched_by}
use Rattle.mars_manager.proofs.Striping.{number_is, long_is, pass_is}
use Rattle.history.specs.Legal.{IsLegal, AreNumberedFrom}
use Rattle.history.specs.declared.transaction.Done.{Done}
use Rattle.history.specs.Table.{Granted}
use Rattle.caller_steps.specs.Core.{CoreView}
use Rattle.caller_steps.specs.Prefix.{Grows}
use Rattle.caller_steps.proofs.Running.{turn_run, turn_told, turn_grows}
use Rattle.caller_steps.proofs.Numbering.{turns_number, behind_numbered}
use Rattle.atomic_table.specs.Table.{rest}
use Rattle.mars_manager.specs.declared.view.Known.{Known}
use Rattle.mars_manager.specs.declared.setup.Setup.{Setup}
use Rattle.mars_manager.specs.Pass.{Fits, AllFit, known_at, names_in, finds, told_of, live_of, IsOther}
use Rattle.mars_manager.specs.Sharing.{IsLegalIn, SeesOwn, Reads}
use Rattle.mars_manager.specs.Seat.{SeatOf, shared_view, seat_of, first_of, IsIdle}
use Rattle.mars_manager.specs.Rule.{Face, Took, HasRead}
use Rattle.mars_manager.proofs.Committing.{sees}
use Rattle.mars_manager.proofs.Calls.{homed}
use Rattle.mars_manager.proofs.Turns.{some_same, fit_before}

module _ {C : Type 0} (f : Face C) (m0 m1 m2 m3 : SeatOf C) (k : Known C) (core new : C) (same : new ≡ core) (home : Option C) (idle : m0 ≡ (shared_view (k ∷ []) None, [])) (took : Took f m0 m1)
    (taken : m1.1 ≡ (0, home) ∷ rest m1.1) (is : home ≡ Some core) (out_is : m2 ≡ (m1.0, (0, None) ∷ rest m1.1)) (back : m3 ≡ (m2.0, (0, Some new) ∷ rest m2.1)) where
  -- the seat once the core is back in its slot
  pub home_again : m3 ≡ (shared_view (finds 0 k ∷ []) (Some core), (0, Some core) ∷ [])
  home_again = homed f m0 m1 m2 m3 k core new home idle took taken is out_is back ∙ ap (λ (c : C). (let m : SeatOf C = (shared_view (finds 0 k ∷ []) (Some core), (0, Some c) ∷ []) in m)) same

  module _ (m4 : SeatOf C) (gives : (c : C) → m3.0.held ≡ Some c → HasRead f c m3 m4) where
    pub read_record : HasRead f core m3 m4
    read_record = gives core (ap (λ (m : SeatOf C). m.0.held) home_again)

    -- the seat once the turn is given up
    pub read_seat : m4 ≡ seat_of (known_at (finds 0 k) read_record.turns (f.show core).state)
    read_seat = let F : SeatOf C → SeatOf C = λ m. (shared_view (map (λ (known : Known C). known_at known read_record.turns (f.show core).state) m.0.passes) None, []) in read_record.now ∙ ap F home_again

    read_fit : Fits f.tells f.show read_record.setup read_record.turns (f.show core).state k
    read_fit =
        let all = subst (λ (ks : List (Known C)). AllFit f.tells f.show read_record.setup read_record.turns (f.show core).state ks) (ap (λ (m : SeatOf C). m.0.passes) home_again) read_record.fit in
        fit_before f read_record.setup read_record.turns core 0 k all.0

    pub read_known : first_of m4.0.passes ≡ known_at (finds 0 k) read_record.turns (f.show core).state
    read_known = ap (λ (m : SeatOf C). first_of m.0.passes) read_seat

    pub one_seat_read : m4 ≡ seat_of (first_of m4.0.passes)
    one_seat_read = read_seat ∙ ap (λ (j : Known C). seat_of j) (sym read_known)

    pub reads_at : Reads f.tells f.show k (first_of m4.0.passes)
    reads_at = record {
      setup = read_record.setup;
      turns = read_record.turns;
      core = core;
      setup_is = read_fit.setup_is;
      since = read_record.since;
      whose = read_record.whose;
      ready = read_record.ready;
      last = read_fit.last;
      after = read_known;
    }

    pub seen_is : (first_of m4.0.passes).seen ≡ (f.show core).state.history
    seen_is = ap (λ (j : Known C). j.seen) read_known

    pub seen_numbered : AreNumberedFrom 1 (f.show core).state.history
    seen_numbered =
        turns_number f.tells (f.show read_record.setup.first).limits (f.show read_record.setup.first).state (f.show core).state read_record.turns
        (turn_run f.tells (f.show read_record.setup.first).limits k.number k.past k.seen (f.show read_record.setup.first).state (f.show core).state read_record.turns read_fit.last)
        (subst (λ (log : List Done). AreNumberedFrom 1 log) (sym read_record.ready.history) tt)

-- what a pass keeps that has read the history, or has tried to
pub record Kept {C : Type 0} (was now : Known C) : Type 0 where
  pub number : now.number ≡ was.number
  pub setup : now.setup ≡ was.setup
  pub holds : now.holds ≡ was.holds
  pub told : told_of now ≡ told_of was
  pub mine : SeesOwn was now
  pub seen : Grows was.seen now.seen

module _ {C : Type 0} (tells : Bool) (show : C → CoreView) (was : Known C) where
  kept_read : (now : Known C) → Reads tells show was now → Kept was now
  kept_read now r = record {
    number = ap (λ (j : Known C). j.number) r.after;
    setup = ap (λ (j : Known C). j.setup) r.after;
    holds = ap (λ (j : Known C). j.holds) r.after;
    told = ap told_of r.after ∙ sym (turn_told tells (show r.setup.first).limits was.number was.past was.seen (show r.setup.first).state (show r.core).state r.turns r.last);
    mine = sees tells show r.setup r.turns (show r.core).state was r.last r.ready now (ap (λ (j : Known C). j.number) r.after) (ap (λ (j : Known C). commits_of was.number j.seen) r.after);
    seen = subst (λ (j : Known C). Grows was.seen j.seen) (sym r.after) (turn_grows tells (show r.setup.first).limits was.number was.past was.seen (show r.setup.first).state (show r.core).state r.turns r.last);
  }

  kept_found : (n : ℕ) → Kept was (finds n was)
  kept_found n = record { number = refl; setup = refl; holds = refl; told = refl; mine = inl refl; seen = grows_none was.seen }

  pub read_kept : {A : Type 0} (r : Result A Again) (m : SeatOf C) → IfOk r (λ _. m ≡ seat_of (first_of m.0.passes)) → IfOk r (λ _. Reads tells show was (first_of m.0.passes))
      → IfErr r (λ a. IsOther was a.holder × (m ≡ seat_of (finds (a.holder + 1) was))) → (m ≡ seat_of (first_of m.0.passes)) × Kept was (first_of m.0.passes)
  read_kept (Ok a) m one reads again = (one, kept_read (first_of m.0.passes) reads)
  read_kept (Err a) m one reads again =
      let now : finds (a.holder + 1) was ≡ first_of m.0.passes = sym (ap (λ (s : SeatOf C). first_of s.0.passes) again.1) in
      (again.1 ∙ ap (λ (j : Known C). seat_of j) now, subst (λ (j : Known C). Kept was j) now (kept_found (a.holder + 1)))

  pub legal_read : (now : Known C) → Reads tells show was now → IsTrue tells → IsLegalIn show now
  legal_read now r told given is =
      let same : r.setup ≡ given = some_same r.setup given (sym r.setup_is ∙ sym (ap (λ (j : Known C). j.setup) r.after) ∙ is) in
      subst (λ (j : Known C). IsLegal (show given.first).state.base j.seen) (sym r.after)
      (subst (λ (g : Setup C). IsLegal (show g.first).state.base (show r.core).state.history) same
      (subst (λ b. IsLegal b (show r.core).state.history) r.since.base (r.since.continues told).sound.legal))

-- the pass keeps what is so of it between two calls
pub idle_kept : {C : Type 0} (n : ℕ) (names : List (List ℕ)) (hs : List Hold) (takes : Bool) (m new : SeatOf C) → IsIdle n names hs takes m → new ≡ seat_of (first_of new.0.passes) → Kept (first_of m.0.passes) (first_of new.0.passes) → IsIdle n names hs takes new
idle_kept {C} n names hs takes m new i one k =
    let was = first_of m.0.passes in
    let now = first_of new.0.passes in
    let old = pass_is n names hs takes m i in
    let same : live_of now ≡ live_of was = (λ j. live_by (k.number j) (k.told j)) in record {
      seat = record {
        known = now;
        is = one;
        number = k.number ∙ number_is n m i.seat;
        small = i.seat.small;
        long = ap (λ (xs : List Hold). length xs) k.holds ∙ long_is n m i.seat;
        covered = subst (λ (p : Option (Setup C) × Option Granted). IsCovered (touched (names_in p.0) (unwrap_or p.1 [])) now.holds) (λ j. (sym k.setup j, sym same j)) (subst (λ (xs : List Hold). IsCovered (touched_by was) xs) (sym k.holds) old.covered);
      };
      named = ap names_in k.setup ∙ i.named;
      same = k.holds ∙ i.same;
      settled = λ t e. i.settled t (ap (λ (xs : List Hold). get_or xs t Free) (sym k.holds) ∙ e);
      takes_is = (λ j. not (own_of (k.number j) (k.told j)).waits && is_some (live_by (k.number j) (k.told j))) ∙ i.takes_is;
    }

-- what is copied goes on from there
pub numbered_copy : {B : Type 0} (r : Result (List Done) B) (from : ℕ) (log : List Done) → AreNumberedFrom 1 log → IfOk r (λ copy. copy ≡ drop from log) → IfOk r (λ copy. AreNumberedFrom (from + 1) copy)
numbered_copy (Ok copy) from log h e = subst (λ (l : List Done). AreNumberedFrom (from + 1) l) (sym e) (subst (λ n. AreNumberedFrom n (drop from log)) (omega arith) (behind_numbered 1 from log h))
numbered_copy (Err fault) from log h e = tt
