-- A settle that commits a group, in the words of the seats.
use Rattle.std.proofs.Common.{◌≡◌, ◌<◌, ◌+◌, ℕ, Bool, IsTrue, List, [], length, Option, None, Result, Ok, Err, refl, sym, ap, subst, ◌∙◌}
use Rattle.std.proofs.lemmas.Bool.{false≢true}
use Rattle.array_shape.specs.declared.shape.Shape.{Shape}
use Rattle.eaw_face.specs.Causes.{IsAlive}
use Rattle.page_store.specs.Index as below
use Rattle.page_store.specs.Shown.{PagesView}
use Rattle.history.specs.Writes.{Table}
use Rattle.history.specs.Rows.{NamedRows}
use Rattle.history.specs.Table.{Granted}
use Rattle.history.specs.declared.call.Call.TheVariants as call
use Rattle.history.specs.declared.call.Control.TheVariants as control
use Rattle.history.specs.declared.call.Reply.TheVariants.{Committed, NoMemory}
use Rattle.history.specs.declared.call.Reply.TheVariants as reply
use Rattle.history.specs.declared.transaction.Done.{Done}
use Rattle.record_table.specs.Groups as tables
use Rattle.record_table.specs.Groups.{CommitsGroup, GroupCause}
use Rattle.record_table.specs.Shown.{state_of}
use Rattle.record_table.specs.declared.fault.TableFault.{TableFault}
use Rattle.record_table.specs.declared.fault.TableFault.TheVariants as fault
use Rattle.caller_steps.specs.State.{State, Offer, unoffered, offered, unsettled, offers_with, with_offer}
use Rattle.caller_steps.specs.Offers.{offerers, group_end, number_among, committed_group}
use Rattle.caller_steps.specs.Core.{Steps}
use Rattle.caller_steps.proofs.Offering.{offerers_once, offerer_is, group_ends}
use Rattle.mars_core.specs.Held.{core_over, state_at}
use Rattle.mars_core.specs.Kept.{IsKept}
use Rattle.mars_core.specs.Seats.{Seats, live_in, offers_in, offered_in, Given, IsOf, Ends}
use Rattle.mars_core.specs.declared.seat.Ending.{Ending}
use Rattle.mars_core.specs.declared.seat.Ending.TheVariants as ending
use Rattle.mars_core.proofs.Prefixes.{StoreLaws}
use Rattle.mars_core.proofs.Stepping.{ShowsPages}
use Rattle.mars_core.proofs.Staying.{update_same}
use Rattle.mars_core.proofs.Settling.{settled_keeps, settled_steps, lost_keeps, lost_steps}

same_number : (n m : ℕ) → unsettled n ≡ unsettled m → n ≡ m
same_number n m e = cc

-- only the medium refuses a group
pub group_fails : (p : PagesView) → IsAlive p.store → (f : TableFault) → GroupCause p (Err f) → f ≡ fault.Media
group_fails p alive fault.Media cause = refl
group_fails p alive fault.Dead cause = absurd (false≢true (sym alive ∙ cause))
group_fails p alive _ cause = absurd cause

module _ (tells : Bool) (Opens : Shape → List ℕ → List ℕ → Type 0) (index : below.Index) (one : (shape : Shape) (image a b : List ℕ) → Opens shape image a → Opens shape image b → a ≡ b)
    (p q : PagesView) (old_laws : StoreLaws tells Opens p.store) (new_laws : StoreLaws tells Opens q.store) (base : Table) (history : List Done) (old : Seats) (doubt : List Done) (rows : List NamedRows)
    (kept : IsKept tells Opens index p (length old.places) rows (state_at index p.store old.names base history (live_in old) (offers_in old) doubt)) (alive : IsAlive p.store)
    (t : ℕ) (inside : t < p.store.shape.numbers) (has : offers_in old t ≡ offered) (last : ℕ) (last_is : last ≡ length history + length (offered_in old)) where
  abbrev s : State
  s = state_at index p.store old.names base history (live_in old) (offers_in old) doubt

  abbrev os : List ℕ
  os = offerers p.store.shape.numbers s

  shows : ShowsPages index p s
  shows = record { indexed = refl; dead = refl }

  same : offered_in old ≡ os
  same = ap (λ (n : ℕ). offerers n s) kept.seats

  ends_all : (how : Ending) (mid : Seats) (was longer : List Done) → ((state : State) → IsOf old (length history) state → Ends how last state (offered_in old) old was longer mid) → Ends how (group_end s os) s os old was longer mid
  ends_all how mid was longer ends = subst (λ (x : ℕ × List ℕ). Ends how x.0 s x.1 old was longer mid) (λ i. ((last_is ∙ ap (λ (callers : List ℕ). length history + length callers) same) i, same i))
      (ends s (record { live = refl; offers = refl; long = refl }))

  in_group : (mid : Seats) (longer : List Done) → ((state : State) → IsOf old (length history) state → Ends ending.Committed last state (offered_in old) old history longer mid)
      → (live_in mid t ≡ None) × (offers_in mid t ≡ unsettled (number_among (length history + 1) os t))
  in_group mid longer ends =
      let all = ends_all ending.Committed mid history longer ends in
      let at = group_ends s (group_end s os) os t (offerers_once p.store.shape.numbers s) (offerer_is p.store.shape.numbers s t inside has) in
      (ap (λ (f : ℕ → Option Granted). f t) all.live ∙ at.live, ap (λ (f : ℕ → Offer). f t) all.offers ∙ at.offer)

  -- the caller's own is among them
  pub has_number : (mid : Seats) (longer : List Done) → ((state : State) → IsOf old (length history) state → Ends ending.Committed last state (offered_in old) old history longer mid)
      → (n : ℕ) × (offers_in mid t ≡ unsettled n)
  has_number mid longer ends = (number_among (length history + 1) os t, (in_group mid longer ends).1)

  pub has_seat : (mid : Seats) (longer : List Done) → ((state : State) → IsOf old (length history) state → Ends ending.Committed last state (offered_in old) old history longer mid) → t < length mid.places
  has_seat mid longer ends = subst (λ (n : ℕ). t < n) (sym ((ends_all ending.Committed mid history longer ends).count ∙ kept.seats)) inside

  module _ (callers : List ℕ) (callers_are : callers ≡ offered_in old) (result : Result (Unit {0}) TableFault) (does : CommitsGroup tells (Opens p.store.shape) index callers p q result) where
    does_all : (r : Result (Unit {0}) TableFault) → result ≡ r → CommitsGroup tells (Opens p.store.shape) index os p q r
    does_all r is = subst (λ (x : List ℕ × Result (Unit {0}) TableFault). CommitsGroup tells (Opens p.store.shape) index x.0 p q x.1) (λ i. ((callers_are ∙ same) i, is i)) does

    -- they were committed
    module _ (is : result ≡ Ok tt) (mid : Seats) (longer : List Done) (ends : (state : State) → IsOf old (length history) state → Ends ending.Committed last state (offered_in old) old history longer mid)
        (new : Seats) (given : Given mid t None unoffered new) where
      abbrev after : State
      after = state_at index q.store new.names base longer (live_in new) (offers_in new) doubt

      all : Ends ending.Committed (group_end s os) s os old history longer mid
      all = ends_all ending.Committed mid history longer ends

      live : live_in new ≡ (committed_group s os).live
      live = given.live ∙ update_same (live_in mid) t None (in_group mid longer ends).0 ∙ all.live

      offers : offers_in new ≡ (with_offer (committed_group s os) t unoffered).offers
      offers = given.offers ∙ (λ i. offers_with (all.offers i) t unoffered)

      pub group_keeps : IsKept tells Opens index q (length new.places) rows after
      group_keeps = settled_keeps tells Opens index one p q old_laws new_laws s after shows (record { indexed = refl; dead = refl }) (given.names ∙ all.names) refl (length old.places) (length new.places) (given.count ∙ all.count) rows kept alive t has inside
          (does_all (Ok tt) is) live offers all.group refl

      pub group_steps : (n : ℕ) → offers_in mid t ≡ unsettled n → Steps tells t (call.Control control.Settle) (core_over Opens index p.store s) (core_over Opens index q.store after) (Committed n)
      group_steps n number = settled_steps tells Opens index one p q old_laws new_laws s after shows (record { indexed = refl; dead = refl }) (given.names ∙ all.names) refl (length old.places) (length new.places) (given.count ∙ all.count) rows kept alive t has inside
          (does_all (Ok tt) is) live offers all.group refl n (same_number n (number_among (length history + 1) os t) (sym number ∙ (in_group mid longer ends).1))

    -- the medium failed
    module _ (is : result ≡ Err fault.Media) (new : Seats) (dones : List Done) (ends : (state : State) → IsOf old (length history) state → Ends ending.Doubtful last state (offered_in old) old [] dones new)
        (due : IsTrue tells → 0 < length (tables.group_writes (state_of index p) callers)) where
      abbrev left : State
      left = state_at index q.store new.names base history (live_in new) (offers_in new) dones

      lost : Ends ending.Doubtful (group_end s os) s os old [] dones new
      lost = ends_all ending.Doubtful new [] dones ends

      due_all : IsTrue tells → 0 < length (tables.group_writes (state_of index p) os)
      due_all told = subst (λ (ts : List ℕ). 0 < length (tables.group_writes (state_of index p) ts)) (callers_are ∙ same) (due told)

      pub doubt_keeps : IsKept tells Opens index q (length new.places) rows left
      doubt_keeps = lost_keeps tells Opens index one p q old_laws new_laws s left shows (record { indexed = refl; dead = refl }) lost.names refl (length old.places) (length new.places) lost.count rows kept alive t has inside
          (does_all (Err fault.Media) is) lost.live lost.offers refl lost.group due_all

      pub doubt_steps : Steps tells t (call.Control control.Settle) (core_over Opens index p.store s) (core_over Opens index q.store left) reply.Media
      doubt_steps = lost_steps tells Opens index one p q old_laws new_laws s left shows (record { indexed = refl; dead = refl }) lost.names refl (length old.places) (length new.places) lost.count rows kept alive t has inside
          (does_all (Err fault.Media) is) lost.live lost.offers refl lost.group due_all
