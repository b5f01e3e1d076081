-- Lists of seats.
use Rattle.std.proofs.Common.{false, nat_eq, sym, ap, Some, get_or, ◌≡◌, ◌≢◌, ◌⊎◌, ◌≤◌, ◌<◌, ◌+◌, ℕ, zero, suc, inl, inr, [], ◌∷◌, ◌++◌, length, Option, None, unwrap_or, refl, subst, ◌∙◌, arith}
use Rattle.std.proofs.Math.ListN.{set, length-set}
use Rattle.std.specs.Prelude.{List, IfSome, is_some}
use Rattle.std.proofs.lemmas.Option.{slice_get-get_or}
use Rattle.std.specs.Map.{update}
use Rattle.std.proofs.lemmas.Map.{update_here, update_apart}
use Rattle.std.proofs.lemmas.Bool.{cases_eq, cases_lt, both_ways, true≢false}
use Rattle.history.specs.Table.{Granted}
use Rattle.history.specs.Locks.{touches, touched, clash, Meets}
use Rattle.history.specs.declared.call.TableCall.{TableCall}
use Rattle.history.proofs.Modes.{clash_none}
use Rattle.caller_steps.specs.State.{Offer, unoffered, unsettled, offers_with}
use Rattle.caller_steps.specs.Offers.{is_offered, is_unoffered}
use Rattle.caller_steps.specs.Locked.{Blocks}
use Rattle.caller_steps.proofs.Offering.{offers_here, offers_apart}
use Rattle.mars_core.specs.declared.seat.Seat.TheVariants as place
use Rattle.mars_core.specs.Seats.{Live, Seat, Places, Seats, seat_in, live_of, offer_of, calls_in, live_in, offers_in, calls_at, bare, Seated, Given, IsMasked, AreMasked}

pub length-push : (places : Places) (one : Seat) (n : ℕ) → length places ≡ n → length (places ++ one ∷ []) ≡ n + 1
length-push [] one n is = omega (arith, is)
length-push (other ∷ places) one n is = omega (arith, is, length-push places one (length places) refl)

-- one more caller, with a free seat
pub free-push : (places : Places) → ((caller : ℕ) → seat_in places caller ≡ place.Free) → (caller : ℕ) → seat_in (places ++ place.Free ∷ []) caller ≡ place.Free
free-push [] free zero = refl
free-push [] free (suc caller) = refl
free-push (one ∷ places) free zero = free zero
free-push (one ∷ places) free (suc caller) = free-push places (λ other. free (suc other)) caller

-- another seat for one caller
seat-here : (places : Places) (caller : ℕ) (one : Seat) → caller < length places → seat_in (set places caller one) caller ≡ one
seat-here [] caller one within = absurd (omega (arith, within))
seat-here (was ∷ places) zero one within = refl
seat-here (was ∷ places) (suc caller) one within = seat-here places caller one (omega (arith, within))

seat-there : (places : Places) (caller other : ℕ) (one : Seat) → (caller ≡ other → ⊥) → seat_in (set places caller one) other ≡ seat_in places other
seat-there [] caller other one apart = refl
seat-there (was ∷ places) zero zero one apart = absurd (apart refl)
seat-there (was ∷ places) zero (suc other) one apart = refl
seat-there (was ∷ places) (suc caller) zero one apart = refl
seat-there (was ∷ places) (suc caller) (suc other) one apart = seat-there places caller other one (λ e. apart (ap suc e))

seat-set : (places : Places) (caller : ℕ) (one : Seat) → caller < length places → (other : ℕ)
    → ((seat_in (set places caller one) other ≡ one) × (other ≡ caller)) ⊎ ((seat_in (set places caller one) other ≡ seat_in places other) × (other ≢ caller))
seat-set places caller one within other = elim (cases_eq other caller) [
  | inl e ↦ inl (subst (λ (n : ℕ). seat_in (set places caller one) n ≡ one) (sym e) (seat-here places caller one within), e)
  | inr ne ↦ inr (seat-there places caller other one (λ same. ne (sym same)), ne)
]

live-set : (places : Places) (caller : ℕ) (one : Seat) → caller < length places → (other : ℕ)
    → calls_in (live_of (seat_in (set places caller one) other)) ≡ update nat_eq (λ (c : ℕ). calls_in (live_of (seat_in places c))) caller (calls_in (live_of one)) other
live-set places caller one within other =
    let was = λ (c : ℕ). calls_in (live_of (seat_in places c)) in
    let now = calls_in (live_of one) in
    elim (seat-set places caller one within other) [
      | inl e ↦ ap (λ (seat : Seat). calls_in (live_of seat)) e.0 ∙ sym (ap (update nat_eq was caller now) e.1 ∙ update_here was caller now)
      | inr ne ↦ ap (λ (seat : Seat). calls_in (live_of seat)) ne.0 ∙ sym (update_apart was caller now other ne.1)
    ]

offer-set : (places : Places) (caller : ℕ) (one : Seat) → caller < length places → (other : ℕ)
    → offer_of (seat_in (set places caller one) other) ≡ offers_with (λ (c : ℕ). offer_of (seat_in places c)) caller (offer_of one) other
offer-set places caller one within other =
    let was = λ (c : ℕ). offer_of (seat_in places c) in
    elim (seat-set places caller one within other) [
      | inl e ↦ ap offer_of e.0 ∙ sym (ap (offers_with was caller (offer_of one)) e.1 ∙ offers_here was caller (offer_of one))
      | inr ne ↦ ap offer_of ne.0 ∙ sym (offers_apart was caller (offer_of one) other ne.1)
    ]

-- the masks stay right, if those of the one are
masked-set : (names : List (List ℕ)) (places : Places) (caller : ℕ) (one : Seat) → caller < length places → AreMasked names places → IfSome (live_of one) (IsMasked names) → AreMasked names (set places caller one)
masked-set names places caller one within masked right other live is = elim (seat-set places caller one within other) [
  | inl e ↦ if_some names (live_of one) live (sym (ap live_of e.0) ∙ is) right
  | inr ne ↦ masked other live (sym (ap live_of ne.0) ∙ is)
]
  where
    if_some : (names : List (List ℕ)) (o : Option Live) (live : Live) → o ≡ Some live → IfSome o (IsMasked names) → IsMasked names live
    if_some names o live at right = let h : IfSome (Some live) (IsMasked names) = subst (λ (p : Option Live). IfSome p (IsMasked names)) at right in h

-- a seat without a live transaction has no masks
pub no_masks : (names : List (List ℕ)) (o : Option Live) → o ≡ None → IfSome o (IsMasked names)
no_masks names o none = subst (λ (p : Option Live). IfSome p (IsMasked names)) (sym none) tt

module _ (names : List (List ℕ)) (items : Places) (caller at : ℕ) (is : at ≡ caller) (within : caller < length items) where
  pub masked : (one : Seat) → AreMasked names items → IfSome (live_of one) (IsMasked names) → AreMasked names (set items at one)
  masked one are right = subst (λ (n : ℕ). AreMasked names (set items n one)) (sym is) (masked-set names items caller one within are right)

  -- what a look at the caller's place finds
  pub found_seat : (found : Seat) → found ≡ get_or items at found → seat_in items caller ≡ found
  found_seat found value = ap (λ (o : Option Seat). unwrap_or o place.Free) (slice_get-get_or items caller found within) ∙ subst (λ (n : ℕ). get_or items n found ≡ found) is (sym value)

-- the masks of what is at a place
pub masked_at : (names : List (List ℕ)) (places : Places) (caller : ℕ) (o : Option Live) → live_of (seat_in places caller) ≡ o → AreMasked names places → IfSome o (IsMasked names)
masked_at names places caller None is are = tt
masked_at names places caller (Some live) is are = are caller live is

-- a seat whose caller has offered nothing, and which is not that of a live transaction
pub untaken : (seat : Seat) → offer_of seat ≡ unoffered → ((live : Live) → seat ≡ place.Live live → ⊥) → live_of seat ≡ None
untaken place.Free un none = refl
untaken (place.Live live) un none = absurd (none live refl)
untaken (place.Offered live) un none = absurd (true≢false (ap is_offered un))
untaken (place.Committed n) un none = refl

-- what a group has committed is not live
pub gone : (seat : Seat) (n : ℕ) → offer_of seat ≡ unsettled n → live_of seat ≡ None
gone place.Free n is = refl
gone (place.Live live) n is = absurd (true≢false (ap is_unoffered is))
gone (place.Offered live) n is = absurd (true≢false (ap is_offered is))
gone (place.Committed m) n is = refl

-- an offer that is there already changes nothing
same_offer : (offers : ℕ → Offer) (caller : ℕ) (offer : Offer) → offers caller ≡ offer → (other : ℕ) → offers_with offers caller offer other ≡ offers other
same_offer offers caller offer is other = elim (cases_eq other caller) [
  | inl e ↦ subst (λ (n : ℕ). offers_with offers caller offer n ≡ offers n) (sym e) (offers_here offers caller offer ∙ sym is)
  | inr ne ↦ offers_apart offers caller offer other ne
]

pub offers_same : (offers : ℕ → Offer) (caller : ℕ) (offer : Offer) → offers caller ≡ offer → offers_with offers caller offer ≡ offers
offers_same offers caller offer is = λ i other. same_offer offers caller offer is other i

module _ (old : Seats) (names : List (List ℕ)) (items : Places) (caller at : ℕ) (view : ◌≡◌ {A = Seats} (record { names = names; places = items }) old) (is : at ≡ caller) (within : caller < length old.places) where
  pub placed : (one : Seat) → Given old caller (calls_in (live_of one)) (offer_of one) (record { names = names; places = set items at one })
  placed one = subst (λ (x : Seats × ℕ). Given old caller (calls_in (live_of one)) (offer_of one) (record { names = x.0.names; places = set x.0.places x.1 one })) (λ i. (sym view i, sym is i)) (record {
    count = length-set old.places caller one;
    names = refl;
    live = λ i other. live-set old.places caller one within other i;
    offers = λ i other. offer-set old.places caller one within other i;
  })

  -- the same where the caller has offered nothing, and does not
  pub seated : (one : Seat) → offer_of one ≡ unoffered → offers_in old caller ≡ unoffered → Seated old caller (calls_in (live_of one)) (record { names = names; places = set items at one })
  seated one takes un =
      let it = placed one in
      record { count = it.count; names = it.names; live = it.live; offers = it.offers ∙ offers_same (offers_in old) caller (offer_of one) (un ∙ sym takes) }

  pub seated_as : (one : Live) (now : Granted) → one.calls ≡ now → offers_in old caller ≡ unoffered → Seated old caller (Some now) (record { names = names; places = set items at (place.Live one) })
  seated_as one now same un = subst (λ (calls : Granted). Seated old caller (Some calls) (record { names = names; places = set items at (place.Live one) })) same (seated (place.Live one) refl un)

  -- what a look at the caller's place finds
  pub seat-at : (found : Seat) → found ≡ get_or items at found → seat_in old.places caller ≡ found
  seat-at found value =
      let inside : caller < length items = subst (λ (s : Seats). caller < length s.places) (sym view) within in
      ap (λ (s : Seats). seat_in s.places caller) (sym view) ∙ found_seat names items caller at is inside found value

  pub live-at : (found : Seat) → found ≡ get_or items at found → live_in old caller ≡ calls_in (live_of found)
  live-at found value = ap (λ (seat : Seat). calls_in (live_of seat)) (seat-at found value)

  pub offer-at : (found : Seat) → found ≡ get_or items at found → offers_in old caller ≡ offer_of found
  offer-at found value = ap offer_of (seat-at found value)

-- beyond the callers the seats are free
pub free_beyond : (places : Places) (caller : ℕ) → length places ≤ caller → seat_in places caller ≡ place.Free
free_beyond [] caller le = refl
free_beyond (one ∷ places) zero le = absurd (omega (arith, le))
free_beyond (one ∷ places) (suc caller) le = free_beyond places caller (omega (arith, le))

no_calls : (live : Option Granted) → is_some live ≡ false → unwrap_or live [] ≡ []
no_calls None idle = refl
no_calls (Some calls) idle = absurd (true≢false idle)

module _ (seats : Seats) (caller : ℕ) (call : TableCall) where
  -- the caller itself is not one of those before n that hold a stripe of the call
  pub free_own : (n : ℕ) → ((holder : ℕ) → holder < n → Blocks (bare seats) caller call holder → ⊥) → n ≡ caller
      → (holder : ℕ) → holder < n + 1 → Blocks (bare seats) caller call holder → ⊥
  free_own n before own holder lt blocks = elim (cases_eq holder n) [
    | inl e ↦ blocks.0 (e ∙ own)
    | inr ne ↦ before holder (omega (arith, lt, ne)) blocks
  ]

  -- nor is one with whose transaction the call clashes nowhere
  pub free_apart : (n : ℕ) → ((holder : ℕ) → holder < n → Blocks (bare seats) caller call holder → ⊥)
      → ((stripe : ℕ) → clash (touches seats.names call stripe) (touched seats.names (calls_at seats n) stripe) ≡ false)
      → (holder : ℕ) → holder < n + 1 → Blocks (bare seats) caller call holder → ⊥
  free_apart n before none holder lt blocks = elim (cases_eq holder n) [
    | inl e ↦ (let meets = subst (λ (h : ℕ). Meets seats.names call (calls_at seats h)) e blocks.1 in
        both_ways (clash (touches seats.names call meets.0) (touched seats.names (calls_at seats n) meets.0)) (none meets.0) meets.1)
    | inr ne ↦ before holder (omega (arith, lt, ne)) blocks
  ]

  -- nor is one without a live transaction
  pub free_idle : (n : ℕ) → ((holder : ℕ) → holder < n → Blocks (bare seats) caller call holder → ⊥) → is_some (live_in seats n) ≡ false
      → (holder : ℕ) → holder < n + 1 → Blocks (bare seats) caller call holder → ⊥
  free_idle n before idle = free_apart n before (λ stripe. subst (λ (calls : Granted). clash (touches seats.names call stripe) (touched seats.names calls stripe) ≡ false)
      (sym (no_calls (live_in seats n) idle)) (clash_none (touches seats.names call stripe)))

  -- nor is one beyond all callers
  pub free_all : (n : ℕ) → length seats.places ≤ n → ((holder : ℕ) → holder < n → Blocks (bare seats) caller call holder → ⊥) → (holder : ℕ) → Blocks (bare seats) caller call holder → ⊥
  free_all n all before holder blocks = elim (cases_lt holder n) [
    | inl lt ↦ before holder lt blocks
    | inr le ↦ (let nothing : Meets seats.names call [] = subst (λ (seat : Seat). Meets seats.names call (unwrap_or (calls_in (live_of seat)) [])) (free_beyond seats.places holder (omega (arith, all, le))) blocks.1 in
        absurd (both_ways (clash (touches seats.names call nothing.0) (touched seats.names [] nothing.0)) (clash_none (touches seats.names call nothing.0)) nothing.1))
  ]
