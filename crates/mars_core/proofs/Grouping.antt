-- What callers have offered, taken one after another, as the group that a settle commits.
use Rattle.std.proofs.Common.{◌≡◌, ◌≢◌, ◌<◌, ◌≤◌, ◌+◌, ◌-◌, ℕ, zero, suc, inl, inr, Bool, true, false, cond, nat_eq, List, [], ◌∷◌, ◌++◌, length, Option, Some, None, unwrap_or, refl, sym, ap, subst, ◌∙◌, arith, length-append}
use Rattle.std.specs.Prelude.{filter}
use Rattle.std.specs.List.{range_with_len}
use Rattle.std.specs.Map.{update}
use Rattle.std.proofs.Math.ListN.{set}
use Rattle.std.proofs.lemmas.Bool.{cases_lt, cases_eq}
use Rattle.std.proofs.lemmas.List.{append_assoc, append-nil}
use Rattle.std.proofs.lemmas.List.Elements.{filter-append}
use Rattle.array_shape.specs.NumberSet.{has, numbers_from, members}
use Rattle.array_shape.specs.declared.number_set.NumberSet.{NumberSet}
use Rattle.history.specs.Table.{Granted}
use Rattle.history.specs.declared.transaction.Done.{Done}
use Rattle.caller_steps.specs.State.{State, Offer, unsettled, offers_with, calls_of}
use Rattle.caller_steps.specs.Offers.{is_offered, offerers, done_in, with_done, with_group, group_in, without}
use Rattle.caller_steps.proofs.Offering.{is_in, in_if, offers_apart, one_out, one_longer, group_apart, without_apart}
use Rattle.mars_core.specs.declared.seat.Ending.{Ending}
use Rattle.mars_core.specs.declared.seat.Ending.TheVariants.{Committed, Doubtful}
use Rattle.mars_core.specs.Seats.{Seat, Seats, offer_of, live_in, offers_in, offered_in, calls_in, live_of, bare, seat_of, ended, IsOf, Ends, Given}
use Rattle.mars_core.proofs.Seating.{placed, free_beyond}

-- ---- those of the first numbers that a test finds

range_more : (a n : ℕ) → range_with_len a (suc n) ≡ range_with_len a n ++ (a + n) ∷ []
range_more a zero = ap (λ (k : ℕ). k ∷ []) (let same : a ≡ a + 0 = omega arith in same)
range_more a (suc n) = ap (λ (ks : List ℕ). a ∷ ks) (range_more (a + 1) n ∙ ap (λ (k : ℕ). range_with_len (a + 1) n ++ k ∷ []) (let same : a + 1 + n ≡ a + suc n = omega arith in same))

module _ (p : ℕ → Bool) where
  abbrev pub first : ℕ → List ℕ
  first n = filter p (range_with_len 0 n)

  pub first_more : (n : ℕ) (b : Bool) → p n ≡ b → first (n + 1) ≡ first n ++ cond b (n ∷ []) []
  first_more n b is =
      let next : n + 1 ≡ suc n = omega arith in
      let at : 0 + n ≡ n = omega arith in
      ap first next ∙ ap (filter p) (range_more 0 n ∙ ap (λ (k : ℕ). range_with_len 0 n ++ k ∷ []) at) ∙ filter-append p (range_with_len 0 n) (n ∷ []) ∙ ap (λ (c : Bool). first n ++ cond c (n ∷ []) []) is

  pub first_with : (n : ℕ) → p n ≡ true → first (n + 1) ≡ first n ++ n ∷ []
  first_with n is = first_more n true is

  pub first_without : (n : ℕ) → p n ≡ false → first (n + 1) ≡ first n
  first_without n is = first_more n false is ∙ append-nil (first n)

  -- there are more of more
  grows_if : (n : ℕ) (b : Bool) → p n ≡ b → length (first n) ≤ length (first (n + 1))
  grows_if n true is = omega (arith, ap (λ (ns : List ℕ). length ns) (first_with n is), length-append (first n) (n ∷ []))
  grows_if n false is = omega (arith, ap (λ (ns : List ℕ). length ns) (first_without n is))

  grows_by : (n k : ℕ) → length (first n) ≤ length (first (n + k))
  grows_by n zero = omega (arith, ap (λ (m : ℕ). length (first m)) (let same : n + 0 ≡ n = omega arith in same))
  grows_by n (suc k) = omega (arith, grows_by n k, grows_if (n + k) (p (n + k)) refl, ap (λ (m : ℕ). length (first m)) (let same : n + k + 1 ≡ n + suc k = omega arith in same))

  -- and at most as many as there are numbers
  short_if : (n : ℕ) (b : Bool) → p n ≡ b → length (first n) ≤ n → length (first (n + 1)) ≤ n + 1
  short_if n true is le = omega (arith, le, ap (λ (ns : List ℕ). length ns) (first_with n is), length-append (first n) (n ∷ []))
  short_if n false is le = omega (arith, le, ap (λ (ns : List ℕ). length ns) (first_without n is))

  pub first_short : (n : ℕ) → length (first n) ≤ n
  first_short zero = omega arith
  first_short (suc n) =
      let next : n + 1 ≡ suc n = omega arith in
      subst (λ (m : ℕ). length (first m) ≤ m) next (short_if n (p n) refl (first_short n))

  -- one that is found is one of them
  pub first_fits : (n all : ℕ) → n < all → p n ≡ true → length (first n) < length (first all)
  first_fits n all lt is = omega (
    arith,
    ap (λ (ns : List ℕ). length ns) (first_with n is),
    length-append (first n) (n ∷ []),
    grows_by (n + 1) (all - (n + 1)),
    ap (λ (m : ℕ). length (first m)) (let same : n + 1 + (all - (n + 1)) ≡ all = omega (arith, lt) in same),
  )

  -- none that is not below
  past_from : (from n caller : ℕ) → from + n ≤ caller → is_in caller (filter p (range_with_len from n)) ≡ false
  past_from from zero caller le = refl
  past_from from (suc n) caller le = in_if caller from (filter p (range_with_len (from + 1) n)) (p from) (λ same. absurd (omega (arith, same, le))) ∙ past_from (from + 1) n caller (omega (arith, le))

  pub not_first : (n caller : ℕ) → n ≤ caller → is_in caller (first n) ≡ false
  not_first n caller le = past_from 0 n caller (omega (arith, le))

  -- where the further ones are not found, there are idle more of them
  pub first_all : (n k : ℕ) → ((u : ℕ) → n ≤ u → p u ≡ false) → first (n + k) ≡ first n
  first_all n zero none = ap first (let same : n + 0 ≡ n = omega arith in same)
  first_all n (suc k) none = ap first (let same : n + suc k ≡ n + k + 1 = omega arith in same) ∙ first_without (n + k) (none (n + k) (omega arith)) ∙ first_all n k none

-- ---- one more caller of a group

group_more : (state : State) (last : ℕ) (callers : List ℕ) (caller : ℕ) → with_group state last (callers ++ caller ∷ []) ≡ with_done (with_group state last callers) last caller
group_more state last [] caller = refl
group_more state last (first ∷ callers) caller = group_more (with_done state last first) last callers caller

dones_more : (state : State) (last : ℕ) (callers : List ℕ) (caller : ℕ) → group_in state last (callers ++ caller ∷ []) ≡ group_in state last callers ++ done_in (with_group state last callers) last caller ∷ []
dones_more state last [] caller = refl
dones_more state last (first ∷ callers) caller = ap (λ (dones : List Done). done_in state last first ∷ dones) (dones_more (with_done state last first) last callers caller)

out_more : (state : State) (callers : List ℕ) (caller : ℕ) → without state (callers ++ caller ∷ []) ≡ one_out (without state callers) caller
out_more state [] caller = refl
out_more state (first ∷ callers) caller = out_more (one_out state first) callers caller

group_count : (state : State) (last : ℕ) (callers : List ℕ) → length (with_group state last callers).history ≡ length state.history + length callers
group_count state last [] = omega arith
group_count state last (first ∷ callers) = omega (arith, group_count (with_done state last first) last callers, one_longer state last first)

-- in either end the same ones are live
same_live : (one other : State) (last : ℕ) (callers : List ℕ) → one.live ≡ other.live → (without one callers).live ≡ (with_group other last callers).live
same_live one other last [] same = same
same_live one other last (first ∷ callers) same = same_live (one_out one first) (with_done other last first) last callers (λ i. update nat_eq (same i) first None)

live_either : (ending : Ending) (state : State) (last : ℕ) (callers : List ℕ) → (ended ending state last callers).live ≡ (with_group state last callers).live
live_either Committed state last callers = refl
live_either Doubtful state last callers = same_live state state last callers refl

-- one that is not among them keeps its offer
offer_kept : (ending : Ending) (state : State) (last : ℕ) (callers : List ℕ) (caller : ℕ) → is_in caller callers ≡ false → (ended ending state last callers).offers caller ≡ state.offers caller
offer_kept Committed state last callers caller out = (group_apart state last callers caller out).offer
offer_kept Doubtful state last callers caller out = (without_apart state callers caller out).offer

live_more : (ending : Ending) (state : State) (last : ℕ) (callers : List ℕ) (caller : ℕ)
    → update nat_eq (ended ending state last callers).live caller None ≡ (ended ending state last (callers ++ caller ∷ [])).live
live_more Committed state last callers caller = sym (ap (λ (s : State). s.live) (group_more state last callers caller))
live_more Doubtful state last callers caller = sym (ap (λ (s : State). s.live) (out_more state callers caller))

offers_more : (ending : Ending) (state : State) (last : ℕ) (callers : List ℕ) (caller at : ℕ) → at ≡ length (with_group state last callers).history + 1
    → offers_with (ended ending state last callers).offers caller (offer_of (seat_of ending at)) ≡ (ended ending state last (callers ++ caller ∷ [])).offers
offers_more Committed state last callers caller at is =
    ap (λ (n : ℕ). offers_with (with_group state last callers).offers caller (unsettled n)) is ∙ sym (ap (λ (s : State). s.offers) (group_more state last callers caller))
offers_more Doubtful state last callers caller at is = sym (ap (λ (s : State). s.offers) (out_more state callers caller))

-- what is left in the seat of one of a group
no_live : (ending : Ending) (at : ℕ) → live_of (seat_of ending at) ≡ None
no_live Committed at = refl
no_live Doubtful at = refl

pub left_in : (ending : Ending) (now left : Seats) (n at : ℕ) (seat : Seat) → n < length now.places → seat ≡ seat_of ending at → left ≡ record now { places = set now.places n seat } → Given now n None (offer_of (seat_of ending at)) left
left_in ending now left n at seat within is after =
    subst (λ (s : Seats). Given now n None (offer_of (seat_of ending at)) s) (sym after)
    (subst (λ (x : Seat). Given now n None (offer_of (seat_of ending at)) (record now { places = set now.places n x })) (sym is)
    (subst (λ (calls : Option Granted). Given now n calls (offer_of (seat_of ending at)) (record now { places = set now.places n (seat_of ending at) })) (ap calls_in (no_live ending at))
    (placed now now.names now.places n n refl refl within (seat_of ending at))))

-- ---- the callers, one after another

-- what so many first callers had offered has ended so
pub record HasEnded (ending : Ending) (before last n : ℕ) (old : Seats) (was now : List Done) (at : ℕ) (new : Seats) : Type 0 where
  pub count : length new.places ≡ length old.places
  pub names : new.names ≡ old.names
  pub number : at ≡ before + length (offerers n (bare old))
  pub size : length now ≡ length was + length (offerers n (bare old))
  pub later : (u : ℕ) → n ≤ u → offers_in new u ≡ offers_in old u
  pub all : (state : State) → IsOf old before state → Ends ending last state (offerers n state) old was now new

module _ (before n : ℕ) (old : Seats) (state : State) (is : IsOf old before state) where
  -- the state has the same offers
  same_offerers : offerers n state ≡ offerers n (bare old)
  same_offerers = ap (λ (offers : ℕ → Offer). filter (λ caller. is_offered (offers caller)) (range_with_len 0 n)) is.offers

  same_test : (b : Bool) → is_offered (offers_in old n) ≡ b → is_offered (state.offers n) ≡ b
  same_test b found = ap (λ (offers : ℕ → Offer). is_offered (offers n)) is.offers ∙ found

module _ (ending : Ending) (before last : ℕ) (old : Seats) (was : List Done) where
  pub none_ended : HasEnded ending before last 0 old was was before old
  none_ended = record {
    count = refl;
    names = refl;
    number = omega arith;
    size = omega arith;
    later = λ u le. refl;
    all = λ state is. record { count = refl; names = refl; live = first_live ending state is; offers = first_offers ending state is; group = sym (append-nil was) };
  }
    where
      first_live : (ending : Ending) (state : State) → IsOf old before state → live_in old ≡ (ended ending state last []).live
      first_live Committed state is = sym is.live
      first_live Doubtful state is = sym is.live

      first_offers : (ending : Ending) (state : State) → IsOf old before state → offers_in old ≡ (ended ending state last []).offers
      first_offers Committed state is = sym is.offers
      first_offers Doubtful state is = sym is.offers

  module _ (n : ℕ) (now : List Done) (at : ℕ) (new : Seats) (had : HasEnded ending before last n old was now at new) where
    was_test : (b : Bool) → is_offered (offers_in new n) ≡ b → is_offered (offers_in old n) ≡ b
    was_test b found = ap is_offered (sym (had.later n (omega arith))) ∙ found

    -- the next one has offered nothing
    pub one_skipped : is_offered (offers_in new n) ≡ false → HasEnded ending before last (n + 1) old was now at new
    one_skipped idle =
        let none = was_test false idle in
        let same : offerers (n + 1) (bare old) ≡ offerers n (bare old) = first_without (λ caller. is_offered (offers_in old caller)) n none in
        let sizes : length (offerers (n + 1) (bare old)) ≡ length (offerers n (bare old)) = ap (λ (callers : List ℕ). length callers) same in
        record {
          count = had.count;
          names = had.names;
          number = omega (arith, had.number, sizes);
          size = omega (arith, had.size, sizes);
          later = λ u le. had.later u (omega (arith, le));
          all = λ state is. subst (λ (callers : List ℕ). Ends ending last state callers old was now new)
              (sym (first_without (λ caller. is_offered (state.offers caller)) n (same_test before n old state is false none))) (had.all state is);
        }

    -- it has offered this
    module _ (gives : is_offered (offers_in new n) ≡ true) (calls : Granted) (live : live_in new n ≡ Some calls) (left : Seats) (more : ℕ) (next : more ≡ at + 1)
        (given : Given new n None (offer_of (seat_of ending more)) left) (kept : Granted) (same_calls : kept ≡ calls) (longer : List Done)
        (pushed : longer ≡ now ++ record { caller = n; calls = kept; at = more; last = last } ∷ []) where
      found : is_offered (offers_in old n) ≡ true
      found = was_test true gives

      sizes : length (offerers (n + 1) (bare old)) ≡ length (offerers n (bare old)) + 1
      sizes = ap (λ (callers : List ℕ). length callers) (first_with (λ caller. is_offered (offers_in old caller)) n found) ∙ length-append (offerers n (bare old)) (n ∷ [])

      module _ (state : State) (is : IsOf old before state) where
        abbrev os : List ℕ
        os = offerers n state

        ends : Ends ending last state os old was now new
        ends = had.all state is

        at_is : more ≡ length (with_group state last os).history + 1
        at_is = omega (arith, next, had.number, group_count state last os, is.long, ap (λ (callers : List ℕ). length callers) (same_offerers before n old state is))

        calls_are : kept ≡ calls_of (with_group state last os) n
        calls_are = same_calls ∙ sym (ap (λ (o : Option Granted). unwrap_or o []) (sym (ap (λ (f : ℕ → Option Granted). f n) (live_either ending state last os)) ∙ sym (ap (λ (f : ℕ → Option Granted). f n) ends.live) ∙ live))

        done_is : ◌≡◌ {A = Done} (record { caller = n; calls = kept; at = more; last = last }) (done_in (with_group state last os) last n)
        done_is = λ i. record { caller = n; calls = calls_are i; at = at_is i; last = last }

        one_ends : Ends ending last state (os ++ n ∷ []) old was longer left
        one_ends = record {
          count = given.count ∙ had.count;
          names = given.names ∙ had.names;
          live = given.live ∙ (λ i. update nat_eq (ends.live i) n None) ∙ live_more ending state last os n;
          offers = given.offers ∙ (λ i. offers_with (ends.offers i) n (offer_of (seat_of ending more))) ∙ offers_more ending state last os n more at_is;
          group = pushed ∙ (λ i. ends.group i ++ done_is i ∷ []) ∙ append_assoc was (group_in state last os) (done_in (with_group state last os) last n ∷ [])
              ∙ ap (λ (dones : List Done). was ++ dones) (sym (dones_more state last os n));
        }

      pub one_taken : HasEnded ending before last (n + 1) old was longer more left
      one_taken = record {
        count = given.count ∙ had.count;
        names = given.names ∙ had.names;
        number = omega (arith, next, had.number, sizes);
        size = omega (arith, had.size, sizes, ap (λ (dones : List Done). length dones) pushed, length-append now (record { caller = n; calls = kept; at = more; last = last } ∷ []));
        later = λ u le. ap (λ (f : ℕ → Offer). f u) given.offers ∙ offers_apart (offers_in new) n (offer_of (seat_of ending more)) u (λ same. absurd (omega (arith, same, le))) ∙ had.later u (omega (arith, le));
        all = λ state is. subst (λ (callers : List ℕ). Ends ending last state callers old was longer left)
            (sym (first_with (λ caller. is_offered (state.offers caller)) n (same_test before n old state is true found))) (one_ends state is);
      }

    -- there is a number and room for it
    pub one_fits : n < length old.places → is_offered (offers_in new n) ≡ true → length (offerers n (bare old)) < length (offered_in old)
    one_fits lt gives = first_fits (λ caller. is_offered (offers_in old caller)) n (length old.places) lt (was_test true gives)

    -- all are done
    pub all_ended : n ≡ length old.places → (state : State) → IsOf old before state → Ends ending last state (offered_in old) old was now new
    all_ended end state is = subst (λ (callers : List ℕ). Ends ending last state callers old was now new)
        (same_offerers before n old state is ∙ ap (λ (k : ℕ). offerers k (bare old)) end) (had.all state is)

-- ---- the set of those that have offered

-- of so many first callers these have offered, and so many they are
pub record HasFound (seats : Seats) (n bits count : ℕ) : Type 0 where
  pub below : (u : ℕ) → u < n → has bits u ≡ is_offered (offers_in seats u)
  pub above : (u : ℕ) → n ≤ u → has bits u ≡ false
  pub total : count ≡ length (offerers n (bare seats))

module _ (seats : Seats) where
  pub none_found : (bits : ℕ) → ((u : ℕ) → has bits u ≡ false) → HasFound seats 0 bits 0
  none_found bits lacks = record { below = λ u lt. absurd (omega (arith, lt)); above = λ u le. lacks u; total = refl }

  module _ (n bits count : ℕ) (had : HasFound seats n bits count) where
    pub none_more : is_offered (offers_in seats n) ≡ false → HasFound seats (n + 1) bits count
    none_more idle = record {
      below = λ u lt. elim (cases_eq u n) [
        | inl e ↦ had.above u (omega (arith, e)) ∙ sym (ap (λ (v : ℕ). is_offered (offers_in seats v)) e ∙ idle)
        | inr ne ↦ had.below u (omega (arith, lt, ne))
      ];
      above = λ u le. had.above u (omega (arith, le));
      total = had.total ∙ sym (ap (λ (callers : List ℕ). length callers) (first_without (λ caller. is_offered (offers_in seats caller)) n idle));
    }

    pub one_more : is_offered (offers_in seats n) ≡ true → (more : ℕ) → has more n ≡ true → ((u : ℕ) → u ≢ n → has more u ≡ has bits u) → HasFound seats (n + 1) more (count + 1)
    one_more gives more here others = record {
      below = λ u lt. elim (cases_eq u n) [
        | inl e ↦ ap (has more) e ∙ here ∙ sym (ap (λ (v : ℕ). is_offered (offers_in seats v)) e ∙ gives)
        | inr ne ↦ others u ne ∙ had.below u (omega (arith, lt, ne))
      ];
      above = λ u le. others u (λ same. absurd (omega (arith, same, le))) ∙ had.above u (omega (arith, le));
      total = omega (arith, had.total, ap (λ (callers : List ℕ). length callers) (first_with (λ caller. is_offered (offers_in seats caller)) n gives), length-append (offerers n (bare seats)) (n ∷ []));
    }

  -- beyond the callers nobody has offered anything
  none_beyond : (u : ℕ) → length seats.places ≤ u → is_offered (offers_in seats u) ≡ false
  none_beyond u le = ap (λ (seat : Seat). is_offered (offer_of seat)) (free_beyond seats.places u le)

  module _ (bits count : ℕ) (had : HasFound seats (length seats.places) bits count) (few : length seats.places ≤ 64) where
    found_at : (u : ℕ) → has bits u ≡ is_offered (offers_in seats u)
    found_at u = elim (cases_lt u (length seats.places)) [
      | inl lt ↦ had.below u lt
      | inr le ↦ had.above u le ∙ sym (none_beyond u le)
    ]

    pub found_all : (set : NumberSet) → set.bits ≡ bits → members set ≡ offered_in seats
    unfolding numbers_from
    found_all set is =
        let n = length seats.places in
        let whole : 64 ≡ n + (64 - n) = omega (arith, few) in
        (λ i. filter (λ u. (ap (λ (b : ℕ). has b u) is ∙ found_at u) i) (range_with_len 0 64))
        ∙ ap (first (λ caller. is_offered (offers_in seats caller))) whole ∙ first_all (λ caller. is_offered (offers_in seats caller)) n (64 - n) none_beyond
