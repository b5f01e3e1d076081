use Rattle.mars_core.proofs.GivingUp.{sends_none}
use Rattle.eaw_face.specs.Mirroring.{Mirrors}
use Rattle.std.proofs.lemmas.Bool.{true≢false}
use Rattle.std.proofs.Common.{true, false, ◌&&◌, ◌≡◌, ℕ, List, inl, inr, Option, Some, None, nat_eq, length, ap, subst, sym, ◌∙◌, refl}
use Rattle.std.specs.Map.{update}
use Rattle.eaw_face.specs.Causes.{IsAlive}
use Rattle.page_store.specs.Shown.{Shown, pages_of}
use Rattle.history.specs.Rows.{table_of}
use Rattle.history.specs.Table.{Granted}
use Rattle.history.specs.declared.call.Reply.TheVariants.{NoTransaction}
use Rattle.std.specs.Prelude.{is_some}
use Rattle.history.specs.Locks.{has_table}
use Rattle.history.specs.declared.call.Call.TheVariants.{Table as OnTable}
use Rattle.history.specs.declared.call.TableCall.{TableCall}
use Rattle.caller_steps.specs.State.{State, Offer, unoffered}
use Rattle.caller_steps.specs.Offers.{is_unoffered}
use Rattle.caller_steps.specs.Locked.{IsFree, IsLocked}
use Rattle.caller_steps.specs.Core.{Steps}
use Rattle.mars_core.specs.Held.{Held, core_of, state_at}
use Rattle.mars_core.specs.Kept.{IsKept}
use Rattle.mars_core.specs.Seats.{Seats, live_in, offers_in, bare, calls_in, IsMasked}
use Rattle.mars_core.specs.Works.{IsShown}
use Rattle.mars_core.proofs.Answered.{unmade_steps, unmade_plain, unmade_refuses, made_keeps, made_steps, made_plain}
use Rattle.mars_core.proofs.Answering.{has_asked}
use Rattle.record_table.proofs.Sharing.{Laws}
use Rattle.mars_core.proofs.Prefixes.{StoreLaws}
use Rattle.mars_core.proofs.Staying.{update_same, free_after, changed_back, changed_twice, kept_same, absent_steps}
use Rattle.mars_core.proofs.turns.Core.ask.Given.{Over}
use Rattle.mars_core.proofs.turns.Core.ask.Goals as goal

laws_at : (g : Over) (store : g.row.S.Denot) → StoreLaws g.S.EawStore.tells g.S.EawStore.opens (g.S.EawStore.view store)
laws_at g store = record {
  long = λ told. g.met.S.EawStore.long store told;
  some = λ told alive. g.met.S.EawStore.some_now store told alive;
  counts = λ told t image le left. g.met.S.EawStore.counts_now store t image told le left;
  only = λ told alive image left. g.met.S.EawStore.only_now store image told alive left;
}

index_laws : (g : Over) → Laws g.K.KeyIndex.index
index_laws g = let K = g.met.K.KeyIndex in record { rises = K.rises; given = K.given; counts = K.counts; rests = K.rests; extends = K.extends }

-- without a live transaction nothing is taken out
nothing : (old mid : Seats) (t : ℕ) (o : Option Granted) → o ≡ live_in old t → o ≡ None → live_in mid ≡ update nat_eq (live_in old) t None → live_in mid ≡ live_in old
nothing old mid t o is none out = out ∙ update_same (live_in old) t None (sym is ∙ none)

-- nobody stands in the way of a live caller, also while its own transaction is out of its seat
free_of : (s : State) (mid : Seats) (t : ℕ) (call : TableCall) (calls : Granted) → s.is_dead ≡ false → s.live t ≡ Some calls → s.offers t ≡ unoffered → live_in mid ≡ update nat_eq s.live t None → mid.names ≡ s.names → IsLocked s t (OnTable call)
    → has_table mid.names call ≡ true → IsFree (bare mid) t call
free_of s mid t call calls alive is un out names locked there = free_after s (bare mid) t None out names call (locked alive (λ i. is_unoffered (un i) && is_some (is i)) (subst (λ (ns : List (List ℕ)). has_table ns call ≡ true) names there))

pub invariant_of-self : goal.invariant_of-self
invariant_of-self g c =
    let i = c.self.inside in
    let same = nothing i.seats c.take.new.self c.args.caller (calls_in c.take.result) c.take.ensures.live (ap calls_in c.in_default.is) c.take.ensures.out.live in
    kept_same g.S.EawStore.tells g.S.EawStore.opens g.K.KeyIndex.index (pages_of (g.S.EawStore.view i.records.store) i.records) (state_at g.K.KeyIndex.index (g.S.EawStore.view i.records.store) i.seats.names (table_of i.base) i.history.items (live_in i.seats) (offers_in i.seats) i.doubt) _
    (length i.seats.places) (length c.take.new.self.places) i.base c.self.invariant c.take.ensures.out.count
    (λ j. state_at g.K.KeyIndex.index (g.S.EawStore.view c.self.inside.records.store) (c.take.ensures.out.names j) (table_of c.self.inside.base) c.self.inside.history.items (same j) (c.take.ensures.out.offers j) c.self.inside.doubt)

pub returns-in_default : goal.returns-in_default
returns-in_default g c =
    let i = c.self.inside in
    let same = nothing i.seats c.take.new.self c.args.caller (calls_in c.take.result) c.take.ensures.live (ap calls_in c.in_default.is) c.take.ensures.out.live in
    record {
      steps = subst (λ (h : Held g.row.S.Denot). Steps g.S.EawStore.tells c.args.caller (OnTable c.args.asked.now) (core_of g.S.EawStore.opens g.K.KeyIndex.index (g.S.EawStore.view h.records.store) h)
          (core_of g.S.EawStore.opens g.K.KeyIndex.index (g.S.EawStore.view c.self.inside.records.store)
          (record { records = c.self.inside.records; base = c.self.inside.base; seats = c.take.new.self; history = c.self.inside.history.items; doubt = c.self.inside.doubt })) NoTransaction) c.self.view_is
          (absent_steps g.S.EawStore.tells g.S.EawStore.opens g.K.KeyIndex.index (pages_of (g.S.EawStore.view i.records.store) i.records)
          (state_at g.K.KeyIndex.index (g.S.EawStore.view i.records.store) i.seats.names (table_of i.base) i.history.items (live_in i.seats) (offers_in i.seats) i.doubt) (record { indexed = refl; dead = refl }) (length i.seats.places) i.base c.self.invariant
          (subst (λ (h : Held g.row.S.Denot). IsAlive (g.S.EawStore.view h.records.store)) (sym c.self.view_is) c.requires.alive) c.args.caller (OnTable c.args.asked.now) (sym c.take.ensures.live ∙ ap calls_in c.in_default.is) (subst (λ (h : Held g.row.S.Denot). offers_in h.seats c.args.caller ≡ unoffered) (sym c.self.view_is) c.requires.unoffered)
          (refl, refl) _
          (λ j. state_at g.K.KeyIndex.index (g.S.EawStore.view c.self.inside.records.store) (c.take.ensures.out.names j) (table_of c.self.inside.base) c.self.inside.history.items (same j) (c.take.ensures.out.offers j) c.self.inside.doubt));
      sends = subst (λ (h : Held g.row.S.Denot). Mirrors g.S.EawStore.tells (g.S.EawStore.view h.records.store) (g.S.EawStore.view c.self.inside.records.store)) c.self.view_is (sends_none g.S.EawStore.tells (g.S.EawStore.view c.self.inside.records.store));
      not_busy = λ held. refl;
      tabled = λ granted. absurd (true≢false granted);
    }

pub invariant_of-self-2 : goal.invariant_of-self-2
invariant_of-self-2 g c =
    let V = g.S.EawStore.view in
    let T = g.S.EawStore.tells in
    let E = g.S.EawStore.opens in
    let I = g.K.KeyIndex.index in
    let i = c.self.inside in
    let t = c.args.caller in
    let p = pages_of (V i.records.store) i.records in
    let q = pages_of (V c.answer-live.new.records.store) c.answer-live.new.records in
    let s = state_at I (V i.records.store) i.seats.names (table_of i.base) i.history.items (live_in i.seats) (offers_in i.seats) i.doubt in
    let new = state_at I (V c.answer-live.new.records.store) c.put.new.self.names (table_of i.base) i.history.items (live_in c.put.new.self) (offers_in c.put.new.self) i.doubt in
    let is = sym c.take.ensures.live ∙ ap calls_in c.in-Some.is in
    let un = (subst (λ (h : Held g.row.S.Denot). offers_in h.seats c.args.caller ≡ unoffered) (sym c.self.view_is) c.requires.unoffered) in
    let alive = subst (λ (h : Held g.row.S.Denot). IsAlive (g.S.EawStore.view h.records.store)) (sym c.self.view_is) c.requires.alive in
    let count = c.put.ensures.count ∙ c.take.ensures.out.count in
    elim c.answer-live.ensures.answered [
      | inl unmade ↦ subst (λ (r : Shown g.row.S.Denot). IsKept g.S.EawStore.tells g.S.EawStore.opens g.K.KeyIndex.index (pages_of (g.S.EawStore.view r.store) r) (length c.put.new.self.places) c.self.inside.base
          (state_at g.K.KeyIndex.index (g.S.EawStore.view r.store) c.put.new.self.names (table_of c.self.inside.base) c.self.inside.history.items (live_in c.put.new.self) (offers_in c.put.new.self) c.self.inside.doubt)) (sym unmade.0)
          (kept_same T E I p s _ (length i.seats.places) (length c.put.new.self.places) i.base c.self.invariant count
          (let back = changed_back (live_in i.seats) t None (Some c.answer-live.result.0.calls) (live_in c.take.new.self) (live_in c.put.new.self) c.take.ensures.out.live c.put.ensures.live (is ∙ ap (λ (cs : Granted). Some cs) (sym unmade.1)) in
          λ j. state_at g.K.KeyIndex.index (g.S.EawStore.view c.self.inside.records.store) ((c.put.ensures.names ∙ c.take.ensures.out.names) j) (table_of c.self.inside.base) c.self.inside.history.items (back j) ((c.put.ensures.offers ∙ c.take.ensures.out.offers) j) c.self.inside.doubt))
      | inr made ↦ made_keeps T E I p s (record { indexed = refl; dead = refl }) (length i.seats.places) i.base c.self.invariant alive
          (subst (λ (h : Held g.row.S.Denot). IsShown g.S.EawStore.tells g.K.KeyIndex.index (pages_of (g.S.EawStore.view h.records.store) h.records)) (sym c.self.view_is) c.requires.shown)
          t c.args.asked.now c.in-Some.live.calls is un c.take.new.self None c.take.ensures.out.live c.take.ensures.out.names g.met.S.EawStore.one_data (index_laws g) q (laws_at g i.records.store) (laws_at g c.answer-live.new.records.store)
          new (record { indexed = refl; dead = refl }) (c.put.ensures.names ∙ c.take.ensures.out.names) (c.put.ensures.offers ∙ c.take.ensures.out.offers) refl refl refl (length c.put.new.self.places) count c.answer-live.result.0.calls
          (changed_twice (live_in i.seats) t None (Some c.answer-live.result.0.calls) (live_in c.take.new.self) (live_in c.put.new.self) c.take.ensures.out.live c.put.ensures.live) c.answer-live.result.1 made
    ]

pub answer-live-requires-clause-locked : goal.answer-live-requires-clause-locked
answer-live-requires-clause-locked g c held there =
    let i = c.self.inside in
    free_of (state_at g.K.KeyIndex.index (g.S.EawStore.view i.records.store) i.seats.names (table_of i.base) i.history.items (live_in i.seats) (offers_in i.seats) i.doubt) c.take.new.self c.args.caller c.args.asked.now c.in-Some.live.calls
    (subst (λ (h : Held g.row.S.Denot). IsAlive (g.S.EawStore.view h.records.store)) (sym c.self.view_is) c.requires.alive) (sym c.take.ensures.live ∙ ap calls_in c.in-Some.is) (subst (λ (h : Held g.row.S.Denot). offers_in h.seats c.args.caller ≡ unoffered) (sym c.self.view_is) c.requires.unoffered) c.take.ensures.out.live c.take.ensures.out.names
    (subst (λ (h : Held g.row.S.Denot). IsLocked (core_of g.S.EawStore.opens g.K.KeyIndex.index (g.S.EawStore.view h.records.store) h).state c.args.caller (OnTable c.args.asked.now)) (sym c.self.view_is) (c.requires.locked held)) there

pub returns : goal.returns
returns g c =
    let V = g.S.EawStore.view in
    let T = g.S.EawStore.tells in
    let E = g.S.EawStore.opens in
    let I = g.K.KeyIndex.index in
    let i = c.self.inside in
    let t = c.args.caller in
    let p = pages_of (V i.records.store) i.records in
    let q = pages_of (V c.answer-live.new.records.store) c.answer-live.new.records in
    let s = state_at I (V i.records.store) i.seats.names (table_of i.base) i.history.items (live_in i.seats) (offers_in i.seats) i.doubt in
    let new = state_at I (V c.answer-live.new.records.store) c.put.new.self.names (table_of i.base) i.history.items (live_in c.put.new.self) (offers_in c.put.new.self) i.doubt in
    let is = sym c.take.ensures.live ∙ ap calls_in c.in-Some.is in
    let un = (subst (λ (h : Held g.row.S.Denot). offers_in h.seats c.args.caller ≡ unoffered) (sym c.self.view_is) c.requires.unoffered) in
    let alive = subst (λ (h : Held g.row.S.Denot). IsAlive (g.S.EawStore.view h.records.store)) (sym c.self.view_is) c.requires.alive in
    let shown = subst (λ (h : Held g.row.S.Denot). IsShown g.S.EawStore.tells g.K.KeyIndex.index (pages_of (g.S.EawStore.view h.records.store) h.records)) (sym c.self.view_is) c.requires.shown in
    let count = c.put.ensures.count ∙ c.take.ensures.out.count in
    record {
      steps = subst (λ (h : Held g.row.S.Denot). Steps g.S.EawStore.tells c.args.caller (OnTable c.args.asked.now) (core_of g.S.EawStore.opens g.K.KeyIndex.index (g.S.EawStore.view h.records.store) h)
          (core_of g.S.EawStore.opens g.K.KeyIndex.index (g.S.EawStore.view c.answer-live.new.records.store)
          (record { records = c.answer-live.new.records; base = c.self.inside.base; seats = c.put.new.self; history = c.self.inside.history.items; doubt = c.self.inside.doubt })) c.answer-live.result.1) c.self.view_is
          (elim c.answer-live.ensures.answered [
            | inl unmade ↦ subst (λ (r : Shown g.row.S.Denot). Steps g.S.EawStore.tells c.args.caller (OnTable c.args.asked.now)
                (core_of g.S.EawStore.opens g.K.KeyIndex.index (g.S.EawStore.view c.self.inside.records.store)
                (record { records = c.self.inside.records; base = c.self.inside.base; seats = c.self.inside.seats; history = c.self.inside.history.items; doubt = c.self.inside.doubt }))
                (core_of g.S.EawStore.opens g.K.KeyIndex.index (g.S.EawStore.view r.store)
                (record { records = r; base = c.self.inside.base; seats = c.put.new.self; history = c.self.inside.history.items; doubt = c.self.inside.doubt })) c.answer-live.result.1) (sym unmade.0)
                (unmade_steps T E I p s (record { indexed = refl; dead = refl }) (length i.seats.places) i.base c.self.invariant alive shown t c.args.asked.now c.in-Some.live.calls is un
                c.take.new.self None c.take.ensures.out.live c.take.ensures.out.names _
                (let back = changed_back (live_in i.seats) t None (Some c.answer-live.result.0.calls) (live_in c.take.new.self) (live_in c.put.new.self) c.take.ensures.out.live c.put.ensures.live (is ∙ ap (λ (cs : Granted). Some cs) (sym unmade.1)) in
                λ j. state_at g.K.KeyIndex.index (g.S.EawStore.view c.self.inside.records.store) ((c.put.ensures.names ∙ c.take.ensures.out.names) j) (table_of c.self.inside.base) c.self.inside.history.items (back j) ((c.put.ensures.offers ∙ c.take.ensures.out.offers) j) c.self.inside.doubt)
                c.answer-live.result.1 unmade.2)
            | inr made ↦ made_steps T E I p s (record { indexed = refl; dead = refl }) (length i.seats.places) i.base c.self.invariant alive shown
                t c.args.asked.now c.in-Some.live.calls is un c.take.new.self None c.take.ensures.out.live c.take.ensures.out.names g.met.S.EawStore.one_data (index_laws g) q (laws_at g i.records.store) (laws_at g c.answer-live.new.records.store)
                new (record { indexed = refl; dead = refl }) (c.put.ensures.names ∙ c.take.ensures.out.names) (c.put.ensures.offers ∙ c.take.ensures.out.offers) refl refl refl (length c.put.new.self.places) count c.answer-live.result.0.calls
                (changed_twice (live_in i.seats) t None (Some c.answer-live.result.0.calls) (live_in c.take.new.self) (live_in c.put.new.self) c.take.ensures.out.live c.put.ensures.live) c.answer-live.result.1 made
          ]);
      sends = subst (λ (h : Held g.row.S.Denot). Mirrors g.S.EawStore.tells (g.S.EawStore.view h.records.store) (g.S.EawStore.view c.answer-live.new.records.store)) c.self.view_is (elim c.answer-live.ensures.answered [
        | inl unmade ↦ subst (λ (r : Shown g.row.S.Denot). Mirrors g.S.EawStore.tells (g.S.EawStore.view c.self.inside.records.store) (g.S.EawStore.view r.store)) (sym unmade.0) (sends_none g.S.EawStore.tells (g.S.EawStore.view c.self.inside.records.store))
        | inr made ↦ made.works.does.mirrors
      ]);
      tabled = λ granted. elim c.answer-live.ensures.answered [
        | inl unmade ↦ absurd (true≢false (sym (unmade_refuses (length (p.counts t)) c.take.new.self t c.args.asked.now c.answer-live.result.1 unmade.2) ∙ granted))
        | inr made ↦ subst (λ (h : Held g.row.S.Denot). has_table h.seats.names c.args.asked.now ≡ true) c.self.view_is
            (subst (λ (ns : List (List ℕ)). has_table ns c.args.asked.now ≡ true) c.take.ensures.out.names (has_asked c.take.new.self.names c.args.asked.now made.table made.number))
      ];
      not_busy = λ held. elim c.answer-live.ensures.answered [
        | inl unmade ↦ unmade_plain (length (p.counts t)) c.take.new.self t c.args.asked.now c.answer-live.result.1 (free_of s c.take.new.self t c.args.asked.now c.in-Some.live.calls alive is un c.take.ensures.out.live c.take.ensures.out.names
            (subst (λ (h : Held g.row.S.Denot). IsLocked (core_of g.S.EawStore.opens g.K.KeyIndex.index (g.S.EawStore.view h.records.store) h).state c.args.caller (OnTable c.args.asked.now)) (sym c.self.view_is) (c.requires.locked held)))
            unmade.2
        | inr made ↦ made_plain T (E (V i.records.store).shape) I (length (p.counts t)) c.take.new.self t c.in-Some.live.calls c.args.asked.now p q c.answer-live.result.0.calls c.answer-live.result.1 made
      ];
    }

pub put-requires-clause-unoffered : goal.put-requires-clause-unoffered
put-requires-clause-unoffered g c = ap (λ (f : ℕ → Offer). f c.args.caller) c.take.ensures.out.offers ∙ subst (λ (h : Held g.row.S.Denot). offers_in h.seats c.args.caller ≡ unoffered) (sym c.self.view_is) c.requires.unoffered

pub answer-live-requires-clause-named : goal.answer-live-requires-clause-named
answer-live-requires-clause-named g c = λ told alive. c.take.ensures.out.names ∙ (c.self.invariant.tied told alive).named

pub answer-live-requires-clause-masked : goal.answer-live-requires-clause-masked
answer-live-requires-clause-masked g c = subst (λ (ns : List (List ℕ)). IsMasked ns c.in-Some.live) (sym c.take.ensures.out.names) c.in-Some.ensures.masked
