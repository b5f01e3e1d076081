use Rattle.mars_core.proofs.GivingUp.{sends_none}
use Rattle.eaw_face.specs.Mirroring.{Mirrors}
use Rattle.caller_steps.specs.Fate.{is_busy}
use Rattle.mars_core.proofs.Answered.{fault_plain}
use Rattle.std.proofs.Common.{◌≡◌, ◌<◌, ℕ, ◌+◌, List, [], ◌∷◌, ◌++◌, Option, Some, None, nat_eq, length, Result, Err, ap, subst, sym, ◌∙◌, refl}
use Rattle.std.specs.Map.{update}
use Rattle.eaw_face.specs.Causes.{IsAlive}
use Rattle.page_store.specs.Shown.{pages_of}
use Rattle.history.specs.Rows.{table_of}
use Rattle.history.specs.Table.{Granted}
use Rattle.history.specs.declared.call.Call.TheVariants.{Control}
use Rattle.history.specs.declared.call.Control.TheVariants.{Commit}
use Rattle.history.specs.declared.call.Reply.{Reply}
use Rattle.history.specs.declared.call.Reply.TheVariants.{Committed, NoMemory, NoTransaction}
use Rattle.history.specs.declared.call.Reply.TheVariants as reply
use Rattle.history.specs.declared.transaction.Done.{Done}
use Rattle.record_table.specs.Faults.{reply_to}
use Rattle.record_table.specs.Does.{Does}
use Rattle.record_table.specs.declared.fault.TableFault.{TableFault}
use Rattle.caller_steps.specs.Core.{Steps}
use Rattle.caller_steps.specs.State.{Offer, unoffered}
use Rattle.history.specs.Locks.{touched}
use Rattle.mars_core.specs.Masks.{AreMasksOf}
use Rattle.mars_core.specs.Held.{Held, core_of, state_at}
use Rattle.mars_core.specs.Seats.{Seats, live_in, offers_in, calls_in}
use Rattle.mars_core.proofs.Prefixes.{StoreLaws}
use Rattle.mars_core.proofs.Staying.{update_same, changed_back, kept_same, absent_steps}
use Rattle.mars_core.proofs.Finishing.{commit_fails, committed_keeps, committed_steps, doubted_keeps, doubted_steps, unkept}
use Rattle.mars_core.proofs.turns.Core.commit.Given.{Over}
use Rattle.mars_core.proofs.turns.Core.commit.Goals as goal

laws_at : (g : Over) (store : g.row.S.Denot) → StoreLaws g.S.EawStore.tells g.S.EawStore.opens (g.S.EawStore.view store)
laws_at g store = record {
  long = λ told. g.met.S.EawStore.long store told;
  some = λ told alive. g.met.S.EawStore.some_now store told alive;
  counts = λ told t image le left. g.met.S.EawStore.counts_now store t image told le left;
  only = λ told alive image left. g.met.S.EawStore.only_now store image told alive left;
}

pub invariant_of-self-in-Err : goal.invariant_of-self-in-Err
invariant_of-self-in-Err g c = kept_same g.S.EawStore.tells g.S.EawStore.opens g.K.KeyIndex.index (pages_of (g.S.EawStore.view c.self.inside.records.store) c.self.inside.records) (state_at g.K.KeyIndex.index (g.S.EawStore.view c.self.inside.records.store) c.self.inside.seats.names (table_of c.self.inside.base) c.self.inside.history.items (live_in c.self.inside.seats) (offers_in c.self.inside.seats) c.self.inside.doubt) _
    (length c.self.inside.seats.places) (length c.put.new.self.places) c.self.inside.base c.self.invariant (c.put.ensures.count ∙ c.take.ensures.out.count) (let back = changed_back (live_in c.self.inside.seats) c.args.caller None (Some c.in-Some.live.calls) (live_in c.take.new.self) (live_in c.put.new.self) c.take.ensures.out.live
    c.put.ensures.live (sym c.take.ensures.live ∙ ap calls_in c.in-Some.is) in
    λ j. state_at g.K.KeyIndex.index (g.S.EawStore.view c.self.inside.records.store) ((c.put.ensures.names ∙ c.take.ensures.out.names) j) (table_of c.self.inside.base) (c.reserve.ensures.items j) (back j) ((c.put.ensures.offers ∙ c.take.ensures.out.offers) j) c.self.inside.doubt)

pub returns-in-Err : goal.returns-in-Err
returns-in-Err g c = record {
  steps = subst (λ (h : Held g.row.S.Denot). Steps g.S.EawStore.tells c.args.caller (Control Commit) (core_of g.S.EawStore.opens g.K.KeyIndex.index (g.S.EawStore.view h.records.store) h)
      (core_of g.S.EawStore.opens g.K.KeyIndex.index (g.S.EawStore.view c.self.inside.records.store)
      (record { records = c.self.inside.records; base = c.self.inside.base; seats = c.put.new.self; history = c.reserve.new.self.items; doubt = c.self.inside.doubt })) NoMemory) c.self.view_is
      (unkept g.S.EawStore.tells g.S.EawStore.opens g.K.KeyIndex.index (pages_of (g.S.EawStore.view c.self.inside.records.store) c.self.inside.records) (state_at g.K.KeyIndex.index (g.S.EawStore.view c.self.inside.records.store) c.self.inside.seats.names (table_of c.self.inside.base) c.self.inside.history.items (live_in c.self.inside.seats) (offers_in c.self.inside.seats) c.self.inside.doubt) _ (record { indexed = refl; dead = refl }) (length c.self.inside.seats.places) c.self.inside.base c.self.invariant (subst (λ (h : Held g.row.S.Denot). IsAlive (g.S.EawStore.view h.records.store)) (sym c.self.view_is) c.requires.alive) c.args.caller c.in-Some.live.calls (sym c.take.ensures.live ∙ ap calls_in c.in-Some.is) (subst (λ (h : Held g.row.S.Denot). offers_in h.seats c.args.caller ≡ unoffered) (sym c.self.view_is) c.requires.unoffered) (let back = changed_back (live_in c.self.inside.seats) c.args.caller None (Some c.in-Some.live.calls) (live_in c.take.new.self) (live_in c.put.new.self) c.take.ensures.out.live
      c.put.ensures.live (sym c.take.ensures.live ∙ ap calls_in c.in-Some.is) in
      λ j. state_at g.K.KeyIndex.index (g.S.EawStore.view c.self.inside.records.store) ((c.put.ensures.names ∙ c.take.ensures.out.names) j) (table_of c.self.inside.base) (c.reserve.ensures.items j) (back j) ((c.put.ensures.offers ∙ c.take.ensures.out.offers) j) c.self.inside.doubt));
  sends = subst (λ (h : Held g.row.S.Denot). Mirrors g.S.EawStore.tells (g.S.EawStore.view h.records.store) (g.S.EawStore.view c.self.inside.records.store)) c.self.view_is (sends_none g.S.EawStore.tells (g.S.EawStore.view c.self.inside.records.store));
  not_busy = refl;
}

pub invariant_of-self-in-Ok-commit : goal.invariant_of-self-in-Ok-commit
invariant_of-self-in-Ok-commit g c = committed_keeps g.S.EawStore.tells g.S.EawStore.opens g.K.KeyIndex.index g.met.S.EawStore.one_data (pages_of (g.S.EawStore.view c.self.inside.records.store) c.self.inside.records) (pages_of (g.S.EawStore.view c.commit.new.self.store) c.commit.new.self)
    (laws_at g c.self.inside.records.store) (laws_at g c.commit.new.self.store) (state_at g.K.KeyIndex.index (g.S.EawStore.view c.self.inside.records.store) c.self.inside.seats.names (table_of c.self.inside.base) c.self.inside.history.items (live_in c.self.inside.seats) (offers_in c.self.inside.seats) c.self.inside.doubt) (state_at g.K.KeyIndex.index (g.S.EawStore.view c.commit.new.self.store) c.take.new.self.names (table_of c.self.inside.base) c.push_reserved.new.self.items (live_in c.take.new.self) (offers_in c.take.new.self) c.self.inside.doubt) (record { indexed = refl; dead = refl }) (record { indexed = refl; dead = refl })
    c.take.ensures.out.names c.take.ensures.out.offers refl (length c.self.inside.seats.places) (length c.take.new.self.places) c.take.ensures.out.count c.self.inside.base c.self.invariant
    (subst (λ (h : Held g.row.S.Denot). IsAlive (g.S.EawStore.view h.records.store)) (sym c.self.view_is) c.requires.alive) c.args.caller c.in-Some.live.calls (sym c.take.ensures.live ∙ ap calls_in c.in-Some.is) (subst (λ (h : Held g.row.S.Denot). offers_in h.seats c.args.caller ≡ unoffered) (sym c.self.view_is) c.requires.unoffered) (record { caller = c.args.caller; calls = c.in-Some.live.calls; at = c.count-at.result + 1; last = c.count-at.result + 1 }) (λ j. record { caller = c.args.caller; calls = c.in-Some.live.calls; at = c.count-at.ensures.count j + 1; last = c.count-at.ensures.count j + 1 }) 0 (c.in-Ok-commit.ensures.does 0) c.take.ensures.out.live (c.push_reserved.ensures.items ∙ ap (λ (hs : List Done). hs ++ (record { caller = c.args.caller; calls = c.in-Some.live.calls; at = c.count-at.result + 1; last = c.count-at.result + 1 }) ∷ []) c.reserve.ensures.items) refl c.in-Ok-commit.ensures.free

pub returns-in-Ok-commit : goal.returns-in-Ok-commit
returns-in-Ok-commit g c = record {
  steps = subst (λ (h : Held g.row.S.Denot). Steps g.S.EawStore.tells c.args.caller (Control Commit) (core_of g.S.EawStore.opens g.K.KeyIndex.index (g.S.EawStore.view h.records.store) h)
      (core_of g.S.EawStore.opens g.K.KeyIndex.index (g.S.EawStore.view c.commit.new.self.store)
      (record { records = c.commit.new.self; base = c.self.inside.base; seats = c.take.new.self; history = c.push_reserved.new.self.items; doubt = c.self.inside.doubt })) (Committed (c.count-at.result + 1))) c.self.view_is
      (committed_steps g.S.EawStore.tells g.S.EawStore.opens g.K.KeyIndex.index g.met.S.EawStore.one_data (pages_of (g.S.EawStore.view c.self.inside.records.store) c.self.inside.records) (pages_of (g.S.EawStore.view c.commit.new.self.store) c.commit.new.self)
      (laws_at g c.self.inside.records.store) (laws_at g c.commit.new.self.store) (state_at g.K.KeyIndex.index (g.S.EawStore.view c.self.inside.records.store) c.self.inside.seats.names (table_of c.self.inside.base) c.self.inside.history.items (live_in c.self.inside.seats) (offers_in c.self.inside.seats) c.self.inside.doubt) (state_at g.K.KeyIndex.index (g.S.EawStore.view c.commit.new.self.store) c.take.new.self.names (table_of c.self.inside.base) c.push_reserved.new.self.items (live_in c.take.new.self) (offers_in c.take.new.self) c.self.inside.doubt) (record { indexed = refl; dead = refl }) (record { indexed = refl; dead = refl })
      c.take.ensures.out.names c.take.ensures.out.offers refl (length c.self.inside.seats.places) (length c.take.new.self.places) c.take.ensures.out.count c.self.inside.base c.self.invariant
      (subst (λ (h : Held g.row.S.Denot). IsAlive (g.S.EawStore.view h.records.store)) (sym c.self.view_is) c.requires.alive) c.args.caller c.in-Some.live.calls (sym c.take.ensures.live ∙ ap calls_in c.in-Some.is) (subst (λ (h : Held g.row.S.Denot). offers_in h.seats c.args.caller ≡ unoffered) (sym c.self.view_is) c.requires.unoffered) (record { caller = c.args.caller; calls = c.in-Some.live.calls; at = c.count-at.result + 1; last = c.count-at.result + 1 }) (λ j. record { caller = c.args.caller; calls = c.in-Some.live.calls; at = c.count-at.ensures.count j + 1; last = c.count-at.ensures.count j + 1 }) 0 (c.in-Ok-commit.ensures.does 0) c.take.ensures.out.live (c.push_reserved.ensures.items ∙ ap (λ (hs : List Done). hs ++ (record { caller = c.args.caller; calls = c.in-Some.live.calls; at = c.count-at.result + 1; last = c.count-at.result + 1 }) ∷ []) c.reserve.ensures.items) refl (c.count-at.result + 1) (ap (λ (n : ℕ). n + 1) c.count-at.ensures.count));
  sends = subst (λ (h : Held g.row.S.Denot). Mirrors g.S.EawStore.tells (g.S.EawStore.view h.records.store) (g.S.EawStore.view c.commit.new.self.store)) c.self.view_is ((c.in-Ok-commit.ensures.does 0).mirrors);
  not_busy = refl;
}

pub invariant_of-self-in-Err-commit : goal.invariant_of-self-in-Err-commit
invariant_of-self-in-Err-commit g c = doubted_keeps g.S.EawStore.tells g.S.EawStore.opens g.K.KeyIndex.index g.met.S.EawStore.one_data (pages_of (g.S.EawStore.view c.self.inside.records.store) c.self.inside.records) (pages_of (g.S.EawStore.view c.commit.new.self.store) c.commit.new.self)
    (laws_at g c.self.inside.records.store) (laws_at g c.commit.new.self.store) (state_at g.K.KeyIndex.index (g.S.EawStore.view c.self.inside.records.store) c.self.inside.seats.names (table_of c.self.inside.base) c.self.inside.history.items (live_in c.self.inside.seats) (offers_in c.self.inside.seats) c.self.inside.doubt) (state_at g.K.KeyIndex.index (g.S.EawStore.view c.commit.new.self.store) c.take.new.self.names (table_of c.self.inside.base) c.reserve.new.self.items (live_in c.take.new.self) (offers_in c.take.new.self) c.single.result) (record { indexed = refl; dead = refl }) (record { indexed = refl; dead = refl })
    c.take.ensures.out.names c.take.ensures.out.offers refl (length c.self.inside.seats.places) (length c.take.new.self.places) c.take.ensures.out.count c.self.inside.base c.self.invariant
    (subst (λ (h : Held g.row.S.Denot). IsAlive (g.S.EawStore.view h.records.store)) (sym c.self.view_is) c.requires.alive) c.args.caller c.in-Some.live.calls (sym c.take.ensures.live ∙ ap calls_in c.in-Some.is) (subst (λ (h : Held g.row.S.Denot). offers_in h.seats c.args.caller ≡ unoffered) (sym c.self.view_is) c.requires.unoffered) (record { caller = c.args.caller; calls = c.in-Some.live.calls; at = c.count-at.result + 1; last = c.count-at.result + 1 }) (λ j. record { caller = c.args.caller; calls = c.in-Some.live.calls; at = c.count-at.ensures.count j + 1; last = c.count-at.ensures.count j + 1 }) (subst (λ (f : TableFault). Does g.S.EawStore.tells (g.S.EawStore.opens (g.S.EawStore.view c.self.inside.records.store).shape) g.K.KeyIndex.index 0 c.args.caller (Control Commit)
    (pages_of (g.S.EawStore.view c.self.inside.records.store) c.self.inside.records) (pages_of (g.S.EawStore.view c.commit.new.self.store) c.commit.new.self) (Err f)) (commit_fails g.S.EawStore.tells g.K.KeyIndex.index (pages_of (g.S.EawStore.view c.self.inside.records.store) c.self.inside.records) c.args.caller (subst (λ (h : Held g.row.S.Denot). IsAlive (g.S.EawStore.view h.records.store)) (sym c.self.view_is) c.requires.alive) c.in-Err-commit.fault (c.in-Err-commit.ensures.does 0).cause) (c.in-Err-commit.ensures.does 0)) c.take.ensures.out.live c.reserve.ensures.items c.single.ensures (λ told. c.commit.ensures.due told (subst (λ (h : Held g.row.S.Denot). IsAlive (g.S.EawStore.view h.records.store)) (sym c.self.view_is) c.requires.alive) (c.in-Err-commit.is ∙ ap (λ (f : TableFault). (let r : Result (Unit {0}) TableFault = Err f in r)) (commit_fails g.S.EawStore.tells g.K.KeyIndex.index (pages_of (g.S.EawStore.view c.self.inside.records.store) c.self.inside.records) c.args.caller (subst (λ (h : Held g.row.S.Denot). IsAlive (g.S.EawStore.view h.records.store)) (sym c.self.view_is) c.requires.alive) c.in-Err-commit.fault (c.in-Err-commit.ensures.does 0).cause)))

pub returns-in-Err-commit : goal.returns-in-Err-commit
returns-in-Err-commit g c = record {
  steps = subst (λ (r : Reply). Steps g.S.EawStore.tells c.args.caller (Control Commit) (core_of g.S.EawStore.opens g.K.KeyIndex.index (g.S.EawStore.view c.args.self.now.records.store) c.args.self.now)
      (core_of g.S.EawStore.opens g.K.KeyIndex.index (g.S.EawStore.view c.commit.new.self.store)
      (record { records = c.commit.new.self; base = c.self.inside.base; seats = c.take.new.self; history = c.reserve.new.self.items; doubt = c.single.result })) r) (sym (c.from.ensures ∙ ap reply_to (commit_fails g.S.EawStore.tells g.K.KeyIndex.index (pages_of (g.S.EawStore.view c.self.inside.records.store) c.self.inside.records) c.args.caller (subst (λ (h : Held g.row.S.Denot). IsAlive (g.S.EawStore.view h.records.store)) (sym c.self.view_is) c.requires.alive) c.in-Err-commit.fault (c.in-Err-commit.ensures.does 0).cause)))
      (subst (λ (h : Held g.row.S.Denot). Steps g.S.EawStore.tells c.args.caller (Control Commit) (core_of g.S.EawStore.opens g.K.KeyIndex.index (g.S.EawStore.view h.records.store) h)
      (core_of g.S.EawStore.opens g.K.KeyIndex.index (g.S.EawStore.view c.commit.new.self.store)
      (record { records = c.commit.new.self; base = c.self.inside.base; seats = c.take.new.self; history = c.reserve.new.self.items; doubt = c.single.result })) reply.Media) c.self.view_is
      (doubted_steps g.S.EawStore.tells g.S.EawStore.opens g.K.KeyIndex.index g.met.S.EawStore.one_data (pages_of (g.S.EawStore.view c.self.inside.records.store) c.self.inside.records) (pages_of (g.S.EawStore.view c.commit.new.self.store) c.commit.new.self)
      (laws_at g c.self.inside.records.store) (laws_at g c.commit.new.self.store) (state_at g.K.KeyIndex.index (g.S.EawStore.view c.self.inside.records.store) c.self.inside.seats.names (table_of c.self.inside.base) c.self.inside.history.items (live_in c.self.inside.seats) (offers_in c.self.inside.seats) c.self.inside.doubt) (state_at g.K.KeyIndex.index (g.S.EawStore.view c.commit.new.self.store) c.take.new.self.names (table_of c.self.inside.base) c.reserve.new.self.items (live_in c.take.new.self) (offers_in c.take.new.self) c.single.result) (record { indexed = refl; dead = refl }) (record { indexed = refl; dead = refl })
      c.take.ensures.out.names c.take.ensures.out.offers refl (length c.self.inside.seats.places) (length c.take.new.self.places) c.take.ensures.out.count c.self.inside.base c.self.invariant
      (subst (λ (h : Held g.row.S.Denot). IsAlive (g.S.EawStore.view h.records.store)) (sym c.self.view_is) c.requires.alive) c.args.caller c.in-Some.live.calls (sym c.take.ensures.live ∙ ap calls_in c.in-Some.is) (subst (λ (h : Held g.row.S.Denot). offers_in h.seats c.args.caller ≡ unoffered) (sym c.self.view_is) c.requires.unoffered) (record { caller = c.args.caller; calls = c.in-Some.live.calls; at = c.count-at.result + 1; last = c.count-at.result + 1 }) (λ j. record { caller = c.args.caller; calls = c.in-Some.live.calls; at = c.count-at.ensures.count j + 1; last = c.count-at.ensures.count j + 1 }) (subst (λ (f : TableFault). Does g.S.EawStore.tells (g.S.EawStore.opens (g.S.EawStore.view c.self.inside.records.store).shape) g.K.KeyIndex.index 0 c.args.caller (Control Commit)
      (pages_of (g.S.EawStore.view c.self.inside.records.store) c.self.inside.records) (pages_of (g.S.EawStore.view c.commit.new.self.store) c.commit.new.self) (Err f)) (commit_fails g.S.EawStore.tells g.K.KeyIndex.index (pages_of (g.S.EawStore.view c.self.inside.records.store) c.self.inside.records) c.args.caller (subst (λ (h : Held g.row.S.Denot). IsAlive (g.S.EawStore.view h.records.store)) (sym c.self.view_is) c.requires.alive) c.in-Err-commit.fault (c.in-Err-commit.ensures.does 0).cause) (c.in-Err-commit.ensures.does 0)) c.take.ensures.out.live c.reserve.ensures.items c.single.ensures (λ told. c.commit.ensures.due told (subst (λ (h : Held g.row.S.Denot). IsAlive (g.S.EawStore.view h.records.store)) (sym c.self.view_is) c.requires.alive) (c.in-Err-commit.is ∙ ap (λ (f : TableFault). (let r : Result (Unit {0}) TableFault = Err f in r)) (commit_fails g.S.EawStore.tells g.K.KeyIndex.index (pages_of (g.S.EawStore.view c.self.inside.records.store) c.self.inside.records) c.args.caller (subst (λ (h : Held g.row.S.Denot). IsAlive (g.S.EawStore.view h.records.store)) (sym c.self.view_is) c.requires.alive) c.in-Err-commit.fault (c.in-Err-commit.ensures.does 0).cause)))));
  sends = subst (λ (h : Held g.row.S.Denot). Mirrors g.S.EawStore.tells (g.S.EawStore.view h.records.store) (g.S.EawStore.view c.commit.new.self.store)) c.self.view_is ((c.in-Err-commit.ensures.does 0).mirrors);
  not_busy = ap is_busy c.from.ensures ∙ fault_plain c.in-Err-commit.fault;
}

pub take-requires-clause-inside : goal.take-requires-clause-inside
take-requires-clause-inside g c = subst (λ (n : ℕ). c.args.caller < n) (sym c.self.invariant.seats) (subst (λ (h : Held g.row.S.Denot). c.args.caller < (g.S.EawStore.view h.records.store).shape.numbers) (sym c.self.view_is) c.requires.inside)

pub take-requires-clause-unoffered : goal.take-requires-clause-unoffered
take-requires-clause-unoffered g c = subst (λ (h : Held g.row.S.Denot). offers_in h.seats c.args.caller ≡ unoffered) (sym c.self.view_is) c.requires.unoffered

pub commit-requires : goal.commit-requires
commit-requires g c = subst (λ (h : Held g.row.S.Denot). c.args.caller < (g.S.EawStore.view h.records.store).shape.numbers) (sym c.self.view_is) c.requires.inside

pub put-requires-clause-inside : goal.put-requires-clause-inside
put-requires-clause-inside g c = subst (λ (n : ℕ). c.args.caller < n) (sym c.take.ensures.out.count) (subst (λ (n : ℕ). c.args.caller < n) (sym c.self.invariant.seats) (subst (λ (h : Held g.row.S.Denot). c.args.caller < (g.S.EawStore.view h.records.store).shape.numbers) (sym c.self.view_is) c.requires.inside))

pub put-requires-clause-unoffered : goal.put-requires-clause-unoffered
put-requires-clause-unoffered g c = ap (λ (f : ℕ → Offer). f c.args.caller) c.take.ensures.out.offers ∙ (subst (λ (h : Held g.row.S.Denot). offers_in h.seats c.args.caller ≡ unoffered) (sym c.self.view_is) c.requires.unoffered)

pub put-requires-clause-masked : goal.put-requires-clause-masked
put-requires-clause-masked g c = subst (λ (x : List (List ℕ) × Granted). AreMasksOf (touched x.0 x.1) c.in-Some.live.masks)
    (λ j. (sym c.take.ensures.out.names j, c.in-Some.live.calls)) c.in-Some.ensures.masked

-- without a live transaction nothing is taken out
nothing : (old mid : Seats) (t : ℕ) (o : Option Granted) → o ≡ live_in old t → o ≡ None → live_in mid ≡ update nat_eq (live_in old) t None → live_in mid ≡ live_in old
nothing old mid t o is none out = out ∙ update_same (live_in old) t None (sym is ∙ none)

pub invariant_of-self : goal.invariant_of-self
invariant_of-self g c =
    let i = c.self.inside in
    let same = nothing i.seats c.take.new.self c.args.caller (calls_in c.take.result) c.take.ensures.live (ap calls_in c.in_default.is) c.take.ensures.out.live in
    kept_same g.S.EawStore.tells g.S.EawStore.opens g.K.KeyIndex.index (pages_of (g.S.EawStore.view i.records.store) i.records) (state_at g.K.KeyIndex.index (g.S.EawStore.view i.records.store) i.seats.names (table_of i.base) i.history.items (live_in i.seats) (offers_in i.seats) i.doubt) _
    (length i.seats.places) (length c.take.new.self.places) i.base c.self.invariant c.take.ensures.out.count
    (λ j. state_at g.K.KeyIndex.index (g.S.EawStore.view c.self.inside.records.store) (c.take.ensures.out.names j) (table_of c.self.inside.base) c.self.inside.history.items (same j) (c.take.ensures.out.offers j) c.self.inside.doubt)

pub returns-in_default : goal.returns-in_default
returns-in_default g c =
    let i = c.self.inside in
    let same = nothing i.seats c.take.new.self c.args.caller (calls_in c.take.result) c.take.ensures.live (ap calls_in c.in_default.is) c.take.ensures.out.live in
    record {
      steps = subst (λ (h : Held g.row.S.Denot). Steps g.S.EawStore.tells c.args.caller (Control Commit) (core_of g.S.EawStore.opens g.K.KeyIndex.index (g.S.EawStore.view h.records.store) h)
          (core_of g.S.EawStore.opens g.K.KeyIndex.index (g.S.EawStore.view c.self.inside.records.store)
          (record { records = c.self.inside.records; base = c.self.inside.base; seats = c.take.new.self; history = c.self.inside.history.items; doubt = c.self.inside.doubt })) NoTransaction) c.self.view_is
          (absent_steps g.S.EawStore.tells g.S.EawStore.opens g.K.KeyIndex.index (pages_of (g.S.EawStore.view i.records.store) i.records)
          (state_at g.K.KeyIndex.index (g.S.EawStore.view i.records.store) i.seats.names (table_of i.base) i.history.items (live_in i.seats) (offers_in i.seats) i.doubt) (record { indexed = refl; dead = refl }) (length i.seats.places) i.base c.self.invariant
          (subst (λ (h : Held g.row.S.Denot). IsAlive (g.S.EawStore.view h.records.store)) (sym c.self.view_is) c.requires.alive) c.args.caller (Control Commit) (sym c.take.ensures.live ∙ ap calls_in c.in_default.is) (subst (λ (h : Held g.row.S.Denot). offers_in h.seats c.args.caller ≡ unoffered) (sym c.self.view_is) c.requires.unoffered) (refl, refl) _
          (λ j. state_at g.K.KeyIndex.index (g.S.EawStore.view c.self.inside.records.store) (c.take.ensures.out.names j) (table_of c.self.inside.base) c.self.inside.history.items (same j) (c.take.ensures.out.offers j) c.self.inside.doubt));
      sends = subst (λ (h : Held g.row.S.Denot). Mirrors g.S.EawStore.tells (g.S.EawStore.view h.records.store) (g.S.EawStore.view c.self.inside.records.store)) c.self.view_is (sends_none g.S.EawStore.tells (g.S.EawStore.view c.self.inside.records.store));
      not_busy = refl;
    }
