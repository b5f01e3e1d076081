use Rattle.eaw_face.specs.Mirroring.{Mirrors}
use Rattle.std.proofs.Common.{◌≡◌, ◌∙◌, ◌<◌, ℕ, [], Option, length, unwrap_or, sym, ap, subst, rules}
use Rattle.eaw_face.specs.Causes.{IsAlive}
use Rattle.page_store.specs.Shown.{pages_of}
use Rattle.history.specs.Rows.{table_of}
use Rattle.history.specs.Table.{Granted}
use Rattle.history.specs.declared.call.Call.TheVariants.{Control}
use Rattle.history.specs.declared.call.Control.TheVariants.{Purge}
use Rattle.caller_steps.specs.Core.{Steps}
use Rattle.caller_steps.specs.Fate.{is_busy}
use Rattle.caller_steps.specs.Purging.{PurgeCause}
use Rattle.caller_steps.specs.State.{unoffered}
use Rattle.mars_core.specs.Held.{Held, core_of}
use Rattle.mars_core.specs.Seats.{live_in, offers_in}
use Rattle.record_table.proofs.Sharing.{Laws}
use Rattle.mars_core.proofs.Prefixes.{StoreLaws}
use Rattle.mars_core.proofs.Purged.{outcome, outcome_plain, ready, purge_cause, purged_keeps, purged_steps}
use Rattle.mars_core.proofs.Staying.{none_of}
use Rattle.mars_core.proofs.turns.Core.purge.Given.{Over}
use Rattle.mars_core.proofs.turns.Core.purge.Goals.{in-Ok, in-Err}
use Rattle.mars_core.proofs.turns.Core.purge.Goals as goal

laws_at : (g : Over) (store : g.row.S.Denot) → StoreLaws g.S.EawStore.tells g.S.EawStore.opens (g.S.EawStore.view store)
laws_at g store = record {
  long = λ told. g.met.S.EawStore.long store told;
  some = λ told alive. g.met.S.EawStore.some_now store told alive;
  counts = λ told t image le left. g.met.S.EawStore.counts_now store t image told le left;
  only = λ told alive image left. g.met.S.EawStore.only_now store image told alive left;
}

index_laws : (g : Over) → Laws g.K.KeyIndex.index
index_laws g = let K = g.met.K.KeyIndex in record { rises = K.rises; given = K.given; counts = K.counts; rests = K.rests; extends = K.extends }

pub is_live-requires : goal.is_live-requires
is_live-requires g c = subst (λ (n : ℕ). c.args.caller < n) (sym c.self.invariant.seats) (subst (λ (h : Held g.row.S.Denot). c.args.caller < (g.S.EawStore.view h.records.store).shape.numbers) (sym c.self.view_is) c.requires.inside)

pub clear-requires : goal.clear-requires
clear-requires g c =
    let V = g.S.EawStore.view in
    let i = c.self.inside in
    let none = none_of (live_in c.self.inside.seats c.args.caller) (sym c.is_live.ensures ∙ c.if-is_live.false) in
    let living = subst (λ (h : Held g.row.S.Denot). IsAlive (V h.records.store)) (sym c.self.view_is) c.requires.alive in
    record {
      inside = subst (λ (h : Held g.row.S.Denot). c.args.caller < (V h.records.store).shape.numbers) (sym c.self.view_is) c.requires.inside;
      few = search rules;
      alive = living;
      idle = ap (λ (o : Option Granted). unwrap_or o []) none;
      unheld = c.self.invariant.idle living c.args.caller none;
      ready = λ told. ready g.S.EawStore.tells g.S.EawStore.opens g.K.KeyIndex.index (index_laws g) g.met.S.EawStore.one_data (pages_of (V i.records.store) i.records) (laws_at g i.records.store) i.base (table_of i.base) i.history.items i.seats i.doubt (length i.seats.places) c.self.invariant
          living c.args.caller none (subst (λ (h : Held g.row.S.Denot). offers_in h.seats c.args.caller ≡ unoffered) (sym c.self.view_is) c.requires.unoffered) told;
    }

pub invariant_of-self : goal.invariant_of-self
invariant_of-self g c =
    let V = g.S.EawStore.view in
    let i = c.self.inside in
    purged_keeps g.S.EawStore.tells g.S.EawStore.opens g.K.KeyIndex.index (index_laws g) g.met.S.EawStore.one_data (pages_of (V i.records.store) i.records) (laws_at g i.records.store) i.base (table_of i.base) i.history.items i.seats i.doubt (length i.seats.places) c.self.invariant
    (subst (λ (h : Held g.row.S.Denot). IsAlive (V h.records.store)) (sym c.self.view_is) c.requires.alive) c.args.caller (none_of (live_in i.seats c.args.caller) (sym c.is_live.ensures ∙ c.if-is_live.false))
    (subst (λ (h : Held g.row.S.Denot). offers_in h.seats c.args.caller ≡ unoffered) (sym c.self.view_is) c.requires.unoffered)
    (pages_of (V c.clear.new.records.store) c.clear.new.records) (laws_at g c.clear.new.records.store) c.clear.result c.clear.ensures.clears

answer_is : (g : Over) (c : goal.Joined-clear g) → c.match-clear.result ≡ outcome c.clear.result
answer_is g c = elim c.match-clear.branch [
  | in-Ok w ↦ w.result-is ∙ sym (ap outcome w.in-Ok.is)
  | in-Err w ↦ w.result-is ∙ w.from.ensures ∙ sym (ap outcome w.in-Err.is)
]

pub returns : goal.returns
returns g c =
    let V = g.S.EawStore.view in
    let i = c.self.inside in
    record {
      sends = subst (λ (h : Held g.row.S.Denot). Mirrors g.S.EawStore.tells (V h.records.store) (V c.clear.new.records.store)) c.self.view_is c.clear.ensures.clears.spares.mirrors;
      cause = subst (λ (h : Held g.row.S.Denot). PurgeCause (core_of g.S.EawStore.opens g.K.KeyIndex.index (V h.records.store) h).state c.args.caller c.match-clear.result) c.self.view_is
          (rw (answer_is g c) (purge_cause g.S.EawStore.tells g.S.EawStore.opens g.K.KeyIndex.index (index_laws g) g.met.S.EawStore.one_data (pages_of (V i.records.store) i.records) (laws_at g i.records.store) i.base (table_of i.base) i.history.items i.seats i.doubt (length i.seats.places) c.self.invariant
          (subst (λ (h : Held g.row.S.Denot). IsAlive (V h.records.store)) (sym c.self.view_is) c.requires.alive) c.args.caller (none_of (live_in i.seats c.args.caller) (sym c.is_live.ensures ∙ c.if-is_live.false))
          (subst (λ (h : Held g.row.S.Denot). offers_in h.seats c.args.caller ≡ unoffered) (sym c.self.view_is) c.requires.unoffered)
          (pages_of (V c.clear.new.records.store) c.clear.new.records) (laws_at g c.clear.new.records.store) c.clear.result c.clear.ensures.clears));
      not_busy = ap is_busy (answer_is g c) ∙ outcome_plain c.clear.result;
      steps = subst (λ (h : Held g.row.S.Denot). Steps g.S.EawStore.tells c.args.caller (Control Purge) (core_of g.S.EawStore.opens g.K.KeyIndex.index (V h.records.store) h)
          (core_of g.S.EawStore.opens g.K.KeyIndex.index (V c.clear.new.records.store)
          (record { records = c.clear.new.records; base = i.base; seats = i.seats; history = i.history.items; doubt = i.doubt })) c.match-clear.result) c.self.view_is
          (rw (answer_is g c) (purged_steps g.S.EawStore.tells g.S.EawStore.opens g.K.KeyIndex.index (index_laws g) g.met.S.EawStore.one_data (pages_of (V i.records.store) i.records) (laws_at g i.records.store) i.base (table_of i.base) i.history.items i.seats i.doubt (length i.seats.places) c.self.invariant
          (subst (λ (h : Held g.row.S.Denot). IsAlive (V h.records.store)) (sym c.self.view_is) c.requires.alive) c.args.caller (none_of (live_in i.seats c.args.caller) (sym c.is_live.ensures ∙ c.if-is_live.false))
          (subst (λ (h : Held g.row.S.Denot). offers_in h.seats c.args.caller ≡ unoffered) (sym c.self.view_is) c.requires.unoffered)
          (pages_of (V c.clear.new.records.store) c.clear.new.records) (laws_at g c.clear.new.records.store) c.clear.result c.clear.ensures.clears));
    }
