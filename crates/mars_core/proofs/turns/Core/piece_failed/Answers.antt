use Rattle.std.proofs.Common.{List, IsTrue, length, refl, ap, subst}
use Rattle.page_store.specs.Marked.{Marked}
use Rattle.page_store.specs.Shown.{counts_in, pages_of}
use Rattle.history.specs.Rows.{table_of}
use Rattle.caller_steps.specs.Core.{Continues}
use Rattle.caller_steps.specs.Sound.{IsSound}
use Rattle.mars_core.specs.Held.{Held, core_of}
use Rattle.mars_core.specs.Seats.{live_in, offers_in}
use Rattle.mars_core.proofs.Quiet.{kept_quiet, goes_on}
use Rattle.mars_core.proofs.turns.Core.piece_failed.Goals as goal

pub invariant_of-self : goal.invariant_of-self
invariant_of-self g c =
    let e = g.S.EawStore in
    let i = c.self.inside in
    let new = c.piece_failed.new.self in
    kept_quiet e.tells e.opens g.K.KeyIndex.index (pages_of (e.view i.records.store) i.records) (pages_of (e.view new.store) new) c.piece_failed.ensures.same
    (ap (λ (marks : List Marked). counts_in marks) c.piece_failed.ensures.marks) i.seats.names (table_of i.base) i.history.items (live_in i.seats) (offers_in i.seats) i.doubt
    (length i.seats.places) i.base c.self.invariant

pub returns-clause-goes_on : goal.returns-clause-goes_on
returns-clause-goes_on g c =
    let e = g.S.EawStore in
    let index = g.K.KeyIndex.index in
    let i = c.self.inside in
    let new = c.piece_failed.new.self in
    let was : Held g.row.S.Denot = record { records = i.records; base = i.base; seats = i.seats; history = i.history.items; doubt = i.doubt } in
    let is : Held g.row.S.Denot = record was { records = new } in
    subst (λ (h : Held g.row.S.Denot). IsTrue e.tells → IsSound (core_of e.opens index (e.view h.records.store) h).state
    → Continues (core_of e.opens index (e.view h.records.store) h) (core_of e.opens index (e.view new.store) is)) c.self.view_is
    (goes_on e.tells e.opens index (e.view i.records.store) (e.view new.store) c.piece_failed.ensures.same was is refl i.base (length i.seats.places) c.self.invariant)
