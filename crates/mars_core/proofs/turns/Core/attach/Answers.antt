use Rattle.std.proofs.Common.{false}
use Rattle.std.proofs.lemmas.Result.{IfOk-weaker, IfErr-weaker}
use Rattle.record_table.proofs.Looking.{looks_as}
use Rattle.mars_core.specs.Held.{core_of}
use Rattle.mars_core.specs.Over.{Begins}
use Rattle.mars_core.proofs.Attaching.{looked_begins, looked_gives}
use Rattle.std.proofs.Common.{◌≡◌, ℕ, List, [], refl, sym, subst, ap, ◌∙◌}
use Rattle.std.specs.Prelude.{map, Option, None}
use Rattle.eaw_face.specs.State.{State, listed}
use Rattle.eaw_face.specs.Causes.{IsAlive}
use Rattle.page_store.specs.Shown.{saved_of, pages_of}
use Rattle.std.specs.FinMap.{entries}
use Rattle.record_table.specs.Shown.{writes_of, table_of}
use Rattle.mars_core.specs.Attached.{is_media_fault, attach_fault, CoreCause, GivesBack}
use Rattle.mars_core.specs.declared.fault.CoreFault.{CoreFault}
use Rattle.mars_core.proofs.Attaching.{attach_cause, attach_left, left_gives}
use Rattle.mars_core.proofs.Showing.{begun_has, begun_shown}
use Rattle.mars_core.proofs.turns.Core.attach.Goals as goal

pub attach-requires : goal.attach-requires
attach-requires g c = record { idle = λ alive t. subst (λ (s : g.row.S.Denot). listed ((g.S.EawStore.view s).ranges t) ≡ []) (sym c.attach_in.ensures.store) (ap listed (c.requires.idle t)); closed = λ alive t. (c.attach_in.ensures.fresh t).1 }

pub returns-in-Err : goal.returns-in-Err
returns-in-Err g c =
    let cause = attach_cause g.S.EawStore.tells g.K.KeyIndex.index (g.S.EawStore.view c.attach_in.result.store) c.in-Err.fault c.in-Err.ensures.cause in
    let alive = subst (λ (s : g.row.S.Denot). IsAlive (g.S.EawStore.view s)) (sym c.attach_in.ensures.store) c.requires.alive in
    let back = left_gives g.S.EawStore.tells (g.S.EawStore.opens (g.S.EawStore.view c.attach_in.result.store).shape) (is_media_fault (attach_fault c.in-Err.fault)) (g.S.EawStore.view c.attach_in.result.store) (g.S.EawStore.view c.in-Err.pages.store)
    (attach_left g.S.EawStore.tells (g.S.EawStore.opens (g.S.EawStore.view c.attach_in.result.store).shape) g.K.KeyIndex.index (pages_of (g.S.EawStore.view c.attach_in.result.store) c.attach_in.result) (pages_of (g.S.EawStore.view c.in-Err.pages.store) c.in-Err.pages) alive c.in-Err.fault c.in-Err.ensures.cause c.in-Err.ensures.looks) in
    record {
      begins = tt;
      shown = tt;
      shows = tt;
      cause = subst (λ (x : g.row.S.Denot × CoreFault). CoreCause g.S.EawStore.tells g.K.KeyIndex.index (g.S.EawStore.view x.0) x.1) (λ i. (c.attach_in.ensures.store i, sym c.from.ensures i)) cause;
      gives_back = subst (λ (x : g.row.S.Denot × CoreFault × g.row.S.Denot). GivesBack g.S.EawStore.tells (g.S.EawStore.opens (g.S.EawStore.view x.0).shape) (is_media_fault x.1) (g.S.EawStore.view x.0) (g.S.EawStore.view x.2)) (λ i. (c.attach_in.ensures.store i, sym c.from.ensures i, sym c.into_store.ensures i)) back;
    }

pub begin_over-requires : goal.begin_over-requires
begin_over-requires g c =
    let still = c.in-Ok.ensures.attached.looks.still refl in
    record {
      alive = still.dead ∙ c.in-Ok.ensures.attached.alive;
      free = λ t. ap (λ (f : ℕ → Option (List (ℕ × ℕ))). f t) c.in-Ok.ensures.attached.looks.ranges ∙ subst (λ (s : g.row.S.Denot). (g.S.EawStore.view s).ranges t ≡ None) (sym c.attach_in.ensures.store) (c.requires.idle t);
      sound = λ told. subst (λ (s : State). g.K.KeyIndex.index.sound s.bytes) (sym (still.state told)) (c.in-Ok.ensures.attached.sound told);
      base = λ told. c.in-Ok.ensures.rows told ∙ ap (λ (s : State). entries (table_of g.K.KeyIndex.index s.bytes)) (sym (still.state told));
      idle = c.in-Ok.ensures.attached.idle;
      unmarked = λ t. ap (λ (f : ℕ → List ℕ). f t) c.in-Ok.ensures.attached.looks.saves ∙ (c.attach_in.ensures.fresh t).0;
      unsaved = λ told t.
          ap (λ (counts : List ℕ). map (writes_of (g.S.EawStore.view c.in-Ok.attached.0.store).state.bytes) (saved_of (listed ((g.S.EawStore.view c.in-Ok.attached.0.store).state.logs t)) counts))
          (ap (λ (f : ℕ → List ℕ). f t) c.in-Ok.ensures.attached.looks.saves ∙ (c.attach_in.ensures.fresh t).0);
    }

pub returns-clause-begins : goal.returns-clause-begins
returns-clause-begins g c =
    let s = g.S.EawStore in
    let p = pages_of (s.view c.attach_in.result.store) c.attach_in.result in
    let q = pages_of (s.view c.in-Ok.attached.0.store) c.in-Ok.attached.0 in
    let attached = c.in-Ok.ensures.attached in
    IfOk-weaker c.begin_over.result _ _ (λ core begins. subst (λ (st : g.row.S.Denot). Begins g.S.EawStore.tells (g.S.EawStore.opens (g.S.EawStore.view st).shape) g.K.KeyIndex.index (g.S.EawStore.view st) (g.S.EawStore.view core.records.store)
    (core_of g.S.EawStore.opens g.K.KeyIndex.index (g.S.EawStore.view core.records.store) core)) c.attach_in.ensures.store
    (looked_begins s.tells s.opens g.K.KeyIndex.index p q (s.view core.records.store) (core_of s.opens g.K.KeyIndex.index (s.view core.records.store) core) attached.alive attached.looks begins)) c.begin_over.ensures.begins

pub returns-clause-gives_back : goal.returns-clause-gives_back
returns-clause-gives_back g c =
    let s = g.S.EawStore in
    let p = pages_of (s.view c.attach_in.result.store) c.attach_in.result in
    let q = pages_of (s.view c.in-Ok.attached.0.store) c.in-Ok.attached.0 in
    let attached = c.in-Ok.ensures.attached in
    IfErr-weaker c.begin_over.result _ _ (λ failed back. subst (λ (st : g.row.S.Denot). GivesBack g.S.EawStore.tells (g.S.EawStore.opens (g.S.EawStore.view st).shape) (is_media_fault failed.0) (g.S.EawStore.view st) (g.S.EawStore.view failed.1)) c.attach_in.ensures.store
    (looked_gives s.tells s.opens (is_media_fault failed.0) p q (s.view failed.1) attached.alive (looks_as s.tells (s.opens (s.view c.attach_in.result.store).shape) 0 false p q attached.looks) back)) c.begin_over.ensures.gives_back

pub returns-clause-shown : goal.returns-clause-shown
returns-clause-shown g c = IfOk-weaker c.begin_over.result _ _ (λ core begins told. begun_shown _ _ _ _ _ _ begins told) c.begin_over.ensures.begins

pub returns-clause-shows : goal.returns-clause-shows
returns-clause-shows g c = IfOk-weaker c.begin_over.result _ _ (λ core begins told. begun_has _ _ _ _ _ _ begins told) c.begin_over.ensures.begins
