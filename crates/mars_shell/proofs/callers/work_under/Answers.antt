use Rattle.std.proofs.Common.{[], false, refl, sym, ap, subst, ◌∙◌}
use Rattle.std.proofs.lemmas.List.{append-nil}
use Rattle.mars_core.specs.Held.{core_of}
use Rattle.mars_core.specs.Over.{IsOver}
use Rattle.reader_work.specs.Readership.{passes_for}
use Rattle.mars_shell.specs.Joint.{JointWork}
use Rattle.mars_shell.specs.Served.{Served}
use Rattle.array_runs.proofs.Untaken.{untaken}
use Rattle.mars_shell.proofs.Serving.{untold, can_share, served}
use Rattle.mars_shell.proofs.callers.work_under.Goals as goal

pub work_jointly-worked-requires-clause-ready : goal.work_jointly-worked-requires-clause-ready
work_jointly-worked-requires-clause-ready g c κs within =
    let s = g.S.EawStore in
    let store = c.in-Ok.core.records.store in
    let begins = c.in-Ok.ensures.begins in
    can_share s.tells s.opens g.I.KeyIndex.index (s.view c.args.store) (s.view store) _ begins (passes_for c.args.crew.now.numbers.callers c.args.crew.now.numbers.readers) c.requires.enough
    (λ told image left. (g.met.S.EawStore g.world.𝓛 g.world.𝓜 g.world.𝓡 ((λ s x. x), (λ x. x), (λ x. x), λ x. x)).only_now store image told begins.alive left)

pub returns-in-Ok-worked-clause-served : goal.returns-in-Ok-worked-clause-served
returns-in-Ok-worked-clause-served g c =
    let s = g.S.EawStore in
    let first = c.in-Ok.core.records.store in
    let begins = c.in-Ok.ensures.begins in
    let core = c.work_jointly-worked.result.1 in
    let over = subst (λ st. IsOver s.tells (s.opens (s.view st).shape) g.I.KeyIndex.index (s.view st) (core_of s.opens g.I.KeyIndex.index (s.view st) core)) c.into_store-store.ensures.store c.into_store-store.ensures.over in
    let works = c.work_jointly-worked.ensures.works in
    let ended = c.in-Ok-worked.ended in
    let does = JointWork (g.G.Gate.told c.args.crew.now.gate.now) c.args.crew.now.numbers.callers c.args.crew.now.numbers.readers c.args.input.now ended works.cut works.text in
    record {
      cut = works.cut;
      text = works.text;
      wrote = works.wrote;
      counts = works.counts;
      holds = λ told.
          let turns = rw c.in-Ok-worked.is at (works.holds told) in
          subst (λ st. Served does s.opens g.I.KeyIndex.index (s.view c.args.store) ended (s.view st)) (sym c.into_store-store.ensures.store)
          (served s.tells s.opens g.I.KeyIndex.index (s.view c.args.store) (s.view first) _ begins told (s.view core.records.store) _ over does ended turns);
    }

pub returns-in-Err-worked-clause-served : goal.returns-in-Err-worked-clause-served
returns-in-Err-worked-clause-served g c =
    let s = g.S.EawStore in
    let first = c.in-Ok.core.records.store in
    let same = rw c.in-Err-worked.is at c.work_jointly-worked.ensures.untold in
    record {
      cut = false;
      text = [];
      wrote = λ _. ap g.K.Sink.written same ∙ sym (append-nil _);
      counts = ap g.K.Sink.faults same;
      holds = λ told. untold s.tells s.opens g.I.KeyIndex.index (s.view c.args.store) (s.view first) _ c.in-Ok.ensures.begins _ told
          (ap s.view (c.into_store-store.ensures.store ∙ ap (λ (last : _). last.records.store) (rw c.in-Err-worked.is at c.work_jointly-worked.ensures.given_back)));
    }

pub returns-in-Err-clause-served : goal.returns-in-Err-clause-served
returns-in-Err-clause-served g c =
    let s = g.S.EawStore in
    record {
      cut = false;
      text = [];
      wrote = λ _. sym (append-nil _);
      counts = refl;
      holds = λ tells.
          untaken s.tells s.opens g.I.KeyIndex.index (s.view c.args.store) (s.view c.in-Err.store) c.in-Err.fault tells c.in-Err.ensures.cause c.in-Err.ensures.gives_back;
    }

pub returns-in-Ok-worked-clause-short : goal.returns-in-Ok-worked-clause-short
returns-in-Ok-worked-clause-short g c = rw c.in-Ok-worked.is at c.work_jointly-worked.ensures.short
