use Rattle.std.proofs.Common.{◌≡◌, [], false, true, refl, sym, ap, subst, ◌∙◌, arith}
use Rattle.std.proofs.lemmas.List.{append-nil}
use Rattle.mars_base.proofs.Going.{stays}
use Rattle.eaw_face.specs.StoreView.{LeavesOnly}
use Rattle.mirror.specs.Mirroring.{over, sending_in}
use Rattle.mars_core.specs.Held.{core_of}
use Rattle.mars_core.specs.Over.{IsOver}
use Rattle.array_runs.specs.Untaken.{OpensAs, Untaken}
use Rattle.array_runs.proofs.Untaken.{untaken}
use Rattle.mars_shell.specs.Served.{Served}
use Rattle.mars_shell.specs.FramedRun.{says_framed}
use Rattle.mars_shell.proofs.Serving.{can_share, served}
use Rattle.mars_shell.proofs.Framing.{some_bytes, first, stands_first, shown_first, has_begun, by_frames}
use Rattle.mars_shell.proofs.Below.{untaken_below, served_below}
use Rattle.mars_shell.proofs.framed_run.work_framed.Goals as goal

pub returns-in-Err-clause-served : goal.returns-in-Err-clause-served
returns-in-Err-clause-served g c =
    let s = g.S.EawStore in
    let old = s.view c.args.store in
    record {
      cut = false;
      text = [];
      wrote = λ _. sym (append-nil (g.K.Sink.written c.args.sink.now));
      counts = refl;
      holds = λ told. record {
        whole = refl;
        silent = refl;
        cause = tt;
        time = subst (λ b. LeavesOnly (λ image. OpensAs false (s.opens old.shape) old.state.bytes image) old (s.view b)) (sym c.in-Err.ensures.returned.0)
            (stays old.moment old.left_since (λ image. OpensAs false (s.opens old.shape) old.state.bytes image));
      };
    }

pub returns-in-Err-attach-clause-served : goal.returns-in-Err-attach-clause-served
returns-in-Err-attach-clause-served g c =
    let s = g.S.EawStore in
    let index = g.I.KeyIndex.index in
    let prim = c.in-Ok.primary in
    let back = c.in-Err-attach.primary in
    let sent = sending_in true (λ l. l.frames) (λ l. l.faults) prim in
    let sent' = sending_in true (λ l. l.frames) (λ l. l.faults) back in
    let first : prim.store ≡ c.args.store = ap (λ p. p.store) c.in-Ok.ensures.primary in
    record {
      cut = false;
      text = [];
      wrote = λ _. sym (append-nil (g.K.Sink.written c.args.sink.now));
      counts = refl;
      holds = λ told.
          let off = untaken s.tells s.opens index (over (s.view prim.store) sent) (over (s.view back.store) sent') c.in-Err-attach.fault told c.in-Err-attach.ensures.cause c.in-Err-attach.ensures.gives_back in
          let below = untaken_below s.opens index (s.view prim.store) (s.view back.store) sent sent' c.in-Err-attach.fault false [] off in
          subst (λ b. Untaken false s.opens index (s.view b) c.in-Err-attach.fault false [] (s.view c.into_parts-store.result.0)) first
          (subst (λ b. Untaken false s.opens index (s.view prim.store) c.in-Err-attach.fault false [] (s.view b)) (sym c.into_parts-store.ensures.store) below);
    }

pub answer_framed-ended-requires-clause-some : goal.answer_framed-ended-requires-clause-some
answer_framed-ended-requires-clause-some g c =
    let s = g.S.EawStore in
    let prim = c.in-Ok.primary in
    let core = c.in-Ok-attach.core in
    let old = over (s.view prim.store) (sending_in true (λ l. l.frames) (λ l. l.faults) prim) in
    let mid = over (s.view core.records.store.store) (sending_in true (λ l. l.frames) (λ l. l.faults) core.records.store) in
    let none : prim.link.frames ≡ [] = ap (λ p. p.link.frames) c.in-Ok.ensures.primary ∙ ap (λ l. l.frames) c.new.ensures in
    some_bytes s.tells s.opens g.I.KeyIndex.index old mid _ core c.in-Ok-attach.ensures.begins refl none

pub returns-clause-served : goal.returns-clause-served
returns-clause-served g c =
    let s = g.S.EawStore in
    let met = (g.met.S.EawStore g.world.𝓛 g.world.𝓜 g.world.𝓡 ((λ s x. x), (λ x. x), (λ x. x), λ x. x)) in
    let index = g.I.KeyIndex.index in
    let prim = c.in-Ok.primary in
    let core = c.in-Ok-attach.core in
    let last = c.answer_framed-ended.result.1.lines.core in
    let sent = sending_in true (λ l. l.frames) (λ l. l.faults) prim in
    let sent' = sending_in true (λ l. l.frames) (λ l. l.faults) last.records.store in
    let old = over (s.view prim.store) sent in
    let mid = over (s.view core.records.store.store) (sending_in true (λ l. l.frames) (λ l. l.faults) core.records.store) in
    let new = over (s.view last.records.store.store) sent' in
    let begins = c.in-Ok-attach.ensures.begins in
    let start : prim.store ≡ c.args.store = ap (λ p. p.store) c.in-Ok.ensures.primary in
    let none : prim.link.frames ≡ [] = ap (λ p. p.link.frames) c.in-Ok.ensures.primary ∙ ap (λ l. l.frames) c.new.ensures in
    let from_one : prim.sent ≡ 0 = ap (λ p. p.sent) c.in-Ok.ensures.primary in
    let input = c.args.input.now in
    let ended = c.answer_framed-ended.result.0 in
    let ran = c.answer_framed-ended.ensures.ran in
    let ready = can_share s.tells s.opens index old mid (core_of s.opens index mid core) begins 0 (omega arith)
    (λ told image left. met.only_now core.records.store.store image told begins.alive left) in
    let over_last = subst (λ st. IsOver s.tells (s.opens (s.view st.store).shape) index (over (s.view st.store) (sending_in true (λ l. l.frames) (λ l. l.faults) st))
    (core_of s.opens index (over (s.view st.store) (sending_in true (λ l. l.frames) (λ l. l.faults) st)) last)) c.into_store.ensures.store c.into_store.ensures.over in
    let later = core_of s.opens index new last in
    record {
      cut = ran.cut;
      text = ran.text;
      wrote = ran.wrote;
      counts = ran.counts;
      holds = λ told.
          let done = ran.holds told (first s.tells s.opens index old mid _ core begins told 0 ready refl none refl from_one)
          (stands_first s.tells s.opens index old mid _ core begins told 0 ready refl none refl from_one, shown_first s.tells s.opens index old mid _ core begins told 0 ready refl none refl from_one)
          (has_begun s.tells s.opens index old mid _ core begins told 0 ready refl none refl from_one) in
          let turns = by_frames s.tells s.opens index old mid _ core begins told 0 ready refl none refl from_one later input ended ran.cut ran.text new refl done in
          let all = served s.tells s.opens index old mid (core_of s.opens index mid core) begins told new later over_last (says_framed index old input ran.cut ran.text ended) ended turns in
          let below = served_below s.opens index (s.view prim.store) (s.view last.records.store.store) sent sent' input ran.cut ran.text ended all in
          let at_end : c.into_parts-store-2.result.0 ≡ last.records.store.store = c.into_parts-store-2.ensures.store ∙ ap (λ p. p.store) c.into_store.ensures.store in
          subst (λ b. Served (says_framed index (s.view b) input ran.cut ran.text ended) s.opens index (s.view b) ended (s.view c.into_parts-store-2.result.0)) start
          (subst (λ b. Served (says_framed index (s.view prim.store) input ran.cut ran.text ended) s.opens index (s.view prim.store) ended (s.view b)) (sym at_end) below);
    }
