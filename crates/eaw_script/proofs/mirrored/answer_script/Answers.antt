use Rattle.std.proofs.Common.{◌≡◌, Bool, false, true, [], inl, inr, refl, sym, ap, subst, ◌∙◌}
use Rattle.std.proofs.lemmas.List.{append-nil}
use Rattle.mars_base.proofs.Going.{stays}
use Rattle.eaw_face.specs.StoreView.{LeavesOnly}
use Rattle.script_run.specs.Lines.{lines_of}
use Rattle.script_run.specs.declared.ended.Ended.TheVariants.{NoMemory}
use Rattle.mirror.specs.Mirroring.{sending_in}
use Rattle.eaw_script.specs.Mirrored.{RanAs, RanMirrored, framed_begun}
use Rattle.eaw_script.proofs.WithFrames.{stands_first, ran_below}
use Rattle.eaw_script.proofs.mirrored.answer_script.Goals as goal

pub returns-in-Err-clause-ran : goal.returns-in-Err-clause-ran
returns-in-Err-clause-ran g c = record {
  cut = false;
  text = [];
  wrote = λ told. sym (append-nil (g.K.Sink.written c.args.sink.now));
  counts = refl;
  holds = λ tell.
      subst (λ (f : Bool). RanAs f g.S.EawStore.opens (g.S.EawStore.view c.args.store) (g.S.EawStore.view c.in-Err.store) (lines_of c.args.input.now) NoMemory false []) (sym c.if-not-frames.false)
      (inr (
        refl,
        refl,
        refl,
        subst (λ b. LeavesOnly (λ image. ⊥) (g.S.EawStore.view c.args.store) (g.S.EawStore.view b)) (sym c.in-Err.ensures.returned.0)
            (stays (g.S.EawStore.view c.args.store).moment (g.S.EawStore.view c.args.store).left_since (λ image. ⊥)),
      ));
}

pub returns-clause-ran : goal.returns-clause-ran
returns-clause-ran g c =
    let s = g.S.EawStore in
    let ran = c.answer_lines-ended.ensures.ran in
    let old = c.new-framed.result.responder.store in
    let new = c.answer_lines-ended.new.responder.responder.store in
    let first : old.store ≡ c.args.store = ap (λ r. r.store.store) c.new-framed.ensures ∙ ap (λ p. p.store) c.in-Ok.ensures.primary in
    let none : old.sent ≡ 0 = ap (λ r. r.store.sent) c.new-framed.ensures ∙ ap (λ p. p.sent) c.in-Ok.ensures.primary in
    let lines = lines_of c.args.input.now in
    let ended = c.answer_lines-ended.result in
    record {
      cut = ran.cut;
      text = ran.text;
      wrote = ran.wrote;
      counts = ran.counts;
      holds = λ tell.
          let sent = sending_in true (λ l. l.frames) (λ l. l.faults) old in
          let sent' = sending_in true (λ l. l.frames) (λ l. l.faults) new in
          let over_primary = ran.holds tell (framed_begun (s.view old.store).shape (s.view old.store).state) (stands_first (s.view old.store) sent none) in
          let below = ran_below s.opens (s.view old.store) (s.view new.store) sent sent' lines ended ran.cut ran.text over_primary in
          subst (λ (f : Bool). RanAs f s.opens (s.view c.args.store) (s.view c.into_parts-store.result.0) lines ended ran.cut ran.text) (sym c.if-not-frames.false)
          (subst (λ b. RanMirrored s.opens (s.view b) (s.view c.into_parts-store.result.0) lines ended ran.cut ran.text) first
          (subst (λ b. RanMirrored s.opens (s.view old.store) (s.view b) lines ended ran.cut ran.text) (sym c.into_parts-store.ensures.store) (inl below)));
    }
