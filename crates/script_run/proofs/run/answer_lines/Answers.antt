use Rattle.std.proofs.Common.{false, ◌≡◌, ℕ, [], ◌∷◌, ◌++◌, List, Err, refl, ap, sym, subst, ◌∙◌, arith}
use Rattle.std.specs.Prelude.{MatchBool}
use Rattle.std.specs.List.{concat}
use Rattle.mars_base.specs.Causes.{Rose}
use Rattle.std.proofs.lemmas.List.{append_assoc, append-nil}
use Rattle.script_run.specs.Lines.{lines_of}
use Rattle.script_run.specs.declared.ended.Ended.TheVariants.{All}
use Rattle.script_run.proofs.Running.{concat-push, counts_on, Answered-end, Answered-more, Answered-all}
use Rattle.script_run.proofs.run.answer_lines.Goals as goal

pub loop-line-init : goal.loop-line-init
loop-line-init g c = record {
  so_far = (
    [],
    (λ tells. sym (append-nil (g.K.Sink.written c.args.sink.now))),
    λ told first stands. (
      first,
      stands,
      g.met.R.Responder.comes_none c.args.responder.now first told c.requires stands,
      λ ended cut answers rest final all. all,
    ),
  );
  ready = c.requires;
  count = omega arith;
  sink = refl;
  media = refl;
}

pub returns-in-Err-clause-ran : goal.returns-in-Err-clause-ran
returns-in-Err-clause-ran g c =
    let r = g.R.Responder in
    let so_far = c.loop-line.invariant.so_far in
    let end = c.in-Err.ensures.ran in
    record {
      cut = end.cut;
      text = concat so_far.0 ++ end.text;
      wrote = λ tells. end.wrote tells ∙ ap (λ x. x ++ end.text) (so_far.1 tells) ∙ append_assoc _ (concat so_far.0) end.text;
      counts = subst (λ (n : ℕ). let now = g.K.Sink.faults c.answer_line.new.sink in MatchBool end.cut (Rose n now) (now ≡ n)) c.loop-line.invariant.sink end.counts;
      holds = λ told first stands.
          let now = so_far.2 told first stands in
          let ends = end.holds told now.0 now.1 in
          record {
            answers = so_far.0 ++ [];
            rest = end.text;
            text_is = ap (λ (a : List (List ℕ)). concat a ++ end.text) (sym (append-nil so_far.0));
            final = ends.0;
            answered = now.3 c.in-Err.ended end.cut [] end.text ends.0 (Answered-end r.script now.0 c.loop-line.n _ c.in-Some.line.now _ c.in-Err.ended end.cut end.text ends.0 c.in-Some.ensures.0 ends.1);
            stands = λ all. absurd (c.in-Err.ensures.ended (ap Err all));
            comes = g.met.R.Responder.comes_on c.args.responder.now c.loop-line.responder c.answer_line.new.responder first now.0 ends.0 told c.loop-line.invariant.ready now.1 now.2 ends.2;
          };
    }

pub returns-in-Err-clause-ready : goal.returns-in-Err-clause-ready
returns-in-Err-clause-ready g c = λ all. absurd (c.in-Err.ensures.ended (ap Err all))

pub returns-in-Err-clause-counts : goal.returns-in-Err-clause-counts
returns-in-Err-clause-counts g c = counts_on _ _ _ _ _ _ _ c.loop-line.invariant.sink c.loop-line.invariant.media c.in-Err.ensures.counts

pub loop-line-preserved : goal.loop-line-preserved
loop-line-preserved g c =
    let r = g.R.Responder in
    let so_far = c.loop-line.invariant.so_far in
    let line = c.in-Ok.ensures.ran in
    let fewer = c.in-Some.ensures.1 in
    record {
      so_far = (
        so_far.0 ++ line.text ∷ [],
        (λ tells. line.wrote tells ∙ ap (λ x. x ++ line.text) (so_far.1 tells) ∙ append_assoc _ (concat so_far.0) line.text
            ∙ ap (λ x. g.K.Sink.written c.args.sink.now ++ x) (sym (concat-push so_far.0 line.text))),
        λ told first stands.
            let now = so_far.2 told first stands in
            let gives = line.holds told now.0 now.1 in (
              gives.1,
              gives.3,
              g.met.R.Responder.comes_on c.args.responder.now c.loop-line.responder c.answer_line.new.responder first now.0 gives.1 told c.loop-line.invariant.ready now.1 now.2 gives.4,
              λ ended cut answers rest final more.
                  rw append_assoc (now.3 ended cut (line.text ∷ answers) rest final
                  (Answered-more r.script now.0 c.loop-line.n _ c.in-Some.line.now _ line.text gives.1 ended cut answers rest final c.in-Some.ensures.0 gives.2 more)),
            ),
      );
      ready = c.in-Ok.ensures.ready;
      count = omega (arith, fewer, c.loop-line.invariant.count);
      sink = c.in-Ok.ensures.counts.0 ∙ c.loop-line.invariant.sink;
      media = c.in-Ok.ensures.counts.1 ∙ c.loop-line.invariant.media;
    }

pub returns-clause-ran : goal.returns-clause-ran
returns-clause-ran g c =
    let r = g.R.Responder in
    let so_far = c.loop-line.invariant.so_far in
    record {
      cut = false;
      text = concat so_far.0 ++ [];
      wrote = λ tells. so_far.1 tells ∙ ap (λ x. g.K.Sink.written c.args.sink.now ++ x) (sym (append-nil (concat so_far.0)));
      counts = c.loop-line.invariant.sink;
      holds = λ told first stands.
          let now = so_far.2 told first stands in
          record {
            answers = so_far.0 ++ [];
            rest = [];
            text_is = ap (λ (a : List (List ℕ)). concat a ++ []) (sym (append-nil so_far.0));
            final = now.0;
            answered = now.3 All false [] [] now.0 (Answered-all r.script now.0 c.loop-line.n _ (ap lines_of c.in_default.ensures));
            stands = λ all. now.1;
            comes = now.2;
          };
    }
