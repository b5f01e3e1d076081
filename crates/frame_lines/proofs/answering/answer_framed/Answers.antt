use Rattle.std.proofs.Common.{◌≡◌, ℕ, ◌++◌, inl, List, ap, subst, ◌∙◌}
use Rattle.std.specs.Prelude.{MatchBool}
use Rattle.std.proofs.lemmas.List.{append_assoc}
use Rattle.mars_base.specs.Causes.{Rose}
use Rattle.script_run.specs.Lines.{lines_of}
use Rattle.frame_lines.proofs.Beginning.{front_is, front_ends, has_sent_first}
use Rattle.frame_lines.proofs.answering.answer_framed.Goals as goal

pub write_begun-requires-clause-frames : goal.write_begun-requires-clause-frames
write_begun-requires-clause-frames g c = record { told = c.requires.told; some = c.requires.some }

pub returns-in-Err-clause-ran : goal.returns-in-Err-clause-ran
returns-in-Err-clause-ran g c =
    let r = g.R.Responder in
    let wrote = c.in-Err.ensures.wrote in
    record {
      cut = wrote.cut;
      text = wrote.text;
      wrote = wrote.wrote;
      counts = wrote.counts;
      holds = λ told state stands begun.
          front_ends (g.R.Mirrored.view c.args.responder) state begun r.script r.holds _ _ (lines_of c.args.input.now) c.in-Err.ended wrote.cut wrote.text wrote.holds
          (c.in-Err.ensures.stands.comes told c.requires.ready state.inner stands);
    }

pub returns-clause-ran : goal.returns-clause-ran
returns-clause-ran g c =
    let r = g.R.Responder in
    let view = g.R.Mirrored.view in
    let old = c.args.responder in
    let mid = c.write_begun.new.responder in
    let front = c.in-Ok.ensures.wrote in
    let ran = c.answer_lines-ended.ensures.ran in
    let same : c.new-framed.result.responder ≡ mid = c.new-framed.ensures in
    let new = c.answer_lines-ended.new.responder.responder in
    record {
      cut = ran.cut;
      text = front.text ++ ran.text;
      wrote = λ told. ran.wrote told ∙ ap (λ (t : List ℕ). t ++ ran.text) (front.wrote told) ∙ append_assoc (g.K.Sink.written c.args.sink.now) front.text ran.text;
      counts =
          let whole = rw front.holds.1 at front.counts in
          subst (λ (n : ℕ). let now = g.K.Sink.faults c.answer_lines-ended.new.sink in MatchBool ran.cut (Rose n now) (now ≡ n)) whole ran.counts;
      holds = λ told state stands begun.
          let but = c.in-Ok.ensures.is_but in
          let stood = c.in-Ok.ensures.stands.stands told state.inner stands in
          let ready = c.in-Ok.ensures.stands.ready c.requires.ready in
          let come = c.in-Ok.ensures.stands.comes told c.requires.ready state.inner stands in
          let sent = has_sent_first (view old) state begun (view mid) front.holds.0 but in
          let over = rw same at ran.holds in
          let done = over told state (stood, sent) in
          inl (
            front.holds.0,
            ran.text,
            ap (λ (t : List ℕ). t ++ ran.text) (front.holds.2 ∙ front_is (view old) state begun),
            record {
              answers = done.answers;
              rest = done.rest;
              text_is = done.text_is;
              final = done.final;
              answered = done.answered;
              stands = done.stands;
              comes = g.met.R.Responder.comes_on old mid new state.inner state.inner done.final.inner told ready stood come done.comes;
            },
          );
    }
