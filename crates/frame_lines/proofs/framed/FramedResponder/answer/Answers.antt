use Rattle.std.proofs.Common.{List, ℕ, ◌<◌, ◌++◌, length, inr, refl, sym, ◌∙◌, ap, subst}
use Rattle.std.specs.Prelude.{All, IsTrue, flat_map}
use Rattle.frame_lines.specs.Framed.{bytes_line}
use Rattle.frame_lines.proofs.Framing.{are_some, frames_now, next, has_sent, gives_framed, framed_stop}
use Rattle.std.proofs.lemmas.Result.{err_from_is_err_and}
use Rattle.frame_lines.proofs.framed.FramedResponder.answer.Goals as goal

pub returns-in_err-answer-clause-answers : goal.returns-in_err-answer-clause-answers
returns-in_err-answer-clause-answers g c =
    let exit = err_from_is_err_and c.from_residual.result c.from_residual.ensures.1 in
    rw (exit.1, exit.2) (λ tell state stood.
    let r = g.R.Responder in
    framed_stop r.script r.holds (r.comes c.args.self.now.responder state.inner c.answer.new.self) state c.args.n c.args.line.now c.in_err-answer.field-0.0 (c.in_err-answer.ensures.answers tell state.inner stood.0))

pub returns-then-link_down-clause-answers : goal.returns-then-link_down-clause-answers
returns-then-link_down-clause-answers g c = λ tell state stood.
    let done = c.in_ok-answer.ensures.answers tell state.inner stood.0 in
    (record state { inner = done.0 }, (inr (c.answer.new.out.items, done.1), refl), done.3)

pub write_answer-requires-clause-frames : goal.write_answer-requires-clause-frames
write_answer-requires-clause-frames g c =
    let view = g.R.Mirrored.view in
    let old = c.args.self.now.responder in
    let mid = c.answer.new.self in
    let sends = g.met.R.Mirrored.mirrors old mid c.in_ok-answer.ensures.sends in
    let now = frames_now g.R.Responder.tells (view old) (view mid) sends c.requires.1 in
    record {
      told = subst IsTrue (sym sends.kind.told) c.requires.1.told;
      some = subst (All (λ (b : List ℕ). 0 < length b)) (sym now) (are_some sends.added);
    }

pub returns-in-Ok-clause-answers : goal.returns-in-Ok-clause-answers
returns-in-Ok-clause-answers g c = λ tell state stood.
    let r = g.R.Responder in
    let view = g.R.Mirrored.view in
    let old = c.args.self.now.responder in
    let mid = c.answer.new.self in
    let new = c.write_answer.new.responder in
    let done = c.in_ok-answer.ensures.answers tell state.inner stood.0 in
    let sends = g.met.R.Mirrored.mirrors old mid c.in_ok-answer.ensures.sends in
    let ready = c.in_ok-answer.ensures.ready in
    let up = sym c.link_down.ensures ∙ c.if-link_down.false in
    let alive = g.met.R.Mirrored.alive mid ready in
    let wrote = c.in-Ok.ensures in
    let holds = g.met.R.Mirrored.data_of mid done.0 tell ready done.2 in (
      next r.tells (view old) (view mid) sends c.requires.1 state stood.1 done.0 tell up alive,
      gives_framed r.tells (view old) (view mid) sends c.requires.1 state stood.1 done.0 tell up alive r.script r.holds c.args.n c.args.line.now c.write_answer.new.out.items c.answer.new.out.items c.clear.new.self.items done.1 holds c.clear.ensures.items (wrote.written ∙ ap (λ (t : List ℕ). (c.clear.new.self.items ++ flat_map bytes_line (view mid).sending.frames) ++ t) c.deref.ensures.value),
      (wrote.stands.stands tell done.0 done.2, has_sent r.tells (view old) (view mid) sends c.requires.1 state stood.1 done.0 tell up alive (view new) wrote.is_but),
      g.met.R.Responder.comes_on old mid new state.inner done.0 done.0 tell ready done.2 done.3 (wrote.stands.comes tell ready done.0 done.2),
    )

pub returns-in-Err-clause-answers : goal.returns-in-Err-clause-answers
returns-in-Err-clause-answers g c = λ tell state stood.
    let old = c.args.self.now.responder in
    let mid = c.answer.new.self in
    let new = c.write_answer.new.responder in
    let done = c.in_ok-answer.ensures.answers tell state.inner stood.0 in
    let ready = c.in_ok-answer.ensures.ready in
    let wrote = c.in-Err.ensures in (
      record state { inner = done.0 },
      (inr (c.answer.new.out.items, done.1), refl),
      g.met.R.Responder.comes_on old mid new state.inner done.0 done.0 tell ready done.2 done.3 (wrote.stands.comes tell ready done.0 done.2),
    )
