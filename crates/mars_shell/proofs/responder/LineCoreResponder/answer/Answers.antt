use Rattle.std.proofs.Common.{◌++◌, inr, ap, ◌∙◌}
use Rattle.script_text.specs.Replies.{bad_line}
use Rattle.mars_shell.proofs.Answering.{passed_over, refused, refused_short, called}
use Rattle.mars_shell.proofs.responder.LineCoreResponder.answer.Goals as goal

pub returns-in-Nothing-clause-answers : goal.returns-in-Nothing-clause-answers
returns-in-Nothing-clause-answers g c = λ told turns stands.
    passed_over (g.C.Core.view c.args.self.now.core) c.args.self.now.callers c.args.n c.args.line.now turns c.requires stands _ c.clear.ensures.items c.in-Nothing.ensures

pub returns-in-Ok-clause-answers : goal.returns-in-Ok-clause-answers
returns-in-Ok-clause-answers g c = λ told turns stands.
    refused (g.C.Core.view c.args.self.now.core) c.args.self.now.callers c.args.n c.args.line.now turns c.requires stands _
    (c.in-Ok.ensures.ok ∙ ap (λ xs. xs ++ bad_line c.args.n) c.clear.ensures.items) c.in-Bad.ensures

pub returns-in-Err-clause-answers : goal.returns-in-Err-clause-answers
returns-in-Err-clause-answers g c = λ told turns stands.
    refused_short (g.C.Core.view c.args.self.now.core) c.args.self.now.callers c.args.n c.args.line.now turns c.requires stands c.write_bad_line.new.out.items c.in-Bad.ensures

pub returns-in-Told-clause-answers : goal.returns-in-Told-clause-answers
returns-in-Told-clause-answers g c = λ told turns stands.
    called (g.C.Core.view c.args.self.now.core) c.args.self.now.callers c.args.n c.args.line.now turns c.requires stands
    g.C.Core.tells told (g.C.Core.view c.step-reply.new.self) c.in-Told.caller c.in-Told.call c.step-reply.result c.in-Told.ensures c.step-reply.ensures.steps
    _ c.tell.new.out.items c.tell.result c.clear.ensures.items c.tell.ensures

pub returns-in-Told-clause-sends : goal.returns-in-Told-clause-sends
returns-in-Told-clause-sends g c = inr (c.step-reply.ensures.sends, c.step-reply.ensures.steps.shown)
