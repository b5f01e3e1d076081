use Rattle.std.proofs.Common.{◌++◌, Ok, Err, ap, subst, ◌∙◌}
use Rattle.array_shape.specs.declared.shape.Shape.{Shape}
use Rattle.script_text.specs.AnswerLines.{answer_text}
use Rattle.script_text.specs.EawLines.{SaysEaw}
use Rattle.script_text.specs.Replies.{told_line, bad_line}
use Rattle.script_text.specs.declared.eaw_line.EawLine.TheVariants.{Nothing, Told, Bad}
use Rattle.script_run.specs.declared.responder.Stop.TheVariants.{Media, NoMemory}
use Rattle.eaw_script.proofs.Answering.{Reply, from_past, means_told, passed_over, refused, refused_short, performed, performed_short, failed}
use Rattle.eaw_script.proofs.commands.CommandsResponder.answer.Goals as goal

pub returns-in-Nothing-clause-answers : goal.returns-in-Nothing-clause-answers
returns-in-Nothing-clause-answers g c = λ tell.
    let s = g.S.EawStore in
    let store = c.args.self.now.store in
    let says = subst (λ (shape : Shape). SaysEaw shape.numbers c.args.line.now Nothing) c.shape.ensures c.in-Nothing.ensures in
    from_past s.opens (s.view store) (s.view store) c.args.n c.args.line.now c.clear.new.self.items (let r : Reply = Ok tt in r)
    (λ past. (passed_over s.opens (s.view store) c.args.n c.args.line.now (λ image left. g.met.S.EawStore.only_now store image tell c.requires left) past _ c.clear.ensures.items says))

pub returns-in-Ok-clause-answers : goal.returns-in-Ok-clause-answers
returns-in-Ok-clause-answers g c = λ tell.
    let s = g.S.EawStore in
    let store = c.args.self.now.store in
    let says = subst (λ (shape : Shape). SaysEaw shape.numbers c.args.line.now Bad) c.shape.ensures c.in-Bad.ensures in
    let text = c.in-Ok.ensures.ok ∙ ap (λ xs. xs ++ bad_line c.args.n) c.clear.ensures.items in
    from_past s.opens (s.view store) (s.view store) c.args.n c.args.line.now c.write_bad_line.new.out.items (let r : Reply = Ok tt in r)
    (λ past. (refused s.opens (s.view store) c.args.n c.args.line.now (λ image left. g.met.S.EawStore.only_now store image tell c.requires left) past _ text says))

pub returns-in-Err-clause-answers : goal.returns-in-Err-clause-answers
returns-in-Err-clause-answers g c = λ tell.
    let s = g.S.EawStore in
    let store = c.args.self.now.store in
    let says = subst (λ (shape : Shape). SaysEaw shape.numbers c.args.line.now Bad) c.shape.ensures c.in-Bad.ensures in
    from_past s.opens (s.view store) (s.view store) c.args.n c.args.line.now c.write_bad_line.new.out.items (let r : Reply = Err NoMemory in r)
    (λ past. refused_short s.opens (s.view store) c.args.n c.args.line.now (λ image left. g.met.S.EawStore.only_now store image tell c.requires left) past c.write_bad_line.new.out.items says)

pub returns-in-Ok-write_answer-clause-answers : goal.returns-in-Ok-write_answer-clause-answers
returns-in-Ok-write_answer-clause-answers g c = λ tell.
    let s = g.S.EawStore in
    let store = c.args.self.now.store in
    let t = c.in-Told.number in
    let says = subst (λ (shape : Shape). SaysEaw shape.numbers c.args.line.now (Told t c.in-Told.call)) c.shape.ensures c.in-Told.ensures in
    let is = means_told _ _ t c.in-Told.call says in
    let did = c.in-Ok-perform.ensures is.0 is.2.1 is.1 is.2.2 in
    let new = c.perform.new.store in
    let text = c.in-Ok-write_answer.ensures.ok ∙ ap (λ xs. xs ++ told_line t (answer_text t c.in-Ok-perform.answer)) c.clear.ensures.items in
    from_past s.opens (s.view store) (s.view new) c.args.n c.args.line.now c.write_answer.new.out.items (let r : Reply = Ok tt in r)
    (λ past. performed s.tells tell s.opens (s.view store) (s.view new) c.args.n c.args.line.now t is.0 (g.met.S.EawStore.outlines store t tell c.requires) is.2 past
    c.in-Ok-perform.answer did (λ image left. g.met.S.EawStore.only_now new image tell did.alive left) _ text)

pub returns-in-Err-write_answer-clause-answers : goal.returns-in-Err-write_answer-clause-answers
returns-in-Err-write_answer-clause-answers g c = λ tell.
    let s = g.S.EawStore in
    let store = c.args.self.now.store in
    let t = c.in-Told.number in
    let says = subst (λ (shape : Shape). SaysEaw shape.numbers c.args.line.now (Told t c.in-Told.call)) c.shape.ensures c.in-Told.ensures in
    let is = means_told _ _ t c.in-Told.call says in
    let did = c.in-Ok-perform.ensures is.0 is.2.1 is.1 is.2.2 in
    let new = c.perform.new.store in
    from_past s.opens (s.view store) (s.view new) c.args.n c.args.line.now c.write_answer.new.out.items (let r : Reply = Err NoMemory in r)
    (λ past. performed_short s.tells tell s.opens (s.view store) (s.view new) c.args.n c.args.line.now t is.0 (g.met.S.EawStore.outlines store t tell c.requires) is.2 past
    c.in-Ok-perform.answer did (λ image left. g.met.S.EawStore.only_now new image tell did.alive left) c.write_answer.new.out.items)

pub returns-in-Err-perform-clause-answers : goal.returns-in-Err-perform-clause-answers
returns-in-Err-perform-clause-answers g c = λ tell.
    let s = g.S.EawStore in
    let store = c.args.self.now.store in
    let t = c.in-Told.number in
    let says = subst (λ (shape : Shape). SaysEaw shape.numbers c.args.line.now (Told t c.in-Told.call)) c.shape.ensures c.in-Told.ensures in
    let is = means_told _ _ t c.in-Told.call says in
    let new = c.perform.new.store in
    from_past s.opens (s.view store) (s.view new) c.args.n c.args.line.now c.clear.new.self.items (let r : Reply = Err (Media t) in r)
    (λ past. failed s.tells tell s.opens (s.view store) (s.view new) c.args.n c.args.line.now t is.0 (g.met.S.EawStore.outlines store t tell c.requires) is.2 past
    c.in-Err-perform.field-0 (c.in-Err-perform.ensures is.0 is.2.1 is.1 is.2.2) (λ image left. g.met.S.EawStore.only_now store image tell c.requires left) (λ m image le left. g.met.S.EawStore.counts_now new m image tell le left) c.clear.new.self.items)
