use Rattle.std.proofs.Common.{ℕ, drop, sym, ◌∙◌, ap, refl, subst, arith}
use Rattle.std.proofs.lemmas.Result.{on_ok_weaker}
use Rattle.write_back.specs.Orders.{IsFree, due_for}
use Rattle.write_back.specs.Shown.{entries_of}
use Rattle.write_back.proofs.Orders.{due_free}
use Rattle.write_back.proofs.Together.{due_few, returned}
use Rattle.write_back.proofs.commits.LateData.write_back_for.Goals as goal

pub write_back_first-requires-clause-count : goal.write_back_first-requires-clause-count
write_back_first-requires-clause-count g c = omega (arith, c.due_for-due.ensures, due_few c.args.group c.args.self.now.queue.ballots.items)

pub returns-clause-apart : goal.returns-clause-apart
returns-clause-apart g c =
    let items = c.args.self.now.queue.ballots.items in
    on_ok_weaker c.write_back_first.result
    (λ left t so. subst (IsFree t) (sym (left ∙ ap (λ (n : ℕ). drop n items) c.due_for-due.ensures)) (due_free c.args.group items t so))
    c.write_back_first.ensures.back.left

pub returns-clause-tied : goal.returns-clause-tied
returns-clause-tied g c =
    let kept = c.args.self.now in
    let new = c.write_back_first.new.self in
    let back = c.write_back_first.ensures.back in
    on_ok_weaker c.write_back_first.result
    (λ left. returned c.args.shape.now kept.queue.cells new.queue.cells (entries_of kept.parts) (entries_of new.parts) c.due_for-due.result (due_for c.args.group kept.queue.ballots.items)
    kept.queue.ballots.items kept.queue.ballots.items new.queue.ballots.items c.due_for-due.ensures refl (left ∙ ap (λ (n : ℕ). drop n kept.queue.ballots.items) c.due_for-due.ensures) back.table c.requires.tied c.write_back_first.ensures.forgets)
    back.left
