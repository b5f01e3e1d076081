use Rattle.std.proofs.Common.{sym, subst, ap, ◌∙◌}
use Rattle.std.proofs.lemmas.Bool.{both_ways, false≢true}
use Rattle.history.specs.Table.{Work, Answers, worked, IsRightFrom}
use Rattle.history.specs.Told.{told_reply}
use Rattle.history.specs.declared.call.Reply.{Reply}
use Rattle.history_replay.specs.Replay.{work_in}
use Rattle.history_replay.proofs.Judging.{right_front, right_again, made_front}
use Rattle.history_replay.proofs.replay.Replay.is_right.Goals as goal

pub returns-then-not-branch-clause-right : goal.returns-then-not-branch-clause-right
returns-then-not-branch-clause-right c =
    let work = work_in c.loop-call.self in
    let call = c.in-Some.call in (
      λ never. absurd (false≢true never),
      λ right. absurd (both_ways c.in_ok-answers.field-0 c.if-not-branch.true (c.in_ok-answers.ensures.1
          (subst (λ (r : Reply). Answers work call r) (sym c.in_ok-reply.ensures)
          (right_front work c.loop-call.left c.in-Some.rest call (told_reply c.in-Some.told) c.in-Some.ensures (c.loop-call.invariant.right.1 right)).0))),
    )

pub loop-call-preserved : goal.loop-call-preserved
loop-call-preserved c =
    let work = work_in c.loop-call.self in
    let call = c.in-Some.call in
    let rest = c.in-Some.rest in
    let told = told_reply c.in-Some.told in
    let left = c.loop-call.left in
    let front = c.in-Some.ensures in
    record {
      made = ap (λ (w : Work). worked w rest) c.in_ok-make.ensures ∙ made_front work left rest call told front ∙ c.loop-call.invariant.made;
      right = (
        λ right. c.loop-call.invariant.right.0 (right_again work left rest call told front
            (subst (λ (r : Reply). Answers work call r) c.in_ok-reply.ensures (c.in_ok-answers.ensures.0 c.if-not-branch.false))
            (subst (λ (w : Work). IsRightFrom w rest) c.in_ok-make.ensures right)),
        λ all. subst (λ (w : Work). IsRightFrom w rest) (sym c.in_ok-make.ensures) (right_front work left rest call told front (c.loop-call.invariant.right.1 all)).1,
      );
    }
