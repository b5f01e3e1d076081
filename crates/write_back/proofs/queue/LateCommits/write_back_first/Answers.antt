use Rattle.std.proofs.Common.{◌≡◌, ◌+◌, refl, subst, Result, Ok, arith, ◌∙◌, ℕ}
use Rattle.mars_base.specs.declared.Failed.{Failed}
use Rattle.write_back.specs.Steps.{WritesBack}
use Rattle.write_back.proofs.Steps.{back_handed, back_more, more_back, nothing_back}
use Rattle.write_back.proofs.queue.LateCommits.write_back_first.Goals as goal

pub loop-done-init : goal.loop-done-init
loop-done-init g c = nothing_back g.M.Media.tells c.args.shape.now 0 c.args.self.now (g.M.Media.view c.args.media.now) refl refl c.requires.fit c.requires.waiting

pub write_back_oldest-requires : goal.write_back_oldest-requires
write_back_oldest-requires g c =
    let back = c.loop-done.invariant in
    record { fit = back.fit; size = back.does.does.size ∙ c.requires.size; waiting = back.waiting }

pub loop-done-preserved : goal.loop-done-preserved
loop-done-preserved g c = back_more g.M.Media.tells c.args.shape.now c.loop-done._done 1 c.args.self.now c.loop-done.self c.write_back_oldest.new.self (g.M.Media.view c.args.media.now) (g.M.Media.view c.loop-done.media) (g.M.Media.view c.write_back_oldest.new.media) (Ok tt) c.loop-done.invariant c.in_ok-write_back_oldest.ensures

pub returns-in_err-write_back_oldest : goal.returns-in_err-write_back_oldest
returns-in_err-write_back_oldest g c =
    let shape = c.args.shape.now in
    let old = g.M.Media.view c.args.media.now in
    let mid = g.M.Media.view c.loop-done.media in
    let new = g.M.Media.view c.write_back_oldest.new.media in
    more_back g.M.Media.tells shape (c.loop-done._done + 1) c.args.count c.args.self.now c.write_back_oldest.new.self old new c.from_residual.result c.from_residual.ensures.0 (omega arith)
    (back_more g.M.Media.tells shape c.loop-done._done 1 c.args.self.now c.loop-done.self c.write_back_oldest.new.self old mid new c.from_residual.result c.loop-done.invariant
    (back_handed g.M.Media.tells shape 1 c.loop-done.self c.write_back_oldest.new.self mid new c.from_residual.result c.from_residual.ensures.0 refl c.in_err-write_back_oldest.ensures))

pub returns : goal.returns
returns g c =
    let all : c.loop-done._done ≡ c.args.count = omega arith in
    subst (λ (n : ℕ). let ok : Result (Unit {0}) Failed = Ok tt in WritesBack g.M.Media.tells c.args.shape.now n c.args.self.now (g.M.Media.view c.args.media.now) c.loop-done.self (g.M.Media.view c.loop-done.media) ok) all c.loop-done.invariant
