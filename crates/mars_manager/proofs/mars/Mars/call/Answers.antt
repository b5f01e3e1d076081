use Rattle.std.proofs.Common.{refl, ◌∙◌, ap}
use Rattle.mars_manager.specs.declared.view.Known.{Known}
use Rattle.mars_manager.proofs.Knowns.{below_free}
use Rattle.mars_manager.proofs.Asking.{up_same}
use Rattle.mars_manager.proofs.Making.{called_locks, called_commits}
use Rattle.mars_manager.proofs.Made.{made_so, meets_so, held_up}
use Rattle.mars_manager.proofs.mars.Mars.call.Goals as goal

pub returns-then-is_refusal-clause-step : goal.returns-then-is_refusal-clause-step
returns-then-is_refusal-clause-step g c sure =
    called_locks g.C.Core.tells g.C.Core.view c.args.pass.now.known c.ready.new.pass.known c.make.new.pass.known c.args.call.now c.in-Ok.reply c.in_default.ensures.held c.in-Ok.ensures.made c.restore-then-is_refusal.new.pass.known _ c.restore-then-is_refusal.ensures.known

pub restore-requires-then-is_end-clause-below : goal.restore-requires-then-is_end-clause-below
restore-requires-then-is_end-clause-below g c = λ t. below_free 64 t _

pub returns-then-is_end-clause-step : goal.returns-then-is_end-clause-step
returns-then-is_end-clause-step g c sure =
    called_locks g.C.Core.tells g.C.Core.view c.args.pass.now.known c.ready.new.pass.known c.make.new.pass.known c.args.call.now c.in-Ok.reply c.in_default.ensures.held c.in-Ok.ensures.made c.restore-then-is_end.new.pass.known _ c.restore-then-is_end.ensures.known

pub returns-clause-step : goal.returns-clause-step
returns-clause-step g c sure =
    called_locks g.C.Core.tells g.C.Core.view c.args.pass.now.known c.ready.new.pass.known c.make.new.pass.known c.args.call.now c.in-Ok.reply c.in_default.ensures.held c.in-Ok.ensures.made c.make.new.pass.known c.make.new.pass.known.holds refl

pub returns-then-is_end-clause-commit : goal.returns-then-is_end-clause-commit
returns-then-is_end-clause-commit g c =
    called_commits g.C.Core.tells g.C.Core.view c.args.pass.now.known c.ready.new.pass.known c.make.new.pass.known c.args.call.now c.in-Ok.reply c.in_default.ensures.held c.in-Ok.ensures.made c.restore-then-is_end.new.pass.known _ c.restore-then-is_end.ensures.known

-- a turn looks at no word of a stripe, and nor does what gives locks back
pub returns-then-is_refusal-clause-idle : goal.returns-then-is_refusal-clause-idle
returns-then-is_refusal-clause-idle g c free =
    ap (λ (k : Known g.row.C.Denot). k.met) c.restore-then-is_refusal.ensures.known ∙ c.in-Ok.ensures.made.met ∙ c.in_default.ensures.held.quiet free

pub returns-then-is_end-clause-idle : goal.returns-then-is_end-clause-idle
returns-then-is_end-clause-idle g c free =
    ap (λ (k : Known g.row.C.Denot). k.met) c.restore-then-is_end.ensures.known ∙ c.in-Ok.ensures.made.met ∙ c.in_default.ensures.held.quiet free

pub returns-clause-idle : goal.returns-clause-idle
returns-clause-idle g c free = c.in-Ok.ensures.made.met ∙ c.in_default.ensures.held.quiet free

-- a turn tries once, and asks for no stripe
pub returns-then-is_refusal-clause-rising : goal.returns-then-is_refusal-clause-rising
returns-then-is_refusal-clause-rising g c = up_same _ _ _ (ap (λ (k : Known g.row.C.Denot). k.met) c.restore-then-is_refusal.ensures.known ∙ c.in-Ok.ensures.made.met) c.ready.ensures.rising

pub returns-then-is_end-clause-rising : goal.returns-then-is_end-clause-rising
returns-then-is_end-clause-rising g c = up_same _ _ _ (ap (λ (k : Known g.row.C.Denot). k.met) c.restore-then-is_end.ensures.known ∙ c.in-Ok.ensures.made.met) c.ready.ensures.rising

pub returns-clause-rising : goal.returns-clause-rising
returns-clause-rising g c = up_same _ _ _ c.in-Ok.ensures.made.met c.ready.ensures.rising

-- what was refused in its turn
pub returns-then-is_refusal-clause-told : goal.returns-then-is_refusal-clause-told
returns-then-is_refusal-clause-told g c = (made_so g.C.Core.tells g.C.Core.view c.args.pass.now.known c.ready.new.pass.known c.make.new.pass.known c.restore-then-is_refusal.new.pass.known c.args.call.now c.in-Ok.reply _ c.in_default.ensures.held c.in-Ok.ensures.made c.restore-then-is_refusal.ensures.known).told

pub returns-then-is_refusal-clause-seen : goal.returns-then-is_refusal-clause-seen
returns-then-is_refusal-clause-seen g c = (made_so g.C.Core.tells g.C.Core.view c.args.pass.now.known c.ready.new.pass.known c.make.new.pass.known c.restore-then-is_refusal.new.pass.known c.args.call.now c.in-Ok.reply _ c.in_default.ensures.held c.in-Ok.ensures.made c.restore-then-is_refusal.ensures.known).seen

pub returns-then-is_refusal-clause-legal : goal.returns-then-is_refusal-clause-legal
returns-then-is_refusal-clause-legal g c = λ sure. (made_so g.C.Core.tells g.C.Core.view c.args.pass.now.known c.ready.new.pass.known c.make.new.pass.known c.restore-then-is_refusal.new.pass.known c.args.call.now c.in-Ok.reply _ c.in_default.ensures.held c.in-Ok.ensures.made c.restore-then-is_refusal.ensures.known).legal

pub returns-then-is_refusal-clause-busy : goal.returns-then-is_refusal-clause-busy
returns-then-is_refusal-clause-busy g c = (made_so g.C.Core.tells g.C.Core.view c.args.pass.now.known c.ready.new.pass.known c.make.new.pass.known c.restore-then-is_refusal.new.pass.known c.args.call.now c.in-Ok.reply _ c.in_default.ensures.held c.in-Ok.ensures.made c.restore-then-is_refusal.ensures.known).busy

pub returns-then-is_refusal-clause-asked : goal.returns-then-is_refusal-clause-asked
returns-then-is_refusal-clause-asked g c = meets_so _ _ _ _ (made_so g.C.Core.tells g.C.Core.view c.args.pass.now.known c.ready.new.pass.known c.make.new.pass.known c.restore-then-is_refusal.new.pass.known c.args.call.now c.in-Ok.reply _ c.in_default.ensures.held c.in-Ok.ensures.made c.restore-then-is_refusal.ensures.known).met c.ready.ensures.steps

pub returns-then-is_refusal-clause-once : goal.returns-then-is_refusal-clause-once
returns-then-is_refusal-clause-once g c = (made_so g.C.Core.tells g.C.Core.view c.args.pass.now.known c.ready.new.pass.known c.make.new.pass.known c.restore-then-is_refusal.new.pass.known c.args.call.now c.in-Ok.reply _ c.in_default.ensures.held c.in-Ok.ensures.made c.restore-then-is_refusal.ensures.known).once

pub returns-then-is_refusal-clause-same : goal.returns-then-is_refusal-clause-same
returns-then-is_refusal-clause-same g c = (made_so g.C.Core.tells g.C.Core.view c.args.pass.now.known c.ready.new.pass.known c.make.new.pass.known c.restore-then-is_refusal.new.pass.known c.args.call.now c.in-Ok.reply _ c.in_default.ensures.held c.in-Ok.ensures.made c.restore-then-is_refusal.ensures.known).same

-- what ended the transaction
pub returns-then-is_end-clause-told : goal.returns-then-is_end-clause-told
returns-then-is_end-clause-told g c = (made_so g.C.Core.tells g.C.Core.view c.args.pass.now.known c.ready.new.pass.known c.make.new.pass.known c.restore-then-is_end.new.pass.known c.args.call.now c.in-Ok.reply _ c.in_default.ensures.held c.in-Ok.ensures.made c.restore-then-is_end.ensures.known).told

pub returns-then-is_end-clause-seen : goal.returns-then-is_end-clause-seen
returns-then-is_end-clause-seen g c = (made_so g.C.Core.tells g.C.Core.view c.args.pass.now.known c.ready.new.pass.known c.make.new.pass.known c.restore-then-is_end.new.pass.known c.args.call.now c.in-Ok.reply _ c.in_default.ensures.held c.in-Ok.ensures.made c.restore-then-is_end.ensures.known).seen

pub returns-then-is_end-clause-legal : goal.returns-then-is_end-clause-legal
returns-then-is_end-clause-legal g c = λ sure. (made_so g.C.Core.tells g.C.Core.view c.args.pass.now.known c.ready.new.pass.known c.make.new.pass.known c.restore-then-is_end.new.pass.known c.args.call.now c.in-Ok.reply _ c.in_default.ensures.held c.in-Ok.ensures.made c.restore-then-is_end.ensures.known).legal

pub returns-then-is_end-clause-busy : goal.returns-then-is_end-clause-busy
returns-then-is_end-clause-busy g c = (made_so g.C.Core.tells g.C.Core.view c.args.pass.now.known c.ready.new.pass.known c.make.new.pass.known c.restore-then-is_end.new.pass.known c.args.call.now c.in-Ok.reply _ c.in_default.ensures.held c.in-Ok.ensures.made c.restore-then-is_end.ensures.known).busy

pub returns-then-is_end-clause-asked : goal.returns-then-is_end-clause-asked
returns-then-is_end-clause-asked g c = meets_so _ _ _ _ (made_so g.C.Core.tells g.C.Core.view c.args.pass.now.known c.ready.new.pass.known c.make.new.pass.known c.restore-then-is_end.new.pass.known c.args.call.now c.in-Ok.reply _ c.in_default.ensures.held c.in-Ok.ensures.made c.restore-then-is_end.ensures.known).met c.ready.ensures.steps

pub returns-then-is_end-clause-once : goal.returns-then-is_end-clause-once
returns-then-is_end-clause-once g c = (made_so g.C.Core.tells g.C.Core.view c.args.pass.now.known c.ready.new.pass.known c.make.new.pass.known c.restore-then-is_end.new.pass.known c.args.call.now c.in-Ok.reply _ c.in_default.ensures.held c.in-Ok.ensures.made c.restore-then-is_end.ensures.known).once

pub returns-then-is_end-clause-same : goal.returns-then-is_end-clause-same
returns-then-is_end-clause-same g c = (made_so g.C.Core.tells g.C.Core.view c.args.pass.now.known c.ready.new.pass.known c.make.new.pass.known c.restore-then-is_end.new.pass.known c.args.call.now c.in-Ok.reply _ c.in_default.ensures.held c.in-Ok.ensures.made c.restore-then-is_end.ensures.known).same

-- what was done within it
pub returns-clause-told : goal.returns-clause-told
returns-clause-told g c = (made_so g.C.Core.tells g.C.Core.view c.args.pass.now.known c.ready.new.pass.known c.make.new.pass.known c.make.new.pass.known c.args.call.now c.in-Ok.reply c.make.new.pass.known.holds c.in_default.ensures.held c.in-Ok.ensures.made refl).told

pub returns-clause-seen : goal.returns-clause-seen
returns-clause-seen g c = (made_so g.C.Core.tells g.C.Core.view c.args.pass.now.known c.ready.new.pass.known c.make.new.pass.known c.make.new.pass.known c.args.call.now c.in-Ok.reply c.make.new.pass.known.holds c.in_default.ensures.held c.in-Ok.ensures.made refl).seen

pub returns-clause-legal : goal.returns-clause-legal
returns-clause-legal g c = λ sure. (made_so g.C.Core.tells g.C.Core.view c.args.pass.now.known c.ready.new.pass.known c.make.new.pass.known c.make.new.pass.known c.args.call.now c.in-Ok.reply c.make.new.pass.known.holds c.in_default.ensures.held c.in-Ok.ensures.made refl).legal

pub returns-clause-busy : goal.returns-clause-busy
returns-clause-busy g c = (made_so g.C.Core.tells g.C.Core.view c.args.pass.now.known c.ready.new.pass.known c.make.new.pass.known c.make.new.pass.known c.args.call.now c.in-Ok.reply c.make.new.pass.known.holds c.in_default.ensures.held c.in-Ok.ensures.made refl).busy

pub returns-clause-asked : goal.returns-clause-asked
returns-clause-asked g c = meets_so _ _ _ _ (made_so g.C.Core.tells g.C.Core.view c.args.pass.now.known c.ready.new.pass.known c.make.new.pass.known c.make.new.pass.known c.args.call.now c.in-Ok.reply c.make.new.pass.known.holds c.in_default.ensures.held c.in-Ok.ensures.made refl).met c.ready.ensures.steps

pub returns-clause-once : goal.returns-clause-once
returns-clause-once g c = (made_so g.C.Core.tells g.C.Core.view c.args.pass.now.known c.ready.new.pass.known c.make.new.pass.known c.make.new.pass.known c.args.call.now c.in-Ok.reply c.make.new.pass.known.holds c.in_default.ensures.held c.in-Ok.ensures.made refl).once

pub returns-clause-same : goal.returns-clause-same
returns-clause-same g c = (made_so g.C.Core.tells g.C.Core.view c.args.pass.now.known c.ready.new.pass.known c.make.new.pass.known c.make.new.pass.known c.args.call.now c.in-Ok.reply c.make.new.pass.known.holds c.in_default.ensures.held c.in-Ok.ensures.made refl).same

-- what was refused by the word of a stripe
pub returns-in-Err-clause-told : goal.returns-in-Err-clause-told
returns-in-Err-clause-told g c = (held_up c.args.pass.now.known c.ready.new.pass.known c.args.call.now c.in-Err.way.holder c.in-Err.ensures.busy.1).told

pub returns-in-Err-clause-seen : goal.returns-in-Err-clause-seen
returns-in-Err-clause-seen g c = (held_up c.args.pass.now.known c.ready.new.pass.known c.args.call.now c.in-Err.way.holder c.in-Err.ensures.busy.1).seen

pub returns-in-Err-clause-commit : goal.returns-in-Err-clause-commit
returns-in-Err-clause-commit g c = (held_up c.args.pass.now.known c.ready.new.pass.known c.args.call.now c.in-Err.way.holder c.in-Err.ensures.busy.1).own

pub returns-in-Err-clause-once : goal.returns-in-Err-clause-once
returns-in-Err-clause-once g c = (held_up c.args.pass.now.known c.ready.new.pass.known c.args.call.now c.in-Err.way.holder c.in-Err.ensures.busy.1).once

pub returns-in-Err-clause-holds : goal.returns-in-Err-clause-holds
returns-in-Err-clause-holds g c = (held_up c.args.pass.now.known c.ready.new.pass.known c.args.call.now c.in-Err.way.holder c.in-Err.ensures.busy.1).holds

pub returns-in-Err-clause-same : goal.returns-in-Err-clause-same
returns-in-Err-clause-same g c = (held_up c.args.pass.now.known c.ready.new.pass.known c.args.call.now c.in-Err.way.holder c.in-Err.ensures.busy.1).same

pub returns-then-is_refusal-clause-commit : goal.returns-then-is_refusal-clause-commit
returns-then-is_refusal-clause-commit g c =
    called_commits g.C.Core.tells g.C.Core.view c.args.pass.now.known c.ready.new.pass.known c.make.new.pass.known c.args.call.now c.in-Ok.reply c.in_default.ensures.held c.in-Ok.ensures.made c.restore-then-is_refusal.new.pass.known _ c.restore-then-is_refusal.ensures.known

pub returns-clause-commit : goal.returns-clause-commit
returns-clause-commit g c =
    called_commits g.C.Core.tells g.C.Core.view c.args.pass.now.known c.ready.new.pass.known c.make.new.pass.known c.args.call.now c.in-Ok.reply c.in_default.ensures.held c.in-Ok.ensures.made c.make.new.pass.known c.make.new.pass.known.holds refl
