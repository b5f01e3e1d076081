use Rattle.std.proofs.Common.{◌≡◌, ap, ◌∙◌, sym, subst, length}
use Rattle.mars_manager.specs.declared.view.Known.{Known}
use Rattle.mars_manager.specs.Pass.{PassView}
use Rattle.mars_manager.specs.Locks.{IsUntouched, IsUnwritten}
use Rattle.mars_manager.proofs.Knowns.{untouched_from, unwritten_from}
use Rattle.mars_manager.proofs.Striping.{long_is}
use Rattle.mars_manager.proofs.mars.Mars.lower.Goals as goal

pub release-requires : goal.release-requires
release-requires g c =
    let k = ap (λ (p : PassView g.row.C.Denot). p.known) c.pass.view_is in
    let long : length c.args.pass.now.known.holds ≡ 64 = ap (λ (k : Known g.row.C.Denot). length k.holds) (sym k) ∙ long_is _ c.pass.inside.seat.me c.pass.invariant.seat in record {
      table = ap (λ (p : PassView g.row.C.Denot). p.table) c.pass.view_is ∙ c.requires.own;
      seat = c.pass.invariant.seat;
      stripe = c.requires.stripe;
      untouched = subst (IsUntouched c.args.stripe) (sym k) (untouched_from c.args.stripe c.args.to c.args.pass.now.known c.requires.stripe long c.in-Free.is c.requires.covered);
    }

pub back-requires-clause-unwritten : goal.back-requires-clause-unwritten
back-requires-clause-unwritten g c =
    let k = ap (λ (p : PassView g.row.C.Denot). p.known) c.pass.view_is in
    let long : length c.args.pass.now.known.holds ≡ 64 = ap (λ (k : Known g.row.C.Denot). length k.holds) (sym k) ∙ long_is _ c.pass.inside.seat.me c.pass.invariant.seat in
    subst (IsUnwritten c.args.stripe) (sym k) (unwritten_from c.args.stripe c.args.to c.args.pass.now.known c.requires.stripe long c.in-Shared.is c.requires.covered)
