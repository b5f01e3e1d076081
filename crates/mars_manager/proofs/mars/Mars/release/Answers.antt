use Rattle.std.proofs.Common.{sym, subst, arith, w64, ap, ◌∙◌}
use Rattle.std.specs.Int.{bit_not}
use Rattle.std.specs.Int.RustNames.{bit_or}
use Rattle.mars_manager.specs.Rule.{face}
use Rattle.mars_manager.specs.Seat.{first_of}
use Rattle.mars_manager.specs.Locks.{IsUntouched}
use Rattle.mars_manager.specs.Sharing.{MarsView}
use Rattle.mars_manager.proofs.Striping.{releases_as}
use Rattle.mars_manager.proofs.mars.Mars.release.Goals as goal

pub fetch_and-requires : goal.fetch_and-requires
fetch_and-requires g c = (c.requires.table ∙ sym (ap (λ (m : MarsView g.row.C.Denot). m.table) c.self.view_is), (let w = c.self.invariant.0 in let e = c.from.ensures in let l = c.requires.stripe in omega arith), releases_as (face g.C.Core.tells g.C.Core.view) c.self.inside.table.shared.key _ _ c.from.result c.args.number _ _ c.requires.seat (let e = c.from.ensures in let l = c.requires.stripe in omega arith) (subst (λ t. IsUntouched t (first_of c.args.seat.now.me.0.passes)) (sym c.from.ensures) c.requires.untouched) (λ j. bit_not w64 (bit_or (c.mark_bit.ensures j) (c.lock_bit.ensures j))))
