use Rattle.std.proofs.Common.{sym, ap, ◌∙◌, subst, arith, w64}
use Rattle.std.specs.Int.{bit_not}
use Rattle.mars_manager.specs.Rule.{face}
use Rattle.mars_manager.specs.Seat.{first_of}
use Rattle.mars_manager.specs.Locks.{hold_of, IsUnwritten}
use Rattle.mars_manager.specs.Sharing.{MarsView}
use Rattle.mars_manager.proofs.Striping.{backs_as}
use Rattle.mars_manager.proofs.mars.Mars.back.Goals as goal

pub fetch_and-requires : goal.fetch_and-requires
fetch_and-requires g c = (c.requires.table ∙ sym (ap (λ (m : MarsView g.row.C.Denot). m.table) c.self.view_is), (let w = c.self.invariant.0 in let e = c.from.ensures in let l = c.requires.stripe in omega arith), backs_as (face g.C.Core.tells g.C.Core.view) c.self.inside.table.shared.key _ _ c.from.result c.args.number _ _ c.requires.seat (let e = c.from.ensures in let l = c.requires.stripe in omega arith) (ap (λ t. hold_of t (first_of c.args.seat.now.me.0.passes)) c.from.ensures ∙ c.requires.full) (subst (λ t. IsUnwritten t (first_of c.args.seat.now.me.0.passes)) (sym c.from.ensures) c.requires.unwritten) (ap (bit_not w64) c.lock_bit.ensures))
