use Rattle.std.proofs.Common.{◌≡◌, ◌<◌, ap, ◌∙◌, subst, arith, sym}
use Rattle.stripe_words.specs.declared.hold.Hold.TheVariants.{Free}
use Rattle.mars_manager.specs.declared.view.Known.{Known}
use Rattle.mars_manager.specs.Rule.{face}
use Rattle.mars_manager.specs.Seat.{first_of}
use Rattle.mars_manager.specs.Locks.{hold_of, marked_by, Finds}
use Rattle.mars_manager.specs.Sharing.{MarsView}
use Rattle.mars_manager.proofs.Knowns.{moves_mark}
use Rattle.mars_manager.proofs.Striping.{marks_as, seated, first_is, at_known}
use Rattle.mars_manager.proofs.mars.Mars.mark.Goals as goal

pub fetch_or-requires : goal.fetch_or-requires
fetch_or-requires g c = (c.requires.table ∙ sym (ap (λ (m : MarsView g.row.C.Denot). m.table) c.self.view_is), (let w = c.self.invariant.0 in let e = c.from.ensures in let l = c.requires.stripe in omega arith), marks_as (face g.C.Core.tells g.C.Core.view) c.self.inside.table.shared.key _ _ c.from.result c.args.number _ _ c.requires.seat (let e = c.from.ensures in let l = c.requires.stripe in omega arith) (ap (λ t. hold_of t (first_of c.args.seat.now.me.0.passes)) c.from.ensures ∙ c.requires.free) c.mark_bit.ensures)

pub returns-clause-seat : goal.returns-clause-seat
returns-clause-seat g c =
    let i = c.requires.seat in
    let t = c.from.result in
    let l : t < 64 = (let e = c.from.ensures in let l = c.requires.stripe in omega arith) in
    let free : hold_of t i.known ≡ Free = at_known c.args.number c.args.seat.now.me i t Free (ap (λ t. hold_of t (first_of c.args.seat.now.me.0.passes)) c.from.ensures ∙ c.requires.free) in
    seated c.args.number t _ c.args.seat.now.me _ i (marked_by t c.fetch_or.result) c.fetch_or.ensures.2.0 (moves_mark t c.fetch_or.result i.known l i.long i.covered free)

pub returns-clause-found : goal.returns-clause-found
returns-clause-found g c = let i = c.requires.seat in subst (λ n. Finds n c.fetch_or.result) (ap (λ (k : Known g.row.C.Denot). k.number) (first_is c.args.number c.args.seat.now.me i) ∙ i.number) c.fetch_or.ensures.2.1
