use Rattle.std.proofs.Common.{◌≡◌, ◌≢◌, ◌<◌, ap, ◌∙◌, arith, sym}
use mathlib.Core.Logic.{dite}
use native.Mathlib.Decide.{ℕ_discrete}
use Rattle.history.specs.declared.locks.Mode.TheVariants as mode
use Rattle.std.specs.Int.RustNames.{bit_or}
use Rattle.stripe_words.specs.declared.hold.Hold.TheVariants.{Exclusive}
use Rattle.mars_manager.specs.Rule.{face}
use Rattle.mars_manager.specs.Seat.{first_of}
use Rattle.mars_manager.specs.Locks.{hold_of, excluded_by, noted}
use Rattle.mars_manager.specs.Sharing.{MarsView}
use Rattle.mars_manager.proofs.Knowns.{moves_exclude, moves_note}
use Rattle.mars_manager.proofs.Striping.{excludes_as, seated}
use Rattle.mars_manager.proofs.mars.Mars.exclude.Goals as goal

pub compare_exchange-requires : goal.compare_exchange-requires
compare_exchange-requires g c = (c.requires.table ∙ sym (ap (λ (m : MarsView g.row.C.Denot). m.table) c.self.view_is), (let w = c.self.invariant.0 in let e = c.from.ensures in let l = c.requires.stripe in omega arith), excludes_as (face g.C.Core.tells g.C.Core.view) c.self.inside.table.shared.key _ _ c.from.result c.args.number _ _ _ c.requires.seat (let e = c.from.ensures in let l = c.requires.stripe in omega arith) (ap (λ t. hold_of t (first_of c.args.seat.now.me.0.passes)) c.from.ensures ∙ c.requires.shared) c.mark_bit-mark.ensures (λ j. bit_or (c.mark_bit-mark.ensures j) (c.lock_bit.ensures j)))

pub returns-clause-seat : goal.returns-clause-seat
returns-clause-seat g c =
    let i = c.requires.seat in
    let t = c.from.result in
    let r = c.compare_exchange.result in
    let l : t < 64 = (let e = c.from.ensures in let l = c.requires.stripe in omega arith) in
    dite (ℕ_discrete r c.mark_bit-mark.result)
    (λ (e : r ≡ c.mark_bit-mark.result). seated c.args.number t Exclusive c.args.seat.now.me _ i (excluded_by t r) (c.compare_exchange.ensures.2.0 e) (moves_exclude t r i.known l i.long i.covered))
    (λ (ne : r ≢ c.mark_bit-mark.result). seated c.args.number t (hold_of t i.known) c.args.seat.now.me _ i (noted t mode.Exclusive r) (c.compare_exchange.ensures.2.1 ne).0 (moves_note t r i.known i.long i.covered))
