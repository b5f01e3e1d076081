use Rattle.std.proofs.Common.{◌≡◌, ap, ◌∙◌, sym, subst, get_or, [], ◌∷◌, ◌++◌}
use Rattle.stripe_words.specs.declared.hold.Hold.TheVariants.{Free, Shared}
use Rattle.history.specs.declared.locks.Mode.TheVariants as mode
use Rattle.stripe_words.specs.Words.{IsLowest, HasBit}
use Rattle.mars_manager.specs.declared.view.Known.{Known}
use Rattle.mars_manager.specs.Seat.{first_of}
use Rattle.mars_manager.specs.Pass.{PassView}
use Rattle.mars_manager.specs.Locks.{hold_of, excluded_by, noted, with_hold, met, HasLocked, with_locks}
use Rattle.mars_manager.proofs.Knowns.{locked_twice, refused_twice}
use Rattle.mars_manager.proofs.Striping.{number_is}
use Rattle.mars_manager.proofs.mars.Mars.lock_exclusive.Goals as goal

pub returns-in-Ok-raise-clause-held : goal.returns-in-Ok-raise-clause-held
returns-in-Ok-raise-clause-held g c =
    let a = c.in-Ok-raise.ensures.raised in
    let b = c.in_default.ensures.gained in
    let t = c.args.stripe in
    let k : first_of c.pass.inside.seat.me.0.passes ≡ c.args.pass.now.known = ap (λ (p : PassView g.row.C.Denot). p.known) c.pass.view_is in
    let after : c.raise-in-Free.new.pass.known ≡ excluded_by t a.0 (noted t mode.Shared b.0 (with_hold t Shared (first_of c.pass.inside.seat.me.0.passes))) = a.1 ∙ ap (excluded_by t a.0) b.1 in
    subst (λ (q : Known g.row.C.Denot × Known g.row.C.Denot). HasLocked mode.Exclusive t q.0 q.1) (λ i. (k i, sym after i)) (locked_twice t b.0 a.0 (first_of c.pass.inside.seat.me.0.passes))

pub returns-in-Err-raise-clause-busy : goal.returns-in-Err-raise-clause-busy
returns-in-Err-raise-clause-busy g c =
    let a = c.in-Err-raise.ensures.refused in
    let b = c.in_default.ensures.gained in
    let t = c.args.stripe in
    let w = c.in-Err-raise.found in
    let k : first_of c.pass.inside.seat.me.0.passes ≡ c.args.pass.now.known = ap (λ (p : PassView g.row.C.Denot). p.known) c.pass.view_is in
    let between : first_of c.pass-in-Free.inside.seat.me.0.passes ≡ noted t mode.Exclusive w (noted t mode.Shared b.0 (with_hold t Shared (first_of c.pass.inside.seat.me.0.passes))) = ap (λ (p : PassView g.row.C.Denot). p.known) c.pass-in-Free.view_is ∙ a.0 ∙ ap (noted t mode.Exclusive w) b.1 in
    let free : hold_of t (first_of c.pass.inside.seat.me.0.passes) ≡ Free = (λ i. get_or (c.pass.invariant.same i) (sym c.from-at.ensures i) Free) ∙ c.in-Free.is in
    let number : c.pass-in-Free.inside.number ≡ c.args.pass.now.known.number = sym (number_is c.pass-in-Free.inside.number c.pass-in-Free.inside.seat.me c.pass-in-Free.invariant.seat) ∙ ap (λ (k : Known g.row.C.Denot). k.number) between ∙ ap (λ (k : Known g.row.C.Denot). k.number) k in record {
      step = mode.Exclusive;
      found = w;
      before = met t mode.Shared b.0 ∷ [];
      is = c.release.ensures.known ∙ ap (with_hold t Free) between ∙ refused_twice t b.0 w (first_of c.pass.inside.seat.me.0.passes) free ∙ ap (λ (k : Known g.row.C.Denot). with_locks k.holds (k.met ++ ((met t mode.Shared b.0 ∷ []) ++ met t mode.Exclusive w ∷ [])) k) k;
      why = subst (λ n. IsLowest (HasBit w) n c.lowest_marked-in-Err-raise.result) number c.lowest_marked-in-Err-raise.ensures;
    }
