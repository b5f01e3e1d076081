use Rattle.std.proofs.Common.{◌≡◌, false, length, List, get_or, sym, ap, ◌∙◌, subst}
use Rattle.std.specs.Prelude.{IsTrue}
use Rattle.caller_steps.specs.Fate.{is_refusal}
use Rattle.stripe_words.specs.declared.hold.Hold.{Hold}
use Rattle.stripe_words.specs.declared.hold.Hold.TheVariants.{Free}
use Rattle.mars_manager.specs.declared.view.Known.{Known}
use Rattle.mars_manager.specs.Pass.{PassView, takes_of, names_in, names_of}
use Rattle.mars_manager.specs.Locks.{locks, IsCovered, touched_by, takes_after}
use Rattle.mars_manager.specs.Seat.{SeatOf, first_of}
use Rattle.mars_manager.proofs.Locked.{covered_call}
use Rattle.mars_manager.proofs.Striping.{number_is, long_is, pass_is}
use Rattle.mars_manager.proofs.Making.{covered_on, takes_on}
use Rattle.mars_manager.proofs.mars.Mars.make.Goals as goal

pub invariant_of-pass-2 : goal.invariant_of-pass-2
invariant_of-pass-2 g c =
    let i = c.pass.invariant in
    let was = first_of c.pass.inside.seat.me.0.passes in
    let m = c.in_ok-reply.ensures.made in
    let call = c.args.call.now in
    let reply = c.in_ok-reply.reply in
    let k = ap (λ (p : PassView g.row.C.Denot). p.known) c.pass.view_is in
    let has : IsTrue (takes_of (first_of c.pass.inside.seat.me.0.passes)) → IsCovered (locks (names_of (first_of c.pass.inside.seat.me.0.passes)) call) (first_of c.pass.inside.seat.me.0.passes).holds =
    subst (λ (j : Known g.row.C.Denot). IsTrue (takes_of j) → IsCovered (locks (names_of j) call) j.holds) (sym k) c.requires.covered in
    let old = pass_is c.pass.inside.number c.pass.inside.names c.pass.inside.holds c.pass.inside.takes c.pass.inside.seat.me i in
    let now : first_of c.turn.new.seat.me.0.passes ≡ m.now = ap (λ (s : SeatOf g.row.C.Denot). first_of s.0.passes) m.is in
    let holds : (first_of c.turn.new.seat.me.0.passes).holds ≡ (first_of c.pass.inside.seat.me.0.passes).holds = ap (λ (j : Known g.row.C.Denot). j.holds) now ∙ m.made.holds in record {
      seat = record {
        known = m.now;
        is = m.is;
        number = m.made.number ∙ number_is c.pass.inside.number c.pass.inside.seat.me i.seat;
        small = i.seat.small;
        long = ap (λ (hs : List Hold). length hs) m.made.holds ∙ long_is c.pass.inside.number c.pass.inside.seat.me i.seat;
        covered = subst (λ (hs : List Hold). IsCovered (touched_by m.now) hs) (sym m.made.holds)
            (covered_on (first_of c.pass.inside.seat.me.0.passes) m.now call reply (first_of c.pass.inside.seat.me.0.passes).holds m.made.number m.made.setup m.made.told old.covered
            (λ (granted : is_refusal reply ≡ false). covered_call (names_of (first_of c.pass.inside.seat.me.0.passes)) call (takes_of (first_of c.pass.inside.seat.me.0.passes)) (first_of c.pass.inside.seat.me.0.passes).holds (m.made.tabled granted) has (m.made.begun granted)));
      };
      named = ap names_of now ∙ ap names_in m.made.setup ∙ i.named;
      same = holds ∙ i.same;
      settled = λ t e. i.settled t (ap (λ (hs : List Hold). get_or hs t Free) (sym holds) ∙ e);
      takes_is = ap (λ (j : Known g.row.C.Denot). takes_of j) now ∙ takes_on (first_of c.pass.inside.seat.me.0.passes) m.now call reply m.made.number m.made.told ∙ ap (λ b. takes_after b call reply) i.takes_is ∙ sym c.takes_after-pass-inside.ensures;
    }
