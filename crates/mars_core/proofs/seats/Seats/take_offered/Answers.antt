use Rattle.std.proofs.Common.{◌≡◌, ◌+◌, ◌<◌, ◌≤◌, ℕ, List, length, refl, sym, ap, ◌∙◌, subst, arith}
use Rattle.history.specs.declared.transaction.Done.{Done}
use Rattle.noted.specs.Room.{Roomy}
use Rattle.mars_core.specs.Seats.{Seats, offered_in}
use Rattle.mars_core.proofs.Grouping.{HasEnded, left_in, one_skipped, one_taken, one_fits, all_ended}
use Rattle.mars_core.proofs.seats.Seats.take_offered.Goals.{then-is_offered, else-is_offered}
use Rattle.mars_core.proofs.seats.Seats.take_offered.Goals as goal

pub overflow_add-at : goal.overflow_add-at
overflow_add-at g c =
    let l = c.loop-caller in
    let e = l.invariant.ended in
    let within : l.caller < length c.args.self.now.places = omega (arith, e.count, c.loop-caller-test.true, c.len-caller-end.ensures, ap (λ (seats : Seats). length seats.places) (sym c.self.view_is)) in
    let fits = one_fits c.args.ending c.args.before c.args.last c.args.self.now c.args.into.now.items l.caller l.into.items l.at l.self e within (sym c.is_offered.ensures ∙ c.if-is_offered.true) in
    omega (arith, e.number, fits, c.requires.last, c.ranges.last.fits)

pub push_reserved-requires : goal.push_reserved-requires
push_reserved-requires g c =
    let l = c.loop-caller in
    let e = l.invariant.ended in
    let within : l.caller < length c.args.self.now.places = omega (arith, e.count, c.loop-caller-test.true, c.len-caller-end.ensures, ap (λ (seats : Seats). length seats.places) (sym c.self.view_is)) in
    let fits = one_fits c.args.ending c.args.before c.args.last c.args.self.now c.args.into.now.items l.caller l.into.items l.at l.self e within (sym c.is_offered.ensures ∙ c.if-is_offered.true) in
    let room = l.invariant.room in
    omega (arith, e.size, fits, room)

pub loop-caller-preserved : goal.loop-caller-preserved
loop-caller-preserved g c =
    let l = c.loop-caller in
    let old = c.args.self.now in
    let was = c.args.into.now.items in
    let e = l.invariant.ended in
    elim c.if-is_offered.branch [
      | then-is_offered w ↦ (
          let within : l.caller < length l.self.places = omega (arith, e.count, c.loop-caller-test.true, c.len-caller-end.ensures, ap (λ (seats : Seats). length seats.places) (sym c.self.view_is)) in
          record {
            ended = subst (λ (x : List Done × ℕ × Seats). HasEnded c.args.ending c.args.before c.args.last (l.caller + 1) old was x.0 x.1 x.2) (λ i. (sym (ap (λ (v : Roomy). v.items) w.into-is) i, sym w.at-is i, sym w.self-is i))
                (one_taken c.args.ending c.args.before c.args.last old was l.caller l.into.items l.at l.self e (sym c.is_offered.ensures ∙ w.if-is_offered.true) w.take_offer-live.result.calls w.take_offer-live.ensures.live
                w.take_offer-live.new.self (l.at + 1) refl (left_in c.args.ending l.self w.take_offer-live.new.self l.caller (l.at + 1) w.seat.result within w.seat.ensures w.take_offer-live.ensures.after)
                w.take_offer-live.result.calls refl w.push_reserved.new.self.items w.push_reserved.ensures.items);
            room = subst (λ (v : Roomy). length was + length (offered_in old) ≤ v.capacity) (sym w.into-is) (subst (λ (n : ℕ). length was + length (offered_in old) ≤ n) (sym w.push_reserved.ensures.capacity) l.invariant.room);
            first = ap (λ (v : Roomy). v.first) w.into-is ∙ w.push_reserved.ensures.first ∙ l.invariant.first;
          })
      | else-is_offered w ↦ record {
        ended = subst (λ (x : List Done × ℕ × Seats). HasEnded c.args.ending c.args.before c.args.last (l.caller + 1) old was x.0 x.1 x.2) (λ i. (sym (ap (λ (v : Roomy). v.items) w.into-is) i, sym w.at-is i, sym w.self-is i))
            (one_skipped c.args.ending c.args.before c.args.last old was l.caller l.into.items l.at l.self e (sym c.is_offered.ensures ∙ w.if-is_offered.false));
        room = subst (λ (v : Roomy). length was + length (offered_in old) ≤ v.capacity) (sym w.into-is) l.invariant.room;
        first = ap (λ (v : Roomy). v.first) w.into-is ∙ l.invariant.first;
      }
    ]

pub returns-clause-ends : goal.returns-clause-ends
returns-clause-ends g c =
    let l = c.loop-caller in
    let end : l.caller ≡ length c.args.self.now.places = omega (arith, l.invariant.ended.count, c.loop-caller-test.false, l.auto.caller-end, c.len-caller-end.ensures, c.requires.few, ap (λ (seats : Seats). length seats.places) (sym c.self.view_is)) in
    all_ended c.args.ending c.args.before c.args.last c.args.self.now c.args.into.now.items l.caller l.into.items l.at l.self l.invariant.ended end
