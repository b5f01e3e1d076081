use Rattle.std.proofs.Common.{◌≡◌, ◌+◌, ◌-◌, ℕ, min, IsTrue, length, refl, sym, ◌∙◌, ap, subst, arith}
use Rattle.std.proofs.lemmas.List.{length-replicate}
use Rattle.media_file.specs.declared.call_faults.CallFaults.{CallFaults}
use Rattle.media_file.specs.Filled.{pieces}
use Rattle.media_file.proofs.CountLemmas.{part_taken, part_interrupted}
use Rattle.media_file.proofs.FillLemmas.{piece_failed, piece_taken, sure_call}
use Rattle.media_file.proofs.filling.write_zeros.Goals.{in-Ok+else-done-len+else-count-eq0, in-Err-Interrupted}
use Rattle.media_file.proofs.filling.write_zeros.Goals as goal

pub returns-then-done-len-clause-zeros : goal.returns-then-done-len-clause-zeros
returns-then-done-len-clause-zeros g c told =
    (piece_taken c.args.moment c.args.at c.args.len c.turns.done (g.C.Calls.past c.args.calls.now) (g.C.Calls.past c.turns.calls) (g.C.Calls.past c.write_at.new.self)
    (c.requires.within told) c.turns.invariant.low (c.turns.invariant.told told) c.zeros.result.now c.zeros.ensures c.in-Ok.count c.args.len c.in-Ok.ensures.count (sym c.if-done-len.true) (c.in-Ok.ensures.noted told)).there

pub returns-then-done-len-clause-others : goal.returns-then-done-len-clause-others
returns-then-done-len-clause-others g c told =
    (piece_taken c.args.moment c.args.at c.args.len c.turns.done (g.C.Calls.past c.args.calls.now) (g.C.Calls.past c.turns.calls) (g.C.Calls.past c.write_at.new.self)
    (c.requires.within told) c.turns.invariant.low (c.turns.invariant.told told) c.zeros.result.now c.zeros.ensures c.in-Ok.count c.args.len c.in-Ok.ensures.count (sym c.if-done-len.true) (c.in-Ok.ensures.noted told)).others

pub returns-then-count-eq0-clause-others : goal.returns-then-count-eq0-clause-others
returns-then-count-eq0-clause-others g c told =
    (piece_taken c.args.moment c.args.at c.args.len c.turns.done (g.C.Calls.past c.args.calls.now) (g.C.Calls.past c.turns.calls) (g.C.Calls.past c.write_at.new.self)
    (c.requires.within told) c.turns.invariant.low (c.turns.invariant.told told) c.zeros.result.now c.zeros.ensures c.in-Ok.count (c.turns.done + c.in-Ok.count) c.in-Ok.ensures.count refl (c.in-Ok.ensures.noted told)).others

pub returns-in-Err-Failed-clause-others : goal.returns-in-Err-Failed-clause-others
returns-in-Err-Failed-clause-others g c told =
    (piece_failed c.args.moment c.args.at c.args.len c.turns.done (g.C.Calls.past c.args.calls.now) (g.C.Calls.past c.turns.calls) (g.C.Calls.past c.write_at.new.self)
    (c.requires.within told) c.turns.invariant.low (c.turns.invariant.told told) c.zeros.result.now c.zeros.ensures c.turns.done refl (c.in-Err-Failed.ensures.noted told)).others

pub returns-then-count-eq0-clause-steady : goal.returns-then-count-eq0-clause-steady
returns-then-count-eq0-clause-steady g c calls more sure =
    let zero : ℕ = 0 in
    let size : length c.zeros.result.now ≡ min (c.args.len - c.turns.done) 4096 = ap length c.zeros.ensures ∙ length-replicate (min (c.args.len - c.turns.done) 4096) zero in
    let call = sure_call g.C.Calls.steady c.turns.calls (c.args.len - c.turns.done) (length c.zeros.result.now) (omega (arith, c.turns.invariant.low)) size calls more (c.turns.invariant.sure calls more sure).1 in
    let whole = (c.in-Ok.ensures.steady (calls + pieces (c.args.len - c.turns.done - length c.zeros.result.now)) (c.args.len - c.turns.done - length c.zeros.result.now + more) call).0 in
    let count : c.in-Ok.count ≡ length c.zeros.result.now = cc in
    absurd (omega (arith, count, size, c.if-count-eq0.true, c.turns.invariant.low))

pub returns-in-Err-Failed-clause-steady : goal.returns-in-Err-Failed-clause-steady
returns-in-Err-Failed-clause-steady g c calls more sure =
    let zero : ℕ = 0 in
    let size : length c.zeros.result.now ≡ min (c.args.len - c.turns.done) 4096 = ap length c.zeros.ensures ∙ length-replicate (min (c.args.len - c.turns.done) 4096) zero in
    let call = sure_call g.C.Calls.steady c.turns.calls (c.args.len - c.turns.done) (length c.zeros.result.now) (omega (arith, c.turns.invariant.low)) size calls more (c.turns.invariant.sure calls more sure).1 in
    let whole = (c.in-Err-Failed.ensures.steady (calls + pieces (c.args.len - c.turns.done - length c.zeros.result.now)) (c.args.len - c.turns.done - length c.zeros.result.now + more) call).0 in
    absurd (cc)

pub turns-preserved : goal.turns-preserved
turns-preserved g c =
    let zero : ℕ = 0 in
    let size : length c.zeros.result.now ≡ min (c.args.len - c.turns.done) 4096 = ap length c.zeros.ensures ∙ length-replicate (min (c.args.len - c.turns.done) 4096) zero in
    elim c.match-write_at.branch [
      | in-Ok+else-done-len+else-count-eq0 w ↦
          let same = part_taken (length c.zeros.result.now) w.in-Ok.count (g.C.Calls.faults c.turns.calls) (g.C.Calls.faults c.write_at.new.self) w.if-count-eq0.false w.in-Ok.ensures.counted in
          record {
            low = omega (arith, w.done-is, w.if-done-len.false, w.in-Ok.ensures.count, size, c.turns.invariant.low);
            told = λ told. piece_taken c.args.moment c.args.at c.args.len c.turns.done (g.C.Calls.past c.args.calls.now) (g.C.Calls.past c.turns.calls) (g.C.Calls.past c.write_at.new.self)
                (c.requires.within told) c.turns.invariant.low (c.turns.invariant.told told) c.zeros.result.now c.zeros.ensures w.in-Ok.count c.match-write_at.done w.in-Ok.ensures.count w.done-is (w.in-Ok.ensures.noted told);
            none_failed = ap (λ (t : CallFaults). t.failed) same ∙ c.turns.invariant.none_failed;
            interrupted = omega (arith, ap (λ (t : CallFaults). t.interrupted) same, c.turns.invariant.interrupted, w.done-is, w.if-count-eq0.false);
            sure = λ calls more sure.
                let so_far = c.turns.invariant.sure calls more sure in
                let call = sure_call g.C.Calls.steady c.turns.calls (c.args.len - c.turns.done) (length c.zeros.result.now) (omega (arith, c.turns.invariant.low)) size calls more so_far.1 in
                let done = w.in-Ok.ensures.steady (calls + pieces (c.args.len - c.turns.done - length c.zeros.result.now)) (c.args.len - c.turns.done - length c.zeros.result.now + more) call in
                let whole = done.0 in
                let count : w.in-Ok.count ≡ length c.zeros.result.now = cc in
                let rest : c.args.len - c.turns.done - length c.zeros.result.now ≡ c.args.len - c.match-write_at.done = omega (arith, count, w.done-is) in
                (omega (arith, so_far.0, w.done-is, w.if-count-eq0.false), subst (λ (n : ℕ). IsTrue (g.C.Calls.steady c.write_at.new.self (calls + pieces n) (n + more))) rest done.1);
          }
      | in-Err-Interrupted w ↦
          let once = part_interrupted w.in-Err-Interrupted.field-0 (g.C.Calls.faults c.turns.calls) (g.C.Calls.faults c.write_at.new.self) w.in-Err-Interrupted.field-0-is w.in-Err-Interrupted.ensures.counted in
          record {
            low = omega (arith, w.done-is, c.turns.invariant.low);
            told = λ told. piece_failed c.args.moment c.args.at c.args.len c.turns.done (g.C.Calls.past c.args.calls.now) (g.C.Calls.past c.turns.calls) (g.C.Calls.past c.write_at.new.self)
                (c.requires.within told) c.turns.invariant.low (c.turns.invariant.told told) c.zeros.result.now c.zeros.ensures c.match-write_at.done w.done-is (w.in-Err-Interrupted.ensures.noted told);
            none_failed = ap (λ (t : CallFaults). t.failed) once ∙ c.turns.invariant.none_failed;
            interrupted = omega (arith, ap (λ (t : CallFaults). t.interrupted) once, c.turns.invariant.interrupted, w.done-is, c.turns-test.true);
            sure = λ calls more sure.
                let call = sure_call g.C.Calls.steady c.turns.calls (c.args.len - c.turns.done) (length c.zeros.result.now) (omega (arith, c.turns.invariant.low)) size calls more (c.turns.invariant.sure calls more sure).1 in
                let whole = (w.in-Err-Interrupted.ensures.steady (calls + pieces (c.args.len - c.turns.done - length c.zeros.result.now)) (c.args.len - c.turns.done - length c.zeros.result.now + more) call).0 in
                absurd (cc);
          }
    ]
