use Rattle.std.proofs.Common.{◌≡◌, ◌+◌, ℕ, IsTrue, length, refl, sym, ◌∙◌, ap, subst, arith}
use Rattle.media_file.specs.declared.call_faults.CallFaults.{CallFaults}
use Rattle.media_file.proofs.CountLemmas.{part_taken, part_interrupted}
use Rattle.media_file.proofs.WriteLemmas.{rest_of, length_rest, written_none, written_next, written_whole, written_failed}
use Rattle.media_file.proofs.writing.write_all.Goals.{in-Ok+else-done-bytes+else-count-eq0, in-Err-Interrupted}
use Rattle.media_file.proofs.writing.write_all.Goals as goal

pub turns-init : goal.turns-init
turns-init g c = record { low = omega arith; told = λ told. written_none c.args.moment c.args.at c.args.bytes.now (g.C.Calls.past c.args.calls.now) (c.requires.before told); none_failed = refl; interrupted = omega arith; first = λ calls more steady. (refl, refl, refl) }

pub returns-then-done-bytes-clause-written : goal.returns-then-done-bytes-clause-written
returns-then-done-bytes-clause-written g c told =
    written_whole c.args.moment c.args.at c.turns.done c.args.bytes.now (g.C.Calls.past c.args.calls.now) (g.C.Calls.past c.turns.calls) (g.C.Calls.past c.write_at.new.self)
    c.turns.invariant.low (c.requires.before told) (c.requires.within told) (c.turns.invariant.told told) c.in-Ok.count (c.turns.done + c.in-Ok.count) c.in-Ok.ensures.count refl (c.in-Ok.ensures.noted told) c.if-done-bytes.true

pub returns-then-done-bytes-clause-serves : goal.returns-then-done-bytes-clause-serves
returns-then-done-bytes-clause-serves g c told =
    (written_next c.args.moment c.args.at c.turns.done c.args.bytes.now (g.C.Calls.past c.args.calls.now) (g.C.Calls.past c.turns.calls) (g.C.Calls.past c.write_at.new.self)
    c.turns.invariant.low (c.requires.before told) (c.requires.within told) (c.turns.invariant.told told) c.in-Ok.count (c.turns.done + c.in-Ok.count) c.in-Ok.ensures.count refl (c.in-Ok.ensures.noted told)).serves

pub returns-then-count-eq0-clause-serves : goal.returns-then-count-eq0-clause-serves
returns-then-count-eq0-clause-serves g c told =
    (written_next c.args.moment c.args.at c.turns.done c.args.bytes.now (g.C.Calls.past c.args.calls.now) (g.C.Calls.past c.turns.calls) (g.C.Calls.past c.write_at.new.self)
    c.turns.invariant.low (c.requires.before told) (c.requires.within told) (c.turns.invariant.told told) c.in-Ok.count (c.turns.done + c.in-Ok.count) c.in-Ok.ensures.count refl (c.in-Ok.ensures.noted told)).serves

pub returns-in-Err-Failed-clause-serves : goal.returns-in-Err-Failed-clause-serves
returns-in-Err-Failed-clause-serves g c told =
    (written_failed c.args.moment c.args.at c.turns.done c.args.bytes.now (g.C.Calls.past c.args.calls.now) (g.C.Calls.past c.turns.calls) (g.C.Calls.past c.write_at.new.self)
    c.turns.invariant.low (c.requires.before told) (c.requires.within told) (c.turns.invariant.told told) c.turns.done refl (c.in-Err-Failed.ensures.noted told)).serves

pub turns-preserved : goal.turns-preserved
turns-preserved g c = elim c.match-write_at.branch [
  | in-Ok+else-done-bytes+else-count-eq0 w ↦ record {
    low = omega (arith, w.done-is, w.in-Ok.ensures.count, length_rest c.args.bytes.now c.turns.done);
    told = λ told. written_next c.args.moment c.args.at c.turns.done c.args.bytes.now (g.C.Calls.past c.args.calls.now) (g.C.Calls.past c.turns.calls) (g.C.Calls.past c.write_at.new.self)
        c.turns.invariant.low (c.requires.before told) (c.requires.within told) (c.turns.invariant.told told) w.in-Ok.count c.match-write_at.done w.in-Ok.ensures.count w.done-is (w.in-Ok.ensures.noted told);
    none_failed = ap (λ (t : CallFaults). t.failed) (part_taken (length (rest_of c.args.bytes.now c.turns.done)) w.in-Ok.count (g.C.Calls.faults c.turns.calls) (g.C.Calls.faults c.write_at.new.self) w.if-count-eq0.false w.in-Ok.ensures.counted) ∙ c.turns.invariant.none_failed;
    interrupted =
        let same = ap (λ (t : CallFaults). t.interrupted) (part_taken (length (rest_of c.args.bytes.now c.turns.done)) w.in-Ok.count (g.C.Calls.faults c.turns.calls) (g.C.Calls.faults c.write_at.new.self) w.if-count-eq0.false w.in-Ok.ensures.counted) in
        omega (arith, same, c.turns.invariant.interrupted, w.done-is, w.if-count-eq0.false);
    first = λ calls more steady.
        let at_first = c.turns.invariant.first calls more steady in
        let long = length_rest c.args.bytes.now c.turns.done in
        let rest : length (rest_of c.args.bytes.now c.turns.done) ≡ length c.args.bytes.now = omega (arith, at_first.1) in
        let still = subst (λ (file : g.row.C.Denot). IsTrue (g.C.Calls.steady file (calls + 1) (length (rest_of c.args.bytes.now c.turns.done) + more))) (sym at_first.2)
        (subst (λ (n : ℕ). IsTrue (g.C.Calls.steady c.args.calls.now (calls + 1) (n + more))) (sym rest) steady) in
        let whole = (w.in-Ok.ensures.steady calls more still).0 in
        let count : w.in-Ok.count ≡ length (rest_of c.args.bytes.now c.turns.done) = cc in
        absurd (w.if-done-bytes.false (omega (arith, count, rest, at_first.1)));
  }
  | in-Err-Interrupted w ↦ record {
    low = omega (arith, w.done-is, c.turns.invariant.low);
    told = λ told. written_failed c.args.moment c.args.at c.turns.done c.args.bytes.now (g.C.Calls.past c.args.calls.now) (g.C.Calls.past c.turns.calls) (g.C.Calls.past c.write_at.new.self)
        c.turns.invariant.low (c.requires.before told) (c.requires.within told) (c.turns.invariant.told told) c.match-write_at.done w.done-is (w.in-Err-Interrupted.ensures.noted told);
    none_failed = ap (λ (t : CallFaults). t.failed) (part_interrupted w.in-Err-Interrupted.field-0 (g.C.Calls.faults c.turns.calls) (g.C.Calls.faults c.write_at.new.self) w.in-Err-Interrupted.field-0-is w.in-Err-Interrupted.ensures.counted) ∙ c.turns.invariant.none_failed;
    interrupted =
        let once = ap (λ (t : CallFaults). t.interrupted) (part_interrupted w.in-Err-Interrupted.field-0 (g.C.Calls.faults c.turns.calls) (g.C.Calls.faults c.write_at.new.self) w.in-Err-Interrupted.field-0-is w.in-Err-Interrupted.ensures.counted) in
        omega (arith, once, c.turns.invariant.interrupted, w.done-is, c.turns-test.true);
    first = λ calls more steady.
        let at_first = c.turns.invariant.first calls more steady in
        let long = length_rest c.args.bytes.now c.turns.done in
        let rest : length (rest_of c.args.bytes.now c.turns.done) ≡ length c.args.bytes.now = omega (arith, at_first.1) in
        let still = subst (λ (file : g.row.C.Denot). IsTrue (g.C.Calls.steady file (calls + 1) (length (rest_of c.args.bytes.now c.turns.done) + more))) (sym at_first.2)
        (subst (λ (n : ℕ). IsTrue (g.C.Calls.steady c.args.calls.now (calls + 1) (n + more))) (sym rest) steady) in
        let whole = (w.in-Err-Interrupted.ensures.steady calls more still).0 in
        absurd (cc);
  }
]
