use Rattle.std.proofs.Common.{◌≡◌, ◌+◌, ◌-◌, ◌≤◌, IsTrue, length, take, drop, refl, sym, ◌∙◌, ap, subst, arith, length-take, length-drop}
use borrow.Rule.Slice.PartMut.{put_mid}
use Rattle.media_file.specs.declared.call_faults.CallFaults.{CallFaults}
use Rattle.media_file.proofs.CountLemmas.{part_taken, part_interrupted}
use Rattle.media_file.proofs.ReadLemmas.{read_none, read_next, read_failed, read_whole, length_kept}
use Rattle.media_file.proofs.reading.read_all.Goals.{in-Ok+else-done-buf+else-count-eq0, in-Err-Interrupted}
use Rattle.media_file.proofs.reading.read_all.Goals as goal

pub turns-init : goal.turns-init
turns-init g c = record { low = omega arith; told = λ told. read_none c.args.moment c.args.at c.args.buf.now (g.C.Calls.past c.args.calls.now) (c.requires.before told); none_failed = refl; interrupted = omega arith; first = λ calls more steady. (refl, refl, refl) }

pub returns-then-done-buf-clause-bytes : goal.returns-then-done-buf-clause-bytes
returns-then-done-buf-clause-bytes g c told =
    let buf = c.turns.buf in
    let part = c.read_at.new.buf in
    let low = c.turns.invariant.low in
    let old = g.C.Calls.past c.args.calls.now in
    let new = g.C.Calls.past c.read_at.new.self in
    let len : length part ≡ length buf - c.turns.done = c.read_at.auto.buf ∙ simp (length-take, length-drop) (omega arith) in
    let few : c.in-Ok.count ≤ length part = omega (arith, c.in-Ok.ensures.count, c.read_at.auto.buf) in
    let kept = length_kept c.turns.done buf part low len ∙ c.turns.auto.buf in
    read_whole c.args.moment c.args.at (put_mid c.turns.done (length buf - c.turns.done) buf part) (length c.args.buf.now) old new kept (c.requires.within told)
    (read_next c.turns.done buf part low c.args.moment c.args.at c.in-Ok.count (length c.args.buf.now) old (g.C.Calls.past c.turns.calls) new few (sym kept ∙ sym c.if-done-buf.true) (c.turns.invariant.told told)
    (c.in-Ok.ensures.noted told) (g.met.C.Calls.honest c.read_at.new.self told))

pub turns-preserved : goal.turns-preserved
turns-preserved g c =
    let buf = c.turns.buf in
    let part = c.read_at.new.buf in
    let low = c.turns.invariant.low in
    let old = g.C.Calls.past c.args.calls.now in
    let now = g.C.Calls.past c.turns.calls in
    let new = g.C.Calls.past c.read_at.new.self in
    let len : length part ≡ length buf - c.turns.done = c.read_at.auto.buf ∙ simp (length-take, length-drop) (omega arith) in
    let kept = length_kept c.turns.done buf part low len in
    elim c.match-read_at.branch [
      | in-Ok+else-done-buf+else-count-eq0 w ↦
          let few : w.in-Ok.count ≤ length part = omega (arith, w.in-Ok.ensures.count, c.read_at.auto.buf) in
          record {
            low = omega (arith, w.done-is, few, len, kept);
            told = λ told. read_next c.turns.done buf part low c.args.moment c.args.at w.in-Ok.count c.match-read_at.done old now new few w.done-is (c.turns.invariant.told told)
                (w.in-Ok.ensures.noted told) (g.met.C.Calls.honest c.read_at.new.self told);
            none_failed = ap (λ (t : CallFaults). t.failed) (part_taken (length (take (length buf - c.turns.done) (drop c.turns.done buf))) w.in-Ok.count (g.C.Calls.faults c.turns.calls) (g.C.Calls.faults c.read_at.new.self) w.if-count-eq0.false w.in-Ok.ensures.counted) ∙ c.turns.invariant.none_failed;
            interrupted =
                let same = ap (λ (t : CallFaults). t.interrupted) (part_taken (length (take (length buf - c.turns.done) (drop c.turns.done buf))) w.in-Ok.count (g.C.Calls.faults c.turns.calls) (g.C.Calls.faults c.read_at.new.self) w.if-count-eq0.false w.in-Ok.ensures.counted) in
                omega (arith, same, c.turns.invariant.interrupted, w.done-is, w.if-count-eq0.false);
            first = λ calls more steady.
                let at_first = c.turns.invariant.first calls more steady in
                let still = subst (λ (file : g.row.C.Denot). IsTrue (g.C.Calls.steady file (calls + 1) more)) (sym at_first.2) steady in
                let whole = (w.in-Ok.ensures.steady calls more still).0 in
                let count : w.in-Ok.count ≡ length (take (length buf - c.turns.done) (drop c.turns.done buf)) = cc in
                absurd (w.if-done-buf.false (omega (arith, count, c.read_at.auto.buf, len, kept)));
          }
      | in-Err-Interrupted w ↦ record {
        low = omega (arith, w.done-is, kept);
        told = λ told. read_failed c.turns.done buf part low c.args.moment c.args.at c.match-read_at.done old now new w.done-is (c.turns.invariant.told told) (w.in-Err-Interrupted.ensures.noted told);
        none_failed = ap (λ (t : CallFaults). t.failed) (part_interrupted w.in-Err-Interrupted.field-0 (g.C.Calls.faults c.turns.calls) (g.C.Calls.faults c.read_at.new.self) w.in-Err-Interrupted.field-0-is w.in-Err-Interrupted.ensures.counted) ∙ c.turns.invariant.none_failed;
        interrupted =
            let once = ap (λ (t : CallFaults). t.interrupted) (part_interrupted w.in-Err-Interrupted.field-0 (g.C.Calls.faults c.turns.calls) (g.C.Calls.faults c.read_at.new.self) w.in-Err-Interrupted.field-0-is w.in-Err-Interrupted.ensures.counted) in
            omega (arith, once, c.turns.invariant.interrupted, w.done-is, c.turns-test.true);
        first = λ calls more steady.
            let at_first = c.turns.invariant.first calls more steady in
            let still = subst (λ (file : g.row.C.Denot). IsTrue (g.C.Calls.steady file (calls + 1) more)) (sym at_first.2) steady in
            let whole = (w.in-Err-Interrupted.ensures.steady calls more still).0 in
            absurd (cc);
      }
    ]
