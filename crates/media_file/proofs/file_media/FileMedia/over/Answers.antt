use Rattle.std.proofs.Common.{◌≡◌, ◌+◌, Result, Err, sym, ◌∙◌, ap, arith}
use Rattle.std.specs.Prelude.{IsOk, is_ok}
use Rattle.std.proofs.lemmas.Bool.{false≢true}
use Rattle.media_file.proofs.FillLemmas.{lengthened}
use Rattle.media_file.proofs.file_media.FileMedia.over.Goals as goal

pub returns-clause-content : goal.returns-clause-content
returns-clause-content g c told =
    let past = g.C.Calls.past in
    lengthened c.args.least c.in_ok-size.size (past c.args.calls) (past c.measure.new.calls) (past c.resize.new.calls) (past c.write_zeros.new.calls) (past c.sync.new.calls)
    (c.requires told) (omega (arith, c.if-size-least.false)) (c.in_ok-size.ensures.noted told) (g.met.C.Calls.honest c.measure.new.calls told)
    (c.in_ok-resize.ensures.noted told) (c.in_ok-write_zeros.ensures.long told) (c.in_ok-write_zeros.ensures.zeros told) (c.in_ok-write_zeros.ensures.others told) (c.in_ok-sync.ensures.noted told)

-- a call that was sure to be done did not fail
not_failed : {T E : Type 0} (result : Result T E) (fault : E) → result ≡ Err fault → IsOk result → ⊥
not_failed result fault is ok = false≢true (sym (ap is_ok is) ∙ ok)

pub returns-in_err-size-clause-ready : goal.returns-in_err-size-clause-ready
returns-in_err-size-clause-ready g c calls more sure =
    absurd (not_failed c.measure.result _ c.in_err-size.was (c.measure.ensures.steady _ _ (sure 0 (omega arith))).0)

pub returns-in_err-resize-clause-ready : goal.returns-in_err-resize-clause-ready
returns-in_err-resize-clause-ready g c calls more sure =
    let measured = c.in_ok-size.ensures.steady _ _ (sure c.in_ok-size.size (omega (arith, c.if-size-least.false))) in
    absurd (not_failed c.resize.result _ c.in_err-resize.was (c.resize.ensures.steady _ _ measured.1).0)

pub returns-in_err-write_zeros-clause-ready : goal.returns-in_err-write_zeros-clause-ready
returns-in_err-write_zeros-clause-ready g c calls more sure =
    let measured = c.in_ok-size.ensures.steady _ _ (sure c.in_ok-size.size (omega (arith, c.if-size-least.false))) in
    let resized = c.in_ok-resize.ensures.steady _ _ measured.1 in
    absurd (not_failed c.write_zeros.result _ c.in_err-write_zeros.was (c.write_zeros.ensures.steady (calls + 1) more resized.1).0)

pub returns-in_err-sync-clause-ready : goal.returns-in_err-sync-clause-ready
returns-in_err-sync-clause-ready g c calls more sure =
    let measured = c.in_ok-size.ensures.steady _ _ (sure c.in_ok-size.size (omega (arith, c.if-size-least.false))) in
    let resized = c.in_ok-resize.ensures.steady _ _ measured.1 in
    let filled = c.in_ok-write_zeros.ensures.steady (calls + 1) more resized.1 in
    absurd (not_failed c.sync.result _ c.in_err-sync.was (c.sync.ensures.steady calls more filled.1).0)
