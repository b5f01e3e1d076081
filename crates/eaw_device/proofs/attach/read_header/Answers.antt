use Rattle.std.proofs.Common.{true, refl, ◌∙◌, [], sym, subst, arith}
use Rattle.std.proofs.lemmas.Result.{err_from_is_err_and}
use Rattle.mars_base.proofs.Costing.{costs_all}
use Rattle.pcm_media.proofs.Writing.{writes_none}
use Rattle.array_shape.specs.declared.shape.Shape.{Shape}
use Rattle.array_image.proofs.Calls.{none_yet, goes_on, hands_on}
use Rattle.row_bytes.specs.Header.{SaysShape}
use Rattle.eaw_device.proofs.Attaching.{header_cause, header_does, of_header}
use Rattle.eaw_device.proofs.attach.read_header.Goals as goal

pub returns-then-len-lt512 : goal.returns-then-len-lt512
returns-then-len-lt512 g c =
    let m = g.M.Media in
    record {
      shape = λ told. tt;
      sized = tt;
      cause = λ long. absurd (omega (arith, c.len.ensures, c.if-len-lt512.true));
      kept = λ ne. refl;
      fault = tt;
      costs = record { done = λ exact. tt; most = omega arith };
      does = writes_none m.tells [] (m.view c.args.media.now) tt;
    }

pub returns-in_err-read : goal.returns-in_err-read
returns-in_err-read g c =
    let m = g.M.Media in
    let read = c.in_err-read.ensures in
    let p = err_from_is_err_and c.from_residual.result c.from_residual.ensures.1 in
    rw (p.1, p.2) (record {
      shape = λ told. tt;
      sized = tt;
      cause = read.does.cause.failed;
      kept = λ ne. absurd (ne refl);
      fault = tt;
      costs = record { done = λ exact. tt; most = omega (arith, read.ticks.next) };
      does = hands_on m.tells [] [] _ _ _ (λ told i out. out) (none_yet m.tells [] (m.view c.args.media.now)) _ refl read.does;
    })

pub returns-in_err-read_array_header : goal.returns-in_err-read_array_header
returns-in_err-read_array_header g c =
    let m = g.M.Media in
    let old = m.view c.args.media.now in
    let new = m.view c.read.new.self in
    let read = c.in_ok-read.ensures in
    let wrong = c.in_err-read_array_header.field-0.0 in
    let does = goes_on m.tells [] [] _ _ _ (λ told i out. out) (none_yet m.tells [] old) read.does refl in
    let p = err_from_is_err_and c.from_residual-in_err-read_array_header.result c.from_residual-in_err-read_array_header.ensures.1 in
    rw (p.1, p.2) (record {
      shape = λ told. tt;
      sized = tt;
      cause = header_cause m.tells old new c.read.new.buf _ wrong (c.len-2.ensures ∙ read.does.size) read.bytes (omega (arith, c.len.ensures, c.if-len-lt512.false)) c.in_err-read_array_header.ensures.fault;
      kept = λ ne. read.does.cause.kept;
      fault = of_header wrong;
      costs = record { done = λ exact. tt; most = omega (arith, read.ticks.next) };
      does = header_does m.tells old new Shape wrong does;
    })

pub returns : goal.returns
returns g c =
    let m = g.M.Media in
    let read = c.in_ok-read.ensures in
    let done = c.in_ok-read_array_header.ensures in
    let does = goes_on m.tells [] [] _ _ _ (λ told i out. out) (none_yet m.tells [] (m.view c.args.media.now)) read.does refl in
    record {
      shape = λ told. subst (λ bytes. SaysShape bytes c.in_ok-read_array_header.field-0) (read.bytes told) done.shape;
      sized = sym read.does.size ∙ sym c.len-2.ensures ∙ done.length;
      cause = tt;
      kept = tt;
      fault = tt;
      costs = costs_all true _ _ _ _ (omega (arith, read.ticks.next, read.ticks.last));
      does = record { size = does.size; device = does.device; cause = record { later = does.cause.later; failed = tt; kept = does.cause.kept }; touched = does.touched; time = does.time };
    }
