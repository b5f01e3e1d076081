use Rattle.std.proofs.Common.{refl, ◌∙◌, sym, ap, subst, ℕ, List, arith}
use Rattle.std.specs.Prelude.{None}
use Rattle.std.proofs.lemmas.Result.{err_from_is_err_and}
use Rattle.pcm_media.proofs.Left.{same_bytes}
use Rattle.row_bytes.specs.Header.{SaysShape}
use Rattle.array_image.specs.Decided.{settled_data}
use Rattle.device_recovery.specs.Recovered.{rows_good, HasNoVote}
use Rattle.eaw_device.specs.Opens.{header_of, opening_calls}
use Rattle.eaw_device.specs.Attaching.{IsOfHeader, IsOfRecovery}
use Rattle.row_bytes.proofs.OneShape.{one_shape}
use Rattle.eaw_device.proofs.OpeningLemmas.{reading_keeps, keeps_then}
use Rattle.eaw_device.proofs.Attaching.{cause_on, leaves_on, reading_leaves}
use Rattle.eaw_device.proofs.opening.open_array.Goals as goal

pub settle-requires-clause-header : goal.settle-requires-clause-header
settle-requires-clause-header g c told =
    subst (λ b. SaysShape (header_of b) c.in_ok-shape.shape) (sym (same_bytes _ _ (c.read_header.ensures.does.touched told))) (c.in_ok-shape.ensures.shape told)

pub returns-in_err-shape : goal.returns-in_err-shape
returns-in_err-shape g c =
    let m = g.M.Media in
    let old = m.view c.args.media.now in
    let new = m.view c.read_header.new.media in
    let fault = c.in_err-shape.field-0.0 in
    let read = c.in_err-shape.ensures in
    let p = err_from_is_err_and c.from_residual.result c.from_residual.ensures.1 in
    rw (p.1, p.2) (record {
      settled = tt;
      free = tt;
      room = tt;
      late = tt;
      cause = read.cause;
      unwritten = reading_leaves m.tells old new fault read.does.touched;
      keeps = reading_keeps m.tells old new _ read.does;
      later = read.does.cause.later;
      kept = read.kept;
      within = λ told other says none. omega (arith, read.costs.most);
      early = λ is. absurd (subst IsOfHeader is read.fault);
    })

pub returns-in-Ok-settle-clause-settled : goal.returns-in-Ok-settle-clause-settled
returns-in-Ok-settle-clause-settled g c =
    let shape = c.in_ok-shape.shape in
    let read = c.read_header.ensures.does in
    let done = c.in-Ok-settle.ensures in
    record {
      shape_is = c.in_ok-shape.ensures.shape;
      sized = c.in_ok-shape.ensures.sized;
      size = done.size ∙ read.size;
      device = done.device ∙ read.device;
      good = λ told. subst (λ b. rows_good shape b None) (same_bytes _ _ (read.touched told)) (done.good told);
      bytes = λ told. done.settled told ∙ ap (λ (b : List ℕ). settled_data shape b) (same_bytes _ _ (read.touched told));
      clean = done.clean;
      header = done.header;
      faults = done.faults ∙ c.in_ok-shape.ensures.does.cause.kept;
      calls = λ told none. let settled = (done.costs told (subst (λ b. HasNoVote shape b) (sym (same_bytes _ _ (read.touched told))) none)).done refl in let one = c.in_ok-shape.ensures.costs.done refl in omega (arith, settled, one);
    }

pub returns-in-Ok-settle-clause-keeps : goal.returns-in-Ok-settle-clause-keeps
returns-in-Ok-settle-clause-keeps g c =
    let m = g.M.Media in
    let read = c.read_header.ensures.does in
    keeps_then m.tells (m.view c.args.media.now) (m.view c.read_header.new.media) (m.view c.settle.new.media) read.touched (reading_keeps m.tells _ _ _ read) c.settle.ensures.keeps

pub returns-in-Err-settle-clause-keeps : goal.returns-in-Err-settle-clause-keeps
returns-in-Err-settle-clause-keeps g c =
    let m = g.M.Media in
    let read = c.read_header.ensures.does in
    keeps_then m.tells (m.view c.args.media.now) (m.view c.read_header.new.media) (m.view c.settle.new.media) read.touched (reading_keeps m.tells _ _ _ read) c.settle.ensures.keeps

pub returns-in-Err-settle-clause-cause : goal.returns-in-Err-settle-clause-cause
returns-in-Err-settle-clause-cause g c =
    let m = g.M.Media in
    let read = c.read_header.ensures.does in
    cause_on m.tells (m.view c.args.media.now) (m.view c.read_header.new.media) _ c.in-Err-settle.fault read.size read.touched read.cause.later c.in-Err-settle.ensures.cause

pub returns-in-Err-settle-clause-unwritten : goal.returns-in-Err-settle-clause-unwritten
returns-in-Err-settle-clause-unwritten g c =
    let m = g.M.Media in
    leaves_on m.tells (m.view c.args.media.now) (m.view c.read_header.new.media) (m.view c.settle.new.media) c.in-Err-settle.fault c.read_header.ensures.does.size c.read_header.ensures.does.touched c.in-Err-settle.ensures.unwritten

pub returns-in-Err-settle-clause-within : goal.returns-in-Err-settle-clause-within
returns-in-Err-settle-clause-within g c told other says none =
    let m = g.M.Media in
    let old = (m.view c.args.media.now).content.bytes in
    let shape = c.in_ok-shape.shape in
    let is = one_shape (header_of old) other shape says (c.in_ok-shape.ensures.shape told) in
    let quiet = subst (λ b. HasNoVote shape b) (sym (same_bytes _ _ (c.read_header.ensures.does.touched told))) (subst (λ s. HasNoVote s old) is none) in
    let settled = (c.settle.ensures.costs told quiet).most in
    let one = c.in_ok-shape.ensures.costs.done refl in
    omega (arith, settled, one, ap opening_calls is)

pub returns-in-Err : goal.returns-in-Err
returns-in-Err g c =
    let m = g.M.Media in
    let read = c.in_ok-shape.ensures in
    record {
      settled = tt;
      free = tt;
      room = tt;
      late = tt;
      cause = λ told. (c.in_ok-shape.shape, read.shape told, read.sized);
      unwritten = read.does.touched;
      keeps = reading_keeps m.tells (m.view c.args.media.now) (m.view c.read_header.new.media) _ read.does;
      later = read.does.cause.later;
      kept = λ ne. read.does.cause.kept;
      within = λ told other says none. omega (arith, read.costs.most);
      early = λ is. read.costs.done refl;
    }

pub returns-in-Ok-settle-clause-free : goal.returns-in-Ok-settle-clause-free
returns-in-Ok-settle-clause-free g c = c.in-Ok.ensures.free

pub returns-in-Ok-settle-clause-cause : goal.returns-in-Ok-settle-clause-cause
returns-in-Ok-settle-clause-cause g c = tt

pub returns-in-Ok-settle-clause-unwritten : goal.returns-in-Ok-settle-clause-unwritten
returns-in-Ok-settle-clause-unwritten g c = tt

pub returns-in-Ok-settle-clause-later : goal.returns-in-Ok-settle-clause-later
returns-in-Ok-settle-clause-later g c = omega (arith, c.read_header.ensures.does.cause.later, c.settle.ensures.later)

pub returns-in-Ok-settle-clause-kept : goal.returns-in-Ok-settle-clause-kept
returns-in-Ok-settle-clause-kept g c = tt

pub returns-in-Ok-settle-clause-within : goal.returns-in-Ok-settle-clause-within
returns-in-Ok-settle-clause-within g c = tt

pub returns-in-Ok-settle-clause-early : goal.returns-in-Ok-settle-clause-early
returns-in-Ok-settle-clause-early g c = tt

pub returns-in-Err-settle-clause-settled : goal.returns-in-Err-settle-clause-settled
returns-in-Err-settle-clause-settled g c = tt

pub returns-in-Err-settle-clause-free : goal.returns-in-Err-settle-clause-free
returns-in-Err-settle-clause-free g c = tt

pub returns-in-Err-settle-clause-later : goal.returns-in-Err-settle-clause-later
returns-in-Err-settle-clause-later g c = omega (arith, c.read_header.ensures.does.cause.later, c.settle.ensures.later)

pub returns-in-Err-settle-clause-kept : goal.returns-in-Err-settle-clause-kept
returns-in-Err-settle-clause-kept g c = λ ne. c.in-Err-settle.ensures.kept ne ∙ c.in_ok-shape.ensures.does.cause.kept

pub returns-in-Err-settle-clause-early : goal.returns-in-Err-settle-clause-early
returns-in-Err-settle-clause-early g c = λ is. absurd (subst IsOfRecovery is c.in-Err-settle.ensures.fault)

pub returns-in-Ok-settle-clause-room : goal.returns-in-Ok-settle-clause-room
returns-in-Ok-settle-clause-room g c = c.in-Ok.ensures.room

pub returns-in-Err-settle-clause-room : goal.returns-in-Err-settle-clause-room
returns-in-Err-settle-clause-room g c = tt

pub returns-in-Ok-settle-clause-late : goal.returns-in-Ok-settle-clause-late
returns-in-Ok-settle-clause-late g c = c.in-Ok.ensures.late

pub returns-in-Err-settle-clause-late : goal.returns-in-Err-settle-clause-late
returns-in-Err-settle-clause-late g c = tt
