use Rattle.std.proofs.Common.{true, sym, ◌∙◌, ap, subst}
use Rattle.tape_media.specs.Steps.{device_of}
use Rattle.tape_media.specs.Tape.{Tape, view_of}
use Rattle.eaw_device.specs.Opens.{Attached, FindsData, KeepsData, AttachCause}
use Rattle.taped_array.specs.declared.open_array.OpenArray.{OpenArray}
use Rattle.taped_array.specs.Shown.{store_in}
use Rattle.taped_array.specs.Opens.{IsUnopened}
use Rattle.taped_array.proofs.Outcomes.{fault_told, why_unopened}
use Rattle.taped_array.proofs.opening.open_bytes.Goals as goal

pub returns-in-Err-clause-cause : goal.returns-in-Err-clause-cause
returns-in-Err-clause-cause c =
    let fault = c.in-Err.fault in
    let faults = c.in-Err.field-0-1.faults in
    let cause = subst (λ (tape : Tape). AttachCause true (view_of tape) faults fault) c.in-Ok.ensures c.in-Err.ensures.cause in
    let why = why_unopened c.args.depth faults c.args.bytes.now fault cause in
    rw c.opening_status.ensures (subst (IsUnopened c.args.depth c.args.bytes.now) (sym (fault_told fault)) why)

pub returns-in-Ok-new-clause-opened : goal.returns-in-Ok-new-clause-opened
returns-in-Ok-new-clause-opened c =
    let made : OpenArray = record { store = c.in-Ok-attach_late.store } in
    let found = c.in-Ok-attach_late.ensures in
    rw c.in-Ok-new.ensures.ok (record {
      attached = subst (λ (tape : Tape). Attached true (view_of tape) (store_in made)) c.in-Ok.ensures found.opens;
      found = subst (λ (tape : Tape). FindsData true (view_of tape) (store_in made)) c.in-Ok.ensures found.found;
      keeps = subst (λ (tape : Tape). KeepsData true (view_of tape) (store_in made).moment (store_in made).left_since) c.in-Ok.ensures found.keeps;
      device = found.opens.device ∙ ap (λ (tape : Tape). device_of tape.past) c.in-Ok.ensures;
      limit = found.limit;
      none_waits = found.none_waits;
    })
