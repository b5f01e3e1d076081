use Rattle.std.proofs.Common.{refl, true, ap, subst, ◌∙◌, rules}
use Rattle.tape_media.specs.Steps.{device_of}
use Rattle.tape_media.specs.Tape.{Tape, view_of}
use Rattle.btree_pages.specs.Index.{tree}
use Rattle.open_records.specs.Opens.{BeginsOn, KeepsRecords, IsUnopened}
use Rattle.taped_records.specs.Opens.{in_memory}
use Rattle.taped_records.specs.Shown.{core_in}
use Rattle.taped_records.proofs.Unopened.{told}
use Rattle.taped_records.proofs.records.TapedRecords.open.Goals as goal

pub returns-in-Err-clause-cause : goal.returns-in-Err-clause-cause
returns-in-Err-clause-cause c =
    let is = told tree c.args.callers (view_of c.in-Ok.media) c.in-Err.field-0-1.faults c.in-Err.fault c.in-Err.ensures.cause in
    rw c.in_memory.ensures (record { cause = subst (λ (tape : Tape). IsUnopened true tree c.args.callers (view_of tape) 0 (in_memory c.in-Err.fault)) c.in-Ok.ensures is.0; told = is.1 })

pub returns-in-Ok-new-clause-opened : goal.returns-in-Ok-new-clause-opened
returns-in-Ok-new-clause-opened c =
    let made = c.new-3.result in
    rw c.in-Ok-new.ensures.ok (record {
      begins = subst (λ (tape : Tape). BeginsOn tree c.args.depth (view_of tape) (core_in made)) c.in-Ok.ensures (rw c.new-3.ensures.core (c.in-Ok-open.ensures.array refl));
      keeps = subst (λ (tape : Tape). KeepsRecords true (view_of tape) (core_in made).moment (core_in made).left_since) c.in-Ok.ensures (rw c.new-3.ensures.core c.in-Ok-open.ensures.time);
      device = rw c.new-3.ensures.core (c.in-Ok-open.ensures.device ∙ ap (λ (tape : Tape). device_of tape.past) c.in-Ok.ensures);
      callers = c.new-3.ensures.callers;
      depth = rw c.new-3.ensures.core c.in-Ok-open.ensures.depth;
      rows = search (rules, c.new-3.ensures.rows, c.new-2.ensures);
    })
