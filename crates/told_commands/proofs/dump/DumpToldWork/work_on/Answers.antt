use Rattle.std.proofs.Common.{inl, Ok, List, ap, ◌∙◌}
use Rattle.history.specs.Rows.{NamedRows, records_in}
use Rattle.told_commands.specs.Dump.{records_text}
use Rattle.told_commands.proofs.dump.DumpToldWork.work_on.Goals as goal

pub returns-in-Ok-dump_lines-clause-leaves : goal.returns-in-Ok-dump_lines-clause-leaves
returns-in-Ok-dump_lines-clause-leaves g c =
    let s = g.S.EawStore in
    let index = g.I.KeyIndex.index in
    let records = rw c.in-Ok.is at c.read_records-read.ensures.records in
    inl (record {
      sound = rw c.in-Ok.is at c.read_records-read.ensures.sound;
      told = λ told. ap Ok (c.in-Ok-dump_lines.ensures ∙ ap (λ (tables : List NamedRows). records_text (records_in tables)) c.deref.ensures.value ∙ ap records_text (records told));
      left = rw c.in-Ok.is at c.read_records-read.ensures.left;
      now = λ told living image has. g.met.S.EawStore.only_now c.read_records-read.result.1 image told living has;
    })
