use Rattle.std.proofs.Common.{rules, ℤ}
use Rattle.taped_records.specs.declared.records.TapedRecords.{TapedRecords}
use Rattle.taped_records.specs.Cursor.{AsksNext}
use Rattle.mars_c.proofs.Answering.{done_to}
use Rattle.mars_c.proofs.seeking.mars_next.Goals as goal

pub returns : goal.returns
returns c =
    let Does : TapedRecords → TapedRecords → ℤ → Type 0 = λ was now status. AsksNext c.args.table.now c.args.from c.args.to c.args.caller c.args.key.now c.next.new.key c.args.room.now c.next.new.room c.args.len.now c.next.new.len was now status in
    done_to Does _ _ _ c.deref_mut.result.now c.next.new.self c.next.result _ (search (rules, c.deref_mut.ensures.value)) (search rules) (search rules) c.next.ensures
