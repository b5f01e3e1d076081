use Rattle.std.proofs.Common.{rules, ℤ}
use Rattle.taped_records.specs.declared.records.TapedRecords.{TapedRecords}
use Rattle.taped_records.specs.Long.{AsksLength}
use Rattle.mars_c.proofs.Answering.{done_to}
use Rattle.mars_c.proofs.long_bytes.mars_bytes_length.Goals as goal

pub returns : goal.returns
returns c =
    let Does : TapedRecords → TapedRecords → ℤ → Type 0 = λ was now status. AsksLength c.args.table.now c.args.key c.args.caller c.args.len.now c.bytes_length.new.len was now status in
    done_to Does _ _ _ c.deref_mut.result.now c.bytes_length.new.self c.bytes_length.result _ (search (rules, c.deref_mut.ensures.value)) (search rules) (search rules) c.bytes_length.ensures
