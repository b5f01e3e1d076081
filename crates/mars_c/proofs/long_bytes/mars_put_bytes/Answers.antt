use Rattle.std.proofs.Common.{rules, ℤ}
use Rattle.taped_records.specs.declared.records.TapedRecords.{TapedRecords}
use Rattle.taped_records.specs.Long.{AsksToPut}
use Rattle.mars_c.proofs.Answering.{done_to}
use Rattle.mars_c.proofs.long_bytes.mars_put_bytes.Goals as goal

pub returns : goal.returns
returns c =
    let Does : TapedRecords → TapedRecords → ℤ → Type 0 = λ was now status. AsksToPut c.args.table.now c.args.key c.args.bytes.now c.args.caller was now status in
    done_to Does _ _ _ c.deref_mut.result.now c.put_bytes.new.self c.put_bytes.result _ (search (rules, c.deref_mut.ensures.value)) (search rules) (search rules) c.put_bytes.ensures
