use Rattle.std.proofs.Common.{rules, ℤ}
use Rattle.history.specs.declared.call.Call.TheVariants.{Table}
use Rattle.history.specs.declared.call.TableCall.TheVariants.{Put}
use Rattle.taped_records.specs.declared.records.TapedRecords.{TapedRecords}
use Rattle.taped_records.specs.Calls.{Calls, IsBadRecord}
use Rattle.taped_records.specs.Told.{Nothing, same_rows}
use Rattle.mars_c.proofs.Answering.{done_to}
use Rattle.mars_c.proofs.calls.mars_put.Goals as goal

pub returns : goal.returns
returns c =
    let Does : TapedRecords → TapedRecords → ℤ → Type 0 = λ was now status. Calls same_rows (IsBadRecord c.args.table.now c.args.value.now) Nothing c.args.caller (Table (Put c.args.table.now c.args.key c.args.value.now)) was now status in
    done_to Does _ _ _ c.deref_mut.result.now c.put.new.self c.put.result _ (search (rules, c.deref_mut.ensures.value)) (search rules) (search rules) c.put.ensures
