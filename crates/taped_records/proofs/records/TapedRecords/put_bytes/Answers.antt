use Rattle.std.proofs.Common.{refl, inr}
use Rattle.taped_records.proofs.Reasons.{reason}
use Rattle.taped_records.proofs.records.TapedRecords.put_bytes.Goals as goal

pub returns-in-Err : goal.returns-in-Err
returns-in-Err c = inr (reason c.args.table.now c.args.key c.args.caller c.args.self.now c.in-Err.status c.in-Err.ensures.err, refl, tt)
