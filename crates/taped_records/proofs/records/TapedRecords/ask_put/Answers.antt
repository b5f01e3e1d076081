use Rattle.std.proofs.Common.{refl}
use Rattle.taped_records.proofs.records.TapedRecords.ask_put.Goals as goal

pub returns : goal.returns
returns c = record { inside = c.requires; does = c.put_long.ensures.puts refl; rows = refl; callers = refl; window = refl }
