use Rattle.std.proofs.Common.{refl}
use Rattle.taped_records.proofs.records.TapedRecords.ask_del.Goals as goal

pub returns : goal.returns
returns c = record { inside = c.requires; does = c.del_long.ensures.removes refl; rows = refl; callers = refl; window = refl }
