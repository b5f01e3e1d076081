use Rattle.std.proofs.Common.{refl}
use Rattle.taped_records.proofs.records.TapedRecords.ask_get.Goals as goal

pub returns : goal.returns
returns c = record { inside = c.requires; does = c.get_long.ensures.reads refl; rows = refl; callers = refl; window = refl }
