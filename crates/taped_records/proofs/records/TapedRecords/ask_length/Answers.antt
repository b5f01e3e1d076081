use Rattle.std.proofs.Common.{refl}
use Rattle.taped_records.proofs.records.TapedRecords.ask_length.Goals as goal

pub returns : goal.returns
returns c = record { inside = c.requires; does = c.length_long.ensures.reads refl; rows = refl; callers = refl; window = refl }
