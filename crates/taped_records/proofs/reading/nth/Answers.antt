use Rattle.taped_records.proofs.Answering.{row_at}
use Rattle.taped_records.proofs.reading.nth.Goals as goal

pub returns : goal.returns
returns c = row_at _ _ _ c.get.ensures.lookup
