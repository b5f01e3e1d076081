use Rattle.taped_records.proofs.records.TapedRecords.done_up_to.Goals as goal

pub returns : goal.returns
returns c = record { is = c.done_up_to.ensures.moment; durable = c.done_up_to.ensures.safe }
