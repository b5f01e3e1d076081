use Rattle.snapshot_readers.proofs.feed.append_writes.Goals as goal

pub returns-clause-ok : goal.returns-clause-ok
returns-clause-ok c = (c.in_ok-writes.writes, c.in-Ok.ensures.pending, c.in_ok-writes.ensures)
