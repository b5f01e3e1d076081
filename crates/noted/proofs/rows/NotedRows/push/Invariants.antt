use Rattle.noted.proofs.rows.NotedRows.push.Given as goal

abbrev pub ghost-then : goal.ghost-then
ghost-then g a = (a._from.now.0, a._from.now.1.now)
