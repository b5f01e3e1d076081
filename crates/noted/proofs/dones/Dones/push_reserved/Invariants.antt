use Rattle.noted.proofs.dones.Dones.push_reserved.Given as goal

abbrev pub ghost-then : goal.ghost-then
ghost-then g a = record { caller = a._from.now.0; calls = a._from.now.1.now.said; at = a._from.now.2; last = a._from.now.3 }
