use Rattle.mars.proofs.ending.run_told.Goals as goal

pub returns-clause-counts : goal.returns-clause-counts
returns-clause-counts g c = c.run-status.ensures.counts

pub returns-clause-input : goal.returns-clause-input
returns-clause-input g c = c.run-status.ensures.input

pub returns-clause-ran : goal.returns-clause-ran
returns-clause-ran g c = c.run-status.ensures.ran
