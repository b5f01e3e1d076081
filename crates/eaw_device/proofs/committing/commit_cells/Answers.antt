use Rattle.std.proofs.Common.{ℕ, ◌&&◌, List, sym, ◌∙◌, ap, subst, arith}
use Rattle.std.specs.Prelude.{nat_lt}
use Rattle.array_shape.specs.NumberSet.{has}
use Rattle.coordinator.specs.declared.cells.Cells.{Cells}
use Rattle.coordinator.specs.Commits.{IsMaskOf, takes_part}
use Rattle.write_back.specs.Shown.{entries_of}
use Rattle.write_back.specs.Tied.{IsTied}
use Rattle.eaw_device.proofs.Grouping.{are_there, are_good, has_named, some_number, takes_some}
use Rattle.eaw_device.proofs.committing.commit_cells.Goals as goal

pub commit-requires-clause-tied : goal.commit-requires-clause-tied
commit-requires-clause-tied g c =
    let late = c.args.late.now in
    subst (λ (k : ℕ). IsTied c.args.shape.now late (λ t. nat_lt 0 late.queue.depth && has k t)) (sym c.ballot_for-ballot.ensures.group) c.requires.tied

pub commit-requires-clause-named : goal.commit-requires-clause-named
commit-requires-clause-named g c = λ may.
    let shape = c.args.shape.now in
    let late = c.args.late.now in
    let ballot = c.ballot_for-ballot.result in
    let mask = subst (λ (cells : List Cells). IsMaskOf shape.loggers (takes_part shape cells c.args.group) ballot.mask) c.cells.ensures c.ballot_for-ballot.ensures.mask in
    has_named shape c.args.group late.queue.cells ballot c.ballot_for-ballot.ensures.group mask (entries_of late.parts) (c.requires.entries may)

pub commit-requires-clause-there : goal.commit-requires-clause-there
commit-requires-clause-there g c =
    let shape = c.args.shape.now in
    let ballot = c.ballot_for-ballot.result in
    let mask = subst (λ (cells : List Cells). IsMaskOf shape.loggers (takes_part shape cells c.args.group) ballot.mask) c.cells.ensures c.ballot_for-ballot.ensures.mask in
    are_there shape c.args.group c.args.late.now.queue.cells ballot c.ballot_for-ballot.ensures.group mask c.requires.group c.requires.there

pub commit-requires-clause-good : goal.commit-requires-clause-good
commit-requires-clause-good g c = λ told.
    let shape = c.args.shape.now in
    let ballot = c.ballot_for-ballot.result in
    let mask = subst (λ (cells : List Cells). IsMaskOf shape.loggers (takes_part shape cells c.args.group) ballot.mask) c.cells.ensures c.ballot_for-ballot.ensures.mask in
    are_good shape c.args.group c.args.late.now.queue.cells ballot c.ballot_for-ballot.ensures.group mask (g.M.Media.view c.args.media.now).content.bytes (c.requires.good told)

pub commit-requires-clause-some : goal.commit-requires-clause-some
commit-requires-clause-some g c =
    let shape = c.args.shape.now in
    let ballot = c.ballot_for-ballot.result in
    let mask = subst (λ (cells : List Cells). IsMaskOf shape.loggers (takes_part shape cells c.args.group) ballot.mask) c.cells.ensures c.ballot_for-ballot.ensures.mask in
    omega (arith, takes_some shape c.args.group c.args.late.now.queue.cells ballot c.ballot_for-ballot.ensures.group mask c.requires.some)

pub commit-requires-clause-numbers : goal.commit-requires-clause-numbers
commit-requires-clause-numbers g c =
    let shape = c.args.shape.now in
    let ballot = c.ballot_for-ballot.result in
    let mask = subst (λ (cells : List Cells). IsMaskOf shape.loggers (takes_part shape cells c.args.group) ballot.mask) c.cells.ensures c.ballot_for-ballot.ensures.mask in
    some_number shape c.args.group c.args.late.now.queue.cells ballot c.ballot_for-ballot.ensures.group mask c.requires.some

pub commit-requires-clause-apart : goal.commit-requires-clause-apart
commit-requires-clause-apart g c = λ t so. c.requires.apart t (ap (λ (k : ℕ). has k t) (sym c.ballot_for-ballot.ensures.group) ∙ so)

pub returns-clause-does : goal.returns-clause-does
returns-clause-does g c =
    let shape = c.args.shape.now in
    let ballot = c.ballot_for-ballot.result in
    record {
      ballot = ballot;
      group_is = c.ballot_for-ballot.ensures.group;
      mask_is = subst (λ (cells : List Cells). IsMaskOf shape.loggers (takes_part shape cells c.args.group) ballot.mask) c.cells.ensures c.ballot_for-ballot.ensures.mask;
      does = c.commit.ensures.does;
    }

pub returns-clause-waits : goal.returns-clause-waits
returns-clause-waits g c = c.commit.ensures.waits
