use Rattle.std.proofs.Common.{ap}
use Rattle.write_back.specs.Entries.{parts_in}
use Rattle.write_back.proofs.Turning.{in_turn_same}
use Rattle.write_back.proofs.laws.others_do_not_matter.Goals as goal

pub returns-clause-parts : goal.returns-clause-parts
returns-clause-parts c image old new queue same =
    let shape = c.args.shape.now in
    in_turn_same shape (λ t. parts_in shape image t (new t)) (λ t. parts_in shape image t (old t)) queue (λ t lt has. ap (parts_in shape image t) (same t lt has))

pub returns-clause-entries : goal.returns-clause-entries
returns-clause-entries c old new queue same = in_turn_same c.args.shape.now new old queue same
