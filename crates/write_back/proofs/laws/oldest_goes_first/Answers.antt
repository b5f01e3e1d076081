use Rattle.std.proofs.Common.{ap, sym, ◌++◌, List}
use Rattle.array_shape.specs.Logged.{Part}
use Rattle.write_back.specs.Entries.{parts_in}
use Rattle.write_back.specs.Turns.{group_parts}
use Rattle.write_back.proofs.Turning.{in_turn_same}
use Rattle.write_back.proofs.laws.oldest_goes_first.Goals as goal

pub returns : goal.returns
returns c image old new oldest queue same =
    let shape = c.args.shape.now in
    ap (λ (l : List Part). group_parts shape image old oldest.group ++ l)
    (in_turn_same shape (λ t. parts_in shape image t (old t)) (λ t. parts_in shape image t (new t)) queue (λ t lt has. ap (parts_in shape image t) (sym (same t lt has))))
