use Rattle.std.proofs.Common.{ap, ◌∙◌, ◌++◌, List}
use Rattle.array_shape.specs.Logged.{Part}
use Rattle.write_back.specs.Entries.{parts_in}
use Rattle.write_back.specs.Turns.{group_parts}
use Rattle.write_back.proofs.Turning.{in_turn_same, in_turn-push}
use Rattle.write_back.proofs.laws.newest_comes_last.Goals as goal

pub returns : goal.returns
returns c image old new queue newest same =
    let shape = c.args.shape.now in
    in_turn-push shape (λ t. parts_in shape image t (new t)) queue newest
    ∙ ap (λ (l : List Part). l ++ group_parts shape image new newest.group)
    (in_turn_same shape (λ t. parts_in shape image t (new t)) (λ t. parts_in shape image t (old t)) queue (λ t lt has. ap (parts_in shape image t) (same t lt has)))
