use Rattle.array_image.specs.Image.{row_of}
use Rattle.row_bytes.specs.Ballots.{ballot_of}
use Rattle.array_image.proofs.Deciding.{decided_carried, carried_decides}
use Rattle.array_image.proofs.laws.decided_together.Goals as goal

pub returns : goal.returns
returns c image g t h u lt lt' below below' so has =
    let shape = c.args.shape.now in
    let is = decided_carried shape.loggers shape.numbers (row_of shape image) g t so in
    (carried_decides shape.loggers shape.numbers (row_of shape image) (ballot_of t (row_of shape image g t)) is h u below below' has, is.voted h u below below' has, is.same h u below below' has)
