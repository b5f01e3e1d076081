use Rattle.std.proofs.Common.{◌≡◌, take}
use Rattle.write_back.specs.Shown.{HasPlaces, entries_of, shape_of}
use Rattle.write_back.specs.Tied.{Forgets}
use Rattle.write_back.proofs.forgetting.forget_first.Given as goal

abbrev pub invariant-loop-at : goal.invariant-loop-at
invariant-loop-at l = record {
  shape : shape_of l.parts ≡ l.shape;
  places : HasPlaces l.fn.parts → HasPlaces l.parts;
  forgets : Forgets l.shape (take l.at l.ballots) (entries_of l.fn.parts) (entries_of l.parts);
}
