use Rattle.std.proofs.Common.{◌≡◌, ◌≢◌, ◌-◌, ℕ, ◌<◌, Bool, List, length, take}
use Rattle.std.specs.Prelude.{slice_index}
use Rattle.pcm_media.specs.Images.{Content}
use Rattle.coordinator.specs.Commits.{cells_in}
use Rattle.write_back.specs.Entries.{cells_on}
use Rattle.write_back.specs.Waiting.{AreWaiting, data_with}
use Rattle.write_back.specs.Tied.{IsReady, IsTied}
use Rattle.eaw_device.proofs.committing.name_cells.Given as goal

abbrev pub invariant-loop-logger : goal.invariant-loop-logger
invariant-loop-logger l = record {
  ready : IsReady l.shape l.late;
  ballots : l.late.queue.ballots ≡ l.fn.late.queue.ballots;
  depth : l.late.queue.depth ≡ l.fn.late.queue.depth;
  parts : l.late.parts ≡ l.fn.late.parts;
  tied : (aside : ℕ → Bool) → IsTied l.shape l.fn.late aside → IsTied l.shape l.late aside;
  waiting : (now : Content) → AreWaiting l.shape l.fn.late.queue now → AreWaiting l.shape l.late.queue now;
  same : (image : List ℕ) → data_with l.shape l.late.queue image ≡ data_with l.shape l.fn.late.queue image;
  here : (g : ℕ) → g < l.logger → cells_in l.late.queue.cells g l.tid ≡ (let first = length (cells_on l.shape g (take l.offset l.log.entries.items)) in record { first = first; count = slice_index l.log.held g - first });
  others : (g t : ℕ) → g < 8 → t ≢ l.tid → cells_in l.late.queue.cells g t ≡ cells_in l.fn.late.queue.cells g t;
}
