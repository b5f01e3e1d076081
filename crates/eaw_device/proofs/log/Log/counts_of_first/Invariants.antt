use Rattle.std.proofs.Common.{◌≡◌, ℕ, ◌<◌, length, take}
use Rattle.std.specs.Prelude.{slice_index}
use Rattle.write_back.specs.Entries.{cells_on}
use Rattle.eaw_device.proofs.log.Log.counts_of_first.Given as goal

abbrev pub invariant-loop-entry : goal.invariant-loop-entry
invariant-loop-entry l = record {
  long : length l.counts ≡ 8;
  counts : (g : ℕ) → g < l.shape.loggers → slice_index l.counts g ≡ length (cells_on l.shape g (take l.entry-index l.self.entries.items));
}
