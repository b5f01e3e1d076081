use Rattle.std.proofs.Common.{◌≡◌, ℕ, ◌<◌, true, false, ◌&&◌, List}
use Rattle.std.specs.Prelude.{nat_lt, slice_get}
use Rattle.std.specs.Option.{ForSome}
use Rattle.pcm_media.specs.Images.{Content}
use Rattle.array_shape.specs.NumberSet.{has}
use Rattle.coordinator.specs.Commits.{cells_in}
use Rattle.write_back.specs.Entries.{AreHeld}
use Rattle.write_back.specs.Shown.{entries_of}
use Rattle.eaw_face.specs.State.{listed, count_on}
use Rattle.write_back.specs.Waiting.{AreWaiting, data_with}
use Rattle.write_back.specs.Tied.{IsReady, IsTied}
use Rattle.eaw_device.specs.Logs.{IsHeld, ranges_logged}
use Rattle.eaw_device.proofs.Aside.{below}
use Rattle.eaw_device.proofs.committing.set_group_aside.Given as goal

abbrev pub invariant-loop-tid : goal.invariant-loop-tid
invariant-loop-tid l = record {
  ready : IsReady l.shape l.late;
  ballots : l.late.queue.ballots ≡ l.fn.late.queue.ballots;
  depth : l.late.queue.depth ≡ l.fn.late.queue.depth;
  first : (g t : ℕ) → g < l.shape.loggers → t < l.tid → has l.group.bits t ≡ true → (cells_in l.late.queue.cells g t).first ≡ 0;
  count : (g t : ℕ) → g < l.shape.loggers → t < l.tid → has l.group.bits t ≡ true → (cells_in l.late.queue.cells g t).count ≡ count_on l.shape g (listed (ranges_logged l.logs t));
  others : (g t : ℕ) → g < 8 → has l.group.bits t ≡ false → cells_in l.late.queue.cells g t ≡ cells_in l.fn.late.queue.cells g t;
  entries : 0 < l.fn.late.queue.depth → (t : ℕ) → t < l.tid → has l.group.bits t ≡ true → ForSome (slice_get l.logs t) (λ log. entries_of l.late.parts t ≡ log.entries.items);
  tied : IsTied l.shape l.late (λ t. nat_lt 0 l.late.queue.depth && below l.group.bits l.tid t);
  waiting : (now : Content) → AreWaiting l.shape l.fn.late.queue now → AreWaiting l.shape l.late.queue now;
  same : (image : List ℕ) → data_with l.shape l.late.queue image ≡ data_with l.shape l.fn.late.queue image;
  held : (image : List ℕ) → ((t : ℕ) → ForSome (slice_get l.logs t) (IsHeld l.shape image t)) → AreHeld l.shape image (entries_of l.fn.late.parts) → AreHeld l.shape image (entries_of l.late.parts);
}
