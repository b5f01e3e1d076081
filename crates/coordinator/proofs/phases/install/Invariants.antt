use Rattle.std.proofs.Common.{◌≡◌, ℕ, ◌*◌, IsTrue}
use Rattle.mars_base.proofs.Costing.{CostsSoFar}
use Rattle.array_shape.specs.Logged.{applied, places_of}
use Rattle.array_image.specs.Image.{data_of}
use Rattle.array_image.specs.Joined.{joined}
use Rattle.array_image.proofs.Calls.{SoFar}
use Rattle.coordinator.specs.Commits.{number_parts, parts_named}
use Rattle.coordinator.specs.Costs.{total, parts_at}
use Rattle.coordinator.proofs.Members.{AreLeft}
use Rattle.coordinator.proofs.phases.install.Given as goal

abbrev pub invariant-loop-tid : goal.invariant-loop-tid
invariant-loop-tid g l =
    let m = g.M.Media in
    let base = (m.view l.fn.media).content.bytes in
    (at : ℕ) × record {
      left : AreLeft l.table.shape.now.numbers l.ballot.group at l.tid-iterator;
      costs : CostsSoFar m.tells (2 * total (parts_at l.table.shape.now l.ballot l.table.cells.now) at) (m.view l.fn.media).moment (m.view l.media).moment;
      does : SoFar m.tells (places_of l.table.shape.now (parts_named l.table.shape.now base l.ballot l.table.cells.now)) (m.view l.fn.media) (m.view l.media);
      applied : IsTrue m.tells → data_of l.table.shape.now (m.view l.media).content.bytes ≡ applied (joined (number_parts l.table.shape.now base l.ballot l.table.cells.now) 0 at) (data_of l.table.shape.now base);
    }
