use Rattle.std.proofs.Common.{false, refl, ◌∙◌}
use Rattle.std.proofs.lemmas.Result.{on_ok_weaker}
use Rattle.coordinator.specs.Commits.{parts_named}
use Rattle.coordinator.proofs.Applying.{parts_placed}
use Rattle.coordinator.proofs.Committing.{WritesBack, Installed, at_last, handed, in_clearing, in_install, succeeded}
use Rattle.coordinator.proofs.RowBytes.{votes_set}
use Rattle.coordinator.proofs.commits.write_back.Given.{Over}
use Rattle.coordinator.proofs.commits.write_back.Goals as goal

module _ (g : Over) (c : goal.After-from_residual g) where
  failed : WritesBack g.M.Media.tells c.args.table.now.shape.now c.args.ballot c.args.table.now.cells.now c.requires.there (g.M.Media.view c.args.media.now) (λ told. g.met.M.Media.long c.args.media.now told ∙ c.requires.size) c.requires.good (g.M.Media.view c.install.new.media) c.from_residual.result
  failed = in_install g.M.Media.tells c.args.table.now.shape.now c.args.ballot c.args.table.now.cells.now c.requires.there (g.M.Media.view c.args.media.now) (λ told. g.met.M.Media.long c.args.media.now told ∙ c.requires.size) c.requires.good c.from_residual.result (g.M.Media.view c.install.new.media) (handed c.from_residual.result c.from_residual.ensures.0 g.M.Media.tells _ _ _ c.in_err-install.ensures.does)

pub returns-in_err-install-clause-any_moment : goal.returns-in_err-install-clause-any_moment
returns-in_err-install-clause-any_moment g c = (failed g c).time

pub returns-in_err-install-clause-cells : goal.returns-in_err-install-clause-cells
returns-in_err-install-clause-cells g c = (failed g c).kept

pub returns-in_err-install-clause-does : goal.returns-in_err-install-clause-does
returns-in_err-install-clause-does g c = (failed g c).writes

module _ (g : Over) (c : goal.After-set_votes g) where
  installed : Installed g.M.Media.tells c.args.table.now.shape.now c.args.ballot c.args.table.now.cells.now (g.M.Media.view c.args.media.now) (g.M.Media.view c.install.new.media)
  installed = record { does = succeeded g.M.Media.tells _ _ _ c.in_ok-install.ensures.does refl; applied = c.in_ok-install.ensures.applied }

  ended : WritesBack g.M.Media.tells c.args.table.now.shape.now c.args.ballot c.args.table.now.cells.now c.requires.there (g.M.Media.view c.args.media.now) (λ told. g.met.M.Media.long c.args.media.now told ∙ c.requires.size) c.requires.good (g.M.Media.view c.set_votes.new.media) c.set_votes.result
  ended = in_clearing g.M.Media.tells c.args.table.now.shape.now c.args.ballot c.args.table.now.cells.now c.requires.there (g.M.Media.view c.args.media.now) (λ told. g.met.M.Media.long c.args.media.now told ∙ c.requires.size) c.requires.good (g.M.Media.view c.install.new.media) installed c.set_votes.result (g.M.Media.view c.set_votes.new.media) c.set_votes.ensures.does

pub returns-clause-any_moment : goal.returns-clause-any_moment
returns-clause-any_moment g c = (ended g c).time

pub returns-clause-left : goal.returns-clause-left
returns-clause-left g c told queue oldest b names rest =
    on_ok_weaker c.set_votes.result (λ voted. at_last g.M.Media.tells c.args.table.now.shape.now c.args.ballot c.args.table.now.cells.now c.requires.there (g.M.Media.view c.args.media.now) (λ so. g.met.M.Media.long c.args.media.now so ∙ c.requires.size) c.requires.good (g.M.Media.view c.install.new.media) (installed g c) told queue oldest b names rest (g.M.Media.view c.set_votes.new.media) (c.set_votes.ensures.does.touched told) voted) (c.set_votes.ensures.votes told)

pub returns-clause-cells : goal.returns-clause-cells
returns-clause-cells g c = (ended g c).kept

pub returns-clause-does : goal.returns-clause-does
returns-clause-does g c = (ended g c).writes

pub returns-clause-rows : goal.returns-clause-rows
returns-clause-rows g c told =
    let shape = c.args.table.now.shape.now in
    let base = (g.M.Media.view c.args.media.now).content.bytes in
    let long = g.met.M.Media.long c.args.media.now told ∙ c.requires.size in
    on_ok_weaker c.set_votes.result
    (λ voted. votes_set shape c.args.ballot false (parts_named shape base c.args.ballot c.args.table.now.cells.now) base (g.M.Media.view c.install.new.media).content.bytes (g.M.Media.view c.set_votes.new.media).content.bytes
    (parts_placed shape c.args.ballot c.args.table.now.cells.now c.requires.there base long (c.requires.good told))
    (g.met.M.Media.long c.set_votes.new.media told ∙ (ended g c).writes.size ∙ c.requires.size) (c.in_ok-install.ensures.does.touched told).bytes (c.set_votes.ensures.does.touched told).bytes voted.1)
    (c.set_votes.ensures.votes told)
