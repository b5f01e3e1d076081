use Rattle.std.proofs.Common.{true, refl, ◌∙◌, arith}
use Rattle.std.proofs.lemmas.Result.{on_ok_weaker}
use Rattle.coordinator.proofs.Committing.{Decides, Prepared, at_end, handed, in_rows, in_votes, succeeded}
use Rattle.coordinator.proofs.RowBytes.{rows_said}
use Rattle.coordinator.proofs.commits.decide.Given.{Over}
use Rattle.coordinator.proofs.commits.decide.Goals as goal

module _ (g : Over) (c : goal.After-from_residual g) where
  failed : Decides g.M.Media.tells c.args.table.now.shape.now c.args.ballot c.args.table.now.cells.now c.requires.there (g.M.Media.view c.args.media.now) (g.M.Media.view c.put_rows.new.media) c.from_residual.result
  failed = in_rows g.M.Media.tells c.args.table.now.shape.now c.args.ballot c.args.table.now.cells.now c.requires.there (g.M.Media.view c.args.media.now) c.from_residual.result (g.M.Media.view c.put_rows.new.media) (handed c.from_residual.result c.from_residual.ensures.0 g.M.Media.tells _ _ _ c.in_err-put_rows.ensures.does)

pub returns-in_err-put_rows-clause-any_moment : goal.returns-in_err-put_rows-clause-any_moment
returns-in_err-put_rows-clause-any_moment g c = (failed g c).time

pub returns-in_err-put_rows-clause-cells : goal.returns-in_err-put_rows-clause-cells
returns-in_err-put_rows-clause-cells g c = (failed g c).kept

pub returns-in_err-put_rows-clause-does : goal.returns-in_err-put_rows-clause-does
returns-in_err-put_rows-clause-does g c = (failed g c).writes

module _ (g : Over) (c : goal.After-set_votes g) where
  prepared : Prepared g.M.Media.tells c.args.table.now.shape.now c.args.ballot c.args.table.now.cells.now (g.M.Media.view c.args.media.now) (g.M.Media.view c.put_rows.new.media)
  prepared = record { does = succeeded g.M.Media.tells _ _ _ c.in_ok-put_rows.ensures.does refl; names = c.in_ok-put_rows.ensures.names }

  ended : Decides g.M.Media.tells c.args.table.now.shape.now c.args.ballot c.args.table.now.cells.now c.requires.there (g.M.Media.view c.args.media.now) (g.M.Media.view c.set_votes.new.media) c.set_votes.result
  ended = in_votes g.M.Media.tells c.args.table.now.shape.now c.args.ballot c.args.table.now.cells.now c.requires.there (g.M.Media.view c.args.media.now) (omega arith) (omega arith) c.requires.good (g.M.Media.view c.put_rows.new.media) prepared c.set_votes.result (g.M.Media.view c.set_votes.new.media) c.set_votes.ensures.does

pub returns-clause-any_moment : goal.returns-clause-any_moment
returns-clause-any_moment g c = (ended g c).time

pub returns-clause-joined : goal.returns-clause-joined
returns-clause-joined g c told queue b rest may =
    on_ok_weaker c.set_votes.result (λ voted. at_end g.M.Media.tells c.args.table.now.shape.now c.args.ballot c.args.table.now.cells.now c.requires.there (g.M.Media.view c.args.media.now) (omega arith) (omega arith) c.requires.good (g.M.Media.view c.put_rows.new.media) (prepared g c) told queue b rest may (g.M.Media.view c.set_votes.new.media) (c.set_votes.ensures.does.touched told) voted) (c.set_votes.ensures.votes told)

pub returns-clause-cells : goal.returns-clause-cells
returns-clause-cells g c = (ended g c).kept

pub returns-clause-does : goal.returns-clause-does
returns-clause-does g c = (ended g c).writes

pub returns-clause-rows : goal.returns-clause-rows
returns-clause-rows g c told =
    let now = g.M.Media.view c.set_votes.new.media in
    let writes = (ended g c).writes in
    on_ok_weaker c.set_votes.result
    (λ voted. rows_said c.args.table.now.shape.now c.args.ballot c.args.table.now.cells.now true (g.M.Media.view c.args.media.now).content.bytes (g.M.Media.view c.put_rows.new.media).content.bytes now.content.bytes
    (g.met.M.Media.long c.set_votes.new.media told ∙ writes.size ∙ c.requires.size) (writes.touched told).bytes (c.set_votes.ensures.does.touched told).bytes (c.in_ok-put_rows.ensures.names told).1 voted.1)
    (c.set_votes.ensures.votes told)
