use Rattle.write_back.proofs.Adding.{at_once}
use Rattle.write_back.proofs.queue.LateCommits.commit_at_once.Goals as goal

pub returns : goal.returns
returns g c =
    at_once g.M.Media.tells c.args.shape.now c.args.ballot c.args.self.now c.requires.depth c.requires.queued.fit (g.M.Media.view c.args.media.now) (g.M.Media.view c.commit.new.media) c.requires.queued.waiting
    c.commit.result c.commit.ensures.any_moment c.commit.ensures.committed c.commit.ensures.rows c.commit.ensures.cells c.commit.ensures.does c.commit.ensures.costs
