use Rattle.snapshot_readers.specs.Feeds.{fed}
use Rattle.reader_work.proofs.Answering.{all_answer}
use Rattle.reader_work.proofs.beside.all_work.Goals as goal

pub returns-clause-answered : goal.returns-clause-answered
returns-clause-answered g c =
    let read = c.join-workers.ensures.second in
    all_answer c.tie-answers.result g.B.Board.book (fed c.into_inner-feed.result.feed.now) c.into_inner-feed.result.pass.known.seen c.args.crew.1.items c.join-workers.result.1.items c.into_inner-feed.result.behind
    read.0 read.1 c.tie-answers.ensures.tied c.tie-answers.ensures.told
