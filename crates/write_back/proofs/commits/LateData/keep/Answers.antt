use Rattle.write_back.specs.Shown.{entries_of}
use Rattle.write_back.proofs.Tying.{free_lacks, set_aside}
use Rattle.write_back.proofs.commits.LateData.keep.Goals as goal

pub returns-clause-tied : goal.returns-clause-tied
returns-clause-tied c aside tied =
    let kept = c.args.self.now in
    set_aside c.args.shape.now kept.queue.cells (entries_of kept.parts) (entries_of c.add.new.self) kept.queue.ballots.items kept.queue.depth c.args.tid aside (free_lacks kept.queue.ballots.items c.args.tid c.requires.apart)
    c.add.ensures.others (λ zero_is. absurd (c.if-self-eq0.false zero_is)) tied
