use Rattle.mirror.proofs.follower.Follower.feed.Goals as goal

pub feed-requires-clause-leads : goal.feed-requires-clause-leads
feed-requires-clause-leads g c = (c.self.invariant c.if-self.false).leads
