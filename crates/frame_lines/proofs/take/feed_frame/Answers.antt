use Rattle.std.proofs.Common.{sym, ◌∙◌}
use Rattle.mars_base.proofs.Going.{weaker}
use Rattle.mirror.specs.Following.{stand}
use Rattle.frame_lines.proofs.Feeding.{fed, gap, not_bad, left_fed}
use Rattle.frame_lines.proofs.take.feed_frame.Goals as goal

pub returns-in-Ok-clause-fed : goal.returns-in-Ok-clause-fed
returns-in-Ok-clause-fed g c = λ f good is.
    let s = g.S.EawStore in
    let old = c.args.follower.now in
    let new = c.feed.new.self in
    let all = fed s.tells (stand (s.view old.store) old.applied old.rest) f good c.requires.between.none c.args.bytes.now is (stand (s.view new.store) new.applied new.rest) c.in-Ok.ensures.follows in
    record {
      next = all.2;
      count_is = c.in-Ok.ensures.count ∙ all.1;
      applied = sym c.in-Ok.ensures.count;
      goes_on = all.3;
      between = record { alive = c.in-Ok.ensures.alive; none = all.0 };
    }

pub returns-in-Err-Gap-clause-fed : goal.returns-in-Err-Gap-clause-fed
returns-in-Err-Gap-clause-fed g c = λ f good is.
    let s = g.S.EawStore in
    let old = c.args.follower.now in
    gap s.tells (stand (s.view old.store) old.applied old.rest) f good c.requires.between.none c.args.bytes.now is (s.view c.feed.new.self.store) c.in-Err-Gap.expected c.in-Err-Gap.got (rw c.in-Err-Gap.field-0-is at c.in-Err-Gap.ensures.cause).1

pub returns-in-Err-NoMemory-clause-fed : goal.returns-in-Err-NoMemory-clause-fed
returns-in-Err-NoMemory-clause-fed g c = λ f good is. (rw c.in-Err-NoMemory.field-0-is at c.in-Err-NoMemory.ensures.cause).1.stops.faults

pub returns-in-Err-BadFrame-clause-fed : goal.returns-in-Err-BadFrame-clause-fed
returns-in-Err-BadFrame-clause-fed g c = λ f good is.
    let s = g.S.EawStore in
    let old = c.args.follower.now in
    absurd (not_bad s.tells (stand (s.view old.store) old.applied old.rest) f good c.requires.between.none c.args.bytes.now is (s.view c.feed.new.self.store) (rw c.in-Err-BadFrame.field-0-is at c.in-Err-BadFrame.ensures.cause).1)

pub returns-in-Ok-clause-moments : goal.returns-in-Ok-clause-moments
returns-in-Ok-clause-moments g c = λ told f good is.
    let s = g.S.EawStore in
    let old = c.args.follower.now in
    weaker (λ image left. left_fed s.tells (stand (s.view old.store) old.applied old.rest) f good c.requires.between.none c.args.bytes.now is s.opens image left) (c.feed.ensures.moments told c.requires.between.alive)

pub returns-in-Err-Gap-clause-moments : goal.returns-in-Err-Gap-clause-moments
returns-in-Err-Gap-clause-moments g c = λ told f good is.
    let s = g.S.EawStore in
    let old = c.args.follower.now in
    weaker (λ image left. left_fed s.tells (stand (s.view old.store) old.applied old.rest) f good c.requires.between.none c.args.bytes.now is s.opens image left) (c.feed.ensures.moments told c.requires.between.alive)

pub returns-in-Err-NoMemory-clause-moments : goal.returns-in-Err-NoMemory-clause-moments
returns-in-Err-NoMemory-clause-moments g c = λ told f good is.
    let s = g.S.EawStore in
    let old = c.args.follower.now in
    weaker (λ image left. left_fed s.tells (stand (s.view old.store) old.applied old.rest) f good c.requires.between.none c.args.bytes.now is s.opens image left) (c.feed.ensures.moments told c.requires.between.alive)

pub returns-in-Err-Media-clause-moments : goal.returns-in-Err-Media-clause-moments
returns-in-Err-Media-clause-moments g c = λ told f good is.
    let s = g.S.EawStore in
    let old = c.args.follower.now in
    weaker (λ image left. left_fed s.tells (stand (s.view old.store) old.applied old.rest) f good c.requires.between.none c.args.bytes.now is s.opens image left) (c.feed.ensures.moments told c.requires.between.alive)

pub returns-in-Err-BadFrame-clause-moments : goal.returns-in-Err-BadFrame-clause-moments
returns-in-Err-BadFrame-clause-moments g c = λ told f good is.
    let s = g.S.EawStore in
    let old = c.args.follower.now in
    weaker (λ image left. left_fed s.tells (stand (s.view old.store) old.applied old.rest) f good c.requires.between.none c.args.bytes.now is s.opens image left) (c.feed.ensures.moments told c.requires.between.alive)
