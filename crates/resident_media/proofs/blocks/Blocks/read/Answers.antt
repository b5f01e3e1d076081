use Rattle.std.proofs.Common.{◌/◌, refl, arith, length}
use Rattle.resident_media.specs.Blocks.{AreKnown, Holds, end_block}
use Rattle.resident_media.proofs.Kept.{served, known_one}
use Rattle.resident_media.proofs.Counts.{learns_none}
use Rattle.resident_media.proofs.blocks.Blocks.read.Goals as goal

pub returns-clause-bytes : goal.returns-clause-bytes
returns-clause-bytes g c told holds long =
    let content = (g.M.Media.view c.args.inner.now).content.bytes in
    let at = c.args.at in
    let n = length c.args.buf.now in
    let now = c.learn.new.self in
    let seen : AreKnown now.known (at / 16384) (end_block at n) = λ b le lt. c.in_ok-learn.ensures.learns.inside b le (omega (arith, lt, c.div_ceil.ensures)) in
    let same : Holds now content = c.learn.ensures.holds told long holds in
    served now content c.copy.new.buf at n (omega (arith, c.requires.within, c.learn.ensures.len)) (omega (arith, c.requires.within, c.requires.fits, long)) (omega arith) seen c.copy.ensures same

pub returns-then-knows_one-clause-hit : goal.returns-then-knows_one-clause-hit
returns-then-knows_one-clause-hit g c known = ((refl, refl), refl)

pub returns-then-knows_one-clause-learns : goal.returns-then-knows_one-clause-learns
returns-then-knows_one-clause-learns g c =
    learns_none (g.M.Media.view c.args.inner.now).moment (c.args.at / 16384) (end_block c.args.at (length c.args.buf.now)) c.args.self.now.known
    (known_one c.args.self.now.known c.args.at (length c.args.buf.now) (c.knows_one.ensures.one c.if-knows_one.true) (c.knows_one.ensures.known c.if-knows_one.true))

pub returns-then-knows_one-clause-bytes : goal.returns-then-knows_one-clause-bytes
returns-then-knows_one-clause-bytes g c told holds long =
    let content = (g.M.Media.view c.args.inner.now).content.bytes in
    let at = c.args.at in
    let n = length c.args.buf.now in
    let kept = c.args.self.now in
    let seen : AreKnown kept.known (at / 16384) (end_block at n) = known_one kept.known at n (c.knows_one.ensures.one c.if-knows_one.true) (c.knows_one.ensures.known c.if-knows_one.true) in
    served kept content c.copy_one.new.buf at n c.requires.within (omega (arith, c.requires.within, c.requires.fits, long)) (omega arith) seen c.copy_one.ensures holds
