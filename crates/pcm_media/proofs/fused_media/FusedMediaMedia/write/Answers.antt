use Rattle.std.proofs.Common.{[], ◌∷◌, length, ◌≡◌, ◌∙◌, ap}
use Rattle.pcm_media.proofs.FusedLemmas.{passed_on, stopped}
use Rattle.pcm_media.proofs.fused_media.FusedMediaMedia.write.Goals as goal

pub returns-then-not-takes_pass-clause-does : goal.returns-then-not-takes_pass-clause-does
returns-then-not-takes_pass-clause-does g c =
    let stop = rw c.if-not-takes_pass.true at c.takes_pass.ensures.stopped in
    rw c.takes_pass.ensures.inner (stopped g.M.Media.tells ((c.args.at, length c.args.bytes.now) ∷ []) (g.M.Media.view c.args.self.now.inner) c.args.self.now.blown c.takes_pass.new.self.blown (record {}) stop.1 stop.2)

pub returns-clause-does : goal.returns-clause-does
returns-clause-does g c =
    let pass = rw c.if-not-takes_pass.false at c.takes_pass.ensures.passed in
    let same : c.self.inside.inner ≡ c.args.self.now.inner = ap (λ m. m.inner) c.self.view_is ∙ c.takes_pass.ensures.inner in
    let none : c.self.inside.blown ≡ 0 = ap (λ m. m.blown) c.self.view_is ∙ pass.2 in
    rw (pass.1, none, ← same) (passed_on g.M.Media.tells ((c.args.at, length c.args.bytes.now) ∷ []) (g.M.Media.view c.self.inside.inner) (g.M.Media.view c.write.new.self)
    (g.met.M.Media.counts_now c.self.inside.inner) (g.met.M.Media.only_now c.self.inside.inner) (g.met.M.Media.only_now c.write.new.self) c.write.result c.write.ensures.does c.write.ensures.ticks)
