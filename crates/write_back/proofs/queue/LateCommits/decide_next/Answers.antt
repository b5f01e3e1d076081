use Rattle.std.proofs.Common.{◌+◌, ℕ, refl, ap}
use Rattle.array_image.specs.Image.{data_of}
use Rattle.write_back.specs.Waiting.{commits_of}
use Rattle.write_back.proofs.Adding.{decide_fault, decided, may_join}
use Rattle.write_back.proofs.queue.LateCommits.decide_next.Goals as goal

pub returns-in_err-decide : goal.returns-in_err-decide
returns-in_err-decide g c =
    let e = c.in_err-decide.ensures in
    let late = c.args.self.now in
    decide_fault g.M.Media.tells c.args.shape.now c.args.ballot (c.last_order-order.result + 1) late (ap (λ (n : ℕ). n + 1) c.last_order-order.ensures) c.requires.queued.fit c.requires.there (g.M.Media.view c.args.media.now) (g.M.Media.view c.decide.new.media) c.requires.queued.waiting
    c.requires.apart e.any_moment e.cells e.does e.costs c.from_residual.result c.from_residual.ensures.0 refl

pub returns : goal.returns
returns g c =
    let e = c.in_ok-decide.ensures in
    let late = c.args.self.now in
    let shape = c.args.shape.now in
    let old = g.M.Media.view c.args.media.now in
    let new = g.M.Media.view c.decide.new.media in
    let order_is = ap (λ (n : ℕ). n + 1) c.last_order-order.ensures in
    decided g.M.Media.tells shape c.args.ballot (c.last_order-order.result + 1) late order_is c.requires.queued.fit c.requires.there old new c.requires.queued.waiting
    c.requires.apart e.any_moment e.cells e.does e.costs (record late { ballots = c.push_reserved.new.self }) refl refl c.push_reserved.ensures.items c.push_reserved.ensures.capacity c.requires.place c.requires.order c.requires.some
    (λ told. e.joined told (commits_of shape old.content.bytes late.cells late.ballots.items) (data_of shape old.content.bytes) (c.requires.queued.waiting told)
    (may_join g.M.Media.tells shape c.args.ballot (c.last_order-order.result + 1) late order_is c.requires.queued.fit c.requires.there old new c.requires.queued.waiting c.requires.apart told)) e.rows refl
