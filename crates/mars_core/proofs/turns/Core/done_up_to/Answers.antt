use Rattle.std.proofs.Common.{ℕ, ◌≤◌, IsTrue, length, subst}
use Rattle.history.specs.declared.call.Call.{Call}
use Rattle.history.specs.declared.call.Reply.{Reply}
use Rattle.caller_steps.specs.Core.{IsSafe, Steps, Continues}
use Rattle.caller_steps.proofs.Continuing.{kept_since}
use Rattle.mars_core.specs.Held.{Held, core_of}
use Rattle.mars_core.specs.Taped.{IsSafeOnDevice}
use Rattle.mars_core.proofs.turns.Core.done_up_to.Goals as goal

pub returns-clause-safe : goal.returns-clause-safe
returns-clause-safe g c =
    let e = g.S.EawStore in
    let index = g.K.KeyIndex.index in
    subst (λ (h : Held g.row.S.Denot). (since least : ℕ) → since ≤ c.done_up_to.result → IsSafe (core_of e.opens index (e.view h.records.store) h) since least
    → IsSafeOnDevice (g.S.TapedStore.tape h.records.store).past (core_of e.opens index (e.view h.records.store) h) least) c.self.view_is
    (λ since least le safe image left. safe image (c.done_up_to.ensures.durable since image le left))

pub returns-clause-answered : goal.returns-clause-answered
returns-clause-answered g c =
    let e = g.S.EawStore in
    let index = g.K.KeyIndex.index in
    let V = λ (h : Held g.row.S.Denot). core_of e.opens index (e.view h.records.store) h in
    let i = c.self.inside in
    let now : Held g.row.S.Denot = record { records = i.records; base = i.base; seats = i.seats; history = i.history.items; doubt = i.doubt } in
    subst (λ (h : Held g.row.S.Denot). (old answered : Held g.row.S.Denot) (caller : ℕ) (call : Call) (reply : Reply) → IsTrue e.tells → Steps e.tells caller call (V old) (V answered) reply
    → Continues (V answered) (V h) → (e.view answered.records.store).moment ≤ c.done_up_to.result → IsSafeOnDevice (g.S.TapedStore.tape h.records.store).past (V h) (length answered.history)) c.self.view_is
    (λ old answered caller call reply told steps on le image left.
    kept_since (V answered) (V now) on (steps.now told) image (c.done_up_to.ensures.durable (e.view answered.records.store).moment image le left))
