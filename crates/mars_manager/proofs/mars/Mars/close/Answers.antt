use Rattle.std.proofs.Common.{ℕ, ◌<◌, List, [], ◌∷◌, ◌++◌, Option, refl, sym, ap, ◌∙◌, subst, arith, map}
use Rattle.std.specs.Option.{IsSome}
use Rattle.mars_manager.specs.Pass.{PassView, AllOf, HasEach, times, known_of}
use Rattle.mars_manager.specs.Sharing.{MarsView, Since, AreGathered}
use Rattle.mars_manager.specs.Asked.{HaveAsked}
use Rattle.mars_manager.specs.Seat.{SeatOf, view}
use Rattle.mars_manager.specs.Rule.{face}
use Rattle.mars_manager.proofs.Ends.{all_met, gathers_as, one_more, all_known, taken_all, last_core, ended_as}
use Rattle.mars_manager.proofs.mars.Mars.close.Goals as goal

pub loop-pass-init : goal.loop-pass-init
loop-pass-init g c =
    let parts = c.into_parts-list.ensures in
    let all = c.into_iter-pass-iterator.ensures.into_iter_gives.0 ∙ parts.list.0 in record {
      table = parts.opener.0;
      taken = ([], parts.opener.1, ap (λ (l : List (PassView g.row.C.Denot)). map known_of l) all);
      left = subst (λ (l : List (PassView g.row.C.Denot)). AllOf c.args.passes.table l) (sym all) parts.list.1;
    }

pub join_seat-requires : goal.join_seat-requires
join_seat-requires g c =
    let f = face g.C.Core.tells g.C.Core.view in
    let key = c.self.inside.table.shared.key in
    let i = c.loop-pass.invariant in
    let seat = c.into_seat.ensures in
    let mine = (subst (λ (l : List (PassView g.row.C.Denot)). AllOf c.args.passes.table l) c.in-Some.ensures.steps.0 i.left).0 in (
      i.table ∙ c.requires.own ∙ sym (ap (λ (m : MarsView g.row.C.Denot). m.table) c.self.view_is),
      seat.table ∙ mine ∙ c.requires.own ∙ sym (ap (λ (m : MarsView g.row.C.Denot). m.table) c.self.view_is),
      ap (λ (m : SeatOf g.row.C.Denot). m.1) seat.me,
      (let w = c.self.invariant.0 in omega arith),
      gathers_as f key _ _ i.taken.0 (c.in-Some.pass.known ∷ []) _ _ (ap (λ (m : SeatOf g.row.C.Denot). m.0) i.taken.1) (ap (λ (m : SeatOf g.row.C.Denot). m.0) seat.me),
    )

pub loop-pass-preserved : goal.loop-pass-preserved
loop-pass-preserved g c =
    let i = c.loop-pass.invariant in
    let seat = c.into_seat.ensures in
    let left = subst (λ (l : List (PassView g.row.C.Denot)). AllOf c.args.passes.table l) c.in-Some.ensures.steps.0 i.left in
    let j = c.join_seat.ensures in
    let J : SeatOf g.row.C.Denot × SeatOf g.row.C.Denot → SeatOf g.row.C.Denot = λ p. (view p.0.0.stage (p.0.0.passes ++ p.1.0.passes) p.0.0.held, p.0.1) in record {
      table = j.0 ∙ i.table;
      taken = (i.taken.0 ++ c.in-Some.pass.known ∷ [], j.2 ∙ (λ k. J (i.taken.1 k, seat.me k)), one_more i.taken.0 c.in-Some.pass _ _ c.args.passes.list c.in-Some.ensures.steps.0 i.taken.2);
      left = left.1;
    }

pub unwrap-core-requires : goal.unwrap-core-requires
unwrap-core-requires g c =
    let f = face g.C.Core.tells g.C.Core.view in
    let key = c.self.inside.table.shared.key in
    let i = c.loop-pass.invariant in
    let gone = sym c.loop-pass.pass-iterator.rest.ok.0 ∙ c.in-None.ensures.steps.0 in
    let all = taken_all f key _ i.taken.0 c.loop-pass.pass-iterator.rest.items c.args.passes.list i.taken.1 i.taken.2 gone in
    let each : (n : ℕ) → n < key.callers → 0 < times n (map known_of c.args.passes.list) = subst (λ (m : MarsView g.row.C.Denot). HasEach m.setup.callers c.args.passes.list) (sym c.self.view_is) c.requires.all in
    let last = last_core f key _ (map known_of c.args.passes.list) _ _ _ c.take.result all each c.close_with-closed.ensures.values.2 c.take.ensures.value in
    subst (λ (o : Option g.row.C.Denot). IsSome o) (sym last.1) refl

pub returns-clause-since : goal.returns-clause-since
returns-clause-since g c =
    let f = face g.C.Core.tells g.C.Core.view in
    let key = c.self.inside.table.shared.key in
    let i = c.loop-pass.invariant in
    let gone = sym c.loop-pass.pass-iterator.rest.ok.0 ∙ c.in-None.ensures.steps.0 in
    let all = taken_all f key _ i.taken.0 c.loop-pass.pass-iterator.rest.items c.args.passes.list i.taken.1 i.taken.2 gone in
    let each : (n : ℕ) → n < key.callers → 0 < times n (map known_of c.args.passes.list) = subst (λ (m : MarsView g.row.C.Denot). HasEach m.setup.callers c.args.passes.list) (sym c.self.view_is) c.requires.all in
    let last = last_core f key _ (map known_of c.args.passes.list) _ _ _ c.take.result all each c.close_with-closed.ensures.values.2 c.take.ensures.value in
    let end = ended_as f key _ last.0 c.unwrap-core.result c.take.result last.1 c.unwrap-core.ensures last.2 in
    subst (λ (m : MarsView g.row.C.Denot). Since g.C.Core.tells (g.C.Core.view m.setup.first) (g.C.Core.view c.unwrap-core.result)) c.self.view_is end.since

pub returns-clause-passes : goal.returns-clause-passes
returns-clause-passes g c =
    let f = face g.C.Core.tells g.C.Core.view in
    let key = c.self.inside.table.shared.key in
    let i = c.loop-pass.invariant in
    let gone = sym c.loop-pass.pass-iterator.rest.ok.0 ∙ c.in-None.ensures.steps.0 in
    let all = taken_all f key _ i.taken.0 c.loop-pass.pass-iterator.rest.items c.args.passes.list i.taken.1 i.taken.2 gone in
    let each : (n : ℕ) → n < key.callers → 0 < times n (map known_of c.args.passes.list) = subst (λ (m : MarsView g.row.C.Denot). HasEach m.setup.callers c.args.passes.list) (sym c.self.view_is) c.requires.all in
    let last = last_core f key _ (map known_of c.args.passes.list) _ _ _ c.take.result all each c.close_with-closed.ensures.values.2 c.take.ensures.value in
    let end = ended_as f key _ last.0 c.unwrap-core.result c.take.result last.1 c.unwrap-core.ensures last.2 in
    subst (λ (m : MarsView g.row.C.Denot). AreGathered g.C.Core.tells g.C.Core.view m.setup c.unwrap-core.result c.args.passes.list) c.self.view_is
    (record { turns = end.turns; run = end.run; whose = end.whose; ready = end.ready; each = all_known f key c.unwrap-core.result end.turns c.args.passes.list end.fit })

pub returns-clause-asked : goal.returns-clause-asked
returns-clause-asked g c =
    let f = face g.C.Core.tells g.C.Core.view in
    let key = c.self.inside.table.shared.key in
    let i = c.loop-pass.invariant in
    let gone = sym c.loop-pass.pass-iterator.rest.ok.0 ∙ c.in-None.ensures.steps.0 in
    let all = taken_all f key _ i.taken.0 c.loop-pass.pass-iterator.rest.items c.args.passes.list i.taken.1 i.taken.2 gone in
    let each : (n : ℕ) → n < key.callers → 0 < times n (map known_of c.args.passes.list) = subst (λ (m : MarsView g.row.C.Denot). HasEach m.setup.callers c.args.passes.list) (sym c.self.view_is) c.requires.all in
    let last = last_core f key _ (map known_of c.args.passes.list) _ _ _ c.take.result all each c.close_with-closed.ensures.values.2 c.take.ensures.value in
    let end = ended_as f key _ last.0 c.unwrap-core.result c.take.result last.1 c.unwrap-core.ensures last.2 in
    subst (λ (m : MarsView g.row.C.Denot). HaveAsked m.setup.callers c.args.passes.list) c.self.view_is
    (record { met = end.met; each = all_met f key end.met c.args.passes.list end.each; strangers = end.strangers; caused = end.caused })
