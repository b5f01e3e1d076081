use Rattle.std.proofs.Common.{◌≡◌, ◌+◌, ◌<◌, ℕ, List, [], ◌∷◌, ◌++◌, map, length, Option, arith, refl, sym, ap, ◌∙◌, subst}
use Rattle.std.specs.Prelude.{IfSome}
use Rattle.std.proofs.lemmas.List.{length-map}
use Rattle.std.proofs.lemmas.Result.{IfOk-weaker}
use Rattle.mars_manager.specs.Pass.{PassView, AreSo, known_of, times, newcomer}
use Rattle.mars_manager.specs.Asked.{HaveAsked}
use Rattle.caller_steps.specs.Run.{AreOf}
use Rattle.caller_work.specs.declared.crew.Job.{Job}
use Rattle.caller_work.proofs.Hiring.{there_is, it_is, none_of}
use Rattle.caller_work.proofs.Whole.{whole}
use Rattle.caller_work.proofs.Manning.{ready_at, left_at, all_done, first_known}
use Rattle.reader_work.specs.News.{IsOnlooker}
use Rattle.reader_work.specs.Readership.{plans_of, keys_of}
use Rattle.reader_work.proofs.Answering.{answer_longer}
use Rattle.reader_work.proofs.Onlooking.{first_news, so_first, so_last, asked_by, turns_by, seen_front, each_there}
use Rattle.reader_work.proofs.beside.run_beside.Goals as goal

pub unwrap-pass-requires : goal.unwrap-pass-requires
unwrap-pass-requires g c = there_is c.args.shared.0 (length c.args.rooms.jobs.items) c.args.shared.1.list c.take.result c.requires.passes.0 (none_of _ _ c.take.result c.take.ensures.none)

pub hire-workers-requires-clause-passes : goal.hire-workers-requires-clause-passes
hire-workers-requires-clause-passes g c =
    let mars = c.args.shared.0 in
    let jobs = c.args.rooms.jobs.items in
    let some = subst (λ (o : Option (PassView g.row.C.Denot)). IfSome o (λ (p : PassView g.row.C.Denot). (c.args.shared.1.list ≡ c.take.new.self.list ++ p ∷ []) × (p.table ≡ c.args.shared.1.table))) c.unwrap-pass.ensures c.take.ensures.some in
    let its = it_is mars (length jobs) c.take.new.self.list c.unwrap-pass.result (sym some.0 ∙ c.requires.passes.0) in
    its.0

pub all_work-workers-requires-clause-news : goal.all_work-workers-requires-clause-news
all_work-workers-requires-clause-news g c κs within =
    let mars = c.args.shared.0 in
    let jobs = c.args.rooms.jobs.items in
    let some = subst (λ (o : Option (PassView g.row.C.Denot)). IfSome o (λ (p : PassView g.row.C.Denot). (c.args.shared.1.list ≡ c.take.new.self.list ++ p ∷ []) × (p.table ≡ c.args.shared.1.table))) c.unwrap-pass.ensures c.take.ensures.some in
    let its = it_is mars (length jobs) c.take.new.self.list c.unwrap-pass.result (sym some.0 ∙ c.requires.passes.0) in
    first_news c.args.readership.feed mars.setup (length jobs) c.unwrap-pass.result.known c.requires.open.none (ap (λ (p : PassView g.row.C.Denot). p.known) its.1)

pub all_work-workers-requires-clause-ready : goal.all_work-workers-requires-clause-ready
all_work-workers-requires-clause-ready g c κs within =
    let mars = c.args.shared.0 in
    let jobs = c.args.rooms.jobs.items in
    let plans = plans_of jobs in
    let many : length jobs ≡ length plans = sym (length-map jobs (λ (job : Job). job.plans)) in
    let hire = c.hire-workers.ensures in
    let before = c.hire-workers.result.items in
    ready_at mars c.args.tries plans jobs before refl many c.requires.tries hire.len hire.hired

pub finish-end-requires-clause-left : goal.finish-end-requires-clause-left
finish-end-requires-clause-left g c =
    let mars = c.args.shared.0 in
    let jobs = c.args.rooms.jobs.items in
    let plans = plans_of jobs in
    let many : length jobs ≡ length plans = sym (length-map jobs (λ (job : Job). job.plans)) in
    let hire = c.hire-workers.ensures in
    let before = c.hire-workers.result.items in
    left_at mars c.args.tries plans jobs before refl many c.requires.tries hire.len hire.hired c.all_work-workers.result.0.items c.all_work-workers.ensures.many c.all_work-workers.ensures.worked

pub put_back-requires-clause-room : goal.put_back-requires-clause-room
put_back-requires-clause-room g c =
    let hire = c.hire-workers.ensures in
    let long = c.finish-end.ensures.each.1 ∙ c.all_work-workers.ensures.many ∙ hire.len in
    let room = c.finish-end.ensures.room ∙ hire.passes.2 ∙ c.take.ensures.same.1 in
    omega (arith, long, room, c.requires.passes.2)

pub close-requires-2-clause-all : goal.close-requires-2-clause-all
close-requires-2-clause-all g c caller less =
    let mars = c.args.shared.0 in
    let jobs = c.args.rooms.jobs.items in
    let some = subst (λ (o : Option (PassView g.row.C.Denot)). IfSome o (λ (p : PassView g.row.C.Denot). (c.args.shared.1.list ≡ c.take.new.self.list ++ p ∷ []) × (p.table ≡ c.args.shared.1.table))) c.unwrap-pass.ensures c.take.ensures.some in
    let its = it_is mars (length jobs) c.take.new.self.list c.unwrap-pass.result (sym some.0 ∙ c.requires.passes.0) in
    let plans = plans_of jobs in
    let many : length jobs ≡ length plans = sym (length-map jobs (λ (job : Job). job.plans)) in
    let hire = c.hire-workers.ensures in
    let before = c.hire-workers.result.items in
    let now = c.all_work-workers.result.0.items in
    let same : length now ≡ length before = c.all_work-workers.ensures.many in
    let finish = c.finish-end.ensures in
    let front = c.finish-end.new.passes.list in
    let last = c.all_work-workers.result.1 in
    let each : length c.finish-end.new.told.items ≡ length plans = finish.each.0 ∙ same ∙ hire.len ∙ many in
    let both : length front ≡ length plans = finish.each.1 ∙ same ∙ hire.len ∙ many in
    let done = all_done mars c.args.tries plans jobs before refl many c.requires.tries hire.len hire.hired now same c.all_work-workers.ensures.worked
    c.finish-end.result _ c.finish-end.new.told.items finish.done.0 front refl (omega (arith, c.requires.some, many)) finish.each.0 finish.done.2 in
    let number : last.known.number ≡ length jobs = c.all_work-workers.ensures.pass.1.number_is ∙ ap (λ (p : PassView g.row.C.Denot). p.known.number) its.1 in
    let nobody : PassView g.row.C.Denot = record { table = mars.table; known = newcomer mars.setup 0 } in
    subst (λ (l : List (PassView g.row.C.Denot)). 0 < times caller (map known_of l)) (sym c.put_back.ensures.list)
    (each_there front last nobody (λ k within. (done k nobody (omega (arith, within, both))).number) (omega (arith, number, both, many)) caller (omega (arith, less, c.requires.callers, both, many)))

pub returns-clause-worked : goal.returns-clause-worked
returns-clause-worked g c =
    let mars = c.args.shared.0 in
    let jobs = c.args.rooms.jobs.items in
    let some = subst (λ (o : Option (PassView g.row.C.Denot)). IfSome o (λ (p : PassView g.row.C.Denot). (c.args.shared.1.list ≡ c.take.new.self.list ++ p ∷ []) × (p.table ≡ c.args.shared.1.table))) c.unwrap-pass.ensures c.take.ensures.some in
    let its = it_is mars (length jobs) c.take.new.self.list c.unwrap-pass.result (sym some.0 ∙ c.requires.passes.0) in
    let plans = plans_of jobs in
    let many : length jobs ≡ length plans = sym (length-map jobs (λ (job : Job). job.plans)) in
    let hire = c.hire-workers.ensures in
    let before = c.hire-workers.result.items in
    let now = c.all_work-workers.result.0.items in
    let same : length now ≡ length before = c.all_work-workers.ensures.many in
    let finish = c.finish-end.ensures in
    let front = c.finish-end.new.passes.list in
    let last = c.all_work-workers.result.1 in
    let each : length c.finish-end.new.told.items ≡ length plans = finish.each.0 ∙ same ∙ hire.len ∙ many in
    let both : length front ≡ length plans = finish.each.1 ∙ same ∙ hire.len ∙ many in
    let done = all_done mars c.args.tries plans jobs before refl many c.requires.tries hire.len hire.hired now same c.all_work-workers.ensures.worked
    c.finish-end.result _ c.finish-end.new.told.items finish.done.0 front refl (omega (arith, c.requires.some, many)) finish.each.0 finish.done.2 in
    let number : last.known.number ≡ length jobs = c.all_work-workers.ensures.pass.1.number_is ∙ ap (λ (p : PassView g.row.C.Denot). p.known.number) its.1 in
    let state = (g.C.Core.view c.close-2.result).state in
    let gathered = c.close-2.ensures.passes in
    let list = c.put_back.ensures.list in
    let so = subst (AreSo g.C.Core.tells g.C.Core.view mars.setup gathered.turns state) list gathered.each in
    let fits = so_last g.C.Core.tells g.C.Core.view mars.setup gathered.turns state front last so in
    let looks : IsOnlooker (length plans) last.known = subst (λ (n : ℕ). IsOnlooker n last.known) (ap (λ (p : PassView g.row.C.Denot). p.known.number) its.1 ∙ many) c.all_work-workers.ensures.pass.1 in
    let all : mars.setup.callers ≡ length plans + 1 = omega (arith, c.requires.callers, many) in
    whole g.C.Core.tells g.C.Core.view mars c.close-2.result c.args.tries plans c.finish-end.new.told.items finish.done.0 front c.finish-end.result c.requires.named each (finish.done.1 ∙ same ∙ hire.len ∙ many) both done finish.done.3
    c.close-2.ensures.since gathered.turns gathered.run
    (turns_by g.C.Core.tells g.C.Core.view mars.setup gathered.turns state (length plans) last.known looks fits (subst (λ (n : ℕ). AreOf n gathered.turns) all gathered.whose))
    gathered.ready.alive (so_first g.C.Core.tells g.C.Core.view mars.setup gathered.turns state front last so)
    (asked_by (length plans) front last looks (subst (λ (n : ℕ). HaveAsked n (front ++ last ∷ [])) all (subst (HaveAsked mars.setup.callers) list c.close-2.ensures.asked)))

pub returns-clause-answered : goal.returns-clause-answered
returns-clause-answered g c =
    let mars = c.args.shared.0 in
    let front = c.finish-end.new.passes.list in
    let last = c.all_work-workers.result.1 in
    let state = (g.C.Core.view c.close-2.result).state in
    let gathered = c.close-2.ensures.passes in
    let list = c.put_back.ensures.list in
    let so = subst (AreSo g.C.Core.tells g.C.Core.view mars.setup gathered.turns state) list gathered.each in
    let fits = so_last g.C.Core.tells g.C.Core.view mars.setup gathered.turns state front last so in
    let first = (g.C.Core.view mars.setup.first).state in
    IfOk-weaker c.all_work-workers.result.2 _ _ (λ told all. answer_longer first.names first.base last.known.seen state.history (keys_of c.args.readership.workers.items) told.items
    (seen_front g.C.Core.tells g.C.Core.view mars.setup gathered.turns state last.known fits) (all first.names first.base c.requires.open.ready)) c.all_work-workers.ensures.answered

pub returns-clause-told : goal.returns-clause-told
returns-clause-told g c =
    let jobs = c.args.rooms.jobs.items in
    let hire = c.hire-workers.ensures in
    let work = c.all_work-workers.ensures in
    first_known c.args.shared.0 c.args.tries (plans_of jobs) jobs c.hire-workers.result.items refl (sym (length-map jobs (λ (job : Job). job.plans))) c.requires.tries hire.len hire.hired
    c.all_work-workers.result.0.items work.many work.worked _ work.told
