use Rattle.std.proofs.Common.{refl, ◌∙◌}
use Rattle.reader_work.proofs.Publishing.{not_tried, tried_once_more, had_turn}
use Rattle.reader_work.proofs.news.publish.Goals as goal

pub loop-init : goal.loop-init
loop-init g c = record { table = refl; list = refl; behind = c.requires.behind; onlooker = λ number is. is; waited = not_tried c.args.pass.now.known }

pub loop-preserved : goal.loop-preserved
loop-preserved g c =
    let i = c.loop.invariant in
    let e = c.try_publish.ensures in record {
      table = e.table ∙ i.table;
      list = e.list ∙ i.list;
      behind = e.behind;
      onlooker = λ number is. e.onlooker number (i.onlooker number is);
      waited = tried_once_more c.args.pass.now.known c.loop.pass.known _ _ i.waited c.in-Err.ensures.again;
    }

pub returns-in-Ok-clause-turn : goal.returns-in-Ok-clause-turn
returns-in-Ok-clause-turn g c = had_turn g.C.Core.tells g.C.Core.view c.args.pass.now.known c.loop.pass.known _ c.loop.invariant.waited c.in-Ok.ensures.turn
