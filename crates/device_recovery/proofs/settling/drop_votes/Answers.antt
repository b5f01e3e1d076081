use Rattle.std.proofs.Common.{ℕ, true, refl, length, sym, subst, arith}
use Rattle.std.proofs.lemmas.Result.{on_ok_weaker}
use Rattle.mars_base.specs.Costs.{Costs}
use Rattle.mars_base.proofs.Costing.{costs_all}
use Rattle.device_recovery.specs.declared.which.Which.TheVariants.{Dropped}
use Rattle.device_recovery.specs.Table.{is_one_of}
use Rattle.device_recovery.specs.Recovered.{at_rows, row_name}
use Rattle.device_recovery.proofs.Lists.{none_counted, no_clear_calls, some_clear_calls}
use Rattle.device_recovery.proofs.Leaving.{dropped_left, none_dropped}
use Rattle.device_recovery.proofs.Zeroing.{none_cleared}
use Rattle.device_recovery.proofs.settling.drop_votes.Goals as goal

pub returns-then-not-has_dropped-clause-left : goal.returns-then-not-has_dropped-clause-left
returns-then-not-has_dropped-clause-left g c told =
    (c.requires.sure told, none_dropped c.args.shape.now c.args.rows.now (g.M.Media.view c.args.media.now).content.bytes (c.requires.rows told) (c.if-not-has_dropped.ensures.none refl))

pub returns-then-not-has_dropped-clause-zeros : goal.returns-then-not-has_dropped-clause-zeros
returns-then-not-has_dropped-clause-zeros g c told = none_cleared c.args.shape.now (g.M.Media.view c.args.media.now).content.bytes

pub returns-clause-left : goal.returns-clause-left
returns-clause-left g c told =
    let m = g.M.Media in
    on_ok_weaker c.clear_votes.result (λ done. (done.0, dropped_left c.args.shape.now c.args.rows.now (m.view c.args.media.now).content.bytes (m.view c.clear_votes.new.media).content.bytes (c.requires.rows told) (c.clear_votes.ensures.does.touched told).bytes done.1)) (c.clear_votes.ensures.cleared told)

pub returns-then-not-has_dropped-clause-costs : goal.returns-then-not-has_dropped-clause-costs
returns-then-not-has_dropped-clause-costs g c =
    let none = none_counted c.args.shape.now (is_one_of c.args.shape.now c.args.rows.now Dropped) (c.if-not-has_dropped.ensures.none refl) in
    costs_all true _ _ _ _ (omega (arith, no_clear_calls _ none))

pub returns-clause-costs : goal.returns-clause-costs
returns-clause-costs g c =
    let rows = length (at_rows c.args.shape.now (is_one_of c.args.shape.now c.args.rows.now Dropped) row_name) in
    let m = g.M.Media in
    subst (λ (k : ℕ). Costs true k (m.view c.args.media.now).moment (m.view c.clear_votes.new.media).moment c.clear_votes.result) (sym (some_clear_calls rows (c.if-not-has_dropped.ensures.some refl))) c.clear_votes.ensures.costs
