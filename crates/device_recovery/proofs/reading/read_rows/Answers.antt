use Rattle.std.proofs.Common.{true, ◌≡◌, ◌+◌, ◌*◌, ℕ, [], ◌∙◌, ap, refl, set, arith}
use Rattle.std.proofs.lemmas.List.{length-set}
use Rattle.std.proofs.lemmas.Result.{err_from_is_err_and}
use Rattle.mars_base.proofs.Costing.{costs_all}
use Rattle.pcm_media.proofs.Left.{same_bytes}
use Rattle.array_image.specs.Image.{row_of}
use Rattle.array_image.proofs.Calls.{goes_on, hands_on}
use Rattle.device_recovery.proofs.Done.{all_done}
use Rattle.device_recovery.specs.Table.{row_in}
use Rattle.device_recovery.proofs.Order.{place_of_row, before_more, before_all, other_place}
use Rattle.device_recovery.proofs.Tabling.{row_put, row_kept}
use Rattle.device_recovery.proofs.reading.read_rows.Goals as goal

pub loop-nth-preserved : goal.loop-nth-preserved
loop-nth-preserved g c =
    let m = g.M.Media in
    let shape = c.args.shape.now in
    let base = (m.view c.args.media.now).content.bytes in
    let rows = c.loop-nth.rows in
    let n = c.loop-nth.nth in
    let at = c.nth_row-at.result in
    let cell = c.place.result in
    let row = c.in_ok-rows.field-0 in
    let long = c.loop-nth.invariant.long in
    let here = place_of_row shape.loggers n at.logger at.tid c.nth_row-at.ensures.logger c.nth_row-at.ensures.tid in
    record {
      long = length-set rows cell row ∙ long;
      does = goes_on m.tells [] [] _ _ _ (λ told i out. out) c.loop-nth.invariant.does c.in_ok-rows.ensures.does refl;
      costs = let one = c.in_ok-rows.ensures.costs.done refl in omega (arith, one, c.loop-nth.invariant.costs);
      rows = λ told. before_more shape.loggers (λ h t. row_in (set rows cell row) h t ≡ row_of shape base h t) n at.logger at.tid c.nth_row-at.ensures.logger c.nth_row-at.ensures.tid
          (λ h t lt below.
          row_kept rows cell at.logger at.tid row long c.place.ensures.place c.place.ensures.below h t (omega arith) (omega arith) (other_place shape.loggers n at.logger at.tid h t here below)
          ∙ c.loop-nth.invariant.rows told h t lt below)
          (row_put rows cell at.logger at.tid row long c.place.ensures.place c.place.ensures.below ∙ c.in_ok-rows.ensures.row told
          ∙ (λ i. row_of shape (same_bytes _ _ (c.loop-nth.invariant.does.touched told) i) at.logger at.tid));
    }

pub returns-in_err-rows : goal.returns-in_err-rows
returns-in_err-rows g c =
    let m = g.M.Media in
    let so_far = c.loop-nth.invariant in
    let read = c.in_err-rows.ensures in
    let p = err_from_is_err_and c.from_residual.result c.from_residual.ensures.1 in
    rw p.1 (record {
      rows = λ told. tt;
      costs = record { done = λ exact. tt; most = omega (arith, read.costs.most, so_far.costs) };
      does = hands_on m.tells [] [] _ _ _ (λ told i out. out) so_far.does _ refl read.does;
    })

pub returns : goal.returns
returns g c =
    let m = g.M.Media in
    let shape = c.args.shape.now in
    let base = (m.view c.args.media.now).content.bytes in
    let so_far = c.loop-nth.invariant in
    let all : c.loop-nth.nth ≡ shape.loggers * shape.numbers = omega arith in
    record {
      rows = λ told. before_all shape.loggers (λ h t. row_in c.loop-nth.rows h t ≡ row_of shape base h t) c.loop-nth.nth shape.numbers all (so_far.rows told);
      costs = costs_all true _ _ _ _ (so_far.costs ∙ ap (λ (n : ℕ). (m.view c.args.media.now).moment + n) all);
      does = all_done m.tells _ _ _ _ so_far.does;
    }
