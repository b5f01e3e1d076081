use Rattle.std.proofs.Common.{◌≡◌, [], ⊎_elim, refl, sym, ◌∙◌, subst, arith}
use Rattle.std.proofs.lemmas.Bool.{cases_eq, false≢true}
use Rattle.std.proofs.lemmas.Result.{err_from_is_err_and}
use Rattle.pcm_media.proofs.Left.{same_bytes}
use Rattle.array_image.specs.Image.{cell_of, cell_head, IsGoodCell}
use Rattle.array_image.proofs.Calls.{goes_on, hands_on}
use Rattle.device_recovery.proofs.Done.{all_done}
use Rattle.device_recovery.proofs.Read.{owned_same, owned_is, owned_from}
use Rattle.device_recovery.proofs.checking.has_bad_cell.Goals as goal

pub returns-in_err-head : goal.returns-in_err-head
returns-in_err-head g c =
    let m = g.M.Media in
    let p = err_from_is_err_and c.from_residual.result c.from_residual.ensures.1 in
    rw p.1 (record {
      none = λ told. tt;
      some = λ told. tt;
      most = omega (arith, c.in_err-head.ensures.costs.most, c.loop-entry.invariant.moment);
      whole = tt;
      does = hands_on m.tells [] [] _ _ _ (λ told i out. out) c.loop-entry.invariant.does _ refl c.in_err-head.ensures.does;
    })

pub returns-then-not-has_part : goal.returns-then-not-has_part
returns-then-not-has_part g c =
    let m = g.M.Media in
    let shape = c.args.shape.now in
    let base = (m.view c.args.media.now).content.bytes in
    let entry = c.loop-entry.entry in
    let read = goes_on m.tells [] [] _ _ _ (λ told i out. out) c.loop-entry.invariant.does c.in_ok-head.ensures.does refl in
    record {
      none = λ told is. cc;
      some = λ told is.
          let head : c.in_ok-head.head ≡ cell_head (cell_of shape base c.args.logger c.args.tid entry) =
          c.in_ok-head.ensures.head told ∙ (λ i. cell_head (cell_of shape (same_bytes _ _ (c.loop-entry.invariant.does.touched told) i) c.args.logger c.args.tid entry)) in
          (entry, omega arith, omega arith, λ good. false≢true (c.if-not-has_part.ensures.1 (owned_same shape c.new.result.shape c.args.logger c.new.result.number _ _ (sym c.new.ensures.shape) (sym c.new.ensures.number) (owned_from shape c.args.logger (cell_of shape base c.args.logger c.args.tid entry) c.in_ok-head.head head good))));
      most = omega (arith, c.in_ok-head.ensures.costs.most, c.loop-entry.invariant.moment);
      whole = λ is. cc;
      does = all_done g.M.Media.tells _ _ _ _ read;
    }

pub loop-entry-preserved : goal.loop-entry-preserved
loop-entry-preserved g c =
    let m = g.M.Media in
    let base = (m.view c.args.media.now).content.bytes in
    let one = c.in_ok-head.ensures.costs.done refl in
    record {
      moment = omega (arith, one, c.loop-entry.invariant.moment);
      does = goes_on m.tells [] [] _ _ _ (λ told i out. out) c.loop-entry.invariant.does c.in_ok-head.ensures.does refl;
      good = λ told e from below.
          let head : c.in_ok-head.head ≡ cell_head (cell_of c.args.shape.now base c.args.logger c.args.tid c.loop-entry.entry) =
          c.in_ok-head.ensures.head told ∙ (λ i. cell_head (cell_of c.args.shape.now (same_bytes _ _ (c.loop-entry.invariant.does.touched told) i) c.args.logger c.args.tid c.loop-entry.entry)) in
          ⊎_elim
          (λ is. subst (λ k. IsGoodCell c.args.shape.now c.args.logger (cell_of c.args.shape.now base c.args.logger c.args.tid k)) (sym is) (owned_is c.args.shape.now c.args.logger (cell_of c.args.shape.now base c.args.logger c.args.tid c.loop-entry.entry) c.in_ok-head.head head (owned_same c.new.result.shape c.args.shape.now c.new.result.number c.args.logger _ _ c.new.ensures.shape c.new.ensures.number (c.if-not-has_part.ensures.0 refl))))
          (λ ne. c.loop-entry.invariant.good told e from (omega arith))
          (cases_eq e c.loop-entry.entry);
    }

pub returns : goal.returns
returns g c =
    let so_far = c.loop-entry.invariant in
    record {
      none = λ told is e from below. so_far.good told e from (omega arith);
      some = λ told is. cc;
      most = omega (arith, so_far.moment);
      whole = λ is. omega (arith, so_far.moment);
      does = all_done g.M.Media.tells _ _ _ _ so_far.does;
    }
