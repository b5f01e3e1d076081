use Rattle.std.proofs.Common.{◌≡◌, ◌+◌, ◌*◌, ◌≤◌, ℕ, length, refl, sym, ap, subst, ◌∙◌, arith}
use Rattle.std.proofs.lemmas.List.{length-replicate}
use Rattle.std.proofs.lemmas.Result.{IfOk-from_err}
use Rattle.mars_base.specs.Bytes.{put}
use Rattle.pcm_media.proofs.Writing.{writes_on}
use Rattle.array_shape.specs.Places.{media_len}
use Rattle.array_image.specs.Image.{data_of}
use Rattle.eaw_device.specs.Made.{HasRows}
use Rattle.logger.proofs.Ranges.{writes_failed}
use Rattle.eaw_device.proofs.MadeLemmas.{within, rows_fit, rows_more, rows_apart}
use Rattle.eaw_device.proofs.Spared.{cells_then, rows_spare}
use Rattle.eaw_device.proofs.making.fill_rows.Goals as goal

fits : (at p n m size : ℕ) → at ≡ p → n ≡ m → p + m ≤ size → at + n ≤ size
fits at p n m size is long le = omega arith

pub write-requires : goal.write-requires
write-requires g c =
    let shape = c.args.shape.now in
    let long : length c.args.zeros.now ≡ 16 * shape.numbers = ap length c.requires.zeros ∙ length-replicate {A = ℕ} (16 * shape.numbers) 0 in
    fits _ _ _ _ _ c.row_at.ensures long (omega (arith, rows_fit shape c.loop-logger.logger c.loop-logger-test.true, c.loop-logger.invariant.does.size, c.requires.size))

pub returns-in_err-write-clause-does : goal.returns-in_err-write-clause-does
returns-in_err-write-clause-does g c =
    let shape = c.args.shape.now in
    let long : length c.args.zeros.now ≡ 16 * shape.numbers = ap length c.requires.zeros ∙ length-replicate {A = ℕ} (16 * shape.numbers) 0 in
    let inside = fits _ _ _ _ (media_len shape) c.row_at.ensures long (rows_fit shape c.loop-logger.logger c.loop-logger-test.true) in
    writes_failed _ _ _ _ _ _ c.from_residual.result c.from_residual.ensures.0 c.in_err-write.was
    (writes_on _ _ _ _ _ _ _ c.write.result refl (λ i out. within shape _ _ i (omega (arith, c.row_at.ensures)) inside out) c.loop-logger.invariant.does c.write.ensures.does)

pub loop-logger-preserved : goal.loop-logger-preserved
loop-logger-preserved g c =
    let shape = c.args.shape.now in
    let m = g.M.Media in
    let logger = c.loop-logger.logger in
    let zeros = c.args.zeros.now in
    let long : length zeros ≡ 16 * shape.numbers = ap length c.requires.zeros ∙ length-replicate {A = ℕ} (16 * shape.numbers) 0 in
    let inside = fits _ _ _ _ (media_len shape) c.row_at.ensures long (rows_fit shape logger c.loop-logger-test.true) in
    let before = (m.view c.loop-logger.media).content.bytes in
    let now = λ (told : _). ap (λ x. x.bytes) (c.in_ok-write.ensures.written told) ∙ ap (λ (at : ℕ). put before at zeros) c.row_at.ensures in
    let sized = λ (told : _). g.met.M.Media.long c.loop-logger.media told ∙ c.loop-logger.invariant.does.size ∙ c.requires.size in
    record {
      rows = λ told. subst (HasRows shape (logger + 1)) (sym (now told))
          (rows_more shape before (sized told) logger zeros c.loop-logger-test.true c.requires.zeros (c.loop-logger.invariant.rows told));
      data_same = λ told. ap (data_of shape) (now told) ∙ rows_apart shape before (sized told) logger zeros c.loop-logger-test.true c.requires.zeros ∙ c.loop-logger.invariant.data_same told;
      cells = λ told. cells_then shape _ _ _ (c.loop-logger.invariant.cells told) (rows_spare shape _ _ _ _ (c.in_ok-write.ensures.does.touched told) logger c.row_at.ensures long);
      does = writes_on _ _ _ _ _ _ _ _ refl (λ i out. within shape _ _ i (omega (arith, c.row_at.ensures)) inside out) c.loop-logger.invariant.does c.in_ok-write.ensures.does;
    }

pub returns-in_err-write-clause-cells : goal.returns-in_err-write-clause-cells
returns-in_err-write-clause-cells g c told =
    let shape = c.args.shape.now in
    let long : length c.args.zeros.now ≡ 16 * shape.numbers = ap length c.requires.zeros ∙ length-replicate {A = ℕ} (16 * shape.numbers) 0 in
    cells_then shape _ _ _ (c.loop-logger.invariant.cells told) (rows_spare shape _ _ _ _ (c.write.ensures.does.touched told) c.loop-logger.logger c.row_at.ensures long)

pub returns-in_err-write-clause-rows : goal.returns-in_err-write-clause-rows
returns-in_err-write-clause-rows g c told = IfOk-from_err c.from_residual.result _ c.from_residual.ensures.0

pub returns-in_err-write-clause-pages : goal.returns-in_err-write-clause-pages
returns-in_err-write-clause-pages g c told = IfOk-from_err c.from_residual.result _ c.from_residual.ensures.0

pub returns : goal.returns
returns g c =
    let so_far = c.loop-logger.invariant in
    record { rows = λ told h t lt lt'. so_far.rows told h t (omega arith) lt'; pages = so_far.data_same; cells = so_far.cells; does = so_far.does }
