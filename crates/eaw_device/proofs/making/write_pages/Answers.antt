use Rattle.std.proofs.Common.{◌≡◌, ◌+◌, ◌*◌, ◌≤◌, ℕ, length, refl, sym, ap, subst, ◌∙◌, arith}
use Rattle.std.proofs.lemmas.Result.{IfOk-from_err}
use Rattle.mars_base.specs.Bytes.{put}
use Rattle.pcm_media.proofs.Writing.{writes_on}
use Rattle.array_shape.specs.Places.{media_len, place_of}
use Rattle.eaw_device.specs.Made.{HasPages}
use Rattle.logger.proofs.Ranges.{writes_failed}
use Rattle.eaw_device.proofs.MadeLemmas.{within, page_fits, page_more}
use Rattle.eaw_device.proofs.Spared.{cells_then, page_spares}
use Rattle.eaw_device.proofs.making.write_pages.Goals as goal

fits : (at p n size : ℕ) → at ≡ p → n ≡ 512 → p + 512 ≤ size → at + n ≤ size
fits at p n size is long le = omega arith

pub returns-in_err-write-clause-does : goal.returns-in_err-write-clause-does
returns-in_err-write-clause-does g c =
    let shape = c.args.shape.now in
    let long : length c.page.new.out ≡ 512 = omega arith in
    let inside = fits _ _ (length c.page.new.out) (media_len shape) c.byte_at.ensures long (page_fits shape c.loop-page.page (omega arith)) in
    writes_failed _ _ _ _ _ _ c.from_residual.result c.from_residual.ensures.0 c.in_err-write.was
    (writes_on _ _ _ _ _ _ _ c.write.result refl (λ i out. within shape _ _ i (omega (arith, c.byte_at.ensures)) inside out) c.loop-page.invariant.does c.write.ensures.does)

pub loop-page-preserved : goal.loop-page-preserved
loop-page-preserved g c =
    let shape = c.args.shape.now in
    let m = g.M.Media in
    let long : length c.page.new.out ≡ 512 = omega arith in
    let inside = fits _ _ (length c.page.new.out) (media_len shape) c.byte_at.ensures long (page_fits shape c.loop-page.page (omega arith)) in
    record {
      pages = λ told.
          let before = (m.view c.loop-page.media).content.bytes in
          let sized : length before ≡ media_len shape = g.met.M.Media.long c.loop-page.media told ∙ c.loop-page.invariant.does.size ∙ c.requires.size in
          let now : (m.view c.write.new.self).content.bytes ≡ put before (place_of shape (512 * c.loop-page.page)) c.page.new.out =
          ap (λ x. x.bytes) (c.in_ok-write.ensures.written told) ∙ ap (λ (at : ℕ). put before at c.page.new.out) c.byte_at.ensures in
          subst (HasPages shape (g.P.PageSource.pages c.args.source.now) (c.loop-page.page + 1)) (sym now)
          (page_more shape before sized (g.P.PageSource.pages c.args.source.now) c.loop-page.page c.page.new.out (omega arith) c.page.ensures long (c.loop-page.invariant.pages told));
      cells = λ told. cells_then shape _ _ _ (c.loop-page.invariant.cells told) (page_spares shape _ _ _ _ (c.in_ok-write.ensures.does.touched told) c.loop-page.page (omega arith) c.byte_at.ensures long);
      does = writes_on _ _ _ _ _ _ _ _ refl (λ i out. within shape _ _ i (omega (arith, c.byte_at.ensures)) inside out) c.loop-page.invariant.does c.in_ok-write.ensures.does;
    }

pub returns-in_err-write-clause-cells : goal.returns-in_err-write-clause-cells
returns-in_err-write-clause-cells g c told =
    let long : length c.page.new.out ≡ 512 = omega arith in
    cells_then c.args.shape.now _ _ _ (c.loop-page.invariant.cells told) (page_spares c.args.shape.now _ _ _ _ (c.write.ensures.does.touched told) c.loop-page.page (omega arith) c.byte_at.ensures long)

pub returns-in_err-write-clause-pages : goal.returns-in_err-write-clause-pages
returns-in_err-write-clause-pages g c told = IfOk-from_err c.from_residual.result _ c.from_residual.ensures.0

pub returns : goal.returns
returns g c =
    let so_far = c.loop-page.invariant in
    record { pages = λ told p lt. so_far.pages told p (omega arith); cells = so_far.cells; does = so_far.does }
