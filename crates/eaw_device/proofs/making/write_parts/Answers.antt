use Rattle.std.proofs.Common.{◌≡◌, [], ◌∷◌, length, refl, sym, ap, subst, ◌∙◌, arith}
use Rattle.std.proofs.lemmas.Result.{on_ok_weaker}
use Rattle.mars_base.specs.Bytes.{range}
use Rattle.pcm_media.specs.Images.{Content, settled}
use Rattle.pcm_media.proofs.Ranges.{length-range, range-put}
use Rattle.array_image.proofs.Calls.{SoFar, none_yet, goes_on, hands_on, then_barrier}
use Rattle.array_shape.specs.Places.{page_count, media_len}
use Rattle.eaw_device.specs.Made.{HasParts, behind_mark, behind_header}
use Rattle.eaw_device.proofs.MadeLemmas.{same_pages, header_parts, past_mark, numbers_range}
use Rattle.eaw_device.proofs.Spared.{cells_then, header_spares, none_spares}
use Rattle.eaw_device.proofs.making.write_parts.Goals as goal

pub returns-in_err-write_pages-clause-does : goal.returns-in_err-write_pages-clause-does
returns-in_err-write_pages-clause-does g c =
    let m = g.M.Media in
    let shape = c.args.shape.now in
    let old = m.view c.args.media.now in
    let all = behind_mark shape in
    hands_on m.tells all (behind_header shape) old old _ (λ told i out. (past_mark shape i out).0) (none_yet m.tells all old) c.from_residual.result c.from_residual.ensures.0 c.in_err-write_pages.ensures.does

pub returns-in_err-clear_rows-clause-does : goal.returns-in_err-clear_rows-clause-does
returns-in_err-clear_rows-clause-does g c =
    let m = g.M.Media in
    let shape = c.args.shape.now in
    let old = m.view c.args.media.now in
    let all = behind_mark shape in
    let pages : SoFar m.tells all old (m.view c.write_pages.new.media) = goes_on m.tells all (behind_header shape) old old _ (λ told i out. (past_mark shape i out).0) (none_yet m.tells all old) c.in_ok-write_pages.ensures.does refl in
    hands_on m.tells all (behind_header shape) old _ _ (λ told i out. (past_mark shape i out).0) pages c.from_residual-in_err-clear_rows.result c.from_residual-in_err-clear_rows.ensures.0 c.in_err-clear_rows.ensures.does

pub returns-in_err-clear_rows-clause-cells : goal.returns-in_err-clear_rows-clause-cells
returns-in_err-clear_rows-clause-cells g c told = cells_then c.args.shape.now _ _ _ (c.in_ok-write_pages.ensures.cells told) (c.clear_rows.ensures.cells told)

pub returns-in_err-write-clause-does : goal.returns-in_err-write-clause-does
returns-in_err-write-clause-does g c =
    let m = g.M.Media in
    let shape = c.args.shape.now in
    let old = m.view c.args.media.now in
    let all = behind_mark shape in
    let size : length (range c.args.header.now 8 504) ≡ 504 = length-range c.args.header.now 8 504 (omega arith) in
    let pages : SoFar m.tells all old (m.view c.write_pages.new.media) = goes_on m.tells all (behind_header shape) old old _ (λ told i out. (past_mark shape i out).0) (none_yet m.tells all old) c.in_ok-write_pages.ensures.does refl in
    let rows : SoFar m.tells all old (m.view c.clear_rows.new.media) = goes_on m.tells all (behind_header shape) old _ _ (λ told i out. (past_mark shape i out).0) pages c.in_ok-clear_rows.ensures.does refl in
    hands_on m.tells all ((8, length (range c.args.header.now 8 504)) ∷ []) old _ _ (λ told i out. numbers_range _ i size (past_mark shape i out).1) rows c.from_residual-in_err-write.result c.from_residual-in_err-write.ensures.0 c.in_err-write.ensures.does

pub returns-in_err-write-clause-cells : goal.returns-in_err-write-clause-cells
returns-in_err-write-clause-cells g c told =
    let shape = c.args.shape.now in
    let size : length (range c.args.header.now 8 504) ≡ 504 = length-range c.args.header.now 8 504 (omega arith) in
    let rows = cells_then shape _ _ _ (c.in_ok-write_pages.ensures.cells told) (c.in_ok-clear_rows.ensures.cells told) in
    cells_then shape _ _ _ rows (header_spares shape 8 (length (range c.args.header.now 8 504)) _ _ (c.write.ensures.does.touched told) (omega (arith, size)))

pub returns-clause-parts : goal.returns-clause-parts
returns-clause-parts g c told =
    let shape = c.args.shape.now in
    let said = g.P.PageSource.pages c.args.source.now in
    let size : length (range c.args.header.now 8 504) ≡ 504 = length-range c.args.header.now 8 504 (omega arith) in
    let cleared : HasParts shape said (g.M.Media.view c.clear_rows.new.media).content.bytes = record {
      rows = c.in_ok-clear_rows.ensures.rows told;
      pages = same_pages shape said (page_count shape) _ _ (c.in_ok-clear_rows.ensures.pages told) (c.in_ok-write_pages.ensures.pages told);
    } in
    let parts = header_parts shape said ((8, length (range c.args.header.now 8 504)) ∷ []) _ _ (λ i le. ((λ from to. omega (arith, size)), tt)) (c.in_ok-write.ensures.does.touched told).bytes cleared in
    on_ok_weaker c.barrier.result (λ is. subst (HasParts shape said) (sym (ap (λ (x : Content). x.bytes) is)) parts) (c.barrier.ensures.settled told)

pub returns-clause-numbers : goal.returns-clause-numbers
returns-clause-numbers g c told =
    let m = g.M.Media in
    let header = c.args.header.now in
    let cleared = (m.view c.clear_rows.new.media).content.bytes in
    let size : length (range header 8 504) ≡ 504 = length-range header 8 504 (omega arith) in
    let long : length cleared ≡ media_len c.args.shape.now = g.met.M.Media.long c.clear_rows.new.media told ∙ c.in_ok-clear_rows.ensures.does.size ∙ c.in_ok-write_pages.ensures.does.size ∙ c.requires.size in
    on_ok_weaker c.barrier.result
    (λ is. ap (λ (x : Content). range x.bytes 8 504) (is ∙ ap settled (c.in_ok-write.ensures.written told))
    ∙ range-put cleared (range header 8 504) 8 504 (sym size) (omega (arith, size, long)))
    (c.barrier.ensures.settled told)

pub returns-clause-does : goal.returns-clause-does
returns-clause-does g c =
    let m = g.M.Media in
    let shape = c.args.shape.now in
    let old = m.view c.args.media.now in
    let all = behind_mark shape in
    let size : length (range c.args.header.now 8 504) ≡ 504 = length-range c.args.header.now 8 504 (omega arith) in
    let pages : SoFar m.tells all old (m.view c.write_pages.new.media) = goes_on m.tells all (behind_header shape) old old _ (λ told i out. (past_mark shape i out).0) (none_yet m.tells all old) c.in_ok-write_pages.ensures.does refl in
    let rows : SoFar m.tells all old (m.view c.clear_rows.new.media) = goes_on m.tells all (behind_header shape) old _ _ (λ told i out. (past_mark shape i out).0) pages c.in_ok-clear_rows.ensures.does refl in
    let wrote : SoFar m.tells all old (m.view c.write.new.self) = goes_on m.tells all ((8, length (range c.args.header.now 8 504)) ∷ []) old _ _ (λ told i out. numbers_range _ i size (past_mark shape i out).1) rows c.in_ok-write.ensures.does refl in
    then_barrier m.tells all old _ _ c.barrier.result wrote c.barrier.ensures.does

pub returns-clause-cells : goal.returns-clause-cells
returns-clause-cells g c told =
    let shape = c.args.shape.now in
    let size : length (range c.args.header.now 8 504) ≡ 504 = length-range c.args.header.now 8 504 (omega arith) in
    let rows = cells_then shape _ _ _ (c.in_ok-write_pages.ensures.cells told) (c.in_ok-clear_rows.ensures.cells told) in
    let numbers = cells_then shape _ _ _ rows (header_spares shape 8 (length (range c.args.header.now 8 504)) _ _ (c.in_ok-write.ensures.does.touched told) (omega (arith, size))) in
    cells_then shape _ _ _ numbers (none_spares shape _ _ (c.barrier.ensures.does.touched told))
