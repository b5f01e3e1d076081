use Rattle.std.proofs.Common.{◌≡◌, ◌∙◌, [], ◌∷◌, length, refl, sym, subst, arith}
use Rattle.std.proofs.lemmas.Result.{on_ok_weaker}
use Rattle.mars_base.proofs.Going.{then}
use Rattle.array_image.proofs.Calls.{SoFar, none_yet, goes_on, hands_on, ends_with}
use Rattle.array_shape.specs.Places.{media_len}
use Rattle.eaw_device.specs.Made.{IsMade, behind_mark}
use Rattle.eaw_device.proofs.MadeLemmas.{whole}
use Rattle.eaw_device.proofs.NewArrays.{parts_left, new_left, made_with, old_left, none_left, last_left}
use Rattle.eaw_device.proofs.Spared.{cells_then, header_spares}
use Rattle.eaw_device.proofs.making.write_array.Goals as goal

pub returns-in_err-drop_mark-clause-any_moment : goal.returns-in_err-drop_mark-clause-any_moment
returns-in_err-drop_mark-clause-any_moment g c told =
    let m = g.M.Media in
    old_left c.args.shape.now (g.P.PageSource.pages c.args.source.now) (m.view c.args.media.now) (m.view c.drop_mark.new.media) (c.drop_mark.ensures.any_moment told)

pub returns-in_err-drop_mark-clause-cells : goal.returns-in_err-drop_mark-clause-cells
returns-in_err-drop_mark-clause-cells g c told = header_spares c.args.shape.now _ _ _ _ (c.drop_mark.ensures.does.touched told) (omega arith)

pub returns-in_err-drop_mark-clause-does : goal.returns-in_err-drop_mark-clause-does
returns-in_err-drop_mark-clause-does g c =
    let m = g.M.Media in
    let shape = c.args.shape.now in
    let old = m.view c.args.media.now in
    let all = (0, media_len shape) ∷ [] in
    hands_on m.tells all ((0, 8) ∷ []) old old _ (λ told i out. (whole shape i out).1) (none_yet m.tells all old) c.from_residual.result c.from_residual.ensures.0 c.in_err-drop_mark.ensures.does

pub returns-in_err-write_parts-clause-any_moment : goal.returns-in_err-write_parts-clause-any_moment
returns-in_err-write_parts-clause-any_moment g c told =
    let m = g.M.Media in
    let shape = c.args.shape.now in
    let said = g.P.PageSource.pages c.args.source.now in
    let old = m.view c.args.media.now in
    let dropped = m.view c.drop_mark.new.media in
    let parted = m.view c.write_parts.new.media in
    then (old_left shape said old dropped (c.in_ok-drop_mark.ensures.any_moment told))
    (none_left shape said old.content dropped parted (parts_left shape dropped parted (c.in_ok-drop_mark.ensures.sure told) (c.in_ok-drop_mark.ensures.dropped told) (c.write_parts.ensures.does.time told)))

pub returns-in_err-write_parts-clause-cells : goal.returns-in_err-write_parts-clause-cells
returns-in_err-write_parts-clause-cells g c told =
    let shape = c.args.shape.now in
    cells_then shape _ _ _ (header_spares shape _ _ _ _ (c.in_ok-drop_mark.ensures.does.touched told) (omega arith)) (c.write_parts.ensures.cells told)

pub returns-in_err-write_parts-clause-does : goal.returns-in_err-write_parts-clause-does
returns-in_err-write_parts-clause-does g c =
    let m = g.M.Media in
    let shape = c.args.shape.now in
    let old = m.view c.args.media.now in
    let all = (0, media_len shape) ∷ [] in
    let dropped : SoFar m.tells all old (m.view c.drop_mark.new.media) = goes_on m.tells all ((0, 8) ∷ []) old old _ (λ told i out. (whole shape i out).1) (none_yet m.tells all old) c.in_ok-drop_mark.ensures.does refl in
    hands_on m.tells all (behind_mark shape) old _ _ (λ told i out. (whole shape i out).0) dropped c.from_residual-in_err-write_parts.result c.from_residual-in_err-write_parts.ensures.0 c.in_err-write_parts.ensures.does

pub returns-clause-made : goal.returns-clause-made
returns-clause-made g c told =
    let m = g.M.Media in
    let shape = c.args.shape.now in
    let said = g.P.PageSource.pages c.args.source.now in
    let parted = (m.view c.write_parts.new.media).content in
    let long : length parted.bytes ≡ media_len shape = g.met.M.Media.long c.write_parts.new.media told ∙ c.in_ok-write_parts.ensures.does.size ∙ c.in_ok-drop_mark.ensures.does.size ∙ c.requires.size in
    let made = made_with shape said parted c.write_array_header.new.out long (omega arith) c.write_array_header.ensures.written (c.in_ok-write_parts.ensures.parts told) (c.in_ok-write_parts.ensures.numbers told) in
    on_ok_weaker c.write_mark.result (λ is. subst (IsMade shape said) (sym is) made) (c.write_mark.ensures.marked told)

pub returns-clause-any_moment : goal.returns-clause-any_moment
returns-clause-any_moment g c told =
    let m = g.M.Media in
    let shape = c.args.shape.now in
    let said = g.P.PageSource.pages c.args.source.now in
    let old = m.view c.args.media.now in
    let dropped = m.view c.drop_mark.new.media in
    let parted = m.view c.write_parts.new.media in
    let long : length parted.content.bytes ≡ media_len shape = g.met.M.Media.long c.write_parts.new.media told ∙ c.in_ok-write_parts.ensures.does.size ∙ c.in_ok-drop_mark.ensures.does.size ∙ c.requires.size in
    then (old_left shape said old dropped (c.in_ok-drop_mark.ensures.any_moment told))
    (then (none_left shape said old.content dropped parted (parts_left shape dropped parted (c.in_ok-drop_mark.ensures.sure told) (c.in_ok-drop_mark.ensures.dropped told) (c.in_ok-write_parts.ensures.does.time told)))
    (last_left shape said old.content parted (m.view c.write_mark.new.media)
    (new_left shape said parted (m.view c.write_mark.new.media) c.write_array_header.new.out long (omega arith) c.write_array_header.ensures.written
    (c.in_ok-write_parts.ensures.parts told) (c.in_ok-write_parts.ensures.numbers told) (c.in_ok-write_parts.ensures.sure told) (c.write_mark.ensures.does.time told))))

pub returns-clause-cells : goal.returns-clause-cells
returns-clause-cells g c told =
    let shape = c.args.shape.now in
    cells_then shape _ _ _ (cells_then shape _ _ _ (header_spares shape _ _ _ _ (c.in_ok-drop_mark.ensures.does.touched told) (omega arith)) (c.in_ok-write_parts.ensures.cells told))
    (header_spares shape _ _ _ _ (c.write_mark.ensures.does.touched told) (omega arith))

pub returns-clause-does : goal.returns-clause-does
returns-clause-does g c =
    let m = g.M.Media in
    let shape = c.args.shape.now in
    let old = m.view c.args.media.now in
    let all = (0, media_len shape) ∷ [] in
    let dropped : SoFar m.tells all old (m.view c.drop_mark.new.media) = goes_on m.tells all ((0, 8) ∷ []) old old _ (λ told i out. (whole shape i out).1) (none_yet m.tells all old) c.in_ok-drop_mark.ensures.does refl in
    let parted : SoFar m.tells all old (m.view c.write_parts.new.media) = goes_on m.tells all (behind_mark shape) old _ _ (λ told i out. (whole shape i out).0) dropped c.in_ok-write_parts.ensures.does refl in
    ends_with m.tells all ((0, 8) ∷ []) old _ _ (λ told i out. (whole shape i out).1) parted c.write_mark.result c.write_mark.ensures.does
