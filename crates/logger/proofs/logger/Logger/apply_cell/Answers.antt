use Rattle.std.proofs.Common.{List, [], ◌∷◌, ℕ, IsTrue, refl, sym, ◌∙◌, ap, subst}
use Rattle.std.specs.Prelude.{is_ok}
use Rattle.std.proofs.lemmas.Result.{on_ok_weaker}
use Rattle.mars_base.specs.Bytes.{put}
use Rattle.pcm_media.proofs.Left.{same_bytes}
use Rattle.pcm_media.proofs.Writing.{writes_on, writes_within}
use Rattle.array_shape.specs.Places.{place_of}
use Rattle.array_shape.specs.Logged.{places_of}
use Rattle.array_image.specs.Image.{cell_of, cell_part, IsGoodCell}
use Rattle.logger.proofs.Ranges.{writes_told}
use Rattle.mars_base.proofs.Costing.{costs_then, so_far}
use Rattle.logger.proofs.logger.Logger.apply_cell.Goals as goal

pub returns-clause-written : goal.returns-clause-written
returns-clause-written g c told =
    let shape = c.args.self.shape in
    let cell = c.in_ok-read_cell.ensures.cell told in
    let same = same_bytes _ _ (c.read_cell.ensures.does.touched told) in
    let good = subst (IsGoodCell shape c.args.self.number) (sym cell) (c.requires.good told) in
    on_ok_weaker c.write_part.result (λ is. is ∙ (λ i. let part = cell_part (cell i) in put (same i) (place_of shape part.0) part.1)) (c.write_part.ensures.written told good)

pub returns-clause-does : goal.returns-clause-does
returns-clause-does g c =
    let shape = c.args.self.shape in
    let view = g.M.Media.view in
    let old = view c.args.media.now in
    let mid = view c.read_cell.new.media in
    let new = view c.write_part.new.media in
    let place = places_of shape (cell_part (cell_of shape old.content.bytes c.args.self.number c.args.tid c.args.entry) ∷ []) in
    let written = places_of shape (cell_part c.read_cell.new.cell ∷ []) in
    let read = writes_within g.M.Media.tells place [] old mid c.read_cell.result (λ i out. tt) c.read_cell.ensures.does in
    writes_on g.M.Media.tells place place old mid new c.read_cell.result c.write_part.result (ap is_ok c.in_ok-read_cell.was) (λ i out. out) read
    (writes_told g.M.Media.tells written place mid new c.write_part.result (λ told. ap (λ (cell : List ℕ). places_of shape (cell_part cell ∷ [])) (c.in_ok-read_cell.ensures.cell told)) c.write_part.ensures.does)

pub returns-clause-costs : goal.returns-clause-costs
returns-clause-costs g c =
    let read = c.in_ok-read_cell.ensures.costs.done refl in
    let good : IsTrue g.M.Media.tells → IsGoodCell c.args.self.shape c.args.self.number c.read_cell.new.cell =
    λ told. subst (IsGoodCell c.args.self.shape c.args.self.number) (sym (c.in_ok-read_cell.ensures.cell told)) (c.requires.good told) in
    costs_then g.M.Media.tells 2 1 1 _ _ _ c.write_part.result refl (so_far g.M.Media.tells 1 _ _ read)
    (record { done = λ told. (c.write_part.ensures.costs (good told)).done refl; most = c.write_part.ensures.most })
