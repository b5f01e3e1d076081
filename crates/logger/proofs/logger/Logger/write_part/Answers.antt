use Rattle.std.proofs.Common.{◌≡◌, ℕ, ◌+◌, ◌-◌, List, [], ◌∷◌, length, take, drop, refl, ◌∙◌, ap, arith}
use Rattle.std.proofs.lemmas.List.{length-take}
use Rattle.std.proofs.lemmas.Result.{on_ok_weaker}
use Rattle.mars_base.specs.Bytes.{put}
use Rattle.array_shape.specs.Places.{place_of}
use Rattle.array_shape.proofs.Apart.{placed_fits}
use Rattle.array_shape.specs.Logged.{places_of}
use Rattle.array_image.specs.Image.{cell_part}
use Rattle.logger.proofs.Ranges.{writes_told}
use Rattle.mars_base.proofs.Costing.{costs_one}
use Rattle.logger.proofs.logger.Logger.write_part.Goals as goal

pub write-requires : goal.write-requires
write-requires g c =
    let owned = c.if-not-has_part.ensures.0 refl in
    let inside = placed_fits c.args.self.shape c.head_of-head.result.addr c.head_of-head.result.len owned.placed in
    let long = length-take (16 + c.from.result - 16) (drop 16 c.args.cell.now) in
    omega (arith, c.requires.size)

pub returns-clause-written : goal.returns-clause-written
returns-clause-written g c told good =
    let shape = c.args.self.shape in
    let head = c.head_of-head.ensures in
    let at = c.byte_at.ensures ∙ (λ i. place_of shape (head i).addr) in
    let count : 16 + c.from.result - 16 ≡ c.head_of-head.result.len = omega arith in
    let part = ap (λ (n : ℕ). take n (drop 16 c.args.cell.now)) count ∙ (λ i. take (head i).len (drop 16 c.args.cell.now)) in
    on_ok_weaker c.write.result (λ is. (λ i. (is i).bytes) ∙ (λ i. put (g.M.Media.view c.args.media.now).content.bytes (at i) (part i))) (c.write.ensures.written told)

pub returns-clause-does : goal.returns-clause-does
returns-clause-does g c =
    let shape = c.args.self.shape in
    let view = g.M.Media.view in
    let written : List (ℕ × ℕ) = (c.byte_at.result, length (take (16 + c.from.result - 16) (drop 16 c.args.cell.now))) ∷ [] in
    let place = places_of shape (cell_part c.args.cell.now ∷ []) in
    writes_told g.M.Media.tells written place (view c.args.media.now) (view c.write.new.self) c.write.result (λ told.
    let head = c.head_of-head.ensures in
    let at = c.byte_at.ensures ∙ (λ i. place_of shape (head i).addr) in
    let count : 16 + c.from.result - 16 ≡ c.head_of-head.result.len = omega arith in
    let part = ap (λ (n : ℕ). take n (drop 16 c.args.cell.now)) count ∙ (λ i. take (head i).len (drop 16 c.args.cell.now)) in
    λ i. (at i, length (part i)) ∷ []) c.write.ensures.does

pub returns-clause-costs : goal.returns-clause-costs
returns-clause-costs g c good = costs_one _ _ _ c.write.result c.write.ensures.ticks
