use Rattle.std.proofs.Common.{◌≡◌, ℕ, ◌*◌, length, replicate, take, sym, ap, ◌∙◌, arith}
use Rattle.std.proofs.lemmas.List.{length-take}
use Rattle.image_pieces.proofs.filling.pages_piece.Goals as goal

pub returns-then-is_zero-clause-bytes : goal.returns-then-is_zero-clause-bytes
returns-then-is_zero-clause-bytes g c =
    let long : length (take (512 * c.args.count) c.fill_pages.new.out) ≡ 512 * c.args.count = length-take (512 * c.args.count) c.fill_pages.new.out ∙ omega (arith, c.requires.most) in
    sym (c.is_zero.ensures c.if-is_zero.true ∙ ap (λ (n : ℕ). replicate n 0) long) ∙ c.fill_pages.ensures
