use Rattle.std.proofs.Common.{◌≡◌, ℕ, List, ◌+◌, ◌-◌, ◌*◌, ◌≤◌, length, ap, ◌∙◌, arith}
use Rattle.image_pieces.specs.Image.{page_of}
use Rattle.image_pieces.proofs.Putting.{piece_long, pieces_more}
use Rattle.image_pieces.proofs.filling.fill_pages.Goals as goal

pub loop-j-preserved : goal.loop-j-preserved
loop-j-preserved g c =
    let f : ℕ → List ℕ = page_of c.args.shape.now (g.P.PageSource.pages c.args.source.now) c.args.logger in
    let inside : 512 * c.loop-j.j + 512 ≤ length c.loop-j.out = omega (arith, c.loop-j.invariant.long, c.loop-j-test.true, c.requires.most) in
    let size : 512 * c.loop-j.j + 512 - 512 * c.loop-j.j ≡ 512 = omega arith in
    let long : length c.copy_from_slice.new.self ≡ 512 = ap length c.copy_from_slice.ensures.after ∙ omega arith in
    record {
      long = piece_long (512 * c.loop-j.j) (512 * c.loop-j.j + 512 - 512 * c.loop-j.j) c.loop-j.out c.copy_from_slice.new.self inside long size ∙ c.loop-j.invariant.long;
      all = pieces_more f c.args.page c.loop-j.j (512 * c.loop-j.j + 512 - 512 * c.loop-j.j) c.loop-j.out c.copy_from_slice.new.self inside long size (c.copy_from_slice.ensures.after ∙ c.page.ensures ∙ ap (g.P.PageSource.pages c.args.source.now) c.number_of.ensures) c.loop-j.invariant.all;
    }
