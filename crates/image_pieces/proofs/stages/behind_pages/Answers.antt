use Rattle.std.proofs.Common.{◌≡◌, ◌-◌, ℕ, ◌+◌, ◌++◌, ap, arith}
use Rattle.array_image.specs.Joined.{joined}
use Rattle.image_pieces.specs.Image.{page_of, region_of}
use Rattle.image_pieces.proofs.stages.behind_pages.Goals as goal

pub returns-then-page-shape-clause-left : goal.returns-then-page-shape-clause-left
returns-then-page-shape-clause-left c = λ said.
    let none : 0 ≡ c.args.shape.now.pages - c.args.page = omega (arith, c.if-page-shape.true) in
    ap (λ (n : ℕ). joined (page_of c.args.shape.now said c.args.logger) c.args.page n ++ joined (region_of c.args.shape.now said) (c.args.logger + 1) (c.args.shape.now.loggers - (c.args.logger + 1))) none
