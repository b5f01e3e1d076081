use Rattle.std.proofs.Common.{◌≡◌, ℕ, ◌+◌, ◌*◌, ◌/◌, ◌∙◌, ap, arith}
use Rattle.array_shape.specs.Places.{page_count}
use Rattle.array_shape.proofs.shape.Shape.half_page_count.Goals as goal

-- the pages of a logger are even
pub returns-clause-whole : goal.returns-clause-whole
returns-clause-whole c =
    let shape = c.args.self.now in
    let even : shape.pages ≡ shape.pages / 2 + shape.pages / 2 = omega (arith, shape.in_range.even_pages) in
    let both : page_count shape ≡ shape.loggers * (shape.pages / 2) + shape.loggers * (shape.pages / 2) = ap (λ (n : ℕ). shape.loggers * n) even ∙ omega arith in
    omega (arith, both, c.page_count.ensures)
