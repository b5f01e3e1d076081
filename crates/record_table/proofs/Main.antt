-- The root of the table `main` is a page of each array.
use Rattle.std.proofs.Common.{◌*◌, ◌<◌, ◌≤◌, arith}
use Rattle.std.proofs.lemmas.Nat.{mul-le}
use Rattle.array_shape.specs.declared.shape.Shape.{Shape}
use Rattle.array_shape.specs.Places.{page_count}

pub root_there : (shape : Shape) → 1 < page_count shape
root_there shape =
    let most : 1 * 4 ≤ shape.loggers * shape.pages = mul-le 1 4 shape.loggers shape.pages shape.in_range.some_loggers shape.in_range.some_pages in
    omega (arith, most)
