-- The pages of an array are even in number, so half of them are the indexes'.
use Rattle.std.proofs.Common.{◌≡◌, ℕ, zero, suc, ◌+◌, ◌*◌, ◌/◌, ◌%◌, ◌≤◌, arith}
use Rattle.array_shape.specs.declared.shape.Shape.{Shape}
use Rattle.array_shape.specs.Places.{page_count}
use Rattle.page_store.specs.Index.{index_pages_of}
use Rattle.index_pages.proofs.Sizes.{index_pages_most}

even_times : (a p : ℕ) → p % 2 ≡ 0 → a * p / 2 + a * p / 2 ≡ a * p
even_times zero p even = omega arith
even_times (suc a) p even =
    let one_more : suc a * p ≡ p + a * p = omega arith in
    omega (arith, even_times a p even, one_more)

pub halves : (shape : Shape) → index_pages_of shape + index_pages_of shape ≡ page_count shape
halves shape = even_times shape.loggers shape.pages shape.in_range.even_pages

pub halves_few : (shape : Shape) → index_pages_of shape ≤ 16384
halves_few shape = index_pages_most shape
