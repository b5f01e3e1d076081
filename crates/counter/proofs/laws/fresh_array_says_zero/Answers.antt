use Rattle.std.proofs.Common.{ℕ, ◌<◌, List, drop, sym, ◌∙◌, ap, arith}
use Rattle.std.proofs.Math.Nat.{mul-le-mul_right}
use Rattle.byteorder.specs.Endian.{little_number}
use Rattle.byteorder.specs.Numbers.{little_from-take}
use Rattle.array_shape.specs.Places.{page_count}
use Rattle.array_image.specs.Image.{data_of}
use Rattle.counter.proofs.laws.fresh_array_says_zero.Goals as goal

pub returns : goal.returns
returns c shape content shaped fresh =
    let bytes = data_of shape content.bytes in
    let page : 2 < page_count shape = omega (arith, shaped.some_pages, mul-le-mul_right shape.pages shaped.some_loggers) in
    little_from-take 0 8 8 (drop 1024 bytes) (omega arith)
    ∙ sym (little_from-take 0 8 512 (drop 1024 bytes) (omega arith))
    ∙ ap (λ (l : List ℕ). little_number 8 l) (fresh.parts.pages 2 page)
