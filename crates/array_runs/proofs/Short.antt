-- The data of an array is short.
use Rattle.std.proofs.Common.{◌≡◌, ℕ, ◌*◌, ◌^◌, ◌<◌, ◌≤◌, List, length, sym, ap, ◌∙◌, arith}
use Rattle.std.proofs.Math.Nat.{mul-le-mul_right}
use Rattle.array_shape.specs.declared.shape.Shape.{Shape}
use Rattle.array_shape.specs.Places.{data_len}
use Rattle.array_image.specs.Decided.{all_decided}
use Rattle.array_image.specs.Image.{data_of}
use Rattle.array_image.proofs.Applied.{length-applied}
use Rattle.array_image.proofs.Data.{length-data_of, all_fit_in}
use Rattle.array_image.proofs.Parts.{decided_placed}
use Rattle.eaw_device.specs.Opens.{Opens}

pub data_short : (shape : Shape) (image bytes : List ℕ) → Opens shape image bytes → length bytes < 2 ^ 32
data_short shape image bytes opens =
    let lawful = opens.stands.lawful in
    let first : length (data_of shape image) ≡ data_len shape = length-data_of shape image in
    let fits = all_fit_in shape (all_decided shape image) image (decided_placed shape image lawful.long lawful.good) in
    let long : length bytes ≡ data_len shape = ap length (sym opens.stands.gives) ∙ length-applied (all_decided shape image) (data_of shape image) fits ∙ first in
    let r = shape.in_range in
    let most : shape.loggers * shape.pages ≤ 8 * shape.pages = mul-le-mul_right shape.pages r.most_loggers in
    omega (arith, long, most, r.most_pages)
