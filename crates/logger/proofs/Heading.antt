-- A cell that is put together from its head and its bytes.
use Rattle.std.proofs.Common.{◌≡◌, ℕ, ◌+◌, List, ◌++◌, length, take, ◌∙◌, ap, arith}
use Rattle.std.proofs.lemmas.List.{take-append-le, take_all, length-append}
use Rattle.std.proofs.lemmas.Slice.{take-put_mid}
use borrow.Rule.Slice.PartMut.{put_mid}

-- a head, then bytes behind it
pub headed : (head rest bytes head_is bytes_are : List ℕ) (k : ℕ) → length head_is ≡ 16 → head ≡ head_is → bytes ≡ bytes_are → (n : ℕ) → n ≡ 16 + length bytes_are → take n (put_mid 16 k (head ++ rest) bytes) ≡ head_is ++ bytes_are
headed head rest bytes head_is bytes_are k long is are n all =
    let long' : length head ≡ 16 = ap length is ∙ long in
    let long'' : length bytes ≡ length bytes_are = ap length are in
    take-put_mid 16 k (head ++ rest) bytes n (omega (arith, all, long'')) (omega (arith, long', length-append head rest))
    ∙ (λ i. (take-append-le 16 head rest (omega (arith, long')) ∙ take_all 16 head (omega (arith, long')) ∙ is) i ++ are i)
