-- A vector whose slice was written.
use Rattle.std.proofs.Common.{◌≡◌, ◌+◌, ◌≤◌, ℕ, List, ◌++◌, length, take, drop, ap, ◌∙◌, arith, append-nil}
use Rattle.std.proofs.lemmas.List.{take_all, drop_all}
use Rattle.mars_base.specs.Bytes.{put}
use Rattle.mars_base.proofs.Puts.{length-put}

pub written_back : (items slice over more : List ℕ) (at n : ℕ) → n ≡ length items → slice ≡ items → over ≡ put slice at more → at + length more ≤ length items → take n (over ++ drop (length over) items) ≡ put items at more
written_back items slice over more at n count is done fits =
    let all : over ≡ put items at more = done ∙ ap (λ (l : List ℕ). put l at more) is in
    let long : length over ≡ length items = ap length all ∙ length-put items at more fits in
    ap (λ (l : List ℕ). take n (over ++ l)) (drop_all (length over) items (omega arith)) ∙ ap (take n) (append-nil over) ∙ take_all n over (omega arith) ∙ all
