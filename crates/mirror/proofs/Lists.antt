-- Lists after a write, and parts of them.
use Rattle.std.proofs.Common.{◌≡◌, ℕ, ◌+◌, ◌≤◌, List, length, take, arith, rules}
use Rattle.std.proofs.lemmas.List.{same_lists, places}
use Rattle.mars_base.specs.Bytes.{put}

-- a write within the front of a list
pub take-put : (n at : ℕ) (more bytes : List ℕ) → at + length more ≤ n → n ≤ length bytes → take n (put bytes at more) ≡ put (take n bytes) at more
take-put n at more bytes within le = same_lists _ _ (search (rules, places)) (λ k d h. grind (arith, places))
