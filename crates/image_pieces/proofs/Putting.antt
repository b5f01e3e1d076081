-- Pieces of 512 bytes, put one behind the other.
use Rattle.std.proofs.Common.{◌≡◌, ℕ, suc, ◌+◌, ◌*◌, ◌≤◌, List, ◌++◌, length, take, drop, sym, ◌∙◌, ap, append_assoc, arith}
use Rattle.std.proofs.lemmas.List.{drop-drop, length-append, length-take, take_at}
use Rattle.mars_base.proofs.Puts.{length-put}
use Rattle.array_image.specs.Joined.{joined}
use Rattle.array_image.proofs.Joined.{joined_more}

module _ (at n : ℕ) (out piece : List ℕ) (inside : at + 512 ≤ length out) (long : length piece ≡ 512) (size : n ≡ 512) where
  pub piece_long : length (take at out ++ (piece ++ drop n (drop at out))) ≡ length out
  piece_long =
      let end : at + n ≡ at + length piece = omega (arith, long, size) in
      ap length (sym (append_assoc (take at out) piece (drop n (drop at out))))
      ∙ ap (λ (l : List ℕ). length ((take at out ++ piece) ++ l)) (drop-drop n at out ∙ ap (λ (m : ℕ). drop m out) end) ∙ length-put out at piece (omega (arith, inside, long))

  pub piece_in : take (at + 512) (take at out ++ (piece ++ drop n (drop at out))) ≡ take at out ++ piece
  piece_in =
      ap (take (at + 512)) (sym (append_assoc (take at out) piece (drop n (drop at out))))
      ∙ take_at (take at out ++ piece) (drop n (drop at out)) (at + 512) (omega (arith, length-append (take at out) piece, length-take at out, inside, long))

pub pieces_more : (f : ℕ → List ℕ) (k j n : ℕ) (out piece : List ℕ) → 512 * j + 512 ≤ length out → length piece ≡ 512 → n ≡ 512 → piece ≡ f (k + j) → take (512 * j) out ≡ joined f k j
    → take (512 * (j + 1)) (take (512 * j) out ++ (piece ++ drop n (drop (512 * j) out))) ≡ joined f k (j + 1)
pieces_more f k j n out piece inside long size is so_far =
    let far : 512 * (j + 1) ≡ 512 * j + 512 = omega arith in
    let one : suc j ≡ j + 1 = omega arith in
    ap (λ (m : ℕ). take m (take (512 * j) out ++ (piece ++ drop n (drop (512 * j) out)))) far ∙ piece_in (512 * j) n out piece inside long size
    ∙ (λ i. so_far i ++ is i) ∙ sym (joined_more f k j) ∙ ap (joined f k) one
