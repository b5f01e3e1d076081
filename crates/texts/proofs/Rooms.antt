-- Pieces that are put into a room one after another.
use Rattle.std.proofs.Common.{◌≡◌, ℕ, ◌+◌, ◌<◌, ◌≤◌, List, [], ◌∷◌, ◌++◌, length, take, drop, get_or, sym, ap, ◌∙◌, arith}
use Rattle.std.specs.List.{flat_map, sum_by}
use Rattle.std.proofs.lemmas.List.{append-nil, take_more}
use Rattle.std.proofs.lemmas.List.Sums.{sum_by-drop_more}
use Rattle.std.proofs.lemmas.List.Concat.{flat_map-append}

module _ {X : Type 0} (most : X → ℕ) (xs : List X) (i : ℕ) (d : X) where
  -- there is room for the next piece,
  pub room_at : (so_far : ℕ) → i < length xs → so_far + sum_by most (drop i xs) ≤ sum_by most xs → sum_by most xs ≤ 80 → so_far + most (get_or xs i d) ≤ 80
  room_at so_far there room all =
      let split : sum_by most (drop i xs) ≡ most (get_or xs i d) + sum_by most (drop (i + 1) xs) = sum_by-drop_more most xs i d there in
      omega (arith, split, room, all)

  -- and behind it for the others
  pub room_behind : (so_far now : ℕ) → i < length xs → so_far + sum_by most (drop i xs) ≤ sum_by most xs → now ≤ so_far + most (get_or xs i d) → now + sum_by most (drop (i + 1) xs) ≤ sum_by most xs
  room_behind so_far now there room next =
      let split : sum_by most (drop i xs) ≡ most (get_or xs i d) + sum_by most (drop (i + 1) xs) = sum_by-drop_more most xs i d there in
      omega (arith, split, room, next)

-- one more piece
pub text_more : {X : Type 0} (f : X → List ℕ) (xs : List X) (i : ℕ) (d : X) (text now : List ℕ) → i < length xs → text ≡ flat_map f (take i xs) → now ≡ text ++ f (get_or xs i d)
    → now ≡ flat_map f (take (i + 1) xs)
text_more f xs i d text now there is more =
    let next = get_or xs i d in
    more ∙ ap (λ (t : List ℕ). t ++ f next) is ∙ ap (λ (t : List ℕ). flat_map f (take i xs) ++ t) (sym (append-nil (f next)))
    ∙ sym (flat_map-append f (take i xs) (next ∷ [])) ∙ ap (flat_map f) (sym (take_more xs i d there))
