-- The halves of a list of pairs.
use Rattle.std.proofs.Common.{◌≡◌, ℕ, zero, suc, List, [], ◌∷◌, ◌++◌, take, drop, sym, ◌∙◌, ap, append_assoc}
use Rattle.page_store.specs.Pairs.{Pair}
use Rattle.record_slots.specs.Places.{AreGiven}

-- the first n of a list, and the rest
pub given_take : (bytes : List ℕ) (table n : ℕ) (ps : List Pair) → AreGiven bytes table ps → AreGiven bytes table (take n ps) × AreGiven bytes table (drop n ps)
given_take bytes table zero ps g = (tt, g)
given_take bytes table (suc n) [] g = (tt, tt)
given_take bytes table (suc n) (p ∷ ps) g = let h = given_take bytes table n ps g.2 in ((g.0, g.1, h.0), h.1)

pub joined_two : (a b rest whole : List Pair) → a ++ b ≡ whole → a ++ (b ++ rest) ≡ whole ++ rest
joined_two a b rest whole e = sym (append_assoc a b rest) ∙ ap (λ (l : List Pair). l ++ rest) e

pub given_append : (bytes : List ℕ) (table : ℕ) (xs ys : List Pair) → AreGiven bytes table xs → AreGiven bytes table ys → AreGiven bytes table (xs ++ ys)
given_append bytes table [] ys a b = b
given_append bytes table (x ∷ xs) ys a b = (a.0, a.1, given_append bytes table xs ys a.2 b)
