-- Keys and slots among pairs, one by one.
use Rattle.std.proofs.Common.{◌≡◌, ℕ, true, false, nat_eq, inl, inr, List, [], ◌∷◌, get_or, refl}
use Rattle.std.specs.List.{find}
use Rattle.std.specs.Option.{unwrap_or}
use Rattle.std.proofs.lemmas.Bool.Decides.{eqb_tells}
use Rattle.page_store.specs.Pairs.{Pair, found}
use Rattle.index_pages.specs.Keys.{key_at}

pub get_key : (ps : List Pair) (n : ℕ) → (get_or ps n (0, 0)).0 ≡ key_at ps n
get_key ps n = refl

-- what the first pair of a key leads to, and 0 if there is none
pub slot_found : (ps : List Pair) (key : ℕ) → (unwrap_or (find (λ p. nat_eq p.0 key) ps) (0, 0)).1 ≡ unwrap_or (found ps key) 0
slot_found [] key = refl
slot_found (p ∷ ps) key = elim (eqb_tells p.0 key) [
  | inl h ↦ let e : nat_eq p.0 key ≡ true = h.0 in rw e refl
  | inr h ↦ let e : nat_eq p.0 key ≡ false = h.0 in rw e (slot_found ps key)
]
