-- The parts of decided rows, by logger.
use Rattle.std.proofs.Common.{◌≡◌, ℕ, zero, suc, ◌+◌, ◌<◌, ◌≤◌, ◌⊎◌, inl, inr, ⊎_elim, Bool, true, false, cond, ◌&&◌, List, [], ◌∷◌, ◌++◌, length, sym, ◌∙◌, ap, subst, arith}
use Rattle.std.specs.Prelude.{nat_eq}
use Rattle.std.proofs.lemmas.Bool.{cases_Bool, and_parts, and_from, cases_eq, eq-eqb, eqb-true, false_from_ne_true}
use Rattle.array_shape.specs.declared.shape.Shape.{Shape}
use Rattle.array_shape.specs.Places.{media_len}
use Rattle.array_shape.specs.Logged.{Part, AllOwned, AllPlaced, parts_at}
use Rattle.array_image.specs.Joined.{joined}
use Rattle.array_image.proofs.Data.{all_placed, joined_placed}
use Rattle.array_image.proofs.Joined.{joined_none, joined_same}
use Rattle.array_image.proofs.Rows.{parts_owned}
use Rattle.array_image.proofs.Orders.{parts_at-joined, parts_at_each}
use Rattle.array_image.specs.Image.{row_of, row_parts}
use Rattle.array_image.specs.Decided.{decided, decided_as, decided_parts, order_parts, all_decided, orders}
use Rattle.array_image.specs.Standing.{IsGoodRow}

-- whether a test holds of some number below m
pub find_one : (m : ℕ) (p : ℕ → Bool) → ((k : ℕ) × (k < m) × (p k ≡ true)) ⊎ ((k : ℕ) → k < m → p k ≡ false)
find_one zero p = inr (λ k lt. absurd (omega arith))
find_one (suc m) p = ⊎_elim
    (λ so. inl (m, omega arith, so))
    (λ not_so. ⊎_elim
    (λ found. inl (found.0, omega (arith, found.1), found.2))
    (λ none. inr (λ k lt. ⊎_elim (λ is. ap p is ∙ not_so) (λ ne. none k (omega arith)) (cases_eq k m)))
    (find_one m p))
    (cases_Bool (p m))

-- no part of a row that is not decided with this order number
pub no_parts : (shape : Shape) (image : List ℕ) (o t g : ℕ) → (decided shape image g t ≡ true → (row_of shape image g t).order ≡ o → ⊥) → decided_parts shape image o t g ≡ []
no_parts shape image o t g none =
    ap (λ (b : Bool). cond b (row_parts shape image g t) [])
    (false_from_ne_true (decided shape image g t && nat_eq (row_of shape image g t).order o) (λ so.
    let both = and_parts (decided shape image g t) (nat_eq (row_of shape image g t).order o) so in
    none both.0 (eqb-true (row_of shape image g t).order o both.1)))

pub its_parts : (shape : Shape) (image : List ℕ) (o t g : ℕ) → decided shape image g t ≡ true → (row_of shape image g t).order ≡ o → decided_parts shape image o t g ≡ row_parts shape image g t
its_parts shape image o t g so is =
    ap (λ (b : Bool). cond b (row_parts shape image g t) [])
    (and_from (decided shape image g t) (nat_eq (row_of shape image g t).order o) so (eq-eqb (row_of shape image g t).order o is))

pub no_order_parts : (shape : Shape) (image : List ℕ) (o : ℕ) → ((g t : ℕ) → g < shape.loggers → t < shape.numbers → decided shape image g t ≡ true → (row_of shape image g t).order ≡ o → ⊥) → order_parts shape image o ≡ []
no_order_parts shape image o none =
    joined_none (λ t. joined (decided_parts shape image o t) 0 shape.loggers) 0 shape.numbers (λ t le lt'.
    joined_none (decided_parts shape image o t) 0 shape.loggers (λ g le' lt. no_parts shape image o t g (none g t (omega arith) (omega arith))))

module _ (shape : Shape) where
  module _ (image : List ℕ) (long : length image ≡ media_len shape) (good : (g t : ℕ) → g < shape.loggers → t < shape.numbers → decided shape image g t ≡ true → IsGoodRow shape image g t) where
    -- the parts of a decided row are its logger's
    pub parts_own : (o t g : ℕ) → g < shape.loggers → t < shape.numbers → AllOwned shape g (decided_parts shape image o t g)
    parts_own o t g lt lt' = ⊎_elim
        (λ so.
        let row = good g t lt lt' (and_parts (decided shape image g t) (nat_eq (row_of shape image g t).order o) so).0 in
        subst (λ b. AllOwned shape g (cond b (row_parts shape image g t) [])) (sym so) (parts_owned shape image g t (row_of shape image g t).first (row_of shape image g t).count long lt lt' row.fits row.cells))
        (λ not_so. subst (λ b. AllOwned shape g (cond b (row_parts shape image g t) [])) (sym not_so) tt)
        (cases_Bool (decided_as shape image o g t))

    pub order_placed : (o : ℕ) → AllPlaced shape (order_parts shape image o)
    order_placed o = joined_placed shape (λ t. joined (decided_parts shape image o t) 0 shape.loggers) 0 shape.numbers (λ t le lt'.
        joined_placed shape (decided_parts shape image o t) 0 shape.loggers (λ g le' lt. all_placed shape g (decided_parts shape image o t g) (parts_own o t g (omega arith) (omega arith))))

    pub decided_placed : AllPlaced shape (all_decided shape image)
    decided_placed = joined_placed shape (order_parts shape image) 0 orders (λ o le lt. order_placed o)

    -- those of one logger with one order number
    pub at_logger : (o g : ℕ) → g < shape.loggers → parts_at shape g (order_parts shape image o) ≡ joined (λ t. decided_parts shape image o t g) 0 shape.numbers
    at_logger o g lt =
        parts_at_each shape g (λ t. joined (decided_parts shape image o t) 0 shape.loggers) 0 shape.numbers
        ∙ joined_same (λ t. parts_at shape g (joined (decided_parts shape image o t) 0 shape.loggers)) (λ t. decided_parts shape image o t g) 0 shape.numbers (λ t le lt'.
        parts_at-joined shape (decided_parts shape image o t) 0 shape.loggers (λ h le' below. parts_own o t h (omega arith) (omega arith)) g (omega arith) (omega arith))

    pub own_at : (o g : ℕ) → g < shape.loggers → (k n : ℕ) → k + n ≤ shape.numbers → AllOwned shape g (joined (λ t. decided_parts shape image o t g) k n)
    own_at o g lt k zero fits = tt
    own_at o g lt k (suc n) fits = owned_both g (decided_parts shape image o k g) (joined (λ t. decided_parts shape image o t g) (k + 1) n) (parts_own o k g lt (omega arith)) (own_at o g lt (k + 1) n (omega arith))
      where
        owned_both : (g' : ℕ) (ps qs : List Part) → AllOwned shape g' ps → AllOwned shape g' qs → AllOwned shape g' (ps ++ qs)
        owned_both g' [] qs own own' = own'
        owned_both g' (p ∷ ps) qs own own' = (own.0, owned_both g' ps qs own.1 own')
