-- The parts of an action, one after another.
use Rattle.std.proofs.Common.{◌≡◌, ℕ, zero, suc, ◌+◌, ◌<◌, List, [], ◌∷◌, ◌++◌, length, get_or, take, drop, refl, ◌∙◌, ap, arith}
use Rattle.array_shape.specs.Logged.{Part, AllPlaced}
use Rattle.eaw_face.specs.StoreView.{StoreView}
use Rattle.page_store.specs.Shown.{IsInPage, address}
use Rattle.page_store.proofs.Writing.{in_page_placed}
use Rattle.index_pages.specs.Parts.{pages_named, parts_named, AreInPages}
use Rattle.index_pages.specs.declared.action.PagePart.{PagePart}

more : (ps : List PagePart) (i : ℕ) (d : PagePart) → i < length ps
    → parts_named (take (suc i) ps) ≡ parts_named (take i ps) ++ (address (get_or ps i d).page (get_or ps i d).at, (get_or ps i d).bytes.now) ∷ []
more [] i d lt = absurd (omega arith)
more (p ∷ ps) zero d lt = refl
more (p ∷ ps) (suc i) d lt = ap (λ (l : List Part). (address p.page p.at, p.bytes.now) ∷ l) (more ps i d (omega arith))

left : (ps : List PagePart) (i : ℕ) (d : PagePart) → i < length ps → pages_named (drop i ps) ≡ (get_or ps i d).page ∷ pages_named (drop (suc i) ps)
left [] i d lt = absurd (omega arith)
left (p ∷ ps) zero d lt = refl
left (p ∷ ps) (suc i) d lt = left ps i d (omega arith)

-- one more part was written
pub parts_more : (ps : List PagePart) (i : ℕ) (d : PagePart) → i < length ps
    → parts_named (take (i + 1) ps) ≡ parts_named (take i ps) ++ (address (get_or ps i d).page (get_or ps i d).at, (get_or ps i d).bytes.now) ∷ []
parts_more ps i d lt = ap (λ (n : ℕ). parts_named (take n ps)) (let e : i + 1 ≡ suc i = omega arith in e) ∙ more ps i d lt

-- one page fewer is left
pub pages_left : (ps : List PagePart) (i : ℕ) (d : PagePart) → i < length ps → pages_named (drop i ps) ≡ (get_or ps i d).page ∷ pages_named (drop (i + 1) ps)
pages_left ps i d lt = left ps i d lt ∙ ap (λ (n : ℕ). (get_or ps i d).page ∷ pages_named (drop n ps)) (let e : suc i ≡ i + 1 = omega arith in e)

pub inside_at : (store : StoreView) (ps : List PagePart) (i : ℕ) (d : PagePart) → i < length ps → AreInPages store ps
    → (0 < length (get_or ps i d).bytes.now) × IsInPage store (get_or ps i d).page (get_or ps i d).at (length (get_or ps i d).bytes.now)
inside_at store [] i d lt are = absurd (omega arith)
inside_at store (p ∷ ps) zero d lt are = (are.0, are.1)
inside_at store (p ∷ ps) (suc i) d lt are = inside_at store ps i d (omega arith) are.2

pub all_placed : (store : StoreView) (ps : List PagePart) → AreInPages store ps → AllPlaced store.shape (parts_named ps)
all_placed store [] are = tt
all_placed store (p ∷ ps) are = (in_page_placed store p.page p.at (length p.bytes.now) are.0 are.1, all_placed store ps are.2)
