-- The test of a page of a tree, and what it owes of pages.
use Rattle.std.proofs.Common.{◌≡◌, ◌≢◌, ℕ, zero, suc, ◌-◌, ◌<◌, ◌≤◌, ◌⊎◌, inl, inr, Bool, List, [], ◌∷◌, None, Result, Ok, Err, refl, sym, ◌∙◌, ap, subst, arith}
use Rattle.array_shape.specs.declared.shape.Shape.{Shape}
use Rattle.eaw_face.specs.Command.{Command}
use Rattle.eaw_face.specs.StoreView.{StoreView}
use Rattle.record_slots.specs.declared.super_page.Super.{Super}
use Rattle.page_store.specs.Index.{index_pages_of}
use Rattle.page_store.specs.Pairs.{Pair}
use Rattle.page_store.specs.Tested.{Excerpt, Plan, at_end, holding, reading, in_turn, Brings, passes, stops}
use Rattle.page_store.specs.declared.index_fault.CheckFault.{CheckFault}
use Rattle.page_store.specs.declared.index_fault.CheckFault.TheVariants.{Damaged}
use Rattle.index_pages.specs.Keys.{key_end}
use Rattle.index_pages.specs.Page.{level_said, pairs_said}
use Rattle.index_pages.specs.Plans.{Tries, slots_plan}
use Rattle.index_pages.proofs.Causing.{still_same}
use Rattle.index_pages.proofs.Trying.{Owns, owns_end, owns_holding, owns_reading, owns_turn, owns_slots, so_first, so_holds, so_bad, so_ends}
use Rattle.btree_laws.specs.Tree.{next_low}
use Rattle.btree_pages.specs.Testing.{IsLeafSaid, IsInnerSaid, children_plan, page_plan, under_plan, tree_plan}

module _ (tells : Bool) (calls : Command → ℕ) (shape : Shape) (front : Super) (root table : ℕ) (page low high : ℕ) (said : List ℕ) (old : StoreView) where
  -- it is damaged
  pub page_bad : (level : ℕ) → (level ≡ 0 → IsLeafSaid root page low high said → ⊥) → (level ≢ 0 → IsInnerSaid front.next_page level low said → ⊥)
      → (let r : Result (Unit {0}) CheckFault = Err (Damaged page) in Tries tells calls calls (page_plan shape front root table level page low high said) old old r)
  page_bad zero leaf inner = so_bad _ _ _ (so_first (page_plan shape front root table 0 page low high said)) (leaf refl)
  page_bad (suc l) leaf inner = so_bad _ _ _ (so_first (page_plan shape front root table (suc l) page low high said)) (inner (λ is. omega (arith, is)))

  module _ (calls_now : Command → ℕ) (new : StoreView) (r : Result (Unit {0}) CheckFault) where
    -- a leaf is good, and its slots are tested
    pub page_leaf : (level : ℕ) → level ≡ 0 → IsLeafSaid root page low high said → Tries tells calls calls_now (slots_plan (index_pages_of shape) front.next_slot table page None (pairs_said said)) old new r
        → Tries tells calls calls_now (page_plan shape front root table level page low high said) old new r
    page_leaf zero is leaf slots = so_ends (still_same tells old) refl _ r (so_holds _ _ _ (so_first (page_plan shape front root table 0 page low high said)) leaf) slots
    page_leaf (suc l) is leaf slots = absurd (omega (arith, is))

    -- an inner page is, and its children are
    pub page_inner : (level : ℕ) → level ≢ 0 → IsInnerSaid front.next_page level low said → Tries tells calls calls_now (children_plan (under_plan shape front root table (level - 1)) (pairs_said said) high) old new r
        → Tries tells calls calls_now (page_plan shape front root table level page low high said) old new r
    page_inner zero some inner children = absurd (some refl)
    page_inner (suc l) some inner children =
        so_ends (still_same tells old) refl _ r (so_holds _ _ _ (so_first (page_plan shape front root table (suc l) page low high said)) inner)
        (subst (λ (n : ℕ). Tries tells calls calls_now (children_plan (under_plan shape front root table n) (pairs_said said) high) old new r) (let e : suc l - 1 ≡ l = omega arith in e) children)

owns_children : (Known : ℕ → Type 0) (test : ℕ → ℕ → ℕ → Plan) (es : List Pair) (high : ℕ) → ((page low high : ℕ) → Owns Known (test page low high)) → Owns Known (children_plan test es high)
owns_children Known test [] high owns = owns_end Known
owns_children Known test (e ∷ es) high owns = owns_turn Known _ _ (owns e.1 e.0 (next_low es high)) (owns_children Known test es high owns)

owns_page : (Known : ℕ → Type 0) (shape : Shape) (front : Super) (root table level page low high : ℕ) (said : List ℕ) → Known page → Owns Known (page_plan shape front root table level page low high said)
owns_page Known shape front root table zero page low high said known = owns_holding Known _ page _ known (owns_slots Known _ _ _ _ _ _ known tt)
owns_page Known shape front root table (suc l) page low high said known =
    owns_holding Known _ page _ known (owns_children Known _ _ _ (λ page low high. owns_reading Known page 0 512 _ (λ said. owns_page (λ p. Known p ⊎ (p ≡ page)) shape front root table l page low high said (inr refl))))

pub owns_tree : (shape : Shape) (Known : ℕ → Type 0) (front : Super) (root table : ℕ) → Owns Known (tree_plan shape front root table)
owns_tree shape Known front root table = owns_reading Known root 0 512 _ (λ said. owns_holding _ _ _ _ (inr refl) (owns_page _ shape front root table (level_said said) root 0 key_end said (inr refl)))
