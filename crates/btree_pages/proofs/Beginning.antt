-- The steps of an insertion from the root on.
use Rattle.std.proofs.Common.{◌≡◌, ℕ, ◌+◌, ◌<◌, ◌≤◌, ◌⊎◌, inl, inr, Bool, true, false, nat_eq, List, [], ◌∷◌, ◌++◌, length, Option, Some, None, Result, Ok, Err, refl, sym, ◌∙◌, ap, subst, arith}
use Rattle.std.specs.Prelude.{IsTrue, IfSome, if◌then◌else◌}
use Rattle.std.proofs.lemmas.Bool.{false≢true}
use Rattle.std.proofs.lemmas.List.{length-append}
use Rattle.array_shape.specs.declared.shape.Shape.{Shape}
use Rattle.array_shape.specs.Places.{page_count}
use Rattle.eaw_face.specs.Command as store
use Rattle.eaw_face.specs.StoreView.{StoreView}
use Rattle.page_store.specs.Command.{PageCommand}
use Rattle.page_store.specs.Course.{Reading, IsWay}
use Rattle.page_store.specs.Follows.{HasRead, one_reading}
use Rattle.page_store.specs.Looks.{is_failed}
use Rattle.page_store.specs.declared.fault.PageFault.TheVariants as faults
use Rattle.page_store.specs.Index.{Action}
use Rattle.page_store.specs.Pairs.{Pair}
use Rattle.page_store.specs.Runs.{Runs}
use Rattle.page_store.specs.Shown.{Shown}
use Rattle.page_store.specs.Works.{Step, front, onward, aside, acts, Spends, fronts_of, way_of, asides_of, actions_of, AreActs, ActsBy, IsAmong, IsMet, takes_of, Limits, is_done, blamed, blamed_index, insertion_limits, WorksFrom}
use Rattle.page_store.specs.declared.fault.PageFault.{PageFault}
use Rattle.page_store.specs.declared.index_fault.IndexFault.{IndexFault}
use Rattle.page_store.specs.Faults.{as_index}
use Rattle.index_pages.specs.Fetched.{TestCause}
use Rattle.index_pages.specs.Page.{level_said, pairs_said}
use Rattle.index_pages.specs.Peeks.{Peeks, AreAsides}
use Rattle.index_pages.proofs.Working.{spends_none, spends_ill, spends_front, spends_onward, spends_then, spends_act, onwards, asides_plain, met_later, works_of, works_behind, blamed_same}
use Rattle.btree_laws.specs.Descent.{child_for}
use Rattle.btree_pages.specs.Downward.{below, down, tree_finding}
use Rattle.btree_pages.specs.Steps.{known_from, limits_above, limits_below}
use Rattle.btree_pages.proofs.Stepping.{known_two}

-- a way that goes on behind another
pub way_onto : (goes then_goes : List Reading → Option ℕ) (base : List Reading) → then_goes [] ≡ goes base → ((r : Reading) (rs : List Reading) → then_goes (r ∷ rs) ≡ goes ((r ∷ rs) ++ base)) → IsWay goes base
    → (rs : List Reading) → IsWay then_goes rs → IsWay goes (rs ++ base)
way_onto goes then_goes base first more on [] way = on
way_onto goes then_goes base first more on (r ∷ []) way = (sym first ∙ way.0, on)
way_onto goes then_goes base first more on (r ∷ q ∷ rs) way = (sym (more q rs) ∙ way.0, way_onto goes then_goes base first more on (q ∷ rs) way.1)

asides_two : (xs ys : List Step) → AreAsides xs → AreAsides ys → AreAsides (xs ++ ys)
asides_two [] ys are are' = are'
asides_two (aside p at len ∷ xs) ys are are' = asides_two xs ys are are'
asides_two (front ∷ xs) ys are are' = absurd are
asides_two (onward r ∷ xs) ys are are' = absurd are
asides_two (acts a cs ∷ xs) ys are are' = absurd are

module _ {S : Type 0} (tells : Bool) (view : S → StoreView) (calls : S → store.Command → ℕ) (t key root level : ℕ) (pairs : List Pair) (due : List Action) (old : S) where
  -- it ends before the root is split, after so many reads aside
  works_before : (done : Bool) (bad : Option ℕ) (now : S) (steps : List Step) → AreAsides steps → length steps ≤ 2 → (IsTrue tells → length steps ≤ takes_of due + 1) → Spends tells done view calls steps (view old) (view now) → (IsTrue done → ⊥)
      → IfSome bad (λ p. (p < page_count (view old).shape) × ((p ≡ 0) ⊎ IsMet p steps))
      → WorksFrom (0 ∷ root ∷ []) (IsTrue tells) tells done view calls t (below key level pairs) (limits_above level) due bad (view old) (view now)
  works_before done bad now steps are few taken spends not blames =
      let plain = asides_plain t steps are in
      works_of tells view calls (IsTrue tells) done t (below key level pairs) (limits_above level) due due bad (0 ∷ root ∷ []) (view old) (view now) steps spends plain.3
      (omega (arith, plain.0)) (omega (arith, ap (λ (rs : List Reading). length rs) plain.1)) (omega (arith, plain.4, few)) (omega (arith, ap (λ (xs : List Action). length xs) plain.2))
      (λ told. subst (λ (rs : List Reading). IsWay (below key level pairs) rs) (sym plain.1) tt) (blames_of bad blames)
      (λ told. ap (λ (xs : List Action). xs ++ due) plain.2) (λ told is. absurd (not is)) (λ told. omega (arith, plain.4, taken told))
    where
      blames_of : (bad : Option ℕ) → IfSome bad (λ p. (p < page_count (view old).shape) × ((p ≡ 0) ⊎ IsMet p steps)) → IfSome bad (λ p. (p < page_count (view old).shape) × (IsAmong p (0 ∷ root ∷ []) ⊎ IsMet p steps))
      blames_of None blames = tt
      blames_of (Some p) blames = (blames.0, elim blames.1 [ inl super ↦ inl (inl super) | inr met ↦ inr met ])

  pub works_none : (fault : IndexFault) → (let r : Result ℕ IndexFault = Err fault in blamed_index r ≡ None)
      → (let r : Result ℕ IndexFault = Err fault in WorksFrom (0 ∷ root ∷ []) (IsTrue tells) tells (is_done r) view calls t (below key level pairs) (limits_above level) due (blamed_index r) (view old) (view old))
  works_none fault none =
      let r : Result ℕ IndexFault = Err fault in
      works_before false (blamed_index r) old [] tt (omega arith) (λ told. omega arith) (spends_none tells view calls false (view old) (view old) refl) (λ is. absurd (false≢true is))
      (subst (λ (bad : Option ℕ). IfSome bad (λ p. (p < page_count (view old).shape) × ((p ≡ 0) ⊎ IsMet p []))) (sym none) tt)

  -- the first page could not be taken
  pub works_first_err : (T : Type 0) (now : S) (fault : PageFault) → (let r : Result T PageFault = Err fault in Peeks tells view calls (view old) (view now) r)
      → (let r : Result ℕ IndexFault = Err (as_index fault) in WorksFrom (0 ∷ root ∷ []) (IsTrue tells) tells (is_done r) view calls t (below key level pairs) (limits_above level) due (blamed_index r) (view old) (view now))
  works_first_err T now fault peeks =
      let r : Result ℕ IndexFault = Err (as_index fault) in
      works_before false (blamed_index r) now peeks.steps peeks.only (omega (arith, peeks.few)) (λ told. omega (arith, peeks.few)) peeks.spends (λ is. absurd (false≢true is))
      (subst (λ (bad : Option ℕ). IfSome bad (λ p. (p < page_count (view old).shape) × ((p ≡ 0) ⊎ IsMet p peeks.steps))) (sym (blamed_same ℕ T fault)) peeks.blames)

  module _ (T : Type 0) (mid : S) (claim : T) (one : (let r : Result T PageFault = Ok claim in Peeks tells view calls (view old) (view mid) r)) (shape : (view mid).shape ≡ (view old).shape) (two : IsTrue tells → 2 ≤ takes_of due) where
    -- the second one could not
    pub works_second_err : (now : S) (fault : PageFault) → (let r : Result T PageFault = Err fault in Peeks tells view calls (view mid) (view now) r)
        → (let r : Result ℕ IndexFault = Err (as_index fault) in WorksFrom (0 ∷ root ∷ []) (IsTrue tells) tells (is_done r) view calls t (below key level pairs) (limits_above level) due (blamed_index r) (view old) (view now))
    works_second_err now fault peeks =
        let r : Result ℕ IndexFault = Err (as_index fault) in
        let q : Result T PageFault = Err fault in
        let many : length (peeks.steps ++ one.steps) ≤ 2 = omega (arith, length-append peeks.steps one.steps, peeks.few, one.few) in
        works_before false (blamed_index r) now (peeks.steps ++ one.steps) (asides_two peeks.steps one.steps peeks.only one.only) many (λ told. omega (arith, many, two told))
        (spends_then tells view calls false one.steps peeks.steps (view old) (view mid) (view now) one.spends peeks.spends) (λ is. absurd (false≢true is))
        (subst (λ (bad : Option ℕ). IfSome bad (λ p. (p < page_count (view old).shape) × ((p ≡ 0) ⊎ IsMet p (peeks.steps ++ one.steps)))) (sym (blamed_same ℕ T fault)) (blames_of (blamed q) peeks.blames))
      where
        blames_of : (bad : Option ℕ) → IfSome bad (λ p. (p < page_count (view mid).shape) × ((p ≡ 0) ⊎ IsMet p peeks.steps)) → IfSome bad (λ p. (p < page_count (view old).shape) × ((p ≡ 0) ⊎ IsMet p (peeks.steps ++ one.steps)))
        blames_of None blames = tt
        blames_of (Some p) blames = (subst (λ (sh : Shape). p < page_count sh) shape blames.0, elim blames.1 [ inl super ↦ inl super | inr met ↦ inr (met_later p peeks.steps one.steps met) ])

    module _ (last : S) (at : Shown S) (claim2 : T) (other : (let r : Result T PageFault = Ok claim2 in Peeks tells view calls (view mid) (view at.store) r)) (action : Action) (commands : List PageCommand) (by : ActsBy t action commands) (takes : action.takes ≡ 2) where
      first_plain : (fronts_of (other.steps ++ one.steps) ≡ 0) × (way_of (other.steps ++ one.steps) ≡ []) × (actions_of (other.steps ++ one.steps) ≡ []) × AreActs t (other.steps ++ one.steps) × (asides_of (other.steps ++ one.steps) ≤ 2)
      first_plain =
          let plain = asides_plain t (other.steps ++ one.steps) (asides_two other.steps one.steps other.only one.only) in
          (plain.0, plain.1, plain.2, plain.3, omega (arith, plain.4, length-append other.steps one.steps, other.few, one.few))

      first_spends : (well : Bool) (r : Result (Unit {0}) PageFault) → is_done r ≡ well → Runs tells view calls commands (view at.store) (view last) r → Spends tells well view calls (acts action commands ∷ (other.steps ++ one.steps)) (view old) (view last)
      first_spends well r is runs =
          subst (λ (b : Bool). Spends tells b view calls (acts action commands ∷ (other.steps ++ one.steps)) (view old) (view last)) is
          (spends_then tells view calls (is_done r) (other.steps ++ one.steps) (acts action commands ∷ []) (view old) (view at.store) (view last)
          (spends_then tells view calls true one.steps other.steps (view old) (view mid) (view at.store) one.spends other.spends)
          (spends_act tells view calls at action commands (view at.store) (view last) r runs))

      all_first : actions_of (acts action commands ∷ (other.steps ++ one.steps)) ≡ action ∷ []
      all_first = ap (λ (xs : List Action). xs ++ action ∷ []) first_plain.2

      -- the root could not be split
      pub works_grow_err : (fault : PageFault) → (let r : Result (Unit {0}) PageFault = Err fault in Runs tells view calls commands (view at.store) (view last) r) → (let r : Result ℕ IndexFault = Err (as_index fault) in blamed_index r ≡ None)
          → (rest : List Action) → (IsTrue tells → due ≡ action ∷ rest)
          → (let r : Result ℕ IndexFault = Err (as_index fault) in WorksFrom (0 ∷ root ∷ []) (IsTrue tells) tells (is_done r) view calls t (below key level pairs) (limits_above level) due (blamed_index r) (view old) (view last))
      works_grow_err fault runs none rest is =
          let r : Result ℕ IndexFault = Err (as_index fault) in
          let q : Result (Unit {0}) PageFault = Err fault in
          works_of tells view calls (IsTrue tells) false t (below key level pairs) (limits_above level) due rest (blamed_index r) (0 ∷ root ∷ []) (view old) (view last) (acts action commands ∷ (other.steps ++ one.steps))
          (first_spends false q refl runs) (by, first_plain.3) (omega (arith, first_plain.0)) (omega (arith, ap (λ (rs : List Reading). length rs) first_plain.1)) (omega (arith, first_plain.4)) (omega (arith, ap (λ (xs : List Action). length xs) all_first))
          (λ told. subst (λ (rs : List Reading). IsWay (below key level pairs) rs) (sym first_plain.1) tt)
          (subst (λ (bad : Option ℕ). IfSome bad (λ p. (p < page_count (view old).shape) × (IsAmong p (0 ∷ root ∷ []) ⊎ IsMet p (acts action commands ∷ (other.steps ++ one.steps))))) (sym none) tt)
          (λ told. ap (λ (xs : List Action). xs ++ rest) all_first ∙ sym (is told)) (λ told yes. absurd (false≢true yes)) (λ told. omega (arith, first_plain.4, two told))

      -- it was, and the insertion goes on from a half
      pub works_grown : (let r : Result (Unit {0}) PageFault = Ok tt in Runs tells view calls commands (view at.store) (view last) r) → (view last).shape ≡ (view old).shape → (page2 level2 : ℕ) (pairs2 : List Pair) (left : List Action) → level2 ≡ level
          → (IsTrue tells → child_for pairs2 key ≡ child_for pairs key) → IsAmong page2 action.pages → (IsTrue tells → due ≡ action ∷ left) → (now : S) (result : Result ℕ IndexFault)
          → WorksFrom (known_from level2 page2) (IsTrue tells) tells (is_done result) view calls t (below key level2 pairs2) (limits_below level2) left (blamed_index result) (view last) (view now)
          → WorksFrom (0 ∷ root ∷ []) (IsTrue tells) tells (is_done result) view calls t (below key level pairs) (limits_above level) due (blamed_index result) (view old) (view now)
      works_grown runs shape' page2 level2 pairs2 left level_is same among is now result works =
          let r : Result (Unit {0}) PageFault = Ok tt in
          works_behind tells view calls (IsTrue tells) (is_done result) t (below key level pairs) (below key level2 pairs2) (limits_above level) (limits_below level2) due left (blamed_index result) (0 ∷ root ∷ []) (known_from level2 page2) (view old) (view last) (view now)
          (acts action commands ∷ (other.steps ++ one.steps)) shape' (first_spends true r refl runs) (by, first_plain.3)
          (omega (arith, first_plain.0)) (omega (arith, ap (λ (rs : List Reading). length rs) first_plain.1, level_is)) (omega (arith, first_plain.4, level_is)) (omega (arith, ap (λ (xs : List Action). length xs) all_first, level_is))
          (λ told rs way. subst (λ (base : List Reading). IsWay (below key level pairs) (rs ++ base)) (sym first_plain.1)
          (way_onto (below key level pairs) (below key level2 pairs2) [] (starts told) (λ q qs. refl) tt rs way))
          (λ told. ap (λ (xs : List Action). xs ++ left) all_first ∙ sym (is told)) (λ told. omega (arith, first_plain.4, ap (λ (xs : List Action). takes_of xs) all_first, takes))
          (λ p known. elim (known_two level2 page2 p known) [ inl super ↦ inl (inl super) | inr here ↦ inr (inl (subst (λ (q : ℕ). IsAmong q action.pages) (sym here) among)) ]) works
        where
          starts : IsTrue tells → below key level2 pairs2 [] ≡ below key level pairs []
          starts told = ap (λ (n : ℕ). if nat_eq n 0 then None else Some (child_for pairs2 key)) level_is ∙ ap (λ (c : ℕ). if nat_eq level 0 then None else Some c) (same told)

-- no page comes behind a leaf
pub none_on : (key : ℕ) (pairs : List Pair) (rs : List Reading) → IsWay (below key 0 pairs) rs → rs ≡ []
none_on key pairs [] way = refl
none_on key pairs (r ∷ []) way = absurd (let e : none_of ≡ Some r.0 = way.0 in cc)
  where
    none_of : Option ℕ
    none_of = None
none_on key pairs (r ∷ q ∷ rs) way = absurd (let e : (q ∷ rs) ≡ [] = none_on key pairs (q ∷ rs) way.1 in cc)

pub once_of : (placed : Bool) (root key : ℕ) (shape : Shape) → 1 ≤ (insertion_limits placed (tree_finding root key) shape).fronts
once_of true root key shape = omega arith
once_of false root key shape = omega arith

pub pair_known : (p root : ℕ) → IsAmong p (0 ∷ root ∷ []) → (p ≡ 0) ⊎ (p ≡ root)
pair_known p root known = elim known [ inl super ↦ inl super | inr later ↦ elim later [ inl here ↦ inr here | inr none ↦ absurd none ] ]

pub root_known : {p page root : ℕ} → (p ≡ 0) ⊎ (p ≡ page) → page ≡ root → (p ≡ 0) ⊎ (p ≡ root)
root_known known is = elim known [ inl super ↦ inl super | inr here ↦ inr (here ∙ is) ]

-- the whole of it, from the super page on
module _ {S : Type 0} (tells : Bool) (view : S → StoreView) (calls : S → store.Command → ℕ) (t key root : ℕ) (due : List Action) (old : S) (limits : Limits) (once : 1 ≤ limits.fronts) where
  -- it ends when only the super page was read, or not even that
  front_end : (bad : Option ℕ) (now : S) (steps : List Step) → Spends tells false view calls steps (view old) (view now) → (steps ≡ []) ⊎ (steps ≡ front ∷ []) → IfSome bad (λ p. (p < page_count (view old).shape) × IsMet p steps)
      → WorksFrom [] (IsTrue tells) tells false view calls t (down root key) limits due bad (view old) (view now)
  front_end bad now steps spends these blames =
      let plain = plain_of steps these in
      works_of tells view calls (IsTrue tells) false t (down root key) limits due due bad [] (view old) (view now) steps spends plain.4
      (omega (arith, plain.0, once)) (omega (arith, ap (λ (rs : List Reading). length rs) plain.1)) (omega (arith, plain.2)) (omega (arith, ap (λ (xs : List Action). length xs) plain.3))
      (λ told. subst (λ (rs : List Reading). IsWay (down root key) rs) (sym plain.1) tt) (blames_of bad blames)
      (λ told. ap (λ (xs : List Action). xs ++ due) plain.3) (λ told is. absurd (false≢true is)) (λ told. omega (arith, plain.2))
    where
      plain_of : (steps : List Step) → (steps ≡ []) ⊎ (steps ≡ front ∷ []) → (fronts_of steps ≤ 1) × (way_of steps ≡ []) × (asides_of steps ≡ 0) × (actions_of steps ≡ []) × AreActs t steps
      plain_of steps these = elim these [
        | inl e ↦ subst (λ (ss : List Step). (fronts_of ss ≤ 1) × (way_of ss ≡ []) × (asides_of ss ≡ 0) × (actions_of ss ≡ []) × AreActs t ss) (sym e) (omega arith, refl, refl, refl, tt)
        | inr e ↦ subst (λ (ss : List Step). (fronts_of ss ≤ 1) × (way_of ss ≡ []) × (asides_of ss ≡ 0) × (actions_of ss ≡ []) × AreActs t ss) (sym e) (omega arith, refl, refl, refl, tt)
      ]

      blames_of : (bad : Option ℕ) → IfSome bad (λ p. (p < page_count (view old).shape) × IsMet p steps) → IfSome bad (λ p. (p < page_count (view old).shape) × (IsAmong p [] ⊎ IsMet p steps))
      blames_of None blames = tt
      blames_of (Some p) blames = (blames.0, inr blames.1)

  ill : (steps : List Step) (now : S) (well : Bool) → Spends tells well view calls steps (view old) (view now) → Spends tells false view calls steps (view old) (view now)
  ill steps now well spends = record { costs = spends.costs; each = spends.each; most = spends.most; exact = λ told is. absurd (false≢true is) }

  -- the super page could not be read, or is damaged
  pub works_super_err : (T : Type 0) (Good : Type 0) (now : S) (said there : List ℕ) (fault : PageFault) → 0 < page_count (view old).shape → (let r : Result T PageFault = Err fault in TestCause tells Good 0 (view old) r)
      → (let r : Result T PageFault = Err fault in HasRead tells (is_failed r) (calls old) (calls now) (view old) (view now) (one_reading 0 said there r))
      → (let r : Result ℕ IndexFault = Err (as_index fault) in WorksFrom [] (IsTrue tells) tells (is_done r) view calls t (down root key) limits due (blamed_index r) (view old) (view now))
  works_super_err T Good now said there faults.Media some cause reads = front_end None now (front ∷ []) (spends_front tells view calls old true (calls now) (view old) (view now) there reads) (inr refl) tt
  works_super_err T Good now said there faults.Dead some cause reads = front_end None now [] (ill [] now true (spends_onward tells view calls old false (calls now) (view old) (view now) [] reads)) (inl refl) tt
  works_super_err T Good now said there (faults.Damaged bad) some cause reads =
      front_end (Some bad) now (front ∷ []) (ill (front ∷ []) now true (spends_front tells view calls old false (calls now) (view old) (view now) said reads)) (inr refl)
      (subst (λ (p : ℕ). p < page_count (view old).shape) (sym cause.1) some, inl cause.1)
  works_super_err T Good now said there (faults.LogFull g h n) some cause reads = absurd cause
  works_super_err T Good now said there faults.SavesFull some cause reads = absurd cause

  -- the super page was read
  module _ (mid : S) (said : List ℕ) (shape : (view mid).shape ≡ (view old).shape) (reads : HasRead tells false (calls old) (calls mid) (view old) (view mid) ((0, said) ∷ [])) where
    has_front : Spends tells true view calls (front ∷ []) (view old) (view mid)
    has_front = spends_front tells view calls old false (calls mid) (view old) (view mid) said reads

    -- and it ends there
    pub works_front_err : (fault : IndexFault) → (let r : Result ℕ IndexFault = Err fault in IfSome (blamed_index r) (λ p. (p < page_count (view old).shape) × (p ≡ 0)))
        → (let r : Result ℕ IndexFault = Err fault in WorksFrom [] (IsTrue tells) tells (is_done r) view calls t (down root key) limits due (blamed_index r) (view old) (view mid))
    works_front_err fault blames = (let r : Result ℕ IndexFault = Err fault in front_end (blamed_index r) mid (front ∷ []) (ill (front ∷ []) mid true has_front) (inr refl) (blames_of (blamed_index r) blames))
      where
        blames_of : (bad : Option ℕ) → IfSome bad (λ p. (p < page_count (view old).shape) × (p ≡ 0)) → IfSome bad (λ p. (p < page_count (view old).shape) × IsMet p (front ∷ []))
        blames_of None blames = tt
        blames_of (Some p) blames = (blames.0, inl blames.1)

    -- and the pair goes to a place that is known
    pub works_placed : (page : ℕ) (pairs : List Pair) → 1 ≤ limits.asides → 1 ≤ limits.actions → (due2 : List Action) → (IsTrue tells → due2 ≡ due) → (now : S) (result : Result ℕ IndexFault)
        → WorksFrom (0 ∷ []) (IsTrue tells) tells (is_done result) view calls t (below key 0 pairs) (limits_below 0) due2 (blamed_index result) (view mid) (view now)
        → WorksFrom [] (IsTrue tells) tells (is_done result) view calls t (down root key) limits due (blamed_index result) (view old) (view now)
    works_placed page pairs asides actions due2 same now result works =
        works_behind tells view calls (IsTrue tells) (is_done result) t (down root key) (below key 0 pairs) limits (limits_below 0) due due2 (blamed_index result) [] (0 ∷ []) (view old) (view mid) (view now)
        (front ∷ []) shape has_front tt (omega (arith, once)) (omega arith) (omega (arith, asides)) (omega (arith, actions))
        (λ told rs way. subst (λ (l : List Reading). IsWay (down root key) (l ++ [])) (sym (none_on key pairs rs way)) tt) same (λ told. omega arith)
        (λ p known. elim known [ inl super ↦ inr (inl super) | inr none ↦ absurd none ]) works

  -- the super page and the root were read
  module _ (one mid : S) (front_said said : List ℕ) (shape1 : (view one).shape ≡ (view old).shape) (shape2 : (view mid).shape ≡ (view one).shape) (there : root < page_count (view old).shape)
      (reads : HasRead tells false (calls old) (calls one) (view old) (view one) ((0, front_said) ∷ [])) (reads2 : HasRead tells false (calls one) (calls mid) (view one) (view mid) ((root, said) ∷ [])) where
    has_both : Spends tells true view calls (onward (root, said) ∷ front ∷ []) (view old) (view mid)
    has_both = spends_then tells view calls true (front ∷ []) (onward (root, said) ∷ []) (view old) (view one) (view mid) (spends_front tells view calls old false (calls one) (view old) (view one) front_said reads)
        (spends_onward tells view calls one false (calls mid) (view one) (view mid) ((root, said) ∷ []) reads2)

    -- the rest goes on from it
    pub works_root : (level : ℕ) (pairs : List Pair) → level ≡ level_said said → pairs ≡ pairs_said said → (then_limits : Limits) → then_limits.fronts ≡ 0 → 1 + then_limits.way ≤ limits.way → then_limits.asides ≤ limits.asides → then_limits.actions ≤ limits.actions
        → (then_known : List ℕ) → ((p : ℕ) → IsAmong p then_known → (p ≡ 0) ⊎ (p ≡ root)) → (left : List Action) → (IsTrue tells → left ≡ due) → (now : S) (result : Result ℕ IndexFault)
        → WorksFrom then_known (IsTrue tells) tells (is_done result) view calls t (below key level pairs) then_limits left (blamed_index result) (view mid) (view now)
        → WorksFrom [] (IsTrue tells) tells (is_done result) view calls t (down root key) limits due (blamed_index result) (view old) (view now)
    works_root level pairs level_is pairs_are then_limits none way asides actions then_known two left same now result works =
        works_behind tells view calls (IsTrue tells) (is_done result) t (down root key) (below key level pairs) limits then_limits due left (blamed_index result) [] then_known (view old) (view mid) (view now)
        (onward (root, said) ∷ front ∷ []) (shape2 ∙ shape1) has_both tt (omega (arith, none, once)) (omega (arith, way)) (omega (arith, asides)) (omega (arith, actions))
        (λ told rs on. way_onto (down root key) (below key level pairs) ((root, said) ∷ []) starts (λ q qs. refl) (refl, tt) rs on) same (λ told. omega arith)
        (λ p known. elim (two p known) [ inl super ↦ inr (inr (inl super)) | inr here ↦ inr (inl here) ]) works
      where
        starts : below key level pairs [] ≡ down root key ((root, said) ∷ [])
        starts = ap (λ (n : ℕ). if nat_eq n 0 then None else Some (child_for pairs key)) level_is ∙ ap (λ (ps : List Pair). if nat_eq (level_said said) 0 then None else Some (child_for ps key)) pairs_are

  -- the super page was read, and the root could not be, or is damaged
  module _ (one : S) (front_said : List ℕ) (shape1 : (view one).shape ≡ (view old).shape) (there : root < page_count (view old).shape) (reads : HasRead tells false (calls old) (calls one) (view old) (view one) ((0, front_said) ∷ [])) (long : 1 ≤ limits.way) where
    less : (rs : List Reading) (now : S) → Spends tells true view calls (onwards rs) (view one) (view now) → Spends tells false view calls (onwards rs) (view one) (view now)
    less rs now spends = spends_ill tells view calls false (onwards rs) (view one) (view now) spends

    root_end : (bad : Option ℕ) (now : S) (rs : List Reading) → Spends tells false view calls (onwards rs) (view one) (view now) → (rs ≡ []) ⊎ ((said : List ℕ) × (rs ≡ (root, said) ∷ [])) → IfSome bad (λ p. (p ≡ root) × IsMet p (onwards rs))
        → WorksFrom [] (IsTrue tells) tells false view calls t (down root key) limits due bad (view old) (view now)
    root_end bad now rs spends these blames =
        let plain = plain_of rs these in
        works_of tells view calls (IsTrue tells) false t (down root key) limits due due bad [] (view old) (view now) (onwards rs ++ front ∷ [])
        (spends_then tells view calls false (front ∷ []) (onwards rs) (view old) (view one) (view now) (spends_front tells view calls old false (calls one) (view old) (view one) front_said reads) spends)
        plain.0 (omega (arith, plain.1, once)) (omega (arith, plain.2, long)) (omega (arith, plain.3)) (omega (arith, ap (λ (xs : List Action). length xs) plain.4))
        (λ told. plain.5) (blames_of bad blames) (λ told. ap (λ (xs : List Action). xs ++ due) plain.4) (λ told is. absurd (false≢true is)) (λ told. omega (arith, plain.3))
      where
        plain_of : (rs : List Reading) → (rs ≡ []) ⊎ ((said : List ℕ) × (rs ≡ (root, said) ∷ []))
            → AreActs t (onwards rs ++ front ∷ []) × (fronts_of (onwards rs ++ front ∷ []) ≤ 1) × (length (way_of (onwards rs ++ front ∷ [])) ≤ 1) × (asides_of (onwards rs ++ front ∷ []) ≡ 0) × (actions_of (onwards rs ++ front ∷ []) ≡ []) × IsWay (down root key) (way_of (onwards rs ++ front ∷ []))
        plain_of rs these = elim these [
          | inl e ↦ subst (λ (rs : List Reading). AreActs t (onwards rs ++ front ∷ []) × (fronts_of (onwards rs ++ front ∷ []) ≤ 1) × (length (way_of (onwards rs ++ front ∷ [])) ≤ 1) × (asides_of (onwards rs ++ front ∷ []) ≡ 0) × (actions_of (onwards rs ++ front ∷ []) ≡ []) × IsWay (down root key) (way_of (onwards rs ++ front ∷ []))) (sym e)
              (tt, omega arith, omega arith, refl, refl, tt)
          | inr e ↦ subst (λ (rs : List Reading). AreActs t (onwards rs ++ front ∷ []) × (fronts_of (onwards rs ++ front ∷ []) ≤ 1) × (length (way_of (onwards rs ++ front ∷ [])) ≤ 1) × (asides_of (onwards rs ++ front ∷ []) ≡ 0) × (actions_of (onwards rs ++ front ∷ []) ≡ []) × IsWay (down root key) (way_of (onwards rs ++ front ∷ []))) (sym e.1)
              (tt, omega arith, omega arith, refl, refl, (refl, tt))
        ]

        blames_of : (bad : Option ℕ) → IfSome bad (λ p. (p ≡ root) × IsMet p (onwards rs)) → IfSome bad (λ p. (p < page_count (view old).shape) × (IsAmong p [] ⊎ IsMet p (onwards rs ++ front ∷ [])))
        blames_of None blames = tt
        blames_of (Some p) blames = (subst (λ (q : ℕ). q < page_count (view old).shape) (sym blames.0) there, inr (met_later p (onwards rs) (front ∷ []) blames.1))

    pub works_root_err : (T : Type 0) (Good : Type 0) (now : S) (said there' : List ℕ) (fault : PageFault) → (let r : Result T PageFault = Err fault in TestCause tells Good root (view one) r)
        → (let r : Result T PageFault = Err fault in HasRead tells (is_failed r) (calls one) (calls now) (view one) (view now) (one_reading root said there' r))
        → (let r : Result ℕ IndexFault = Err (as_index fault) in WorksFrom [] (IsTrue tells) tells (is_done r) view calls t (down root key) limits due (blamed_index r) (view old) (view now))
    works_root_err T Good now said there' faults.Media cause reads2 = root_end None now ((root, there') ∷ []) (spends_onward tells view calls one true (calls now) (view one) (view now) ((root, there') ∷ []) reads2) (inr (there', refl)) tt
    works_root_err T Good now said there' faults.Dead cause reads2 = root_end None now [] (less [] now (spends_onward tells view calls one false (calls now) (view one) (view now) [] reads2)) (inl refl) tt
    works_root_err T Good now said there' (faults.Damaged bad) cause reads2 =
        root_end (Some bad) now ((root, said) ∷ []) (less ((root, said) ∷ []) now (spends_onward tells view calls one false (calls now) (view one) (view now) ((root, said) ∷ []) reads2)) (inr (said, refl)) (cause.1, inl cause.1)
    works_root_err T Good now said there' (faults.LogFull g h n) cause reads2 = absurd cause
    works_root_err T Good now said there' faults.SavesFull cause reads2 = absurd cause
