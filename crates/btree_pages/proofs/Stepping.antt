-- The steps of an insertion from a page on its way to the leaf.
use Rattle.std.proofs.Common.{◌≡◌, ◌≢◌, ℕ, zero, suc, ◌+◌, ◌<◌, ◌≤◌, ◌⊎◌, inl, inr, Bool, true, false, nat_eq, List, [], ◌∷◌, ◌++◌, append_assoc, length, Option, Some, None, Result, Ok, Err, refl, sym, ◌∙◌, ap, subst, arith}
use Rattle.std.specs.Prelude.{IsTrue, IfSome, IfOk, if◌then◌else◌}
use Rattle.std.proofs.lemmas.Bool.{false≢true}
use Rattle.std.proofs.lemmas.Bool.Decides.{eqb_tells}
use Rattle.std.proofs.lemmas.List.{length-append, append-nil}
use Rattle.array_shape.specs.declared.shape.Shape.{Shape}
use Rattle.array_shape.specs.Places.{page_count}
use Rattle.eaw_face.specs.Command as store
use Rattle.eaw_face.specs.StoreView.{StoreView}
use Rattle.page_store.specs.Command.{PageCommand}
use Rattle.page_store.specs.Course.{Reading, IsWay, AreThere}
use Rattle.page_store.specs.Follows.{HasRead, IsLast}
use Rattle.page_store.specs.Index.{Action}
use Rattle.page_store.specs.Looks.{is_failed}
use Rattle.page_store.specs.Pairs.{Pair}
use Rattle.page_store.specs.Runs.{Runs}
use Rattle.page_store.specs.Shown.{Shown}
use Rattle.page_store.specs.Works.{Step, onward, acts, Spends, fronts_of, way_of, asides_of, actions_of, AreActs, ActsBy, IsAmong, IsMet, takes_of, is_done, blamed, blamed_index, WorksFrom}
use Rattle.page_store.specs.declared.fault.PageFault.{PageFault}
use Rattle.page_store.specs.declared.fault.PageFault.TheVariants as faults
use Rattle.page_store.specs.declared.index_fault.IndexFault.{IndexFault}
use Rattle.page_store.specs.declared.index_fault.IndexFault.TheVariants as index
use Rattle.page_store.specs.Faults.{as_index}
use Rattle.index_pages.specs.Page.{level_said, pairs_said}
use Rattle.index_pages.specs.Peeks.{Peeks}
use Rattle.index_pages.proofs.Working.{spends_none, spends_ill, spends_then, spends_onward, spends_act, asides_plain, onwards, asides_two, actions_two, acts_two, fronts_two, way_two, takes_two, met_later, met_first, works_of, blamed_same}
use Rattle.btree_laws.specs.Descent.{child_for}
use Rattle.btree_pages.specs.Downward.{below, is_leaf}
use Rattle.btree_pages.specs.Steps.{ReadsNamed, SaysPage, IsOnly, known_from, limits_below}
use Rattle.btree_pages.specs.declared.node.Node.{Node}

-- the page that comes next behind one that said this
pub leads_on : (key level0 : ℕ) (pairs0 : List Pair) (page : ℕ) (said : List ℕ) (level : ℕ) (read : List Reading) → level ≡ level_said said → level ≢ 0 → below key level0 pairs0 ((page, said) ∷ read) ≡ Some (child_for (pairs_said said) key)
leads_on key level0 pairs0 page said level read is inner =
    elim (eqb_tells (level_said said) 0) [
      | inl e ↦ absurd (inner (is ∙ e.1))
      | inr e ↦ let b : nat_eq (level_said said) 0 ≡ false = e.0 in rw b refl
    ]

pub leads_first : (key level0 : ℕ) (pairs0 : List Pair) → level0 ≢ 0 → below key level0 pairs0 [] ≡ Some (child_for pairs0 key)
leads_first key level0 pairs0 inner = elim (eqb_tells level0 0) [
  | inl e ↦ absurd (inner e.1)
  | inr e ↦ let b : nat_eq level0 0 ≡ false = e.0 in rw b refl
]

pub zero_known : (level page : ℕ) → IsAmong 0 (known_from level page)
zero_known zero page = inl refl
zero_known (suc level) page = inl refl

pub page_known : (level page : ℕ) → level ≢ 0 → IsAmong page (known_from level page)
page_known zero page inner = absurd (inner refl)
page_known (suc level) page inner = inr (inl refl)

-- which are at most these two
pub known_two : (level page p : ℕ) → IsAmong p (known_from level page) → (p ≡ 0) ⊎ (p ≡ page)
known_two zero page p known = elim known [ inl super ↦ inl super | inr none ↦ absurd none ]
known_two (suc level) page p known = elim known [ inl super ↦ inl super | inr later ↦ elim later [ inl here ↦ inr here | inr none ↦ absurd none ] ]

module _ {S : Type 0} (tells : Bool) (view : S → StoreView) (calls : S → store.Command → ℕ) (t key page0 level0 : ℕ) (pairs0 : List Pair) (due : List Action) (old : S) where
  -- These steps led to a page; what is left of the actions is told, and so many more reads aside and actions may be made than were.
  pub record Stepped (spare : ℕ) (now : S) (page level : ℕ) (pairs : List Pair) (left : List Action) : Type 0 where
    pub steps : List Step
    pub shape : (view now).shape ≡ (view old).shape
    pub there : page < page_count (view old).shape
    pub spends : Spends tells true view calls steps (view old) (view now)
    pub fronts : fronts_of steps ≡ 0
    pub way : IsTrue tells → IsWay (below key level0 pairs0) (way_of steps)
    pub leads : IsTrue tells → level ≢ 0 → below key level0 pairs0 (way_of steps) ≡ Some (child_for pairs key)
    pub count : length (way_of steps) + level ≤ level0
    pub asides : asides_of steps + spare ≤ length (way_of steps)
    pub actions : length (actions_of steps) + spare ≤ length (way_of steps)
    pub acted : AreActs t steps
    pub met : level ≢ 0 → IsAmong page (known_from level0 page0) ⊎ IsMet page steps
    pub just : IsTrue tells → actions_of steps ++ left ≡ due
    pub taken : IsTrue tells → asides_of steps ≤ takes_of (actions_of steps)

  -- it begins
  pub stepped_first : page0 < page_count (view old).shape → Stepped 0 old page0 level0 pairs0 due
  stepped_first there = record {
    steps = [];
    shape = refl;
    there = there;
    spends = spends_none tells view calls true (view old) (view old) refl;
    fronts = refl;
    way = λ told. tt;
    leads = λ told inner. leads_first key level0 pairs0 inner;
    count = omega arith;
    asides = omega arith;
    actions = omega arith;
    acted = tt;
    met = λ inner. inl (page_known level0 page0 inner);
    just = λ told. refl;
    taken = λ told. omega arith;
  }

  module _ (now next : S) (page level : ℕ) (pairs : List Pair) (left : List Action) (s : Stepped 0 now page level pairs left) where
    -- the child of the page was read
    pub stepped_child : (child : Node) → (let r : Result Node PageFault = Ok child in ReadsNamed tells (calls now) (calls next) page (child_for pairs key) (view now) (view next) r)
        → (view next).shape ≡ (view now).shape → level ≢ 0 → child.page ≡ child_for pairs key → child.level + 1 ≡ level → Stepped 1 next child.page child.level child.pairs.items left
    stepped_child child reads shape inner page_is level_is =
        let said = reads.says.0 in
        let r : Reading = (child_for pairs key, reads.says.0) in
        let has = subst (λ (rs : List Reading). Spends tells true view calls (onwards rs) (view now) (view next)) reads.says.1 (spends_onward tells view calls now false (calls next) (view now) (view next) reads.read reads.reads) in
        record {
          steps = onward r ∷ s.steps;
          shape = shape ∙ s.shape;
          there = subst (λ (sh : Shape). child.page < page_count sh) s.shape
              (subst (λ (p : ℕ). p < page_count (view now).shape) (sym page_is) (subst (λ (rs : List Reading). AreThere (page_count (view now).shape) rs) reads.says.1 reads.reads.there).0);
          spends = spends_then tells view calls true s.steps (onward r ∷ []) (view old) (view now) (view next) s.spends has;
          fronts = s.fronts;
          way = λ told. (s.leads told inner, s.way told);
          leads = λ told deeper. leads_on key level0 pairs0 (child_for pairs key) said child.level (way_of s.steps) reads.says.2.level deeper ∙ ap (λ (ps : List Pair). Some (child_for ps key)) (sym reads.says.2.pairs);
          count = omega (arith, s.count, level_is);
          asides = omega (arith, s.asides);
          actions = omega (arith, s.actions);
          acted = s.acted;
          met = λ deeper. inr (inl page_is);
          just = s.just;
          taken = s.taken;
        }

  -- the steps that are left end the insertion
  module _ (spare : ℕ) (now next : S) (page level : ℕ) (pairs : List Pair) (left : List Action) (s : Stepped spare now page level pairs left) where
    works_end : (done : Bool) (bad : Option ℕ) (more : List Step) → Spends tells done view calls more (view now) (view next) → fronts_of more ≡ 0 → (IsTrue tells → IsWay (below key level0 pairs0) (way_of more ++ way_of s.steps)) → length (way_of more) ≤ level
        → asides_of more ≤ 1 + spare → length (actions_of more) ≤ 1 + spare → AreActs t more → IfSome bad (λ p. (p < page_count (view old).shape) × ((p ≡ 0) ⊎ ((level ≢ 0) × (p ≡ page)) ⊎ IsMet p more))
        → (rest : List Action) → (IsTrue tells → actions_of more ++ rest ≡ left) → (IsTrue tells → IsTrue done → rest ≡ []) → (IsTrue tells → asides_of more ≤ takes_of left + 1)
        → WorksFrom (known_from level0 page0) (IsTrue tells) tells done view calls t (below key level0 pairs0) (limits_below level0) due bad (view old) (view next)
    works_end done bad more spends fronts way few asides actions acted blames rest just all taken =
        works_of tells view calls (IsTrue tells) done t (below key level0 pairs0) (limits_below level0) due rest bad (known_from level0 page0) (view old) (view next) (more ++ s.steps)
        (spends_then tells view calls done s.steps more (view old) (view now) (view next) s.spends spends)
        (acts_two t more s.steps acted s.acted)
        (omega (arith, fronts_two more s.steps, fronts, s.fronts))
        (omega (arith, ap (λ (rs : List Reading). length rs) (way_two more s.steps), length-append (way_of more) (way_of s.steps), few, s.count))
        (omega (arith, asides_two more s.steps, asides, s.asides, s.count))
        (omega (arith, ap (λ (xs : List Action). length xs) (actions_two more s.steps), length-append (actions_of s.steps) (actions_of more), actions, s.actions, s.count))
        (λ told. subst (λ (rs : List Reading). IsWay (below key level0 pairs0) rs) (sym (way_two more s.steps)) (way told))
        (blames_of bad blames)
        (λ told. ap (λ (xs : List Action). xs ++ rest) (actions_two more s.steps) ∙ append_assoc (actions_of s.steps) (actions_of more) rest ∙ ap (λ (xs : List Action). actions_of s.steps ++ xs) (just told) ∙ s.just told)
        all
        (λ told. omega (arith, asides_two more s.steps, taken told, s.taken told, takes_two (actions_of s.steps) left, ap (λ (xs : List Action). takes_of xs) (s.just told)))
      where
        blames_of : (bad : Option ℕ) → IfSome bad (λ p. (p < page_count (view old).shape) × ((p ≡ 0) ⊎ ((level ≢ 0) × (p ≡ page)) ⊎ IsMet p more)) → IfSome bad (λ p. (p < page_count (view old).shape) × (IsAmong p (known_from level0 page0) ⊎ IsMet p (more ++ s.steps)))
        blames_of None blames = tt
        blames_of (Some p) blames = (
          blames.0,
          elim blames.1 [
            | inl super ↦ inl (subst (λ (q : ℕ). IsAmong q (known_from level0 page0)) (sym super) (zero_known level0 page0))
            | inr later ↦ elim later [
              | inl here ↦ elim (s.met here.0) [
                | inl known ↦ inl (subst (λ (q : ℕ). IsAmong q (known_from level0 page0)) (sym here.1) known)
                | inr met ↦ inr (met_first p more s.steps (subst (λ (q : ℕ). IsMet q s.steps) (sym here.1) met))
              ]
              | inr met ↦ inr (met_later p more s.steps met)
            ]
          ],
        )

    -- it ends here, without another step
    pub works_stop : (fault : IndexFault) → (let r : Result ℕ IndexFault = Err fault in blamed_index r ≡ None) → (view next).moment ≡ (view now).moment
        → (let r : Result ℕ IndexFault = Err fault in WorksFrom (known_from level0 page0) (IsTrue tells) tells (is_done r) view calls t (below key level0 pairs0) (limits_below level0) due (blamed_index r) (view old) (view next))
    works_stop fault none same =
        let r : Result ℕ IndexFault = Err fault in
        works_end false (blamed_index r) [] (spends_none tells view calls false (view now) (view next) same) refl s.way (omega arith) (omega arith) (omega arith) tt
        (subst (λ (bad : Option ℕ). IfSome bad (λ p. (p < page_count (view old).shape) × ((p ≡ 0) ⊎ ((level ≢ 0) × (p ≡ page)) ⊎ IsMet p []))) (sym none) tt) left (λ told. refl) (λ told is. absurd (false≢true is)) (λ told. omega arith)

    -- a slot or a page could not be taken
    pub works_peek_err : (T : Type 0) (fault : PageFault) → (let r : Result T PageFault = Err fault in Peeks tells view calls (view now) (view next) r)
        → (let r : Result ℕ IndexFault = Err (as_index fault) in WorksFrom (known_from level0 page0) (IsTrue tells) tells (is_done r) view calls t (below key level0 pairs0) (limits_below level0) due (blamed_index r) (view old) (view next))
    works_peek_err T fault peeks =
        let r : Result ℕ IndexFault = Err (as_index fault) in
        let q : Result T PageFault = Err fault in
        let plain = asides_plain t peeks.steps peeks.only in
        works_end false (blamed_index r) peeks.steps peeks.spends plain.0 (λ told. subst (λ (rs : List Reading). IsWay (below key level0 pairs0) (rs ++ way_of s.steps)) (sym plain.1) (s.way told))
        (omega (arith, ap (λ (rs : List Reading). length rs) plain.1)) (omega (arith, plain.4, peeks.few)) (omega (arith, ap (λ (xs : List Action). length xs) plain.2)) plain.3
        (subst (λ (bad : Option ℕ). IfSome bad (λ p. (p < page_count (view old).shape) × ((p ≡ 0) ⊎ ((level ≢ 0) × (p ≡ page)) ⊎ IsMet p peeks.steps))) (sym (blamed_same ℕ T fault)) (blames_of (blamed q) peeks.blames))
        left (λ told. ap (λ (xs : List Action). xs ++ left) plain.2) (λ told is. absurd (false≢true is)) (λ told. omega (arith, plain.4, peeks.few))
      where
        blames_of : (bad : Option ℕ) → IfSome bad (λ p. (p < page_count (view now).shape) × ((p ≡ 0) ⊎ IsMet p peeks.steps)) → IfSome bad (λ p. (p < page_count (view old).shape) × ((p ≡ 0) ⊎ ((level ≢ 0) × (p ≡ page)) ⊎ IsMet p peeks.steps))
        blames_of None blames = tt
        blames_of (Some p) blames = (subst (λ (sh : Shape). p < page_count sh) s.shape blames.0, elim blames.1 [ inl super ↦ inl super | inr met ↦ inr (inr met) ])

    -- the action that is due is made, or refused
    module _ (T : Type 0) (mid : S) (at : Shown S) (at_is : at.store ≡ mid) (claim : T) (peeks : (let r : Result T PageFault = Ok claim in Peeks tells view calls (view now) (view mid) r)) (action : Action) (commands : List PageCommand) (by : ActsBy t action commands)
        (last : List Action) (is : IsTrue tells → left ≡ action ∷ last) where
      act_steps : List Step
      act_steps = acts action commands ∷ peeks.steps

      pub works_act : (result : Result ℕ IndexFault) (done : Result (Unit {0}) PageFault) → (is_done result ≡ is_done done) → blamed_index result ≡ None → (IsTrue tells → IsTrue (is_done done) → last ≡ []) → Runs tells view calls commands (view mid) (view next) done
          → WorksFrom (known_from level0 page0) (IsTrue tells) tells (is_done result) view calls t (below key level0 pairs0) (limits_below level0) due (blamed_index result) (view old) (view next)
      unfolding act_steps
      works_act result done same none over runs =
          let plain = asides_plain t peeks.steps peeks.only in
          let both : actions_of act_steps ≡ action ∷ [] = ap (λ (xs : List Action). xs ++ action ∷ []) plain.2 in
          works_end (is_done result) (blamed_index result) act_steps
          (subst (λ (b : Bool). Spends tells b view calls act_steps (view now) (view next)) (sym same)
          (spends_then tells view calls (is_done done) peeks.steps (acts action commands ∷ []) (view now) (view mid) (view next) peeks.spends (spends_act tells view calls at action commands (view mid) (view next) done runs)))
          plain.0 (λ told. subst (λ (rs : List Reading). IsWay (below key level0 pairs0) (rs ++ way_of s.steps)) (sym plain.1) (s.way told))
          (omega (arith, ap (λ (rs : List Reading). length rs) plain.1)) (omega (arith, plain.4, peeks.few)) (omega (arith, ap (λ (xs : List Action). length xs) both)) (by, plain.3)
          (subst (λ (bad : Option ℕ). IfSome bad (λ p. (p < page_count (view old).shape) × ((p ≡ 0) ⊎ ((level ≢ 0) × (p ≡ page)) ⊎ IsMet p act_steps))) (sym none) tt)
          last (λ told. ap (λ (xs : List Action). xs ++ last) both ∙ sym (is told)) (λ told yes. over told (subst (λ (b : Bool). IsTrue b) same yes)) (λ told. omega (arith, plain.4, peeks.few))

  -- a child could not be read, or is damaged
  module _ (now next : S) (page level : ℕ) (pairs : List Pair) (left : List Action) (s : Stepped 0 now page level pairs left) where
    pub works_read_err : (fault : PageFault) → (let r : Result Node PageFault = Err fault in ReadsNamed tells (calls now) (calls next) page (child_for pairs key) (view now) (view next) r) → level ≢ 0
        → (let r : Result ℕ IndexFault = Err (as_index fault) in WorksFrom (known_from level0 page0) (IsTrue tells) tells (is_done r) view calls t (below key level0 pairs0) (limits_below level0) due (blamed_index r) (view old) (view next))
    works_read_err fault reads inner = (let q : Result Node PageFault = Err fault in err_of reads.read reads.reads reads.only (blamed q) (blamed_same ℕ Node fault) reads.blames)
      where
        none_on : (read : List Reading) → IsOnly (child_for pairs key) read → fronts_of (onwards read) ≡ 0 × asides_of (onwards read) ≡ 0 × actions_of (onwards read) ≡ [] × AreActs t (onwards read) × (length (way_of (onwards read)) ≤ level)
        none_on [] only = (refl, refl, refl, tt, omega arith)
        none_on (r ∷ []) only = (refl, refl, refl, tt, omega (arith, (let ne : level ≡ 0 → ⊥ = inner in ne)))
        none_on (r ∷ q ∷ rs) only = absurd only

        way_on : (read : List Reading) → IsOnly (child_for pairs key) read → IsTrue tells → IsWay (below key level0 pairs0) (way_of (onwards read) ++ way_of s.steps)
        way_on [] only told = s.way told
        way_on (r ∷ []) only told = (s.leads told inner ∙ ap (λ (p : ℕ). Some p) (sym only), s.way told)
        way_on (r ∷ q ∷ rs) only told = absurd only

        there_on : (read : List Reading) (bad : Option ℕ) → AreThere (page_count (view now).shape) read → IfSome bad (λ p. (p ≡ page) ⊎ IsLast read p) → IfSome bad (λ p. (p < page_count (view old).shape) × ((p ≡ 0) ⊎ ((level ≢ 0) × (p ≡ page)) ⊎ IsMet p (onwards read)))
        there_on read None there blames = tt
        there_on [] (Some p) there blames = elim blames [ inl here ↦ (subst (λ (q : ℕ). q < page_count (view old).shape) (sym here) s.there, inr (inl (inner, here))) | inr last ↦ absurd last ]
        there_on (r ∷ rs) (Some p) there blames = elim blames [
          | inl here ↦ (subst (λ (q : ℕ). q < page_count (view old).shape) (sym here) s.there, inr (inl (inner, here)))
          | inr last ↦ (subst (λ (sh : Shape). p < page_count sh) s.shape (subst (λ (q : ℕ). q < page_count (view now).shape) last there.0), inr (inr (inl (sym last))))
        ]

        err_of : (read : List Reading) → (let r : Result Node PageFault = Err fault in HasRead tells (is_failed r) (calls now) (calls next) (view now) (view next) read) → IsOnly (child_for pairs key) read
            → (bad : Option ℕ) → (let r : Result ℕ IndexFault = Err (as_index fault) in blamed_index r ≡ bad) → IfSome bad (λ p. (p ≡ page) ⊎ IsLast read p)
            → (let r : Result ℕ IndexFault = Err (as_index fault) in WorksFrom (known_from level0 page0) (IsTrue tells) tells (is_done r) view calls t (below key level0 pairs0) (limits_below level0) due (blamed_index r) (view old) (view next))
        err_of read has only bad same blames =
            let q : Result Node PageFault = Err fault in
            let r : Result ℕ IndexFault = Err (as_index fault) in
            let n = none_on read only in
            let spends = spends_onward tells view calls now (is_failed q) (calls next) (view now) (view next) read has in
            works_end 0 now next page level pairs left s false (blamed_index r) (onwards read)
            (record { costs = spends.costs; each = spends.each; most = spends.most; exact = λ told is. absurd (false≢true is) })
            n.0 (way_on read only) n.4 (omega (arith, n.1)) (omega (arith, ap (λ (xs : List Action). length xs) n.2)) n.3
            (subst (λ (b : Option ℕ). IfSome b (λ p. (p < page_count (view old).shape) × ((p ≡ 0) ⊎ ((level ≢ 0) × (p ≡ page)) ⊎ IsMet p (onwards read)))) (sym same) (there_on read bad has.there blames))
            left (λ told. ap (λ (xs : List Action). xs ++ left) n.2) (λ told is. absurd (false≢true is)) (λ told. omega (arith, n.1))

  -- a full child was split, and the half that has the key comes next
  module _ (now mid next : S) (at : Shown S) (child level : ℕ) (pairs : List Pair) (left : List Action) (s : Stepped 1 now child level pairs left) (T : Type 0) (claim : T)
      (peeks : (let r : Result T PageFault = Ok claim in Peeks tells view calls (view now) (view mid) r)) (action : Action) (commands : List PageCommand) (by : ActsBy t action commands) where
    pub stepped_cut : (let r : Result (Unit {0}) PageFault = Ok tt in Runs tells view calls commands (view mid) (view next) r) → (view next).shape ≡ (view old).shape → action.takes ≡ 1
        → (page2 level2 : ℕ) (pairs2 : List Pair) (left2 : List Action) → page2 < page_count (view old).shape → IsAmong page2 action.pages → level2 ≡ level → (IsTrue tells → level ≢ 0 → child_for pairs2 key ≡ child_for pairs key) → (IsTrue tells → left ≡ action ∷ left2)
        → Stepped 0 next page2 level2 pairs2 left2
    stepped_cut runs shape takes page2 level2 pairs2 left2 there among level_is same is =
        let r : Result (Unit {0}) PageFault = Ok tt in
        let plain = asides_plain t peeks.steps peeks.only in
        let more : List Step = acts action commands ∷ peeks.steps in
        let spends = spends_then tells view calls true peeks.steps (acts action commands ∷ []) (view now) (view mid) (view next) peeks.spends (spends_act tells view calls at action commands (view mid) (view next) r runs) in
        let ways : way_of ((acts action commands ∷ peeks.steps) ++ s.steps) ≡ way_of s.steps = way_two (acts action commands ∷ peeks.steps) s.steps ∙ ap (λ (rs : List Reading). rs ++ way_of s.steps) plain.1 in
        let all : actions_of ((acts action commands ∷ peeks.steps) ++ s.steps) ≡ actions_of s.steps ++ action ∷ [] = actions_two (acts action commands ∷ peeks.steps) s.steps ∙ ap (λ (xs : List Action). actions_of s.steps ++ (xs ++ action ∷ [])) plain.2 in
        let many : length (way_of ((acts action commands ∷ peeks.steps) ++ s.steps)) ≡ length (way_of s.steps) = ap (λ (rs : List Reading). length rs) ways in
        record {
          steps = (acts action commands ∷ peeks.steps) ++ s.steps;
          shape = shape;
          there = there;
          spends = spends_then tells view calls true s.steps (acts action commands ∷ peeks.steps) (view old) (view now) (view next) s.spends spends;
          fronts = omega (arith, fronts_two (acts action commands ∷ peeks.steps) s.steps, plain.0, s.fronts);
          way = λ told. subst (λ (rs : List Reading). IsWay (below key level0 pairs0) rs) (sym ways) (s.way told);
          leads = λ told inner.
              let deep : level ≢ 0 = λ e. inner (level_is ∙ e) in
              ap (λ (rs : List Reading). below key level0 pairs0 rs) ways ∙ s.leads told deep ∙ ap (λ (p : ℕ). Some p) (sym (same told deep));
          count = omega (arith, many, s.count, level_is);
          asides = omega (arith, asides_two (acts action commands ∷ peeks.steps) s.steps, plain.4, peeks.few, s.asides, many);
          actions = omega (arith, ap (λ (xs : List Action). length xs) all, length-append (actions_of s.steps) (action ∷ []), s.actions, many);
          acted = acts_two t (acts action commands ∷ peeks.steps) s.steps (by, plain.3) s.acted;
          met = λ inner. inr (inl among);
          just = λ told. ap (λ (xs : List Action). xs ++ left2) all ∙ append_assoc (actions_of s.steps) (action ∷ []) left2 ∙ ap (λ (xs : List Action). actions_of s.steps ++ xs) (sym (is told)) ∙ s.just told;
          taken = λ told. omega (arith, asides_two (acts action commands ∷ peeks.steps) s.steps, plain.4, peeks.few, s.taken told, ap (λ (xs : List Action). takes_of xs) all, takes_two (actions_of s.steps) (action ∷ []), takes);
        }

  -- what was kept for a split is not needed
  pub stepped_room : (now : S) (page level : ℕ) (pairs : List Pair) (left left2 : List Action) → (IsTrue tells → left ≡ left2) → Stepped 1 now page level pairs left → Stepped 0 now page level pairs left2
  stepped_room now page level pairs left left2 same s = record {
    steps = s.steps;
    shape = s.shape;
    there = s.there;
    spends = s.spends;
    fronts = s.fronts;
    way = s.way;
    leads = s.leads;
    count = s.count;
    asides = omega (arith, s.asides);
    actions = omega (arith, s.actions);
    acted = s.acted;
    met = s.met;
    just = λ told. ap (λ (xs : List Action). actions_of s.steps ++ xs) (sym (same told)) ∙ s.just told;
    taken = s.taken;
  }
