-- The steps of an insertion or a removal: reads, actions, and one after another.
use Rattle.std.proofs.Common.{◌≡◌, ℕ, ◌+◌, ◌*◌, ◌%◌, ◌<◌, ◌≤◌, ◌⊎◌, inl, inr, Bool, true, false, List, [], ◌∷◌, ◌++◌, append_assoc, length, Option, Some, None, Result, Ok, Err, refl, sym, ◌∙◌, ap, subst, arith}
use Rattle.std.specs.Prelude.{IsTrue, IfSome, sum, map, not}
use Rattle.std.proofs.lemmas.Bool.{false≢true}
use Rattle.std.proofs.lemmas.List.{append-nil, length-append}
use Rattle.std.proofs.lemmas.List.Sums.{sum_by-cons, sum_by-append}
use Rattle.mars_base.specs.Costs.{Costs}
use Rattle.array_shape.specs.declared.shape.Shape.{Shape}
use Rattle.array_shape.specs.Places.{page_count}
use Rattle.eaw_face.specs.Command as store
use Rattle.eaw_face.specs.StoreView.{StoreView}
use Rattle.page_store.specs.Command.{PageCommand}
use Rattle.page_store.specs.Course.{Reading, IsWay}
use Rattle.page_store.specs.Device.{device, device_cost}
use Rattle.page_store.specs.Follows.{HasRead, one_reading, reads_cost}
use Rattle.page_store.specs.Index.{Action}
use Rattle.page_store.specs.Looks.{is_failed}
use Rattle.page_store.specs.Runs.{Runs, IsCost}
use Rattle.page_store.specs.Shown.{Shown, address, outline_of, pages_of}
use Rattle.page_store.specs.Works.{Step, front, onward, aside, acts, IsStepCost, Spends, fronts_of, way_of, asides_of, actions_of, AreActs, LiesIn, IsAmong, IsMet, Limits, takes_of, is_done, blamed, blamed_index, WorksFrom}
use Rattle.page_store.specs.Pairs.{Pair}
use Rattle.record_slots.specs.declared.free.Free.{Free}
use Rattle.record_slots.specs.declared.super_page.Super.{Super}
use Rattle.page_store.specs.declared.fault.PageFault.{PageFault}
use Rattle.page_store.specs.declared.fault.PageFault.TheVariants as faults
use Rattle.page_store.specs.declared.index_fault.IndexFault.{IndexFault}
use Rattle.index_pages.specs.Acts.{ActCause}
use Rattle.index_pages.specs.Adding.{adding_pages, adding_parts}
use Rattle.page_store.specs.Faults.{as_index}
use Rattle.index_pages.specs.Giving.{removing_pages, removing_parts}
use Rattle.std.specs.List.{AllZip}
use Rattle.index_pages.specs.Fetched.{ReadCause}
use Rattle.index_pages.specs.Peeks.{Peeks, AreAsides}

sum_two : (xs ys : List ℕ) → sum (xs ++ ys) ≡ sum xs + sum ys
sum_two xs ys = sum_by-append (λ (n : ℕ). n) xs ys

sum_one : (n : ℕ) (ns : List ℕ) → sum (n ∷ ns) ≡ n + sum ns
sum_one n ns = sum_by-cons (λ (m : ℕ). m) n ns

-- what is counted of steps, in two lists of them
pub fronts_two : (xs ys : List Step) → fronts_of (xs ++ ys) ≡ fronts_of xs + fronts_of ys
fronts_two [] ys = omega arith
fronts_two (front ∷ xs) ys = omega (arith, fronts_two xs ys)
fronts_two (onward r ∷ xs) ys = fronts_two xs ys
fronts_two (aside p at len ∷ xs) ys = fronts_two xs ys
fronts_two (acts a cs ∷ xs) ys = fronts_two xs ys

pub way_two : (xs ys : List Step) → way_of (xs ++ ys) ≡ way_of xs ++ way_of ys
way_two [] ys = refl
way_two (front ∷ xs) ys = way_two xs ys
way_two (onward r ∷ xs) ys = ap (λ (rs : List Reading). r ∷ rs) (way_two xs ys)
way_two (aside p at len ∷ xs) ys = way_two xs ys
way_two (acts a cs ∷ xs) ys = way_two xs ys

pub asides_two : (xs ys : List Step) → asides_of (xs ++ ys) ≡ asides_of xs + asides_of ys
asides_two [] ys = omega arith
asides_two (front ∷ xs) ys = asides_two xs ys
asides_two (onward r ∷ xs) ys = asides_two xs ys
asides_two (aside p at len ∷ xs) ys = omega (arith, asides_two xs ys)
asides_two (acts a cs ∷ xs) ys = asides_two xs ys

pub actions_two : (xs ys : List Step) → actions_of (xs ++ ys) ≡ actions_of ys ++ actions_of xs
actions_two [] ys = sym (append-nil (actions_of ys))
actions_two (front ∷ xs) ys = actions_two xs ys
actions_two (onward r ∷ xs) ys = actions_two xs ys
actions_two (aside p at len ∷ xs) ys = actions_two xs ys
actions_two (acts a cs ∷ xs) ys = ap (λ (xs : List Action). xs ++ a ∷ []) (actions_two xs ys) ∙ append_assoc (actions_of ys) (actions_of xs) (a ∷ [])

pub takes_two : (xs ys : List Action) → takes_of (xs ++ ys) ≡ takes_of xs + takes_of ys
takes_two [] ys = omega arith
takes_two (x ∷ xs) ys = omega (arith, takes_two xs ys)

pub acts_two : (t : ℕ) (xs ys : List Step) → AreActs t xs → AreActs t ys → AreActs t (xs ++ ys)
acts_two t [] ys are are' = are'
acts_two t (front ∷ xs) ys are are' = acts_two t xs ys are are'
acts_two t (onward r ∷ xs) ys are are' = acts_two t xs ys are are'
acts_two t (aside p at len ∷ xs) ys are are' = acts_two t xs ys are are'
acts_two t (acts a cs ∷ xs) ys are are' = (are.0, acts_two t xs ys are.1 are')

pub met_later : (page : ℕ) (xs ys : List Step) → IsMet page xs → IsMet page (xs ++ ys)
met_later page [] ys met = absurd met
met_later page (front ∷ xs) ys met = elim met [ inl is ↦ inl is | inr more ↦ inr (met_later page xs ys more) ]
met_later page (onward r ∷ xs) ys met = elim met [ inl is ↦ inl is | inr more ↦ inr (met_later page xs ys more) ]
met_later page (aside p at len ∷ xs) ys met = elim met [ inl is ↦ inl is | inr more ↦ inr (met_later page xs ys more) ]
met_later page (acts a cs ∷ xs) ys met = elim met [ inl is ↦ inl is | inr more ↦ inr (met_later page xs ys more) ]

pub met_first : (page : ℕ) (xs ys : List Step) → IsMet page ys → IsMet page (xs ++ ys)
met_first page [] ys met = met
met_first page (front ∷ xs) ys met = inr (met_first page xs ys met)
met_first page (onward r ∷ xs) ys met = inr (met_first page xs ys met)
met_first page (aside p at len ∷ xs) ys met = inr (met_first page xs ys met)
met_first page (acts a cs ∷ xs) ys met = inr (met_first page xs ys met)

-- reads aside alone
pub asides_plain : (t : ℕ) (ss : List Step) → AreAsides ss → (fronts_of ss ≡ 0) × (way_of ss ≡ []) × (actions_of ss ≡ []) × AreActs t ss × (asides_of ss ≡ length ss)
asides_plain t [] are = (refl, refl, refl, tt, refl)
asides_plain t (aside p at len ∷ ss) are = let rest = asides_plain t ss are in (rest.0, rest.1, rest.2, rest.3, omega (arith, rest.4))
asides_plain t (front ∷ ss) are = absurd are
asides_plain t (onward r ∷ ss) are = absurd are
asides_plain t (acts a cs ∷ ss) are = absurd are

abbrev pub onwards : List Reading → List Step
onwards rs = map (λ r. onward r) rs

module _ {S : Type 0} (tells : Bool) (view : S → StoreView) (calls : S → store.Command → ℕ) where
  costs_two : (xs ys : List Step) (ns ms : List ℕ) → AllZip (IsStepCost view calls) xs ns → AllZip (IsStepCost view calls) ys ms → AllZip (IsStepCost view calls) (xs ++ ys) (ns ++ ms)
  costs_two [] ys [] ms are are' = are'
  costs_two [] ys (n ∷ ns) ms are are' = absurd are
  costs_two (x ∷ xs) ys [] ms are are' = absurd are
  costs_two (x ∷ xs) ys (n ∷ ns) ms are are' = (are.0, costs_two xs ys ns ms are.1 are')

  -- nothing was done
  pub spends_none : (well : Bool) (old new : StoreView) → new.moment ≡ old.moment → Spends tells well view calls [] old new
  spends_none well old new same = record { costs = []; each = tt; most = omega (arith, same); exact = λ told is. omega (arith, same) }

  -- it is enough to know less
  pub spends_ill : (well : Bool) (steps : List Step) (old new : StoreView) → Spends tells true view calls steps old new → Spends tells well view calls steps old new
  spends_ill well steps old new spends = record { costs = spends.costs; each = spends.each; most = spends.most; exact = λ told is. spends.exact told refl }

  -- one after another
  pub spends_then : (well : Bool) (xs ys : List Step) (old mid new : StoreView) → Spends tells true view calls xs old mid → Spends tells well view calls ys mid new → Spends tells well view calls (ys ++ xs) old new
  spends_then well xs ys old mid new one two =
      let all = sum_two two.costs one.costs in
      record {
        costs = two.costs ++ one.costs;
        each = costs_two ys xs two.costs one.costs two.each one.each;
        most = omega (arith, all, one.most, two.most);
        exact = λ told is. omega (arith, all, one.exact told refl, two.exact told is);
      }

  -- a read that a store was asked for
  module _ (at : S) where
    pub spends_aside : {T F : Type 0} (page place len : ℕ) (old new : StoreView) (r : Result T F) → Costs true (calls at (store.read (address page place) len)) old.moment new.moment r → Spends tells (is_done r) view calls (aside page place len ∷ []) old new
    spends_aside page place len old new (Ok x) costs = record { costs = calls at (store.read (address page place) len) ∷ []; each = ((at, refl), tt); most = omega (arith, costs.most); exact = λ told is. omega (arith, costs.done refl) }
    spends_aside page place len old new (Err fault) costs = record { costs = calls at (store.read (address page place) len) ∷ []; each = ((at, refl), tt); most = omega (arith, costs.most); exact = λ told is. absurd (false≢true is) }

    abbrev read_costs : List Reading → List ℕ
    read_costs [] = []
    read_costs (r ∷ rs) = calls at (store.read (address r.0 0) 512) ∷ read_costs rs

    read_each : (rs : List Reading) → AllZip (IsStepCost view calls) (onwards rs) (read_costs rs)
    read_each [] = tt
    read_each (r ∷ rs) = ((at, refl), read_each rs)

    read_sum : (rs : List Reading) → sum (read_costs rs) ≡ reads_cost (calls at) rs
    read_sum [] = refl
    read_sum (r ∷ rs) = omega (arith, sum_one (calls at (store.read (address r.0 0) 512)) (read_costs rs), read_sum rs)

    -- pages of a way that were read
    pub spends_onward : (failed : Bool) (calls_now : store.Command → ℕ) (old new : StoreView) (rs : List Reading) → HasRead tells failed (calls at) calls_now old new rs → Spends tells (not failed) view calls (onwards rs) old new
    spends_onward true calls_now old new rs reads = record { costs = read_costs rs; each = read_each rs; most = omega (arith, read_sum rs, reads.most); exact = λ told is. absurd (false≢true is) }
    spends_onward false calls_now old new rs reads = record { costs = read_costs rs; each = read_each rs; most = omega (arith, read_sum rs, reads.most); exact = λ told is. omega (arith, read_sum rs, reads.exact refl) }

    -- the super page was read
    pub spends_front : (failed : Bool) (calls_now : store.Command → ℕ) (old new : StoreView) (said : List ℕ) → HasRead tells failed (calls at) calls_now old new ((0, said) ∷ []) → Spends tells (not failed) view calls (front ∷ []) old new
    spends_front true calls_now old new said reads = record { costs = calls at (store.read (address 0 0) 512) ∷ []; each = ((at, refl), tt); most = omega (arith, reads.most); exact = λ told is. absurd (false≢true is) }
    spends_front false calls_now old new said reads = record { costs = calls at (store.read (address 0 0) 512) ∷ []; each = ((at, refl), tt); most = omega (arith, reads.most); exact = λ told is. omega (arith, reads.exact refl) }

    -- a page was read aside
    pub spends_beside : (failed : Bool) (calls_now : store.Command → ℕ) (old new : StoreView) (page : ℕ) (said : List ℕ) → HasRead tells failed (calls at) calls_now old new ((page, said) ∷ []) → Spends tells (not failed) view calls (aside page 0 512 ∷ []) old new
    spends_beside true calls_now old new page said reads = record { costs = calls at (store.read (address page 0) 512) ∷ []; each = ((at, refl), tt); most = omega (arith, reads.most); exact = λ told is. absurd (false≢true is) }
    spends_beside false calls_now old new page said reads = record { costs = calls at (store.read (address page 0) 512) ∷ []; each = ((at, refl), tt); most = omega (arith, reads.most); exact = λ told is. omega (arith, reads.exact refl) }

  -- what commands cost that are given at one place
  module _ (at : Shown S) where
    abbrev all_costs : List PageCommand → List ℕ
    all_costs [] = []
    all_costs (c ∷ cs) = device_cost (calls at.store) (device c (outline_of (pages_of (view at.store) at))) ∷ all_costs cs

    all_each : (cs : List PageCommand) → AllZip (IsCost view calls) cs (all_costs cs)
    all_each [] = tt
    all_each (c ∷ cs) = ((at, refl), all_each cs)

    more_costs : (cs ds : List PageCommand) (ns : List ℕ) → AllZip (IsCost view calls) cs ns → AllZip (IsCost view calls) (cs ++ ds) (ns ++ all_costs ds)
    more_costs [] ds [] are = all_each ds
    more_costs [] ds (n ∷ ns) are = absurd are
    more_costs (c ∷ cs) ds [] are = absurd are
    more_costs (c ∷ cs) ds (n ∷ ns) are = (are.0, more_costs cs ds ns are.1)

    -- an action, or the first commands of one
    pub spends_act : {T : Type 0} (action : Action) (commands : List PageCommand) (old new : StoreView) (r : Result T PageFault) → Runs tells view calls commands old new r → Spends tells (is_done r) view calls (acts action commands ∷ []) old new
    spends_act action commands old new (Ok x) runs =
        let whole : runs.made ≡ commands = sym (append-nil runs.made) ∙ ap (λ (l : List PageCommand). runs.made ++ l) (sym runs.all) ∙ runs.these in
        record {
          costs = sum runs.costs ∷ [];
          each = ((runs.costs, subst (λ (cs : List PageCommand). AllZip (IsCost view calls) cs runs.costs) whole runs.each, refl), tt);
          most = omega (arith, runs.most);
          exact = λ told is. omega (arith, runs.exact told);
        }
    spends_act action commands old new (Err fault) runs =
        let all = sum_two runs.costs (all_costs runs.left) in
        record {
          costs = sum (runs.costs ++ all_costs runs.left) ∷ [];
          each = ((runs.costs ++ all_costs runs.left, subst (λ (cs : List PageCommand). AllZip (IsCost view calls) cs (runs.costs ++ all_costs runs.left)) runs.these (more_costs runs.made runs.left runs.costs runs.each), refl), tt);
          most = omega (arith, all, runs.most);
          exact = λ told is. absurd (false≢true is);
        }

  -- what was done before is put before the rest
  module _ (sure : Type 0) (done : Bool) (t : ℕ) (goes then_goes : List Reading → Option ℕ) (limits then_limits : Limits) (due then_due : List Action) (bad : Option ℕ) (known then_known : List ℕ) (old mid new : StoreView) (first : List Step)
      (shape : mid.shape ≡ old.shape) (spends : Spends tells true view calls first old mid) (acted : AreActs t first)
      (fronts : fronts_of first + then_limits.fronts ≤ limits.fronts) (few : length (way_of first) + then_limits.way ≤ limits.way)
      (asides : asides_of first + then_limits.asides ≤ limits.asides) (actions : length (actions_of first) + then_limits.actions ≤ limits.actions)
      (way : sure → (rs : List Reading) → IsWay then_goes rs → IsWay goes (rs ++ way_of first)) (just : IsTrue tells → actions_of first ++ then_due ≡ due)
      (taken : IsTrue tells → asides_of first ≤ takes_of (actions_of first)) (met : (page : ℕ) → IsAmong page then_known → IsAmong page known ⊎ IsMet page first) where
    pub works_behind : WorksFrom then_known sure tells done view calls t then_goes then_limits then_due bad mid new → WorksFrom known sure tells done view calls t goes limits due bad old new
    works_behind works =
        let ss = works.steps in
        record {
          steps = ss ++ first;
          spends = spends_then done first ss old mid new spends works.spends;
          fronts = omega (arith, fronts_two ss first, works.fronts, fronts);
          way = λ is. subst (λ (rs : List Reading). IsWay goes rs) (sym (way_two ss first)) (way is (way_of ss) (works.way is));
          few = omega (arith, ap (λ (rs : List Reading). length rs) (way_two ss first), length-append (way_of ss) (way_of first), works.few, few);
          asides = omega (arith, asides_two ss first, works.asides, asides);
          actions = omega (arith, ap (λ (xs : List Action). length xs) (actions_two ss first), length-append (actions_of first) (actions_of ss), works.actions, actions);
          acted = acts_two t ss first works.acted acted;
          blames = blames_then bad works.blames;
          left = works.left;
          just = λ told. ap (λ (xs : List Action). xs ++ works.left) (actions_two ss first) ∙ append_assoc (actions_of first) (actions_of ss) works.left ∙ ap (λ (xs : List Action). actions_of first ++ xs) (works.just told) ∙ just told;
          all = works.all;
          taken = λ told. omega (arith, asides_two ss first, taken told, works.taken told, takes_two (actions_of first) then_due, ap takes_of (just told));
        }
      where
        blames_then : (bad : Option ℕ) → IfSome bad (λ page. (page < page_count mid.shape) × (IsAmong page then_known ⊎ IsMet page works.steps)) → IfSome bad (λ page. (page < page_count old.shape) × (IsAmong page known ⊎ IsMet page (works.steps ++ first)))
        blames_then None blames = tt
        blames_then (Some page) blames = (
          subst (λ (sh : Shape). page < page_count sh) shape blames.0,
          elim blames.1 [
            | inl among ↦ elim (met page among) [ inl was ↦ inl was | inr one ↦ inr (met_first page works.steps first one) ]
            | inr later ↦ inr (met_later page works.steps first later)
          ],
        )

  -- these steps, and no other
  module _ (sure : Type 0) (done : Bool) (t : ℕ) (goes : List Reading → Option ℕ) (limits : Limits) (due left : List Action) (bad : Option ℕ) (known : List ℕ) (old new : StoreView) (steps : List Step) where
    pub works_of : Spends tells done view calls steps old new → AreActs t steps → fronts_of steps ≤ limits.fronts → length (way_of steps) ≤ limits.way → asides_of steps ≤ limits.asides → length (actions_of steps) ≤ limits.actions
        → (sure → IsWay goes (way_of steps)) → IfSome bad (λ page. (page < page_count old.shape) × (IsAmong page known ⊎ IsMet page steps)) → (IsTrue tells → actions_of steps ++ left ≡ due) → (IsTrue tells → IsTrue done → left ≡ [])
        → (IsTrue tells → asides_of steps ≤ takes_of due + 1) → WorksFrom known sure tells done view calls t goes limits due bad old new
    works_of spends acted fronts few asides actions way blames just all taken = record {
      steps = steps;
      spends = spends;
      fronts = fronts;
      way = way;
      few = few;
      asides = asides;
      actions = actions;
      acted = acted;
      blames = blames;
      left = left;
      just = just;
      all = all;
      taken = taken;
    }

-- the parts of an insertion and of a removal in one page lie in their pages
pub adding_in : (half : ℕ) (after : Super) (slot page link : ℕ) (pairs : List Pair) (table key : ℕ) → AllZip LiesIn (adding_pages half slot page) (adding_parts half after slot page link pairs table key)
adding_in half after slot page link pairs table key = ((slot % 8 * 64, omega arith, refl), ((0, omega arith, refl), ((8, omega arith, refl), tt)))

pub removing_in : (half : ℕ) (after : Super) (slot : ℕ) (free : Free) (page link : ℕ) (pairs : List Pair) (key : ℕ) → AllZip LiesIn (removing_pages half slot page) (removing_parts half after slot free page link pairs key)
removing_in half after slot free page link pairs key = ((slot % 8 * 64, omega arith, refl), ((0, omega arith, refl), ((8, omega arith, refl), tt)))

-- a refused action blames no page
pub act_blames : (T : Type 0) (old : StoreView) (t : ℕ) (pages : List ℕ) (fault : PageFault) → (let r : Result (Unit {0}) PageFault = Err fault in ActCause old t pages r) → (let r : Result T PageFault = Err fault in blamed r ≡ None)
act_blames T old t pages faults.Media cause = refl
act_blames T old t pages faults.Dead cause = refl
act_blames T old t pages (faults.LogFull g h n) cause = refl
act_blames T old t pages faults.SavesFull cause = absurd cause
act_blames T old t pages (faults.Damaged bad) cause = absurd cause

-- a fault that an insertion passes on blames the same page
pub blamed_same : (T U : Type 0) (fault : PageFault) → (let r : Result T IndexFault = Err (as_index fault) in let s : Result U PageFault = Err fault in blamed_index r ≡ blamed s)
blamed_same T U faults.Media = refl
blamed_same T U faults.Dead = refl
blamed_same T U faults.SavesFull = refl
blamed_same T U (faults.Damaged bad) = refl
blamed_same T U (faults.LogFull g h n) = refl

-- a read that tests nothing blames no page
pub read_blames : (T : Type 0) (old : StoreView) (fault : PageFault) (P : ℕ → Type 0) → (let r : Result T PageFault = Err fault in ReadCause old r) → (let r : Result T PageFault = Err fault in IfSome (blamed r) P)
read_blames T old faults.Media P cause = tt
read_blames T old faults.Dead P cause = tt
read_blames T old (faults.LogFull g h n) P cause = tt
read_blames T old faults.SavesFull P cause = tt
read_blames T old (faults.Damaged bad) P cause = absurd cause

module _ {S : Type 0} (tells : Bool) (view : S → StoreView) (calls : S → store.Command → ℕ) (at : S) (page place len : ℕ) (old new : StoreView) (T U : Type 0) where
  -- a read aside fails
  pub peek_err : (fault : PageFault) → (let r : Result T PageFault = Err fault in ReadCause old r) → (let r : Result T PageFault = Err fault in Costs true (calls at (store.read (address page place) len)) old.moment new.moment r)
      → (let r : Result U PageFault = Err fault in Peeks tells view calls old new r)
  peek_err fault cause costs = (let r : Result T PageFault = Err fault in record {
    steps = aside page place len ∷ [];
    spends = spends_aside tells view calls at page place len old new r costs;
    only = tt;
    few = omega arith;
    blames = read_blames U old fault _ (same_cause fault cause);
  })
    where
      same_cause : (fault : PageFault) → (let r : Result T PageFault = Err fault in ReadCause old r) → (let r : Result U PageFault = Err fault in ReadCause old r)
      same_cause faults.Media cause = cause
      same_cause faults.Dead cause = cause
      same_cause (faults.LogFull g h n) cause = cause
      same_cause faults.SavesFull cause = cause
      same_cause (faults.Damaged bad) cause = cause

  -- what was read is damaged, or not
  module _ (x : T) (costs : (let r : Result T PageFault = Ok x in Costs true (calls at (store.read (address page place) len)) old.moment new.moment r)) where
    spends_it : Spends tells true view calls (aside page place len ∷ []) old new
    spends_it = (let r : Result T PageFault = Ok x in spends_aside tells view calls at page place len old new r costs)

    pub peek_bad : (bad : ℕ) → bad ≡ page → bad < page_count old.shape → (let r : Result U PageFault = Err (faults.Damaged bad) in Peeks tells view calls old new r)
    peek_bad bad is there = record {
      steps = aside page place len ∷ [];
      spends = spends_ill tells view calls false (aside page place len ∷ []) old new spends_it;
      only = tt;
      few = omega arith;
      blames = (there, inr (inl is));
    }

    pub peek_ok : (y : U) → (let r : Result U PageFault = Ok y in Peeks tells view calls old new r)
    peek_ok y = record { steps = aside page place len ∷ []; spends = spends_it; only = tt; few = omega arith; blames = tt }

-- what a read of a page cost
pub read_costs_one : {T : Type 0} (tells : Bool) (calls calls_now : store.Command → ℕ) (old new : StoreView) (page : ℕ) (said there : List ℕ) (r : Result T PageFault) → ReadCause old r
    → HasRead tells (is_failed r) calls calls_now old new (one_reading page said there r) → Costs true (calls (store.read (address page 0) 512)) old.moment new.moment r
read_costs_one tells calls calls_now old new page said there (Ok x) cause reads = record { done = λ is. omega (arith, reads.exact refl); most = omega (arith, reads.most) }
read_costs_one tells calls calls_now old new page said there (Err faults.Media) cause reads = record { done = λ is. tt; most = omega (arith, reads.most) }
read_costs_one tells calls calls_now old new page said there (Err faults.Dead) cause reads = record { done = λ is. tt; most = omega (arith, reads.most) }
read_costs_one tells calls calls_now old new page said there (Err (faults.LogFull g h n)) cause reads = absurd cause
read_costs_one tells calls calls_now old new page said there (Err faults.SavesFull) cause reads = absurd cause
read_costs_one tells calls calls_now old new page said there (Err (faults.Damaged bad)) cause reads = absurd cause
