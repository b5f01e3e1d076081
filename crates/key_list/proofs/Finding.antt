-- The steps by which the page of a key is found, before what an insertion or a removal does then.
use Rattle.std.proofs.Common.{◌≡◌, ◌≢◌, ℕ, ◌+◌, ◌<◌, ◌≤◌, ◌⊎◌, inl, inr, Bool, true, false, List, [], ◌∷◌, ◌++◌, append_assoc, length, Option, Some, None, Result, Ok, Err, refl, sym, ◌∙◌, ap, subst, arith}
use Rattle.std.specs.Prelude.{IsTrue, IfOk, IfSome, not}
use Rattle.std.proofs.lemmas.Bool.{false≢true}
use Rattle.std.proofs.lemmas.List.{append-nil}
use Rattle.array_shape.specs.declared.shape.Shape.{Shape}
use Rattle.array_shape.specs.Places.{page_count}
use Rattle.eaw_face.specs.Command as store
use Rattle.eaw_face.specs.StoreView.{StoreView}
use Rattle.page_store.specs.Course.{Reading, IsWay, AreThere}
use Rattle.page_store.specs.Follows.{HasRead, Walks, IsLast, one_reading}
use Rattle.page_store.specs.Index.{Action}
use Rattle.page_store.specs.Looks.{is_failed}
use Rattle.page_store.specs.Works.{Step, front, onward, aside, acts, Limits, Spends, fronts_of, way_of, asides_of, actions_of, AreActs, IsAmong, IsMet, takes_of, blamed, is_done, WorksFrom, Works}
use Rattle.page_store.specs.declared.fault.PageFault.{PageFault}
use Rattle.page_store.specs.declared.fault.PageFault.TheVariants as faults
use Rattle.index_pages.specs.Fetched.{TestCause}
use Rattle.index_pages.proofs.Working.{onwards, spends_none, spends_ill, spends_then, spends_onward, spends_front, works_behind, works_of}
use Rattle.key_list.specs.Along.{along, WasRead}
use Rattle.key_list.specs.Finds.{Finds, AreReads, no_way}

-- reads alone
pub reads_plain : (ss : List Step) → AreReads ss → (asides_of ss ≡ 0) × (actions_of ss ≡ []) × ((t : ℕ) → AreActs t ss)
reads_plain [] are = (refl, refl, λ t. tt)
reads_plain (front ∷ ss) are = reads_plain ss are
reads_plain (onward r ∷ ss) are = reads_plain ss are
reads_plain (aside p at len ∷ ss) are = absurd are
reads_plain (acts a cs ∷ ss) are = absurd are

reads_only : (rs : List Reading) → AreReads (onwards rs ++ front ∷ [])
reads_only [] = tt
reads_only (r ∷ rs) = reads_only rs

reads_fronts : (rs : List Reading) → fronts_of (onwards rs ++ front ∷ []) ≡ 1
reads_fronts [] = refl
reads_fronts (r ∷ rs) = reads_fronts rs

reads_way : (rs : List Reading) → way_of (onwards rs ++ front ∷ []) ≡ rs
reads_way [] = refl
reads_way (r ∷ rs) = ap (λ (xs : List Reading). r ∷ xs) (reads_way rs)

pub front_met : (rs : List Reading) → IsMet 0 (onwards rs ++ front ∷ [])
front_met [] = inl refl
front_met (r ∷ rs) = inr (front_met rs)

pub read_met : (page : ℕ) (rs : List Reading) → WasRead page rs → IsMet page (onwards rs ++ front ∷ [])
read_met page [] was = absurd was
read_met page (r ∷ rs) was = elim was [ inl is ↦ inl is | inr more ↦ inr (read_met page rs more) ]

-- a fault blames the same page, whatever the call would have answered
pub blamed_as : (T U : Type 0) (fault : PageFault) → (let r : Result T PageFault = Err fault in let s : Result U PageFault = Err fault in blamed r ≡ blamed s)
blamed_as T U faults.Media = refl
blamed_as T U faults.Dead = refl
blamed_as T U (faults.LogFull g h n) = refl
blamed_as T U faults.SavesFull = refl
blamed_as T U (faults.Damaged bad) = refl

-- no other page than the super page
pub front_only : (page : ℕ) (ss : List Step) → IsMet 0 ss → IsAmong page (0 ∷ []) → IsMet page ss
front_only page ss met among = elim among [ inl is ↦ subst (λ (x : ℕ). IsMet x ss) (sym is) met | inr none ↦ absurd none ]

-- or than that and one more
pub both_only : (page other : ℕ) (ss : List Step) → IsMet 0 ss → IsMet other ss → IsAmong page (0 ∷ other ∷ []) → IsMet page ss
both_only page other ss met also among = elim among [ inl is ↦ subst (λ (x : ℕ). IsMet x ss) (sym is) met | inr one ↦ elim one [ inl is ↦ subst (λ (x : ℕ). IsMet x ss) (sym is) also | inr none ↦ absurd none ] ]

last_met : (page : ℕ) (rs : List Reading) → IsLast rs page → IsMet page (onwards rs ++ front ∷ [])
last_met page [] is = absurd is
last_met page (r ∷ rs) is = inl (sym is)

last_there : (count page : ℕ) (rs : List Reading) → AreThere count rs → IsLast rs page → page < count
last_there count page [] are is = absurd is
last_there count page (r ∷ rs) are is = omega (arith, are.0, is)

module _ {S : Type 0} (tells : Bool) (view : S → StoreView) (calls : S → store.Command → ℕ) (root key most : ℕ) where
  -- the super page was read, and then these pages of the way
  found : (U : Type 0) (Ends : U → List Step → Type 0) (old new : StoreView) (result : Result U PageFault) (w : List Reading) → Spends tells (is_done result) view calls (onwards w ++ front ∷ []) old new → IsWay (along root key) w → length w ≤ most
      → IfSome (blamed result) (λ page. (page < page_count old.shape) × IsMet page (onwards w ++ front ∷ [])) → IfOk result (λ x. Ends x (onwards w ++ front ∷ []))
      → Finds tells view calls root key most Ends old new result
  found U Ends old new result w spends way few blames ends = record {
    steps = onwards w ++ front ∷ [];
    spends = spends;
    only = reads_only w;
    fronts = omega (arith, reads_fronts w);
    way = subst (λ (rs : List Reading). IsWay (along root key) rs) (sym (reads_way w)) way;
    few = omega (arith, ap (λ (rs : List Reading). length rs) (reads_way w), few);
    blames = blames;
    ends = ends;
  }

  -- the super page cannot be read, or is none
  pub front_fails : (T U : Type 0) (Ends : U → List Step → Type 0) (Good : Type 0) (at : S) (calls_now : store.Command → ℕ) (old new : StoreView) (said there : List ℕ) (fault : PageFault) → 0 < page_count old.shape
      → (let r : Result T PageFault = Err fault in HasRead tells (is_failed r) (calls at) calls_now old new (one_reading 0 said there r)) → (let r : Result T PageFault = Err fault in TestCause tells Good 0 old r)
      → (let s : Result U PageFault = Err fault in Finds tells view calls root key most Ends old new s)
  front_fails T U Ends Good at calls_now old new said there faults.Media some reads cause =
      found U Ends old new (Err faults.Media) [] (spends_front tells view calls at true calls_now old new there reads) tt (omega arith) tt tt
  front_fails T U Ends Good at calls_now old new said there faults.Dead some reads cause = record {
    steps = [];
    spends = spends_none tells view calls false old new (omega (arith, reads.exact refl));
    only = tt;
    fronts = omega arith;
    way = tt;
    few = omega arith;
    blames = tt;
    ends = tt;
  }
  front_fails T U Ends Good at calls_now old new said there (faults.Damaged bad) some reads cause =
      found U Ends old new (Err (faults.Damaged bad)) [] (spends_ill tells view calls false (front ∷ []) old new (spends_front tells view calls at false calls_now old new said reads)) tt (omega arith)
      (omega (arith, cause.1, some), inl cause.1) tt
  front_fails T U Ends Good at calls_now old new said there (faults.LogFull g h n) some reads cause = absurd cause
  front_fails T U Ends Good at calls_now old new said there faults.SavesFull some reads cause = absurd cause

  -- it was read, and the page is known
  pub known_finds : (U : Type 0) (x : U) (Ends : U → List Step → Type 0) (at : S) (calls_now : store.Command → ℕ) (old new : StoreView) (said : List ℕ) → HasRead tells false (calls at) calls_now old new ((0, said) ∷ []) → Ends x (front ∷ [])
      → (let s : Result U PageFault = Ok x in Finds tells view calls root key most Ends old new s)
  known_finds U x Ends at calls_now old new said reads ends = found U Ends old new (Ok x) [] (spends_front tells view calls at false calls_now old new said reads) tt (omega arith) tt ends

  -- it was read, and then pages of the way
  module _ (T U : Type 0) (Walked : T → List Reading → Type 0) (Ends : U → List Step → Type 0) (first_at then_at : S) (calls_now : store.Command → ℕ) (old mid new : StoreView) (said : List ℕ) (shape : mid.shape ≡ old.shape)
      (reads : HasRead tells false (calls first_at) (calls then_at) old mid ((0, said) ∷ [])) where
    walked : (failed : Bool) (rs : List Reading) → HasRead tells failed (calls then_at) calls_now mid new rs → Spends tells (not failed) view calls (onwards rs ++ front ∷ []) old new
    walked failed rs then_reads =
        spends_then tells view calls (not failed) (front ∷ []) (onwards rs) old mid new (spends_front tells view calls first_at false (calls then_at) old mid said reads) (spends_onward tells view calls then_at failed calls_now mid new rs then_reads)

    pub walk_finds : (x : T) (y : U) → (let r : Result T PageFault = Ok x in Walks tells (calls then_at) calls_now (along root key) most Walked mid new r) → ((rs : List Reading) → Walked x rs → Ends y (onwards rs ++ front ∷ []))
        → (let s : Result U PageFault = Ok y in Finds tells view calls root key most Ends old new s)
    walk_finds x y walks ends = found U Ends old new (Ok y) walks.read (walked false walks.read walks.reads) walks.way walks.few tt (ends walks.read walks.ends)

    pub walk_fails : (fault : PageFault) → (let r : Result T PageFault = Err fault in Walks tells (calls then_at) calls_now (along root key) most Walked mid new r) → (let s : Result U PageFault = Err fault in Finds tells view calls root key most Ends old new s)
    walk_fails faults.Media walks = found U Ends old new (Err faults.Media) walks.read (walked true walks.read walks.reads) walks.way walks.few tt tt
    walk_fails faults.Dead walks = found U Ends old new (Err faults.Dead) walks.read (spends_ill tells view calls false (onwards walks.read ++ front ∷ []) old new (walked false walks.read walks.reads)) walks.way walks.few tt tt
    walk_fails (faults.Damaged bad) walks =
        found U Ends old new (Err (faults.Damaged bad)) walks.read (spends_ill tells view calls false (onwards walks.read ++ front ∷ []) old new (walked false walks.read walks.reads)) walks.way walks.few
        (subst (λ (s : Shape). bad < page_count s) shape (last_there (page_count mid.shape) bad walks.read walks.reads.there walks.blames), last_met bad walks.read walks.blames) tt
    walk_fails (faults.LogFull g h n) walks = found U Ends old new (Err (faults.LogFull g h n)) walks.read (spends_ill tells view calls false (onwards walks.read ++ front ∷ []) old new (walked false walks.read walks.reads)) walks.way walks.few tt tt
    walk_fails faults.SavesFull walks = found U Ends old new (Err faults.SavesFull) walks.read (spends_ill tells view calls false (onwards walks.read ++ front ∷ []) old new (walked false walks.read walks.reads)) walks.way walks.few tt tt

  -- how what is found is put before what is done then
  module _ (T : Type 0) (Ends : T → List Step → Type 0) (sure : Type 0) (t : ℕ) (limits : Limits) (due : List Action) (bad : Option ℕ) (old mid : StoreView) (fronts : 1 ≤ limits.fronts) (few : most ≤ limits.way) where
    -- nothing, if it was not found
    pub finds_fail : (fault : PageFault) → (let r : Result T PageFault = Err fault in bad ≡ blamed r) → (let r : Result T PageFault = Err fault in Finds tells view calls root key most Ends old mid r)
        → Works sure tells false view calls t (along root key) limits due bad old mid
    finds_fail fault blames finds =
        let plain = reads_plain finds.steps finds.only in
        works_of tells view calls sure false t (along root key) limits due due bad [] old mid finds.steps finds.spends (plain.2 t) (omega (arith, finds.fronts, fronts)) (omega (arith, finds.few, few)) (omega (arith, plain.0))
        (omega (arith, ap (λ (xs : List Action). length xs) plain.1)) (λ is. finds.way)
        (subst (λ (o : Option ℕ). IfSome o (λ page. (page < page_count old.shape) × (IsAmong page [] ⊎ IsMet page finds.steps))) (sym blames) (met_only (let r : Result T PageFault = Err fault in blamed r) finds.blames))
        (λ told. ap (λ (xs : List Action). xs ++ due) plain.1) (λ told is. absurd (false≢true is)) (λ told. omega (arith, plain.0))
      where
        met_only : (o : Option ℕ) → IfSome o (λ page. (page < page_count old.shape) × IsMet page finds.steps) → IfSome o (λ page. (page < page_count old.shape) × (IsAmong page [] ⊎ IsMet page finds.steps))
        met_only None is = tt
        met_only (Some page) is = (is.0, inr is.1)

    pub finds_then : (new : StoreView) (done : Bool) (then_limits : Limits) (then_due : List Action) (then_known : List ℕ) → mid.shape ≡ old.shape → (x : T) → (finds : (let r : Result T PageFault = Ok x in Finds tells view calls root key most Ends old mid r))
        → then_limits.fronts ≡ 0 → then_limits.way ≡ 0 → then_limits.asides ≤ limits.asides → then_limits.actions ≤ limits.actions → (IsTrue tells → then_due ≡ due) → ((page : ℕ) → IsAmong page then_known → IsMet page finds.steps)
        → WorksFrom then_known sure tells done view calls t no_way then_limits then_due bad mid new → Works sure tells done view calls t (along root key) limits due bad old new
    finds_then new done then_limits then_due then_known shape x finds no_front none asides actions same met works =
        let plain = reads_plain finds.steps finds.only in
        works_behind tells view calls sure done t (along root key) no_way limits then_limits due then_due bad [] then_known old mid new finds.steps shape finds.spends (plain.2 t)
        (omega (arith, finds.fronts, fronts, no_front)) (omega (arith, finds.few, few, none)) (omega (arith, plain.0, asides)) (omega (arith, ap (λ (xs : List Action). length xs) plain.1, actions))
        (λ is rs way. way_here rs way) (λ told. ap (λ (xs : List Action). xs ++ then_due) plain.1 ∙ same told) (λ told. omega (arith, plain.0)) (λ page among. inr (met page among)) works
      where
        way_here : (rs : List Reading) → IsWay no_way rs → IsWay (along root key) (rs ++ way_of finds.steps)
        way_here [] way = finds.way
        way_here (r ∷ rs) way = (let none : None ≡ Some r.0 = way.0 in absurd (cc))
