-- An insertion from the root on.
use Rattle.std.proofs.Common.{◌≡◌, ◌≢◌, ℕ, zero, suc, ◌+◌, ◌-◌, ◌^◌, ◌<◌, ◌≤◌, ◌⊎◌, Bool, false, inl, inr, List, [], ◌∷◌, length, None, Result, Ok, Err, refl, sym, ◌∙◌, ap, subst, arith}
use Rattle.std.specs.Prelude.{IsTrue}
use Rattle.array_shape.specs.declared.shape.Shape.{Shape}
use Rattle.array_shape.specs.Places.{data_len, page_count}
use Rattle.array_shape.specs.Logged.{applied}
use Rattle.eaw_face.specs.State.{State}
use Rattle.eaw_face.specs.Causes.{IsAlive}
use Rattle.record_slots.specs.Places.{page_bytes, next_slot, next_page, used_slots, used_pages, page_due}
use Rattle.record_slots.specs.Super.{SaysSuper}
use Rattle.record_slots.specs.declared.super_page.Super.{Super}
use Rattle.page_store.specs.Fits.{FitAll, IsFirstLacking}
use Rattle.page_store.specs.Index.{Action, IsTable, Grows, Rests, slots_of, index_pages_of}
use Rattle.page_store.specs.Inserts.{ActionFits, LackPages, LackRoom, MayBecome, Inserts}
use Rattle.page_store.specs.Looks.{Looks, is_failed}
use Rattle.page_store.specs.Pairs.{Pair, Rise, found}
use Rattle.page_store.specs.Shown.{PagesView}
use Rattle.page_store.specs.Works.{takes_of}
use Rattle.page_store.specs.declared.fault.PageFault.{PageFault}
use Rattle.page_store.specs.declared.index_fault.IndexFault.{IndexFault}
use Rattle.page_store.specs.declared.index_fault.IndexFault.TheVariants as index
use Rattle.index_pages.specs.Acts.{Acts}
use Rattle.index_pages.specs.Adding.{TakesPage}
use Rattle.page_store.specs.Faults.{as_index}
use Rattle.index_pages.specs.Fetched.{TestCause, IsFront}
use Rattle.index_pages.specs.Keys.{key_end}
use Rattle.index_pages.specs.Page.{page_pairs, count_of, level_of}
use Rattle.index_pages.specs.Ways.{above}
use Rattle.index_pages.proofs.Causing.{look_cause, still_same}
use Rattle.index_pages.proofs.Going.{Going, going_looks, going_act, alive_now, inserts_refused, inserts_look_err, inserts_act_err}
use Rattle.index_pages.proofs.Looking.{looks_none}
use Rattle.index_pages.proofs.PageFacts.{length-page_pairs}
use Rattle.index_pages.proofs.Sizes.{index_pages_are}
use Rattle.btree_laws.specs.Tree.{pairs_of_tree}
use Rattle.btree_laws.specs.declared.root.Root.{Root}
use Rattle.btree_pages.specs.Index.{tree, tree_below, growing, tree_actions, actions_below, AreSoundTrees, IsOpenLeaf}
use Rattle.index_pages.specs.Actions.{half_for}
use Rattle.btree_pages.specs.Node.{IsNode}
use Rattle.btree_pages.specs.OnWay.{IsReached}
use Rattle.btree_pages.specs.Trees.{table_sound, trees_count}
use Rattle.btree_pages.specs.Writes.{IsRead, half_pairs, growing_pages, growing_parts}
use Rattle.btree_pages.specs.declared.node.Node.{Node}
use Rattle.index_pages.proofs.Claims.{entries_long, slots_few}
use Rattle.btree_pages.proofs.Actions.{half_same}
use Rattle.btree_pages.proofs.Children.{rises_of}
use Rattle.btree_pages.proofs.Descending.{down_first, down_node}
use Rattle.btree_laws.specs.Descent.{child_for}
use Rattle.btree_pages.proofs.GrowData.{growing_grows, grown_level, grown_half, grown_pairs, grown_says, grown_used, grown_left, grown_dues, grown_slots}
use Rattle.index_pages.proofs.Left.{DecidesAll, all_left, room_lacks, fits_same, lacks_same}
use Rattle.index_pages.proofs.Lifting.{joins_same, inserts_then}
use Rattle.index_pages.proofs.Joining.{named_kept, joins_within}
use Rattle.btree_pages.proofs.Walking.{root_first, root_split, grow_due, growing_takes, growing_stops, growing_lacks, grown_decides}

-- as many levels above the leaves
pub above_all : (d : ℕ) → d ≡ above d 0
above_all zero = refl
above_all (suc d) = ap suc (above_all d)

module _ (tells : Bool) (E : Shape → List ℕ → List ℕ → Type 0) (t : ℕ) (root : Root) (key : ℕ) (v0 v1 : PagesView) (sound : IsTrue tells → IsAlive v0.store → AreSoundTrees v0.store.state.bytes)
    (named : IsTrue tells → IsAlive v0.store → IsTable v0.store.state.bytes root.table root.page) (fits : key < 2 ^ 64) (looks : Looks tells (E v0.store.shape) false v0 v1) where
  -- the root cannot be read
  pub root_err : (v2 : PagesView) (fault : PageFault)
      → (let r : Result Node PageFault = Err fault in Looks tells (E v1.store.shape) (is_failed r) v1 v2 × TestCause tells (IsNode (page_bytes v1.store.state.bytes root.page)) root.page v1.store r)
      → (let r : Result ℕ IndexFault = Err (as_index fault) in Inserts tells (E v0.store.shape) tree t root.page root.table key v0 v2 r)
  root_err v2 fault looks' =
      let r : Result Node PageFault = Err fault in
      let still = looks.still refl in
      inserts_look_err tree tells (E v0.store.shape) t root.page root.table key Node v0 v1 v2 (going_looks tree tells (E v0.store.shape) t root.page root.table key v0 v1 sound looks) fault (
        subst (λ (sh : Shape). Looks tells (E sh) (is_failed r) v1 v2) looks.shape looks'.0,
        look_cause Node Node tells v1.store v1.store (IsNode (page_bytes v1.store.state.bytes root.page)) root.page fault (still_same tells v1.store)
            (λ told living. subst (λ (st : State). IsNode (page_bytes st.bytes root.page)) (sym (still.state told))
            (down_node root v0.store.state.bytes key 0 root.page None (down_first root v0.store.state.bytes key (table_sound v0.store.state.bytes root (sound told (sym still.dead ∙ living)) (named told (sym still.dead ∙ living))) fits))) looks'.1,
      )

  module _ (alive : IsAlive v0.store) where
    going1 : Going tree tells (E v0.store.shape) t root.page root.table key v0 v1
    going1 = going_looks tree tells (E v0.store.shape) t root.page root.table key v0 v1 sound looks

    same1 : IsTrue tells → v1.store.state.bytes ≡ v0.store.state.bytes
    same1 told = ap (λ (st : State). st.bytes) ((looks.still refl).state told)

    -- the rest of the insertion, after what was only read
    pub looked_then : (v2 : PagesView) (r : Result ℕ IndexFault) → Inserts tells (E v1.store.shape) tree t root.page root.table key v1 v2 r → Inserts tells (E v0.store.shape) tree t root.page root.table key v0 v2 r
    looked_then v2 r rest =
        inserts_then tells E t root.page root.table key v0 v1 v2 tree tree going1 alive (λ told. joins_same tree root.page root.table key v0.store.state.bytes v1.store.state.bytes (same1 told))
        (λ told. subst (λ (b : List ℕ). DecidesAll v0.store t (index_pages_of v0.store.shape - used_pages v0.store.state.bytes) (tree_actions v0.store.state.bytes root.page key) (index_pages_of v0.store.shape - used_pages b) (tree_actions b root.page key)) (sym (same1 told)) (all_left v0.store t (index_pages_of v0.store.shape - used_pages v0.store.state.bytes) (tree_actions v0.store.state.bytes root.page key))) r rest

    -- from a root with room on
    pub root_then : (front : Super) (page level : ℕ) (pairs : List Pair) → (IsTrue tells → SaysSuper (page_bytes v0.store.state.bytes 0) front) → page ≡ root.page → level ≤ 7 → (IsTrue tells → level ≡ level_of v0.store.state.bytes root.page)
        → (IsTrue tells → pairs ≡ page_pairs v0.store.state.bytes root.page) → length pairs < 30
        → (v2 : PagesView) (r : Result ℕ IndexFault) → Inserts tells (E v1.store.shape) (tree_below page level (front.next_page + level)) t root.page root.table key v1 v2 r → Inserts tells (E v0.store.shape) tree t root.page root.table key v0 v2 r
    root_then front page level pairs says page_is level_most level_is are room v2 r rest =
        inserts_then tells E t root.page root.table key v0 v1 v2 tree (tree_below page level (front.next_page + level)) going1 alive
        (λ told. joins_within tree (front.next_page + level) (λ bytes root key. actions_below level bytes page page 0 key) root.page root.table key v0.store.state.bytes v1.store.state.bytes (omega (arith, (says told).next_page, level_most)) (ap (λ (b : List ℕ). next_slot b) (same1 told)) (going1.made told alive).0 (going1.made told alive).1)
        first_decides r rest
      where
        first_decides : IsTrue tells → DecidesAll v0.store t (index_pages_of v0.store.shape - used_pages v0.store.state.bytes) (tree_actions v0.store.state.bytes root.page key) (index_pages_of v0.store.shape - used_pages v1.store.state.bytes) (actions_below level v1.store.state.bytes page page 0 key)
        first_decides told =
            let count : count_of v0.store.state.bytes root.page < 30 = omega (arith, room, length-page_pairs v0.store.state.bytes root.page, ap (λ (ps : List Pair). length ps) (are told)) in
            let is : tree_actions v0.store.state.bytes root.page key ≡ actions_below level v0.store.state.bytes page page 0 key =
            sym (root_first root.page key v0.store.state.bytes count)
            ∙ ap (λ (n : ℕ). actions_below n v0.store.state.bytes root.page root.page 0 key) (sym (level_is told))
            ∙ ap (λ (p : ℕ). actions_below level v0.store.state.bytes p p 0 key) (sym page_is) in
            subst (λ (b : List ℕ). DecidesAll v0.store t (index_pages_of v0.store.shape - used_pages v0.store.state.bytes) (tree_actions v0.store.state.bytes root.page key) (index_pages_of v0.store.shape - used_pages b) (actions_below level b page page 0 key)) (sym (same1 told))
            (subst (λ (l : List Action). DecidesAll v0.store t (index_pages_of v0.store.shape - used_pages v0.store.state.bytes) (tree_actions v0.store.state.bytes root.page key) (index_pages_of v0.store.shape - used_pages v0.store.state.bytes) l) is (all_left v0.store t (index_pages_of v0.store.shape - used_pages v0.store.state.bytes) (tree_actions v0.store.state.bytes root.page key)))

    -- from a place on that was found before
    pub place_then : (front : Super) (page level : ℕ) (pairs : List Pair) → level ≡ 0 → (IsTrue tells → SaysSuper (page_bytes v0.store.state.bytes 0) front) → (IsTrue tells → IsOpenLeaf v0.store.state.bytes root.page key page pairs)
        → (v2 : PagesView) (r : Result ℕ IndexFault) → Inserts tells (E v1.store.shape) (tree_below page level (front.next_page + level)) t root.page root.table key v1 v2 r → Inserts tells (E v0.store.shape) tree t root.page root.table key v0 v2 r
    place_then front page level pairs bottom says opens v2 r rest =
        inserts_then tells E t root.page root.table key v0 v1 v2 tree (tree_below page level (front.next_page + level)) going1 alive
        (λ told. joins_within tree (front.next_page + level) (λ bytes root key. actions_below level bytes page page 0 key) root.page root.table key v0.store.state.bytes v1.store.state.bytes (omega (arith, (says told).next_page, bottom)) (ap (λ (b : List ℕ). next_slot b) (same1 told)) (going1.made told alive).0 (going1.made told alive).1)
        decides r rest
      where
        decides : IsTrue tells → DecidesAll v0.store t (index_pages_of v0.store.shape - used_pages v0.store.state.bytes) (tree_actions v0.store.state.bytes root.page key) (index_pages_of v0.store.shape - used_pages v1.store.state.bytes) (actions_below level v1.store.state.bytes page page 0 key)
        decides told =
            let is : tree_actions v0.store.state.bytes root.page key ≡ actions_below level v0.store.state.bytes page page 0 key = (opens told).alone ∙ ap (λ (n : ℕ). actions_below n v0.store.state.bytes page page 0 key) (sym bottom) in
            subst (λ (b : List ℕ). DecidesAll v0.store t (index_pages_of v0.store.shape - used_pages v0.store.state.bytes) (tree_actions v0.store.state.bytes root.page key) (index_pages_of v0.store.shape - used_pages b) (actions_below level b page page 0 key)) (sym (same1 told))
            (subst (λ (l : List Action). DecidesAll v0.store t (index_pages_of v0.store.shape - used_pages v0.store.state.bytes) (tree_actions v0.store.state.bytes root.page key) (index_pages_of v0.store.shape - used_pages v0.store.state.bytes) l) is (all_left v0.store t (index_pages_of v0.store.shape - used_pages v0.store.state.bytes) (tree_actions v0.store.state.bytes root.page key)))

    -- which is on the key's way
    pub place_reached : (page level : ℕ) (pairs : List Pair) → level ≡ 0 → (IsTrue tells → IsOpenLeaf v0.store.state.bytes root.page key page pairs) → IsTrue tells → IsReached root v1.store.state.bytes key page level pairs
    place_reached page level pairs bottom opens told =
        let o = opens told in
        subst (λ (b : List ℕ). IsReached root b key page level pairs) (sym (same1 told))
        (level_of v0.store.state.bytes root.page, record { page_is = o.page_is; level_is = above_all (level_of v0.store.state.bytes root.page) ∙ ap (λ (n : ℕ). above (level_of v0.store.state.bytes root.page) n) (sym bottom); pairs_are = o.pairs_are })

    -- adding the pair is all that is due
    pub place_due : (page : ℕ) (pairs : List Pair) → (IsTrue tells → IsOpenLeaf v0.store.state.bytes root.page key page pairs) → IsTrue tells → actions_below 0 v1.store.state.bytes page page 0 key ≡ tree_actions v0.store.state.bytes root.page key
    place_due page pairs opens told = ap (λ (b : List ℕ). actions_below 0 b page page 0 key) (same1 told) ∙ sym (opens told).alone

    -- what is due from a root with room on
    pub room_due : (page level : ℕ) (pairs : List Pair) → page ≡ root.page → (IsTrue tells → level ≡ level_of v0.store.state.bytes root.page) → (IsTrue tells → pairs ≡ page_pairs v0.store.state.bytes root.page) → length pairs < 30
        → IsTrue tells → actions_below level v1.store.state.bytes page page 0 key ≡ tree_actions v0.store.state.bytes root.page key
    room_due page level pairs page_is level_is are room told =
        let count : count_of v0.store.state.bytes root.page < 30 = omega (arith, room, length-page_pairs v0.store.state.bytes root.page, ap (λ (ps : List Pair). length ps) (are told)) in
        ap (λ (b : List ℕ). actions_below level b page page 0 key) (same1 told) ∙ ap (λ (p : ℕ). actions_below level v0.store.state.bytes p p 0 key) page_is
        ∙ ap (λ (n : ℕ). actions_below n v0.store.state.bytes root.page root.page 0 key) (level_is told) ∙ root_first root.page key v0.store.state.bytes count

module _ (tells : Bool) (E : Shape → List ℕ → List ℕ → Type 0) (t : ℕ) (root : Root) (key : ℕ) (v0 : PagesView) (half : ℕ) (half_is : half ≡ index_pages_of v0.store.shape) (all : half + half ≡ page_count v0.store.shape)
    (few : half ≤ 16384) (two : 2 ≤ half) (fits : key < 2 ^ 64) (sound : IsTrue tells → AreSoundTrees v0.store.state.bytes) (named : IsTrue tells → IsTable v0.store.state.bytes root.table root.page)
    (absent : IsTrue tells → found (pairs_of_tree v0.store.state.bytes root.page) key ≡ None) (long : IsTrue tells → length v0.store.state.bytes ≡ data_len v0.store.shape) (alive : IsAlive v0.store)
    (front : Super) (front_is : IsFront v0.store.shape front) (slot : front.free_slots ≡ 0 → front.next_slot < slots_of v0.store.shape) (says : IsTrue tells → SaysSuper (page_bytes v0.store.state.bytes 0) front)
    (level : ℕ) (pairs : List Pair) (read : IsRead v0.store.shape root.page level pairs) (level_is : IsTrue tells → level ≡ level_of v0.store.state.bytes root.page) (are : IsTrue tells → pairs ≡ page_pairs v0.store.state.bytes root.page) (full : length pairs ≡ 30) where
  many : IsTrue tells → 30 ≤ count_of v0.store.state.bytes root.page
  many told = omega (arith, full, length-page_pairs v0.store.state.bytes root.page, ap (λ (ps : List Pair). length ps) (are told))

  slot_left : IsTrue tells → used_slots v0.store.state.bytes < slots_of v0.store.shape
  slot_left told = slots_few v0.store.shape v0.store.state.bytes front front_is slot (says told) (trees_count v0.store.state.bytes (sound told))

  going0 : Going tree tells (E v0.store.shape) t root.page root.table key v0 v0
  going0 = going_looks tree tells (E v0.store.shape) t root.page root.table key v0 v0 (λ told running. sound told) (looks_none tells (E v0.store.shape) v0)

  refused : (IsTrue tells → LackPages v0.store t (index_pages_of v0.store.shape - used_pages v0.store.state.bytes) (tree_actions v0.store.state.bytes root.page key)) → (IsTrue tells → (half - 1 ≤ used_pages v0.store.state.bytes) ⊎ (7 ≤ level_of v0.store.state.bytes root.page))
      → (let r : Result ℕ IndexFault = Err (index.PagesFull (half - 1)) in Inserts tells (E v0.store.shape) tree t root.page root.table key v0 v0 r)
  refused lack out = inserts_refused tree tells (E v0.store.shape) t root.page root.table key v0 v0 going0 (index.PagesFull (half - 1)) (refl, (alive, ap (λ (n : ℕ). n - 1) half_is, λ told. (slot_left told, lack told)))
      (λ n e told running. let e' : half - 1 ≡ n = cc in subst (λ (m : ℕ). (m ≤ used_pages v0.store.state.bytes) ⊎ (7 ≤ level_of v0.store.state.bytes root.page)) e' (out told))

  -- the root has the highest level
  pub root_high : level ≡ 7 → (let r : Result ℕ IndexFault = Err (index.PagesFull (half - 1)) in Inserts tells (E v0.store.shape) tree t root.page root.table key v0 v0 r)
  root_high high = refused
      (λ told. let stops = growing_stops v0.store t (index_pages_of v0.store.shape) root.page key v0.store.state.bytes (many told) (omega (arith, high, level_is told)) in
      let counts = trees_count v0.store.state.bytes (sound told) in
      growing_lacks v0.store t (index_pages_of v0.store.shape) root.page key v0.store.state.bytes (many told)
      (omega (arith, stops, index_pages_are v0.store.shape v0.store.state.bytes (long told), counts.free_pages_few, half_is, two)))
      (λ told. inr (omega (arith, high, level_is told)))

  module _ (low : level ≢ 7) where
    less : level < 7
    less = (let ne : level ≡ 7 → ⊥ = low in omega (arith, read.level_most))

    takes : (b : List ℕ) → (IsTrue tells → b ≡ v0.store.state.bytes) → IsTrue tells → (growing b root.page).takes ≡ 2
    takes b same told = subst (λ (x : List ℕ). (growing x root.page).takes ≡ 2) (sym (same told)) (growing_takes v0.store t (index_pages_of v0.store.shape) root.page key v0.store.state.bytes (many told) (omega (arith, less, level_is told)))

    -- two pages are taken for it
    pub takes_two : IsTrue tells → 2 ≤ takes_of (tree_actions v0.store.state.bytes root.page key)
    takes_two told = omega (arith, ap (λ (l : List Action). takes_of l) (root_split root.page key v0.store.state.bytes (many told)), takes v0.store.state.bytes (λ t'. refl) told)

    -- fewer than two pages are left
    pub root_full : (2 ≤ front.free_pages + (half - front.next_page) → ⊥) → (let r : Result ℕ IndexFault = Err (index.PagesFull (half - 1)) in Inserts tells (E v0.store.shape) tree t root.page root.table key v0 v0 r)
    root_full out = (let gone : 2 ≤ front.free_pages + (half - front.next_page) → ⊥ = out in refused
        (λ told. growing_lacks v0.store t (index_pages_of v0.store.shape) root.page key v0.store.state.bytes (many told) (omega (arith, takes v0.store.state.bytes (λ t'. refl) told, gone, half_is, front_is.pages, (says told).next_page, (says told).free_pages)))
        (λ told. inl (omega (arith, gone, half_is, front_is.pages, (says told).next_page, (says told).free_pages))))

    module _ (left_two : 2 ≤ front.free_pages + (half - front.next_page)) (v2 : PagesView) (looks : Looks tells (E v0.store.shape) false v0 v2) (left right : ℕ) (mid after : Super)
        (one : IsTrue tells → TakesPage v2.store.state.bytes front left mid) (other : IsTrue tells → TakesPage v2.store.state.bytes mid right after) where
      going2 : Going tree tells (E v0.store.shape) t root.page root.table key v0 v2
      going2 = going_looks tree tells (E v0.store.shape) t root.page root.table key v0 v2 (λ told running. sound told) looks

      same2 : IsTrue tells → v2.store.state.bytes ≡ v0.store.state.bytes
      same2 told = ap (λ (st : State). st.bytes) ((looks.still refl).state told)

      to2 : (P : List ℕ → Type 0) → (IsTrue tells → P v0.store.state.bytes) → IsTrue tells → P v2.store.state.bytes
      to2 P before told = subst (λ (b : List ℕ). P b) (sym (same2 told)) (before told)

      sound2 : IsTrue tells → AreSoundTrees v2.store.state.bytes
      sound2 = to2 AreSoundTrees sound

      named2 : IsTrue tells → IsTable v2.store.state.bytes root.table root.page
      named2 = to2 (λ (b : List ℕ). IsTable b root.table root.page) named

      says2 : IsTrue tells → SaysSuper (page_bytes v2.store.state.bytes 0) front
      says2 = to2 (λ (b : List ℕ). SaysSuper (page_bytes b 0) front) says

      long2 : IsTrue tells → length v2.store.state.bytes ≡ data_len v0.store.shape
      long2 = to2 (λ (b : List ℕ). length b ≡ data_len v0.store.shape) long

      level2_is : IsTrue tells → level_of v2.store.state.bytes root.page ≡ level
      level2_is = to2 (λ (b : List ℕ). level_of b root.page ≡ level) (λ told. sym (level_is told))

      are2 : IsTrue tells → pairs ≡ page_pairs v2.store.state.bytes root.page
      are2 = to2 (λ (b : List ℕ). pairs ≡ page_pairs b root.page) are

      many2 : IsTrue tells → 30 ≤ count_of v2.store.state.bytes root.page
      many2 = to2 (λ (b : List ℕ). 30 ≤ count_of b root.page) many

      enough2 : IsTrue tells → used_pages v2.store.state.bytes + 1 < index_pages_of v0.store.shape
      enough2 told = omega (arith, left_two, half_is, front_is.pages, (trees_count v2.store.state.bytes (sound2 told)).free_pages_few, (says2 told).next_page, (says2 told).free_pages)

      living2 : IsAlive v2.store
      living2 = alive_now tree tells (E v0.store.shape) t root.page root.table key v0 v2 going2 alive

      grow_data : IsTrue tells → Grows tree root.page v0.store.state.bytes (applied (growing_parts after left right root.page level pairs key) v2.store.state.bytes) × Rests tree root.page v0.store.state.bytes (applied (growing_parts after left right root.page level pairs key) v2.store.state.bytes)
      grow_data told = subst (λ (b : List ℕ). Grows tree root.page b (applied (growing_parts after left right root.page level pairs key) v2.store.state.bytes) × Rests tree root.page b (applied (growing_parts after left right root.page level pairs key) v2.store.state.bytes)) (same2 told) (growing_grows v0.store.shape v2.store.state.bytes half (long2 told) half_is all few root front mid after left right key level pairs fits (entries_long v2.store.state.bytes front (omega (arith, long2 told, all, two)) (says2 told)) read (sound2 told) (named2 told) (says2 told) (one told) (other told) (level2_is told) (are2 told) full less (enough2 told))

      grow_may : IsTrue tells → IsAlive v0.store → MayBecome tree root.page root.table key v0.store.state.bytes (applied (growing_parts after left right root.page level pairs key) v2.store.state.bytes)
      grow_may told running = let d = grow_data told in (d.0, inl d.1)

      grow_pages : IsTrue tells → (growing_pages left right root.page) ≡ (growing v2.store.state.bytes root.page).pages
      grow_pages told = let d = grown_dues v0.store.shape v2.store.state.bytes half (long2 told) half_is all few root front mid after left right key level pairs fits (entries_long v2.store.state.bytes front (omega (arith, long2 told, all, two)) (says2 told)) read (sound2 told) (named2 told) (says2 told) (one told) (other told) (level2_is told) (are2 told) full less (enough2 told) in
          ap (λ (n : ℕ). n ∷ right ∷ root.page ∷ 0 ∷ []) d.0 ∙ ap (λ (n : ℕ). page_due v2.store.state.bytes 0 ∷ n ∷ root.page ∷ 0 ∷ []) d.1

      enough : IsTrue tells → (growing v2.store.state.bytes root.page).takes ≤ index_pages_of v0.store.shape - used_pages v2.store.state.bytes
      enough told = omega (arith, takes v2.store.state.bytes same2 told, enough2 told)

      grow_is : IsTrue tells → growing v2.store.state.bytes root.page ≡ (let a : Action = record { pages = growing_pages left right root.page; takes = 2 } in a)
      grow_is told = λ i. record { pages = sym (grow_pages told) i; takes = takes v2.store.state.bytes same2 told i }

      -- the split of the root comes first, and then what is left below it
      pub root_due : IsTrue tells → tree_actions v0.store.state.bytes root.page key ≡ (let a : Action = record { pages = growing_pages left right root.page; takes = 2 } in a)
          ∷ actions_below (level_of v2.store.state.bytes root.page) v2.store.state.bytes root.page (half_for (page_pairs v2.store.state.bytes root.page) (page_due v2.store.state.bytes 0) (page_due v2.store.state.bytes 1) key) 2 key
      root_due told =
          ap (λ (b : List ℕ). tree_actions b root.page key) (sym (same2 told)) ∙ root_split root.page key v2.store.state.bytes (many2 told)
          ∙ ap (λ (a : Action). a ∷ actions_below (level_of v2.store.state.bytes root.page) v2.store.state.bytes root.page (half_for (page_pairs v2.store.state.bytes root.page) (page_due v2.store.state.bytes 0) (page_due v2.store.state.bytes 1) key) 2 key) (grow_is told)

      grow_start : (v3 : PagesView) (r : Result (Unit {0}) PageFault) → Acts tells (E v2.store.shape) t (growing_pages left right root.page) (growing_parts after left right root.page level pairs key) v2 v3 r → Acts tells (E v0.store.shape) t (growing_pages left right root.page) (growing_parts after left right root.page level pairs key) v2 v3 r
      grow_start v3 r acts = subst (λ (sh : Shape). Acts tells (E sh) t (growing_pages left right root.page) (growing_parts after left right root.page level pairs key) v2 v3 r) looks.shape acts

      -- the split was refused
      pub grow_err : (v3 : PagesView) (fault : PageFault) → (let r : Result (Unit {0}) PageFault = Err fault in Acts tells (E v2.store.shape) t (growing_pages left right root.page) (growing_parts after left right root.page level pairs key) v2 v3 r)
          → (let r : Result ℕ IndexFault = Err (as_index fault) in Inserts tells (E v0.store.shape) tree t root.page root.table key v0 v3 r)
      grow_err v3 fault acts' =
          let r : Result (Unit {0}) PageFault = Err fault in
          inserts_act_err tree tells (E v0.store.shape) t root.page root.table key v0 v2 v3 going2 (growing_pages left right root.page) (growing_parts after left right root.page level pairs key) grow_may alive
          (λ g h n lacks. let lacks' = lacks_same v0.store v2.store t going2.shape (going2.logs.ranges t) (growing_pages left right root.page) g h n lacks in (
            alive,
            ((growing_pages left right root.page), omega arith, lacks'),
            λ told. (
              slot_left told,
              subst (λ (b : List ℕ). LackRoom v0.store t g h n (index_pages_of v0.store.shape - used_pages b) (tree_actions b root.page key)) (same2 told)
                  (room_lacks v0.store t (index_pages_of v0.store.shape - used_pages v2.store.state.bytes) (tree_actions v2.store.state.bytes root.page key) (index_pages_of v0.store.shape - used_pages v2.store.state.bytes) (growing v2.store.state.bytes root.page) (actions_below (level_of v2.store.state.bytes root.page) v2.store.state.bytes root.page (half_for (page_pairs v2.store.state.bytes root.page) (page_due v2.store.state.bytes 0) (page_due v2.store.state.bytes 1) key) 2 key)
                  g h n (grow_due v0.store t (index_pages_of v0.store.shape) root.page key v2.store.state.bytes (many2 told)) (enough told) (subst (λ (ps : List ℕ). IsFirstLacking v0.store t ps g h n) (grow_pages told) lacks')),
            ),
          ))
          fault (grow_start v3 r acts')

      module _ (v3 : PagesView) (acts' : (let r : Result (Unit {0}) PageFault = Ok tt in Acts tells (E v2.store.shape) t (growing_pages left right root.page) (growing_parts after left right root.page level pairs key) v2 v3 r)) where
        grow_acts : (let r : Result (Unit {0}) PageFault = Ok tt in Acts tells (E v0.store.shape) t (growing_pages left right root.page) (growing_parts after left right root.page level pairs key) v2 v3 r)
        grow_acts = (let r : Result (Unit {0}) PageFault = Ok tt in grow_start v3 r acts')

        pub going3 : Going tree tells (E v0.store.shape) t root.page root.table key v0 v3
        going3 = going_act tree tells (E v0.store.shape) t root.page root.table key v0 v2 v3 going2 (growing_pages left right root.page) (growing_parts after left right root.page level pairs key) grow_may grow_acts (λ told running. grow_data told)

        bytes3 : IsTrue tells → v3.store.state.bytes ≡ (applied (growing_parts after left right root.page level pairs key) v2.store.state.bytes)
        bytes3 told = grow_acts.made told living2

        pub living3 : IsAlive v3.store
        living3 = alive_now tree tells (E v0.store.shape) t root.page root.table key v0 v3 going3 alive

        pub sound3 : IsTrue tells → AreSoundTrees v3.store.state.bytes
        sound3 told = (going3.made told alive).0.sound

        pub named3 : IsTrue tells → IsTable v3.store.state.bytes root.table root.page
        named3 told = named_kept v3.store.state.bytes v0.store.state.bytes (sym (going3.made told alive).0.tables) root.table root.page (named told)

        pub absent3 : IsTrue tells → found (pairs_of_tree v3.store.state.bytes root.page) key ≡ None
        absent3 told = ap (λ (ps : List Pair). found ps key) (going3.made told alive).1.pairs ∙ absent told

        pub says3 : IsTrue tells → SaysSuper (page_bytes v3.store.state.bytes 0) after
        says3 told = subst (λ (b : List ℕ). SaysSuper (page_bytes b 0) after) (sym (bytes3 told)) (grown_says v0.store.shape v2.store.state.bytes half (long2 told) half_is all few root front mid after left right key level pairs fits (entries_long v2.store.state.bytes front (omega (arith, long2 told, all, two)) (says2 told)) read (sound2 told) (named2 told) (says2 told) (one told) (other told) (level2_is told) (are2 told) full less (enough2 told))

        slots3 : IsTrue tells → next_slot v3.store.state.bytes ≡ next_slot v0.store.state.bytes
        slots3 told = ap (λ (b : List ℕ). next_slot b) (bytes3 told) ∙ (grown_slots v0.store.shape v2.store.state.bytes half (long2 told) half_is all few root front mid after left right key level pairs fits (entries_long v2.store.state.bytes front (omega (arith, long2 told, all, two)) (says2 told)) read (sound2 told) (named2 told) (says2 told) (one told) (other told) (level2_is told) (are2 told) full less (enough2 told)).0 ∙ ap (λ (b : List ℕ). next_slot b) (same2 told)

        grow_fits : IsTrue tells → ActionFits v0.store t (index_pages_of v0.store.shape - used_pages v2.store.state.bytes) (growing v2.store.state.bytes root.page)
        grow_fits told = (enough told, subst (λ (ps : List ℕ). FitAll v0.store t ps) (grow_pages told) (fits_same v0.store v2.store t going2.shape (going2.logs.ranges t) (growing_pages left right root.page) grow_acts.cause.1))

        module _ (page2 : ℕ) (pairs2 : List Pair) (page2_is : page2 ≡ half_for pairs left right key) (pairs2_are : pairs2 ≡ half_pairs level pairs key) where
          half_is2 : IsTrue tells → page2 ≡ half_for (page_pairs v2.store.state.bytes root.page) left right key
          half_is2 told = page2_is ∙ ap (λ (ps : List Pair). half_for ps left right key) (are2 told)

          pub reached3 : (level2 : ℕ) → level2 ≡ level → IsTrue tells → IsReached root v3.store.state.bytes key page2 level2 pairs2
          reached3 level2 level2_is' told =
              subst (λ (b : List ℕ). IsReached root b key page2 level2 pairs2) (sym (bytes3 told)) (
                1,
                record {
                  page_is = half_is2 told ∙ grown_half v0.store.shape v2.store.state.bytes half (long2 told) half_is all few root front mid after left right key level pairs fits (entries_long v2.store.state.bytes front (omega (arith, long2 told, all, two)) (says2 told)) read (sound2 told) (named2 told) (says2 told) (one told) (other told) (level2_is told) (are2 told) full less (enough2 told);
                  level_is = grown_level v0.store.shape v2.store.state.bytes half (long2 told) half_is all few root front mid after left right key level pairs fits (entries_long v2.store.state.bytes front (omega (arith, long2 told, all, two)) (says2 told)) read (sound2 told) (named2 told) (says2 told) (one told) (other told) (level2_is told) (are2 told) full less (enough2 told) ∙ ap (λ (n : ℕ). suc n) (sym level2_is');
                  pairs_are = pairs2_are ∙ ap (λ (ps : List Pair). half_pairs level ps key) (are2 told) ∙ sym (grown_pairs v0.store.shape v2.store.state.bytes half (long2 told) half_is all few root front mid after left right key level pairs fits (entries_long v2.store.state.bytes front (omega (arith, long2 told, all, two)) (says2 told)) read (sound2 told) (named2 told) (says2 told) (one told) (other told) (level2_is told) (are2 told) full less (enough2 told))
                      ∙ ap (λ (x : ℕ). page_pairs (applied (growing_parts after left right root.page level pairs key) v2.store.state.bytes) x) (sym (half_is2 told));
                },
              )

          grown_rest : IsTrue tells → actions_below level (applied (growing_parts after left right root.page level pairs key) v2.store.state.bytes) page2 page2 0 key ≡ actions_below level v2.store.state.bytes root.page page2 2 key
          grown_rest told = subst (λ (x : ℕ). actions_below level (applied (growing_parts after left right root.page level pairs key) v2.store.state.bytes) x x 0 key ≡ actions_below level v2.store.state.bytes root.page x 2 key) (sym (half_is2 told)) (grown_left v0.store.shape v2.store.state.bytes half (long2 told) half_is all few root front mid after left right key level pairs fits (entries_long v2.store.state.bytes front (omega (arith, long2 told, all, two)) (says2 told)) read (sound2 told) (named2 told) (says2 told) (one told) (other told) (level2_is told) (are2 told) full less (enough2 told))

          half_due : IsTrue tells → page2 ≡ half_for (page_pairs v2.store.state.bytes root.page) (page_due v2.store.state.bytes 0) (page_due v2.store.state.bytes 1) key
          half_due told = let d = grown_dues v0.store.shape v2.store.state.bytes half (long2 told) half_is all few root front mid after left right key level pairs fits (entries_long v2.store.state.bytes front (omega (arith, long2 told, all, two)) (says2 told)) read (sound2 told) (named2 told) (says2 told) (one told) (other told) (level2_is told) (are2 told) full less (enough2 told) in
              half_is2 told ∙ ap (λ (n : ℕ). half_for (page_pairs v2.store.state.bytes root.page) n right key) d.0 ∙ ap (λ (n : ℕ). half_for (page_pairs v2.store.state.bytes root.page) (page_due v2.store.state.bytes 0) n key) d.1

          decides3 : IsTrue tells → DecidesAll v0.store t (index_pages_of v0.store.shape - used_pages v0.store.state.bytes) (tree_actions v0.store.state.bytes root.page key) (index_pages_of v0.store.shape - used_pages v3.store.state.bytes) (actions_below level v3.store.state.bytes page2 page2 0 key)
          decides3 told =
              subst (λ (b : List ℕ). DecidesAll v0.store t (index_pages_of v0.store.shape - used_pages v0.store.state.bytes) (tree_actions v0.store.state.bytes root.page key) (index_pages_of v0.store.shape - used_pages b) (actions_below level b page2 page2 0 key)) (sym (bytes3 told))
              (subst (λ (b : List ℕ). DecidesAll v0.store t (index_pages_of v0.store.shape - used_pages b) (tree_actions b root.page key) (index_pages_of v0.store.shape - used_pages (applied (growing_parts after left right root.page level pairs key) v2.store.state.bytes)) (actions_below level (applied (growing_parts after left right root.page level pairs key) v2.store.state.bytes) page2 page2 0 key)) (same2 told)
              (grown_decides v0.store t (index_pages_of v0.store.shape) root.page key v2.store.state.bytes (many2 told) (applied (growing_parts after left right root.page level pairs key) v2.store.state.bytes) page2 level (level2_is told) less (half_due told) (grow_fits told) (grown_used v0.store.shape v2.store.state.bytes half (long2 told) half_is all few root front mid after left right key level pairs fits (entries_long v2.store.state.bytes front (omega (arith, long2 told, all, two)) (says2 told)) read (sound2 told) (named2 told) (says2 told) (one told) (other told) (level2_is told) (are2 told) full less (enough2 told)) (grown_rest told)))

          -- the half that has the key has the root's child for it
          pub root_leads : IsTrue tells → child_for pairs2 key ≡ child_for pairs key
          root_leads told =
              let tree' = table_sound v0.store.state.bytes root (sound told) (named told) in
              let rises = rises_of root (level_of v0.store.state.bytes root.page) v0.store.state.bytes root.page 0 key_end tree'.2 in
              ap (λ (ps : List Pair). child_for ps key) pairs2_are ∙ half_same level key rises.0 rises.1 pairs full (subst (λ (ps : List Pair). Rise rises.0 rises.1 ps) (sym (are told)) rises.2)

          pub root_rest : (level2 : ℕ) → level2 ≡ level → IsTrue tells → tree_actions v0.store.state.bytes root.page key ≡ (let a : Action = record { pages = growing_pages left right root.page; takes = 2 } in a) ∷ actions_below level2 v3.store.state.bytes page2 page2 0 key
          root_rest level2 same told =
              root_due told
              ∙ ap (λ (n : ℕ). (let a : Action = record { pages = growing_pages left right root.page; takes = 2 } in a) ∷ actions_below n v2.store.state.bytes root.page (half_for (page_pairs v2.store.state.bytes root.page) (page_due v2.store.state.bytes 0) (page_due v2.store.state.bytes 1) key) 2 key) (level2_is told)
              ∙ ap (λ (x : ℕ). (let a : Action = record { pages = growing_pages left right root.page; takes = 2 } in a) ∷ actions_below level v2.store.state.bytes root.page x 2 key) (sym (half_due told))
              ∙ ap (λ (l : List Action). (let a : Action = record { pages = growing_pages left right root.page; takes = 2 } in a) ∷ l) (sym (grown_rest told) ∙ ap (λ (b : List ℕ). actions_below level b page2 page2 0 key) (sym (bytes3 told)) ∙ ap (λ (n : ℕ). actions_below n v3.store.state.bytes page2 page2 0 key) (sym same))

          -- what is left of the insertion decides
          pub grown_then : (level2 : ℕ) → level2 ≡ level → (v4 : PagesView) (r : Result ℕ IndexFault) → Inserts tells (E v3.store.shape) (tree_below page2 level2 (after.next_page + level2)) t root.page root.table key v3 v4 r → Inserts tells (E v0.store.shape) tree t root.page root.table key v0 v4 r
          grown_then level2 same v4 r rest =
              inserts_then tells E t root.page root.table key v0 v3 v4 tree (tree_below page2 level2 (after.next_page + level2)) going3 alive
              (λ told. joins_within tree (after.next_page + level2) (λ bytes root key. actions_below level2 bytes page2 page2 0 key) root.page root.table key v0.store.state.bytes v3.store.state.bytes
              (omega (arith, (grown_says v0.store.shape v2.store.state.bytes half (long2 told) half_is all few root front mid after left right key level pairs fits (entries_long v2.store.state.bytes front (omega (arith, long2 told, all, two)) (says2 told)) read (sound2 told) (named2 told) (says2 told) (one told) (other told) (level2_is told) (are2 told) full less (enough2 told)).next_page, (grown_slots v0.store.shape v2.store.state.bytes half (long2 told) half_is all few root front mid after left right key level pairs fits (entries_long v2.store.state.bytes front (omega (arith, long2 told, all, two)) (says2 told)) read (sound2 told) (named2 told) (says2 told) (one told) (other told) (level2_is told) (are2 told) full less (enough2 told)).1, ap (λ (b : List ℕ). next_page b) (same2 told), less, same)) (slots3 told) (going3.made told alive).0 (going3.made told alive).1)
              (λ told. subst (λ (n : ℕ). DecidesAll v0.store t (index_pages_of v0.store.shape - used_pages v0.store.state.bytes) (tree_actions v0.store.state.bytes root.page key) (index_pages_of v0.store.shape - used_pages v3.store.state.bytes) (actions_below n v3.store.state.bytes page2 page2 0 key)) (sym same) (decides3 told)) r rest
