-- What is left of an insertion from a page on, and how it ends.
use Rattle.std.proofs.Common.{◌≡◌, ◌≢◌, ℕ, suc, ◌+◌, ◌-◌, ◌^◌, ◌<◌, ◌≤◌, Bool, true, false, nat_lt, inl, inr, List, [], ◌∷◌, length, take, drop, None, Result, Ok, Err, refl, sym, ◌∙◌, ap, subst, arith}
use Rattle.std.specs.Prelude.{IsTrue}
use Rattle.std.proofs.lemmas.Bool.Decides.{leb_tells}
use Rattle.std.proofs.lemmas.List.{length-take-le, length-drop}
use Rattle.array_shape.specs.declared.shape.Shape.{Shape}
use Rattle.array_shape.specs.Places.{data_len, page_count}
use Rattle.array_shape.specs.Logged.{applied}
use Rattle.eaw_face.specs.State.{State}
use Rattle.eaw_face.specs.Causes.{IsAlive}
use Rattle.record_slots.specs.Places.{page_bytes, next_slot, next_page, used_slots, used_pages, slot_due, page_due}
use Rattle.record_slots.specs.Super.{SaysSuper}
use Rattle.record_slots.specs.declared.super_page.Super.{Super}
use Rattle.page_store.specs.Fits.{FitAll, IsFirstLacking}
use Rattle.page_store.specs.Index.{Action, IsTable, Grows, Rests, Gains, slots_of, index_pages_of}
use Rattle.page_store.specs.Inserts.{ActionFits, MayBecome, Inserts}
use Rattle.page_store.specs.Looks.{Looks, LookCause, is_failed}
use Rattle.page_store.specs.Pairs.{Pair, Rise, found}
use Rattle.page_store.specs.Shown.{PagesView}
use Rattle.page_store.specs.declared.fault.PageFault.{PageFault}
use Rattle.page_store.specs.declared.index_fault.IndexFault.{IndexFault}
use Rattle.page_store.specs.declared.index_fault.IndexFault.TheVariants as index
use Rattle.index_pages.specs.Acts.{Acts}
use Rattle.index_pages.specs.Adding.{TakesPage, TakesSlot, adding_pages, adding_parts}
use Rattle.page_store.specs.Faults.{as_index}
use Rattle.index_pages.specs.Fetched.{IsFront}
use Rattle.index_pages.specs.Keys.{key_at}
use Rattle.index_pages.specs.Page.{page_pairs, count_of}
use Rattle.index_pages.specs.Written.{AreSmall}
use Rattle.index_pages.proofs.Going.{Going, going_looks, going_more, going_act, alive_now, inserts_done, inserts_refused, inserts_look_err, inserts_act_err}
use Rattle.index_pages.proofs.Looking.{looks_none}
use Rattle.index_pages.proofs.PageFacts.{length-page_pairs}
use Rattle.index_pages.proofs.Claims.{entries_long, slots_few, pages_few, adding_at}
use Rattle.index_pages.proofs.Writing.{small_take}
use Rattle.btree_laws.specs.Descent.{child_for}
use Rattle.btree_laws.specs.Tree.{pairs_of_tree}
use Rattle.btree_laws.specs.declared.root.Root.{Root}
use Rattle.btree_pages.specs.Index.{tree, tree_below, cutting, actions_below, AreSoundTrees}
use Rattle.index_pages.specs.Actions.{adding, half_for}
use Rattle.btree_pages.specs.OnWay.{IsOnWay, IsReached}
use Rattle.btree_pages.specs.Trees.{trees_count, table_sound}
use Rattle.btree_pages.proofs.Actions.{half_same}
use Rattle.btree_pages.proofs.Children.{reached_child}
use Rattle.btree_pages.proofs.CutPlace.{cut_inside}
use Rattle.btree_pages.specs.Writes.{IsRead, cut_for, half_pairs, cutting_pages, cutting_parts}
use Rattle.btree_pages.proofs.AddData.{adding_grows, adding_takes_none, slot_there}
use Rattle.btree_pages.proofs.CutData.{cutting_grows, cut_after, cut_says, cut_used, cut_level, cut_due, half_there, half_says, half_left}
use Rattle.btree_pages.proofs.Joining.{grows_more, rests_more, gains_more}
use Rattle.index_pages.proofs.Joining.{named_kept}
use Rattle.index_pages.proofs.Left.{DecidesAll, pages_lack, room_lacks, fits_same, lacks_same}
use Rattle.btree_pages.proofs.Walking.{Walks, walk_first, walk_down, walk_due, walk_cut, walk_last, child_way, rest_room, rest_full}

-- one of the two parts of 30 pairs
pub record IsHalfRead (shape : Shape) (page : ℕ) (pairs : List Pair) : Type 0 where
  pub some : 1 ≤ page
  pub inside : page < index_pages_of shape
  pub many : 1 ≤ length pairs
  pub few : length pairs < 30
  pub small : AreSmall pairs

pub half_read : (shape : Shape) (level : ℕ) (pairs : List Pair) (left right key page : ℕ) (half : List Pair) → length pairs ≡ 30 → AreSmall pairs → 1 ≤ left → left < index_pages_of shape → 1 ≤ right → right < index_pages_of shape
    → page ≡ half_for pairs left right key → half ≡ half_pairs level pairs key → IsHalfRead shape page half
half_read shape level pairs left right key page half full small left_some left_in right_some right_in is are =
    let cut = cut_inside level pairs key in
    elim (leb_tells (suc key) (key_at pairs 15)) [
      | inl h ↦
          let b : nat_lt key (key_at pairs 15) ≡ true = h.0 in
          let page' : page ≡ left = is ∙ (rw b refl) in
          let half' : half ≡ take (cut_for level pairs key) pairs = are ∙ (rw b refl) in
          let long = ap (λ (ps : List Pair). length ps) half' ∙ length-take-le (cut_for level pairs key) pairs (omega (arith, full, cut)) in
          record { some = omega arith; inside = omega arith; many = omega (arith, long, cut); few = omega (arith, long, cut); small = subst (λ (ps : List Pair). AreSmall ps) (sym half') (small_take (cut_for level pairs key) pairs small).0 }
      | inr h ↦
          let b : nat_lt key (key_at pairs 15) ≡ false = h.0 in
          let page' : page ≡ right = is ∙ (rw b refl) in
          let half' : half ≡ drop (cut_for level pairs key) pairs = are ∙ (rw b refl) in
          let long = ap (λ (ps : List Pair). length ps) half' ∙ length-drop (cut_for level pairs key) pairs in
          record { some = omega arith; inside = omega arith; many = omega (arith, long, full, cut); few = omega (arith, long, full, cut); small = subst (λ (ps : List Pair). AreSmall ps) (sym half') (small_take (cut_for level pairs key) pairs small).1 }
    ]

module _ (tells : Bool) (E : Shape → List ℕ → List ℕ → Type 0) (t : ℕ) (root : Root) (key : ℕ) (v0 : PagesView) (page0 level0 most : ℕ) where
  -- The insertion has come to a page that has room.
  pub record Stands (v : PagesView) (front : Super) (page level : ℕ) (pairs : List Pair) : Type 0 where
    pub front_is : IsFront v0.store.shape front
    pub slot : front.free_slots ≡ 0 → front.next_slot < slots_of v0.store.shape
    pub read : IsRead v0.store.shape page level pairs
    pub some : level ≢ 0 → 1 ≤ length pairs
    pub room : length pairs < 30
    pub going : Going (tree_below page0 level0 most) tells (E v0.store.shape) t root.page root.table key v0 v
    pub says : IsTrue tells → SaysSuper (page_bytes v.store.state.bytes 0) front
    pub slots_next : IsTrue tells → next_slot v.store.state.bytes ≡ next_slot v0.store.state.bytes
    pub walks : IsTrue tells → Walks v0.store root t (index_pages_of v0.store.shape) key (index_pages_of v0.store.shape - used_pages v0.store.state.bytes) (actions_below level0 v0.store.state.bytes page0 page0 0 key) most v.store.state.bytes page level pairs

  module _ (half : ℕ) (half_is : half ≡ index_pages_of v0.store.shape) (all : half + half ≡ page_count v0.store.shape) (few : half ≤ 16384) (two : 2 ≤ half) (fits : key < 2 ^ 64) (table_few : root.table < 8)
      (sound : IsTrue tells → AreSoundTrees v0.store.state.bytes) (named : IsTrue tells → IsTable v0.store.state.bytes root.table root.page) (absent : IsTrue tells → found (pairs_of_tree v0.store.state.bytes root.page) key ≡ None)
      (long : IsTrue tells → length v0.store.state.bytes ≡ data_len v0.store.shape) (alive : IsAlive v0.store) (limit : IsTrue tells → most ≤ next_page v0.store.state.bytes + 9) where
    -- it begins
    pub stands_first : (front : Super) (pairs : List Pair) → IsFront v0.store.shape front → (front.free_slots ≡ 0 → front.next_slot < slots_of v0.store.shape) → IsRead v0.store.shape page0 level0 pairs → (level0 ≢ 0 → 1 ≤ length pairs) → length pairs < 30
        → (IsTrue tells → SaysSuper (page_bytes v0.store.state.bytes 0) front) → (IsTrue tells → IsReached root v0.store.state.bytes key page0 level0 pairs) → most ≡ front.next_page + level0 → Stands v0 front page0 level0 pairs
    stands_first front pairs front_is slot read some room says reached most_is = record {
      front_is = front_is;
      slot = slot;
      read = read;
      some = some;
      room = room;
      going = going_looks (tree_below page0 level0 most) tells (E v0.store.shape) t root.page root.table key v0 v0 (λ told living. (sound told, omega (arith, most_is, (says told).next_page))) (looks_none tells (E v0.store.shape) v0);
      says = says;
      slots_next = λ told. refl;
      walks = λ told. walk_first v0.store root t (index_pages_of v0.store.shape) key most v0.store.state.bytes page0 level0 pairs (reached told) (omega (arith, most_is, (says told).next_page));
    }

    module _ (v : PagesView) (front : Super) (page level : ℕ) (pairs : List Pair) (s : Stands v front page level pairs) where
      pub sound_now : IsTrue tells → AreSoundTrees v.store.state.bytes
      sound_now told = (s.going.made told alive).0.sound.0

      pub named_now : IsTrue tells → IsTable v.store.state.bytes root.table root.page
      named_now told = named_kept v.store.state.bytes v0.store.state.bytes (sym (s.going.made told alive).0.tables) root.table root.page (named told)

      pub reached_now : IsTrue tells → IsReached root v.store.state.bytes key page level pairs
      reached_now told = let w = s.walks told in (w.d, w.way)

      pub living : IsAlive v.store
      living = alive_now (tree_below page0 level0 most) tells (E v0.store.shape) t root.page root.table key v0 v s.going alive

      -- a page, or the slot, cannot be read
      pub look_err : (T : Type 0) (v' : PagesView) (fault : PageFault) → (let r : Result T PageFault = Err fault in Looks tells (E v.store.shape) (is_failed r) v v' × LookCause tells v.store r)
          → (let r : Result ℕ IndexFault = Err (as_index fault) in Inserts tells (E v0.store.shape) (tree_below page0 level0 most) t root.page root.table key v0 v' r)
      look_err T v' fault looks' =
          let r : Result T PageFault = Err fault in
          inserts_look_err (tree_below page0 level0 most) tells (E v0.store.shape) t root.page root.table key T v0 v v' s.going fault (subst (λ (sh : Shape). Looks tells (E sh) (is_failed r) v v') s.going.shape looks'.0, looks'.1)

      module _ (v' : PagesView) (looks : Looks tells (E v.store.shape) false v v') where
        pub going1 : Going (tree_below page0 level0 most) tells (E v0.store.shape) t root.page root.table key v0 v'
        going1 = going_more (tree_below page0 level0 most) tells (E v0.store.shape) t root.page root.table key v0 v v' s.going (subst (λ (sh : Shape). Looks tells (E sh) false v v') s.going.shape looks)

        same1 : IsTrue tells → v'.store.state.bytes ≡ v.store.state.bytes
        same1 told = ap (λ (st : State). st.bytes) ((looks.still refl).state told)

        pub says1 : IsTrue tells → SaysSuper (page_bytes v'.store.state.bytes 0) front
        says1 told = subst (λ (b : List ℕ). SaysSuper (page_bytes b 0) front) (sym (same1 told)) (s.says told)

        next1 : IsTrue tells → next_slot v'.store.state.bytes ≡ next_slot v0.store.state.bytes
        next1 told = ap (λ (b : List ℕ). next_slot b) (same1 told) ∙ s.slots_next told

        pub sound1 : IsTrue tells → AreSoundTrees v'.store.state.bytes
        sound1 told = (going1.made told alive).0.sound.0

        named1 : IsTrue tells → IsTable v'.store.state.bytes root.table root.page
        named1 told = named_kept v'.store.state.bytes v0.store.state.bytes (sym (going1.made told alive).0.tables) root.table root.page (named told)

        pub living1 : IsAlive v'.store
        living1 = alive_now (tree_below page0 level0 most) tells (E v0.store.shape) t root.page root.table key v0 v' going1 alive

        long1 : IsTrue tells → length v'.store.state.bytes ≡ data_len v0.store.shape
        long1 told = (going1.made told alive).0.size ∙ long told

        long_entries : IsTrue tells → length front.entries ≡ 256
        long_entries told = entries_long v'.store.state.bytes front (omega (arith, long1 told, all, two)) (says1 told)

        slot_left : IsTrue tells → used_slots v0.store.state.bytes < slots_of v0.store.shape
        slot_left told = omega (arith, slots_few v0.store.shape v'.store.state.bytes front s.front_is s.slot (says1 told) (trees_count v'.store.state.bytes (sound1 told)), (going1.made told alive).1.slots)

        -- another look at the data fails
        pub then_err : (T : Type 0) (v'' : PagesView) (fault : PageFault) → (let r : Result T PageFault = Err fault in Looks tells (E v'.store.shape) (is_failed r) v' v'' × LookCause tells v'.store r)
            → (let r : Result ℕ IndexFault = Err (as_index fault) in Inserts tells (E v0.store.shape) (tree_below page0 level0 most) t root.page root.table key v0 v'' r)
        then_err T v'' fault looks' =
            let r : Result T PageFault = Err fault in
            inserts_look_err (tree_below page0 level0 most) tells (E v0.store.shape) t root.page root.table key T v0 v' v'' going1 fault (subst (λ (sh : Shape). Looks tells (E sh) (is_failed r) v' v'') going1.shape looks'.0, looks'.1)

        module _ (child m : ℕ) (below : List Pair) (child_is : child ≡ child_for pairs key) (one_more : m + 1 ≡ level)
            (read : IsRead v.store.shape child m below) (some : m ≢ 0 → 1 ≤ length below) (are : IsTrue tells → below ≡ page_pairs v.store.state.bytes child) where
          are1 : IsTrue tells → below ≡ page_pairs v'.store.state.bytes child
          are1 told = are told ∙ ap (λ (b : List ℕ). page_pairs b child) (sym (same1 told))

          child_read : IsRead v0.store.shape child m below
          child_read = subst (λ (sh : Shape). IsRead sh child m below) s.going.shape read

          suc_level : level ≡ suc m
          suc_level = omega (arith, one_more)

          walks1 : IsTrue tells → Walks v0.store root t (index_pages_of v0.store.shape) key (index_pages_of v0.store.shape - used_pages v0.store.state.bytes) (actions_below level0 v0.store.state.bytes page0 page0 0 key) most v'.store.state.bytes page (suc m) pairs
          walks1 told =
              subst (λ (n : ℕ). Walks v0.store root t (index_pages_of v0.store.shape) key (index_pages_of v0.store.shape - used_pages v0.store.state.bytes) (actions_below level0 v0.store.state.bytes page0 page0 0 key) most v'.store.state.bytes page n pairs) suc_level
              (subst (λ (b : List ℕ). Walks v0.store root t (index_pages_of v0.store.shape) key (index_pages_of v0.store.shape - used_pages v0.store.state.bytes) (actions_below level0 v0.store.state.bytes page0 page0 0 key) most b page level pairs) (sym (same1 told)) (s.walks told))

          child_here : IsTrue tells → child ≡ child_for (page_pairs v'.store.state.bytes page) key
          child_here told = child_is ∙ ap (λ (ps : List Pair). child_for ps key) (walks1 told).way.pairs_are

          rest_here : IsTrue tells → actions_below level v.store.state.bytes page page 0 key ≡ actions_below (suc m) v'.store.state.bytes page page 0 key
          rest_here told = ap (λ (b : List ℕ). actions_below level b page page 0 key) (sym (same1 told)) ∙ ap (λ (n : ℕ). actions_below n v'.store.state.bytes page page 0 key) suc_level

          -- what is left to do from such a child on
          pub rest_down : length below < 30 → IsTrue tells → actions_below level v.store.state.bytes page page 0 key ≡ actions_below m v'.store.state.bytes child child 0 key
          rest_down room told =
              rest_here told ∙ rest_room m v'.store.state.bytes page child key (child_here told) (omega (arith, room, ap (λ (ps : List Pair). length ps) (are1 told), length-page_pairs v'.store.state.bytes child))

          -- a child with room is the next page on the way
          pub stands_down : length below < 30 → Stands v' front child m below
          stands_down room = record {
            front_is = s.front_is;
            slot = s.slot;
            read = child_read;
            some = some;
            room = room;
            going = going1;
            says = says1;
            slots_next = next1;
            walks = λ told. walk_down v0.store root t (index_pages_of v0.store.shape) key (index_pages_of v0.store.shape - used_pages v0.store.state.bytes) (actions_below level0 v0.store.state.bytes page0 page0 0 key) most v'.store.state.bytes page m pairs (walks1 told) child child_is below (are1 told) room;
          }

          module _ (full : length below ≡ 30) where
            many : IsTrue tells → 30 ≤ count_of v'.store.state.bytes child
            many told = omega (arith, full, ap (λ (ps : List Pair). length ps) (are1 told), length-page_pairs v'.store.state.bytes child)

            due : IsTrue tells → DecidesAll v0.store t (index_pages_of v0.store.shape - used_pages v0.store.state.bytes) (actions_below level0 v0.store.state.bytes page0 page0 0 key) (index_pages_of v0.store.shape - used_pages v'.store.state.bytes) (cutting child (page_due v'.store.state.bytes 0) page ∷ (actions_below m v'.store.state.bytes child (half_for (page_pairs v'.store.state.bytes child) child (page_due v'.store.state.bytes 0) key) 1 key))
            due told = walk_due v0.store root t (index_pages_of v0.store.shape) key (index_pages_of v0.store.shape - used_pages v0.store.state.bytes) (actions_below level0 v0.store.state.bytes page0 page0 0 key) most v'.store.state.bytes page m pairs (walks1 told) child child_is (many told)

            -- the half that has the key has the child that the page had
            pub half_leads : (pairs2 : List Pair) → pairs2 ≡ half_pairs m below key → IsTrue tells → child_for pairs2 key ≡ child_for below key
            half_leads pairs2 pairs2_is told =
                let child' = reached_child root v.store.state.bytes key page level pairs (table_sound v.store.state.bytes root (sound_now told) (named_now told)) fits (reached_now told) (let ne : level ≡ 0 → ⊥ = λ e. absurd (omega (arith, one_more)) in ne) in
                let rises = subst (λ (c : ℕ). (low : ℕ) × (high : ℕ) × Rise low high (page_pairs v.store.state.bytes c)) (sym child_is) child'.rises in
                ap (λ (ps : List Pair). child_for ps key) pairs2_is ∙ half_same m key rises.0 rises.1 below full (subst (λ (ps : List Pair). Rise rises.0 rises.1 ps) (sym (are told)) rises.2)

            -- no page is left
            pub pages_full : (1 ≤ front.free_pages + (half - front.next_page) → ⊥) → (let r : Result ℕ IndexFault = Err (index.PagesFull (half - 1)) in Inserts tells (E v0.store.shape) (tree_below page0 level0 most) t root.page root.table key v0 v' r)
            pages_full out = inserts_refused (tree_below page0 level0 most) tells (E v0.store.shape) t root.page root.table key v0 v' going1 (index.PagesFull (half - 1)) (
              refl,
              (
                alive,
                ap (λ (n : ℕ). n - 1) half_is,
                λ told. (
                  slot_left told,
                  pages_lack v0.store t (index_pages_of v0.store.shape - used_pages v0.store.state.bytes) (actions_below level0 v0.store.state.bytes page0 page0 0 key) (index_pages_of v0.store.shape - used_pages v'.store.state.bytes) (cutting child (page_due v'.store.state.bytes 0) page) (actions_below m v'.store.state.bytes child (half_for (page_pairs v'.store.state.bytes child) child (page_due v'.store.state.bytes 0) key) 1 key)
                      (due told) ((let gone : 1 ≤ front.free_pages + (half - front.next_page) → ⊥ = out in omega (arith, gone, half_is, s.front_is.pages, (says1 told).next_page, (says1 told).free_pages))),
                ),
              ),
            )
                (λ n e told running. let e' : half - 1 ≡ n = cc in let gone : 1 ≤ front.free_pages + (half - front.next_page) → ⊥ = out in inl (omega (arith, gone, half_is, s.front_is.pages, (says1 told).next_page, (says1 told).free_pages, e')))

            module _ (left' : 1 ≤ front.free_pages + (half - front.next_page)) (taken : ℕ) (after : Super) (takes : IsTrue tells → TakesPage v'.store.state.bytes front taken after)
                (taken_some : 1 ≤ taken) (taken_in : taken < index_pages_of v0.store.shape) (after_is : IsFront v0.store.shape after) (after_slot : after.next_slot ≡ front.next_slot) (after_free : after.free_slots ≡ front.free_slots) where
              left : front.free_pages ≡ 0 → front.next_page < index_pages_of v0.store.shape
              left none = omega (arith, left', none, half_is)

              parent_read : IsRead v0.store.shape page (m + 1) pairs
              parent_read = subst (λ (n : ℕ). IsRead v0.store.shape page n pairs) (sym one_more) s.read

              used_less : IsTrue tells → used_pages v'.store.state.bytes < index_pages_of v0.store.shape
              used_less told = pages_few v0.store.shape v'.store.state.bytes front s.front_is left (says1 told) (trees_count v'.store.state.bytes (sound1 told))

              cut_data : IsTrue tells → Grows tree root.page v'.store.state.bytes (applied (cutting_parts after child m below key taken page pairs) v'.store.state.bytes) × Rests tree root.page v'.store.state.bytes (applied (cutting_parts after child m below key taken page pairs) v'.store.state.bytes)
              cut_data told = cutting_grows v0.store.shape v'.store.state.bytes half (long1 told) half_is all few root front after taken key (walks1 told).d child m page below pairs fits (long_entries told) child_read parent_read (sound1 told) (named1 told) (says1 told) (takes told) (walks1 told).way child_is (are1 told) full s.room (used_less told)

              cut_most : IsTrue tells → next_page (applied (cutting_parts after child m below key taken page pairs) v'.store.state.bytes) ≤ next_page v'.store.state.bytes + 1
              cut_most told = omega (arith, (cut_after v0.store.shape v'.store.state.bytes half (long1 told) half_is all few root front after taken key (walks1 told).d child m page below pairs fits (long_entries told) child_read parent_read (sound1 told) (named1 told) (says1 told) (takes told) (walks1 told).way child_is (are1 told) full s.room (used_less told)).pages_next)

              cut_grown : IsTrue tells → Grows (tree_below page0 level0 most) root.page v0.store.state.bytes (applied (cutting_parts after child m below key taken page pairs) v'.store.state.bytes) × Rests (tree_below page0 level0 most) root.page v0.store.state.bytes (applied (cutting_parts after child m below key taken page pairs) v'.store.state.bytes)
              cut_grown told =
                  let made = going1.made told alive in
                  let d = cut_data told in (
                    grows_more page0 level0 most root.page v0.store.state.bytes v'.store.state.bytes (applied (cutting_parts after child m below key taken page pairs) v'.store.state.bytes) (limit told) (next1 told) made.0 made.1 d.0 (omega (arith, cut_most told, (walks1 told).few)),
                    rests_more page0 level0 most root.page v0.store.state.bytes v'.store.state.bytes (applied (cutting_parts after child m below key taken page pairs) v'.store.state.bytes) (limit told) (next1 told) made.1 d.1,
                  )

              cut_may : IsTrue tells → IsAlive v0.store → MayBecome (tree_below page0 level0 most) root.page root.table key v0.store.state.bytes (applied (cutting_parts after child m below key taken page pairs) v'.store.state.bytes)
              cut_may told running = let d = cut_grown told in (d.0, inl d.1)

              cut_start : (v'' : PagesView) (r : Result (Unit {0}) PageFault) → Acts tells (E v'.store.shape) t (cutting_pages child taken page) (cutting_parts after child m below key taken page pairs) v' v'' r → Acts tells (E v0.store.shape) t (cutting_pages child taken page) (cutting_parts after child m below key taken page pairs) v' v'' r
              cut_start v'' r acts = subst (λ (sh : Shape). Acts tells (E sh) t (cutting_pages child taken page) (cutting_parts after child m below key taken page pairs) v' v'' r) going1.shape acts

              taken_due : IsTrue tells → taken ≡ page_due v'.store.state.bytes 0
              taken_due told = cut_due v0.store.shape v'.store.state.bytes half (long1 told) half_is all few root front after taken key (walks1 told).d child m page below pairs fits (long_entries told) child_read parent_read (sound1 told) (named1 told) (says1 told) (takes told) (walks1 told).way child_is (are1 told) full s.room (used_less told)

              cut_pages : IsTrue tells → (cutting_pages child taken page) ≡ (cutting child (page_due v'.store.state.bytes 0) page).pages
              cut_pages told = ap (λ (n : ℕ). child ∷ n ∷ page ∷ 0 ∷ []) (taken_due told)

              cut_enough : IsTrue tells → 1 ≤ index_pages_of v0.store.shape - used_pages v'.store.state.bytes
              cut_enough told = omega (arith, used_less told)

              -- the split is the next action
              pub rest_due : IsTrue tells → actions_below level v.store.state.bytes page page 0 key ≡ (let a : Action = record { pages = cutting_pages child taken page; takes = 1 } in a) ∷ actions_below m v'.store.state.bytes child (half_for (page_pairs v'.store.state.bytes child) child taken key) 1 key
              rest_due told =
                  rest_here told ∙ rest_full m v'.store.state.bytes page child key (child_here told) (many told)
                  ∙ ap (λ (n : ℕ). cutting child n page ∷ actions_below m v'.store.state.bytes child (half_for (page_pairs v'.store.state.bytes child) child n key) 1 key) (sym (taken_due told))

              -- the split was refused
              pub cut_err : (v'' : PagesView) (fault : PageFault) → (let r : Result (Unit {0}) PageFault = Err fault in Acts tells (E v'.store.shape) t (cutting_pages child taken page) (cutting_parts after child m below key taken page pairs) v' v'' r)
                  → (let r : Result ℕ IndexFault = Err (as_index fault) in Inserts tells (E v0.store.shape) (tree_below page0 level0 most) t root.page root.table key v0 v'' r)
              cut_err v'' fault acts' =
                  let r : Result (Unit {0}) PageFault = Err fault in
                  inserts_act_err (tree_below page0 level0 most) tells (E v0.store.shape) t root.page root.table key v0 v' v'' going1 (cutting_pages child taken page) (cutting_parts after child m below key taken page pairs) cut_may alive
                  (λ g h n lacks. let lacks' = lacks_same v0.store v'.store t going1.shape (going1.logs.ranges t) (cutting_pages child taken page) g h n lacks in (
                    alive,
                    ((cutting_pages child taken page), omega arith, lacks'),
                    λ told. (
                      slot_left told,
                      room_lacks v0.store t (index_pages_of v0.store.shape - used_pages v0.store.state.bytes) (actions_below level0 v0.store.state.bytes page0 page0 0 key) (index_pages_of v0.store.shape - used_pages v'.store.state.bytes) (cutting child (page_due v'.store.state.bytes 0) page) (actions_below m v'.store.state.bytes child (half_for (page_pairs v'.store.state.bytes child) child (page_due v'.store.state.bytes 0) key) 1 key)
                          g h n (due told) (cut_enough told) (subst (λ (ps : List ℕ). IsFirstLacking v0.store t ps g h n) (cut_pages told) lacks'),
                    ),
                  ))
                  fault (cut_start v'' r acts')

              module _ (v'' : PagesView) (acts' : (let r : Result (Unit {0}) PageFault = Ok tt in Acts tells (E v'.store.shape) t (cutting_pages child taken page) (cutting_parts after child m below key taken page pairs) v' v'' r)) where
                cut_acts : (let r : Result (Unit {0}) PageFault = Ok tt in Acts tells (E v0.store.shape) t (cutting_pages child taken page) (cutting_parts after child m below key taken page pairs) v' v'' r)
                cut_acts = (let r : Result (Unit {0}) PageFault = Ok tt in cut_start v'' r acts')

                going2 : Going (tree_below page0 level0 most) tells (E v0.store.shape) t root.page root.table key v0 v''
                going2 = going_act (tree_below page0 level0 most) tells (E v0.store.shape) t root.page root.table key v0 v' v'' going1 (cutting_pages child taken page) (cutting_parts after child m below key taken page pairs) cut_may cut_acts (λ told running. cut_grown told)

                cut_bytes : IsTrue tells → v''.store.state.bytes ≡ (applied (cutting_parts after child m below key taken page pairs) v'.store.state.bytes)
                cut_bytes told = cut_acts.made told living1

                cut_fits : IsTrue tells → ActionFits v0.store t (index_pages_of v0.store.shape - used_pages v'.store.state.bytes) (cutting child (page_due v'.store.state.bytes 0) page)
                cut_fits told = (cut_enough told, subst (λ (ps : List ℕ). FitAll v0.store t ps) (cut_pages told) (fits_same v0.store v'.store t going1.shape (going1.logs.ranges t) (cutting_pages child taken page) cut_acts.cause.1))

                module _ (page2 : ℕ) (pairs2 : List Pair) (page2_is : page2 ≡ half_for below child taken key) (pairs2_are : pairs2 ≡ half_pairs m below key) where
                  half_is2 : IsTrue tells → page2 ≡ half_for (page_pairs v'.store.state.bytes child) child taken key
                  half_is2 told = page2_is ∙ ap (λ (ps : List Pair). half_for ps child taken key) (are1 told)

                  half_way : (told : IsTrue tells) → IsOnWay root (applied (cutting_parts after child m below key taken page pairs) v'.store.state.bytes) key (suc (walks1 told).d) page2 m pairs2
                  half_way told =
                      let way = child_way v0.store root t (index_pages_of v0.store.shape) key (index_pages_of v0.store.shape - used_pages v0.store.state.bytes) (actions_below level0 v0.store.state.bytes page0 page0 0 key) most v'.store.state.bytes page m pairs (walks1 told) child child_is below (are1 told) in
                      record {
                        page_is = half_is2 told ∙ half_there v0.store.shape v'.store.state.bytes half (long1 told) half_is all few root front after taken key (walks1 told).d child m page below pairs fits (long_entries told) child_read parent_read (sound1 told) (named1 told) (says1 told) (takes told) (walks1 told).way child_is (are1 told) full s.room (used_less told);
                        level_is = cut_level v0.store.shape v'.store.state.bytes half (long1 told) half_is all few root front after taken key (walks1 told).d child m page below pairs fits (long_entries told) child_read parent_read (sound1 told) (named1 told) (says1 told) (takes told) (walks1 told).way child_is (are1 told) full s.room (used_less told) ∙ way.level_is;
                        pairs_are = pairs2_are ∙ ap (λ (ps : List Pair). half_pairs m ps key) (are1 told)
                            ∙ sym (half_says v0.store.shape v'.store.state.bytes half (long1 told) half_is all few root front after taken key (walks1 told).d child m page below pairs fits (long_entries told) child_read parent_read (sound1 told) (named1 told) (says1 told) (takes told) (walks1 told).way child_is (are1 told) full s.room (used_less told))
                            ∙ ap (λ (x : ℕ). page_pairs (applied (cutting_parts after child m below key taken page pairs) v'.store.state.bytes) x) (sym (half_is2 told));
                      }

                  half_rest : IsTrue tells → actions_below m (applied (cutting_parts after child m below key taken page pairs) v'.store.state.bytes) page2 page2 0 key ≡ actions_below m v'.store.state.bytes child page2 1 key
                  half_rest told =
                      subst (λ (x : ℕ). actions_below m (applied (cutting_parts after child m below key taken page pairs) v'.store.state.bytes) x x 0 key ≡ actions_below m v'.store.state.bytes child x 1 key) (sym (half_is2 told))
                      (half_left v0.store.shape v'.store.state.bytes half (long1 told) half_is all few root front after taken key (walks1 told).d child m page below pairs fits (long_entries told) child_read parent_read (sound1 told) (named1 told) (says1 told) (takes told) (walks1 told).way child_is (are1 told) full s.room (used_less told))

                  half_walks : IsTrue tells → Walks v0.store root t (index_pages_of v0.store.shape) key (index_pages_of v0.store.shape - used_pages v0.store.state.bytes) (actions_below level0 v0.store.state.bytes page0 page0 0 key) most (applied (cutting_parts after child m below key taken page pairs) v'.store.state.bytes) page2 m pairs2
                  half_walks told =
                      walk_cut v0.store root t (index_pages_of v0.store.shape) key (index_pages_of v0.store.shape - used_pages v0.store.state.bytes) (actions_below level0 v0.store.state.bytes page0 page0 0 key) most v'.store.state.bytes page m pairs (walks1 told) child child_is (many told) (applied (cutting_parts after child m below key taken page pairs) v'.store.state.bytes) page2 pairs2
                      (half_is2 told ∙ ap (λ (n : ℕ). half_for (page_pairs v'.store.state.bytes child) child n key) (taken_due told)) (cut_fits told) (cut_used v0.store.shape v'.store.state.bytes half (long1 told) half_is all few root front after taken key (walks1 told).d child m page below pairs fits (long_entries told) child_read parent_read (sound1 told) (named1 told) (says1 told) (takes told) (walks1 told).way child_is (are1 told) full s.room (used_less told)) (cut_most told) (half_way told) (half_rest told)

                  -- the split is the next action, and this is left behind it
                  pub rest_cut : IsTrue tells → actions_below level v.store.state.bytes page page 0 key ≡ (let a : Action = record { pages = cutting_pages child taken page; takes = 1 } in a) ∷ actions_below m v''.store.state.bytes page2 page2 0 key
                  rest_cut told =
                      rest_here told ∙ rest_full m v'.store.state.bytes page child key (child_here told) (many told)
                      ∙ ap (λ (n : ℕ). cutting child n page ∷ actions_below m v'.store.state.bytes child (half_for (page_pairs v'.store.state.bytes child) child n key) 1 key) (sym (taken_due told))
                      ∙ ap (λ (x : ℕ). cutting child taken page ∷ actions_below m v'.store.state.bytes child x 1 key) (sym (half_is2 told))
                      ∙ ap (λ (l : List Action). cutting child taken page ∷ l) (sym (half_rest told) ∙ ap (λ (b : List ℕ). actions_below m b page2 page2 0 key) (sym (cut_bytes told)))

                  -- after the split, the half that has the key is the next page on the way
                  pub stands_cut : (level2 : ℕ) → level2 ≡ m → Stands v'' after page2 level2 pairs2
                  stands_cut level2 level2_is =
                      let half2 = half_read v0.store.shape m below child taken key page2 pairs2 full child_read.small child_read.some child_read.inside taken_some taken_in page2_is pairs2_are in
                      record {
                        front_is = after_is;
                        slot = λ none. (let e : front.next_slot < slots_of v0.store.shape = s.slot (sym after_free ∙ none) in omega (arith, e, after_slot));
                        read = record { some = half2.some; inside = half2.inside; level_most = omega (arith, level2_is, child_read.level_most); most = omega (arith, half2.few); small = half2.small };
                        some = λ inner. half2.many;
                        room = half2.few;
                        going = going2;
                        says = λ told. subst (λ (b : List ℕ). SaysSuper (page_bytes b 0) after) (sym (cut_bytes told)) (cut_says v0.store.shape v'.store.state.bytes half (long1 told) half_is all few root front after taken key (walks1 told).d child m page below pairs fits (long_entries told) child_read parent_read (sound1 told) (named1 told) (says1 told) (takes told) (walks1 told).way child_is (are1 told) full s.room (used_less told));
                        slots_next = λ told. ap (λ (b : List ℕ). next_slot b) (cut_bytes told) ∙ (cut_after v0.store.shape v'.store.state.bytes half (long1 told) half_is all few root front after taken key (walks1 told).d child m page below pairs fits (long_entries told) child_read parent_read (sound1 told) (named1 told) (says1 told) (takes told) (walks1 told).way child_is (are1 told) full s.room (used_less told)).slots_next ∙ next1 told;
                        walks = λ told. subst (λ (n : ℕ). Walks v0.store root t (index_pages_of v0.store.shape) key (index_pages_of v0.store.shape - used_pages v0.store.state.bytes) (actions_below level0 v0.store.state.bytes page0 page0 0 key) most v''.store.state.bytes page2 n pairs2) (sym level2_is)
                            (subst (λ (b : List ℕ). Walks v0.store root t (index_pages_of v0.store.shape) key (index_pages_of v0.store.shape - used_pages v0.store.state.bytes) (actions_below level0 v0.store.state.bytes page0 page0 0 key) most b page2 m pairs2) (sym (cut_bytes told)) (half_walks told));
                      }

        -- at a leaf the pair is added with the slot that is taken
        module _ (bottom : level ≡ 0) (slot : ℕ) (after : Super) (takes : IsTrue tells → TakesSlot v'.store.state.bytes front slot after) (slot_in : slot < slots_of v0.store.shape) where
          leaf_read : IsRead v0.store.shape page 0 pairs
          leaf_read = subst (λ (n : ℕ). IsRead v0.store.shape page n pairs) bottom s.read

          leaf_walks : IsTrue tells → Walks v0.store root t (index_pages_of v0.store.shape) key (index_pages_of v0.store.shape - used_pages v0.store.state.bytes) (actions_below level0 v0.store.state.bytes page0 page0 0 key) most v'.store.state.bytes page 0 pairs
          leaf_walks told =
              subst (λ (n : ℕ). Walks v0.store root t (index_pages_of v0.store.shape) key (index_pages_of v0.store.shape - used_pages v0.store.state.bytes) (actions_below level0 v0.store.state.bytes page0 page0 0 key) most v'.store.state.bytes page n pairs) bottom
              (subst (λ (b : List ℕ). Walks v0.store root t (index_pages_of v0.store.shape) key (index_pages_of v0.store.shape - used_pages v0.store.state.bytes) (actions_below level0 v0.store.state.bytes page0 page0 0 key) most b page level pairs) (sym (same1 told)) (s.walks told))

          none_now : IsTrue tells → found (pairs_of_tree v'.store.state.bytes root.page) key ≡ None
          none_now told = ap (λ (ps : List Pair). found ps key) (going1.made told alive).1.pairs ∙ absent told

          used_slot : IsTrue tells → used_slots v'.store.state.bytes < slots_of v0.store.shape
          used_slot told = slots_few v0.store.shape v'.store.state.bytes front s.front_is s.slot (says1 told) (trees_count v'.store.state.bytes (sound1 told))

          add_grown : IsTrue tells → Grows (tree_below page0 level0 most) root.page v0.store.state.bytes (applied (adding_parts half after slot page 0 pairs root.table key) v'.store.state.bytes) × Gains (tree_below page0 level0 most) root.page root.table key v0.store.state.bytes (applied (adding_parts half after slot page 0 pairs root.table key) v'.store.state.bytes)
          add_grown told =
              let made = going1.made told alive in
              let d = adding_grows v0.store.shape v'.store.state.bytes half (long1 told) half_is all few root front after slot key (leaf_walks told).d page pairs fits table_few (long_entries told) leaf_read (sound1 told) (named1 told) (says1 told) (takes told) (leaf_walks told).way s.room (used_slot told) (none_now told) in
              let none = adding_takes_none v0.store.shape v'.store.state.bytes half (long1 told) half_is all few root front after slot key (leaf_walks told).d page pairs fits table_few (long_entries told) leaf_read (sound1 told) (named1 told) (says1 told) (takes told) (leaf_walks told).way s.room (used_slot told) (none_now told) in (
                grows_more page0 level0 most root.page v0.store.state.bytes v'.store.state.bytes (applied (adding_parts half after slot page 0 pairs root.table key) v'.store.state.bytes) (limit told) (next1 told) made.0 made.1 d.0 (omega (arith, none, (leaf_walks told).few)),
                gains_more page0 level0 most root.page v0.store.state.bytes v'.store.state.bytes (applied (adding_parts half after slot page 0 pairs root.table key) v'.store.state.bytes) (limit told) (next1 told) root.table key made.1 d.1,
              )

          add_may : IsTrue tells → IsAlive v0.store → MayBecome (tree_below page0 level0 most) root.page root.table key v0.store.state.bytes (applied (adding_parts half after slot page 0 pairs root.table key) v'.store.state.bytes)
          add_may told running = let d = add_grown told in (d.0, inr d.1)

          add_start : (v'' : PagesView) (r : Result (Unit {0}) PageFault) → Acts tells (E v'.store.shape) t (adding_pages (index_pages_of v'.store.shape) slot page) (adding_parts (index_pages_of v'.store.shape) after slot page 0 pairs root.table key) v' v'' r
              → Acts tells (E v0.store.shape) t (adding_pages half slot page) (adding_parts half after slot page 0 pairs root.table key) v' v'' r
          add_start v'' r acts =
              subst (λ (n : ℕ). Acts tells (E v0.store.shape) t (adding_pages n slot page) (adding_parts n after slot page 0 pairs root.table key) v' v'' r) (sym half_is)
              (subst (λ (sh : Shape). Acts tells (E sh) t (adding_pages (index_pages_of sh) slot page) (adding_parts (index_pages_of sh) after slot page 0 pairs root.table key) v' v'' r) going1.shape acts)

          slot_due_is : IsTrue tells → slot ≡ slot_due v'.store.state.bytes
          slot_due_is told = slot_there v0.store.shape v'.store.state.bytes half (long1 told) half_is all few root front after slot key (leaf_walks told).d page pairs fits table_few (long_entries told) leaf_read (sound1 told) (named1 told) (says1 told) (takes told) (leaf_walks told).way s.room (used_slot told) (none_now told)

          add_pages : IsTrue tells → (adding_pages half slot page) ≡ (adding v'.store.state.bytes page).pages
          add_pages told = adding_at v0.store.shape v'.store.state.bytes (long1 told) half all slot page (slot_due_is told)

          decided : IsTrue tells → DecidesAll v0.store t (index_pages_of v0.store.shape - used_pages v0.store.state.bytes) (actions_below level0 v0.store.state.bytes page0 page0 0 key) (index_pages_of v0.store.shape - used_pages v'.store.state.bytes) (adding v'.store.state.bytes page ∷ [])
          decided told = walk_last v0.store root t (index_pages_of v0.store.shape) key (index_pages_of v0.store.shape - used_pages v0.store.state.bytes) (actions_below level0 v0.store.state.bytes page0 page0 0 key) most v'.store.state.bytes page pairs (leaf_walks told)

          -- adding the pair is all that is left
          pub rest_last : IsTrue tells → actions_below level v.store.state.bytes page page 0 key ≡ (let a : Action = record { pages = adding_pages half slot page; takes = 0 } in a) ∷ []
          rest_last told =
              ap (λ (b : List ℕ). actions_below level b page page 0 key) (sym (same1 told)) ∙ ap (λ (n : ℕ). actions_below n v'.store.state.bytes page page 0 key) bottom
              ∙ ap (λ (ps : List ℕ). (let a : Action = record { pages = ps; takes = 0 } in a) ∷ []) (sym (add_pages told))

          pub add_done : (v'' : PagesView) → (let r : Result (Unit {0}) PageFault = Ok tt in
              Acts tells (E v'.store.shape) t (adding_pages (index_pages_of v'.store.shape) slot page) (adding_parts (index_pages_of v'.store.shape) after slot page 0 pairs root.table key) v' v'' r)
              → (let r : Result ℕ IndexFault = Ok slot in Inserts tells (E v0.store.shape) (tree_below page0 level0 most) t root.page root.table key v0 v'' r)
          add_done v'' acts' =
              let r : Result (Unit {0}) PageFault = Ok tt in
              let acts = add_start v'' r acts' in
              inserts_done (tree_below page0 level0 most) tells (E v0.store.shape) t root.page root.table key v0 v' v'' going1 (adding_pages half slot page) (adding_parts half after slot page 0 pairs root.table key) add_may slot acts
              (λ told running. let d = add_grown told in (slot_due_is told ∙ (going1.made told alive).1.due, d.0, d.1)) (
                alive,
                slot_in,
                λ told. (
                  slot_left told,
                  (decided told).fit ((omega arith, subst (λ (ps : List ℕ). FitAll v0.store t ps) (add_pages told) (fits_same v0.store v'.store t going1.shape (going1.logs.ranges t) (adding_pages half slot page) acts.cause.1)), tt),
                ),
              )

          pub add_err : (v'' : PagesView) (fault : PageFault) → (let r : Result (Unit {0}) PageFault = Err fault in
              Acts tells (E v'.store.shape) t (adding_pages (index_pages_of v'.store.shape) slot page) (adding_parts (index_pages_of v'.store.shape) after slot page 0 pairs root.table key) v' v'' r)
              → (let r : Result ℕ IndexFault = Err (as_index fault) in Inserts tells (E v0.store.shape) (tree_below page0 level0 most) t root.page root.table key v0 v'' r)
          add_err v'' fault acts' =
              let r : Result (Unit {0}) PageFault = Err fault in
              inserts_act_err (tree_below page0 level0 most) tells (E v0.store.shape) t root.page root.table key v0 v' v'' going1 (adding_pages half slot page) (adding_parts half after slot page 0 pairs root.table key) add_may alive
              (λ g h n lacks. let lacks' = lacks_same v0.store v'.store t going1.shape (going1.logs.ranges t) (adding_pages half slot page) g h n lacks in (
                alive,
                ((adding_pages half slot page), omega arith, lacks'),
                λ told. (
                  slot_left told,
                  room_lacks v0.store t (index_pages_of v0.store.shape - used_pages v0.store.state.bytes) (actions_below level0 v0.store.state.bytes page0 page0 0 key) (index_pages_of v0.store.shape - used_pages v'.store.state.bytes) (adding v'.store.state.bytes page) [] g h n (decided told) (omega arith) (subst (λ (ps : List ℕ). IsFirstLacking v0.store t ps g h n) (add_pages told) lacks'),
                ),
              ))
              fault (add_start v'' r acts')
