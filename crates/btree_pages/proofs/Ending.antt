-- How the actions of a removal end it.
use Rattle.std.proofs.Common.{◌≡◌, ◌≢◌, ℕ, ◌^◌, ◌<◌, ◌≤◌, Bool, true, List, length, Some, Result, Ok, Err, sym, ◌∙◌, ap, subst, arith}
use Rattle.std.specs.Prelude.{IsTrue}
use Rattle.array_shape.specs.declared.shape.Shape.{Shape}
use Rattle.array_shape.specs.Places.{data_len}
use Rattle.array_shape.specs.Logged.{applied}
use Rattle.eaw_face.specs.Causes.{IsAlive}
use Rattle.record_slots.specs.declared.free.Free.{Free}
use Rattle.record_slots.specs.declared.super_page.Super.{Super}
use Rattle.page_store.specs.Index.{IsTable, index_pages_of}
use Rattle.page_store.specs.Pairs.{Pair, found}
use Rattle.page_store.specs.Removes.{LosesKey, Removes}
use Rattle.page_store.specs.Shown.{PagesView}
use Rattle.page_store.specs.declared.fault.PageFault.{PageFault}
use Rattle.index_pages.specs.Acts.{Acts}
use Rattle.index_pages.specs.Giving.{GivesPage, removing_pages, removing_parts}
use Rattle.index_pages.specs.Page.{page_pairs, count_of}
use Rattle.index_pages.specs.Written.{AreSmall}
use Rattle.index_pages.proofs.PageFacts.{length-page_pairs}
use Rattle.index_pages.proofs.Removals.{removes_done, removes_act_err}
use Rattle.btree_laws.proofs.Ways.{sound_tree_finds}
use Rattle.btree_laws.specs.Descent.{child_for}
use Rattle.btree_laws.specs.Removals.{parent_for, right_of, without_last, without_right}
use Rattle.btree_laws.specs.Sound.{IsSoundTree}
use Rattle.btree_laws.specs.Tree.{pairs_of_tree}
use Rattle.btree_laws.specs.declared.root.Root.{Root}
use Rattle.btree_pages.specs.Index.{tree, tree_removal, AreSoundTrees}
use Rattle.btree_pages.specs.OnWay.{IsReached}
use Rattle.btree_pages.specs.Trees.{table_sound}
use Rattle.btree_pages.specs.Writes.{IsRead, joining_pages, joining_parts, leaving_pages, leaving_parts, Releases}
use Rattle.btree_pages.proofs.Removed.{IsParent, parent_reached, leaf_reached, lose_loses, lose_takes, join_loses, join_takes, leave_loses, leave_takes}

-- the pair is found where its leaf has it
pub found_there : (root : Root) (bytes : List ℕ) (key slot leaf level : ℕ) (pairs : List Pair) → IsSoundTree root bytes → key < 2 ^ 64 → level ≡ 0 → IsReached root bytes key leaf level pairs → found pairs key ≡ Some slot
    → found (pairs_of_tree bytes root.page) key ≡ Some slot
found_there root bytes key slot leaf level pairs sound fits bottom reached is =
    sound_tree_finds root bytes key sound (omega (arith, fits)) ∙ ap (λ (x : ℕ). found (page_pairs bytes x) key) (sym (leaf_reached root bytes key leaf level pairs bottom reached))
    ∙ ap (λ (ps : List Pair). found ps key) (sym reached.1.pairs_are) ∙ is

module _ (tells : Bool) (E : Shape → List ℕ → List ℕ → Type 0) (t : ℕ) (root : Root) (key : ℕ) (v0 : PagesView) (fits : key < 2 ^ 64) (alive : IsAlive v0.store)
    (long : IsTrue tells → length v0.store.state.bytes ≡ data_len v0.store.shape) (sound : IsTrue tells → AreSoundTrees v0.store.state.bytes) (named : IsTrue tells → IsTable v0.store.state.bytes root.table root.page)
    (slot : ℕ) (free : Free) (given : Super) (released : IsTrue tells → Releases v0.store.state.bytes slot free given) (v1 : PagesView) where
  -- the leaf loses the pair
  module _ (leaf level : ℕ) (pairs : List Pair) (read : IsRead v0.store.shape leaf level pairs) (bottom : level ≡ 0) (reached : IsTrue tells → IsReached root v0.store.state.bytes key leaf level pairs)
      (finds : found pairs key ≡ Some slot) (more : IsTrue tells → leaf ≢ root.page → 2 ≤ length pairs) where
    is : IsTrue tells → found (pairs_of_tree v0.store.state.bytes root.page) key ≡ Some slot
    is told = found_there root v0.store.state.bytes key slot leaf level pairs (table_sound v0.store.state.bytes root (sound told) (named told)) fits bottom (reached told) finds

    loses : IsTrue tells → LosesKey tree root.page key v0.store.state.bytes (applied (removing_parts (index_pages_of v0.store.shape) given slot free leaf 0 pairs key) v0.store.state.bytes)
    loses told = lose_loses v0.store.shape v0.store.state.bytes (long told) root key slot fits (sound told) (named told) (is told) free given (released told) leaf pairs
        (leaf_reached root v0.store.state.bytes key leaf level pairs bottom (reached told)) (reached told).1.pairs_are read.most read.small (more told)

    pub takes : IsTrue tells → tree_removal v0.store.state.bytes root.page key ≡ Some (removing_pages (index_pages_of v0.store.shape) slot leaf)
    takes told = lose_takes v0.store.shape v0.store.state.bytes (long told) root key slot fits (sound told) (named told) (is told) free given (released told) leaf pairs
        (leaf_reached root v0.store.state.bytes key leaf level pairs bottom (reached told)) (reached told).1.pairs_are read.most read.small (more told)

    pub lose_done : (let r : Result (Unit {0}) PageFault = Ok tt in Acts tells (E v0.store.shape) t (removing_pages (index_pages_of v0.store.shape) slot leaf) (removing_parts (index_pages_of v0.store.shape) given slot free leaf 0 pairs key) v0 v1 r)
        → (let r : Result Bool PageFault = Ok true in Removes tells (E v0.store.shape) tree t root.page key v0 v1 r)
    lose_done acts = removes_done tells (E v0.store.shape) tree t root.page key v0 v1 _ _ alive (omega arith) takes loses acts

    pub lose_err : (fault : PageFault) → (let r : Result (Unit {0}) PageFault = Err fault in Acts tells (E v0.store.shape) t (removing_pages (index_pages_of v0.store.shape) slot leaf) (removing_parts (index_pages_of v0.store.shape) given slot free leaf 0 pairs key) v0 v1 r)
        → (let r : Result Bool PageFault = Err fault in Removes tells (E v0.store.shape) tree t root.page key v0 v1 r)
    lose_err fault acts = removes_act_err tells (E v0.store.shape) tree t root.page key v0 v1 _ _ alive (omega arith) takes loses fault acts

  -- the leaf has no other pair, and lies below the root
  module _ (is : IsTrue tells → found (pairs_of_tree v0.store.state.bytes root.page) key ≡ Some slot) (leaf parent level : ℕ) (entries : List Pair) (leaf_is : leaf ≡ child_for entries key) (alone : IsTrue tells → count_of v0.store.state.bytes leaf ≡ 1)
      (read : IsRead v0.store.shape parent level entries) (one : level ≡ 1) (reached : IsTrue tells → IsReached root v0.store.state.bytes key parent level entries) where
    at : IsTrue tells → IsParent root v0.store.state.bytes key parent entries
    at told = parent_reached root v0.store.state.bytes key parent level entries one (reached told)

    leaf_at : (told : IsTrue tells) → leaf ≡ child_for (page_pairs v0.store.state.bytes (parent_for v0.store.state.bytes root.page key)) key
    leaf_at told = leaf_is ∙ ap (λ (es : List Pair). child_for es key) (at told).entries_are

    alone_at : (told : IsTrue tells) → count_of v0.store.state.bytes (child_for (page_pairs v0.store.state.bytes (parent_for v0.store.state.bytes root.page key)) key) ≡ 1
    alone_at told = ap (λ (x : ℕ). count_of v0.store.state.bytes x) (sym (leaf_at told)) ∙ alone told

    most_at : (told : IsTrue tells) → length (page_pairs v0.store.state.bytes (parent_for v0.store.state.bytes root.page key)) ≤ 30
    most_at told = subst (λ (es : List Pair). length es ≤ 30) (at told).entries_are read.most

    small_at : (told : IsTrue tells) → AreSmall (page_pairs v0.store.state.bytes (parent_for v0.store.state.bytes root.page key))
    small_at told = subst (λ (es : List Pair). AreSmall es) (at told).entries_are read.small

    -- it takes the pairs of the page to its right
    module _ (right deep : ℕ) (right_is : right ≡ right_of entries key) (pairs : List Pair) (right_read : IsRead v0.store.shape right deep pairs) (pairs_are : IsTrue tells → pairs ≡ page_pairs v0.store.state.bytes right)
        (freed : Free) (after : Super) (gives : GivesPage given right freed after) where
      right_at : (told : IsTrue tells) → right ≡ right_of (page_pairs v0.store.state.bytes (parent_for v0.store.state.bytes root.page key)) key
      right_at told = right_is ∙ ap (λ (es : List Pair). right_of es key) (at told).entries_are

      pairs_at : (told : IsTrue tells) → pairs ≡ page_pairs v0.store.state.bytes (right_of (page_pairs v0.store.state.bytes (parent_for v0.store.state.bytes root.page key)) key)
      pairs_at told = pairs_are told ∙ ap (λ (x : ℕ). page_pairs v0.store.state.bytes x) (right_at told)

      there : (told : IsTrue tells) → right_of (page_pairs v0.store.state.bytes (parent_for v0.store.state.bytes root.page key)) key ≢ 0
      there told none = omega (arith, right_read.some, right_at told, none)

      left_at : (told : IsTrue tells) → without_right entries key ≡ without_right (page_pairs v0.store.state.bytes (parent_for v0.store.state.bytes root.page key)) key
      left_at told = ap (λ (es : List Pair). without_right es key) (at told).entries_are

      join_loses_told : IsTrue tells
          → LosesKey tree root.page key v0.store.state.bytes (applied (joining_parts (index_pages_of v0.store.shape) after slot free leaf pairs parent (without_right entries key) right freed) v0.store.state.bytes)
      join_loses_told told =
          subst (λ (x : ℕ × List Pair × ℕ × List Pair × ℕ). LosesKey tree root.page key v0.store.state.bytes (applied (joining_parts (index_pages_of v0.store.shape) after slot free x.0 x.1 x.2 x.3 x.4 freed) v0.store.state.bytes))
          (λ i. (sym (leaf_at told) i, sym (pairs_at told) i, sym (at told).parent_is i, sym (left_at told) i, sym (right_at told) i))
          (join_loses v0.store.shape v0.store.state.bytes (long told) root key slot fits (sound told) (named told) (is told) free given (released told) (at told).below (alone_at told) (most_at told) (small_at told)
          (there told) (subst (λ (ps : List Pair). length ps ≤ 30) (pairs_at told) right_read.most) (subst (λ (ps : List Pair). AreSmall ps) (pairs_at told) right_read.small) freed after
          (subst (λ (r : ℕ). GivesPage given r freed after) (right_at told) gives))

      pub join_takes_told : IsTrue tells → tree_removal v0.store.state.bytes root.page key ≡ Some (joining_pages (index_pages_of v0.store.shape) slot leaf parent right)
      join_takes_told told =
          join_takes v0.store.shape v0.store.state.bytes (long told) root key slot fits (sound told) (named told) (is told) free given (released told) (at told).below (alone_at told) (most_at told) (small_at told)
          (there told) (subst (λ (ps : List Pair). length ps ≤ 30) (pairs_at told) right_read.most) (subst (λ (ps : List Pair). AreSmall ps) (pairs_at told) right_read.small) freed after
          (subst (λ (r : ℕ). GivesPage given r freed after) (right_at told) gives)
          ∙ (λ i. Some (joining_pages (index_pages_of v0.store.shape) slot (sym (leaf_at told) i) (sym (at told).parent_is i) (sym (right_at told) i)))

      pub join_done : (let r : Result (Unit {0}) PageFault = Ok tt in Acts tells (E v0.store.shape) t (joining_pages (index_pages_of v0.store.shape) slot leaf parent right)
          (joining_parts (index_pages_of v0.store.shape) after slot free leaf pairs parent (without_right entries key) right freed) v0 v1 r) → (let r : Result Bool PageFault = Ok true in Removes tells (E v0.store.shape) tree t root.page key v0 v1 r)
      join_done acts = removes_done tells (E v0.store.shape) tree t root.page key v0 v1 _ _ alive (omega arith) join_takes_told join_loses_told acts

      pub join_err : (fault : PageFault) → (let r : Result (Unit {0}) PageFault = Err fault in Acts tells (E v0.store.shape) t (joining_pages (index_pages_of v0.store.shape) slot leaf parent right)
          (joining_parts (index_pages_of v0.store.shape) after slot free leaf pairs parent (without_right entries key) right freed) v0 v1 r) → (let r : Result Bool PageFault = Err fault in Removes tells (E v0.store.shape) tree t root.page key v0 v1 r)
      join_err fault acts = removes_act_err tells (E v0.store.shape) tree t root.page key v0 v1 _ _ alive (omega arith) join_takes_told join_loses_told fault acts

    -- or it is the last of several, and goes
    module _ (last : right_of entries key ≡ 0) (several : 2 ≤ length entries) (freed : Free) (after : Super) (gives : GivesPage given leaf freed after) where
      last_at : (told : IsTrue tells) → right_of (page_pairs v0.store.state.bytes (parent_for v0.store.state.bytes root.page key)) key ≡ 0
      last_at told = ap (λ (es : List Pair). right_of es key) (sym (at told).entries_are) ∙ last

      several_at : (told : IsTrue tells) → 2 ≤ count_of v0.store.state.bytes (parent_for v0.store.state.bytes root.page key)
      several_at told = omega (arith, several, ap (λ (es : List Pair). length es) (at told).entries_are, length-page_pairs v0.store.state.bytes (parent_for v0.store.state.bytes root.page key))

      rest_at : (told : IsTrue tells) → without_last entries ≡ without_last (page_pairs v0.store.state.bytes (parent_for v0.store.state.bytes root.page key))
      rest_at told = ap (λ (es : List Pair). without_last es) (at told).entries_are

      leave_loses_told : IsTrue tells → LosesKey tree root.page key v0.store.state.bytes (applied (leaving_parts (index_pages_of v0.store.shape) after slot free parent (without_last entries) leaf freed) v0.store.state.bytes)
      leave_loses_told told =
          subst (λ (x : ℕ × List Pair × ℕ). LosesKey tree root.page key v0.store.state.bytes (applied (leaving_parts (index_pages_of v0.store.shape) after slot free x.0 x.1 x.2 freed) v0.store.state.bytes))
          (λ i. (sym (at told).parent_is i, sym (rest_at told) i, sym (leaf_at told) i))
          (leave_loses v0.store.shape v0.store.state.bytes (long told) root key slot fits (sound told) (named told) (is told) free given (released told) (at told).below (alone_at told) (most_at told) (small_at told)
          (last_at told) (several_at told) freed after (subst (λ (r : ℕ). GivesPage given r freed after) (leaf_at told) gives))

      pub leave_takes_told : IsTrue tells → tree_removal v0.store.state.bytes root.page key ≡ Some (leaving_pages (index_pages_of v0.store.shape) slot parent leaf)
      leave_takes_told told =
          leave_takes v0.store.shape v0.store.state.bytes (long told) root key slot fits (sound told) (named told) (is told) free given (released told) (at told).below (alone_at told) (most_at told) (small_at told)
          (last_at told) (several_at told) freed after (subst (λ (r : ℕ). GivesPage given r freed after) (leaf_at told) gives)
          ∙ (λ i. Some (leaving_pages (index_pages_of v0.store.shape) slot (sym (at told).parent_is i) (sym (leaf_at told) i)))

      pub leave_done : (let r : Result (Unit {0}) PageFault = Ok tt in Acts tells (E v0.store.shape) t (leaving_pages (index_pages_of v0.store.shape) slot parent leaf)
          (leaving_parts (index_pages_of v0.store.shape) after slot free parent (without_last entries) leaf freed) v0 v1 r) → (let r : Result Bool PageFault = Ok true in Removes tells (E v0.store.shape) tree t root.page key v0 v1 r)
      leave_done acts = removes_done tells (E v0.store.shape) tree t root.page key v0 v1 _ _ alive (omega arith) leave_takes_told leave_loses_told acts

      pub leave_err : (fault : PageFault) → (let r : Result (Unit {0}) PageFault = Err fault in Acts tells (E v0.store.shape) t (leaving_pages (index_pages_of v0.store.shape) slot parent leaf)
          (leaving_parts (index_pages_of v0.store.shape) after slot free parent (without_last entries) leaf freed) v0 v1 r) → (let r : Result Bool PageFault = Err fault in Removes tells (E v0.store.shape) tree t root.page key v0 v1 r)
      leave_err fault acts = removes_act_err tells (E v0.store.shape) tree t root.page key v0 v1 _ _ alive (omega arith) leave_takes_told leave_loses_told fault acts
