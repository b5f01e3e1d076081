-- What the actions of a removal write lacks just the pair, and lies in the pages that the index names.
use Rattle.std.proofs.Common.{◌≡◌, ◌≢◌, ℕ, suc, ◌+◌, ◌-◌, ◌*◌, ◌/◌, ◌%◌, ◌^◌, ◌<◌, ◌≤◌, inl, List, [], ◌∷◌, length, Some, None, refl, sym, ◌∙◌, ap, subst, arith}
use Rattle.mars_base.specs.Bytes.{range}
use Rattle.array_shape.specs.declared.shape.Shape.{Shape}
use Rattle.array_shape.specs.Places.{data_len}
use Rattle.array_shape.specs.Logged.{applied}
use Rattle.record_slots.specs.Free.{free_slot_bytes, free_page_bytes}
use Rattle.record_slots.specs.Super.{part_bytes}
use Rattle.record_slots.specs.Places.{page_bytes, slot_of, next_slot, next_page, slot_page, free_page_of, Carries}
use Rattle.record_slots.specs.declared.free.Free.{Free}
use Rattle.record_slots.specs.declared.super_page.Super.{Super}
use Rattle.record_slots.proofs.Freed.{length-free_slot_bytes, length-free_page_bytes}
use Rattle.page_store.specs.Index.{IsTable, index_pages_of}
use Rattle.page_store.specs.Pairs.{Pair, found}
use Rattle.page_store.specs.Removes.{LosesKey}
use Rattle.page_store.specs.Shown.{address}
use Rattle.index_pages.specs.Giving.{GivesPage, removing_pages, removing_parts}
use Rattle.index_pages.specs.Keys.{key_end}
use Rattle.index_pages.specs.Page.{page_pairs, level_of, count_of}
use Rattle.index_pages.specs.Ways.{above}
use Rattle.index_pages.specs.Written.{AreSmall, written_page}
use Rattle.index_pages.proofs.Added.{IsRemoved, removed_is}
use Rattle.index_pages.proofs.Claims.{entries_long}
use Rattle.index_pages.proofs.Even.{halves, halves_few}
use Rattle.record_slots.proofs.ReadingBack.{length-part_bytes}
use Rattle.index_pages.proofs.Given.{above_zero}
use Rattle.index_pages.proofs.PageFacts.{length-page_pairs}
use Rattle.index_pages.proofs.Puts.{AllApart, Stand}
use Rattle.index_pages.proofs.Sizes.{slot_page_is}
use Rattle.index_pages.proofs.Tabled.{IsWhole}
use Rattle.index_pages.proofs.Writing.{length-written_page}
use Rattle.btree_laws.proofs.Entries.{length-last, length-right}
use Rattle.index_pages.proofs.Freeing.{found_given}
use Rattle.btree_laws.proofs.Places.{above_one, join_place}
use Rattle.btree_laws.proofs.Small.{small_last, small_right}
use Rattle.btree_laws.proofs.Staying.{leaf_page, parent_page, right_page, leaf_bottom, parent_level_is}
use Rattle.btree_laws.specs.Descent.{child_for, leaf_for, page_for}
use Rattle.btree_laws.specs.Removals.{IsJoinPlace, parent_for, right_of, without_last, without_right}
use Rattle.btree_laws.specs.Resting.{sound_tree_given}
use Rattle.btree_laws.specs.Sound.{IsSoundTree}
use Rattle.btree_laws.specs.Tree.{pairs_of_tree, IsPageOfTree}
use Rattle.btree_laws.specs.TreeFacts.{under_own}
use Rattle.btree_laws.specs.declared.root.Root.{Root}
use Rattle.btree_pages.specs.Index.{tree, tree_of, tree_removal, AreSoundTrees}
use Rattle.btree_pages.specs.OnWay.{IsReached}
use Rattle.btree_pages.specs.Trees.{whole_of, table_sound}
use Rattle.btree_pages.specs.Writes.{joining_pages, joining_parts, leaving_pages, leaving_parts, Releases}
use Rattle.btree_pages.proofs.Freed.{AreIndexParts, pages_apart, front_apart, freed_size, freed_others, freed_slot, freed_page, freed_mark, freed_stand, page_stands}
use Rattle.btree_pages.proofs.Giving.{given_slot, given_kept_pages, given_both, given_page}
use Rattle.btree_pages.proofs.Others.{free_apart}
use Rattle.btree_pages.proofs.RemovalPages.{removal_loses, removal_joins, removal_leaves}
use Rattle.btree_pages.proofs.RemoveData.{lost_shrinks, joined_shrinks, left_shrinks}

-- what is known of the parent of the key's leaf when it was reached
pub record IsParent (root : Root) (old : List ℕ) (key parent : ℕ) (entries : List Pair) : Type 0 where
  pub below : 1 ≤ level_of old root.page
  pub parent_is : parent ≡ parent_for old root.page key
  pub entries_are : entries ≡ page_pairs old (parent_for old root.page key)

pub parent_reached : (root : Root) (old : List ℕ) (key parent level : ℕ) (entries : List Pair) → level ≡ 1 → IsReached root old key parent level entries → IsParent root old key parent entries
parent_reached root old key parent level entries one reached =
    let level_is : level_of old root.page ≡ suc reached.0 = reached.1.level_is ∙ ap (λ (m : ℕ). above reached.0 m) one ∙ above_one reached.0 in
    let d : reached.0 ≡ level_of old root.page - 1 = omega (arith, level_is) in
    let is : parent ≡ parent_for old root.page key = reached.1.page_is ∙ ap (λ (n : ℕ). page_for n old root.page key) d in
    record { below = omega (arith, level_is); parent_is = is; entries_are = reached.1.pairs_are ∙ ap (λ (x : ℕ). page_pairs old x) is }

pub leaf_reached : (root : Root) (old : List ℕ) (key leaf level : ℕ) (pairs : List Pair) → level ≡ 0 → IsReached root old key leaf level pairs → leaf ≡ leaf_for old root.page key
leaf_reached root old key leaf level pairs bottom reached =
    let level_is : level_of old root.page ≡ reached.0 = reached.1.level_is ∙ ap (λ (m : ℕ). above reached.0 m) bottom ∙ above_zero reached.0 in
    reached.1.page_is ∙ ap (λ (n : ℕ). page_for n old root.page key) (sym level_is)

module _ (shape : Shape) (old : List ℕ) (long : length old ≡ data_len shape) (root : Root) (key slot : ℕ) (fits : key < 2 ^ 64) (sound : AreSoundTrees old) (table : IsTable old root.table root.page)
    (is : found (pairs_of_tree old root.page) key ≡ Some slot) (free : Free) (given : Super) (released : Releases old slot free given) where
  size : length old ≡ 512 * (index_pages_of shape + index_pages_of shape)
  size = omega (arith, long, halves shape)

  few : index_pages_of shape ≤ 16384
  few = halves_few shape

  whole : IsWhole 1 tree_of old
  whole = whole_of old sound

  some_pages : 2 ≤ next_page old
  some_pages = whole.front.some_pages

  given_most : next_page old ≤ index_pages_of shape
  given_most = omega (arith, whole.front.pages, size)

  entries : length released.0.entries ≡ 256
  entries = entries_long old released.0 (omega (arith, size, some_pages, given_most)) released.1

  given_entries : length given.entries ≡ 256
  given_entries = ap (λ (f : Super). length f.entries) released.2.after_is ∙ entries

  -- the part of a super page that gives back one more page
  front_long : (page : ℕ) (freed : Free) (after : Super) → GivesPage given page freed after → length (part_bytes after) ≡ 280
  front_long page freed after gives = length-part_bytes after (ap (λ (f : Super). length f.entries) gives.after_is ∙ given_entries)

  root_sound : IsSoundTree root old
  root_sound = table_sound old root sound table

  lt : key < key_end
  lt = omega (arith, fits)

  here : (slot < next_slot old) × Carries old root.table (key, slot)
  here = found_given old root.table key slot (pairs_of_tree old root.page) is (sound_tree_given root old root_sound)

  eight : slot < 8 * index_pages_of shape
  eight = omega (arith, here.0, whole.front.slots, size)

  place : slot_page old slot ≡ index_pages_of shape + slot / 8
  place = slot_page_is shape old long (index_pages_of shape) slot (halves shape)

  page_in : (x : ℕ) → IsPageOfTree old root.page x → (1 ≤ x) × (x < index_pages_of shape)
  page_in x u =
      let own = under_own root (level_of old root.page) old x root.page 0 key_end root_sound.0 root_sound.2 u in
      (own.0, omega (arith, own.1, given_most))

  not_tree : (x y : ℕ) → free_page_of old x ≢ None → IsPageOfTree old root.page y → x ≢ y
  not_tree x y some u e = free_apart old root y root_sound u (subst (λ (z : ℕ). free_page_of old z ≢ None) e some)

  -- the leaf loses the pair
  module _ (leaf : ℕ) (pairs : List Pair) (leaf_is : leaf ≡ leaf_for old root.page key) (pairs_are : pairs ≡ page_pairs old leaf) (most : length pairs ≤ 30) (small : AreSmall pairs) (more : leaf ≢ root.page → 2 ≤ length pairs) where
    leaf_under : IsPageOfTree old root.page leaf
    leaf_under = subst (λ (x : ℕ). IsPageOfTree old root.page x) (sym leaf_is) (leaf_page root old key root_sound lt)

    w : IsRemoved old (applied (removing_parts (index_pages_of shape) given slot free leaf 0 pairs key) old) (index_pages_of shape) given slot free leaf 0 pairs key
    w = removed_is old (index_pages_of shape) size given given_entries slot free leaf 0 pairs key eight (page_in leaf leaf_under).0 (page_in leaf leaf_under).1 (omega arith) most

    kept : (x : ℕ) → free_page_of old x ≢ None → 2 ≤ x → x < next_page old → page_bytes (applied (removing_parts (index_pages_of shape) given slot free leaf 0 pairs key) old) x ≡ page_bytes old x
    kept x some from to = w.pages x (omega (arith, from)) (omega (arith, to, given_most)) (not_tree x leaf some leaf_under)

    pub lose_loses : LosesKey tree root.page key old (applied (removing_parts (index_pages_of shape) given slot free leaf 0 pairs key) old)
    lose_loses =
        let new : List ℕ = applied (removing_parts (index_pages_of shape) given slot free leaf 0 pairs key) old in (
          slot,
          is,
          lost_shrinks old (index_pages_of shape) size root key slot fits sound table is (applied (removing_parts (index_pages_of shape) given slot free leaf 0 pairs key) old) w.size w.slots
              (given_slot old (index_pages_of shape) size few sound released.0 entries released.1 slot free given released.2 root.table key here.0 here.1
              (applied (removing_parts (index_pages_of shape) given slot free leaf 0 pairs key) old) w.size w.slot_is w.slots w.mark kept w.part)
              leaf leaf_is pairs pairs_are most small more w.bytes w.pages
              (given_kept_pages old (index_pages_of shape) size few sound released.0 entries released.1 slot free given released.2 root.table key here.0 here.1
              (applied (removing_parts (index_pages_of shape) given slot free leaf 0 pairs key) old) w.size w.slot_is w.slots w.mark kept w.part),
        )

    pub lose_takes : tree_removal old root.page key ≡ Some (removing_pages (index_pages_of shape) slot leaf)
    lose_takes =
        let bottom = leaf_bottom root old key root_sound lt in
        removal_loses old root.page key slot (index_pages_of shape + slot / 8) place is leaf leaf_is
        (λ other. let m = more other in omega (arith, m, ap (λ (ps : List Pair). length ps) pairs_are, length-page_pairs old leaf))
        (λ inner e. inner (ap (λ (x : ℕ). level_of old x) (sym e ∙ leaf_is) ∙ bottom))

  -- the leaf has no other pair, and lies below the root
  module _ (below : 1 ≤ level_of old root.page) (alone : count_of old (child_for (page_pairs old (parent_for old root.page key)) key) ≡ 1)
      (most : length (page_pairs old (parent_for old root.page key)) ≤ 30) (small : AreSmall (page_pairs old (parent_for old root.page key))) where
    joins_at : IsJoinPlace old (parent_for old root.page key) (leaf_for old root.page key) key
    joins_at = join_place root old (level_of old root.page - 1) key root_sound lt (parent_level_is old root.page below)

    parent_under : IsPageOfTree old root.page (parent_for old root.page key)
    parent_under = parent_page root old key root_sound lt below

    child_under : IsPageOfTree old root.page (child_for (page_pairs old (parent_for old root.page key)) key)
    child_under = subst (λ (x : ℕ). IsPageOfTree old root.page x) (sym joins_at.leaf_is) (leaf_page root old key root_sound lt)

    some : 1 ≤ length (page_pairs old (parent_for old root.page key))
    some = omega (arith, joins_at.some, length-page_pairs old (parent_for old root.page key))

    alone_leaf : count_of old (leaf_for old root.page key) ≡ 1
    alone_leaf = ap (λ (x : ℕ). count_of old x) (sym joins_at.leaf_is) ∙ alone

    leaf_parent : child_for (page_pairs old (parent_for old root.page key)) key ≢ parent_for old root.page key
    leaf_parent e = omega (arith, joins_at.leaf_level, joins_at.parent_level, ap (λ (x : ℕ). level_of old x) (sym joins_at.leaf_is ∙ e))

    child_in : (1 ≤ child_for (page_pairs old (parent_for old root.page key)) key) × (child_for (page_pairs old (parent_for old root.page key)) key < index_pages_of shape)
    child_in = page_in (child_for (page_pairs old (parent_for old root.page key)) key) child_under

    parent_in : (1 ≤ parent_for old root.page key) × (parent_for old root.page key < index_pages_of shape)
    parent_in = page_in (parent_for old root.page key) parent_under

    -- it takes the pairs of the page to its right
    module _ (there : right_of (page_pairs old (parent_for old root.page key)) key ≢ 0) (right_most : length (page_pairs old (right_of (page_pairs old (parent_for old root.page key)) key)) ≤ 30) (right_small : AreSmall (page_pairs old (right_of (page_pairs old (parent_for old root.page key)) key))) (freed : Free) (after : Super) (gives : GivesPage given (right_of (page_pairs old (parent_for old root.page key)) key) freed after) where
      right_under : IsPageOfTree old root.page (right_of (page_pairs old (parent_for old root.page key)) key)
      right_under = right_page root old key root_sound lt below there

      right_facts : (2 ≤ right_of (page_pairs old (parent_for old root.page key)) key) × (right_of (page_pairs old (parent_for old root.page key)) key < next_page old) × (level_of old (right_of (page_pairs old (parent_for old root.page key)) key) ≡ 0) × (right_of (page_pairs old (parent_for old root.page key)) key ≢ leaf_for old root.page key)
      right_facts = joins_at.right there

      leaf_right : child_for (page_pairs old (parent_for old root.page key)) key ≢ right_of (page_pairs old (parent_for old root.page key)) key
      leaf_right e = right_facts.3 (sym e ∙ joins_at.leaf_is)

      parent_right : parent_for old root.page key ≢ right_of (page_pairs old (parent_for old root.page key)) key
      parent_right e = omega (arith, right_facts.2, joins_at.parent_level, ap (λ (x : ℕ). level_of old x) e)

      left_few : length (without_right (page_pairs old (parent_for old root.page key)) key) ≤ 30
      left_few = omega (arith, most, (length-right (page_pairs old (parent_for old root.page key)) key some).1)

      len0 : length (written_page 0 0 (page_pairs old (right_of (page_pairs old (parent_for old root.page key)) key))) ≡ 512
      len0 = length-written_page 0 0 (page_pairs old (right_of (page_pairs old (parent_for old root.page key)) key)) right_most (omega arith)

      len1 : length (written_page 1 0 (without_right (page_pairs old (parent_for old root.page key)) key)) ≡ 512
      len1 = length-written_page 1 0 (without_right (page_pairs old (parent_for old root.page key)) key) left_few (omega arith)

      len2 : length (free_page_bytes freed) ≡ 512
      len2 = length-free_page_bytes freed

      len3 : length (part_bytes after) ≡ 280
      len3 = front_long (right_of (page_pairs old (parent_for old root.page key)) key) freed after gives

      r_in : (1 ≤ right_of (page_pairs old (parent_for old root.page key)) key) × (right_of (page_pairs old (parent_for old root.page key)) key < index_pages_of shape)
      r_in = page_in (right_of (page_pairs old (parent_for old root.page key)) key) right_under

      are : AreIndexParts (index_pages_of shape) ((address (child_for (page_pairs old (parent_for old root.page key)) key) 0, written_page 0 0 (page_pairs old (right_of (page_pairs old (parent_for old root.page key)) key))) ∷ (address (parent_for old root.page key) 0, written_page 1 0 (without_right (page_pairs old (parent_for old root.page key)) key)) ∷ (address (right_of (page_pairs old (parent_for old root.page key)) key) 0, free_page_bytes freed) ∷ (address 0 8, part_bytes after) ∷ [])
      are = (omega (arith, len0, child_in), (omega (arith, len1, parent_in), (omega (arith, len2, r_in), (omega (arith, len3, child_in), tt))))

      apart : AllApart ((address (child_for (page_pairs old (parent_for old root.page key)) key) 0, written_page 0 0 (page_pairs old (right_of (page_pairs old (parent_for old root.page key)) key))) ∷ (address (parent_for old root.page key) 0, written_page 1 0 (without_right (page_pairs old (parent_for old root.page key)) key)) ∷ (address (right_of (page_pairs old (parent_for old root.page key)) key) 0, free_page_bytes freed) ∷ (address 0 8, part_bytes after) ∷ [])
      apart = (
        (pages_apart (child_for (page_pairs old (parent_for old root.page key)) key) (parent_for old root.page key) _ _ leaf_parent len0 len1, (pages_apart (child_for (page_pairs old (parent_for old root.page key)) key) (right_of (page_pairs old (parent_for old root.page key)) key) _ _ leaf_right len0 len2, (front_apart (child_for (page_pairs old (parent_for old root.page key)) key) _ _ len0 len3 child_in.0, tt))),
        ((pages_apart (parent_for old root.page key) (right_of (page_pairs old (parent_for old root.page key)) key) _ _ parent_right len1 len2, (front_apart (parent_for old root.page key) _ _ len1 len3 parent_in.0, tt)), ((front_apart (right_of (page_pairs old (parent_for old root.page key)) key) _ _ len2 len3 r_in.0, tt), (tt, tt))),
      )

      join_size : length (applied (joining_parts (index_pages_of shape) after slot free (child_for (page_pairs old (parent_for old root.page key)) key) (page_pairs old (right_of (page_pairs old (parent_for old root.page key)) key)) (parent_for old root.page key) (without_right (page_pairs old (parent_for old root.page key)) key) (right_of (page_pairs old (parent_for old root.page key)) key) freed) old) ≡ length old
      join_size = freed_size old (index_pages_of shape) size slot (free_slot_bytes free) eight (length-free_slot_bytes free) ((address (child_for (page_pairs old (parent_for old root.page key)) key) 0, written_page 0 0 (page_pairs old (right_of (page_pairs old (parent_for old root.page key)) key))) ∷ (address (parent_for old root.page key) 0, written_page 1 0 (without_right (page_pairs old (parent_for old root.page key)) key)) ∷ (address (right_of (page_pairs old (parent_for old root.page key)) key) 0, free_page_bytes freed) ∷ (address 0 8, part_bytes after) ∷ []) are

      join_slots : (j : ℕ) → j ≢ slot → slot_of (applied (joining_parts (index_pages_of shape) after slot free (child_for (page_pairs old (parent_for old root.page key)) key) (page_pairs old (right_of (page_pairs old (parent_for old root.page key)) key)) (parent_for old root.page key) (without_right (page_pairs old (parent_for old root.page key)) key) (right_of (page_pairs old (parent_for old root.page key)) key) freed) old) j ≡ slot_of old j
      join_slots = freed_others old (index_pages_of shape) size slot (free_slot_bytes free) eight (length-free_slot_bytes free) ((address (child_for (page_pairs old (parent_for old root.page key)) key) 0, written_page 0 0 (page_pairs old (right_of (page_pairs old (parent_for old root.page key)) key))) ∷ (address (parent_for old root.page key) 0, written_page 1 0 (without_right (page_pairs old (parent_for old root.page key)) key)) ∷ (address (right_of (page_pairs old (parent_for old root.page key)) key) 0, free_page_bytes freed) ∷ (address 0 8, part_bytes after) ∷ []) are

      join_slot : slot_of (applied (joining_parts (index_pages_of shape) after slot free (child_for (page_pairs old (parent_for old root.page key)) key) (page_pairs old (right_of (page_pairs old (parent_for old root.page key)) key)) (parent_for old root.page key) (without_right (page_pairs old (parent_for old root.page key)) key) (right_of (page_pairs old (parent_for old root.page key)) key) freed) old) slot ≡ free_slot_bytes free
      join_slot = freed_slot old (index_pages_of shape) size slot (free_slot_bytes free) eight (length-free_slot_bytes free) ((address (child_for (page_pairs old (parent_for old root.page key)) key) 0, written_page 0 0 (page_pairs old (right_of (page_pairs old (parent_for old root.page key)) key))) ∷ (address (parent_for old root.page key) 0, written_page 1 0 (without_right (page_pairs old (parent_for old root.page key)) key)) ∷ (address (right_of (page_pairs old (parent_for old root.page key)) key) 0, free_page_bytes freed) ∷ (address 0 8, part_bytes after) ∷ []) are

      join_pages : (x : ℕ) → 1 ≤ x → x < index_pages_of shape → x ≢ parent_for old root.page key → x ≢ child_for (page_pairs old (parent_for old root.page key)) key → x ≢ right_of (page_pairs old (parent_for old root.page key)) key → page_bytes (applied (joining_parts (index_pages_of shape) after slot free (child_for (page_pairs old (parent_for old root.page key)) key) (page_pairs old (right_of (page_pairs old (parent_for old root.page key)) key)) (parent_for old root.page key) (without_right (page_pairs old (parent_for old root.page key)) key) (right_of (page_pairs old (parent_for old root.page key)) key) freed) old) x ≡ page_bytes old x
      join_pages x from to a b c = freed_page old (index_pages_of shape) size slot (free_slot_bytes free) eight (length-free_slot_bytes free) ((address (child_for (page_pairs old (parent_for old root.page key)) key) 0, written_page 0 0 (page_pairs old (right_of (page_pairs old (parent_for old root.page key)) key))) ∷ (address (parent_for old root.page key) 0, written_page 1 0 (without_right (page_pairs old (parent_for old root.page key)) key)) ∷ (address (right_of (page_pairs old (parent_for old root.page key)) key) 0, free_page_bytes freed) ∷ (address 0 8, part_bytes after) ∷ []) are x to
          (pages_apart x (child_for (page_pairs old (parent_for old root.page key)) key) 512 _ b refl len0, (pages_apart x (parent_for old root.page key) 512 _ a refl len1, (pages_apart x (right_of (page_pairs old (parent_for old root.page key)) key) 512 _ c refl len2, (front_apart x 512 _ refl len3 from, tt))))

      join_mark : range (applied (joining_parts (index_pages_of shape) after slot free (child_for (page_pairs old (parent_for old root.page key)) key) (page_pairs old (right_of (page_pairs old (parent_for old root.page key)) key)) (parent_for old root.page key) (without_right (page_pairs old (parent_for old root.page key)) key) (right_of (page_pairs old (parent_for old root.page key)) key) freed) old) 0 8 ≡ range old 0 8
      join_mark = freed_mark old (index_pages_of shape) size slot (free_slot_bytes free) eight (length-free_slot_bytes free) ((address (child_for (page_pairs old (parent_for old root.page key)) key) 0, written_page 0 0 (page_pairs old (right_of (page_pairs old (parent_for old root.page key)) key))) ∷ (address (parent_for old root.page key) 0, written_page 1 0 (without_right (page_pairs old (parent_for old root.page key)) key)) ∷ (address (right_of (page_pairs old (parent_for old root.page key)) key) 0, free_page_bytes freed) ∷ (address 0 8, part_bytes after) ∷ []) are (inl (omega (arith, child_in)), (inl (omega (arith, parent_in)), (inl (omega (arith, r_in)), (inl (omega arith), tt)))) (omega (arith, child_in))

      stand : Stand ((address (child_for (page_pairs old (parent_for old root.page key)) key) 0, written_page 0 0 (page_pairs old (right_of (page_pairs old (parent_for old root.page key)) key))) ∷ (address (parent_for old root.page key) 0, written_page 1 0 (without_right (page_pairs old (parent_for old root.page key)) key)) ∷ (address (right_of (page_pairs old (parent_for old root.page key)) key) 0, free_page_bytes freed) ∷ (address 0 8, part_bytes after) ∷ []) (applied ((address (index_pages_of shape + slot / 8) (slot % 8 * 64), free_slot_bytes free) ∷ ((address (child_for (page_pairs old (parent_for old root.page key)) key) 0, written_page 0 0 (page_pairs old (right_of (page_pairs old (parent_for old root.page key)) key))) ∷ (address (parent_for old root.page key) 0, written_page 1 0 (without_right (page_pairs old (parent_for old root.page key)) key)) ∷ (address (right_of (page_pairs old (parent_for old root.page key)) key) 0, free_page_bytes freed) ∷ (address 0 8, part_bytes after) ∷ [])) old)
      stand = freed_stand old (index_pages_of shape) size slot (free_slot_bytes free) eight (length-free_slot_bytes free) ((address (child_for (page_pairs old (parent_for old root.page key)) key) 0, written_page 0 0 (page_pairs old (right_of (page_pairs old (parent_for old root.page key)) key))) ∷ (address (parent_for old root.page key) 0, written_page 1 0 (without_right (page_pairs old (parent_for old root.page key)) key)) ∷ (address (right_of (page_pairs old (parent_for old root.page key)) key) 0, free_page_bytes freed) ∷ (address 0 8, part_bytes after) ∷ []) are apart

      join_part : range (applied (joining_parts (index_pages_of shape) after slot free (child_for (page_pairs old (parent_for old root.page key)) key) (page_pairs old (right_of (page_pairs old (parent_for old root.page key)) key)) (parent_for old root.page key) (without_right (page_pairs old (parent_for old root.page key)) key) (right_of (page_pairs old (parent_for old root.page key)) key) freed) old) 8 280 ≡ part_bytes after
      join_part = ap (λ (n : ℕ). range (applied (joining_parts (index_pages_of shape) after slot free (child_for (page_pairs old (parent_for old root.page key)) key) (page_pairs old (right_of (page_pairs old (parent_for old root.page key)) key)) (parent_for old root.page key) (without_right (page_pairs old (parent_for old root.page key)) key) (right_of (page_pairs old (parent_for old root.page key)) key) freed) old) 8 n) (sym len3) ∙ stand.1.1.1.0

      join_kept : (x : ℕ) → free_page_of old x ≢ None → 2 ≤ x → x < next_page old → page_bytes (applied (joining_parts (index_pages_of shape) after slot free (child_for (page_pairs old (parent_for old root.page key)) key) (page_pairs old (right_of (page_pairs old (parent_for old root.page key)) key)) (parent_for old root.page key) (without_right (page_pairs old (parent_for old root.page key)) key) (right_of (page_pairs old (parent_for old root.page key)) key) freed) old) x ≡ page_bytes old x
      join_kept x free from to = join_pages x (omega (arith, from)) (omega (arith, to, given_most)) (not_tree x (parent_for old root.page key) free parent_under) (not_tree x (child_for (page_pairs old (parent_for old root.page key)) key) free child_under) (not_tree x (right_of (page_pairs old (parent_for old root.page key)) key) free right_under)

      join_freed : page_bytes (applied (joining_parts (index_pages_of shape) after slot free (child_for (page_pairs old (parent_for old root.page key)) key) (page_pairs old (right_of (page_pairs old (parent_for old root.page key)) key)) (parent_for old root.page key) (without_right (page_pairs old (parent_for old root.page key)) key) (right_of (page_pairs old (parent_for old root.page key)) key) freed) old) (right_of (page_pairs old (parent_for old root.page key)) key) ≡ free_page_bytes freed
      join_freed = page_stands (applied (joining_parts (index_pages_of shape) after slot free (child_for (page_pairs old (parent_for old root.page key)) key) (page_pairs old (right_of (page_pairs old (parent_for old root.page key)) key)) (parent_for old root.page key) (without_right (page_pairs old (parent_for old root.page key)) key) (right_of (page_pairs old (parent_for old root.page key)) key) freed) old) (right_of (page_pairs old (parent_for old root.page key)) key) (free_page_bytes freed) len2 stand.1.1.0

      pub join_loses : LosesKey tree root.page key old (applied (joining_parts (index_pages_of shape) after slot free (child_for (page_pairs old (parent_for old root.page key)) key) (page_pairs old (right_of (page_pairs old (parent_for old root.page key)) key)) (parent_for old root.page key) (without_right (page_pairs old (parent_for old root.page key)) key) (right_of (page_pairs old (parent_for old root.page key)) key) freed) old)
      join_loses = (
        slot,
        is,
        joined_shrinks old (index_pages_of shape) size root key slot fits sound table is (applied (joining_parts (index_pages_of shape) after slot free (child_for (page_pairs old (parent_for old root.page key)) key) (page_pairs old (right_of (page_pairs old (parent_for old root.page key)) key)) (parent_for old root.page key) (without_right (page_pairs old (parent_for old root.page key)) key) (right_of (page_pairs old (parent_for old root.page key)) key) freed) old) join_size join_slots
            (given_both old (index_pages_of shape) size few sound released.0 entries released.1 slot free given released.2 root.table key here.0 here.1 (applied (joining_parts (index_pages_of shape) after slot free (child_for (page_pairs old (parent_for old root.page key)) key) (page_pairs old (right_of (page_pairs old (parent_for old root.page key)) key)) (parent_for old root.page key) (without_right (page_pairs old (parent_for old root.page key)) key) (right_of (page_pairs old (parent_for old root.page key)) key) freed) old) join_size join_slot join_slots join_mark join_kept (right_of (page_pairs old (parent_for old root.page key)) key) freed after gives join_freed join_part right_facts.0 right_facts.1)
            below alone there right_most right_small left_few (small_right key (page_pairs old (parent_for old root.page key)) small)
            (page_stands (applied (joining_parts (index_pages_of shape) after slot free (child_for (page_pairs old (parent_for old root.page key)) key) (page_pairs old (right_of (page_pairs old (parent_for old root.page key)) key)) (parent_for old root.page key) (without_right (page_pairs old (parent_for old root.page key)) key) (right_of (page_pairs old (parent_for old root.page key)) key) freed) old) (child_for (page_pairs old (parent_for old root.page key)) key) (written_page 0 0 (page_pairs old (right_of (page_pairs old (parent_for old root.page key)) key))) len0 stand.0) (page_stands (applied (joining_parts (index_pages_of shape) after slot free (child_for (page_pairs old (parent_for old root.page key)) key) (page_pairs old (right_of (page_pairs old (parent_for old root.page key)) key)) (parent_for old root.page key) (without_right (page_pairs old (parent_for old root.page key)) key) (right_of (page_pairs old (parent_for old root.page key)) key) freed) old) (parent_for old root.page key) (written_page 1 0 (without_right (page_pairs old (parent_for old root.page key)) key)) len1 stand.1.0)
            join_pages right_under
            (given_page old (index_pages_of shape) size few sound released.0 entries released.1 slot free given released.2 root.table key here.0 here.1 (applied (joining_parts (index_pages_of shape) after slot free (child_for (page_pairs old (parent_for old root.page key)) key) (page_pairs old (right_of (page_pairs old (parent_for old root.page key)) key)) (parent_for old root.page key) (without_right (page_pairs old (parent_for old root.page key)) key) (right_of (page_pairs old (parent_for old root.page key)) key) freed) old) join_size join_slot join_slots join_mark join_kept (right_of (page_pairs old (parent_for old root.page key)) key) freed after gives join_freed join_part right_facts.0 right_facts.1),
      )

      pub join_takes : tree_removal old root.page key ≡ Some (joining_pages (index_pages_of shape) slot (child_for (page_pairs old (parent_for old root.page key)) key) (parent_for old root.page key) (right_of (page_pairs old (parent_for old root.page key)) key))
      join_takes = removal_joins old root.page key slot (index_pages_of shape + slot / 8) place is below alone_leaf (child_for (page_pairs old (parent_for old root.page key)) key) (parent_for old root.page key) (right_of (page_pairs old (parent_for old root.page key)) key) joins_at.leaf_is refl refl there

    -- or it is the last of several, and goes
    module _ (none : right_of (page_pairs old (parent_for old root.page key)) key ≡ 0) (several : 2 ≤ count_of old (parent_for old root.page key)) (freed : Free) (after : Super) (gives : GivesPage given (child_for (page_pairs old (parent_for old root.page key)) key) freed after) where
      rest_few : length (without_last (page_pairs old (parent_for old root.page key))) ≤ 30
      rest_few = omega (arith, most, length-last (page_pairs old (parent_for old root.page key)) some)

      llen1 : length (written_page 1 0 (without_last (page_pairs old (parent_for old root.page key)))) ≡ 512
      llen1 = length-written_page 1 0 (without_last (page_pairs old (parent_for old root.page key))) rest_few (omega arith)

      llen2 : length (free_page_bytes freed) ≡ 512
      llen2 = length-free_page_bytes freed

      llen3 : length (part_bytes after) ≡ 280
      llen3 = front_long (child_for (page_pairs old (parent_for old root.page key)) key) freed after gives

      leaf_two : 2 ≤ child_for (page_pairs old (parent_for old root.page key)) key
      leaf_two = omega (arith, joins_at.leaf_two, joins_at.leaf_is)

      leaf_given : child_for (page_pairs old (parent_for old root.page key)) key < next_page old
      leaf_given = omega (arith, joins_at.leaf_given, joins_at.leaf_is)

      last_are : AreIndexParts (index_pages_of shape) ((address (parent_for old root.page key) 0, written_page 1 0 (without_last (page_pairs old (parent_for old root.page key)))) ∷ (address (child_for (page_pairs old (parent_for old root.page key)) key) 0, free_page_bytes freed) ∷ (address 0 8, part_bytes after) ∷ [])
      last_are = (omega (arith, llen1, parent_in), (omega (arith, llen2, child_in), (omega (arith, llen3, child_in), tt)))

      last_apart : AllApart ((address (parent_for old root.page key) 0, written_page 1 0 (without_last (page_pairs old (parent_for old root.page key)))) ∷ (address (child_for (page_pairs old (parent_for old root.page key)) key) 0, free_page_bytes freed) ∷ (address 0 8, part_bytes after) ∷ [])
      last_apart = (
        (pages_apart (parent_for old root.page key) (child_for (page_pairs old (parent_for old root.page key)) key) _ _ (λ e. leaf_parent (sym e)) llen1 llen2, (front_apart (parent_for old root.page key) _ _ llen1 llen3 parent_in.0, tt)),
        ((front_apart (child_for (page_pairs old (parent_for old root.page key)) key) _ _ llen2 llen3 child_in.0, tt), (tt, tt)),
      )

      last_size : length (applied (leaving_parts (index_pages_of shape) after slot free (parent_for old root.page key) (without_last (page_pairs old (parent_for old root.page key))) (child_for (page_pairs old (parent_for old root.page key)) key) freed) old) ≡ length old
      last_size = freed_size old (index_pages_of shape) size slot (free_slot_bytes free) eight (length-free_slot_bytes free) ((address (parent_for old root.page key) 0, written_page 1 0 (without_last (page_pairs old (parent_for old root.page key)))) ∷ (address (child_for (page_pairs old (parent_for old root.page key)) key) 0, free_page_bytes freed) ∷ (address 0 8, part_bytes after) ∷ []) last_are

      last_slots : (j : ℕ) → j ≢ slot → slot_of (applied (leaving_parts (index_pages_of shape) after slot free (parent_for old root.page key) (without_last (page_pairs old (parent_for old root.page key))) (child_for (page_pairs old (parent_for old root.page key)) key) freed) old) j ≡ slot_of old j
      last_slots = freed_others old (index_pages_of shape) size slot (free_slot_bytes free) eight (length-free_slot_bytes free) ((address (parent_for old root.page key) 0, written_page 1 0 (without_last (page_pairs old (parent_for old root.page key)))) ∷ (address (child_for (page_pairs old (parent_for old root.page key)) key) 0, free_page_bytes freed) ∷ (address 0 8, part_bytes after) ∷ []) last_are

      last_slot : slot_of (applied (leaving_parts (index_pages_of shape) after slot free (parent_for old root.page key) (without_last (page_pairs old (parent_for old root.page key))) (child_for (page_pairs old (parent_for old root.page key)) key) freed) old) slot ≡ free_slot_bytes free
      last_slot = freed_slot old (index_pages_of shape) size slot (free_slot_bytes free) eight (length-free_slot_bytes free) ((address (parent_for old root.page key) 0, written_page 1 0 (without_last (page_pairs old (parent_for old root.page key)))) ∷ (address (child_for (page_pairs old (parent_for old root.page key)) key) 0, free_page_bytes freed) ∷ (address 0 8, part_bytes after) ∷ []) last_are

      last_pages : (x : ℕ) → 1 ≤ x → x < index_pages_of shape → x ≢ parent_for old root.page key → x ≢ child_for (page_pairs old (parent_for old root.page key)) key → page_bytes (applied (leaving_parts (index_pages_of shape) after slot free (parent_for old root.page key) (without_last (page_pairs old (parent_for old root.page key))) (child_for (page_pairs old (parent_for old root.page key)) key) freed) old) x ≡ page_bytes old x
      last_pages x from to a b = freed_page old (index_pages_of shape) size slot (free_slot_bytes free) eight (length-free_slot_bytes free) ((address (parent_for old root.page key) 0, written_page 1 0 (without_last (page_pairs old (parent_for old root.page key)))) ∷ (address (child_for (page_pairs old (parent_for old root.page key)) key) 0, free_page_bytes freed) ∷ (address 0 8, part_bytes after) ∷ []) last_are x to
          (pages_apart x (parent_for old root.page key) 512 _ a refl llen1, (pages_apart x (child_for (page_pairs old (parent_for old root.page key)) key) 512 _ b refl llen2, (front_apart x 512 _ refl llen3 from, tt)))

      last_mark : range (applied (leaving_parts (index_pages_of shape) after slot free (parent_for old root.page key) (without_last (page_pairs old (parent_for old root.page key))) (child_for (page_pairs old (parent_for old root.page key)) key) freed) old) 0 8 ≡ range old 0 8
      last_mark = freed_mark old (index_pages_of shape) size slot (free_slot_bytes free) eight (length-free_slot_bytes free) ((address (parent_for old root.page key) 0, written_page 1 0 (without_last (page_pairs old (parent_for old root.page key)))) ∷ (address (child_for (page_pairs old (parent_for old root.page key)) key) 0, free_page_bytes freed) ∷ (address 0 8, part_bytes after) ∷ []) last_are (inl (omega (arith, parent_in)), (inl (omega (arith, child_in)), (inl (omega arith), tt))) (omega (arith, child_in))

      last_stand : Stand ((address (parent_for old root.page key) 0, written_page 1 0 (without_last (page_pairs old (parent_for old root.page key)))) ∷ (address (child_for (page_pairs old (parent_for old root.page key)) key) 0, free_page_bytes freed) ∷ (address 0 8, part_bytes after) ∷ []) (applied ((address (index_pages_of shape + slot / 8) (slot % 8 * 64), free_slot_bytes free) ∷ ((address (parent_for old root.page key) 0, written_page 1 0 (without_last (page_pairs old (parent_for old root.page key)))) ∷ (address (child_for (page_pairs old (parent_for old root.page key)) key) 0, free_page_bytes freed) ∷ (address 0 8, part_bytes after) ∷ [])) old)
      last_stand = freed_stand old (index_pages_of shape) size slot (free_slot_bytes free) eight (length-free_slot_bytes free) ((address (parent_for old root.page key) 0, written_page 1 0 (without_last (page_pairs old (parent_for old root.page key)))) ∷ (address (child_for (page_pairs old (parent_for old root.page key)) key) 0, free_page_bytes freed) ∷ (address 0 8, part_bytes after) ∷ []) last_are last_apart

      last_part : range (applied (leaving_parts (index_pages_of shape) after slot free (parent_for old root.page key) (without_last (page_pairs old (parent_for old root.page key))) (child_for (page_pairs old (parent_for old root.page key)) key) freed) old) 8 280 ≡ part_bytes after
      last_part = ap (λ (n : ℕ). range (applied (leaving_parts (index_pages_of shape) after slot free (parent_for old root.page key) (without_last (page_pairs old (parent_for old root.page key))) (child_for (page_pairs old (parent_for old root.page key)) key) freed) old) 8 n) (sym llen3) ∙ last_stand.1.1.0

      last_kept : (x : ℕ) → free_page_of old x ≢ None → 2 ≤ x → x < next_page old → page_bytes (applied (leaving_parts (index_pages_of shape) after slot free (parent_for old root.page key) (without_last (page_pairs old (parent_for old root.page key))) (child_for (page_pairs old (parent_for old root.page key)) key) freed) old) x ≡ page_bytes old x
      last_kept x free from to = last_pages x (omega (arith, from)) (omega (arith, to, given_most)) (not_tree x (parent_for old root.page key) free parent_under) (not_tree x (child_for (page_pairs old (parent_for old root.page key)) key) free child_under)

      last_freed : page_bytes (applied (leaving_parts (index_pages_of shape) after slot free (parent_for old root.page key) (without_last (page_pairs old (parent_for old root.page key))) (child_for (page_pairs old (parent_for old root.page key)) key) freed) old) (child_for (page_pairs old (parent_for old root.page key)) key) ≡ free_page_bytes freed
      last_freed = page_stands (applied (leaving_parts (index_pages_of shape) after slot free (parent_for old root.page key) (without_last (page_pairs old (parent_for old root.page key))) (child_for (page_pairs old (parent_for old root.page key)) key) freed) old) (child_for (page_pairs old (parent_for old root.page key)) key) (free_page_bytes freed) llen2 last_stand.1.0

      pub leave_loses : LosesKey tree root.page key old (applied (leaving_parts (index_pages_of shape) after slot free (parent_for old root.page key) (without_last (page_pairs old (parent_for old root.page key))) (child_for (page_pairs old (parent_for old root.page key)) key) freed) old)
      leave_loses = (
        slot,
        is,
        left_shrinks old (index_pages_of shape) size root key slot fits sound table is (applied (leaving_parts (index_pages_of shape) after slot free (parent_for old root.page key) (without_last (page_pairs old (parent_for old root.page key))) (child_for (page_pairs old (parent_for old root.page key)) key) freed) old) last_size last_slots
            (given_both old (index_pages_of shape) size few sound released.0 entries released.1 slot free given released.2 root.table key here.0 here.1 (applied (leaving_parts (index_pages_of shape) after slot free (parent_for old root.page key) (without_last (page_pairs old (parent_for old root.page key))) (child_for (page_pairs old (parent_for old root.page key)) key) freed) old) last_size last_slot last_slots last_mark last_kept (child_for (page_pairs old (parent_for old root.page key)) key) freed after gives last_freed last_part leaf_two leaf_given)
            below alone none several rest_few (small_last (page_pairs old (parent_for old root.page key)) small)
            (page_stands (applied (leaving_parts (index_pages_of shape) after slot free (parent_for old root.page key) (without_last (page_pairs old (parent_for old root.page key))) (child_for (page_pairs old (parent_for old root.page key)) key) freed) old) (parent_for old root.page key) (written_page 1 0 (without_last (page_pairs old (parent_for old root.page key)))) llen1 last_stand.0)
            last_pages
            (given_page old (index_pages_of shape) size few sound released.0 entries released.1 slot free given released.2 root.table key here.0 here.1 (applied (leaving_parts (index_pages_of shape) after slot free (parent_for old root.page key) (without_last (page_pairs old (parent_for old root.page key))) (child_for (page_pairs old (parent_for old root.page key)) key) freed) old) last_size last_slot last_slots last_mark last_kept (child_for (page_pairs old (parent_for old root.page key)) key) freed after gives last_freed last_part leaf_two leaf_given),
      )

      pub leave_takes : tree_removal old root.page key ≡ Some (leaving_pages (index_pages_of shape) slot (parent_for old root.page key) (child_for (page_pairs old (parent_for old root.page key)) key))
      leave_takes = removal_leaves old root.page key slot (index_pages_of shape + slot / 8) place is below alone_leaf (child_for (page_pairs old (parent_for old root.page key)) key) (parent_for old root.page key) joins_at.leaf_is refl none several
