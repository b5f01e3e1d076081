-- The trees of all tables together: what is known of sound data, and what writes to slots leave.
use Rattle.std.proofs.Common.{◌≡◌, ℕ, ◌<◌, ◌≤◌, inl, inr, List, [], None, arith}
use Rattle.mars_base.specs.Check.{IsSingle}
use Rattle.mars_base.proofs.Checks.{excludes, one_bad}
use Rattle.record_slots.specs.Places.{page_bytes, next_page, AreGiven}
use Rattle.page_store.specs.Index.{IsTable, HasCounts, KeepsIndex, IsEmptyRoot, Extends}
use Rattle.page_store.specs.Pairs.{Rise}
use Rattle.index_pages.specs.Keys.{key_end}
use Rattle.index_pages.specs.Page.{level_of}
use Rattle.index_pages.specs.Slots.{index_check}
use Rattle.index_pages.proofs.Extending.{empty_root, front_extends}
use Rattle.index_pages.proofs.Joining.{named_kept}
use Rattle.index_pages.proofs.Tabled.{IsWhole, whole_seen, whole_passes, whole_counts, table_own, front_rests, index_single}
use Rattle.btree_laws.proofs.Fresh.{fresh_tree}
use Rattle.btree_laws.specs.Resting.{sound_tree_rests, sound_tree_given}
use Rattle.btree_laws.specs.Sound.{IsSoundTree, sound_seen, sound_passes, tree_single}
use Rattle.btree_laws.specs.Tree.{pairs_of_tree, IsPageOfTree}
use Rattle.btree_laws.specs.TreeFacts.{sound_tree_rises, under_own}
use Rattle.btree_laws.specs.declared.root.Root.{Root}
use Rattle.btree_pages.specs.Index.{tree_of, AreSoundTrees, IsFirstDamagedOfTrees}

-- what sound data is made of
pub whole_of : (bytes : List ℕ) → AreSoundTrees bytes → IsWhole 1 tree_of bytes
whole_of bytes sound = whole_seen 1 tree_of bytes sound

-- the tree of a table is sound
pub table_sound : (bytes : List ℕ) (root : Root) → AreSoundTrees bytes → IsTable bytes root.table root.page → IsSoundTree root bytes
table_sound bytes root sound named =
    let w = whole_seen 1 tree_of bytes sound in
    sound_seen root bytes (table_own 1 bytes root.table root.page w.front named) (w.tables root.table root.page named)

pub page_given : (bytes : List ℕ) (root : Root) (x : ℕ) → IsSoundTree root bytes → IsPageOfTree bytes root.page x → x < next_page bytes
page_given bytes root x sound u = (under_own root (level_of bytes root.page) bytes x root.page 0 key_end sound.0 sound.2 u).1

pub trees_rise : (bytes : List ℕ) (table root : ℕ) → AreSoundTrees bytes → IsTable bytes table root → Rise 0 key_end (pairs_of_tree bytes root)
trees_rise bytes table root sound named = (let r : Root = record { page = root; table = table } in sound_tree_rises r bytes (table_sound bytes r sound named))

pub trees_given : (bytes : List ℕ) (table root : ℕ) → AreSoundTrees bytes → IsTable bytes table root → AreGiven bytes table (pairs_of_tree bytes root)
trees_given bytes table root sound named = (let r : Root = record { page = root; table = table } in sound_tree_given r bytes (table_sound bytes r sound named))

pub trees_count : (bytes : List ℕ) → AreSoundTrees bytes → HasCounts bytes
trees_count bytes sound = whole_counts 1 tree_of bytes (whole_of bytes sound)

module _ (old new : List ℕ) (sound : AreSoundTrees old) (keeps : KeepsIndex old new) where
  -- writes to slots leave the tree of each table as it is
  table_rests : (table root : ℕ) → IsTable old table root
      → IsSoundTree (record { page = root; table = table }) new × (pairs_of_tree new root ≡ pairs_of_tree old root) × (level_of new root ≡ level_of old root)
  table_rests table root named =
      let w = whole_of old sound in
      let t = table_sound old (record { page = root; table = table }) sound named in
      sound_tree_rests (record { page = root; table = table }) old new t (front_rests 1 tree_of old new w keeps).keeps
      (λ x u. keeps.pages x (omega (arith, page_given old (record { page = root; table = table }) x t u, w.front.pages)))

  pub trees_rest : AreSoundTrees new × ((table root : ℕ) → IsTable old table root → (pairs_of_tree new root ≡ pairs_of_tree old root) × (level_of new root ≡ level_of old root))
  trees_rest =
      let w = whole_of old sound in
      let f = front_rests 1 tree_of old new w keeps in (
        whole_passes 1 tree_of new (record {
          front = f.front;
          slots = f.slots;
          pages = f.pages;
          tables = λ table root named. sound_passes (record { page = root; table = table }) new (table_rests table root (named_kept old new f.tables table root named)).0;
        }),
        λ table root named. let r = table_rests table root named in (r.1, r.2),
      )

module _ (old new : List ℕ) (sound : AreSoundTrees old) (x : Extends old new) where
  -- the tree of a table that was there, in data with further tables
  tree_extends : (table root : ℕ) → IsTable old table root
      → IsSoundTree (record { page = root; table = table }) new × (pairs_of_tree new root ≡ pairs_of_tree old root) × (level_of new root ≡ level_of old root)
  tree_extends table root named =
      let t = table_sound old (record { page = root; table = table }) sound named in
      sound_tree_rests (record { page = root; table = table }) old new t (front_extends 1 tree_of old new (whole_of old sound) x).keeps
      (λ q u. let own = under_own (record { page = root; table = table }) (level_of old root) old q root 0 key_end t.0 t.2 u in x.pages q own.0 own.1)

  -- and that of a table with an empty root
  tree_empty : (table root : ℕ) → IsTable new table root → IsEmptyRoot (page_bytes new root) → IsSoundTree (record { page = root; table = table }) new × (pairs_of_tree new root ≡ []) × (level_of new root ≡ 0)
  tree_empty table root named is =
      let f = front_extends 1 tree_of old new (whole_of old sound) x in
      let said = empty_root (page_bytes new root) is in
      let fresh = fresh_tree (record { page = root; table = table }) new (table_own 1 new table root f.front named) said.0 said.1 said.2 said.3 in
      (fresh.0, fresh.1, said.1)

  pub trees_extend : AreSoundTrees new × ((table root : ℕ) → IsTable old table root → (pairs_of_tree new root ≡ pairs_of_tree old root) × (level_of new root ≡ level_of old root))
      × ((table root : ℕ) → IsTable new table root → next_page old ≤ root → IsEmptyRoot (page_bytes new root) → (pairs_of_tree new root ≡ []) × (level_of new root ≡ 0))
  trees_extend =
      let f = front_extends 1 tree_of old new (whole_of old sound) x in (
        whole_passes 1 tree_of new (record {
          front = f.front;
          slots = f.slots;
          pages = f.pages;
          tables = λ table root named. sound_passes (record { page = root; table = table }) new (sound_of table root named);
        }),
        λ table root named. let r = tree_extends table root named in (r.1, r.2),
        λ table root named later is. let r = tree_empty table root named is in (r.1, r.2),
      )
    where
      sound_of : (table root : ℕ) → IsTable new table root → IsSoundTree (record { page = root; table = table }) new
      sound_of table root named = elim (x.named table root named) [ inl was ↦ (tree_extends table root was).0 | inr fresh ↦ (tree_empty table root named fresh.1).0 ]

trees_single : (bytes : List ℕ) → IsSingle (index_check 1 tree_of bytes)
trees_single bytes = index_single 1 tree_of bytes (λ root table. tree_single (record { page = root; table = table }) bytes)

-- no page of sound data fails, and at most one is the first that does
pub trees_excluded : (bytes : List ℕ) (bad : ℕ) → IsFirstDamagedOfTrees bytes bad → AreSoundTrees bytes → ⊥
trees_excluded bytes bad fails sound = excludes (index_check 1 tree_of bytes) (trees_single bytes) bad fails sound

pub trees_first : (bytes : List ℕ) (bad other : ℕ) → IsFirstDamagedOfTrees bytes bad → IsFirstDamagedOfTrees bytes other → bad ≡ other
trees_first bytes bad other fails fails' = one_bad (index_check 1 tree_of bytes) (trees_single bytes) bad other fails fails'
