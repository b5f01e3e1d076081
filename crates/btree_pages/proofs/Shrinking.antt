-- Data in which one tree has lost a pair, whose slot is free now: it is sound, and the trees of all other tables are untouched.
use Rattle.std.proofs.Common.{◌≡◌, ◌≢◌, ℕ, ◌<◌, ◌≤◌, ◌⊎◌, Bool, true, false, inl, inr, List, [], ◌∷◌, length, Option, Some, None, refl, sym, ◌∙◌, subst, arith}
use Rattle.std.specs.Prelude.{IsSome}
use Rattle.std.proofs.lemmas.Bool.{cases_eq, cases_lt, false≢true}
use Rattle.mars_base.specs.Check.{pass}
use Rattle.record_slots.specs.Slots.{slot_said}
use Rattle.record_slots.specs.Places.{page_bytes, slot_of, next_slot, next_page, version_of, tables_of, IsSuper, IsOfKey, Carries, AreGiven}
use Rattle.record_slots.specs.declared.slot.Slot.{Slot}
use Rattle.record_slots.specs.declared.slot.Slot.TheVariants.{Absent, Present}
use Rattle.page_store.specs.Index.{IsTable, HasCounts, IsUntouched, IsFreePage}
use Rattle.page_store.specs.Pairs.{Pair, Rise, found}
use Rattle.page_store.specs.Removes.{FreesSlot, FreesPage, KeepsFreePages, Shrinks}
use Rattle.index_pages.specs.Keys.{key_end}
use Rattle.index_pages.specs.Page.{count_said, level_of}
use Rattle.index_pages.proofs.Carrying.{carries_on}
use Rattle.index_pages.proofs.Rising.{found-above}
use Rattle.index_pages.proofs.Tabled.{whole_counts}
use Rattle.index_pages.proofs.Taken.{FreeSlots, FreePages}
use Rattle.index_pages.proofs.Freeing.{found_given}
use Rattle.btree_laws.proofs.Moving.{sound_tree_moved}
use Rattle.btree_laws.proofs.Staying.{StaysLast, last_seen, last_is, last_kept, leaf_page, parent_page}
use Rattle.btree_laws.specs.Descent.{leaf_for}
use Rattle.btree_laws.specs.Removals.{Lacks, parent_for, stays_last}
use Rattle.btree_laws.specs.Resting.{sound_tree_given}
use Rattle.btree_laws.specs.Sound.{IsSoundTree}
use Rattle.btree_laws.specs.Tree.{pairs_of_tree, IsPageOfTree}
use Rattle.btree_laws.specs.TreeFacts.{sound_tree_rises}
use Rattle.btree_laws.specs.declared.root.Root.{Root}
use Rattle.btree_pages.specs.Index.{tree, tree_removal, AreSoundTrees}
use Rattle.btree_pages.specs.Trees.{table_sound}
use Rattle.btree_pages.proofs.Others.{all_sound, rest_untouched}

-- a slot is one of a single table
one_table : (said : Option Slot) (a b j k : ℕ) → IsOfKey a j said → IsOfKey b k said → a ≡ b
one_table None a b j k x y = absurd x
one_table (Some (Absent t n)) a b j k x y = sym x.0 ∙ y.0
one_table (Some (Present t n value)) a b j k x y = sym x.0 ∙ y.0

carries_table : (bytes : List ℕ) (a b j k slot : ℕ) → Carries bytes a (j, slot) → Carries bytes b (k, slot) → a ≡ b
unfolding Carries
carries_table bytes a b j k slot x y = one_table (slot_said (slot_of bytes slot)) a b j k x y

-- the pair stays exactly if there is no action that takes it out
none_stays : (bytes : List ℕ) (root key : ℕ) → tree_removal bytes root key ≡ None → stays_last bytes root key ≡ true
none_stays bytes root key none = go (stays_last bytes root key) refl
  where
    go : (b : Bool) → stays_last bytes root key ≡ b → stays_last bytes root key ≡ true
    go true is = is
    go false is = let bad = rw is at none in absurd (cc)

pub stays_none : (bytes : List ℕ) (root key : ℕ) → stays_last bytes root key ≡ true → tree_removal bytes root key ≡ None
stays_none bytes root key is = rw is refl

-- a key that is found is one of 64 bits
found_small : (ps : List Pair) (key : ℕ) → Rise 0 key_end ps → IsSome (found ps key) → key < key_end
found_small ps key rises some = elim (cases_lt key key_end) [
  | inl less ↦ less
  | inr more ↦ absurd (none_not (found ps key) (found-above 0 key_end key ps rises (omega (arith, more))) some)
]
  where
    none_not : (o : Option ℕ) → o ≡ None → IsSome o → ⊥
    none_not None e s = false≢true s
    none_not (Some n) e s = absurd (cc)

-- what the super page and both lists say of the counts
pub counts_of : (bytes : List ℕ) → IsSuper 1 bytes → FreeSlots bytes → FreePages bytes → HasCounts bytes
counts_of bytes front slots pages = whole_counts 1 (λ b root table. pass) bytes (record { front = front; slots = slots; pages = pages; tables = λ table root is. tt })

module _ (old new : List ℕ) (root : Root) (key slot : ℕ) (sound : AreSoundTrees old) (named : IsTable old root.table root.page) (is : found (pairs_of_tree old root.page) key ≡ Some slot)
    (size : length new ≡ length old) (version : version_of new ≡ version_of old) (tables : tables_of new ≡ tables_of old)
    (front : IsSuper 1 new) (slots : FreeSlots new) (pages : FreePages new) (freed : FreesSlot slot old new) (next_slots : next_slot new ≡ next_slot old) (next_pages : next_page new ≡ next_page old)
    (freed_page : KeepsFreePages old new ⊎ ((page : ℕ) × IsPageOfTree old root.page page × FreesPage page old new))
    (others : (j : ℕ) → j ≢ slot → slot_of new j ≡ slot_of old j) (lacks : Lacks root old new key)
    (kept : (other : Root) → IsTable old other.table other.page → other.page ≢ root.page → (x : ℕ) → IsPageOfTree old other.page x → page_bytes new x ≡ page_bytes old x)
    (still : (x : ℕ) → IsPageOfTree old root.page x → IsPageOfTree new root.page x ⊎ IsFreePage new x) (before : (x : ℕ) → IsPageOfTree new root.page x → IsPageOfTree old root.page x)
    (last : (one : ℕ) → one < key_end → IsSome (found (pairs_of_tree new root.page) one) → StaysLast old root.page one → StaysLast new root.page one) where
  here : (slot < next_slot old) × Carries old root.table (key, slot)
  here =
      let t = table_sound old root sound named in
      found_given old root.table key slot (pairs_of_tree old root.page) is (sound_tree_given root old t)

  given_elsewhere : (table : ℕ) (ps : List Pair) → table ≢ root.table → AreGiven old table ps → AreGiven new table ps
  given_elsewhere table [] differ g = tt
  given_elsewhere table (p ∷ ps) differ g =
      let other : p.1 ≢ slot = λ e. differ (carries_table old table root.table p.0 key slot (subst (λ (s : ℕ). Carries old table (p.0, s)) e g.1) here.1) in
      (omega (arith, g.0, next_slots), carries_on old new table p (others p.1 other) g.1, given_elsewhere table ps differ g.2)

  other_moved : (other : Root) → IsTable old other.table other.page → other.page ≢ root.page
      → IsSoundTree other new × (pairs_of_tree new other.page ≡ pairs_of_tree old other.page) × (level_of new other.page ≡ level_of old other.page)
  other_moved other there differ =
      let t = table_sound old other sound there in
      let tables_differ : other.table ≢ root.table = λ same. differ (root_is same) in
      sound_tree_moved other old new t (omega (arith, next_pages)) (kept other there differ)
      (given_elsewhere other.table (pairs_of_tree old other.page) tables_differ (sound_tree_given other old t))
    where
      root_is : other.table ≡ root.table → other.page ≡ root.page
      root_is same = (let e : Some other.page ≡ Some root.page = sym there ∙ subst (λ (t : ℕ). IsTable old t root.page) (sym same) named in cc)

  sound_now : AreSoundTrees new
  sound_now = all_sound old new root sound named front slots pages tables lacks.sound other_moved kept

  untouched : (table other : ℕ) → IsTable old table other → other ≢ root.page → IsUntouched tree other old new
  untouched = rest_untouched old new root sound named front slots pages tables lacks.sound other_moved kept

  -- what stays in the tree of another table
  last_elsewhere : (other : Root) → IsTable old other.table other.page → other.page ≢ root.page → (one : ℕ) → one < key_end → StaysLast old other.page one → StaysLast new other.page one
  last_elsewhere other there differ one lt s =
      let t = table_sound old other sound there in
      let r = other_moved other there differ in
      let same = kept other there differ in
      last_kept other old new one t lt r.2 (λ x u high. same x u) (same (parent_for old other.page one) (parent_page other old one t lt s.below)) s.below
      (subst (λ (b : List ℕ). count_said b ≤ 1) (sym (same (leaf_for old other.page one) (leaf_page other old one t lt))) s.alone) s

  last_anywhere : (table other one : ℕ) → IsTable old table other → IsSome (found (pairs_of_tree new other) one) → tree_removal old other one ≡ None → tree_removal new other one ≡ None
  last_anywhere table other one there some none =
      let s = last_seen old other one (none_stays old other one none) in
      elim (cases_eq other root.page) [
        | inl same ↦
            let some' : IsSome (found (pairs_of_tree new root.page) one) = subst (λ (p : ℕ). IsSome (found (pairs_of_tree new p) one)) same some in
            let lt = found_small (pairs_of_tree new root.page) one (sound_tree_rises root new lacks.sound) some' in
            stays_none new other one (last_is new other one (subst (λ (p : ℕ). StaysLast new p one) (sym same) (last one lt some' (subst (λ (p : ℕ). StaysLast old p one) same s))))
        | inr differ ↦
            let r = other_moved (record { page = other; table = table }) there differ in
            let lt = found_small (pairs_of_tree new other) one (sound_tree_rises (record { page = other; table = table }) new r.0) some in
            stays_none new other one (last_is new other one (last_elsewhere (record { page = other; table = table }) there differ one lt s))
      ]

  pub shrinks : Shrinks tree root.page key slot old new
  shrinks = record {
    sound = sound_now;
    size = size;
    version = version;
    tables = tables;
    others = untouched;
    pairs = lacks.pairs;
    slots = others;
    freed = freed;
    next_slot_same = next_slots;
    next_page_same = next_pages;
    freed_page = freed_page;
    kept = still;
    named = before;
    levels = lacks.levels;
    last = last_anywhere;
  }
