-- What the change of one tree leaves of the others, and of the pages that are due.
use Rattle.std.proofs.Common.{◌≡◌, ◌≢◌, ℕ, false, inl, inr, List, Some, None, refl, sym, ◌∙◌, subst, arith}
use Rattle.std.specs.Prelude.{nat_eq, slice_index}
use Rattle.std.proofs.lemmas.Bool.{cases_eq, cases_lt, ne_eqb}
use Rattle.record_slots.specs.Places.{page_bytes, tables_of, free_pages, free_page_of, page_due, IsSuper}
use Rattle.page_store.specs.Index.{IsTable, IsUntouched}
use Rattle.index_pages.specs.Page.{kind_of, kind_said, level_of}
use Rattle.index_pages.specs.Ways.{Keeps}
use Rattle.index_pages.proofs.Joining.{named_kept}
use Rattle.index_pages.proofs.Released.{free_kind, kept_not_due}
use Rattle.index_pages.proofs.Tabled.{whole_passes, roots_apart}
use Rattle.index_pages.proofs.Taken.{FreeSlots, FreePages, due_free, due_next}
use Rattle.btree_laws.proofs.Belonging.{tree_stays_same}
use Rattle.btree_laws.proofs.Differing.{trees_apart}
use Rattle.btree_laws.proofs.Moving.{other_page_apart}
use Rattle.btree_laws.specs.Resting.{sound_tree_rests}
use Rattle.btree_laws.specs.Sound.{IsSoundTree, sound_passes}
use Rattle.btree_laws.specs.Tree.{pairs_of_tree, IsPageOfTree}
use Rattle.btree_laws.specs.declared.root.Root.{Root}
use Rattle.btree_pages.specs.Index.{tree, tree_of, AreSoundTrees}
use Rattle.btree_pages.specs.Trees.{whole_of, table_sound, page_given}

-- a page of a tree is not free, and it is not due
pub free_apart : (bytes : List ℕ) (root : Root) (x : ℕ) → IsSoundTree root bytes → IsPageOfTree bytes root.page x → free_page_of bytes x ≢ None → ⊥
free_apart bytes root x sound u free =
    let is = free_kind bytes x free in
    other_page_apart root bytes x sound (λ e. omega (arith, is, e)) (λ e. omega (arith, is, e)) u

pub due_apart : (bytes : List ℕ) (root : Root) (x i : ℕ) → FreePages bytes → IsSoundTree root bytes → IsPageOfTree bytes root.page x → x ≢ page_due bytes i
due_apart bytes root x i list sound u = kept_not_due bytes x i list (page_given bytes root x sound u) (free_apart bytes root x sound u)

-- a page of one table's tree is not one of another's
pub tables_apart : (bytes : List ℕ) (one two : Root) (x : ℕ) → AreSoundTrees bytes → IsTable bytes one.table one.page → IsTable bytes two.table two.page → one.page ≢ two.page
    → IsPageOfTree bytes one.page x → IsPageOfTree bytes two.page x → ⊥
tables_apart bytes one two x sound named named' differ u v =
    let w = whole_of bytes sound in
    let tables : one.table ≢ two.table = λ same. differ (root_is same) in
    trees_apart bytes one two tables x differ (table_sound bytes one sound named) (table_sound bytes two sound named') u v
  where
    root_is : one.table ≡ two.table → one.page ≡ two.page
    root_is same = (let e : Some one.page ≡ Some two.page = sym named ∙ subst (λ (t : ℕ). IsTable bytes t two.page) (sym same) named' in cc)

-- One tree has changed, and the trees of all other tables rest in their pages: the data is sound with it, and these are untouched.
module _ (old new : List ℕ) (root : Root) (sound : AreSoundTrees old) (named : IsTable old root.table root.page) (front : IsSuper 1 new) (slots : FreeSlots new) (pages : FreePages new)
    (tables : tables_of new ≡ tables_of old) (changed : IsSoundTree root new)
    (rests : (other : Root) → IsTable old other.table other.page → other.page ≢ root.page
    → IsSoundTree other new × (pairs_of_tree new other.page ≡ pairs_of_tree old other.page) × (level_of new other.page ≡ level_of old other.page))
    (kept : (other : Root) → IsTable old other.table other.page → other.page ≢ root.page → (x : ℕ) → IsPageOfTree old other.page x → page_bytes new x ≡ page_bytes old x) where
  pub all_sound : AreSoundTrees new
  all_sound = whole_passes 1 tree_of new (record {
    front = front;
    slots = slots;
    pages = pages;
    tables = λ table page is.
        let was : IsTable old table page = named_kept old new tables table page is in
        elim (cases_eq page root.page) [
          | inl same ↦
              let one : table ≡ root.table = roots_apart 1 old table root.table root.page (whole_of old sound).front (subst (λ (p : ℕ). IsTable old table p) same was) named in
              subst (λ (p : ℕ). tree_of new p table None) (sym same) (subst (λ (t : ℕ). tree_of new root.page t None) (sym one) (sound_passes root new changed))
          | inr differ ↦ sound_passes (record { page = page; table = table }) new (rests (record { page = page; table = table }) was differ).0
        ];
  })

  pub rest_untouched : (table other : ℕ) → IsTable old table other → other ≢ root.page → IsUntouched tree other old new
  rest_untouched table other is differ =
      let r = rests (record { page = other; table = table }) is differ in
      let t = table_sound old (record { page = other; table = table }) sound is in
      record {
        pairs = r.1;
        level = r.2;
        pages = λ x u. (
          tree_stays_same (record { page = other; table = table }) old new x t (kept (record { page = other; table = table }) is differ) r.2 u,
          kept (record { page = other; table = table }) is differ x u,
        );
      }

-- They rest in their pages where all that they have given out is kept.
module _ (old new : List ℕ) (root : Root) (sound : AreSoundTrees old) (named : IsTable old root.table root.page) (front : IsSuper 1 new) (slots : FreeSlots new) (pages : FreePages new)
    (tables : tables_of new ≡ tables_of old) (keeps : Keeps old new) (changed : IsSoundTree root new)
    (kept : (other : Root) → IsTable old other.table other.page → other.page ≢ root.page → (x : ℕ) → IsPageOfTree old other.page x → page_bytes new x ≡ page_bytes old x) where
  other_rests : (other : Root) → IsTable old other.table other.page → other.page ≢ root.page
      → IsSoundTree other new × (pairs_of_tree new other.page ≡ pairs_of_tree old other.page) × (level_of new other.page ≡ level_of old other.page)
  other_rests other is differ = sound_tree_rests other old new (table_sound old other sound is) keeps (kept other is differ)

  pub one_changed : AreSoundTrees new
  one_changed = all_sound old new root sound named front slots pages tables changed other_rests kept

  pub others_untouched : (table other : ℕ) → IsTable old table other → other ≢ root.page → IsUntouched tree other old new
  others_untouched = rest_untouched old new root sound named front slots pages tables changed other_rests kept
