-- The tests of a tree, step by step.
use Rattle.std.proofs.Common.{◌≡◌, ◌≢◌, ◌↔◌, ℕ, zero, suc, ◌+◌, ◌-◌, ◌<◌, ◌≤◌, inl, inr, List, ◌∷◌, Option, Some, None, Result, Ok, Err, refl, sym, ◌∙◌, ap, subst, arith}
use Rattle.record_slots.specs.Places.{next_page, page_bytes}
use Rattle.record_slots.specs.Super.{SaysSuper}
use Rattle.record_slots.specs.declared.super_page.Super.{Super}
use Rattle.btree_pages.specs.Checked.{IsFrontOf}
use Rattle.page_store.specs.Pairs.{Pair, Rise}
use Rattle.page_store.specs.declared.index_fault.CheckFault.{CheckFault}
use Rattle.page_store.specs.declared.index_fault.CheckFault.TheVariants.{Damaged, Media, Dead, NoMemory}
use Rattle.index_pages.specs.Keys.{key_end}
use Rattle.index_pages.specs.Page.{pairs_from, pair_said, pairs_said, page_pairs, kind_said, level_said, level_of, count_said, link_said}
use Rattle.index_pages.proofs.Reading.{from_first, from_step, from_end}
use Rattle.index_pages.specs.Slots.{slot_check, IsVerdict}
use Rattle.mars_base.specs.Check.{each}
use Rattle.mars_base.proofs.Checks.{both_on, each_on}
use Rattle.index_pages.specs.Pieces.{joined}
use Rattle.btree_laws.specs.Tree.{pieces_with, pairs_under, AreChildren, IsInner, IsLeafPage, children_check, next_low, tree_check, tree_from}
use Rattle.btree_pages.specs.Node.{IsNode}
use Rattle.btree_laws.specs.declared.root.Root.{Root}

-- at first all pairs are left
pub whole_left : (page : List ℕ) (n : ℕ) → n ≡ count_said page → pairs_said page ≡ pairs_from page 0 (n - 0)
whole_left page n is = from_first page ∙ ap (λ (m : ℕ). pairs_from page 0 m) (let e : count_said page ≡ n - 0 = omega (arith, is) in e)

pub first_said : (page : List ℕ) (n low : ℕ) → n ≡ count_said page → 1 ≤ n → next_low (pairs_said page) low ≡ (pair_said page 0).0
first_said page n low is some = ap (λ (ps : List Pair). next_low ps low) (whole_left page n is ∙ from_step page 0 n (omega (arith, some)))

-- A test of all pairs that has come to pair i: what is left decides.
module _ (page : List ℕ) (i n : ℕ) (All : Type 0) where
  next_left : i < n → pairs_from page i (n - i) ≡ pair_said page i ∷ pairs_from page (i + 1) (n - (i + 1))
  next_left lt = from_step page i n lt ∙ ap (λ (j : ℕ). pair_said page i ∷ pairs_from page j (n - j)) (let e : suc i ≡ i + 1 = omega arith in e)

  module _ (least high : ℕ) (left : Rise least high (pairs_from page i (n - i)) ↔ All) where
    pub rise_step : i < n → least ≤ (pair_said page i).0 → Rise (suc (pair_said page i).0) high (pairs_from page (i + 1) (n - (i + 1))) ↔ All
    rise_step lt le = (
      λ r. left.0 (subst (λ (ps : List Pair). Rise least high ps) (sym (next_left lt)) (le, r)),
      λ all. (subst (λ (ps : List Pair). Rise least high ps) (next_left lt) (left.1 all)).1,
    )

    pub rise_not : i < n → ¬ (least ≤ (pair_said page i).0) → ¬ All
    rise_not lt not all = not (subst (λ (ps : List Pair). Rise least high ps) (next_left lt) (left.1 all)).0

    pub rise_end : n ≤ i → (least ≤ high) ↔ All
    rise_end le = (
      λ r. left.0 (subst (λ (ps : List Pair). Rise least high ps) (sym (from_end page i n le)) r),
      λ all. subst (λ (ps : List Pair). Rise least high ps) (from_end page i n le) (left.1 all),
    )

  module _ (pages : ℕ) (left : AreChildren pages (pairs_from page i (n - i)) ↔ All) where
    pub named_step : i < n → 2 ≤ (pair_said page i).1 → (pair_said page i).1 < pages → AreChildren pages (pairs_from page (i + 1) (n - (i + 1))) ↔ All
    named_step lt two given = (
      λ r. left.0 (subst (λ (ps : List Pair). AreChildren pages ps) (sym (next_left lt)) ((two, given), r)),
      λ all. (subst (λ (ps : List Pair). AreChildren pages ps) (next_left lt) (left.1 all)).1,
    )

    pub named_here : i < n → All → (2 ≤ (pair_said page i).1) × ((pair_said page i).1 < pages)
    named_here lt all = (subst (λ (ps : List Pair). AreChildren pages ps) (next_left lt) (left.1 all)).0

    pub named_end : n ≤ i → All
    named_end le = left.0 (subst (λ (ps : List Pair). AreChildren pages ps) (sym (from_end page i n le)) tt)

-- the children are named exactly when they are below the next page
named_children : (bytes : List ℕ) (pages : ℕ) (es : List Pair) → pages ≡ next_page bytes → AreChildren pages es ↔ AreChildren (next_page bytes) es
named_children bytes pages es is = (λ are. subst (λ (n : ℕ). AreChildren n es) is are, λ are. subst (λ (n : ℕ). AreChildren n es) (sym is) are)

-- Of all pairs of a leaf these are left: their verdict is that of all.
abbrev pub SlotsLeft : List ℕ → ℕ → ℕ → List Pair → List Pair → Type 0
SlotsLeft bytes table page pairs left = (verdict : Option ℕ) → each (slot_check bytes table page) left verdict → each (slot_check bytes table page) pairs verdict

module _ (bytes : List ℕ) (table page : ℕ) (pairs : List Pair) (p : Pair) (rest : List Pair) (left : SlotsLeft bytes table page pairs (p ∷ rest)) where
  pub slots_step : (let r : Result (Unit {0}) CheckFault = Ok tt in IsVerdict (slot_check bytes table page p) r) → SlotsLeft bytes table page pairs rest
  slots_step well = λ verdict told. left verdict (each_on (slot_check bytes table page) p rest well verdict told)

  pub slots_fail : (fault : CheckFault) → (let r : Result (Unit {0}) CheckFault = Err fault in IsVerdict (slot_check bytes table page p) r) → (let s : Result (Unit {0}) CheckFault = Err fault in IsVerdict (each (slot_check bytes table page) pairs) s)
  slots_fail (Damaged bad) f = left (Some bad) (inl f)
  slots_fail Media f = tt
  slots_fail Dead f = tt
  slots_fail NoMemory f = tt

-- the same for the children of a page
abbrev pub ChildrenLeft : Root → ℕ → List ℕ → List Pair → List Pair → ℕ → Type 0
ChildrenLeft root l bytes all left high = (verdict : Option ℕ) → children_check (tree_from root l bytes) left high verdict → children_check (tree_from root l bytes) all high verdict

module _ (root : Root) (l : ℕ) (bytes : List ℕ) (all : List Pair) (e : Pair) (rest : List Pair) (high : ℕ) (left : ChildrenLeft root l bytes all (e ∷ rest) high) where
  pub children_step : (let r : Result (Unit {0}) CheckFault = Ok tt in IsVerdict (tree_from root l bytes e.1 e.0 (next_low rest high)) r) → ChildrenLeft root l bytes all rest high
  children_step well = λ verdict told. left verdict (both_on (tree_from root l bytes e.1 e.0 (next_low rest high)) (children_check (tree_from root l bytes) rest high) well verdict told)

  pub children_fail : (fault : CheckFault) → (let r : Result (Unit {0}) CheckFault = Err fault in IsVerdict (tree_from root l bytes e.1 e.0 (next_low rest high)) r)
      → (let s : Result (Unit {0}) CheckFault = Err fault in IsVerdict (children_check (tree_from root l bytes) all high) s)
  children_fail (Damaged bad) f = left (Some bad) (inl f)
  children_fail Media f = tt
  children_fail Dead f = tt
  children_fail NoMemory f = tt

-- the pairs under a page that is no leaf
pub under_inner : (l : ℕ) (bytes : List ℕ) (page : ℕ) → l ≢ 0 → pairs_under l bytes page ≡ joined (pieces_with (pairs_under (l - 1) bytes) (page_pairs bytes page))
under_inner zero bytes page some = absurd (some refl)
under_inner (suc l) bytes page some = ap (λ (n : ℕ). joined (pieces_with (pairs_under n bytes) (page_pairs bytes page))) (let e : l ≡ suc l - 1 = omega arith in e)

-- a page's own tests, once its bytes were read
module _ (root : Root) (bytes buf : List ℕ) (page low high : ℕ) (is : buf ≡ page_bytes bytes page) where
  leaf_node : IsLeafPage root.page bytes page low high → IsNode buf
  leaf_node t = subst (λ (b : List ℕ). IsNode b) (sym is) (record { form = inl (t.kind, t.level); link = t.link; most = t.most })

  inner_node : (l : ℕ) → suc l ≤ 7 → IsInner AreChildren bytes (suc l) page low → IsNode buf
  inner_node l most t = subst (λ (b : List ℕ). IsNode b) (sym is) (record {
    form = inr (t.kind, omega (arith, t.level_is), omega (arith, t.level_is), t.some);
    link = t.link;
    most = t.most;
  })

  -- it is not a page of the tree
  pub other_page : (l : ℕ) → l ≤ 7 → ¬ IsNode buf → tree_from root l bytes page low high (Some page)
  other_page zero most other = inl ((λ t. other (leaf_node t)), refl)
  other_page (suc l) most other = inl ((λ t. other (inner_node l most t)), refl)

  -- it has another level
  pub other_level : (l : ℕ) → level_said buf ≢ l → tree_from root l bytes page low high (Some page)
  other_level zero other = inl ((λ t. other (ap level_said is ∙ t.level)), refl)
  other_level (suc l) other = inl ((λ t. other (ap level_said is ∙ t.level_is)), refl)

  module _ (node : IsNode buf) where
    leaf_tests : level_said buf ≡ 0 → (page ≢ root.page → 1 ≤ count_said buf) × Rise low high (pairs_said buf) → IsLeafPage root.page bytes page low high
    leaf_tests level tests =
        let kind : kind_said buf ≡ 1 = elim node.form [ inl f ↦ f.0 | inr f ↦ absurd (omega (arith, f.1, level)) ] in
        record {
          kind = ap kind_said (sym is) ∙ kind;
          level = ap level_said (sym is) ∙ level;
          link = ap link_said (sym is) ∙ node.link;
          most = subst (λ (b : List ℕ). count_said b ≤ 30) is node.most;
          some = subst (λ (b : List ℕ). page ≢ root.page → 1 ≤ count_said b) is tests.0;
          rises = subst (λ (b : List ℕ). Rise low high (pairs_said b)) is tests.1;
        }

    pub leaf_fails : (l : ℕ) → l ≡ 0 → ¬ ((page ≢ root.page → 1 ≤ count_said buf) × Rise low high (pairs_said buf)) → tree_from root l bytes page low high (Some page)
    leaf_fails (suc l) none other = absurd (omega arith)
    leaf_fails zero none other =
        inl ((λ t. other (subst (λ (b : List ℕ). (page ≢ root.page → 1 ≤ count_said b) × Rise low high (pairs_said b)) (sym is) (t.some, t.rises))), refl)

    pub leaf_slots : (l : ℕ) → l ≡ 0 → level_said buf ≡ 0 → (page ≢ root.page → 1 ≤ count_said buf) × Rise low high (pairs_said buf) → (r : Result (Unit {0}) CheckFault) → IsVerdict (each (slot_check bytes root.table page) (pairs_said buf)) r
        → IsVerdict (tree_from root l bytes page low high) r
    leaf_slots (suc l) none level tests r cause = absurd (omega arith)
    leaf_slots zero none level tests (Ok tt) cause = (leaf_tests level tests, subst (λ (b : List ℕ). each (slot_check bytes root.table page) (pairs_said b) None) is cause)
    leaf_slots zero none level tests (Err (Damaged bad)) cause = inr (leaf_tests level tests, subst (λ (b : List ℕ). each (slot_check bytes root.table page) (pairs_said b) (Some bad)) is cause)
    leaf_slots zero none level tests (Err Media) cause = tt
    leaf_slots zero none level tests (Err Dead) cause = tt
    leaf_slots zero none level tests (Err NoMemory) cause = tt

    module _ (pages : ℕ) (pages_is : pages ≡ next_page bytes) where
      inner_tests : (l : ℕ) → level_said buf ≡ suc l → (next_low (pairs_said buf) low ≡ low) × Rise low key_end (pairs_said buf) × AreChildren pages (pairs_said buf) → IsInner AreChildren bytes (suc l) page low
      inner_tests l level tests =
          let form : (kind_said buf ≡ 2) × (1 ≤ count_said buf) = elim node.form [ inl f ↦ absurd (omega (arith, f.1, level)) | inr f ↦ (f.0, f.3) ] in
          record {
            kind = ap kind_said (sym is) ∙ form.0;
            level_is = ap level_said (sym is) ∙ level;
            link = ap link_said (sym is) ∙ node.link;
            some = subst (λ (b : List ℕ). 1 ≤ count_said b) is form.1;
            most = subst (λ (b : List ℕ). count_said b ≤ 30) is node.most;
            first = subst (λ (b : List ℕ). next_low (pairs_said b) low ≡ low) is tests.0;
            rises = subst (λ (b : List ℕ). Rise low key_end (pairs_said b)) is tests.1;
            children = subst (λ (b : List ℕ). AreChildren (next_page bytes) (pairs_said b)) is ((named_children bytes pages (pairs_said buf) pages_is).0 tests.2);
          }

      pub inner_fails : (l : ℕ) → l ≢ 0 → ¬ ((next_low (pairs_said buf) low ≡ low) × Rise low key_end (pairs_said buf) × AreChildren pages (pairs_said buf)) → tree_from root l bytes page low high (Some page)
      inner_fails zero some other = absurd (some refl)
      inner_fails (suc l) some other =
          inl (
            (λ t. other (subst (λ (b : List ℕ). (next_low (pairs_said b) low ≡ low) × Rise low key_end (pairs_said b) × AreChildren pages (pairs_said b)) (sym is)
                (t.first, t.rises, (named_children bytes pages (page_pairs bytes page) pages_is).1 t.children))),
            refl,
          )

      pub inner_children : (l : ℕ) → l ≢ 0 → level_said buf ≡ l → (next_low (pairs_said buf) low ≡ low) × Rise low key_end (pairs_said buf) × AreChildren pages (pairs_said buf)
          → (r : Result (Unit {0}) CheckFault) → IsVerdict (children_check (tree_from root (l - 1) bytes) (pairs_said buf) high) r → IsVerdict (tree_from root l bytes page low high) r
      inner_children zero some level tests r cause = absurd (some refl)
      inner_children (suc l) some level tests r cause = go r (subst (λ (n : ℕ). IsVerdict (children_check (tree_from root n bytes) (pairs_said buf) high) r) (let e : suc l - 1 ≡ l = omega arith in e) cause)
        where
          go : (r : Result (Unit {0}) CheckFault) → IsVerdict (children_check (tree_from root l bytes) (pairs_said buf) high) r → IsVerdict (tree_from root (suc l) bytes page low high) r
          go (Ok tt) c = (inner_tests l level tests, subst (λ (b : List ℕ). children_check (tree_from root l bytes) (pairs_said b) high None) is c)
          go (Err (Damaged bad)) c = inr (inner_tests l level tests, subst (λ (b : List ℕ). children_check (tree_from root l bytes) (pairs_said b) high (Some bad)) is c)
          go (Err Media) c = tt
          go (Err Dead) c = tt
          go (Err NoMemory) c = tt

-- the level of the root, and then the tree under it
module _ (root : Root) (bytes : List ℕ) (level : ℕ) (is : level ≡ level_of bytes root.page) where
  pub level_fails : 7 < level → tree_check root bytes (Some root.page)
  level_fails more = inl (λ le. omega (arith, is, more, le), refl)

  pub level_passes : level ≤ 7 → (r : Result (Unit {0}) CheckFault) → IsVerdict (tree_from root level bytes root.page 0 key_end) r → IsVerdict (tree_check root bytes) r
  level_passes le r cause = go r (subst (λ (n : ℕ). IsVerdict (tree_from root n bytes root.page 0 key_end) r) is cause)
    where
      go : (r : Result (Unit {0}) CheckFault) → IsVerdict (tree_from root (level_of bytes root.page) bytes root.page 0 key_end) r → IsVerdict (tree_check root bytes) r
      go (Ok tt) c = (omega (arith, is, le), c)
      go (Err (Damaged bad)) c = inr (omega (arith, is, le), c)
      go (Err Media) c = tt
      go (Err Dead) c = tt
      go (Err NoMemory) c = tt

-- the counts that the super page says
pub front_of : (bytes : List ℕ) (front : Super) → SaysSuper (page_bytes bytes 0) front → IsFrontOf bytes front
front_of bytes front says = record { slots = says.next_slot; pages = says.next_page }
