-- What it is that a tree passes its check.
use Rattle.std.proofs.Common.{◌≡◌, ◌≢◌, ◌<◌, ℕ, zero, suc, ◌≤◌, List, [], ◌∷◌, None, refl, sym, ◌∙◌, ap, arith, subst}
use Rattle.mars_base.specs.Check.{Check, test, each, IsSingle}
use Rattle.mars_base.proofs.Checks.{pass_single, test_single, both_single, each_single}
use Rattle.record_slots.specs.Places.{page_bytes, AreGiven, next_page}
use Rattle.page_store.specs.Pairs.{Pair, Rise}
use Rattle.index_pages.specs.Keys.{key_end}
use Rattle.index_pages.specs.Page.{level_of, page_pairs, pairs_said, kind_said, level_said, link_said, count_said}
use Rattle.index_pages.specs.Slots.{slot_check}
use Rattle.index_pages.specs.Ways.{IsOwn}
use Rattle.index_pages.proofs.Slotted.{slot_single}
use Rattle.btree_laws.specs.declared.root.Root.{Root}
use Rattle.btree_laws.specs.Tree.{IsLeafPage, IsInner, AreChildren, next_low, children_check, tree_from, tree_check}

-- the children of these entries are given pages, and none of them is the root
abbrev pub AreBelow : ℕ → ℕ → List Pair → Type 0
AreBelow root pages [] = Unit {0}
AreBelow root pages (e ∷ es) = ((2 ≤ e.1) × (e.1 ≢ root)) × (e.1 < pages) × AreBelow root pages es

-- an inner page none of whose children is the root
abbrev pub IsUpper : ℕ → List ℕ → ℕ → ℕ → ℕ → Type 0
IsUpper root bytes level page low = IsInner (AreBelow root) bytes level page low

-- the children of these entries are such, each from its own low key up to the next one
abbrev pub AreSound : (ℕ → ℕ → ℕ → Type 0) → List Pair → ℕ → Type 0
AreSound Is [] high = Unit {0}
AreSound Is (e ∷ es) high = Is e.1 e.0 (next_low es high) × AreSound Is es high

-- a tree of this level under a page, with the keys between these bounds: no page below another is the root, and the slots carry their keys
abbrev pub IsTree : Root → ℕ → List ℕ → ℕ → ℕ → ℕ → Type 0
IsTree root zero bytes page low high = IsLeafPage root.page bytes page low high × AreGiven bytes root.table (page_pairs bytes page)
IsTree root (suc l) bytes page low high = IsUpper root.page bytes (suc l) page low × AreSound (IsTree root l bytes) (page_pairs bytes page) high

-- the whole tree, whose root is a given page
abbrev pub IsSoundTree : Root → List ℕ → Type 0
IsSoundTree root bytes = IsOwn bytes root.page × (level_of bytes root.page ≤ 7) × IsTree root (level_of bytes root.page) bytes root.page 0 key_end

-- an inner page is one on other data too, where its bytes are the same and its children are such
pub inner_same : (Are Other : ℕ → List Pair → Type 0) (old new : List ℕ) (level page low : ℕ) → page_bytes new page ≡ page_bytes old page
    → (Are (next_page old) (page_pairs old page) → Other (next_page new) (page_pairs old page)) → IsInner Are old level page low → IsInner Other new level page low
inner_same Are Other old new level page low e children t = record {
  kind = ap kind_said e ∙ t.kind;
  level_is = ap level_said e ∙ t.level_is;
  link = ap link_said e ∙ t.link;
  some = subst (λ (b : List ℕ). 1 ≤ count_said b) (sym e) t.some;
  most = subst (λ (b : List ℕ). count_said b ≤ 30) (sym e) t.most;
  first = ap (λ (b : List ℕ). next_low (pairs_said b) low) e ∙ t.first;
  rises = subst (λ (b : List ℕ). Rise low key_end (pairs_said b)) (sym e) t.rises;
  children = subst (λ (b : List ℕ). Other (next_page new) (pairs_said b)) (sym e) (children t.children);
}

-- the slots of these pairs are given, and carry their keys
module _ (bytes : List ℕ) (table page : ℕ) where
  slots_seen : (ps : List Pair) → each (slot_check bytes table page) ps None → AreGiven bytes table ps
  slots_seen [] c = tt
  slots_seen (p ∷ ps) c = (c.0.0, c.0.1, slots_seen ps c.1)

  slots_pass : (ps : List Pair) → AreGiven bytes table ps → each (slot_check bytes table page) ps None
  slots_pass [] g = tt
  slots_pass (p ∷ ps) g = ((g.0, g.1), slots_pass ps g.2)

-- a tree that passes has the level of its root, so no page below the root is it
level_from : (root : Root) (l : ℕ) (bytes : List ℕ) (page low high : ℕ) → tree_from root l bytes page low high None → level_of bytes page ≡ l
level_from root zero bytes page low high t = t.0.level
level_from root (suc l) bytes page low high t = t.0.level_is

seen_below : (root : Root) (l : ℕ) (bytes : List ℕ) → suc l ≤ level_of bytes root.page → (pages : ℕ) (es : List Pair) (high : ℕ) → AreChildren pages es
    → children_check (tree_from root l bytes) es high None → AreBelow root.page pages es
seen_below root l bytes low pages [] high are c = tt
seen_below root l bytes low pages (e ∷ es) high are c =
    ((are.0.0, λ same. below same (level_from root l bytes e.1 e.0 (next_low es high) c.0)), are.0.1, seen_below root l bytes low pages es high are.1 c.1)
  where
    below : e.1 ≡ root.page → level_of bytes e.1 ≡ l → ⊥
    below same is = (let root_level : level_of bytes root.page ≡ l = subst (λ (x : ℕ). level_of bytes x ≡ l) same is in omega (arith, low, root_level))

seen_children : (root : Root) (l : ℕ) (bytes : List ℕ) → ((page low high : ℕ) → tree_from root l bytes page low high None → IsTree root l bytes page low high)
    → (es : List Pair) (high : ℕ) → children_check (tree_from root l bytes) es high None → AreSound (IsTree root l bytes) es high
seen_children root l bytes seen [] high c = tt
seen_children root l bytes seen (e ∷ es) high c = (seen e.1 e.0 (next_low es high) c.0, seen_children root l bytes seen es high c.1)

pub tree_seen : (root : Root) (l : ℕ) (bytes : List ℕ) → l ≤ level_of bytes root.page → (page low high : ℕ) → tree_from root l bytes page low high None → IsTree root l bytes page low high
tree_seen root zero bytes most page low high t = (t.0, slots_seen bytes root.table page (page_pairs bytes page) t.1)
tree_seen root (suc l) bytes most page low high t = (
  inner_same AreChildren (AreBelow root.page) bytes bytes (suc l) page low refl (λ are. seen_below root l bytes most (next_page bytes) (page_pairs bytes page) high are t.1) t.0,
  seen_children root l bytes (tree_seen root l bytes (omega (arith, most))) (page_pairs bytes page) high t.1,
)

pass_below : (root pages : ℕ) (es : List Pair) → AreBelow root pages es → AreChildren pages es
pass_below root pages [] are = tt
pass_below root pages (e ∷ es) are = ((are.0.0, are.1), pass_below root pages es are.2)

pass_children : (root : Root) (l : ℕ) (bytes : List ℕ) → ((page low high : ℕ) → IsTree root l bytes page low high → tree_from root l bytes page low high None)
    → (es : List Pair) (high : ℕ) → AreSound (IsTree root l bytes) es high → children_check (tree_from root l bytes) es high None
pass_children root l bytes passes [] high s = tt
pass_children root l bytes passes (e ∷ es) high s = (passes e.1 e.0 (next_low es high) s.0, pass_children root l bytes passes es high s.1)

pub tree_passes : (root : Root) (l : ℕ) (bytes : List ℕ) (page low high : ℕ) → IsTree root l bytes page low high → tree_from root l bytes page low high None
tree_passes root zero bytes page low high t = (t.0, slots_pass bytes root.table page (page_pairs bytes page) t.1)
tree_passes root (suc l) bytes page low high t = (
  inner_same (AreBelow root.page) AreChildren bytes bytes (suc l) page low refl (pass_below root.page (next_page bytes) (page_pairs bytes page)) t.0,
  pass_children root l bytes (tree_passes root l bytes) (page_pairs bytes page) high t.1,
)

-- a tree is sound exactly where its check passes
pub sound_seen : (root : Root) (bytes : List ℕ) → IsOwn bytes root.page → tree_check root bytes None → IsSoundTree root bytes
sound_seen root bytes own c = (own, c.0, tree_seen root (level_of bytes root.page) bytes (omega arith) root.page 0 key_end c.1)

pub sound_passes : (root : Root) (bytes : List ℕ) → IsSoundTree root bytes → tree_check root bytes None
sound_passes root bytes s = (s.1, tree_passes root (level_of bytes root.page) bytes root.page 0 key_end s.2)

-- a check has at most one verdict: no page of a sound tree fails, and at most one is the first that does
module _ (check : ℕ → ℕ → ℕ → Check ℕ) where
  children_single : ((page low high : ℕ) → IsSingle (check page low high)) → (es : List Pair) (high : ℕ) → IsSingle (children_check check es high)
  children_single single [] high = pass_single
  children_single single (e ∷ es) high =
      both_single (check e.1 e.0 (next_low es high)) (children_check check es high) (single e.1 e.0 (next_low es high)) (children_single single es high)

from_single : (root : Root) (l : ℕ) (bytes : List ℕ) (page low high : ℕ) → IsSingle (tree_from root l bytes page low high)
from_single root zero bytes page low high =
    both_single (test (IsLeafPage root.page bytes page low high) page) (each (slot_check bytes root.table page) (page_pairs bytes page)) (test_single (IsLeafPage root.page bytes page low high) page)
    (each_single (slot_check bytes root.table page) (page_pairs bytes page) (slot_single bytes root.table page))
from_single root (suc l) bytes page low high =
    both_single (test (IsInner AreChildren bytes (suc l) page low) page) (children_check (tree_from root l bytes) (page_pairs bytes page) high) (test_single (IsInner AreChildren bytes (suc l) page low) page)
    (children_single (tree_from root l bytes) (from_single root l bytes) (page_pairs bytes page) high)

pub tree_single : (root : Root) (bytes : List ℕ) → IsSingle (tree_check root bytes)
tree_single root bytes =
    both_single (test (level_of bytes root.page ≤ 7) root.page) (tree_from root (level_of bytes root.page) bytes root.page 0 key_end) (test_single (level_of bytes root.page ≤ 7) root.page)
    (from_single root (level_of bytes root.page) bytes root.page 0 key_end)
