-- That trees are sound is a proposition, so a struct can keep it.
use Rattle.std.specs.Prelude.{ℕ, zero, suc, List, [], ◌∷◌, None}
use Rattle.record_slots.specs.Places.{next_page}
use Rattle.std.specs.Coded.{×_prop, Unit-prop, le_prop}
use Rattle.std.proofs.Props.{props}
use Rattle.mars_base.specs.Check.{Check, each}
use Rattle.page_store.specs.Pairs.{Pair}
use Rattle.index_pages.specs.Keys.{key_end}
use Rattle.index_pages.specs.Page.{page_pairs, level_of}
use Rattle.index_pages.specs.Props.{Rise-prop, slot-prop, index-prop}
use Rattle.index_pages.specs.Slots.{slot_check}
use Rattle.btree_laws.specs.Tree.{IsLeafPage, IsInner, AreChildren, next_low, children_check, tree_from}
use Rattle.btree_laws.specs.declared.root.Root.{Root}
use Rattle.btree_pages.specs.Index.{tree_of, AreSoundTrees}

AreChildren-prop : (pages : ℕ) (es : List Pair) → IsProp (AreChildren pages es)
AreChildren-prop pages [] = Unit-prop
AreChildren-prop pages (e ∷ es) = Prim.hlevel (props, AreChildren-prop pages es)

slots-prop : (bytes : List ℕ) (table page : ℕ) (ps : List Pair) → IsProp (each (slot_check bytes table page) ps None)
slots-prop bytes table page [] = Unit-prop
slots-prop bytes table page (p ∷ ps) = ×_prop (slot-prop bytes table page p) (slots-prop bytes table page ps)

IsLeafPage-prop : (root : ℕ) (bytes : List ℕ) (page low high : ℕ) → IsProp (IsLeafPage root bytes page low high)
IsLeafPage-prop root bytes page low high = Prim.hlevel (props, Rise-prop low high (page_pairs bytes page))

IsInner-prop : (bytes : List ℕ) (level page low : ℕ) → IsProp (IsInner AreChildren bytes level page low)
IsInner-prop bytes level page low = Prim.hlevel (props, Rise-prop low key_end (page_pairs bytes page), AreChildren-prop (next_page bytes) (page_pairs bytes page))

children-prop : (check : ℕ → ℕ → ℕ → Check ℕ) → ((page low high : ℕ) → IsProp (check page low high None)) → (es : List Pair) (high : ℕ) → IsProp (children_check check es high None)
children-prop check prop [] high = Unit-prop
children-prop check prop (e ∷ es) high = ×_prop (prop e.1 e.0 (next_low es high)) (children-prop check prop es high)

from-prop : (root : Root) (l : ℕ) (bytes : List ℕ) (page low high : ℕ) → IsProp (tree_from root l bytes page low high None)
from-prop root zero bytes page low high = ×_prop (IsLeafPage-prop root.page bytes page low high) (slots-prop bytes root.table page (page_pairs bytes page))
from-prop root (suc l) bytes page low high =
    ×_prop (IsInner-prop bytes (suc l) page low) (children-prop (tree_from root l bytes) (from-prop root l bytes) (page_pairs bytes page) high)

tree-prop : (bytes : List ℕ) (root table : ℕ) → IsProp (tree_of bytes root table None)
tree-prop bytes root table = ×_prop le_prop (from-prop (record { page = root; table = table }) (level_of bytes root) bytes root 0 key_end)

pub AreSoundTrees-prop : (bytes : List ℕ) → IsProp (AreSoundTrees bytes)
AreSoundTrees-prop bytes = index-prop 1 tree_of bytes (tree-prop bytes)
