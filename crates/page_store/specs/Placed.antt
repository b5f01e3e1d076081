-- Where a key is in an index, or where it is to go.
use Rattle.std.specs.Prelude.{ℕ, ◌≡◌, ◌<◌, ◌≤◌, Bool, List, length, Option, Some, None, Result}
use Rattle.array_shape.specs.declared.shape.Shape.{Shape}
use Rattle.eaw_face.specs.Command.{Command}
use Rattle.eaw_face.specs.StoreView.{StoreView}
use Rattle.page_store.specs.Access.{Access}
use Rattle.page_store.specs.Course.{LeafSaid}
use Rattle.page_store.specs.Follows.{Walks}
use Rattle.page_store.specs.Index.{Index, slots_of, index_pages_of}
use Rattle.page_store.specs.Pairs.{Pair, AreSmall}
use Rattle.page_store.specs.declared.fault.PageFault.{PageFault}
use Rattle.page_store.specs.declared.leaf_page.Sought.{Sought}
use Rattle.page_store.specs.declared.leaf_page.Sought.TheVariants.{Slot, Place, Split}

-- a page of an index, with room for one more pair
pub record IsPlaceIn (shape : Shape) (page : ℕ) (pairs : List Pair) : Type 0 where
  pub some : 1 ≤ page
  pub inside : page < index_pages_of shape
  pub room : length pairs < 30
  pub small : AreSmall pairs

-- the slot, if there is one
abbrev pub slot_sought : Sought → Option ℕ
slot_sought (Slot slot) = Some slot
slot_sought _ = None

-- where the key goes, in this data: the page that it goes into, or more than one action is due
abbrev pub IsSoughtFor : Index → Access → List ℕ → (root key : ℕ) → Sought → Type 0
IsSoughtFor index access bytes root key (Slot slot) = Unit {0}
IsSoughtFor index access bytes root key (Place leaf) = access.fits bytes root key leaf.page leaf.link leaf.pairs.items
IsSoughtFor index access bytes root key Split = 2 ≤ length (index.actions bytes root key)

-- the slot is one of the array's, and the page is one that an index may have
abbrev pub IsSoughtIn : Shape → Sought → Type 0
IsSoughtIn shape (Slot slot) = slot < slots_of shape
IsSoughtIn shape (Place leaf) = IsPlaceIn shape leaf.page leaf.pairs.items
IsSoughtIn shape Split = Unit {0}

-- a place is the page that the pages which were read name, with the link and the pairs that it said
abbrev pub IsPlaceSaid : Option LeafSaid → Sought → Type 0
IsPlaceSaid said (Place leaf) = said ≡ Some (record { page = leaf.page; link = leaf.link; pairs = leaf.pairs.items })
IsPlaceSaid said _ = Unit {0}

-- A look for a key and its place. The slot is the answer of the course by which the key is found, over any store, and the place is that of the
-- pages that were read on it.
abbrev pub FollowsToPlace : Bool → (calls calls_now : Command → ℕ) → Access → (root key : ℕ) → (old new : StoreView) → Result Sought PageFault → Type 0
FollowsToPlace tells calls calls_now access root key old new result =
    Walks tells calls calls_now (access.finding root key).goes ((access.finding root key).most old.shape)
    (λ sought read. ((access.finding root key).answer read ≡ Some (slot_sought sought)) × IsPlaceSaid (access.placing key read) sought) old new result
