-- What an insertion knows when it has read the super page and the root, and that a dead store is told only at first.
use Rattle.std.proofs.Common.{◌≡◌, ◌≢◌, ℕ, ◌+◌, ◌*◌, ◌<◌, ◌≤◌, inl, inr, Bool, false, List, length, None, Result, Err, refl, sym, ◌∙◌, ap, subst, arith}
use Rattle.std.specs.Prelude.{IsTrue}
use Rattle.std.proofs.lemmas.Bool.{cases_eq}
use Rattle.array_shape.specs.declared.shape.Shape.{Shape}
use Rattle.array_shape.specs.Places.{page_count}
use Rattle.eaw_face.specs.State.{State}
use Rattle.eaw_face.specs.Causes.{IsAlive}
use Rattle.record_slots.specs.Places.{page_bytes, first_slot_page, IsSuper}
use Rattle.record_slots.specs.Super.{SaysSuper}
use Rattle.record_slots.specs.declared.super_page.Super.{Super}
use Rattle.page_store.specs.Index.{IsTable, slots_of, index_pages_of}
use Rattle.page_store.specs.Inserts.{Inserts}
use Rattle.page_store.specs.Looks.{Looks, LookCause, is_failed}
use Rattle.page_store.specs.Pairs.{Pair, found}
use Rattle.page_store.specs.Shown.{PagesView}
use Rattle.page_store.specs.declared.fault.PageFault.{PageFault}
use Rattle.page_store.specs.declared.index_fault.IndexFault.{IndexFault}
use Rattle.page_store.specs.declared.index_fault.IndexFault.TheVariants as index
use Rattle.page_store.specs.Faults.{as_index}
use Rattle.index_pages.specs.Fetched.{TestCause, IsFront}
use Rattle.index_pages.specs.Page.{page_pairs, level_of}
use Rattle.index_pages.specs.declared.taking.Claim.{Claim}
use Rattle.index_pages.proofs.Looking.{looks_none}
use Rattle.btree_pages.specs.Index.{tree, AreSoundTrees}
use Rattle.btree_pages.specs.Trees.{whole_of}
use Rattle.index_pages.proofs.Tabled.{table_own}
use Rattle.btree_pages.specs.OnWay.{IsReached}
use Rattle.btree_laws.specs.Tree.{pairs_of_tree}
use Rattle.btree_laws.specs.declared.root.Root.{Root}
use Rattle.btree_pages.specs.Writes.{IsRead}
use Rattle.btree_pages.proofs.Below.{IsHalfRead}
use Rattle.index_pages.proofs.Causing.{look_cause, still_same}
use Rattle.index_pages.proofs.Going.{going_looks, inserts_refused, inserts_look_err}

-- a slot is left, a full page has 30 pairs, and a root below the highest level can be split
pub slot_there : (shape : Shape) (half : ℕ) (front : Super) → half + half ≡ page_count shape → IsFront shape front → (front.free_slots ≡ 0 → front.next_slot ≢ 8 * half) → front.free_slots ≡ 0 → front.next_slot < slots_of shape
slot_there shape half front all is other none = (let ne : front.next_slot ≡ 8 * half → ⊥ = other none in omega (arith, is.slots))

pub below_most : (level : ℕ) → (level ≡ 7 → ⊥) → level ≤ 7 → level < 7
below_most level other most = omega arith

pub read_half : (shape : Shape) (level was page level2 : ℕ) (pairs half : List Pair) → IsRead shape was level pairs → IsHalfRead shape page half → level2 ≡ level → IsRead shape page level2 half
read_half shape level was page level2 pairs half read is same = record { some = is.some; inside = is.inside; level_most = subst (λ (n : ℕ). n ≤ 7) (sym same) read.level_most; most = omega (arith, is.few); small = is.small }

-- a page that is to be taken cannot be read
pub take_err : (tells : Bool) (E : Shape → List ℕ → List ℕ → Type 0) (t : ℕ) (root : Root) (key : ℕ) (v0 : PagesView) → (IsTrue tells → AreSoundTrees v0.store.state.bytes) → (v1 : PagesView) → Looks tells (E v0.store.shape) false v0 v1
    → (v2 : PagesView) (fault : PageFault) → (let r : Result Claim PageFault = Err fault in Looks tells (E v1.store.shape) (is_failed r) v1 v2 × LookCause tells v1.store r)
    → (let r : Result ℕ IndexFault = Err (as_index fault) in Inserts tells (E v0.store.shape) tree t root.page root.table key v0 v2 r)
take_err tells E t root key v0 sound v1 looks v2 fault looks' =
    let r : Result Claim PageFault = Err fault in
    inserts_look_err tree tells (E v0.store.shape) t root.page root.table key Claim v0 v1 v2 (going_looks tree tells (E v0.store.shape) t root.page root.table key v0 v1 (λ told alive. sound told) looks) fault
    (subst (λ (sh : Shape). Looks tells (E sh) (is_failed r) v1 v2) looks.shape looks'.0, looks'.1)

module _ (tells : Bool) (E : Shape → List ℕ → List ℕ → Type 0) (t : ℕ) (root : Root) (key : ℕ) (v0 : PagesView) (sound : IsTrue tells → IsAlive v0.store → AreSoundTrees v0.store.state.bytes)
    (named : IsTrue tells → IsAlive v0.store → IsTable v0.store.state.bytes root.table root.page) where
  -- the super page cannot be read
  pub super_err : (v1 : PagesView) (fault : PageFault) → (let r : Result Super PageFault = Err fault in Looks tells (E v0.store.shape) (is_failed r) v0 v1) → (let r : Result Super PageFault = Err fault in TestCause tells (IsSuper 1 v0.store.state.bytes) 0 v0.store r)
      → (let r : Result ℕ IndexFault = Err (as_index fault) in Inserts tells (E v0.store.shape) tree t root.page root.table key v0 v1 r)
  super_err v1 fault looks cause =
      inserts_look_err tree tells (E v0.store.shape) t root.page root.table key Super v0 v0 v1 (going_looks tree tells (E v0.store.shape) t root.page root.table key v0 v0 sound (looks_none tells (E v0.store.shape) v0)) fault
      (looks, look_cause Super Super tells v0.store v0.store (IsSuper 1 v0.store.state.bytes) 0 fault (still_same tells v0.store) (λ told alive. (whole_of v0.store.state.bytes (sound told alive)).front) cause)

  module _ (v1 : PagesView) (looks : Looks tells (E v0.store.shape) false v0 v1) (alive : IsAlive v0.store) where
    -- no slot is left
    pub slots_full : (half : ℕ) (front : Super) → half + half ≡ page_count v0.store.shape → IsFront v0.store.shape front → ((front.free_slots ≡ 0 → front.next_slot ≢ 8 * half) → ⊥) → (IsTrue tells → SaysSuper (page_bytes v0.store.state.bytes 0) front)
        → (let r : Result ℕ IndexFault = Err (index.SlotsFull front.next_slot) in Inserts tells (E v0.store.shape) tree t root.page root.table key v0 v1 r)
    slots_full half front all is full says = elim (cases_eq front.next_slot (8 * half)) [
      | inl at ↦ elim (cases_eq front.free_slots 0) [
        | inl none ↦
            let slots : front.next_slot ≡ slots_of v0.store.shape = omega (arith, at, all) in
            inserts_refused tree tells (E v0.store.shape) t root.page root.table key v0 v1 (going_looks tree tells (E v0.store.shape) t root.page root.table key v0 v1 sound looks) (index.SlotsFull front.next_slot)
            (refl, (alive, slots, λ told. omega (arith, none, (says told).free_slots, (says told).next_slot))) (λ m e. absurd (cc))
        | inr some ↦ absurd (full (λ none. absurd (some none)))
      ]
      | inr other ↦ absurd (full (λ none. other))
    ]

    -- the root is no page of an index, which the super page of sound data does not say
    pub root_out : (half : ℕ) → half ≡ index_pages_of v0.store.shape → (IsTrue tells → first_slot_page v0.store.state.bytes ≡ half) → ((1 ≤ root.page) → root.page < half → ⊥)
        → (let r : Result ℕ IndexFault = Err (index.Damaged 0) in Inserts tells (E v0.store.shape) tree t root.page root.table key v0 v1 r)
    root_out half half_is first out =
        inserts_refused tree tells (E v0.store.shape) t root.page root.table key v0 v1 (going_looks tree tells (E v0.store.shape) t root.page root.table key v0 v1 sound looks) (index.Damaged 0) (
          refl,
          (
            alive,
            λ told.
                let front = (whole_of v0.store.state.bytes (sound told alive)).front in
                let own = table_own 1 v0.store.state.bytes root.table root.page front (named told alive) in
                out own.0 (omega (arith, own.1, front.pages, first told)),
          ),
        ) (λ m e. absurd (cc))

    -- what was known of the data still is, and the root is on each key's way
    pub alive_yet : IsAlive v1.store
    alive_yet = (looks.still refl).dead ∙ alive

    pub bytes_yet : (P : List ℕ → Type 0) → (IsTrue tells → P v0.store.state.bytes) → IsTrue tells → P v1.store.state.bytes
    bytes_yet P before told = subst (λ (st : State). P st.bytes) (sym ((looks.still refl).state told)) (before told)

    pub sound_yet : IsTrue tells → AreSoundTrees v1.store.state.bytes
    sound_yet = bytes_yet AreSoundTrees (λ told. sound told alive)

    pub named_yet : IsTrue tells → IsTable v1.store.state.bytes root.table root.page
    named_yet = bytes_yet (λ (b : List ℕ). IsTable b root.table root.page) (λ told. named told alive)

    pub absent_yet : (IsTrue tells → IsAlive v0.store → found (pairs_of_tree v0.store.state.bytes root.page) key ≡ None) → IsTrue tells → found (pairs_of_tree v1.store.state.bytes root.page) key ≡ None
    absent_yet absent = bytes_yet (λ (b : List ℕ). found (pairs_of_tree b root.page) key ≡ None) (λ told. absent told alive)

    pub says_yet : (front : Super) → (IsTrue tells → SaysSuper (page_bytes v0.store.state.bytes 0) front) → IsTrue tells → SaysSuper (page_bytes v1.store.state.bytes 0) front
    says_yet front says = bytes_yet (λ (b : List ℕ). SaysSuper (page_bytes b 0) front) says

    pub root_reached : (page level : ℕ) (pairs : List Pair) → page ≡ root.page → (IsTrue tells → level ≡ level_of v0.store.state.bytes root.page) → (IsTrue tells → pairs ≡ page_pairs v0.store.state.bytes root.page)
        → IsTrue tells → IsReached root v1.store.state.bytes key page level pairs
    root_reached page level pairs is level_is are = bytes_yet (λ (b : List ℕ). IsReached root b key page level pairs)
        (λ told. (0, record { page_is = is; level_is = sym (level_is told); pairs_are = are told ∙ ap (page_pairs v0.store.state.bytes) (sym is) }))

    pub root_read : (page level : ℕ) (pairs : List Pair) → page ≡ root.page → IsRead v0.store.shape root.page level pairs → IsRead v1.store.shape page level pairs
    root_read page level pairs is read = subst (λ (sh : Shape). IsRead sh page level pairs) (sym looks.shape) (subst (λ (n : ℕ). IsRead v0.store.shape n level pairs) (sym is) read)
