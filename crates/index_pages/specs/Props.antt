-- What soundness is made of is a proposition: a struct can keep it.
use Rattle.std.specs.Prelude.{ℕ, zero, suc, ◌≡◌, ◌≢◌, ◌+◌, ◌-◌, List, [], ◌∷◌, Option, Some, None, slice_get}
use Rattle.std.specs.Coded.{×_prop, le_prop}
use Rattle.std.proofs.Props.{props}
use Rattle.record_slots.specs.declared.slot.Slot.{Slot}
use Rattle.record_slots.specs.declared.slot.Slot.TheVariants.{Absent, Present}
use Rattle.page_store.specs.Pairs.{Pair, Rise}
use Rattle.index_pages.specs.Slots.{slot_check, HasRank, list_check, tables_check, index_check}
use Rattle.mars_base.specs.Check.{Check}
use Rattle.record_slots.specs.Free.{next_of}
use Rattle.record_slots.specs.Super.{HasSuperMark, HasTables, IsMain, AreTables, form_said, tables_used}
use Rattle.record_slots.specs.Places.{page_bytes, next_slot, next_page, slot_page, tables_of, free_slot, free_page, free_slots, free_pages, free_slot_of, free_page_of, IsSuper, IsOfKey, Carries}
use Rattle.record_slots.specs.declared.free.Free.{Free}
use Rattle.record_slots.specs.declared.super_page.TableEntry.{TableEntry}

pub Rise-prop : (low high : ℕ) (ps : List Pair) → IsProp (Rise low high ps)
Rise-prop low high [] = le_prop
Rise-prop low high (p ∷ ps) = ×_prop le_prop (Rise-prop (suc p.0) high ps)

pub IsOfKey-prop : (table key : ℕ) (said : Option Slot) → IsProp (IsOfKey table key said)
IsOfKey-prop table key None = Prim.hlevel props
IsOfKey-prop table key (Some (Absent j k)) = Prim.hlevel props
IsOfKey-prop table key (Some (Present j k value)) = Prim.hlevel props

pub Carries-prop : (bytes : List ℕ) (table : ℕ) (p : Pair) → IsProp (Carries bytes table p)
unfolding Carries
Carries-prop bytes table p = IsOfKey-prop table p.0 _

pub slot-prop : (bytes : List ℕ) (table page : ℕ) (p : Pair) → IsProp (slot_check bytes table page p None)
slot-prop bytes table page p = ×_prop le_prop (Carries-prop bytes table p)

IsMain-prop : (table : Option TableEntry) → IsProp (IsMain table)
IsMain-prop None = Prim.hlevel props
IsMain-prop (Some t) = Prim.hlevel props

apart-prop : (one two : TableEntry) → IsProp ((one.name ≢ two.name) × (one.root ≢ two.root))
apart-prop one two = Prim.hlevel props

AreTables-prop : (pages : ℕ) (tables : List TableEntry) → IsProp (AreTables pages tables)
AreTables-prop pages tables a b = λ i. record {
  main = IsMain-prop (slice_get tables 0) a.main b.main i;
  inside = λ j t some is. ×_prop le_prop le_prop (a.inside j t some is) (b.inside j t some is) i;
  other = λ j k one two lt is is'. apart-prop one two (a.other j k one two lt is is') (b.other j k one two lt is is') i;
}

HasTables-prop : (version pages : ℕ) (entries : List ℕ) → IsProp (HasTables version pages entries)
HasTables-prop version pages entries a b = λ i two. ×_prop (Prim.hlevel props) (AreTables-prop pages (tables_used entries)) (a two) (b two) i

HasSuperMark-prop : (bytes : List ℕ) → IsProp (HasSuperMark bytes)
HasSuperMark-prop bytes = Prim.hlevel props

pub IsSuper-prop : (form : ℕ) (bytes : List ℕ) → IsProp (IsSuper form bytes)
IsSuper-prop form bytes a b =
    let form_prop : IsProp (form_said (page_bytes bytes 0) ≡ form) = Prim.hlevel props in
    λ i. record {
      has_mark = HasSuperMark-prop (page_bytes bytes 0) a.has_mark b.has_mark i;
      form_is = form_prop a.form_is b.form_is i;
      slots = le_prop a.slots b.slots i;
      some_pages = le_prop a.some_pages b.some_pages i;
      pages = le_prop a.pages b.pages i;
      tables = HasTables-prop _ _ _ a.tables b.tables i;
    }

HasRank-prop : (rank : ℕ) (said : Option Free) → IsProp (HasRank rank said)
HasRank-prop rank None = Prim.hlevel props
HasRank-prop rank (Some free) = Prim.hlevel props

pub list-prop : (said : ℕ → Option Free) (page_of : ℕ → ℕ) (low end count named page : ℕ) → IsProp (list_check said page_of low end count named page None)
list-prop said page_of low end zero named page = Prim.hlevel props
list-prop said page_of low end (suc n) named page =
    ×_prop (×_prop le_prop le_prop) (×_prop (HasRank-prop (suc n) (said (named - 1))) (list-prop said page_of low end n (next_of (said (named - 1))) (page_of (named - 1))))

pub tables-prop : (check : ℕ → ℕ → Check ℕ) → ((root table : ℕ) → IsProp (check root table None)) → (table : ℕ) (entries : List TableEntry) → IsProp (tables_check check table entries None)
tables-prop check alone table [] = Prim.hlevel props
tables-prop check alone table (t ∷ ts) = ×_prop (alone t.root table) (tables-prop check alone (table + 1) ts)

-- a whole index is sound in one way, if the index of each table is
pub index-prop : (form : ℕ) (check : List ℕ → ℕ → ℕ → Check ℕ) (bytes : List ℕ) → ((root table : ℕ) → IsProp (check bytes root table None)) → IsProp (index_check form check bytes None)
index-prop form check bytes alone =
    ×_prop (IsSuper-prop form bytes)
    (×_prop (×_prop (list-prop (free_slot_of bytes) (slot_page bytes) 0 (next_slot bytes) (free_slots bytes) (free_slot bytes) 0)
    (list-prop (free_page_of bytes) (λ page. page) 2 (next_page bytes) (free_pages bytes) (free_page bytes) 0))
    (tables-prop (check bytes) alone 0 (tables_of bytes)))
