-- A slot and the front lie within their pages.
use Rattle.std.proofs.Common.{◌≡◌, ℕ, ◌+◌, ◌*◌, ◌/◌, ◌%◌, ◌<◌, List, length, arith}
use Rattle.eaw_face.specs.StoreView.{StoreView}
use Rattle.page_store.specs.Index.{slots_of, index_pages_of}
use Rattle.page_store.specs.Shown.{IsInPage}
use Rattle.array_shape.specs.Places.{page_count}
use Rattle.index_pages.proofs.Parting.{part_in, slot_within}

pub slot_in_page : (store : StoreView) (slot : ℕ) (bytes : List ℕ) (page' at' : ℕ) (bytes' : List ℕ) → page' ≡ index_pages_of store.shape + slot / 8 → at' ≡ slot % 8 * 64 → bytes' ≡ bytes → length bytes ≡ 64
    → slot < slots_of store.shape → (0 < length bytes') × IsInPage store page' at' (length bytes')
slot_in_page store slot bytes page' at' bytes' page_is at_is bytes_are long less =
    part_in store (index_pages_of store.shape + slot / 8) (slot % 8 * 64) 64 bytes page' at' bytes' page_is at_is bytes_are long (omega arith) (slot_within slot)
    (let there : index_pages_of store.shape + slot / 8 < page_count store.shape = omega (arith, less) in there)

pub front_in_page : (store : StoreView) (page : ℕ) (bytes : List ℕ) (page' at' : ℕ) (bytes' : List ℕ) → page' ≡ 0 → at' ≡ 8 → bytes' ≡ bytes → length bytes ≡ 280 → page < index_pages_of store.shape
    → (0 < length bytes') × IsInPage store page' at' (length bytes')
front_in_page store page bytes page' at' bytes' page_is at_is bytes_are long less =
    part_in store 0 8 280 bytes page' at' bytes' page_is at_is bytes_are long (omega arith) (omega arith) (let some : 0 < page_count store.shape = omega (arith, less) in some)
