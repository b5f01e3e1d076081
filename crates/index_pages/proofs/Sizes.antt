-- Where pages and slots lie in the data of an array.
use Rattle.std.proofs.Common.{◌≡◌, ℕ, ◌+◌, ◌*◌, ◌/◌, ◌%◌, ◌≤◌, ◌-◌, List, Result, Ok, Err, length, take, drop, ◌∙◌, ap, arith}
use Rattle.std.specs.Prelude.{OnOk}
use Rattle.std.proofs.lemmas.Nat.{mul-le}
use Rattle.std.proofs.lemmas.List.{take-take, drop-drop, drop-take}
use Rattle.mars_base.specs.Bytes.{range}
use Rattle.array_shape.specs.declared.shape.Shape.{Shape}
use Rattle.array_shape.specs.Places.{data_len}
use Rattle.array_shape.specs.Places as array
use Rattle.record_slots.specs.Places.{page_bytes, page_count, slot_count, first_slot_page, slot_page, slot_of}
use Rattle.page_store.specs.Index.{slots_of, index_pages_of}
use Rattle.page_store.specs.Shown.{address}

-- a range within a range
range_within : (bytes : List ℕ) (at a n m : ℕ) → a + n ≤ m → range (range bytes at m) a n ≡ range bytes (at + a) n
range_within bytes at a n m le =
    ap (λ (l : ℕ). take n (drop a (take l (drop at bytes)))) (let e : m ≡ a + (m - a) = omega arith in e)
    ∙ ap (take n) (drop-take a (m - a) (drop at bytes)) ∙ take-take n (m - a) (drop a (drop at bytes)) (omega arith) ∙ ap (take n) (drop-drop a at bytes)

-- what is read of a page
pub page_read : {E : Type 0} (r : Result (Unit {0}) E) (bytes buf : List ℕ) (page n : ℕ) → n ≡ 512 → OnOk r (buf ≡ range bytes (address page 0) n) → OnOk r (buf ≡ page_bytes bytes page)
unfolding page_bytes
page_read (Ok x) bytes buf page n is e = e ∙ ap (λ (m : ℕ). range bytes m n) (let z : 512 * page + 0 ≡ 512 * page = omega arith in z) ∙ ap (λ (m : ℕ). range bytes (512 * page) m) is
page_read (Err f) bytes buf page n is e = tt

module _ (shape : Shape) (bytes : List ℕ) (long : length bytes ≡ data_len shape) where
  pub pages_are : page_count bytes ≡ array.page_count shape
  pages_are = omega (arith, long)

  pub slots_are : slot_count bytes ≡ slots_of shape
  slots_are = ap (λ (n : ℕ). 4 * n) pages_are

  pub index_pages_are : first_slot_page bytes ≡ index_pages_of shape
  index_pages_are = ap (λ (n : ℕ). n / 2) pages_are

  -- what is read of a slot
  pub slot_read : (half slot : ℕ) → half + half ≡ array.page_count shape → range bytes (address (half + slot / 8) (slot % 8 * 64)) 64 ≡ slot_of bytes slot
  unfolding slot_of
  slot_read half slot all =
      let at : 512 * (half + slot / 8) + slot % 8 * 64 ≡ 64 * (4 * page_count bytes + slot) = omega (arith, pages_are) in
      ap (λ (m : ℕ). range bytes m 64) at

  -- what the bytes of its page say of a slot
  pub slot_on_page : (half slot : ℕ) → half + half ≡ array.page_count shape → (buf : List ℕ) → buf ≡ page_bytes bytes (half + slot / 8) → range buf (64 * (slot % 8)) 64 ≡ slot_of bytes slot
  unfolding page_bytes
  slot_on_page half slot all buf is =
      let page = 512 * (half + slot / 8) in
      let place : 64 * (slot % 8) + 64 ≤ 512 = omega arith in
      let at : page + 64 * (slot % 8) ≡ address (half + slot / 8) (slot % 8 * 64) = omega arith in
      ap (λ (b : List ℕ). range b (64 * (slot % 8)) 64) is ∙ range_within bytes page (64 * (slot % 8)) 64 512 place ∙ ap (λ (m : ℕ). range bytes m 64) at ∙ slot_read half slot all

  pub slot_page_is : (half slot : ℕ) → half + half ≡ array.page_count shape → slot_page bytes slot ≡ half + slot / 8
  slot_page_is half slot all = omega (arith, pages_are)

-- no array has more index pages
pub index_pages_most : (shape : Shape) → index_pages_of shape ≤ 16384
index_pages_most shape =
    let most : shape.loggers * shape.pages ≤ 8 * 4096 = mul-le shape.loggers shape.pages 8 4096 shape.in_range.most_loggers shape.in_range.most_pages in
    omega (arith, most)
