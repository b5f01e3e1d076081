-- The bytes of what is free say it.
use Rattle.std.proofs.Common.{◌≡◌, ℕ, ◌^◌, ◌<◌, List, ◌∷◌, ◌++◌, length, take, drop, replicate, Some, refl, sym, ◌∙◌, ap, append_assoc, arith}
use Rattle.std.specs.Prelude.{slice_set}
use Rattle.std.proofs.lemmas.List.{drop_at, length-append, length-replicate}
use Rattle.byteorder.specs.Endian.{little_from, little_bytes}
use Rattle.byteorder.specs.Numbers.{little_number-reads_back, length-bytes_low_first}
use Rattle.record_slots.specs.Free.{free_said, free_slot_bytes, free_page_bytes}
use Rattle.record_slots.specs.declared.free.Free.{Free}
use Rattle.record_slots.proofs.SlotLemmas.{little_shift, free_slot_is, free_page_is}

-- two numbers of four bytes each, one behind the other
module _ (next rank : ℕ) (next_fits : next < 2 ^ 32) (rank_fits : rank < 2 ^ 32) (rest : List ℕ) where
  first_said : little_from 0 4 (little_bytes 4 next ++ (little_bytes 4 rank ++ rest)) ≡ next
  first_said = little_number-reads_back 4 next (little_bytes 4 rank ++ rest) next_fits

  second_said : little_from 4 4 (little_bytes 4 next ++ (little_bytes 4 rank ++ rest)) ≡ rank
  second_said =
      sym (little_shift 0 4 4 (little_bytes 4 next ++ (little_bytes 4 rank ++ rest)))
      ∙ ap (little_from 0 4) (drop_at (little_bytes 4 next) (little_bytes 4 rank ++ rest) 4 (length-bytes_low_first 0 4 next))
      ∙ little_number-reads_back 4 rank rest rank_fits

-- what is written as free is read as that
module _ (free : Free) (next_fits : free.next < 2 ^ 32) (rank_fits : free.rank < 2 ^ 32) where
  pub free_slot_back : free_said 0xF0 2 (free_slot_bytes free) ≡ Some free
  unfolding free_slot_bytes
  free_slot_back =
      let numbers : List ℕ = little_bytes 4 free.next ++ (little_bytes 4 free.rank ++ replicate 54 0) in
      let next = sym (little_shift 0 2 4 (0xF0 ∷ 0 ∷ numbers)) ∙ first_said free.next free.rank next_fits rank_fits (replicate 54 0) in
      let rank = sym (little_shift 4 2 4 (0xF0 ∷ 0 ∷ numbers)) ∙ second_said free.next free.rank next_fits rank_fits (replicate 54 0) in
      free_slot_is (0xF0 ∷ 0 ∷ numbers) refl ∙ (λ i. Some (record { next = next i; rank = rank i }))

  pub free_page_back : free_said 0xFF 4 (free_page_bytes free) ≡ Some free
  unfolding free_page_bytes
  free_page_back =
      let numbers : List ℕ = little_bytes 4 free.next ++ (little_bytes 4 free.rank ++ replicate 500 0) in
      let next = sym (little_shift 0 4 4 (0xFF ∷ 0 ∷ 0 ∷ 0 ∷ numbers)) ∙ first_said free.next free.rank next_fits rank_fits (replicate 500 0) in
      let rank = sym (little_shift 4 4 4 (0xFF ∷ 0 ∷ 0 ∷ 0 ∷ numbers)) ∙ second_said free.next free.rank next_fits rank_fits (replicate 500 0) in
      free_page_is (0xFF ∷ 0 ∷ 0 ∷ 0 ∷ numbers) refl ∙ (λ i. Some (record { next = next i; rank = rank i }))

-- what the writers' steps leave are these bytes
pub free_slot_written : (free : Free) (copied : List ℕ) → copied ≡ little_bytes 4 free.next ++ little_bytes 4 free.rank
    → 0xF0 ∷ 0 ∷ (copied ++ replicate 54 0) ≡ free_slot_bytes free
unfolding free_slot_bytes
free_slot_written free copied is =
    ap (λ (l : List ℕ). 0xF0 ∷ 0 ∷ (l ++ replicate 54 0)) is ∙ ap (λ (l : List ℕ). 0xF0 ∷ 0 ∷ l) (append_assoc (little_bytes 4 free.next) (little_bytes 4 free.rank) (replicate 54 0))

pub free_page_written : (free : Free) (zeros copied : List ℕ) → zeros ≡ replicate 512 0 → copied ≡ little_bytes 4 free.next ++ little_bytes 4 free.rank
    → take 4 (slice_set zeros 0 255) ++ (copied ++ drop 8 (drop 4 (slice_set zeros 0 255))) ≡ free_page_bytes free
unfolding free_page_bytes
free_page_written free zeros copied none is =
    ap (λ (l : List ℕ). take 4 (slice_set l 0 255) ++ (copied ++ drop 8 (drop 4 (slice_set l 0 255)))) none
    ∙ ap (λ (l : List ℕ). 0xFF ∷ 0 ∷ 0 ∷ 0 ∷ (l ++ replicate 500 0)) is ∙ ap (λ (l : List ℕ). 0xFF ∷ 0 ∷ 0 ∷ 0 ∷ l) (append_assoc (little_bytes 4 free.next) (little_bytes 4 free.rank) (replicate 500 0))

-- there are 64 and 512 of them
pub length-free_slot_bytes : (free : Free) → length (free_slot_bytes free) ≡ 64
unfolding free_slot_bytes
length-free_slot_bytes free =
    omega (arith, length-append (little_bytes 4 free.next) (little_bytes 4 free.rank ++ replicate 54 0), length-append (little_bytes 4 free.rank) (replicate 54 0), length-bytes_low_first 0 4 free.next, length-bytes_low_first 0 4 free.rank)

pub length-free_page_bytes : (free : Free) → length (free_page_bytes free) ≡ 512
unfolding free_page_bytes
length-free_page_bytes free =
    omega (arith, length-append (little_bytes 4 free.next) (little_bytes 4 free.rank ++ replicate 500 0), length-append (little_bytes 4 free.rank) (replicate 500 0), length-bytes_low_first 0 4 free.next, length-bytes_low_first 0 4 free.rank, length-replicate {A = ℕ} 500 0)
