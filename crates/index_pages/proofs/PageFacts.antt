-- The pairs of a page.
use Rattle.std.proofs.Common.{◌≡◌, ℕ, zero, suc, ◌+◌, ◌<◌, ◌≤◌, List, [], ◌∷◌, length, refl, ap, arith}
use Rattle.index_pages.proofs.Rising.{rise_bounds}
use Rattle.index_pages.specs.Page.{pairs_from, pairs_said, count_of, page_pairs}
use Rattle.page_store.specs.Pairs.{Pair, Rise}
use Rattle.record_slots.specs.Places.{page_bytes}

length-pairs_from : (bytes : List ℕ) (i n : ℕ) → length (pairs_from bytes i n) ≡ n
length-pairs_from bytes i zero = refl
length-pairs_from bytes i (suc n) = ap suc (length-pairs_from bytes (i + 1) n)

pub length-page_pairs : (bytes : List ℕ) (page : ℕ) → length (page_pairs bytes page) ≡ count_of bytes page
unfolding pairs_said
length-page_pairs bytes page = length-pairs_from (page_bytes bytes page) 0 (count_of bytes page)

pub rise_wide : (low high : ℕ) (ps : List Pair) → 1 ≤ length ps → Rise low high ps → low < high
rise_wide low high [] some r = absurd (omega arith)
rise_wide low high (p ∷ ps) some r = let h = rise_bounds (suc p.0) high ps r.1 in omega arith

pub no_pairs : (bytes : List ℕ) (page : ℕ) → count_of bytes page ≡ 0 → page_pairs bytes page ≡ []
unfolding pairs_said
no_pairs bytes page none = ap (λ (n : ℕ). pairs_from (page_bytes bytes page) 0 n) none
