-- What a page says, pair by pair.
use Rattle.std.proofs.Common.{◌≡◌, ℕ, suc, ◌+◌, ◌-◌, ◌*◌, ◌<◌, ◌≤◌, true, false, List, [], ◌∷◌, take, drop, Some, refl, ◌∙◌, ap, arith}
use Rattle.std.specs.Prelude.{slice_index, nat_le}
use Rattle.std.proofs.lemmas.Bool.Decides.{nat_tests}
use Rattle.byteorder.specs.Endian.{little_from}
use Rattle.byteorder.specs.Numbers.{little_from-take}
use Rattle.record_slots.proofs.SlotLemmas.{little_shift}
use Rattle.page_store.specs.Pairs.{Pair, next}
use Rattle.index_pages.specs.Page.{kind_said, level_said, count_said, link_said, pair_said, pairs_from, pairs_said}
use Rattle.index_pages.specs.Written.{IsKind, IsPage, SaysHead}

-- a number of n bytes at the front of a piece
pub piece : (i n m : ℕ) (xs : List ℕ) → n ≤ m → little_from 0 n (take m (drop i xs)) ≡ little_from i n xs
piece i n m xs le =
    let e : i + 0 ≡ i = omega arith in
    little_from-take 0 n m (drop i xs) (omega arith) ∙ little_shift 0 i n xs ∙ ap (λ (j : ℕ). little_from j n xs) e

pub count_is : (page : List ℕ) (n : ℕ) → n ≡ little_from 2 2 page → n ≡ count_said page
unfolding count_said
count_is page n e = e

pub pair_is : (page : List ℕ) (i a b : ℕ) → a ≡ little_from (8 + 16 * i) 8 page → b ≡ little_from (16 + 16 * i) 8 page → ◌≡◌ {A = ℕ × ℕ} (a, b) (pair_said page i)
unfolding pair_said
pair_is page i a b e f = cc

-- the head of a page, and what is no page
module _ (page : List ℕ) where
  pub kind_is : (n : ℕ) → slice_index page 0 ≡ n → kind_said page ≡ n
  unfolding kind_said
  kind_is n e = e

  pub level_is : (n : ℕ) → slice_index page 1 ≡ n → level_said page ≡ n
  unfolding level_said
  level_is n e = e

  pub says_head : (count link : ℕ) → count ≤ 30 → IsKind (slice_index page 0) (slice_index page 1)
      → count ≡ little_from 0 2 (take 510 (drop 2 page)) → link ≡ little_from 0 4 (take 508 (drop 4 page)) → SaysHead page (record { level = slice_index page 1; count = count; link = link })
  unfolding kind_said level_said count_said link_said
  says_head count link most kind c l =
      let count_e : count ≡ little_from 2 2 page = c ∙ piece 2 2 510 page (omega arith) in
      record {
        page = record { kind_is = kind; most = omega (arith, count_e) };
        level = refl;
        count = count_e;
        link = l ∙ piece 4 4 508 page (omega arith);
      }

  pub other_kind : ¬ IsKind (slice_index page 0) (slice_index page 1) → ¬ IsPage page
  unfolding kind_said level_said
  other_kind other is = other is.kind_is

  pub too_many : (count : ℕ) → 30 < count → count ≡ little_from 0 2 (take 510 (drop 2 page)) → ¬ IsPage page
  unfolding count_said
  too_many count many c is = let e : count ≡ little_from 2 2 page = c ∙ piece 2 2 510 page (omega arith) in omega (arith, is.most, e)

pub from_first : (page : List ℕ) → pairs_said page ≡ pairs_from page 0 (count_said page)
unfolding pairs_said
from_first page = refl

pub from_step : (page : List ℕ) (i n : ℕ) → i < n → pairs_from page i (n - i) ≡ pair_said page i ∷ pairs_from page (suc i) (n - suc i)
from_step page i n lt =
    ap (λ (m : ℕ). pairs_from page i m) (let e : n - i ≡ suc (n - suc i) = omega arith in e)
    ∙ ap (λ (j : ℕ). pair_said page i ∷ pairs_from page j (n - suc i)) (let e : i + 1 ≡ suc i = omega arith in e)

pub from_end : (page : List ℕ) (i n : ℕ) → n ≤ i → pairs_from page i (n - i) ≡ []
from_end page i n le = ap (λ (m : ℕ). pairs_from page i m) (let e : n - i ≡ 0 = omega arith in e)

pub next_here : (page : List ℕ) (i n from : ℕ) → i < n → from ≤ (pair_said page i).0 → next (pairs_from page i (n - i)) from ≡ Some (pair_said page i)
next_here page i n from lt e = let b : nat_le from (pair_said page i).0 ≡ true = grind (arith, nat_tests) in ap (λ (ps : List Pair). next ps from) (from_step page i n lt) ∙ (rw b refl)

pub next_later : (page : List ℕ) (i n from : ℕ) → i < n → (pair_said page i).0 < from → next (pairs_from page i (n - i)) from ≡ next (pairs_from page (suc i) (n - suc i)) from
next_later page i n from lt e = let b : nat_le from (pair_said page i).0 ≡ false = grind (arith, nat_tests) in ap (λ (ps : List Pair). next ps from) (from_step page i n lt) ∙ (rw b refl)
