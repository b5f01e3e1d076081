-- Levels, changes that are local to a key, and data that keeps what an index rests on.
use Rattle.std.specs.Prelude.{ℕ, zero, suc, ◌≡◌, ◌≢◌, ◌<◌, ◌≤◌, List, ◌++◌, length}
use Rattle.page_store.specs.Pairs.{Pair, Rise}
use Rattle.record_slots.specs.Places.{next_slot, next_page, Carries}

-- d levels above level m
abbrev pub above : ℕ → ℕ → ℕ
above zero m = m
above (suc d) m = suc (above d m)

-- no given page or slot is taken back, and each given slot still carries its key
pub record Keeps (old new : List ℕ) : Type 0 where
  pub pages : next_page old ≤ next_page new
  pub slots : next_slot old ≤ next_slot new
  pub carried : (table : ℕ) (p : Pair) → p.1 < next_slot old → Carries old table p → Carries new table p

-- no given page or slot is taken back, and each given slot that carries a key still carries it, but for one slot
pub record KeepsBut (slot : ℕ) (old new : List ℕ) : Type 0 where
  pub size : length new ≡ length old
  pub pages : next_page old ≤ next_page new
  pub slots : next_slot old ≤ next_slot new
  pub carried : (table : ℕ) (p : Pair) → p.1 ≢ slot → p.1 < next_slot old → Carries old table p → Carries new table p

-- A change is local to a key: of a list of two halves it changes the half in whose range the key lies. So what is done to the pairs
-- below a page on the key's way is done to all pairs.
pub record IsLocal (key : ℕ) (change : List Pair → List Pair) : Type 0 where
  pub left : (mid high : ℕ) (xs ys : List Pair) → Rise mid high ys → key < mid → change (xs ++ ys) ≡ change xs ++ ys
  pub right : (low mid : ℕ) (xs ys : List Pair) → Rise low mid xs → mid ≤ key → change (xs ++ ys) ≡ xs ++ change ys

-- a page of the index: page 1, or another that is given
abbrev pub IsOwn : List ℕ → ℕ → Type 0
IsOwn bytes x = (1 ≤ x) × (x < next_page bytes)
