-- Loops over the numbers or the loggers of a ballot: what lies between two of them has no row.
use Rattle.std.proofs.Common.{◌≡◌, ℕ, zero, suc, ◌+◌, ◌-◌, ◌^◌, ◌<◌, ◌≤◌, inl, inr, Bool, true, false, ◌&&◌, List, [], ◌∷◌, sym, ◌∙◌, ap, arith}
use Rattle.std.proofs.lemmas.Bool.{cases_lt, and_left, eqb-true, false≢true}
use Rattle.std.specs.Int.{bit_at}
use Rattle.std.proofs.lemmas.Nat.Bits.{bit_at_above}
use Rattle.array_shape.specs.declared.shape.Shape.{Shape}
use Rattle.array_shape.specs.NumberSet.{has, numbers_from}
use Rattle.array_shape.proofs.Sets.{IsNext, next_left, none_left}
use Rattle.row_bytes.specs.declared.ballot.Ballot.{Ballot}
use Rattle.row_bytes.specs.Ballots.{has_row}
use Rattle.array_image.specs.Joined.{joined}
use Rattle.array_image.proofs.Joined.{joined_past}
use Rattle.coordinator.specs.Costs.{total}
use Rattle.coordinator.proofs.Costing.{total_more}

-- those of n numbers that a set has from one number on are left
pub record AreLeft (n bits from : ℕ) (left : List ℕ) : Type 0 where
  pub most : from ≤ n
  pub left_is : left ≡ numbers_from bits from (64 - from)

module _ (n bits : ℕ) (few : n ≤ 64) (small : bits < 2 ^ n) where
  member_below : (t : ℕ) → has bits t ≡ true → t < n
  member_below t is = elim (cases_lt t n) [
    | inl lt ↦ lt
    | inr le ↦ absurd (omega (arith, eqb-true (bit_at bits t) 1 is, bit_at_above bits n t small le))
  ]

  pub all_left : (left : List ℕ) → left ≡ numbers_from bits 0 64 → AreLeft n bits 0 left
  all_left left is = record { most = omega arith; left_is = is }

  module _ (from : ℕ) (left : List ℕ) (are : AreLeft n bits from left) where
    pub next_of : (tid : ℕ) (rest : List ℕ) → left ≡ tid ∷ rest → IsNext bits from tid rest
    next_of tid rest next = next_left bits from (omega (arith, are.most)) left tid rest are.left_is next

    pub next_below : (tid : ℕ) (rest : List ℕ) → left ≡ tid ∷ rest → tid < n
    next_below tid rest next = member_below tid (next_of tid rest next).here

    pub rest_left : (tid : ℕ) (rest : List ℕ) → left ≡ tid ∷ rest → AreLeft n bits (tid + 1) rest
    rest_left tid rest next = record { most = omega (arith, next_below tid rest next); left_is = (next_of tid rest next).rest_is }

    pub none_more : left ≡ [] → (u : ℕ) → from ≤ u → u < n → has bits u ≡ false
    none_more none u past below = none_left bits from (omega (arith, are.most)) left are.left_is none u past (omega arith)

-- a sum, a joined list and what holds of each, over numbers that have nothing
total_by : (f : ℕ → ℕ) (from k : ℕ) → ((u : ℕ) → from ≤ u → u < from + k → f u ≡ 0) → total f (from + k) ≡ total f from
total_by f from zero none = ap (total f) (let same : from + 0 ≡ from = omega arith in same)
total_by f from (suc k) none =
    let next : from + suc k ≡ from + k + 1 = omega arith in
    ap (total f) next ∙ omega (arith, total_more f (from + k), none (from + k) (omega arith) (omega arith), total_by f from k (λ u past below. none u past (omega arith)))

module _ (from to : ℕ) (le : from ≤ to) where
  far : to ≡ from + (to - from)
  far = omega arith

  pub total_past : (f : ℕ → ℕ) → ((u : ℕ) → from ≤ u → u < to → f u ≡ 0) → total f to ≡ total f from
  total_past f none = ap (total f) far ∙ total_by f from (to - from) (λ u past below. none u past (omega arith))

  pub list_past : {A : Type 0} (f : ℕ → List A) → ((u : ℕ) → from ≤ u → u < to → f u ≡ []) → joined f 0 to ≡ joined f 0 from
  list_past f none = ap (joined f 0) far ∙ joined_past f from (to - from) (λ u past below. none u past (omega arith))

  pub each_past : (test : ℕ → Bool) (P : ℕ → Type 0) → ((u : ℕ) → from ≤ u → u < to → test u ≡ false) → ((u : ℕ) → u < from → test u ≡ true → P u) → (u : ℕ) → u < to → test u ≡ true → P u
  each_past test P none before u lt is = elim (cases_lt u from) [
    | inl small ↦ before u small is
    | inr past ↦ absurd (false≢true (sym (none u past lt) ∙ is))
  ]

-- the loop over the loggers of a ballot's mask, for one number of its group
module _ (shape : Shape) (ballot : Ballot) (small : ballot.mask < 2 ^ shape.loggers) (t from : ℕ) (left : List ℕ) (are : AreLeft shape.loggers ballot.mask from left) where
  no_row_at : (u : ℕ) → has ballot.mask u ≡ false → has_row ballot u t ≡ false
  no_row_at u none = and_left (has ballot.mask u) (has ballot.group t) none

  module _ (g : ℕ) (rest : List ℕ) (next : left ≡ g ∷ rest) where
    pub row_here : has ballot.group t ≡ true → has_row ballot g t ≡ true
    row_here in_group = (λ i. (next_of shape.loggers ballot.mask (omega arith) small from left are g rest next).here i && in_group i)

    pub rows_between : (u : ℕ) → from ≤ u → u < g → has_row ballot u t ≡ false
    rows_between u past below = no_row_at u ((next_of shape.loggers ballot.mask (omega arith) small from left are g rest next).none u past below)

    pub row_reached : from ≤ g
    row_reached = (next_of shape.loggers ballot.mask (omega arith) small from left are g rest next).reached

    pub row_below : g < shape.loggers
    row_below = next_below shape.loggers ballot.mask (omega arith) small from left are g rest next

    pub rows_left : AreLeft shape.loggers ballot.mask (g + 1) rest
    rows_left = rest_left shape.loggers ballot.mask (omega arith) small from left are g rest next

  pub rows_behind : left ≡ [] → (u : ℕ) → from ≤ u → u < shape.loggers → has_row ballot u t ≡ false
  rows_behind none u past below = no_row_at u (none_more shape.loggers ballot.mask (omega arith) small from left are none u past below)

-- the loop over the numbers of its group
module _ (shape : Shape) (ballot : Ballot) (small : ballot.group < 2 ^ shape.numbers) (from : ℕ) (left : List ℕ) (are : AreLeft shape.numbers ballot.group from left) where
  module _ (t : ℕ) (rest : List ℕ) (next : left ≡ t ∷ rest) where
    pub number_here : has ballot.group t ≡ true
    number_here = (next_of shape.numbers ballot.group (omega arith) small from left are t rest next).here

    pub numbers_between : (u : ℕ) → from ≤ u → u < t → has ballot.group u ≡ false
    numbers_between = (next_of shape.numbers ballot.group (omega arith) small from left are t rest next).none

    pub number_reached : from ≤ t
    number_reached = (next_of shape.numbers ballot.group (omega arith) small from left are t rest next).reached

    pub number_below : t < shape.numbers
    number_below = next_below shape.numbers ballot.group (omega arith) small from left are t rest next

    pub numbers_left : AreLeft shape.numbers ballot.group (t + 1) rest
    numbers_left = rest_left shape.numbers ballot.group (omega arith) small from left are t rest next

  pub numbers_behind : left ≡ [] → (u : ℕ) → from ≤ u → u < shape.numbers → has ballot.group u ≡ false
  numbers_behind none = none_more shape.numbers ballot.group (omega arith) small from left are none
