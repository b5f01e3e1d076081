-- The commit of a group, as its ballot and its table of cells name it.
use Rattle.std.proofs.Common.{◌≡◌, ◌≢◌, ℕ, zero, suc, ◌+◌, ◌*◌, ◌^◌, ◌<◌, Bool, true, false, not, cond, ◌&&◌, nat_eq, inl, inr, ⊎_elim, List, [], length, refl, sym, ◌∙◌, ap, subst, arith}
use Rattle.std.specs.Prelude.{nat_lt}
use Rattle.std.specs.List.{range_with_len}
use Rattle.std.proofs.lemmas.Bool.{and_parts, cases_Bool, cases_eq, ne_eqb, lt-ltb, false≢true}
use Rattle.std.proofs.lemmas.Nat.Bits.{bit_at-zero}
use Rattle.std.proofs.lemmas.List.FromFn.{sum_by-map-range_with_len_more}
use Rattle.array_shape.specs.declared.shape.Shape.{Shape}
use Rattle.array_shape.specs.Places.{media_len, data_len}
use Rattle.array_shape.specs.Logged.{Part, applied, AllOwned, AllPlaced, parts_at}
use Rattle.row_bytes.specs.declared.ballot.Ballot.{Ballot}
use Rattle.array_shape.specs.NumberSet.{has}
use Rattle.row_bytes.specs.Ballots.{has_row}
use Rattle.array_image.specs.Joined.{joined}
use Rattle.array_image.specs.Image.{parts_from}
use Rattle.array_image.proofs.Data.{all_placed, joined_placed}
use Rattle.array_image.proofs.Joined.{joined_same}
use Rattle.array_image.proofs.Orders.{applied_any_order, parts_at-joined, parts_at_each}
use Rattle.array_image.proofs.Rows.{parts_owned}
use Rattle.array_image.proofs.Deciding.{all_at, all_from, none_from, any_is}
use Rattle.commit_queue.specs.Deferred.{any_below}
use Rattle.coordinator.specs.declared.cells.Cells.{Cells}
use Rattle.coordinator.specs.Commits.{cells_in, takes_part, parts_named, IsMaskOf, AreThere, AreGood}
use Rattle.coordinator.specs.Costs.{total, decide_calls, write_back_calls, commit_calls}
use Rattle.write_back.specs.declared.entry.Entry.{Entry}
use Rattle.write_back.specs.Tied.{HasNamed}
use Rattle.eaw_device.specs.Groups.{HaveCells, HaveEntries, HaveParts, group_count}

-- the parts in the cells of number t at logger g, if the group has the number
abbrev pub cell_parts : Shape → List ℕ → ℕ → List Cells → ℕ → ℕ → List Part
cell_parts shape image group cells t g = cond (has group t) (parts_from shape image g t (cells_in cells g t).first (cells_in cells g t).count) []

-- those of all numbers and loggers, by rising number, then logger
abbrev pub group_parts : Shape → List ℕ → ℕ → List Cells → List Part
group_parts shape image group cells = joined (λ t. joined (cell_parts shape image group cells t) 0 shape.loggers) 0 shape.numbers

-- how many rows the commit of a group has: one for each number at each logger at which one of them has a cell
abbrev pub group_rows : Shape → ℕ → List Cells → ℕ
group_rows shape group cells = total (λ t. total (λ g. cond (takes_part shape cells group g && has group t) 1 0) shape.loggers) shape.numbers

-- sums over the numbers below one
pub total_more : (f : ℕ → ℕ) (n : ℕ) → total f (suc n) ≡ total f n + f n
total_more f n =
    let one : suc n ≡ n + 1 = omega arith in
    ap (total f) one ∙ sum_by-map-range_with_len_more (λ (k : ℕ). k) f 0 n n (omega arith)

pub total_same : (f h : ℕ → ℕ) (n : ℕ) → ((k : ℕ) → k < n → f k ≡ h k) → total f n ≡ total h n
total_same f h zero same = refl
total_same f h (suc n) same = omega (arith, total_more f n, total_more h n, total_same f h n (λ k lt. same k (omega arith)), same n (omega arith))

pub total_zero : (f : ℕ → ℕ) (n : ℕ) → ((k : ℕ) → k < n → f k ≡ 0) → total f n ≡ 0
total_zero f zero none = refl
total_zero f (suc n) none = omega (arith, total_more f n, total_zero f n (λ k lt. none k (omega arith)), none n (omega arith))

pub total_none : (f : ℕ → ℕ) (n : ℕ) → total f n ≡ 0 → (k : ℕ) → k < n → f k ≡ 0
total_none f zero is k lt = absurd (omega arith)
total_none f (suc n) is k lt = elim (cases_eq k n) [
  | inl same ↦ ap f same ∙ omega (arith, total_more f n, is)
  | inr ne ↦ total_none f n (omega (arith, total_more f n, is)) k (omega arith)
]

-- all but one are zero
pub total_one : (f : ℕ → ℕ) (n only : ℕ) → only < n → ((k : ℕ) → k < n → k ≢ only → f k ≡ 0) → total f n ≡ f only
total_one f zero only lt none = absurd (omega arith)
total_one f (suc n) only lt none = elim (cases_eq n only) [
  | inl same ↦ omega (arith, total_more f n, total_zero f n (λ k below. none k (omega arith) (λ is. omega arith)), ap f same)
  | inr ne ↦ omega (arith, total_more f n, none n (omega arith) ne, total_one f n only (omega arith) (λ k below. none k (omega arith)))
]

unset : (b : Bool) → not b ≡ true → b ≡ false
unset true is = absurd (false≢true is)
unset false is = refl

unnegated : (b : Bool) → not b ≡ false → b ≡ true
unnegated true is = refl
unnegated false is = absurd (false≢true (sym is))

-- a test that holds for no number holds not for one of them
pub none_at : (n : ℕ) (p : ℕ → Bool) → any_below n p ≡ false → (k : ℕ) → k < n → p k ≡ false
none_at n p none k lt = unset (p k) (all_at n (λ i. not (p i)) (unnegated _ (sym (any_is p (range_with_len 0 n)) ∙ none)) k lt)

pub any_none : (n : ℕ) (p : ℕ → Bool) → ((k : ℕ) → k < n → p k ≡ false) → any_below n p ≡ false
any_none n p none = any_is p (range_with_len 0 n) ∙ ap not (all_from n (λ i. not (p i)) (λ k lt. ap not (none k lt)))

pub any_some : (n : ℕ) (p : ℕ → Bool) (k : ℕ) → k < n → p k ≡ true → any_below n p ≡ true
any_some n p k lt so = any_is p (range_with_len 0 n) ∙ ap not (none_from n (λ i. not (p i)) k lt (ap not so))

no_more : (in_group : Bool) (count : ℕ) → in_group ≡ true → (in_group && nat_lt 0 count) ≡ false → count ≡ 0
no_more true zero so none = refl
no_more true (suc count) so none = absurd (false≢true (sym none ∙ lt-ltb 0 (suc count) (omega arith)))
no_more false count so none = absurd (false≢true so)

module _ (shape : Shape) (group : ℕ) (cells : List Cells) (ballot : Ballot) (group_is : ballot.group ≡ group) (is : IsMaskOf shape.loggers (takes_part shape cells group) ballot.mask) where
  -- at a logger that takes no part no number has a cell
  pub no_cell : (g t : ℕ) → g < shape.loggers → t < shape.numbers → has group t ≡ true → has ballot.mask g ≡ false → (cells_in cells g t).count ≡ 0
  no_cell g t lt lt' so away = no_more (has group t) (cells_in cells g t).count so (none_at shape.numbers (λ u. has group u && nat_lt 0 (cells_in cells g u).count) (sym (is.is g lt) ∙ away) t lt')

  named_here : (image : List ℕ) (g t : ℕ) → g < shape.loggers → t < shape.numbers → (takes in_group : Bool) → has ballot.mask g ≡ takes → has group t ≡ in_group
      → cond (takes && in_group) (parts_from shape image g t (cells_in cells g t).first (cells_in cells g t).count) [] ≡ cond in_group (parts_from shape image g t (cells_in cells g t).first (cells_in cells g t).count) []
  named_here image g t lt lt' true in_group on so = refl
  named_here image g t lt lt' false true off so = sym (ap (parts_from shape image g t (cells_in cells g t).first) (no_cell g t lt lt' so off))
  named_here image g t lt lt' false false off so = refl

  -- what the ballot's rows name is what the group's numbers have
  pub named_same : (image : List ℕ) → parts_named shape image ballot cells ≡ group_parts shape image group cells
  named_same image =
      joined_same _ (λ t. joined (cell_parts shape image group cells t) 0 shape.loggers) 0 shape.numbers (λ t from lt'.
      joined_same _ (cell_parts shape image group cells t) 0 shape.loggers (λ g from' lt.
      ap (λ (k : ℕ). cond (has ballot.mask g && has k t) (parts_from shape image g t (cells_in cells g t).first (cells_in cells g t).count) []) group_is
      ∙ named_here image g t (omega arith) (omega arith) (has ballot.mask g) (has group t) refl refl))

  pub are_there : group < 2 ^ shape.numbers → HaveCells shape group cells → AreThere shape ballot cells
  are_there small fit = record {
    small_mask = is.small;
    small_group = subst (λ (k : ℕ). k < 2 ^ shape.numbers) (sym group_is) small;
    fit = λ g t lt lt' so. fit g t lt lt' (ap (λ (k : ℕ). has k t) (sym group_is) ∙ (and_parts (has ballot.mask g) (has ballot.group t) so).1);
  }

  pub are_good : (image : List ℕ) → HaveParts shape image group cells → AreGood shape image ballot cells
  are_good image good g t e lt lt' so from below = good g t e lt lt' (ap (λ (k : ℕ). has k t) (sym group_is) ∙ (and_parts (has ballot.mask g) (has ballot.group t) so).1) from below

  -- its calls
  counted : (g t : ℕ) → g < shape.loggers → t < shape.numbers → (takes in_group : Bool) → has ballot.mask g ≡ takes → has group t ≡ in_group
      → cond (takes && in_group) (cells_in cells g t).count 0 ≡ cond in_group (cells_in cells g t).count 0
  counted g t lt lt' true in_group on so = refl
  counted g t lt lt' false true off so = sym (no_cell g t lt lt' so off)
  counted g t lt lt' false false off so = refl

  count_is : total (λ t. total (λ g. cond (has_row ballot g t) (cells_in cells g t).count 0) shape.loggers) shape.numbers ≡ group_count shape group cells
  count_is = total_same _ (λ t. total (λ g. cond (has group t) (cells_in cells g t).count 0) shape.loggers) shape.numbers (λ t lt'. total_same _ (λ g. cond (has group t) (cells_in cells g t).count 0) shape.loggers (λ g lt.
      ap (λ (k : ℕ). cond (has ballot.mask g && has k t) (cells_in cells g t).count 0) group_is ∙ counted g t lt lt' (has ballot.mask g) (has group t) refl refl))

  rows_are : total (λ t. total (λ g. cond (has_row ballot g t) 1 0) shape.loggers) shape.numbers ≡ group_rows shape group cells
  rows_are = total_same _ (λ t. total (λ g. cond (takes_part shape cells group g && has group t) 1 0) shape.loggers) shape.numbers (λ t lt'. total_same _ (λ g. cond (takes_part shape cells group g && has group t) 1 0) shape.loggers (λ g lt.
      (λ i. cond (is.is g lt i && has (group_is i) t) 1 0)))

  -- if a number has a cell, a logger takes part
  pub takes_some : 0 < group_count shape group cells → ballot.mask ≢ 0
  takes_some some zero_mask = omega (arith, some, total_zero _ shape.numbers (λ t lt'. total_zero _ shape.loggers (λ g lt. nothing g t lt lt' (has group t) refl)))
    where
      nothing : (g t : ℕ) → g < shape.loggers → t < shape.numbers → (in_group : Bool) → has group t ≡ in_group → cond in_group (cells_in cells g t).count 0 ≡ 0
      nothing g t lt lt' true so = no_cell g t lt lt' so (ap (λ (m : ℕ). has m g) zero_mask ∙ ap (λ (b : ℕ). nat_eq b 1) (bit_at-zero g))
      nothing g t lt lt' false so = refl

  -- and the group has a number
  pub some_number : 0 < group_count shape group cells → 0 < ballot.group
  some_number some = elim (cases_eq group 0) [
    | inl zero_is ↦ absurd (omega (arith, some, total_zero _ shape.numbers (λ t lt'. total_zero _ shape.loggers (λ g lt. no_one g t zero_is))))
    | inr ne ↦ omega (arith, ne, group_is)
  ]
    where
      no_one : (g t : ℕ) → group ≡ 0 → cond (has group t) (cells_in cells g t).count 0 ≡ 0
      no_one g t zero_is = ap (λ (b : Bool). cond b (cells_in cells g t).count 0) (ap (λ (k : ℕ). has k t) zero_is ∙ ap (λ (b : ℕ). nat_eq b 1) (bit_at-zero t))

  pub decide_is : decide_calls shape ballot ≡ 2 * group_rows shape group cells + 2
  decide_is = omega (arith, rows_are)

  pub commit_is : ballot.mask ≢ 0 → commit_calls shape ballot cells ≡ 3 * group_rows shape group cells + 2 * group_count shape group cells + 4
  commit_is takes =
      let same : decide_calls shape ballot + write_back_calls shape ballot cells ≡ 3 * group_rows shape group cells + 2 * group_count shape group cells + 4 = omega (arith, count_is, rows_are) in
      ap (λ (b : Bool). cond b 0 (decide_calls shape ballot + write_back_calls shape ballot cells)) (ne_eqb ballot.mask 0 takes) ∙ same

  -- the entries of its numbers are those of its rows
  pub has_named : (entries : ℕ → List Entry) → HaveEntries shape group cells entries → HasNamed shape cells entries ballot
  has_named entries its g t lt lt' so = its g t lt lt' on ∙ row (has ballot.mask g) refl
    where
      on : has group t ≡ true
      on = ap (λ (k : ℕ). has k t) (sym group_is) ∙ so

      row : (takes : Bool) → has ballot.mask g ≡ takes → range_with_len (cells_in cells g t).first (cells_in cells g t).count ≡ cond (takes && has ballot.group t) (range_with_len (cells_in cells g t).first (cells_in cells g t).count) []
      row true is = sym (ap (λ (b : Bool). cond b (range_with_len (cells_in cells g t).first (cells_in cells g t).count) []) so)
      row false is = ap (range_with_len (cells_in cells g t).first) (no_cell g t lt lt' on is)

-- If each number's list has at each logger just the parts in its cells, the lists by rising number give the same data.
pub lists_in_turn : (shape : Shape) (image : List ℕ) (group : ℕ) (cells : List Cells) (lists : ℕ → List Part) (d : List ℕ) → length image ≡ media_len shape → HaveCells shape group cells → HaveParts shape image group cells → length d ≡ data_len shape
    → ((t : ℕ) → t < shape.numbers → AllPlaced shape (lists t)) → ((g t : ℕ) → g < shape.loggers → t < shape.numbers → parts_at shape g (lists t) ≡ cell_parts shape image group cells t g)
    → applied (group_parts shape image group cells) d ≡ applied (joined lists 0 shape.numbers) d
lists_in_turn shape image group cells lists d long fit good d_long placed same =
    applied_any_order shape (group_parts shape image group cells) (joined lists 0 shape.numbers) d d_long
    (joined_placed shape (λ t. joined (cell_parts shape image group cells t) 0 shape.loggers) 0 shape.numbers (λ t le lt'. joined_placed shape (cell_parts shape image group cells t) 0 shape.loggers (λ g le' lt. all_placed shape g _ (own g t (omega arith) (omega arith)))))
    (joined_placed shape lists 0 shape.numbers (λ t le lt. placed t (omega arith))) (λ g lt.
    parts_at_each shape g (λ t. joined (cell_parts shape image group cells t) 0 shape.loggers) 0 shape.numbers
    ∙ joined_same (λ t. parts_at shape g (joined (cell_parts shape image group cells t) 0 shape.loggers)) (λ t. parts_at shape g (lists t)) 0 shape.numbers (λ t le lt'.
    parts_at-joined shape (cell_parts shape image group cells t) 0 shape.loggers (λ h le' below. own h t (omega arith) (omega arith)) g (omega arith) (omega arith) ∙ sym (same g t lt (omega arith)))
    ∙ sym (parts_at_each shape g lists 0 shape.numbers))
  where
    own : (h t : ℕ) → h < shape.loggers → t < shape.numbers → AllOwned shape h (cell_parts shape image group cells t h)
    own h t lt lt' = ⊎_elim
        (λ so. subst (λ b. AllOwned shape h (cond b (parts_from shape image h t (cells_in cells h t).first (cells_in cells h t).count) [])) (sym so)
        (parts_owned shape image h t (cells_in cells h t).first (cells_in cells h t).count long lt lt' (fit h t lt lt' so) (λ e from below. good h t e lt lt' so from below)))
        (λ off. subst (λ b. AllOwned shape h (cond b (parts_from shape image h t (cells_in cells h t).first (cells_in cells h t).count) [])) (sym off) tt)
        (cases_Bool (has group t))
