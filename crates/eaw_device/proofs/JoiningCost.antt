-- What one more commit of a group costs, in words of what waited before it.
use Rattle.std.proofs.Common.{◌≡◌, ℕ, ◌+◌, ◌*◌, ◌<◌, Bool, true, false, cond, ◌||◌, nat_eq, inl, inr, List, [], ◌∷◌, length, take, drop, refl, sym, ◌∙◌, ap, arith}
use Rattle.std.proofs.lemmas.Bool.{and_parts, cases_Bool, eq-eqb, ne_eqb, false≢true}
use Rattle.array_shape.specs.declared.shape.Shape.{Shape}
use Rattle.array_shape.specs.NumberSet.{has}
use Rattle.row_bytes.specs.declared.ballot.Ballot.{Ballot}
use Rattle.row_bytes.specs.Ballots.{has_row}
use Rattle.coordinator.specs.declared.cells.Cells.{Cells}
use Rattle.coordinator.specs.Commits.{IsMaskOf, cells_in, takes_part}
use Rattle.coordinator.specs.Costs.{parts_at, parts_in_all}
use Rattle.write_back.specs.Turns.{has_some}
use Rattle.write_back.specs.declared.queue.LateCommits.{LateCommits}
use Rattle.write_back.specs.Costs.{calls_back, late_calls}
use Rattle.write_back.specs.Orders.{IsFree, due_for, due_for_place}
use Rattle.write_back.proofs.Tying.{free_lacks, lacks_take, or_also}
use Rattle.eaw_device.specs.Costs.{back_cost, commit_cost, group_of, joining_cost, loggers_with, place_cost}
use Rattle.eaw_device.specs.Groups.{group_count}
use Rattle.eaw_device.proofs.Grouping.{commit_is, decide_is, group_rows, takes_some, total_same}

-- commits whose cells are the same cost the same
module _ (shape : Shape) (old new : List Cells) where
  one_same : (b : Ballot) → ((g t : ℕ) → g < shape.loggers → t < shape.numbers → has b.group t ≡ true → cells_in new g t ≡ cells_in old g t) → parts_in_all shape b new ≡ parts_in_all shape b old
  one_same b same = total_same (parts_at shape b new) (parts_at shape b old) shape.numbers (λ t lt'.
      total_same (λ g. cond (has_row b g t) (cells_in new g t).count 0) (λ g. cond (has_row b g t) (cells_in old g t).count 0) shape.loggers (λ g lt. at g t lt lt' (has_row b g t) refl))
    where
      at : (g t : ℕ) → g < shape.loggers → t < shape.numbers → (row : Bool) → has_row b g t ≡ row → cond row (cells_in new g t).count 0 ≡ cond row (cells_in old g t).count 0
      at g t lt lt' true on = ap (λ (x : Cells). x.count) (same g t lt lt' (and_parts (has b.mask g) (has b.group t) on).1)
      at g t lt lt' false on = refl

  back_same : (bs : List Ballot) → ((g t : ℕ) → g < shape.loggers → t < shape.numbers → has_some bs t ≡ true → cells_in new g t ≡ cells_in old g t) → calls_back shape new bs ≡ calls_back shape old bs
  back_same [] same = refl
  back_same (b ∷ bs) same =
      let first = one_same b (λ g t lt lt' so. same g t lt lt' (ap (λ (x : Bool). x || has_some bs t) so)) in
      let rest = back_same bs (λ g t lt lt' so. same g t lt lt' (or_also (has b.group t) (has_some bs t) so)) in
      omega (arith, first, rest)

-- what waits of the group is written back, cells are named for its numbers, and it is committed
module _ (shape : Shape) (group : ℕ) (queue back named : LateCommits) (ballot : Ballot) (left : back.ballots.items ≡ drop (due_for group queue.ballots.items) queue.ballots.items) (table : back.cells ≡ queue.cells) (back_depth : back.depth ≡ queue.depth)
    (same_ballots : named.ballots ≡ back.ballots) (same_depth : named.depth ≡ back.depth) (free : (t : ℕ) → has group t ≡ true → IsFree t back.ballots.items)
    (others : (g t : ℕ) → g < shape.loggers → t < shape.numbers → has group t ≡ false → cells_in named.cells g t ≡ cells_in back.cells g t)
    (group_is : ballot.group ≡ group) (mask : IsMaskOf shape.loggers (takes_part shape named.cells group) ballot.mask) (some : 0 < group_count shape group named.cells) where
  depth_is : named.depth ≡ queue.depth
  depth_is = same_depth ∙ back_depth

  ballots_are : named.ballots.items ≡ drop (due_for group queue.ballots.items) queue.ballots.items
  ballots_are = (λ i. (same_ballots i).items) ∙ left

  not_group : (n t : ℕ) → has_some (take n named.ballots.items) t ≡ true → has group t ≡ false
  not_group n t so = elim (cases_Bool (has group t)) [
    | inl on ↦
        let lacks : has_some named.ballots.items t ≡ false = (λ i. has_some (same_ballots i).items t) ∙ free_lacks back.ballots.items t (free t on) in
        absurd (false≢true (sym (lacks_take n named.ballots.items t lacks) ∙ so))
    | inr off ↦ off
  ]

  place : calls_back shape named.cells (take (due_for_place named.depth named.ballots.items) named.ballots.items) ≡ place_cost shape queue group
  place =
      let n = due_for_place named.depth named.ballots.items in
      back_same shape back.cells named.cells (take n named.ballots.items) (λ g t lt lt' so. others g t lt lt' (not_group n t so))
      ∙ (λ i. calls_back shape (table i) (take (due_for_place (depth_is i) (ballots_are i)) (ballots_are i)))

  joining : (numbers : ℕ) (ranges : List (ℕ × ℕ)) → group_rows shape group named.cells ≡ numbers * loggers_with shape ranges → group_count shape group named.cells ≡ length ranges
      → late_calls shape named.depth named.ballots.items ballot named.cells ≡ joining_cost shape queue group numbers ranges
  joining numbers ranges rows count =
      let takes = takes_some shape group named.cells ballot group_is mask some in
      let at_once = commit_is shape group named.cells ballot group_is mask takes ∙ (λ i. 3 * rows i + 2 * count i + 4) in
      let decided = decide_is shape group named.cells ballot group_is mask ∙ (λ i. 2 * rows i + 2) in
      (λ i. cond (nat_eq (depth_is i) 0) (at_once i) (place i + decided i))

  pub whole_cost : (ts : List ℕ) (ranges : List (ℕ × ℕ)) → group ≡ group_of ts → group_rows shape group named.cells ≡ length ts * loggers_with shape ranges → group_count shape group named.cells ≡ length ranges
      → calls_back shape queue.cells (take (due_for group queue.ballots.items) queue.ballots.items) + late_calls shape named.depth named.ballots.items ballot named.cells ≡ commit_cost shape queue ts ranges
  whole_cost ts ranges is rows count =
      (λ i. back_cost shape queue group + joining (length ts) ranges rows count i)
      ∙ ap (λ (k : ℕ). back_cost shape queue k + joining_cost shape queue k (length ts) ranges) is
      ∙ sym (ap (λ (b : Bool). cond b 0 (back_cost shape queue (group_of ts) + joining_cost shape queue (group_of ts) (length ts) ranges)) (ne_eqb (length ranges) 0 (λ none. omega (arith, none, count, some))))

-- of such a commit the write-back is a part
pub back_part : (shape : Shape) (queue : LateCommits) (group : ℕ) (ts : List ℕ) (ranges : List (ℕ × ℕ)) → group ≡ group_of ts → 0 < length ranges
    → commit_cost shape queue ts ranges ≡ calls_back shape queue.cells (take (due_for group queue.ballots.items) queue.ballots.items) + joining_cost shape queue group (length ts) ranges
back_part shape queue group ts ranges is some =
    ap (λ (b : Bool). cond b 0 (back_cost shape queue (group_of ts) + joining_cost shape queue (group_of ts) (length ts) ranges)) (ne_eqb (length ranges) 0 (λ none. omega (arith, none, some)))
    ∙ ap (λ (k : ℕ). back_cost shape queue k + joining_cost shape queue k (length ts) ranges) (sym is)

-- no range
pub no_cost : (shape : Shape) (queue : LateCommits) (ts : List ℕ) (ranges : List (ℕ × ℕ)) → length ranges ≡ 0 → commit_cost shape queue ts ranges ≡ 0
no_cost shape queue ts ranges none = ap (λ (b : Bool). cond b 0 (back_cost shape queue (group_of ts) + joining_cost shape queue (group_of ts) (length ts) ranges)) (eq-eqb (length ranges) 0 none)
