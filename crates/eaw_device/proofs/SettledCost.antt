-- What a commit costs once what waits of its numbers is written back.
use Rattle.std.proofs.Common.{◌≡◌, ℕ, suc, ◌*◌, ◌+◌, ◌<◌, ◌≤◌, Bool, cond, ◌||◌, nat_eq, nat_lt, inl, inr, List, [], ◌∷◌, length, take, drop, refl, ◌∙◌, ap, arith}
use Rattle.std.proofs.lemmas.Bool.{cases_Bool, ne_eqb}
use Rattle.array_shape.specs.declared.shape.Shape.{Shape}
use Rattle.row_bytes.specs.declared.ballot.Ballot.{Ballot}
use Rattle.write_back.specs.declared.queue.LateCommits.{LateCommits}
use Rattle.write_back.specs.Costs.{calls_back}
use Rattle.write_back.specs.Orders.{due_for, due_for_place, shares}
use Rattle.eaw_device.specs.Costs.{back_cost, commit_cost, group_of, joining_cost, loggers_with, place_cost}

-- nothing more is due
none_due : (group : ℕ) (bs : List Ballot) → due_for group (drop (due_for group bs) bs) ≡ 0
none_due group [] = refl
none_due group (b ∷ bs) = elim (cases_Bool (shares group b || nat_lt 0 (due_for group bs))) [
  | inl on ↦ ap (λ (p : Bool). due_for group (drop (cond p (suc (due_for group bs)) 0) (b ∷ bs))) on ∙ none_due group bs
  | inr off ↦ ap (λ (p : Bool). due_for group (drop (cond p (suc (due_for group bs)) 0) (b ∷ bs))) off ∙ ap (λ (p : Bool). cond p (suc (due_for group bs)) 0) off
]

-- a commit of some range costs at least what waits of its numbers
whole : (shape : Shape) (queue : LateCommits) (ts : List ℕ) (ranges : List (ℕ × ℕ)) → 0 < length ranges → commit_cost shape queue ts ranges ≡ back_cost shape queue (group_of ts) + joining_cost shape queue (group_of ts) (length ts) ranges
whole shape queue ts ranges some = ap (λ (b : Bool). cond b 0 (back_cost shape queue (group_of ts) + joining_cost shape queue (group_of ts) (length ts) ranges)) (ne_eqb (length ranges) 0 (λ none. omega (arith, none, some)))

pub back_within : (shape : Shape) (queue : LateCommits) (ts : List ℕ) (ranges : List (ℕ × ℕ)) → 0 < length ranges → back_cost shape queue (group_of ts) ≤ commit_cost shape queue ts ranges
back_within shape queue ts ranges some = omega (arith, whole shape queue ts ranges some)

module _ (shape : Shape) (queue mid : LateCommits) (ts : List ℕ) (left : mid.ballots.items ≡ drop (due_for (group_of ts) queue.ballots.items) queue.ballots.items) (table : mid.cells ≡ queue.cells) (depth : mid.depth ≡ queue.depth) where
  none_left : due_for (group_of ts) mid.ballots.items ≡ 0
  none_left = ap (due_for (group_of ts)) left ∙ none_due (group_of ts) queue.ballots.items

  back_none : back_cost shape mid (group_of ts) ≡ 0
  back_none = ap (λ (n : ℕ). calls_back shape mid.cells (take n mid.ballots.items)) none_left

  place_same : place_cost shape mid (group_of ts) ≡ place_cost shape queue (group_of ts)
  place_same =
      ap (λ (n : ℕ). let bs = drop n mid.ballots.items in calls_back shape mid.cells (take (due_for_place mid.depth bs) bs)) none_left
      ∙ (λ i. calls_back shape (table i) (take (due_for_place (depth i) (left i)) (left i)))

  joining_same : (n : ℕ) (ranges : List (ℕ × ℕ)) → joining_cost shape mid (group_of ts) n ranges ≡ joining_cost shape queue (group_of ts) n ranges
  joining_same n ranges =
      let rows = n * loggers_with shape ranges in
      (λ i. cond (nat_eq (depth i) 0) (3 * rows + 2 * length ranges + 4) (place_same i + (2 * rows + 2)))

  pub settled_cost : (ranges : List (ℕ × ℕ)) → 0 < length ranges → back_cost shape queue (group_of ts) + commit_cost shape mid ts ranges ≡ commit_cost shape queue ts ranges
  settled_cost ranges some = omega (arith, whole shape mid ts ranges some, whole shape queue ts ranges some, back_none, joining_same (length ts) ranges)
