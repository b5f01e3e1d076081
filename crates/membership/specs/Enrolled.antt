-- Users under their groups: `main` has for each user the number of the group, and the second table has each pair of group and user.
use Rattle.std.specs.Prelude.{ℕ, ◌≡◌, ◌+◌, ◌*◌, ◌^◌, ◌<◌, ◌++◌, List, take, Some, None, decimal, IsSome}
use Rattle.std.specs.FinMap.{get, insert}
use Rattle.history.specs.Key.{of_main, of_table}
use Rattle.history.specs.Legal.{records}
use Rattle.history.specs.Writes.{Table}
use Rattle.caller_steps.specs.State.{State}

-- the key of a pair in the second table
abbrev pub pair_key : ℕ → ℕ → ℕ
pair_key group user = group * 2 ^ 32 + user

-- a user who had no group has this one, both tables say so, and no other record changed
pub record Enrolls (groups : List ℕ) (user group : ℕ) (old new : Table) : Type 0 where
  pub had_none : get old (of_main user) ≡ None
  pub becomes : new ≡ insert (insert old (of_main user) (decimal group)) (of_table groups (pair_key group user)) (decimal 1)

-- the user has a group already
abbrev pub IsTaken : ℕ → Table → Type 0
IsTaken user table = IsSome (get table (of_main user))

-- both tables say the same: who has a group is listed under it, and who is listed under a group has it
pub record AreInStep (groups : List ℕ) (table : Table) : Type 0 where
  pub listed : (user group : ℕ) → user < 2 ^ 32 → group < 2 ^ 32 → get table (of_main user) ≡ Some (decimal group) → get table (of_table groups (pair_key group user)) ≡ Some (decimal 1)
  pub has : (user group : ℕ) → user < 2 ^ 32 → group < 2 ^ 32 → IsSome (get table (of_table groups (pair_key group user))) → get table (of_main user) ≡ Some (decimal group)

-- so they do after each first part of the history, also with what is in doubt
abbrev pub StaysInStep : List ℕ → State → Type 0
StaysInStep groups state = (count : ℕ) → AreInStep groups (records state.base (take count (state.history ++ state.doubt)))
