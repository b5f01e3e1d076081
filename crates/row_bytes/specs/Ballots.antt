-- What the rows of a commit are voted with.
use Rattle.std.specs.Prelude.{ℕ, ◌^◌, Bool, ◌&&◌, nat_eq, if◌then◌else◌}
use Rattle.array_shape.specs.NumberSet.{has}
use Rattle.row_bytes.specs.declared.ballot.Ballot.{Ballot}
use Rattle.row_bytes.specs.declared.row.Row.{Row}

-- what the row of number t is voted with: group 0 stands for t alone
abbrev pub ballot_of : ℕ → Row → Ballot
ballot_of t row = record { mask = row.mask; group = if nat_eq row.group 0 then 2 ^ t else row.group; order = row.order }

-- the row of number t at logger g is one of the commit's
abbrev pub has_row : Ballot → ℕ → ℕ → Bool
has_row ballot g t = has ballot.mask g && has ballot.group t

abbrev pub same_ballot : Ballot → Ballot → Bool
same_ballot a b = nat_eq a.mask b.mask && nat_eq a.group b.group && nat_eq a.order b.order

-- how a row of number t says its group
abbrev pub group_bytes : ℕ → ℕ → ℕ
group_bytes t group = if nat_eq group (2 ^ t) then 0 else group
