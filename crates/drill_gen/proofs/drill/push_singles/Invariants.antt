use Rattle.std.proofs.Common.{◌≡◌, ◌<◌, ◌^◌, ◌++◌, ◌-◌, ◌≤◌, false}
use Rattle.drill_gen.specs.Drill.{in_turn}
use Rattle.drill_gen.proofs.drill.push_singles.Given as goal

-- the script so far and what is left make the whole
abbrev pub invariant-loop-nth : goal.invariant-loop-nth
invariant-loop-nth l = (l.draws.x < 2 ^ 31) × (l._nth ≤ l.count)
    × (l.turns ++ in_turn false l.draws.x (l.count - l._nth) ≡ l.initial.turns ++ in_turn false l.initial.draws.x l.count)
