use Rattle.std.proofs.Common.{◌≡◌, ◌<◌, ◌^◌, ◌++◌, ◌-◌, ◌*◌, ◌≤◌, true}
use Rattle.drill_gen.specs.Drill.{in_turn}
use Rattle.drill_gen.proofs.drill.push_pairs.Given as goal

-- the script so far and what is left make the whole
abbrev pub invariant-loop-nth : goal.invariant-loop-nth
invariant-loop-nth l = (l.draws.x < 2 ^ 31) × (2 * l._nth ≤ l.count)
    × (l.turns ++ in_turn true l.draws.x (l.count - 2 * l._nth) ≡ l.initial.turns ++ in_turn true l.initial.draws.x l.count)
